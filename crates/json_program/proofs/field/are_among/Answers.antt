use Rattle.std.proofs.Common.{sym, ap, ◌∙◌, ◌&&◌}
use Rattle.serde_json.specs.View.{members_view}
use Rattle.json_program.specs.Json.{are_among}
use Rattle.json_program.proofs.Members.{bytes_of, are_among-member}
use Rattle.json_program.proofs.field.are_among.Goals as goal

pub returns-then-not-contains : goal.returns-then-not-contains
returns-then-not-contains c =
    let names = c.args.names.now in
    let left = c.next.new.self in
    sym (c.loop-key.invariant ∙ ap (λ es. are_among (bytes_of names) (members_view es)) c.in-Some.ensures.steps
    ∙ are_among-member names (c.in-Some.key.now, c.in-Some.field-0-1.now) left c.as_str.result.now c.contains.result c.as_str.ensures.value c.contains.ensures.value
    ∙ ap (λ b. b && are_among (bytes_of names) (members_view left)) c.if-not-contains.true)

pub loop-key-preserved : goal.loop-key-preserved
loop-key-preserved c =
    let names = c.args.names.now in
    let left = c.next.new.self in
    c.loop-key.invariant ∙ ap (λ es. are_among (bytes_of names) (members_view es)) c.in-Some.ensures.steps
    ∙ are_among-member names (c.in-Some.key.now, c.in-Some.field-0-1.now) left c.as_str.result.now c.contains.result c.as_str.ensures.value c.contains.ensures.value
    ∙ ap (λ b. b && are_among (bytes_of names) (members_view left)) c.if-not-contains.false
