use Rattle.std.proofs.Common.{◌≡◌, map}
use Rattle.serde_json.specs.View.{members_view}
use Rattle.json_program.specs.Json.{are_among}
use Rattle.json_program.proofs.field.are_among.Given as goal

abbrev pub invariant-loop-key : goal.invariant-loop-key
invariant-loop-key l =
    are_among (map (λ n. n.now) l.names) (members_view l.members.entries) ≡ are_among (map (λ n. n.now) l.names) (members_view l.key-iterator)
