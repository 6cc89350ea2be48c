use Rattle.std.proofs.Common.{◌≤◌, ◌∙◌, ◌-◌, length, drop, ap, arith}
use Rattle.std.proofs.lemmas.List.{length-drop, take_all}
use Rattle.framehop_compact_tables.specs.Bytes.{u32_at}
use Rattle.framehop_compact_tables.proofs.Entries.{u32_at-drop}
use Rattle.framehop_compact_tables.proofs.bytes.u32_after.Goals as goal

pub returns : goal.returns
returns c =
    let bytes = c.args.bytes.now in
    let rest = length bytes - c.args.at in
    let all : length (drop c.args.at bytes) ≤ rest = omega (arith, length-drop c.args.at bytes) in
    c.u32_at.ensures ∙ ap (λ bytes. u32_at bytes c.args.more) (take_all rest (drop c.args.at bytes) all) ∙ u32_at-drop bytes c.args.at c.args.more
