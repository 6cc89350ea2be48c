use Rattle.std.proofs.Common.{◌≡◌, [], length, arith, sym, ◌∙◌}
use Rattle.std.proofs.lemmas.Bool.Decides.{nat_tests}
use Rattle.std.proofs.lemmas.List.{nil_from_length}
use Rattle.core_files.proofs.Zeros.{zeros-added}
use Rattle.core_files.proofs.segment_bytes.SegmentBytes.push.Goals as goal

pub returns-in-Some-clause-ok : goal.returns-in-Some-clause-ok
returns-in-Some-clause-ok c =
    let kept = c.args.self.now in
    let size : length c.as_slice.result.now ≡ 0 = grind (arith, nat_tests, c.if-is_empty.true, c.is_empty.ensures) in
    let none : kept.bytes.items ≡ [] = nil_from_length kept.bytes.items (rw c.as_slice.ensures.value at size) in
    zeros-added kept.zeros c.in-Some.zeros kept.bytes.items c.args.block.now none (sym c.all_zero.ensures ∙ c.if-all_zero.true) (omega (arith, c.in-Some.ensures))
