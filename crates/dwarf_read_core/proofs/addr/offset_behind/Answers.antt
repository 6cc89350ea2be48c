use Rattle.std.proofs.Common.{◌≡◌, ◌+◌, ◌-◌, ◌<◌, true, Some, nat_le, refl, ◌∙◌, arith}
use Rattle.std.proofs.Math.Nat.{mod-eq_of_lt}
use Rattle.std.proofs.lemmas.Bool.Decides.{nat_tests}
use Rattle.dwarf_read_core.proofs.addr.offset_behind.Goals as goal

pub returns-in-Some : goal.returns-in-Some
returns-in-Some g c =
    let value = g.O.ReaderOffset.value in
    let test : nat_le (value c.args.after) (value c.args.before) ≡ true = grind (arith, nat_tests, c.requires.less) in
    let taken : Some (value c.in-Some.read) ≡ Some (value c.args.before - value c.args.after) = c.in-Some.ensures ∙ rw test refl in
    let read : value c.in-Some.read ≡ value c.args.before - value c.args.after = cc in
    let fits : value c.args.offset + value c.in-Some.read < g.O.ReaderOffset.limit = omega (arith, c.requires.less, c.requires.fits) in
    let whole = mod-eq_of_lt fits in
    omega (arith, c.wrapping_add.ensures, c.requires.less)
