use Rattle.std.proofs.Common.{◌≡◌, Bool, true, false, refl, arith}
use Rattle.std.specs.Prelude.{◌&&◌, ◌≤◌, ◌<◌, nat_le, nat_lt}
use Rattle.std.proofs.lemmas.Bool.Decides.{nat_tests}
use Rattle.dwarf_frame_entries.specs.Entries.{end_address}
use Rattle.dwarf_frame_entries.specs.EntryPrograms.{fde_program}
use Rattle.dwarf_frame_entries.proofs.row_laws.each_address_of_an_fde_has_one_row.Goals as goal

both : (a b : Bool) → (a && b) ≡ true → (a ≡ true) × (b ≡ true)
both true b h = (refl, h)
both false b h = cc

pub returns : goal.returns
returns c limits section vendor fde complete address inside =
    let tests = both (nat_le fde.initial_address address) (nat_lt address (end_address fde)) inside in
    let from : fde.initial_address ≤ address = grind (arith, nat_tests, tests.0) in
    let to : address < end_address fde = grind (arith, nat_tests, tests.1) in
    c.each_address_has_one_row.ensures limits (fde_program section vendor fde) address complete from to
