use Rattle.std.proofs.Common.{◌≡◌, ◌∙◌, sym, ap, arith, Some, to_z, of_z}
use Rattle.std.specs.Prelude.{ℤ, pos, ◌+ℤ◌, ◌==◌, if◌then◌else◌}
use Rattle.std.specs.Int.{w64}
use Rattle.std.proofs.lemmas.Int.{ints}
use Rattle.framehop_analysis.specs.EpilogueViewsAarch64.{raise_of_type, load_offset_after}
use Rattle.framehop_analysis.specs.MachineAarch64.{access_offset}
use Rattle.framehop_analysis.proofs.aarch64.instruction_analysis.epilogue.ShortRestored.after.Goals as goal

pub returns-in-LoadPair-clause-raise : goal.returns-in-LoadPair-clause-raise
returns-in-LoadPair-clause-raise c =
    let low = c.requires.low in
    let high = c.requires.high in
    let moved = c.offset_and_raise-access_offset.ensures in
    let same = ap raise_of_type c.in-LoadPair.is in
    omega (arith, ints, low, high, moved.raise, moved.low, moved.high, same)

pub returns-in-LoadPair-clause-fp : goal.returns-in-LoadPair-clause-fp
returns-in-LoadPair-clause-fp c =
    let pair = c.in-LoadPair.pair in
    let moved = c.offset_and_raise-access_offset.ensures in
    let at : to_z w64 (of_z w64 (to_z w64 (of_z w64 c.args.self.raise) +ℤ to_z w64 (of_z w64 c.offset_and_raise-access_offset.result.0))) ≡ c.args.self.raise +ℤ access_offset pair =
    omega (arith, ints, c.requires.low, c.requires.high, moved.access_offset, moved.offset_low, moved.offset_high) in
    c.loaded_from.ensures
    ∙ ap (λ (a : ℤ). if pair.second == 29 then Some (a +ℤ pos 8) else if pair.first == 29 then Some a else c.args.self.fp) at
    ∙ ap (λ s. load_offset_after 29 s c.args.self.raise c.args.self.fp) (sym c.in-LoadPair.is)

pub returns-in-LoadPair-clause-lr : goal.returns-in-LoadPair-clause-lr
returns-in-LoadPair-clause-lr c =
    let pair = c.in-LoadPair.pair in
    let moved = c.offset_and_raise-access_offset.ensures in
    let at : to_z w64 (of_z w64 (to_z w64 (of_z w64 c.args.self.raise) +ℤ to_z w64 (of_z w64 c.offset_and_raise-access_offset.result.0))) ≡ c.args.self.raise +ℤ access_offset pair =
    omega (arith, ints, c.requires.low, c.requires.high, moved.access_offset, moved.offset_low, moved.offset_high) in
    c.loaded_from-in-LoadPair.ensures
    ∙ ap (λ (a : ℤ). if pair.second == 30 then Some (a +ℤ pos 8) else if pair.first == 30 then Some a else c.args.self.lr) at
    ∙ ap (λ s. load_offset_after 30 s c.args.self.raise c.args.self.lr) (sym c.in-LoadPair.is)
