use Rattle.std.proofs.Common.{◌≡◌, ◌+◌, ◌*◌, ◌%◌, ◌^◌, ◌≤◌, ℕ, false, refl, arith}
use Rattle.std.specs.Prelude.{min, nat_lt}
use Rattle.std.proofs.Math.Pow.{pow_mono}
use Rattle.std.proofs.lemmas.Bool.Decides.{nat_tests}
use Rattle.dwarf_frame_instructions.specs.Effects.{address_limit}
use Rattle.dwarf_frame_instructions.proofs.effects.Factors.advance_location.Goals as goal

limit_fits : (size : ℕ) → address_limit size ≤ 2 ^ 64
limit_fits size = pow_mono {i = 8 * min size 8} {j = 64} (omega arith)

pub returns-in_default : goal.returns-in_default
returns-in_default g c =
    let sum : ℕ = c.args.location + c.args.delta * c.args.self.now.code_alignment_factor % 2 ^ 64 in
    let bounded = limit_fits c.args.self.now.address_size in
    let executed : nat_lt sum (address_limit c.args.self.now.address_size) ≡ false = grind (arith, nat_tests, c.in_default.ensures) in
    rw executed refl
