use Rattle.std.proofs.Common.{◌≡◌, ℕ, ◌/◌, ◌-◌, ◌%◌, sym, subst}
use Rattle.std.specs.Prelude.{bit_and}
use Rattle.std.proofs.lemmas.Nat.{and_mask}
use Rattle.framehop_rules.proofs.rule_cache.pair_of.Goals as goal

-- the bits of a mask are the remainder by a power of two
pub returns-clause-place : goal.returns-clause-place
returns-clause-place c =
    let quarter = c.args.address / 4 in
    subst (λ (pairs : ℕ). bit_and quarter (pairs - 1) ≡ quarter % pairs) (sym c.requires.is) (and_mask quarter c.requires.exponent)
