-- Tests of numbers.
use Rattle.std.proofs.Common.{◌≡◌, ℕ, ◌==◌, sym, ◌∙◌}
use Rattle.std.specs.Bool.{Decides, one_answer}
use Rattle.std.specs.Cmp.{unsigned_tied}
use Rattle.std.specs.Ordering.{eq_by_cmp, nat_cmp}
use Rattle.std.proofs.lemmas.Bool.Decides.{Decides-eqb}

-- a test in the other order
pub eqb_sym : (a b : ℕ) → (a == b) ≡ (b == a)
eqb_sym a b = one_answer _ _ (Decides-eqb a b) (sym_test (Decides-eqb b a))
  where
    sym_test : Decides (b == a) (b ≡ a) → Decides (b == a) (a ≡ b)
    sym_test h = (λ t. sym (h.0 t), λ e. h.1 (sym e))

-- the order of numbers ties equal numbers alone
pub ties : (a b : ℕ) → eq_by_cmp nat_cmp a b ≡ (b == a)
ties a b = unsigned_tied a b ∙ eqb_sym a b
