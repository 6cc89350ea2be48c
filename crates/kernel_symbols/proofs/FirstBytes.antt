-- The first byte of a kind, as `memchr` finds it.
use Rattle.std.proofs.Common.{◌≡◌, ℕ, Bool, true, false, List, length, Option, Some, None, refl, sym, arith}
use Rattle.std.specs.List.{position}
use Rattle.std.specs.Prelude.{nat_lt}
use Rattle.std.proofs.lemmas.Bool.Decides.{nat_tests}
use Rattle.std.proofs.lemmas.List.Sums.{position_or_len_is}
use Rattle.memchr.specs.Find.{IsFirstByte, is_byte}

fails : (b : Bool) → (b ≡ true → ⊥) → b ≡ false
fails true not = absurd (not refl)
fails false not = refl

pub first-byte : (wanted : ℕ) (bytes : List ℕ) (found : Option ℕ) → IsFirstByte (is_byte wanted) bytes found → found ≡ position (is_byte wanted) bytes
first-byte wanted bytes None nowhere =
    let all = position_or_len_is (is_byte wanted) bytes (length bytes) 0 (omega arith) (λ k below. fails _ (nowhere k (omega arith) below)) (λ below. absurd (omega arith)) in
    let end : nat_lt (length bytes) (length bytes) ≡ false = grind (arith, nat_tests) in
    sym (rw (all, end) refl)
first-byte wanted bytes (Some k) (before, passes) =
    let within = before.high in
    let here = position_or_len_is (is_byte wanted) bytes k 0 (omega arith) (λ j below. fails _ (before.before j (omega arith) below)) (λ below. passes) in
    let below : nat_lt k (length bytes) ≡ true = grind (arith, nat_tests) in
    sym (rw (here, below) refl)
