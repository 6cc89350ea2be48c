-- The bytes of a file up to the first that isn't known.
use Rattle.std.proofs.Common.{◌≡◌, ℕ, zero, suc, ◌+◌, ◌-◌, ◌^◌, ◌<◌, ◌≤◌, List, [], ◌∷◌, ◌++◌, length, get_or, refl, ap, sym, ◌∙◌, arith, length-append}
use Rattle.std.specs.Prelude.{nat_lt, Option, Some, None}
use Rattle.std.proofs.lemmas.Bool.Decides.{nat_tests}
use Rattle.std.proofs.lemmas.List.{get_or_append_left, get_or-append_right}
use Rattle.list_laws.proofs.Laws.{by_case}
use Rattle.core_images.specs.Images.{known_bytes, known_from}

module _ (byte : ℕ → Option ℕ) where
  -- known bytes, and others from where they end on
  pub known-more : (bytes more : List ℕ) → ((k : ℕ) → k < length bytes → byte k ≡ Some (get_or bytes k 0))
      → ((k : ℕ) → k < length more → byte (length bytes + k) ≡ Some (get_or more k 0))
      → (k : ℕ) → k < length (bytes ++ more) → byte k ≡ Some (get_or (bytes ++ more) k 0)
  known-more bytes more known others k within =
      by_case (nat_lt k (length bytes))
      (λ is.
      let low : k < length bytes = grind (arith, nat_tests) in
      known k low ∙ ap Some (sym (get_or_append_left bytes more 0 k low)))
      (λ is.
      let high : length bytes ≤ k = grind (arith, nat_tests) in
      let size : length (bytes ++ more) ≡ length bytes + length more = length-append bytes more in
      let place : length bytes + (k - length bytes) ≡ k = omega arith in
      ap byte (sym place) ∙ others (k - length bytes) (omega arith) ∙ ap Some (sym (get_or-append_right bytes more (length bytes) k 0 refl high)))

  known-from : (bytes : List ℕ) (place more : ℕ) → ((k : ℕ) → k < length bytes → byte (place + k) ≡ Some (get_or bytes k 0)) → byte (place + length bytes) ≡ None → length bytes < more
      → known_from byte place more ≡ bytes
  known-from bytes place zero known none below = absurd (omega arith)
  known-from [] place (suc more) known none below =
      let end : byte place ≡ None = ap byte (let same : place ≡ place + 0 = omega arith in same) ∙ none in
      rw (end, known_from) refl
  known-from (x ∷ xs) place (suc more) known none below =
      let first : byte place ≡ Some x = ap byte (let same : place ≡ place + 0 = omega arith in same) ∙ known 0 (omega arith) in
      let others = known-from xs (place + 1) more
      (λ k h. ap byte (let same : place + 1 + k ≡ place + suc k = omega arith in same) ∙ known (suc k) (omega arith))
      (ap byte (let same : place + 1 + length xs ≡ place + suc (length xs) = omega arith in same) ∙ none) (omega arith) in
      rw (first, known_from) (ap (λ (l : List ℕ). x ∷ l) others)

  -- they end where the next isn't known
  pub known-end : (bytes : List ℕ) → ((k : ℕ) → k < length bytes → byte k ≡ Some (get_or bytes k 0)) → byte (length bytes) ≡ None → length bytes < 2 ^ 64 → bytes ≡ known_bytes byte
  unfolding known_bytes
  known-end bytes known none below =
      sym (known-from bytes 0 (2 ^ 64) (λ k h. ap byte (let same : 0 + k ≡ k = omega arith in same) ∙ known k h)
      (ap byte (let same : 0 + length bytes ≡ length bytes = omega arith in same) ∙ none) below)
