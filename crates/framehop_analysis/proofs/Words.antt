-- Words at the start of bytes.
use Rattle.std.proofs.Common.{◌≡◌, ℕ, ◌<◌, ◌^◌, refl, ap, arith, List, [], ◌∷◌, ◌++◌, length, length-append}
use Rattle.std.specs.Prelude.{◌/◌, ◌%◌}
use Rattle.std.specs.Int.{to_le_bytes, w32}

pub four : (a b : ℕ) (r t : List ℕ) → a < 2 ^ 32 → b < 2 ^ 32 → to_le_bytes w32 a ++ r ≡ to_le_bytes w32 b ++ t → (a ≡ b) × (r ≡ t)
four a b r t a_fits b_fits same =
    let zero : a % 256 ≡ b % 256 = cc in
    let one : a / 256 % 256 ≡ b / 256 % 256 = cc in
    let two : a / 65536 % 256 ≡ b / 65536 % 256 = cc in
    let three : a / 16777216 % 256 ≡ b / 16777216 % 256 = cc in
    (omega arith, cc)

-- ---- words at the end of bytes

pub record IsSplit (a b c d : List ℕ) : Type 0 where
  pub prefixes : a ≡ b
  pub rests : c ≡ d

pub split_same : (a b c d : List ℕ) → length a ≡ length b → a ++ c ≡ b ++ d → IsSplit a b c d
split_same [] [] c d size same = record { prefixes = refl; rests = same }
split_same [] (y ∷ b) c d size same = absurd (omega (arith, size))
split_same (x ∷ a) [] c d size same = absurd (omega (arith, size))
split_same (x ∷ a) (y ∷ b) c d size same =
    let rest : a ++ c ≡ b ++ d = cc in
    let next = split_same a b c d (omega (arith, size)) rest in
    let head : x ≡ y = cc in
    let tail = next.prefixes in
    record { prefixes = cc; rests = next.rests }

pub last_four : (f g : List ℕ) (a b : ℕ) → a < 2 ^ 32 → b < 2 ^ 32 → f ++ to_le_bytes w32 a ≡ g ++ to_le_bytes w32 b → (f ≡ g) × (a ≡ b)
last_four f g a b a_fits b_fits same =
    let split = split_same f g (to_le_bytes w32 a) (to_le_bytes w32 b) (omega (arith, ap length same, length-append f (to_le_bytes w32 a), length-append g (to_le_bytes w32 b))) same in
    (split.prefixes, (four a b [] [] a_fits b_fits split.rests).0)
