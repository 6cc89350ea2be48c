-- Bytes at the start of others.
use Rattle.std.proofs.Common.{ℕ, zero, suc, ◌<◌, List, [], ◌∷◌, get_or, take, drop, arith}

pub small_take : (n : ℕ) (xs : List ℕ) → ((i : ℕ) → get_or xs i 0 < 256) → (i : ℕ) → get_or (take n xs) i 0 < 256
small_take zero xs small i = omega arith
small_take (suc n) [] small i = omega arith
small_take (suc n) (x ∷ xs) small zero = small zero
small_take (suc n) (x ∷ xs) small (suc i) = small_take n xs (λ j. small (suc j)) i

pub small_drop : (n : ℕ) (xs : List ℕ) → ((i : ℕ) → get_or xs i 0 < 256) → (i : ℕ) → get_or (drop n xs) i 0 < 256
small_drop zero xs small i = small i
small_drop (suc n) [] small i = omega arith
small_drop (suc n) (x ∷ xs) small i = small_drop n xs (λ j. small (suc j)) i
