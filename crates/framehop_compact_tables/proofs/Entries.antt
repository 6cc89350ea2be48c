-- Numbers in the bytes from a table's rows on.
use Rattle.std.proofs.Common.{◌≡◌, ◌∙◌, ◌+◌, ℕ, List, drop, ap, arith}
use Rattle.std.specs.Prelude.{slice_index}
use Rattle.std.proofs.lemmas.List.{get_or-drop}
use Rattle.framehop_compact_tables.specs.Bytes.{u32_at}

byte-drop : (bytes : List ℕ) (n at more : ℕ) → slice_index (drop n bytes) (at + more) ≡ slice_index bytes (n + at + more)
byte-drop bytes n at more =
    let same : n + (at + more) ≡ n + at + more = omega arith in
    get_or-drop n bytes (at + more) 0 ∙ ap (λ i. slice_index bytes i) same

pub u32_at-drop : (bytes : List ℕ) (n at : ℕ) → u32_at (drop n bytes) at ≡ u32_at bytes (n + at)
unfolding u32_at
u32_at-drop bytes n at =
    grind (arith, get_or-drop n bytes at 0, byte-drop bytes n at 1, byte-drop bytes n at 2, byte-drop bytes n at 3)
