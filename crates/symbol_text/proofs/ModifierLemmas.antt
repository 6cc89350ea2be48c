-- One element of a pack after the other.
use Rattle.std.proofs.Common.{◌≡◌, ℕ, suc, ◌+◌, ◌-◌, ◌<◌, List, refl, arith}
use Rattle.symbol_text.specs.declared.piece.Piece.{Piece}
use Rattle.symbol_text.specs.declared.modifiers.Modifier.{Modifier}
use Rattle.symbol_text.specs.Texts.{◌>>=◌}
use Rattle.symbol_text.specs.Modifiers.{modified_all, modified_at}

-- the types of the elements from one place up to another begin with that of the first
pub modified_all_step : (modifier : Modifier) (at end : ℕ) (elements : List Piece) (text : List ℕ) → at < end →
    modified_all modifier at (end - at) elements text
    ≡ (modified_at modifier at elements text >>= (λ made. modified_all modifier (at + 1) (end - (at + 1)) made.0 made.1))
modified_all_step modifier at end elements text h =
    let more : end - at ≡ suc (end - (at + 1)) = omega arith in rw more refl
