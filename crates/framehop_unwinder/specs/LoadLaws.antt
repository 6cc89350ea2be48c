-- Laws of what depends on loaded modules alone.
use Rattle.std.proofs.Common.{subst}
use Rattle.std.specs.Prelude.{ℕ, ◌≡◌, List, Bool}
use Rattle.framehop_rules.specs.Slots.{Kept}
use Rattle.framehop_unwinder.specs.Attempt.{Meanings}
use Rattle.framehop_unwinder.specs.Frames.{Frame}
use Rattle.framehop_unwinder.specs.Memory.{AsksMemory}
use Rattle.framehop_unwinder.specs.Modules.{Loaded, Loads}
use Rattle.framehop_unwinder.specs.RulesKept.{FitsLoads}

-- a cache fits unwinders with the same modules and generation alike
pub fits_alike : {Data Rule Registers : Type 0} (m : Meanings Data Rule Registers) (one other : Loads (Loaded Data)) (cache : Kept Rule)
    → one ≡ other → FitsLoads m one cache → FitsLoads m other cache
fits_alike {Data} m one other cache same fits = subst (λ (loads : Loads (Loaded Data)). FitsLoads m loads cache) same fits

-- steps from a frame may allocate alike, with the same modules
pub asks_alike : {Data : Type 0} (asks : Data → ℕ → Bool → Type 0) (one other : List (Loaded Data)) (frame : Frame)
    → one ≡ other → AsksMemory asks one frame → AsksMemory asks other frame
asks_alike {Data} asks one other frame same may = subst (λ (modules : List (Loaded Data)). AsksMemory asks modules frame) same may
