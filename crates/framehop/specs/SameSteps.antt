-- Steps over modules, if the data of one is another's.
use Rattle.std.specs.Prelude.{◌≡◌, ℕ, ◌+◌, Bool, List, ◌∷◌, ◌++◌}
use Rattle.framehop_unwinder.specs.Attempt.{Meanings}
use Rattle.framehop_unwinder.specs.Frames.{Frame, lookup_address}
use Rattle.framehop_unwinder.specs.Modules.{Loaded}
use Rattle.framehop_unwinder.specs.ModulesApart.{HasSameSteps}

-- a module with other unwind data
abbrev pub with_data : {Data : Type 0} → Data → Loaded Data → Loaded Data
with_data given module_ = record module_ { unwind_data = given }

-- By either of two modules' data a module says the same of a relative address.
abbrev pub SaysAlike : {Data Rule Registers : Type 0} → Meanings Data Rule Registers → (relative : ℕ) → (one other : Data) → Type 0
SaysAlike m relative one other = (first : Bool) → m.attempt one relative first ≡ m.attempt other relative first

-- With either of two modules' data a module has the same steps from each frame at a relative address, whatever modules are before it
-- and after it in the list.
abbrev pub StepsAlike : {Data Rule Registers : Type 0} → Meanings Data Rule Registers → (relative : ℕ) → (one other : Data) → Type 0
StepsAlike {Data = Data} m relative one other =
    (module_ : Loaded Data) (before after : List (Loaded Data)) (frame : Frame) → lookup_address frame ≡ module_.base + relative
    → HasSameSteps m frame (before ++ with_data one module_ ∷ after) (before ++ with_data other module_ ∷ after)

-- Where data say the same of a relative address, the steps are the same.
abbrev pub StepsFollowAttempts : {Data Rule Registers : Type 0} → Meanings Data Rule Registers → Type 0
StepsFollowAttempts {Data = Data} m =
    (relative : ℕ) (one other : Data) → SaysAlike m relative one other → StepsAlike m relative one other
