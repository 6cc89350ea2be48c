-- Modules that don't lie in one another.
use Rattle.std.specs.Prelude.{◌≡◌, ◌≢◌, ◌≤◌, List, Some, false}
use Rattle.std.specs.List.{All}
use Rattle.std.specs.List.Sorted.{IsNonDecreasingBy}
use Rattle.framehop_registers.specs.Callback.{Words}
use Rattle.framehop_unwinder.specs.Attempt.{Meanings}
use Rattle.framehop_unwinder.specs.Frames.{Frame, lookup_address}
use Rattle.framehop_unwinder.specs.Judge.{judge}
use Rattle.framehop_unwinder.specs.Modules.{Loaded, is_inside, module_found, with_loaded}

-- a module doesn't start in another that starts at or below it
abbrev pub StartsOutside : {Data : Type 0} → Loaded Data → Loaded Data → Type 0
StartsOutside module_ other = other.start ≤ module_.start → is_inside module_.start other ≡ false

-- A module that starts outside all others. The modules are in the order of their starts, without it and with it.
pub record IsApart {Data : Type 0} (module_ : Loaded Data) (modules : List (Loaded Data)) : Type 0 where
  pub ordered : IsNonDecreasingBy (λ m. m.start) modules
  pub ordered_with : IsNonDecreasingBy (λ m. m.start) (with_loaded module_ modules)
  pub outside : All (StartsOutside module_) modules

-- A module that starts outside all others and is not the one that is found for a frame.
pub record IsElsewhere {Data : Type 0} (module_ : Loaded Data) (modules : List (Loaded Data)) (frame : Frame) : Type 0 where
  pub apart : IsApart module_ modules
  pub not_found : module_found (with_loaded module_ modules) (lookup_address frame) ≢ Some module_

-- each step from a frame is the same with these modules and with those
abbrev pub HasSameSteps : {Data Rule Registers : Type 0} → Meanings Data Rule Registers → Frame → List (Loaded Data) → List (Loaded Data) → Type 0
HasSameSteps {Registers = Registers} m frame these those =
    (registers : Registers) (words : Words) → judge m these frame registers words ≡ judge m those frame registers words

-- a module that is elsewhere changes no step from a frame by being loaded
abbrev pub ChangesNoStep : {Data Rule Registers : Type 0} → Meanings Data Rule Registers → Loaded Data → List (Loaded Data) → Frame → Type 0
ChangesNoStep m module_ modules frame =
    IsElsewhere module_ modules frame → HasSameSteps m frame (with_loaded module_ modules) modules
