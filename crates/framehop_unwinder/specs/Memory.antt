-- The frames from which a step may allocate: those for which the module that is found may.
use Rattle.std.specs.Prelude.{ℕ, ◌≡◌, ◌-◌, List, Bool, true, false, Some}
use Rattle.framehop_unwinder.specs.Frames.{Frame, lookup_address}
use Rattle.framehop_unwinder.specs.Modules.{Loaded, module_found}

-- The module that is found for an address is one whose data may allocate there, as asks says of data, relative addresses
-- and kinds of frames.
pub record AsksMemoryAt {Data : Type 0} (asks : Data → ℕ → Bool → Type 0) (modules : List (Loaded Data)) (first : Bool) (address : ℕ) : Type 0 where
  pub module_ : Loaded Data
  pub found : module_found modules address ≡ Some module_
  pub asked : asks module_.unwind_data (address - module_.base) first

-- the module that is found for a frame is one whose data may allocate there
abbrev pub AsksMemory : {Data : Type 0} → (Data → ℕ → Bool → Type 0) → List (Loaded Data) → Frame → Type 0
AsksMemory asks modules frame = AsksMemoryAt asks modules frame.is_first (lookup_address frame)

-- A call runs out of memory only if it may allocate: its architecture takes memory, and what asks for it holds.
pub record WantsMemoryOnlyIf (takes_memory wanted : Bool) (Asks : Type 0) : Type 0 where
  pub never : takes_memory ≡ false → wanted ≡ false
  pub asked : wanted ≡ true → Asks

-- a look-up for an address runs out of memory only if the module that is found may allocate there
abbrev pub WantsAt : {Data : Type 0} → Bool → (Data → ℕ → Bool → Type 0) → List (Loaded Data) → Bool → ℕ → (wanted : Bool) → Type 0
WantsAt takes_memory asks modules first address wanted = WantsMemoryOnlyIf takes_memory wanted (AsksMemoryAt asks modules first address)

-- a step from a frame runs out of memory only if the module that is found for it may allocate
abbrev pub WantsFrom : {Data : Type 0} → Bool → (Data → ℕ → Bool → Type 0) → List (Loaded Data) → Frame → (wanted : Bool) → Type 0
WantsFrom takes_memory asks modules frame wanted = WantsMemoryOnlyIf takes_memory wanted (AsksMemory asks modules frame)
