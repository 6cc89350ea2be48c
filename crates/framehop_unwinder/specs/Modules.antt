-- Modules, the one that an address is in, and lists of modules in the order of their starts.
use Rattle.std.specs.Prelude.{ℕ, ◌≡◌, ◌+◌, ◌-◌, ◌^◌, List, [], ◌∷◌, Bool, not, ◌&&◌, ◌||◌, Option, Some, None, option_and_then, option_map, unwrap_or, Result, OnOk, OnErr, ◌==◌, nat_lt, nat_le, if◌then◌else◌}
use Rattle.std.specs.List.{filter, list_any}
use Rattle.list_laws.specs.Last.{last_of}
use Rattle.list_laws.specs.Greatest.{last_greatest}

-- A module as it is loaded: its name, its range of addresses, the address that relative addresses are relative to, and what it has
-- to be unwound by.
pub record Loaded (Data : Type 0) : Type 0 where
  pub name : List ℕ
  pub start : ℕ
  pub end : ℕ
  pub base : ℕ
  pub unwind_data : Data

-- What an unwinder has: its modules, and the number that this list of them is told by.
pub record Loads (Module : Type 0) : Type 0 where
  pub modules : List Module
  pub generation : ℕ

-- two unwinders of one generation have the same modules
abbrev pub AreOneBook : {Module : Type 0} → Loads Module → Loads Module → Type 0
AreOneBook one other = one.generation ≡ other.generation → one.modules ≡ other.modules

-- the last of the modules with the greatest start at or below an address
abbrev pub nearest_module : {Data : Type 0} → List (Loaded Data) → ℕ → Option (Loaded Data)
nearest_module modules address =
    last_greatest (λ module_. module_.start) (filter (λ module_. nat_le module_.start address) modules)

-- the address is in the module: at its very start its end isn't asked
abbrev pub is_inside : {Data : Type 0} → ℕ → Loaded Data → Bool
is_inside address module_ = address == module_.start || nat_lt address module_.end

-- the address is relative to the module's base in 32 bits
abbrev pub has_relative : {Data : Type 0} → ℕ → Loaded Data → Bool
has_relative address module_ = nat_le module_.base address && nat_lt (address - module_.base) (2 ^ 32)

-- the module, if the address is in it and is relative to its base
abbrev pub if_inside : {Data : Type 0} → ℕ → Loaded Data → Option (Loaded Data)
if_inside address module_ = if is_inside address module_ && has_relative address module_ then Some module_ else None

-- the module that an address is in
abbrev pub module_found : {Data : Type 0} → List (Loaded Data) → ℕ → Option (Loaded Data)
module_found modules address = option_and_then (if_inside address) (nearest_module modules address)

-- a module put into a list: before the first of an equal or a greater start
abbrev pub with_module : {Module : Type 0} → (Module → ℕ) → Module → List Module → List Module
with_module start module_ [] = module_ ∷ []
with_module start module_ (other ∷ others) =
    if nat_le (start module_) (start other) then module_ ∷ other ∷ others else other ∷ with_module start module_ others

-- one of the modules starts at an address
abbrev pub has_start : {Module : Type 0} → (Module → ℕ) → ℕ → List Module → Bool
has_start start address modules = list_any (λ module_. start module_ == address) modules

-- a list of modules without the last that starts at an address
abbrev pub without_module : {Module : Type 0} → (Module → ℕ) → ℕ → List Module → List Module
without_module start address [] = []
without_module start address (module_ ∷ others) =
    if start module_ == address && not (has_start start address others) then others
    else module_ ∷ without_module start address others

-- the end of the last module, else 0
abbrev pub last_end : {Module : Type 0} → (Module → ℕ) → List Module → ℕ
last_end end modules = unwrap_or (option_map end (last_of modules)) 0

-- loaded modules with one more
abbrev pub with_loaded : {Data : Type 0} → Loaded Data → List (Loaded Data) → List (Loaded Data)
with_loaded module_ modules = with_module (λ m. m.start) module_ modules

-- loaded modules without the last that starts at an address, if one does
abbrev pub without_loaded : {Data : Type 0} → ℕ → List (Loaded Data) → List (Loaded Data)
without_loaded start modules = without_module (λ m. m.start) start modules

-- one of the loaded modules starts at an address
abbrev pub is_loaded_at : {Data : Type 0} → ℕ → List (Loaded Data) → Bool
is_loaded_at start modules = has_start (λ m. m.start) start modules

-- A load or an unload that is done takes a number: the list of modules is told by it, and the counter goes on.
pub record TakesNumber {Module Failure : Type 0} (result : Result (Unit {0}) Failure) (new : Loads Module) (number next : ℕ) : Type 0 where
  pub generation : OnOk result (new.generation ≡ number)
  pub taken : OnOk result (next ≡ number + 1)

-- A load or an unload that fails changes neither the unwinder nor the counter.
pub record ChangesNothing {Unwinder Failure : Type 0} (result : Result (Unit {0}) Failure) (old new : Unwinder) (number next : ℕ) : Type 0 where
  pub same : OnErr result (new ≡ old)
  pub untaken : OnErr result (next ≡ number)
