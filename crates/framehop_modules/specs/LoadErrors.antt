-- Why a load fails, and the module that its error has.
use Rattle.std.specs.Prelude.{Bool, true, false}
use Rattle.framehop_modules.specs.declared.generations.LoadError.{LoadError}
use Rattle.framehop_modules.specs.declared.generations.LoadError.TheVariants.{GenerationsExhausted, OutOfMemory}

-- the module that the error of a load has
abbrev pub module_returned : {M : Type 0} → LoadError M → M
module_returned (GenerationsExhausted module_) = module_
module_returned (OutOfMemory module_) = module_

-- no number was left
abbrev pub is_exhausted : {M : Type 0} → LoadError M → Bool
is_exhausted (GenerationsExhausted module_) = true
is_exhausted (OutOfMemory module_) = false
