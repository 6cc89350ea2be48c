-- What a table says of relative addresses: the modules of the tests.
use Rattle.std.specs.Prelude.{ℕ, ◌==◌, List, [], ◌∷◌, Option, Some, None, if◌then◌else◌}
use Rattle.framehop_unwinder.specs.Attempt.{Attempt, Says, Evaluates, SaysNothing}
use Rattle.test_framehop.specs.declared.tables.Row.{Row}
use Rattle.test_framehop.specs.declared.tables.Said.{Said}
use Rattle.test_framehop.specs.declared.tables.Said.TheVariants.{StubRule, StartRule, NoCaller, NullCaller, WantsMemory}

-- the first row of an address
abbrev pub said_at : List Row → ℕ → Option Said
said_at [] address = None
said_at (row ∷ rows) address = if row.relative_address == address then Some row.said else said_at rows address

-- what a row says; memory is always refused where it is wanted
abbrev pub attempt_said : {Rule Registers : Type 0} → Rule → Rule → Option Said → Attempt Rule Registers
attempt_said stub start None = SaysNothing
attempt_said stub start (Some StubRule) = Says stub
attempt_said stub start (Some StartRule) = Says start
attempt_said stub start (Some NoCaller) = Evaluates (λ registers words. None)
attempt_said stub start (Some NullCaller) = Evaluates (λ registers words. Some (record { return_address = 0; registers = registers }))
attempt_said stub start (Some WantsMemory) = SaysNothing
