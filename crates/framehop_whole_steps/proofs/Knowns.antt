-- The registers of a frame that are known, one after the other.
use Rattle.std.proofs.Common.{◌≡◌, ℕ, ◌<◌, Bool, List, Option, None, arith, length, refl, sym, ◌∙◌}
use Rattle.std.specs.Prelude.{nat_lt, slice_index_or}
use Rattle.std.proofs.lemmas.List.FromFn.{fill_by_all}
use Rattle.list_laws.proofs.Laws.{by_case}
use Rattle.framehop_expressions.specs.Architectures.{register_count}
use Rattle.framehop_expressions.specs.Registers.{known}
use Rattle.framehop_expressions.specs.declared.registers.KnownRegisters.{KnownRegisters}
use Rattle.framehop_whole_steps.specs.Carrying.{Carrying}
use Rattle.framehop_whole_steps.specs.Known.{known_of, value_of}
use Rattle.framehop_whole_steps.specs.Registers.{registers, values_of}
use Rattle.framehop_whole_steps.specs.declared.registers.WholeRegs.{WholeRegs}

-- once each register that the architecture has is known, all are
pub all-known : {Registers : Type 0} (c : Carrying Registers) (first : Bool) (regs : WholeRegs Registers) (all : KnownRegisters)
    → all.architecture ≡ c.architecture → ((k : ℕ) → k < register_count c.architecture → known all k ≡ value_of c first regs k)
    → (number : ℕ) → known all number ≡ known_of c first regs number
all-known c first regs all architecture each number =
    by_case (nat_lt number (register_count c.architecture))
    (λ is. let below : number < register_count c.architecture = grind arith in each number below ∙ sym (rw is refl))
    (λ is.
    let none : known all number ≡ None = rw (architecture, is) refl in
    none ∙ sym (rw is refl))

-- once each value is there, all are
pub all-values : (f : ℕ → Option ℕ) (values : List (Option ℕ)) → length values ≡ registers
    → ((k : ℕ) → k < registers → slice_index_or values k None ≡ f k) → values ≡ values_of f
all-values f values all each = fill_by_all f values registers None all each
