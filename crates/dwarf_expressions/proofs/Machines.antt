-- What operations make of the machine.
use Rattle.std.proofs.Common.{length, ◌≡◌, ◌⊎◌, ℕ, None, Result, Ok, Err, inl, inr, sym, ap, ◌∙◌}
use Rattle.dwarf_constants.specs.declared.error.Error.{Error}
use Rattle.dwarf_constants.specs.declared.error.Error.TheVariants.{OutOfMemory}
use Rattle.dwarf_readers.specs.Stretch.{◌>>=◌}
use Rattle.dwarf_expressions.specs.Effects.{Stack, stack_after, stack_within}
use Rattle.dwarf_expressions.specs.Evaluation.{StackMachine, EvaluationInput, branch_of, machine_after, offset_by}
use Rattle.dwarf_expressions.specs.EvaluationViews.{Changes}
use Rattle.dwarf_operations.specs.declared.op.Operation.{Operation}

-- an error in the change of the stack is the error of the machine's change
pub stack_refused : (p : EvaluationInput) (m next : StackMachine) (operation : Operation) (n : ℕ) (x e : Error) (result : Result (Unit {0}) Error) → n ≡ p.address_size → result ≡ Err x → x ≡ e
    → (stack_within p.capacity (stack_after n operation m.stack) ≡ Err e) ⊎ ((p.capacity ≡ None) × (e ≡ OutOfMemory)) → Changes p.capacity (machine_after p m operation) result next
stack_refused p m next operation n x e result size is same why = rw (is, same) (by why)
  where
    by : (stack_within p.capacity (stack_after n operation m.stack) ≡ Err e) ⊎ ((p.capacity ≡ None) × (e ≡ OutOfMemory)) → (machine_after p m operation ≡ Err e) ⊎ ((p.capacity ≡ None) × (e ≡ OutOfMemory))
    by (inl refused) = inl (ap (λ (stack : Stack). stack >>= λ values. offset_by (length p.expression.bytes) m.offset (branch_of operation m.stack) >>= λ offset. Ok (let next : StackMachine = record { stack = values; offset = offset; left = m.left } in next))
        (ap (λ (size : ℕ). stack_within p.capacity (stack_after size operation m.stack)) (sym size) ∙ refused))
    by (inr memory) = inr memory
