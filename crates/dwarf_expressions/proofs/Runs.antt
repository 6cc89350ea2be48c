-- Runs, step by step.
use Rattle.std.proofs.Common.{◌≡◌, ◌⊎◌, inl, inr, ℕ, suc, ◌-◌, true, false, List, [], ◌∷◌, length, Option, Some, None, Result, Ok, Err, refl, subst, sym, ap, ◌∙◌, arith}
use Rattle.std.specs.Prelude.{◌==◌}
use Rattle.list_laws.proofs.Laws.{by_case}
use Rattle.dwarf_constants.specs.declared.error.Error.{Error}
use Rattle.dwarf_constants.specs.declared.error.Error.TheVariants.{OutOfMemory, TooManyIterations}
use Rattle.dwarf_readers.specs.Stretch.{Stretch, ◌>>=◌, behind}
use Rattle.dwarf_expressions.specs.Effects.{stack_after, stack_within}
use Rattle.dwarf_expressions.specs.Evaluation.{Asking, Finished, StackMachine, EvaluationInput, Ready, Refused, EvaluationState, branch_of, last_step, machine_after, operation_step, offset_by, run, run_within, state_by_operation, state_behind, step, top_of}
use Rattle.dwarf_expressions.specs.EvaluationViews.{Comes, Stops, stopped_state}
use Rattle.dwarf_operations.specs.Operations.{operation_at}
use Rattle.dwarf_expressions.specs.declared.machine.Stop.{Stop}
use Rattle.dwarf_expressions.specs.declared.machine.Stop.TheVariants as stop
use Rattle.dwarf_operations.specs.declared.op.Operation.{Operation}
use Rattle.dwarf_operations.specs.declared.op.Operation.TheVariants.{RegisterOffset}

-- what one answer after another came from
came_from : {A B : Type 0} (first : Result A Error) (next : A → Result B Error) (y : B) → (first >>= next) ≡ Ok y → (x : A) × (first ≡ Ok x) × (next x ≡ Ok y)
came_from (Ok x) next y e = (x, refl, e)
came_from (Err why) next y e = cc

changed_left : (p : EvaluationInput) (m next : StackMachine) (operation : Operation) → machine_after p m operation ≡ Ok next → next.left ≡ m.left
changed_left p m next operation e =
    let (stack, _, more) = came_from (stack_within p.capacity (stack_after p.address_size operation m.stack)) (λ stack. offset_by (length p.expression.bytes) m.offset (branch_of operation m.stack) >>= λ offset. Ok (record { stack = stack; offset = offset; left = m.left })) next e in
    let (offset, _, last) = came_from (offset_by (length p.expression.bytes) m.offset (branch_of operation m.stack)) (λ offset. Ok (record { stack = stack; offset = offset; left = m.left })) next more in
    cc

performed_left : (p : EvaluationInput) (m next : StackMachine) (operation : Operation) → state_by_operation p m operation ≡ Ok (Ready next) → next.left ≡ m.left
performed_left p m next (RegisterOffset register offset) e = cc
performed_left p m next operation e =
    let (other, is, last) = came_from (machine_after p m operation) (λ x. Ok (Ready x)) (Ready next) e in
    let same : other ≡ next = cc in
    ap (λ (x : StackMachine). x.left) (sym same) ∙ changed_left p m other operation is

-- an operation leaves one fewer
pub done_left : (p : EvaluationInput) (m next : StackMachine) → operation_step p m ≡ Ok (Ready next) → suc next.left ≡ m.left
done_left p m next e =
    by_case (m.left == 0)
    (λ is. let f : Err TooManyIterations ≡ Ok (Ready next) = rw is at e in cc)
    (λ is.
    let some : suc (m.left - 1) ≡ m.left = grind arith in
    let parts = λ (operation : Operation × Stretch). state_by_operation p (record { stack = m.stack; offset = operation.1.offset - p.expression.offset; left = m.left - 1 }) operation.0 in
    let f : (operation_at p.address_size (behind m.offset p.expression) >>= parts) ≡ Ok (Ready next) = rw is at e in
    let (operation, _, last) = came_from (operation_at p.address_size (behind m.offset p.expression)) parts (Ready next) f in
    let left = performed_left p (record { stack = m.stack; offset = operation.1.offset - p.expression.offset; left = m.left - 1 }) next operation.0 last in
    ap suc left ∙ some)

step_left : (p : EvaluationInput) (m next : StackMachine) → step p m ≡ Ok (Ready next) → suc next.left ≡ m.left
step_left p m next e =
    by_case (m.offset == length p.expression.bytes)
    (λ is. let f : last_step m.stack ≡ Ok (Ready next) = rw is at e in over m.stack f)
    (λ is. let f : operation_step p m ≡ Ok (Ready next) = rw is at e in done_left p m next f)
  where
    over : (stack : List ℕ) → last_step stack ≡ Ok (Ready next) → suc next.left ≡ m.left
    over [] f = cc
    over (top ∷ rest) f = cc

-- a run is a step and the run from there
pub run_step : (p : EvaluationInput) (m : StackMachine) → run p m ≡ state_behind (run p) (step p m)
unfolding run
run_step p m = alike (step p m) refl
  where
    alike : (s : Result EvaluationState Error) → step p m ≡ s → state_behind (run_within m.left p) s ≡ state_behind (λ next. run_within (suc next.left) p next) s
    alike (Ok (Ready next)) e = ap (λ (k : ℕ). run_within k p next) (sym (step_left p m next e))
    alike (Ok (Asking register offset next)) e = refl
    alike (Ok (Finished value)) e = refl
    alike (Ok (Refused why)) e = refl
    alike (Err why) e = refl

-- .. by the operation that the step does
pub run_done : (p : EvaluationInput) (m : StackMachine) (s : Result EvaluationState Error) → (m.offset == length p.expression.bytes) ≡ false → operation_step p m ≡ s → run p m ≡ state_behind (run p) s
run_done p m s more is =
    let same : step p m ≡ operation_step p m = rw more refl in
    run_step p m ∙ ap (state_behind (run p)) (same ∙ is)

-- .. or by the end
pub run_over : (p : EvaluationInput) (m : StackMachine) (top : Result ℕ Error) → (m.offset == length p.expression.bytes) ≡ true → top_of m.stack ≡ top → run p m ≡ state_behind (run p) (top >>= λ value. Ok (Finished value))
run_over p m top end is =
    let same : step p m ≡ last_step m.stack = rw end refl in
    run_step p m ∙ ap (state_behind (run p)) (same ∙ ap (λ (t : Result ℕ Error). t >>= λ value. Ok (Finished value)) is)

-- a machine that stopped doesn't go on
pub stopped_stays : (go_on : StackMachine → EvaluationState) (s : Stop) (m : StackMachine) → state_behind go_on (Ok (stopped_state s m)) ≡ stopped_state s m
stopped_stays go_on (stop.Finished value) m = refl
stopped_stays go_on (stop.Asking register offset) m = refl

-- an error on the way is the error of the run
pub run_refused : (p q : EvaluationInput) (m n next : StackMachine) (s : Result EvaluationState Error) (x e : Error) (result : Result Stop Error) → p ≡ q → run p m ≡ run q n → run p m ≡ state_behind (run p) s
    → result ≡ Err x → x ≡ e → (s ≡ Err e) ⊎ ((p.capacity ≡ None) × (e ≡ OutOfMemory)) → Stops q.capacity (run q n) result next
run_refused p q m n next s x e result alike same comes is why refused = rw (is, why) (by refused)
  where
    by : (s ≡ Err e) ⊎ ((p.capacity ≡ None) × (e ≡ OutOfMemory)) → (run q n ≡ Refused e) ⊎ ((q.capacity ≡ None) × (e ≡ OutOfMemory))
    by (inl f) = inl (sym same ∙ comes ∙ ap (state_behind (run p)) f)
    by (inr (grows, memory)) = inr (sym (ap (λ (r : EvaluationInput). r.capacity) alike) ∙ grows, memory)

-- what an operation came to, by what the machine answered
pub went_on : (p : EvaluationInput) (m next : StackMachine) (answer : Option Stop) → Comes p.capacity (operation_step p m) (Ok answer) next → answer ≡ None → operation_step p m ≡ Ok (Ready next)
went_on p m next answer comes is = let P : Option Stop → Type 0 = λ a. Comes p.capacity (operation_step p m) (Ok a) next in subst P is comes

pub came_to : (p : EvaluationInput) (m next : StackMachine) (answer : Option Stop) (s : Stop) → Comes p.capacity (operation_step p m) (Ok answer) next → answer ≡ Some s → operation_step p m ≡ Ok (stopped_state s next)
came_to p m next answer s comes is = let P : Option Stop → Type 0 = λ a. Comes p.capacity (operation_step p m) (Ok a) next in subst P is comes
