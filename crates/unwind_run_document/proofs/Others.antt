-- The values of registers, one after the other.
use Rattle.std.proofs.Common.{◌≡◌, ℕ, ◌+◌, ◌-◌, ◌<◌, List, [], ◌∷◌, ◌++◌, length, take, Option, Some, None, Ok, Err, suc, refl, sym, ap, ◌∙◌, arith}
use Rattle.std.proofs.lemmas.List.{take_all}
use Rattle.json_program.specs.declared.fault.FaultName.{FaultName}
use Rattle.json_program.specs.Faults.{Checked, with_fault}
use Rattle.json_program.specs.Elements.{so_far, joined, first}
use Rattle.json_program.proofs.Laws.{joined-good, joined-bad, joined-end}
use Rattle.serde_json.specs.Data.{Data}
use Rattle.unwind_run_document.specs.declared.document.Architecture.{Architecture}
use Rattle.unwind_run_document.specs.Registers.{value_in, values_from}

abbrev pub Values : Type 0
Values = List (Option ℕ)

-- the value of the next register is before those of the registers after it
values_from-next : (machine : Architecture) (d : Data) (number end : ℕ) → number < end
    → values_from machine d number (end - number) ≡ first (value_in machine d number) (values_from machine d (number + 1) (end - (number + 1)))
unfolding values_from
values_from-next machine d number end below =
    let more : end - number ≡ suc (end - (number + 1)) = omega arith in
    ap (values_from machine d number) more

-- a fault stands for whatever values there are
so_far-fault : (fault : Option FaultName) (name : FaultName) (xs ys : Values) → so_far (with_fault fault name) xs ≡ so_far (with_fault fault name) ys
so_far-fault None name xs ys = refl
so_far-fault (Some m) name xs ys = refl

-- one more register has a value
pub one-good : (machine : Architecture) (d : Data) (number end : ℕ) (fault later : Option FaultName) (xs ys : Values) (x : Option ℕ) (all : Checked Values)
    → number < end → all ≡ joined (so_far fault xs) (values_from machine d number (end - number)) → value_in machine d number ≡ Ok x
    → ys ≡ xs ++ x ∷ [] → later ≡ fault
    → all ≡ joined (so_far later ys) (values_from machine d (number + 1) (end - (number + 1)))
one-good machine d number end fault later xs ys x all below before gives more same =
    let rest = values_from machine d (number + 1) (end - (number + 1)) in
    before ∙ ap (joined (so_far fault xs)) (values_from-next machine d number end below ∙ ap (λ r. first r rest) gives) ∙ joined-good fault xs x rest
    ∙ ap (λ zs. joined (so_far fault zs) rest) (sym more) ∙ ap (λ f. joined (so_far f ys) rest) (sym same)

-- one more has a fault
pub one-bad : (machine : Architecture) (d : Data) (number end : ℕ) (fault later : Option FaultName) (xs ys : Values) (name : FaultName) (all : Checked Values)
    → number < end → all ≡ joined (so_far fault xs) (values_from machine d number (end - number)) → value_in machine d number ≡ Err name
    → later ≡ with_fault fault name
    → all ≡ joined (so_far later ys) (values_from machine d (number + 1) (end - (number + 1)))
one-bad machine d number end fault later xs ys name all below before gives more =
    let rest = values_from machine d (number + 1) (end - (number + 1)) in
    before ∙ ap (joined (so_far fault xs)) (values_from-next machine d number end below ∙ ap (λ r. first r rest) gives) ∙ joined-bad fault xs name rest
    ∙ ap (λ r. joined r rest) (so_far-fault fault name xs ys) ∙ ap (λ f. joined (so_far f ys) rest) (sym more)

none-left : (machine : Architecture) (d : Data) (number : ℕ) → values_from machine d number 0 ≡ Ok []
unfolding values_from
none-left machine d number = refl

joined-start : (r : Checked Values) → joined (Ok []) r ≡ r
joined-start (Ok xs) = refl
joined-start (Err name) = refl

-- before the first register
pub before-first : (machine : Architecture) (d : Data) (end : ℕ) → values_from machine d 0 end ≡ joined (so_far None []) (values_from machine d 0 (end - 0))
before-first machine d end =
    let all : end - 0 ≡ end = omega arith in
    sym (joined-start (values_from machine d 0 (end - 0)) ∙ ap (values_from machine d 0) all)

-- after the last one
pub at-end : (machine : Architecture) (d : Data) (number end : ℕ) (fault : Option FaultName) (xs : Values) (all : Checked Values)
    → number ≡ end → length xs ≡ end → all ≡ joined (so_far fault (take number xs)) (values_from machine d number (end - number)) → all ≡ so_far fault xs
at-end machine d number end fault xs all last has is =
    let left : end - number ≡ 0 = omega (arith, last) in
    let values = so_far fault (take number xs) in
    is ∙ ap (λ n. joined values (values_from machine d number n)) left ∙ ap (joined values) (none-left machine d number) ∙ joined-end values
    ∙ ap (so_far fault) (take_all number xs (omega (arith, last, has)))
