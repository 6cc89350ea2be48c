-- The value of an expression, request by request.
use Rattle.std.proofs.Common.{◌≡◌, ◌⊎◌, inl, inr, ℕ, zero, suc, ◌<◌, Option, Some, None, Result, Ok, Err, refl, subst, sym, ap, ◌∙◌, arith}
use Rattle.std.specs.Prelude.{option_and_then}
use Rattle.dwarf_constants.specs.declared.common.Register.{Register}
use Rattle.dwarf_constants.specs.declared.error.Error.{Error}
use Rattle.dwarf_constants.specs.declared.error.Error.TheVariants.{OutOfMemory}
use Rattle.dwarf_expressions.specs.Evaluation.{Answers, ComesTo, EvaluationInput, EvaluationState, Ready, Asking, Finished, Refused, operations_left, state_reached_with, value_in}
use Rattle.dwarf_expressions.specs.declared.evaluation.EvaluationResult.{EvaluationResult}
use Rattle.dwarf_expressions.specs.declared.evaluation.EvaluationResult.TheVariants.{Complete, RequiresRegister}
use Rattle.framehop_rows.specs.ExpressionValue.{RegisterValues, value_within, value_by_requests}

-- as many requests are left as there can be
abbrev pub Suffices : ℕ → EvaluationState → Type 0
Suffices n (Asking register offset m) = m.left < n
Suffices n (Ready m) = Unit {0}
Suffices n (Finished value) = Unit {0}
Suffices n (Refused e) = Unit {0}

-- the state comes to the value; or memory was wanted, which a stack that grows takes
pub record LeadsTo (p : EvaluationInput) (registers : RegisterValues) (value : Option ℕ) (state : EvaluationState) : Type 0 where
  pub count : ℕ
  pub suffices : Suffices count state
  pub is : value_within count p registers state ≡ value

abbrev pub LeadsOn : EvaluationInput → RegisterValues → Option ℕ → EvaluationState → Type 0
LeadsOn p registers value state = LeadsTo p registers value state ⊎ ((p.capacity ≡ None) × (state ≡ Refused OutOfMemory))

-- it does at the start
pub leads_from : (p : EvaluationInput) (registers : RegisterValues) (expected state : EvaluationState) → ComesTo p.capacity expected state → LeadsOn p registers (value_by_requests p registers expected) state
leads_from p registers expected state (inl is) = inl (rw is (record { count = suc (operations_left expected); suffices = enough expected; is = refl }))
  where
    enough : (s : EvaluationState) → Suffices (suc (operations_left s)) s
    enough (Asking register offset m) = omega arith
    enough (Ready m) = tt
    enough (Finished value) = tt
    enough (Refused e) = tt
leads_from p registers expected state (inr wanted) = inr wanted

-- where a register is asked for, its state says so
pub asked : (state : EvaluationState) (register : Register) (answer : Result EvaluationResult Error) → Answers state answer → answer ≡ Ok (RequiresRegister register)
    → (p : EvaluationInput) (registers : RegisterValues) (value : Option ℕ) → LeadsOn p registers value state
    → registers register ≡ None → None ≡ value
asked (Asking other offset m) register answer h is p registers value (inl leads) none = by leads.count leads.suffices leads.is
  where
    same : other ≡ register
    same = let e : ◌≡◌ {A = Result EvaluationResult Error} (Ok (RequiresRegister other)) (Ok (RequiresRegister register)) = sym h ∙ is in cc

    by : (n : ℕ) → m.left < n → value_within n p registers (Asking other offset m) ≡ value → None ≡ value
    by zero less e = absurd (omega arith)
    by (suc n) less e = sym (ap (option_and_then (λ found. value_within n p registers (state_reached_with p found (Asking other offset m)))) (ap registers same ∙ none)) ∙ e
asked (Asking other offset m) register answer h is p registers value (inr wanted) none = let e = wanted.1 in cc
asked (Ready m) register answer h is p registers value leads none = absurd h
asked (Finished found) register answer h is p registers value leads none = let e : ◌≡◌ {A = Result EvaluationResult Error} (Ok Complete) (Ok (RequiresRegister register)) = sym h ∙ is in cc
asked (Refused e) register answer h is p registers value leads none = let f : ◌≡◌ {A = Result EvaluationResult Error} (Err e) (Ok (RequiresRegister register)) = sym h ∙ is in cc

-- where the register has a value, the evaluation leads on with it
pub leads_on : (s t : EvaluationState) (register : Register) (found : ℕ) (answer next : Result EvaluationResult Error) → Answers s answer → answer ≡ Ok (RequiresRegister register) → Answers t next
    → ((other : Register) → next ≡ Ok (RequiresRegister other) → operations_left t < operations_left s)
    → (p : EvaluationInput) (registers : RegisterValues) (value : Option ℕ) → LeadsOn p registers value s → registers register ≡ Some found → ComesTo p.capacity (state_reached_with p found s) t → LeadsOn p registers value t
leads_on (Asking other offset m) t register found answer next h is k fewer p registers value (inl leads) has (inl comes) = inl (by leads.count leads.suffices leads.is)
  where
    same : other ≡ register
    same = let e : ◌≡◌ {A = Result EvaluationResult Error} (Ok (RequiresRegister other)) (Ok (RequiresRegister register)) = sym h ∙ is in cc

    enough : (n : ℕ) → m.left < suc n → (state : EvaluationState) → Answers state next → ((last : Register) → next ≡ Ok (RequiresRegister last) → operations_left state < m.left) → Suffices n state
    enough n less (Asking last o final) answers falls = let below = falls last answers in omega arith
    enough n less (Ready final) answers falls = tt
    enough n less (Finished v) answers falls = tt
    enough n less (Refused e) answers falls = tt

    by : (n : ℕ) → m.left < n → value_within n p registers (Asking other offset m) ≡ value → LeadsTo p registers value t
    by zero less e = absurd (omega arith)
    by (suc n) less e =
        record {
          count = n;
          suffices = enough n less t k fewer;
          is =
              ap (value_within n p registers) comes
              ∙ sym (ap (option_and_then (λ v. value_within n p registers (state_reached_with p v (Asking other offset m)))) (ap registers same ∙ has))
              ∙ e;
        }
leads_on (Asking other offset m) t register found answer next h is k fewer p registers value (inl leads) has (inr wanted) = inr wanted
leads_on (Asking other offset m) t register found answer next h is k fewer p registers value (inr wanted) has comes = let e = wanted.1 in cc
leads_on (Ready m) t register found answer next h is k fewer p registers value leads has comes = absurd h
leads_on (Finished v) t register found answer next h is k fewer p registers value leads has comes = let e : ◌≡◌ {A = Result EvaluationResult Error} (Ok Complete) (Ok (RequiresRegister register)) = sym h ∙ is in cc
leads_on (Refused e) t register found answer next h is k fewer p registers value leads has comes =
    let f : ◌≡◌ {A = Result EvaluationResult Error} (Err e) (Ok (RequiresRegister register)) = sym h ∙ is in cc

-- an evaluation that is over has the value
pub finished_with : (s : EvaluationState) (answer : Result EvaluationResult Error) → Answers s answer → answer ≡ Ok Complete → (p : EvaluationInput) (registers : RegisterValues) (value : Option ℕ) → LeadsOn p registers value s → value_in s ≡ value
finished_with (Finished v) answer h is p registers value (inl leads) = leads.is
finished_with (Finished v) answer h is p registers value (inr wanted) = let e = wanted.1 in cc
finished_with (Ready m) answer h is p registers value leads = absurd h
finished_with (Asking register offset m) answer h is p registers value leads = let e : ◌≡◌ {A = Result EvaluationResult Error} (Ok (RequiresRegister register)) (Ok Complete) = sym h ∙ is in cc
finished_with (Refused e) answer h is p registers value leads = let f : ◌≡◌ {A = Result EvaluationResult Error} (Err e) (Ok Complete) = sym h ∙ is in cc

-- one that is refused has none
pub refused_with : (s : EvaluationState) (answer : Result EvaluationResult Error) (e : Error) → Answers s answer → answer ≡ Err e → (e ≡ OutOfMemory → ⊥) → (p : EvaluationInput) (registers : RegisterValues) (value : Option ℕ)
    → LeadsOn p registers value s → None ≡ value
refused_with (Refused why) answer e h is other p registers value (inl leads) = leads.is
refused_with (Refused why) answer e h is other p registers value (inr wanted) =
    let f : ◌≡◌ {A = Result EvaluationResult Error} (Err why) (Err e) = sym h ∙ is in let g = wanted.1 in absurd (other (cc))
refused_with (Ready m) answer e h is other p registers value leads = absurd h
refused_with (Asking register offset m) answer e h is other p registers value leads = let f : ◌≡◌ {A = Result EvaluationResult Error} (Ok (RequiresRegister register)) (Err e) = sym h ∙ is in cc
refused_with (Finished v) answer e h is other p registers value leads = let f : ◌≡◌ {A = Result EvaluationResult Error} (Ok Complete) (Err e) = sym h ∙ is in cc

-- a state that asks for a register isn't refused
pub asks_on : (s : EvaluationState) (register : Register) (answer : Result EvaluationResult Error) (e : Error) → Answers s answer → answer ≡ Ok (RequiresRegister register) → s ≡ Refused e → ⊥
asks_on (Asking other offset m) register answer e h is same = cc
asks_on (Ready m) register answer e h is same = cc
asks_on (Finished v) register answer e h is same = cc
asks_on (Refused why) register answer e h is same = let f : ◌≡◌ {A = Result EvaluationResult Error} (Err why) (Ok (RequiresRegister register)) = sym h ∙ is in cc

-- where memory was wanted at a register's value, the stack grows
pub grows : (capacity : Option ℕ) (s : EvaluationState) (register : Register) (answer : Result EvaluationResult Error) → Answers s answer → answer ≡ Ok (RequiresRegister register)
    → (capacity ≡ None) ⊎ (s ≡ Refused OutOfMemory) → capacity ≡ None
grows capacity s register answer h is (inl none) = none
grows capacity s register answer h is (inr refused) = absurd (asks_on s register answer OutOfMemory h is refused)

-- how many requests there can be from an answer on
abbrev pub requests_left : Result EvaluationResult Error → EvaluationState → ℕ
requests_left (Ok (RequiresRegister register)) state = suc (operations_left state)
requests_left (Ok Complete) state = 0
requests_left (Err e) state = 0

-- each is one fewer
pub fewer_requests : (s t : EvaluationState) (register : Register) (answer next : Result EvaluationResult Error) → answer ≡ Ok (RequiresRegister register)
    → ((other : Register) → next ≡ Ok (RequiresRegister other) → operations_left t < operations_left s) → requests_left next t < requests_left answer s
fewer_requests s t register answer next is fewer = let P : Result EvaluationResult Error → Type 0 = λ a. requests_left next t < requests_left a s in subst P (sym is) (by next fewer)
  where
    by : (last : Result EvaluationResult Error) → ((other : Register) → last ≡ Ok (RequiresRegister other) → operations_left t < operations_left s) → requests_left last t < suc (operations_left s)
    by (Ok (RequiresRegister other)) falls = let below = falls other refl in omega arith
    by (Ok Complete) falls = omega arith
    by (Err e) falls = omega arith
