-- The module over which a step by a lookup is made, and the lines of such steps.
use Rattle.std.proofs.Common.{◌≡◌, ℕ, ◌^◌, List, [], Result, Ok, Err, IfOk, ap, ◌∙◌}
use Rattle.framehop_unwinder.specs.Modules.{Loaded}
use Rattle.unwind_run_program.specs.Roads.{address_behind, module_at}

-- what follows from two facts of a value
pub if_ok_both : {T E : Type 0} (r : Result T E) (P Q R : T → Type 0) → ((x : T) → P x → Q x → R x) → IfOk r P → IfOk r Q → IfOk r R
if_ok_both (Ok x) P Q R follows first second = follows x first second
if_ok_both (Err error) P Q R follows first second = tt

-- a module with these parts
pub same_module : {Data : Type 0} (module_ : Loaded Data) (base : ℕ) (given : Data)
    → module_.name ≡ [] → module_.start ≡ base → module_.end ≡ address_behind base (2 ^ 32) → module_.base ≡ base → module_.unwind_data ≡ given
    → module_ ≡ module_at base given
same_module {Data} module_ base given name start end_ based has =
    let part : List ℕ → ℕ → ℕ → ℕ → Data → Loaded Data = λ n s e b d. record { name = n; start = s; end = e; base = b; unwind_data = d } in
    let last = address_behind base (2 ^ 32) in
    ap (λ (n : List ℕ). part n module_.start module_.end module_.base module_.unwind_data) name
    ∙ ap (λ (s : ℕ). part [] s module_.end module_.base module_.unwind_data) start
    ∙ ap (λ (e : ℕ). part [] base e module_.base module_.unwind_data) end_
    ∙ ap (λ (b : ℕ). part [] base last b module_.unwind_data) based
    ∙ ap (λ (d : Data). part [] base last base d) has
