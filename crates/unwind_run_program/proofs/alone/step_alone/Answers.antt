use Rattle.std.proofs.Common.{◌≡◌, ℕ, List, [], ◌∷◌, true, false, Option, None, Result, Ok, Err, IfOk, OnOk, sym, ap, subst, ◌∙◌}
use Rattle.std.specs.Prelude.{IfSome}
use Rattle.std.specs.Result.{is_err}
use Rattle.std.proofs.lemmas.List.Elements.{All-replicate}
use Rattle.framehop_rules.specs.Outcome.{IsStep}
use Rattle.framehop_rules.specs.Slots.{Key, Kept, new_kept}
use Rattle.framehop_unwinder.specs.Frames.{frame_of}
use Rattle.framehop_unwinder.specs.Judge.{judge}
use Rattle.framehop_unwinder.specs.Modules.{Loaded, Loads, with_module}
use Rattle.framehop_unwinder.specs.RulesKept.{Fits, FitsEntry, SetFits}
use Rattle.unwind_run_program.proofs.alone.step_alone.Goals as goal

-- a module that was put into an empty list stands there alone
one_module : {Data E : Type 0} (answer : Result (Unit {0}) E) (old new : List (Loaded Data)) (module_ : Loaded Data)
    → is_err answer ≡ false → old ≡ [] → OnOk answer (new ≡ with_module (λ m. m.start) module_ old) → new ≡ module_ ∷ []
one_module (Ok done) old new module_ good none made = made ∙ ap (with_module (λ m. m.start) module_) none
one_module (Err error) old new module_ good none made = absurd (let e : true ≡ false = good in cc)

-- a new cache fits every unwinder
new_fits : {Rule : Type 0} (kept : Key → Option Rule) (generation : ℕ) (cache : Kept Rule) → cache ≡ new_kept 509 → Fits kept generation cache.sets
new_fits {Rule} kept generation cache empty =
    subst (λ (k : Kept Rule). Fits kept generation k.sets) (sym empty)
    (record { each = All-replicate (SetFits kept generation) 509 (None ∷ []) (All-replicate (λ slot. IfSome slot (FitsEntry kept generation)) 1 None tt) })

-- an unwinder that was made has no module
no_module : {Data E : Type 0} (answer : Result (Loads (Loaded Data)) E) (made empty : Loads (Loaded Data))
    → answer ≡ Ok made → IfOk answer (λ unwinder. unwinder ≡ empty) → made ≡ empty
no_module answer made empty is says = subst (λ r. IfOk r (λ unwinder. unwinder ≡ empty)) is says

pub returns-clause-step : goal.returns-clause-step
returns-clause-step g c =
    let m = g.A.ModuleUnwinding.meanings in
    let made = no_module c.new.result c.unwrap-unwinder.result _ c.unwrap-unwinder.ensures c.new.ensures.ok in
    let modules = one_module c.add_module.result c.unwrap-unwinder.result.modules c.add_module.new.self.modules c.args.module
    (sym c.is_err.ensures.value ∙ c.if-is_err.false) (ap (λ (u : Loads (Loaded g.row.A-UnwindData.Denot)). u.modules) made) c.add_module.ensures.modules in
    record {
      said = λ words answers unwanted.
          subst (λ (ms : List (Loaded g.row.A-UnwindData.Denot)). IsStep c.unwind_frame.result c.args.regs.now c.unwind_frame.new.regs (judge m ms (frame_of c.args.address) c.args.regs.now words))
          modules (c.unwind_frame.ensures.step.said words answers (new_fits _ _ _ c.in-Ok.ensures) unwanted);
      still = c.unwind_frame.ensures.step.still;
    }

pub returns-clause-stays : goal.returns-clause-stays
returns-clause-stays g c = c.unwind_frame.ensures.stays
