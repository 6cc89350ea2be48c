use Rattle.std.proofs.Common.{ap, refl, Result, Ok, Err}
use Rattle.std.specs.Prelude.{IfOk}
use Rattle.framehop_unwinder.specs.ByNumber.{marks}
use Rattle.framehop_unwinder.specs.State.{SessionState}
use Rattle.test_framehop.specs.Callers.{nothing}
use Rattle.test_framehop.proofs.callers.answers_to.Goals as goal

if-ok : {A E : Type 0} {P Q : A → Type 0} (r : Result A E) → ((a : A) → P a → Q a) → IfOk r P → IfOk r Q
if-ok (Ok a) more has = more a has
if-ok (Err e) more has = tt

-- a new session is in the state in which nothing was made
pub returns : goal.returns
returns g c =
    let new = c.empty-session.ensures in
    if-ok c.perform.result (λ answers performs words said. (performs words said nothing (record {
      unwinders = ap (λ (s : SessionState g.row.A-UnwindData.Denot g.row.A-UnwindRule.Denot). s.unwinders) new;
      next = ap (λ (s : SessionState g.row.A-UnwindData.Denot g.row.A-UnwindRule.Denot). s.next) new;
      caches = ap (λ (s : SessionState g.row.A-UnwindData.Denot g.row.A-UnwindRule.Denot). marks s.caches) new;
      walks = refl;
    })).replies) c.perform.ensures.performs
