-- Sessions whose caches alone change.
use Rattle.std.proofs.Common.{◌≡◌, ℕ, Bool, true, false, List, [], ◌∷◌, ◌++◌, set, Option, Some, None, Result, Ok, Err, IfOk, refl, sym, ap, subst, ◌∙◌}
use Rattle.std.specs.Prelude.{◌&&◌, is_err, is_some, option_map, unwrap_or, IsOk, OnOk}
use Rattle.framehop_rules.specs.Slots.{Kept}
use Rattle.framehop_unwinder.specs.ByNumber.{held, is_held, mark, marks}
use Rattle.framehop_unwinder.specs.IdViews.{FindsHeld}
use Rattle.framehop_unwinder.specs.Modules.{Loaded, Loads}
use Rattle.framehop_unwinder.specs.State.{SessionState, empty_state, loads_with, modules_at, unwinder_at, with_modules, with_unwinder}
use Rattle.backtrace_walks.specs.SessionViews.{HasModules, IsReady, KeepsModules}

mark_is : {X : Type 0} (o : Option X) → is_some o ≡ is_some (option_map mark o)
mark_is None = refl
mark_is (Some x) = refl

-- the first is there as its mark is
pub first_held : {X : Type 0} (xs : List (Option X)) → is_held xs 0 ≡ is_held (marks xs) 0
first_held [] = refl
first_held (x ∷ xs) = mark_is x

pub keeps_all : {D R : Type 0} (session : SessionState D R) → KeepsModules session session
keeps_all session = record { unwinders = refl; caches = refl }

pub keeps_more : {D R : Type 0} (first old new : SessionState D R) → KeepsModules first old → KeepsModules old new → KeepsModules first new
keeps_more first old new one other = record { unwinders = other.unwinders ∙ one.unwinders; caches = other.caches ∙ one.caches }

pub stays_ready : {D R : Type 0} (old new : SessionState D R) → KeepsModules old new → IsReady old → IsReady new
stays_ready {D} {R} old new keeps ready = record {
  unwinder = subst (λ (us : List (Option (Loads (Loaded D)))). is_held us 0 ≡ true) (sym keeps.unwinders) ready.unwinder;
  cache = ap (λ (ms : List (Option (Unit {0}))). is_held ms 0) keeps.caches ∙ ready.cache;
}

pub modules_stay : {D R : Type 0} (old new : SessionState D R) → KeepsModules old new → modules_at new 0 ≡ modules_at old 0
modules_stay {D} old new keeps = ap (λ (us : List (Option (Loads (Loaded D)))). (unwinder_at us 0).modules) keeps.unwinders

-- the first is put anew
first_set : {X : Type 0} (xs : List (Option X)) (x : X) → is_held xs 0 ≡ true → held (set xs 0 (Some x)) 0 ≡ Some x
first_set [] x there = absurd (let no : false ≡ true = there in cc)
first_set (o ∷ xs) x there = refl

-- a session with one more cache
abbrev pub with_cache : {D R : Type 0} → SessionState D R → Kept R → SessionState D R
with_cache session cache = record session { caches = session.caches ++ Some cache ∷ [] }

-- a new session, with an unwinder and a cache
pub begun : {D R : Type 0} (next : ℕ) (cache : Kept R) (first one both : SessionState D R) → first ≡ empty_state next → one ≡ with_unwinder first → both ≡ with_cache one cache → HasModules [] both
begun {D} {R} next cache first one both is_first is_one is_both =
    let is : both ≡ with_cache (with_unwinder (empty_state next)) cache =
    is_both ∙ ap (λ (s : SessionState D R). with_cache s cache) (is_one ∙ ap with_unwinder is_first) in
    subst (λ (s : SessionState D R). HasModules [] s) (sym is) (record { ready = record { unwinder = refl; cache = refl }; modules = refl })

-- a module is loaded in the first unwinder
pub loaded : {D R : Type 0} (session : SessionState D R) (modules : List (Loaded D)) → IsReady session → HasModules modules (with_modules session 0 modules)
loaded {D} {R} session modules ready =
    let first = first_set session.unwinders (loads_with modules session.next) ready.unwinder in
    record {
      ready = record { unwinder = ap is_some first; cache = ready.cache };
      modules = ap (λ (loads : Option (Loads (Loaded D))). (unwrap_or loads (loads_with [] 0)).modules) first;
    }

-- nothing is loaded
pub unloaded : {D R : Type 0} (session : SessionState D R) → IsReady session → HasModules (modules_at session 0) session
unloaded session ready = record { ready = ready; modules = refl }

-- a session goes on having its modules
pub keeps_has : {D R : Type 0} (old new : SessionState D R) (modules : List (Loaded D)) → HasModules modules old → KeepsModules old new → HasModules modules new
keeps_has old new modules has keeps = record {
  ready = stays_ready old new keeps has.ready;
  modules = modules_stay old new keeps ∙ has.modules;
}

-- a call that names what is there is done
pub is_done : {X A E : Type 0} (there : Bool) (result : Result A E) (old new : X) → there ≡ true → FindsHeld there result old new → IsOk result
is_done there (Ok answer) old new is found = refl
is_done there (Err error) old new is found = absurd (let none : true ≡ false = sym is ∙ found.only in cc)

-- what holds if a call is done
pub if_done : {A E : Type 0} (result : Result A E) (answer : A) (Statement : A → Type 0) → result ≡ Ok answer → IfOk result Statement → Statement answer
if_done {A} {E} result answer Statement is said = subst (λ (r : Result A E). IfOk r Statement) is said

pub if_not_failed : {A E : Type 0} (result : Result A E) (Statement : Type 0) → is_err result ≡ false → OnOk result Statement → Statement
if_not_failed (Ok answer) Statement is said = said
if_not_failed (Err error) Statement is said = absurd (let none : true ≡ false = is in cc)

pub both_there : (one other : Bool) → one ≡ true → other ≡ true → (one && other) ≡ true
both_there one other is also = rw (is, also) refl
