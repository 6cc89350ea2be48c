-- Runs of steps: those with an unwinder and a cache, in a session.
use Rattle.std.proofs.Common.{◌≡◌, ◌∙◌, ℕ, List, [], ◌∷◌, ◌++◌, Option, Some, None, Result, Ok, sym, ap, subst, refl}
use Rattle.std.specs.Prelude.{slice_set, option_map}
use Rattle.std.proofs.lemmas.List.{map-set}
use Rattle.framehop_registers.specs.declared.error.Error.{Error}
use Rattle.framehop_rules.specs.Slots.{Kept}
use Rattle.framehop_unwinder.specs.Attempt.{Meanings}
use Rattle.framehop_unwinder.specs.ByNumber.{held, marks, with_changed}
use Rattle.framehop_unwinder.specs.History.{HaveHistories}
use Rattle.framehop_unwinder.specs.HitReads.{RuleReads}
use Rattle.framehop_unwinder.specs.IdViews.{cache_number, unwinder_number}
use Rattle.framehop_unwinder.specs.Judge.{judge}
use Rattle.framehop_unwinder.specs.Modules.{Loaded, Loads}
use Rattle.framehop_unwinder.specs.RulesKept.{Sets, key_for, rule_kept, sets_after}
use Rattle.framehop_unwinder.specs.Runs.{PassesFrames, RunPoint, RunsOver, StepsIn, StepsWith, Stops, last_answer}
use Rattle.framehop_unwinder.specs.State.{IsSound, SessionState, histories_after_step, sets_of_all, unwinder_at}
use Rattle.framehop_unwinder.specs.Trials.{StepsAs, wants_memory}
use Rattle.framehop_unwinder.specs.declared.ids.CacheId.{CacheId}
use Rattle.framehop_unwinder.specs.declared.ids.UnwinderId.{UnwinderId}
use Rattle.framehop_unwinder.specs.declared.runs.RunEnd.{RunEnd}
use Rattle.framehop_unwinder.proofs.Held.{changed-is, held-map, held-put, marks-changed, set-again}
use Rattle.framehop_unwinder.proofs.Histories.{stands_after, step-have}
use Rattle.framehop_unwinder.proofs.HitReads.{session-reads}
use Rattle.framehop_unwinder.proofs.Loads.{holding, read-is}
use Rattle.framehop_unwinder.proofs.Sound.{fits_at, kept-is, sound_step}

-- a run that passes some frames, and from there others, passes all of them
pub passes-both : {Registers Stack Held : Type 0} (Step : Result (Option ℕ) Error → RunPoint Registers Stack Held → RunPoint Registers Stack Held → Type 0)
    (old mid new : RunPoint Registers Stack Held) (some others : List ℕ) → PassesFrames Step old some mid → PassesFrames Step mid others new → PassesFrames Step old (some ++ others) new
passes-both Step old mid new [] others passed rest = subst (λ start. PassesFrames Step start others new) passed rest
passes-both Step old mid new (address ∷ more) others (next, goes, passed) rest = (next, goes, passes-both Step next mid new more others passed rest)

module _ {D R Regs Stack : Type 0} (step : Stack → ℕ → Result ℕ (Unit {0}) → Stack → Type 0) (reads : RuleReads R Regs) (m : Meanings D R Regs) (next : ℕ)
    (loads : List (Option (Loads (Loaded D)))) (rules : List (Option (Kept R))) (unwinder : UnwinderId) (cache : CacheId) (u : Loads (Loaded D)) (first : Kept R)
    (mine : held loads (unwinder_number unwinder) ≡ Some u) (there : held rules (cache_number cache) ≡ Some first) where
  -- the caches with this in the one that steps go through
  abbrev with_rules : Kept R → List (Option (Kept R))
  with_rules kept = slice_set rules (cache_number cache) (Some kept)

  -- where a run is in the session
  abbrev pub in_session : RunPoint Regs Stack (Kept R) → RunPoint Regs Stack (SessionState D R)
  in_session at = record { frame = at.frame; registers = at.registers; stack = at.stack; held = holding loads next (with_rules at.held) }

  -- the caches can be shared
  abbrev pub Shared : Kept R → Type 0
  Shared kept = IsSound m next loads (sets_of_all (with_rules kept))

  sets_held : (kept : Kept R) → held (sets_of_all (with_rules kept)) (cache_number cache) ≡ Some kept.sets
  sets_held kept =
      held-map (λ (x : Kept R). x.sets) (with_rules kept) (cache_number cache)
      ∙ ap (option_map (λ (x : Kept R). x.sets)) (held-put rules (cache_number cache) first kept there)

  shared-after : (answer : Result (Option ℕ) Error) (old new : RunPoint Regs Stack (Kept R)) → Shared old.held → StepsWith step reads m u answer old new → Shared new.held
  shared-after answer old new shared steps =
      let k = cache_number cache in
      let after = sets_after (wants_memory answer) (rule_kept m u.modules) (key_for old.frame u.generation) old.held.layout old.held.sets in
      let sets_with : Kept R → List (Option (Sets R)) = λ kept. slice_set (sets_of_all rules) k (Some kept.sets) in
      let as_set : (kept : Kept R) → sets_of_all (with_rules kept) ≡ sets_with kept = λ kept. map-set (option_map (λ (x : Kept R). x.sets)) rules k (Some kept) in
      let sound = sound_step m next loads (sets_of_all (with_rules old.held)) (wants_memory answer) (unwinder_number unwinder) k u old.held.sets
      (key_for old.frame u.generation) old.held.layout mine (sets_held old.held) refl shared in
      subst (λ (xs : List (Option (Sets R))). IsSound m next loads xs)
      (ap (λ (xs : List (Option (Sets R))). slice_set xs k (Some after)) (as_set old.held)
      ∙ set-again (sets_of_all rules) k (Some old.held.sets) (Some after)
      ∙ ap (λ (x : Sets R). slice_set (sets_of_all rules) k (Some x)) (sym steps.cache.sets)
      ∙ sym (as_set new.held)) sound

  step-in : (answer : Result (Option ℕ) Error) (old new : RunPoint Regs Stack (Kept R)) → Shared old.held → StepsWith step reads m u answer old new
      → StepsIn step reads m unwinder cache answer (in_session old) (in_session new)
  step-in answer old new shared steps =
      let n = unwinder_number unwinder in
      let k = cache_number cache in
      let w = wants_memory answer in
      let now = with_rules old.held in
      let session = holding loads next now in
      let is = read-is loads next now session refl n u mine in
      let here = held-put rules k first old.held there in
      let stands : Loads (Loaded D) → Kept R → Kept R = λ x y. stands_after w (rule_kept m x.modules) (key_for old.frame x.generation) y in
      let made : Loads (Loaded D) = unwinder_at loads n in
      let all : with_rules new.held ≡ with_changed (stands made) now k =
      ap with_rules (kept-is new.held _ _ _ steps.cache.layout steps.cache.sets steps.cache.counts)
      ∙ ap (λ (x : Loads (Loaded D)). with_rules (stands x old.held)) is
      ∙ sym (set-again rules k (Some old.held) (Some (stands made old.held)))
      ∙ changed-is (stands made) now k old.held here in
      record {
        over = record {
          said = λ words answers wanted.
              subst (λ (x : Loads (Loaded D)). StepsAs answer old.registers new.registers (judge m x.modules old.frame old.registers words)) is
              (steps.over.said words answers (fits_at m next loads (sets_of_all now) n k u old.held.sets mine (sets_held old.held) shared)) wanted;
          still = steps.over.still;
        };
        order = session-reads step old.stack new.stack reads session unwinder cache old.frame old.registers u old.held is here steps.order;
        caches = record {
          unwinders = refl;
          next = refl;
          held = ap marks all ∙ marks-changed (stands made) now k;
          histories = λ histories have. subst (HaveHistories (histories_after_step m w old.frame made k histories)) (sym all)
              (step-have w (rule_kept m made.modules) (key_for old.frame made.generation) histories now k have);
        };
        stays = steps.stays;
      }

  passes-in : (old : RunPoint Regs Stack (Kept R)) (addresses : List ℕ) (new : RunPoint Regs Stack (Kept R)) → Shared old.held → PassesFrames (StepsWith step reads m u) old addresses new
      → PassesFrames (StepsIn step reads m unwinder cache) (in_session old) addresses (in_session new) × Shared new.held
  passes-in old [] new shared same = (ap in_session same, subst (λ (x : RunPoint Regs Stack (Kept R)). Shared x.held) (sym same) shared)
  passes-in old (address ∷ more) new shared (mid, goes, passed) =
      let rest = passes-in mid more new (shared-after (Ok (Some address)) old mid shared goes.step) passed in (
        (in_session mid, record { step = step-in (Ok (Some address)) old mid shared goes.step; frame = goes.frame; some = goes.some }, rest.0),
        rest.1,
      )

  stops-in : (answer : Option (Result (Option ℕ) Error)) (old new : RunPoint Regs Stack (Kept R)) → Shared old.held → Stops (StepsWith step reads m u) answer old new
      → Stops (StepsIn step reads m unwinder cache) answer (in_session old) (in_session new) × Shared new.held
  stops-in None old new shared same = (ap in_session same, subst (λ (x : RunPoint Regs Stack (Kept R)). Shared x.held) (sym same) shared)
  stops-in (Some answer) old new shared stops =
      (record { step = step-in answer old new shared stops.step; frame = stops.frame }, shared-after answer old new shared stops.step)

  -- a run with an unwinder and a cache of a session is one in it, and leaves caches that can be shared
  pub runs-in : (old : RunPoint Regs Stack (Kept R)) (addresses : List ℕ) (end : RunEnd) (new : RunPoint Regs Stack (Kept R)) → Shared old.held
      → RunsOver (StepsWith step reads m u) old addresses end new
      → RunsOver (StepsIn step reads m unwinder cache) (in_session old) addresses end (in_session new) × Shared new.held
  runs-in old addresses end new shared (last, passed, stops) =
      let way = passes-in old addresses last shared passed in
      let stop = stops-in (last_answer end) last new way.1 stops in
      ((in_session last, way.0, stop.0), stop.1)
