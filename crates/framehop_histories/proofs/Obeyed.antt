-- What a session's calls make of the state that commands are answered from.
use Rattle.std.proofs.Common.{◌≡◌, ◌∙◌, ℕ, zero, suc, ◌+◌, ◌-◌, ◌^◌, ◌<◌, ◌≤◌, Bool, true, false, List, [], ◌∷◌, ◌++◌, Option, Some, None, sym, ap, subst, refl, arith, length, get_or, map, inl, inr, Result, Ok, Err}
use Rattle.std.specs.Prelude.{nat_lt, if◌then◌else◌, option_map, slice_set, unwrap_or, IfErr, IsErr, OnErr, OnOk, ◌&&◌}
use Rattle.std.specs.List.{slice_get}
use Rattle.std.proofs.lemmas.Bool.{cases_lt}
use Rattle.std.proofs.lemmas.Bool.Decides.{Decides-ltb, not_from_Decides}
use Rattle.std.proofs.lemmas.List.{map-set, map_push}
use Rattle.framehop_registers.specs.Callback.{Words}
use Rattle.framehop_registers.specs.declared.error.Error.{Error}
use Rattle.framehop_registers.specs.declared.code_address.FrameAddress.{FrameAddress}
use Rattle.framehop_rules.specs.Outcome.{IsStep}
use Rattle.framehop_modules.specs.LoadErrors.{is_exhausted}
use Rattle.framehop_modules.specs.declared.generations.LoadError.{LoadError}
use Rattle.framehop_modules.specs.declared.generations.LoadError.TheVariants.{GenerationsExhausted}
use Rattle.framehop_unwinder.specs.Attempt.{Meanings}
use Rattle.framehop_unwinder.specs.ByNumber.{held, is_held, mark, marks}
use Rattle.framehop_unwinder.specs.Frames.{Frame}
use Rattle.framehop_unwinder.specs.History.{KeyHistory, HaveHistories, no_history}
use Rattle.framehop_unwinder.specs.IdViews.{FindsHeld}
use Rattle.framehop_unwinder.specs.Judge.{judge}
use Rattle.framehop_unwinder.specs.Memory.{AsksMemory, WantsMemoryOnlyIf}
use Rattle.framehop_unwinder.specs.Modules.{Loaded, Loads, with_loaded, without_loaded, is_loaded_at}
use Rattle.framehop_unwinder.specs.Moves.{MoveAsks}
use Rattle.framehop_rules.specs.Slots.{Kept, new_kept}
use Rattle.framehop_unwinder.specs.State.{ChangesCaches, SessionState, with_cache, unwinder_at, loads_with, with_modules, without_cache, without_unwinder, histories_after_step, histories_after_move}
use Rattle.framehop_unwinder.specs.Trials.{wants_memory}
use Rattle.framehop_unwinder.specs.Walk.{Walk, WalkPosition, Starts, At, Over, Move, move}
use Rattle.framehop_unwinder.specs.WalkViews.{walk_from, walk_of, place_of, frame_answer, move_made}
use Rattle.framehop_unwinder.specs.declared.iterator.StackWalk.{StackWalk}
use Rattle.framehop_histories.specs.Commands.{Act, NewUnwinder, NewCache, Load, Unload, Clone, RemoveUnwinder, RemoveCache, Step, NewWalk, NextFrame, CommandState, Reply, Added, Removed, Unknown, Exhausted, Stepped, Moved, if_known, modules_of, modules_with_cache, stepped, moved, reply_to}
use Rattle.framehop_histories.specs.StateAfter.{state_after, walk_place, with_moved}
use Rattle.framehop_histories.specs.Replies.{IsReply, is_done}
use Rattle.framehop_histories.specs.CommandViews.{reply_of}
use Rattle.framehop_histories.specs.Performs.{IsIn, IsObeyed, StaysUnlessDone}
use Rattle.framehop_histories.specs.declared.commands.Answer.{Answer}
use Rattle.framehop_histories.specs.declared.commands.Answer.TheVariants as answers
use Rattle.framehop_histories.proofs.Held.{held-by-marks, held-known, held-unknown, marks-changed}

-- what stands at a number of a list, and nothing past its end
pub get-map : {X Y : Type 0} (f : X → Y) (xs : List X) (i : ℕ) (default : X) → i < length xs → slice_get (map f xs) i ≡ Some (f (get_or xs i default))
get-map f [] i default less = absurd (omega arith)
get-map f (x ∷ xs) zero default less = refl
get-map f (x ∷ xs) (suc i) default less = get-map f xs i default (omega arith)

pub get-past : {X Y : Type 0} (f : X → Y) (xs : List X) (i : ℕ) → length xs ≤ i → slice_get (map f xs) i ≡ None
get-past f [] i past = refl
get-past f (x ∷ xs) zero past = absurd (omega arith)
get-past f (x ∷ xs) (suc i) past = get-past f xs i (omega arith)

less-by : (i n : ℕ) (test : Bool) → nat_lt i n ≡ test → i < n → test ≡ true
less-by i n true is less = refl
less-by i n false is less = absurd (not_from_Decides (nat_lt i n) (Decides-ltb i n) is less)

is-less : (i n : ℕ) → i < n → nat_lt i n ≡ true
is-less i n less = less-by i n (nat_lt i n) refl less

past-by : (i n : ℕ) (test : Bool) → nat_lt i n ≡ test → n ≤ i → test ≡ false
past-by i n false is past = refl
past-by i n true is past = absurd (omega (arith, (Decides-ltb i n).0 is))

is-past : (i n : ℕ) → n ≤ i → nat_lt i n ≡ false
is-past i n past = past-by i n (nat_lt i n) refl past

below-last : (next : ℕ) → (2 ^ 64 - 1 ≤ next → ⊥) → next < 2 ^ 64 - 1
below-last next not_last = elim (cases_lt next (2 ^ 64 - 1)) [
  | inl less ↦ less
  | inr last ↦ absurd (not_last last)
]

-- a call that found what it names, or did not
pub was-found : {X A E : Type 0} (there : Bool) (result : Result A E) (old new : X) (answer : A) → FindsHeld there result old new → result ≡ Ok answer → there ≡ true
was-found true result old new answer found is = refl
was-found {A} {E} false result old new answer found is = absurd (let none : false ≡ true = subst (λ (r : Result A E). IsErr r) is (found.stale refl) in cc)

pub both-left : (a b : Bool) → (a && b) ≡ true → a ≡ true
both-left true b both = refl
both-left false b both = both

pub both-right : (a b : Bool) → (a && b) ≡ true → b ≡ true
both-right true b both = both
both-right false b both = absurd (let none : false ≡ true = both in cc)

-- what holds if a call is done, or if it fails
pub if-done : {A E : Type 0} (result : Result A E) (value : A) (Statement : Type 0) → result ≡ Ok value → OnOk result Statement → Statement
if-done {A} {E} result value Statement is said = subst (λ (r : Result A E). OnOk r Statement) is said

pub if-failed : {A E : Type 0} (result : Result A E) (error : E) (Statement : Type 0) → result ≡ Err error → OnErr result Statement → Statement
if-failed {A} {E} result error Statement is said = subst (λ (r : Result A E). OnErr r Statement) is said

failed-stays : {X Regs : Type 0} (answer : Answer Regs) (old new : X) (cause : Bool) → (cause ≡ true → answer ≡ answers.GenerationsExhausted) → (cause ≡ false → answer ≡ answers.OutOfMemory) → new ≡ old → StaysUnlessDone answer old new
failed-stays answer old new true spent refused same = rw (spent refl) same
failed-stays answer old new false spent refused same = rw (refused refl) same

pub load-stays : {X Regs M : Type 0} (loaded : Result (Unit {0}) (LoadError M)) (answer : Answer Regs) (old new : X) → OnOk loaded (answer ≡ answers.Added)
    → IfErr loaded (λ error. is_exhausted error ≡ true → answer ≡ answers.GenerationsExhausted) → IfErr loaded (λ error. is_exhausted error ≡ false → answer ≡ answers.OutOfMemory) → OnErr loaded (new ≡ old)
    → StaysUnlessDone answer old new
load-stays (Ok done) answer old new added spent refused same = rw added tt
load-stays (Err error) answer old new added spent refused same = failed-stays answer old new (is_exhausted error) spent refused same

set-same : {X : Type 0} (xs : List X) (i : ℕ) (default : X) → i < length xs → slice_set xs i (get_or xs i default) ≡ xs
set-same [] i default less = refl
set-same (x ∷ xs) zero default less = refl
set-same (x ∷ xs) (suc i) default less = ap (λ ys. x ∷ ys) (set-same xs i default (omega arith))

pub not-true : false ≡ true → ⊥
not-true is = cc

pub not-both : {X E : Type 0} (result : Result X E) (value : X) (error : E) → result ≡ Ok value → result ≡ Err error → ⊥
not-both result value error good bad = absurd (let e : Ok value ≡ Err error = sym good ∙ bad in cc)

-- a refused load is refused for one cause
abbrev exhausted-in : {M : Type 0} → Result (Unit {0}) (LoadError M) → Bool
exhausted-in (Ok done) = false
exhausted-in (Err error) = is_exhausted error

pub one-cause : {M : Type 0} (result : Result (Unit {0}) (LoadError M)) (module_ : M) (error : LoadError M) → result ≡ Err (GenerationsExhausted module_) → result ≡ Err error → is_exhausted error ≡ false → ⊥
one-cause result module_ error one other not = not-true (sym not ∙ sym (ap exhausted-in other) ∙ ap exhausted-in one)

takes-if : (takes wanted : Bool) → (takes ≡ false → wanted ≡ false) → wanted ≡ true → takes ≡ true
takes-if true wanted none is = refl
takes-if false wanted none is = absurd (let e : true ≡ false = sym is ∙ none refl in cc)

same-step : {Regs : Type 0} (answer other : Result (Option ℕ) Error) (new also : Regs) → answer ≡ other → new ≡ also → Stepped answer new ≡ Stepped other also
same-step answer other new also p q = ap (λ x. Stepped x new) p ∙ ap (λ x. Stepped other x) q

module _ {D R Regs : Type 0} (takes : Bool) (asks : D → ℕ → Bool → Type 0) (m : Meanings D R Regs) where
  -- a state of its parts, and that of a session
  abbrev pub parts : List (Option (Loads (Loaded D))) → ℕ → List (Option KeyHistory) → List (Walk Regs) → CommandState D Regs
  parts us n hs ws = record { model = record { unwinders = us; next = n; histories = hs }; walks = ws }

  abbrev pub standing : SessionState D R → List (Option KeyHistory) → List (Walk Regs) → CommandState D Regs
  standing s hs ws = parts s.unwinders s.next hs ws

  -- a command with this reply, from every state that the session and the walks were in
  abbrev pub Meets : Act D Regs → SessionState D R → List (Walk Regs) → Option (Reply Regs) → SessionState D R → List (Walk Regs) → Type 0
  Meets act old ws reply new vs = (state : CommandState D Regs) → IsIn state old ws → IsObeyed takes asks m act state old reply new vs

  abbrev pub MeetsInSession : Act D Regs → SessionState D R → Option (Reply Regs) → SessionState D R → Type 0
  MeetsInSession act old reply new = (ws : List (Walk Regs)) → Meets act old ws reply new ws

  -- from every state that a session was in, if from those with any histories
  pub from-any : (act : Act D Regs) (old new : SessionState D R) (ws vs : List (Walk Regs)) (reply : Option (Reply Regs))
      → ((hs : List (Option KeyHistory)) → marks old.caches ≡ marks hs → IsObeyed takes asks m act (standing old hs ws) old reply new vs)
      → Meets act old ws reply new vs
  from-any act old new ws vs reply here = λ state is.
      let hs = state.model.histories in
      let same : standing old hs ws ≡ state =
      ap (λ (us : List (Option (Loads (Loaded D)))). parts us old.next hs ws) is.unwinders
      ∙ ap (λ (n : ℕ). parts state.model.unwinders n hs ws) is.next
      ∙ ap (λ (w : List (Walk Regs)). parts state.model.unwinders state.model.next hs w) is.walks in
      subst (λ (st : CommandState D Regs). IsObeyed takes asks m act st old reply new vs) same (here hs is.caches)

  -- a command is obeyed if it has its reply, and the session has the parts of the state after it
  pub is-obeyed : (act : Act D Regs) (s new : SessionState D R) (hs gs : List (Option KeyHistory)) (ws vs zs : List (Walk Regs)) (us : List (Option (Loads (Loaded D)))) (n : ℕ) (reply : Option (Reply Regs))
      → IsReply takes asks m act (standing s hs ws) reply
      → state_after m act (standing s hs ws) reply ≡ parts us n gs vs
      → new.unwinders ≡ us → new.next ≡ n → marks new.caches ≡ marks gs → zs ≡ vs → (HaveHistories hs s.caches → HaveHistories gs new.caches)
      → IsObeyed takes asks m act (standing s hs ws) s reply new zs
  is-obeyed act s new hs gs ws vs zs us n reply replied after p q r e keeps = record {
    reply = replied;
    state = subst (λ (st : CommandState D Regs). IsIn st new zs) (sym after) (record { unwinders = p; next = q; caches = r; walks = e });
    histories = λ have. subst (λ (st : CommandState D Regs). HaveHistories st.model.histories new.caches) (sym after) (keeps have);
  }

  -- a command that leaves a session
  pub stays : (act : Act D Regs) (s new : SessionState D R) (hs : List (Option KeyHistory)) (ws zs : List (Walk Regs)) (reply : Option (Reply Regs))
      → IsReply takes asks m act (standing s hs ws) reply → state_after m act (standing s hs ws) reply ≡ standing s hs ws
      → new ≡ s → zs ≡ ws → marks s.caches ≡ marks hs
      → IsObeyed takes asks m act (standing s hs ws) s reply new zs
  stays act s new hs ws zs reply replied after same e count =
      is-obeyed act s new hs hs ws ws zs s.unwinders s.next reply replied after
      (ap (λ (x : SessionState D R). x.unwinders) same) (ap (λ (x : SessionState D R). x.next) same) (ap (λ (x : SessionState D R). marks x.caches) same ∙ count) e
      (λ have. subst (λ (x : SessionState D R). HaveHistories hs x.caches) (sym same) have)

  -- a number is left, or none
  left : (next : ℕ) (reply : Reply Regs) → (2 ^ 64 - 1 ≤ next → ⊥) → (if nat_lt next (2 ^ 64 - 1) then reply else Exhausted) ≡ reply
  left next reply not_last = ap (λ (b : Bool). if b then reply else Exhausted) (is-less next (2 ^ 64 - 1) (below-last next not_last))

  spent : (next : ℕ) (reply : Reply Regs) → next ≡ 2 ^ 64 - 1 → (if nat_lt next (2 ^ 64 - 1) then reply else Exhausted) ≡ Exhausted
  spent next reply last = ap (λ (b : Bool). if b then reply else Exhausted) (is-past next (2 ^ 64 - 1) (omega (arith, last)))

  -- the modules of an unwinder of a session
  known : (s : SessionState D R) (i : ℕ) → is_held s.unwinders i ≡ true → held (map (option_map (λ (u : Loads (Loaded D)). u.modules)) s.unwinders) i ≡ Some (unwinder_at s.unwinders i).modules
  known s i there = held-known (λ (u : Loads (Loaded D)). u.modules) s.unwinders i (record { modules = []; generation = 0 }) there

  unknown : (s : SessionState D R) (i : ℕ) → is_held s.unwinders i ≡ false → held (map (option_map (λ (u : Loads (Loaded D)). u.modules)) s.unwinders) i ≡ None
  unknown s i gone = held-unknown (λ (u : Loads (Loaded D)). u.modules) s.unwinders i gone

  have-without : (hs : List (Option KeyHistory)) (cs : List (Option (Kept R))) (c : ℕ) → HaveHistories hs cs → HaveHistories (slice_set hs c None) (slice_set cs c None)
  have-without [] [] c have = tt
  have-without [] (k ∷ cs) c have = absurd have
  have-without (h ∷ hs) [] c have = absurd have
  have-without (h ∷ hs) (k ∷ cs) zero have = (tt, have.1)
  have-without (h ∷ hs) (k ∷ cs) (suc c) have = (have.0, have-without hs cs c have.1)

  if-there : {X : Type 0} (found : Option X) (it : X) (next : X → Reply Regs) → found ≡ Some it → if_known found next ≡ next it
  if-there found it next is = ap (λ x. if_known x next) is

  if-gone : {X : Type 0} (found : Option X) (next : X → Reply Regs) → found ≡ None → if_known found next ≡ Unknown
  if-gone found next is = ap (λ x. if_known x next) is

  -- a cache is there as its history is
  history-there : (s : SessionState D R) (hs : List (Option KeyHistory)) (c : ℕ) (there : Bool) → marks s.caches ≡ marks hs → is_held s.caches c ≡ there → is_held hs c ≡ there
  history-there s hs c there same is = held-by-marks hs c ∙ ap (λ (ms : List (Option (Unit {0}))). is_held ms c) (sym same) ∙ sym (held-by-marks s.caches c) ∙ is

  with-cache : (s : SessionState D R) (hs : List (Option KeyHistory)) (ws : List (Walk Regs)) (i c : ℕ) → marks s.caches ≡ marks hs → is_held s.unwinders i ≡ true → is_held s.caches c ≡ true
      → modules_with_cache (standing s hs ws) i c ≡ Some (unwinder_at s.unwinders i).modules
  with-cache s hs ws i c same known_ there =
      ap (λ (b : Bool). if b then modules_of (standing s hs ws) i else None) (history-there s hs c true same there) ∙ known s i known_

  without-cache : (s : SessionState D R) (hs : List (Option KeyHistory)) (ws : List (Walk Regs)) (i c : ℕ) → marks s.caches ≡ marks hs → is_held s.caches c ≡ false
      → modules_with_cache (standing s hs ws) i c ≡ None
  without-cache s hs ws i c same gone = ap (λ (b : Bool). if b then modules_of (standing s hs ws) i else None) (history-there s hs c false same gone)

  unless-there : (s : SessionState D R) (hs : List (Option KeyHistory)) (ws : List (Walk Regs)) (i c : ℕ) (test : Bool) → is_held s.unwinders i ≡ false
      → (if test then modules_of (standing s hs ws) i else None) ≡ None
  unless-there s hs ws i c true past = unknown s i past
  unless-there s hs ws i c false past = refl

  without-unwinder : (s : SessionState D R) (hs : List (Option KeyHistory)) (ws : List (Walk Regs)) (i c : ℕ) → is_held s.unwinders i ≡ false → modules_with_cache (standing s hs ws) i c ≡ None
  without-unwinder s hs ws i c past = unless-there s hs ws i c (is_held hs c) past

  -- a new unwinder
  pub unwinder-made : (s new : SessionState D R) → (2 ^ 64 - 1 ≤ s.next → ⊥) → new ≡ record s { unwinders = s.unwinders ++ Some (loads_with [] s.next) ∷ []; next = s.next + 1 }
      → MeetsInSession NewUnwinder s (Some Added) new
  unwinder-made s new not_last e = λ ws. from-any NewUnwinder s new ws ws (Some Added) (λ hs count.
      is-obeyed NewUnwinder s new hs hs ws ws ws (s.unwinders ++ Some (loads_with [] s.next) ∷ []) (s.next + 1) (Some Added) (sym (left s.next Added not_last)) refl
      (ap (λ (x : SessionState D R). x.unwinders) e) (ap (λ (x : SessionState D R). x.next) e) (ap (λ (x : SessionState D R). marks x.caches) e ∙ count) refl
      (λ have. subst (λ (x : SessionState D R). HaveHistories hs x.caches) (sym e) have))

  pub unwinder-exhausted : (s new : SessionState D R) → s.next ≡ 2 ^ 64 - 1 → new ≡ s → MeetsInSession NewUnwinder s (Some Exhausted) new
  unwinder-exhausted s new last same = λ ws. from-any NewUnwinder s new ws ws (Some Exhausted) (λ hs count. stays NewUnwinder s new hs ws ws (Some Exhausted) (sym (spent s.next Added last)) refl same refl count)

  pub unwinder-refused : (s new : SessionState D R) → (2 ^ 64 - 1 ≤ s.next → ⊥) → new ≡ s → MeetsInSession NewUnwinder s None new
  unwinder-refused s new not_last same = λ ws. from-any NewUnwinder s new ws ws None (λ hs count. stays NewUnwinder s new hs ws ws None (ap is_done (left s.next Added not_last), tt) refl same refl count)

  -- a new cache
  pub cache-made : (slots : ℕ) (s new : SessionState D R) → new ≡ with_cache s slots
      → ((hs : List (Option KeyHistory)) → HaveHistories hs s.caches → HaveHistories (hs ++ Some (no_history slots) ∷ []) new.caches)
      → MeetsInSession (NewCache slots) s (Some Added) new
  cache-made slots s new e keeps = λ ws. from-any (NewCache slots) s new ws ws (Some Added) (λ hs count.
      is-obeyed (NewCache slots) s new hs (hs ++ Some (no_history slots) ∷ []) ws ws ws s.unwinders s.next (Some Added) refl refl
      (ap (λ (x : SessionState D R). x.unwinders) e) (ap (λ (x : SessionState D R). x.next) e)
      (ap (λ (x : SessionState D R). marks x.caches) e ∙ map_push (option_map mark) s.caches (Some (new_kept slots))
      ∙ ap (λ (ms : List (Option (Unit {0}))). ms ++ Some tt ∷ []) count ∙ sym (map_push (option_map mark) hs (Some (no_history slots))))
      refl (keeps hs))

  pub cache-refused : (slots : ℕ) (s new : SessionState D R) → new ≡ s → MeetsInSession (NewCache slots) s None new
  cache-refused slots s new same = λ ws. from-any (NewCache slots) s new ws ws None (λ hs count. stays (NewCache slots) s new hs ws ws None (refl, tt) refl same refl count)

  -- a load
  pub load-unknown : (s new : SessionState D R) (i : ℕ) (module_ : Loaded D) → is_held s.unwinders i ≡ false → new ≡ s → MeetsInSession (Load i module_) s (Some Unknown) new
  load-unknown s new i module_ past same = λ ws. from-any (Load i module_) s new ws ws (Some Unknown) (λ hs count. stays (Load i module_) s new hs ws ws (Some Unknown) (sym (if-gone _ _ (unknown s i past))) refl same refl count)

  pub load-made : (s new : SessionState D R) (i : ℕ) (module_ : Loaded D) → is_held s.unwinders i ≡ true → (2 ^ 64 - 1 ≤ s.next → ⊥)
      → new ≡ with_modules s i (with_loaded module_ (unwinder_at s.unwinders i).modules)
      → MeetsInSession (Load i module_) s (Some Added) new
  load-made s new i module_ less not_last e = λ ws. from-any (Load i module_) s new ws ws (Some Added) (λ hs count.
      is-obeyed (Load i module_) s new hs hs ws ws ws (slice_set s.unwinders i (Some (loads_with (with_loaded module_ (unwinder_at s.unwinders i).modules) s.next))) (s.next + 1) (Some Added)
      (sym (if-there _ _ _ (known s i less) ∙ left s.next Added not_last)) refl
      (ap (λ (x : SessionState D R). x.unwinders) e) (ap (λ (x : SessionState D R). x.next) e) (ap (λ (x : SessionState D R). marks x.caches) e ∙ count) refl
      (λ have. subst (λ (x : SessionState D R). HaveHistories hs x.caches) (sym e) have))

  pub load-exhausted : (s new : SessionState D R) (i : ℕ) (module_ : Loaded D) → is_held s.unwinders i ≡ true → s.next ≡ 2 ^ 64 - 1 → new ≡ s
      → MeetsInSession (Load i module_) s (Some Exhausted) new
  load-exhausted s new i module_ less last same = λ ws. from-any (Load i module_) s new ws ws (Some Exhausted) (λ hs count.
      stays (Load i module_) s new hs ws ws (Some Exhausted) (sym (if-there _ _ _ (known s i less) ∙ spent s.next Added last)) refl same refl count)

  pub load-refused : (s new : SessionState D R) (i : ℕ) (module_ : Loaded D) → is_held s.unwinders i ≡ true → (2 ^ 64 - 1 ≤ s.next → ⊥) → new ≡ s
      → MeetsInSession (Load i module_) s None new
  load-refused s new i module_ less not_last same = λ ws. from-any (Load i module_) s new ws ws None (λ hs count.
      stays (Load i module_) s new hs ws ws None (ap is_done (if-there _ _ _ (known s i less) ∙ left s.next Added not_last), tt) refl same refl count)

  load-failed : (cause : Bool) (s new : SessionState D R) (i : ℕ) (module_ : Loaded D) (error : LoadError (Loaded D)) (answer : Answer Regs) → is_exhausted error ≡ cause → is_held s.unwinders i ≡ true
      → (2 ^ 64 - 1 ≤ s.next → (let failed : Result (Unit {0}) (LoadError (Loaded D)) = Err error in failed ≡ Err (GenerationsExhausted module_))) → (is_exhausted error ≡ true → s.next ≡ 2 ^ 64 - 1) → new ≡ s
      → (is_exhausted error ≡ true → answer ≡ answers.GenerationsExhausted) → (is_exhausted error ≡ false → answer ≡ answers.OutOfMemory)
      → MeetsInSession (Load i module_) s (reply_of answer) new
  load-failed true s new i module_ error answer is there exhausted only same spent_ refused = rw (spent_ is) (load-exhausted s new i module_ there (only is) same)
  load-failed false s new i module_ error answer is there exhausted only same spent_ refused =
      rw (refused is) (load-refused s new i module_ there (λ last. one-cause (Err error) module_ error (exhausted last) refl is) same)

  pub load-answered : (s new : SessionState D R) (i : ℕ) (module_ : Loaded D) (loaded : Result (Unit {0}) (LoadError (Loaded D))) (answer : Answer Regs) → is_held s.unwinders i ≡ true
      → OnOk loaded (new ≡ with_modules s i (with_loaded module_ (unwinder_at s.unwinders i).modules))
      → (2 ^ 64 - 1 ≤ s.next → loaded ≡ Err (GenerationsExhausted module_)) → IfErr loaded (λ error. is_exhausted error ≡ true → s.next ≡ 2 ^ 64 - 1) → OnErr loaded (new ≡ s)
      → OnOk loaded (answer ≡ answers.Added) → IfErr loaded (λ error. is_exhausted error ≡ true → answer ≡ answers.GenerationsExhausted) → IfErr loaded (λ error. is_exhausted error ≡ false → answer ≡ answers.OutOfMemory)
      → MeetsInSession (Load i module_) s (reply_of answer) new
  load-answered s new i module_ (Ok done) answer there made exhausted only same added spent_ refused =
      rw added (load-made s new i module_ there (λ last. not-both (Ok done) done _ refl (exhausted last)) made)
  load-answered s new i module_ (Err error) answer there made exhausted only same added spent_ refused =
      load-failed (is_exhausted error) s new i module_ error answer refl there exhausted only same spent_ refused

  -- an unload
  pub unload-unknown : (s new : SessionState D R) (i start : ℕ) → is_held s.unwinders i ≡ false → new ≡ s → MeetsInSession (Unload i start) s (Some Unknown) new
  unload-unknown s new i start past same = λ ws. from-any (Unload i start) s new ws ws (Some Unknown) (λ hs count. stays (Unload i start) s new hs ws ws (Some Unknown) (sym (if-gone _ _ (unknown s i past))) refl same refl count)

  -- the reply to an unload, and the unwinders and the number after it
  unload-reply : (s : SessionState D R) (hs : List (Option KeyHistory)) (ws : List (Walk Regs)) (i start : ℕ) (has : Bool) → is_held s.unwinders i ≡ true → is_loaded_at start (unwinder_at s.unwinders i).modules ≡ has
      → reply_to m (Unload i start) (standing s hs ws) ≡ (if has then (if nat_lt s.next (2 ^ 64 - 1) then Removed else Exhausted) else Removed)
  unload-reply s hs ws i start has less is = if-there _ _ _ (known s i less) ∙ ap (λ (b : Bool). if b then (if nat_lt s.next (2 ^ 64 - 1) then Removed else Exhausted) else Removed) is

  unload-state : (s : SessionState D R) (hs : List (Option KeyHistory)) (ws : List (Walk Regs)) (i start : ℕ) (has : Bool) → is_loaded_at start (unwinder_at s.unwinders i).modules ≡ has
      → state_after m (Unload i start) (standing s hs ws) (Some Removed)
      ≡ record { model = if has then record { unwinders = slice_set s.unwinders i (Some (loads_with (without_loaded start (unwinder_at s.unwinders i).modules) s.next)); next = s.next + 1; histories = hs } else record { unwinders = s.unwinders; next = s.next; histories = hs }; walks = ws }
  unload-state s hs ws i start has is =
      ap (λ (b : Bool). record { model = if b then record { unwinders = slice_set s.unwinders i (Some (loads_with (without_loaded start (unwinder_at s.unwinders i).modules) s.next)); next = s.next + 1; histories = hs } else record { unwinders = s.unwinders; next = s.next; histories = hs }; walks = ws }) is

  unload-made-by : (has : Bool) (s new : SessionState D R) (i start : ℕ) → is_held s.unwinders i ≡ true → is_loaded_at start (unwinder_at s.unwinders i).modules ≡ has
      → (has ≡ false → new ≡ s) → (has ≡ true → 2 ^ 64 - 1 ≤ s.next → ⊥) → (has ≡ true → new ≡ with_modules s i (without_loaded start (unwinder_at s.unwinders i).modules))
      → MeetsInSession (Unload i start) s (Some Removed) new
  unload-made-by false s new i start less is same not_last changed = λ ws. from-any (Unload i start) s new ws ws (Some Removed) (λ hs count.
      stays (Unload i start) s new hs ws ws (Some Removed) (sym (unload-reply s hs ws i start false less is)) (unload-state s hs ws i start false is) (same refl) refl count)
  unload-made-by true s new i start less is same not_last changed =
      let e = changed refl in
      λ ws. from-any (Unload i start) s new ws ws (Some Removed) (λ hs count.
      is-obeyed (Unload i start) s new hs hs ws ws ws (slice_set s.unwinders i (Some (loads_with (without_loaded start (unwinder_at s.unwinders i).modules) s.next))) (s.next + 1) (Some Removed)
      (sym (unload-reply s hs ws i start true less is ∙ left s.next Removed (not_last refl))) (unload-state s hs ws i start true is)
      (ap (λ (x : SessionState D R). x.unwinders) e) (ap (λ (x : SessionState D R). x.next) e) (ap (λ (x : SessionState D R). marks x.caches) e ∙ count) refl
      (λ have. subst (λ (x : SessionState D R). HaveHistories hs x.caches) (sym e) have))

  pub unload-made : (s new : SessionState D R) (i start : ℕ) → is_held s.unwinders i ≡ true → (let has = is_loaded_at start (unwinder_at s.unwinders i).modules in
      (has ≡ false → new ≡ s) → (has ≡ true → 2 ^ 64 - 1 ≤ s.next → ⊥) → (has ≡ true → new ≡ with_modules s i (without_loaded start (unwinder_at s.unwinders i).modules))
      → MeetsInSession (Unload i start) s (Some Removed) new)
  unload-made s new i start less = unload-made-by _ s new i start less refl

  unload-exhausted-by : (has : Bool) (s new : SessionState D R) (i start : ℕ) → is_held s.unwinders i ≡ true → is_loaded_at start (unwinder_at s.unwinders i).modules ≡ has
      → (has ≡ false → ⊥) → s.next ≡ 2 ^ 64 - 1 → new ≡ s → MeetsInSession (Unload i start) s (Some Exhausted) new
  unload-exhausted-by false s new i start less is there last same = absurd (there refl)
  unload-exhausted-by true s new i start less is there last same = λ ws. from-any (Unload i start) s new ws ws (Some Exhausted) (λ hs count.
      stays (Unload i start) s new hs ws ws (Some Exhausted) (sym (unload-reply s hs ws i start true less is ∙ spent s.next Removed last)) refl same refl count)

  pub unload-exhausted : (s new : SessionState D R) (i start : ℕ) → is_held s.unwinders i ≡ true → (is_loaded_at start (unwinder_at s.unwinders i).modules ≡ false → ⊥) → s.next ≡ 2 ^ 64 - 1 → new ≡ s
      → MeetsInSession (Unload i start) s (Some Exhausted) new
  unload-exhausted s new i start less = unload-exhausted-by _ s new i start less refl

  -- a clone
  pub clone-unknown : (s new : SessionState D R) (i : ℕ) → is_held s.unwinders i ≡ false → new ≡ s → MeetsInSession (Clone i) s (Some Unknown) new
  clone-unknown s new i past same = λ ws. from-any (Clone i) s new ws ws (Some Unknown) (λ hs count. stays (Clone i) s new hs ws ws (Some Unknown) (sym (if-gone _ _ (unknown s i past))) refl same refl count)

  pub clone-made : (s new : SessionState D R) (i : ℕ) → is_held s.unwinders i ≡ true → new ≡ record s { unwinders = s.unwinders ++ Some (unwinder_at s.unwinders i) ∷ [] }
      → MeetsInSession (Clone i) s (Some Added) new
  clone-made s new i less e = λ ws. from-any (Clone i) s new ws ws (Some Added) (λ hs count.
      is-obeyed (Clone i) s new hs hs ws ws ws (s.unwinders ++ Some (unwinder_at s.unwinders i) ∷ []) s.next (Some Added) (sym (if-there _ _ _ (known s i less))) refl
      (ap (λ (x : SessionState D R). x.unwinders) e) (ap (λ (x : SessionState D R). x.next) e) (ap (λ (x : SessionState D R). marks x.caches) e ∙ count) refl
      (λ have. subst (λ (x : SessionState D R). HaveHistories hs x.caches) (sym e) have))

  pub clone-refused : (s new : SessionState D R) (i : ℕ) → is_held s.unwinders i ≡ true → new ≡ s → MeetsInSession (Clone i) s None new
  clone-refused s new i less same = λ ws. from-any (Clone i) s new ws ws None (λ hs count. stays (Clone i) s new hs ws ws None (ap is_done (if-there _ _ _ (known s i less)), tt) refl same refl count)

  -- an unwinder is let go
  pub unwinder-gone : (s new : SessionState D R) (i : ℕ) → is_held s.unwinders i ≡ false → new ≡ s → MeetsInSession (RemoveUnwinder i) s (Some Unknown) new
  unwinder-gone s new i gone same = λ ws. from-any (RemoveUnwinder i) s new ws ws (Some Unknown) (λ hs count. stays (RemoveUnwinder i) s new hs ws ws (Some Unknown) (sym (if-gone _ _ (unknown s i gone))) refl same refl count)

  pub unwinder-let-go : (s new : SessionState D R) (i : ℕ) → is_held s.unwinders i ≡ true → new ≡ without_unwinder s i → MeetsInSession (RemoveUnwinder i) s (Some Removed) new
  unwinder-let-go s new i there e = λ ws. from-any (RemoveUnwinder i) s new ws ws (Some Removed) (λ hs count.
      is-obeyed (RemoveUnwinder i) s new hs hs ws ws ws (slice_set s.unwinders i None) s.next (Some Removed) (sym (if-there _ _ _ (known s i there))) refl
      (ap (λ (x : SessionState D R). x.unwinders) e) (ap (λ (x : SessionState D R). x.next) e) (ap (λ (x : SessionState D R). marks x.caches) e ∙ count) refl
      (λ have. subst (λ (x : SessionState D R). HaveHistories hs x.caches) (sym e) have))

  -- a cache is let go
  cache-reply : (s : SessionState D R) (hs : List (Option KeyHistory)) (ws : List (Walk Regs)) (c : ℕ) (there : Bool) → marks s.caches ≡ marks hs → is_held s.caches c ≡ there
      → reply_to m (RemoveCache c) (standing s hs ws) ≡ (if there then Removed else Unknown)
  cache-reply s hs ws c there count is = ap (λ (b : Bool). if b then Removed else Unknown) (history-there s hs c there count is)

  pub cache-gone : (s new : SessionState D R) (c : ℕ) → is_held s.caches c ≡ false → new ≡ s → MeetsInSession (RemoveCache c) s (Some Unknown) new
  cache-gone s new c gone same = λ ws. from-any (RemoveCache c) s new ws ws (Some Unknown) (λ hs count. stays (RemoveCache c) s new hs ws ws (Some Unknown) (sym (cache-reply s hs ws c false count gone)) refl same refl count)

  pub cache-let-go : (s new : SessionState D R) (c : ℕ) → is_held s.caches c ≡ true → new ≡ without_cache s c → MeetsInSession (RemoveCache c) s (Some Removed) new
  cache-let-go s new c there e = λ ws. from-any (RemoveCache c) s new ws ws (Some Removed) (λ hs count.
      is-obeyed (RemoveCache c) s new hs (slice_set hs c None) ws ws ws s.unwinders s.next (Some Removed) (sym (cache-reply s hs ws c true count there)) refl
      (ap (λ (x : SessionState D R). x.unwinders) e) (ap (λ (x : SessionState D R). x.next) e)
      (ap (λ (x : SessionState D R). marks x.caches) e ∙ map-set (option_map mark) s.caches c None
      ∙ ap (λ (xs : List (Option (Unit {0}))). slice_set xs c None) count ∙ sym (map-set (option_map mark) hs c None)) refl
      (λ have. subst (λ (x : SessionState D R). HaveHistories (slice_set hs c None) x.caches) (sym e) (have-without hs s.caches c have)))

  -- a step
  without-by : (s : SessionState D R) (hs : List (Option KeyHistory)) (ws : List (Walk Regs)) (i c : ℕ) (one other : Bool) → marks s.caches ≡ marks hs → is_held s.unwinders i ≡ one → is_held s.caches c ≡ other
      → (one && other) ≡ false → modules_with_cache (standing s hs ws) i c ≡ None
  without-by s hs ws i c true true count known_ there gone = absurd (let none : true ≡ false = gone in cc)
  without-by s hs ws i c true false count known_ there gone = without-cache s hs ws i c count there
  without-by s hs ws i c false other count known_ there gone = without-unwinder s hs ws i c known_

  pub step-gone : (s new : SessionState D R) (i c : ℕ) (frame : Frame) (regs : Regs) (words : Words) → (is_held s.unwinders i && is_held s.caches c) ≡ false → new ≡ s
      → MeetsInSession (Step i c frame regs words) s (Some Unknown) new
  step-gone s new i c frame regs words gone same = λ ws. from-any (Step i c frame regs words) s new ws ws (Some Unknown) (λ hs count.
      stays (Step i c frame regs words) s new hs ws ws (Some Unknown) (sym (if-gone _ _ (without-by s hs ws i c _ _ count refl refl gone))) refl same refl count)

  step-made-by : (wanted : Bool) (s new : SessionState D R) (i c : ℕ) (frame : Frame) (old left_ : Regs) (words : Words) (answer : Result (Option ℕ) Error) (reply : Option (Reply Regs)) → wants_memory answer ≡ wanted
      → is_held s.unwinders i ≡ true → is_held s.caches c ≡ true → ChangesCaches (histories_after_step m wanted frame (unwinder_at s.unwinders i) c) s new
      → (wanted ≡ true → reply ≡ None) → (wanted ≡ false → reply ≡ Some (Stepped answer left_)) → WantsMemoryOnlyIf takes wanted (AsksMemory asks (unwinder_at s.unwinders i).modules frame)
      → (wanted ≡ false → IsStep answer old left_ (judge m (unwinder_at s.unwinders i).modules frame old words))
      → MeetsInSession (Step i c frame old words) s reply new
  step-made-by true s new i c frame old left_ words answer reply is less there changes refused answered memory judged = λ ws. from-any (Step i c frame old words) s new ws ws reply (λ hs count.
      let act = Step i c frame old words in
      rw (refused refl) (is-obeyed act s new hs (histories_after_step m true frame (unwinder_at s.unwinders i) c hs) ws ws ws s.unwinders s.next None
      (ap is_done (if-there _ _ (λ modules. stepped old (judge m modules frame old words)) (with-cache s hs ws i c count less there)), (takes-if takes true memory.never refl, memory.asked refl)) refl
      changes.unwinders changes.next (changes.held ∙ count ∙ sym (marks-changed _ hs c)) refl (changes.histories hs)))
  step-made-by false s new i c frame old left_ words answer reply is less there changes refused answered memory judged = λ ws. from-any (Step i c frame old words) s new ws ws reply (λ hs count.
      let act = Step i c frame old words in
      let found = if-there _ _ (λ modules. stepped old (judge m modules frame old words)) (with-cache s hs ws i c count less there) in
      rw (answered refl) (is-obeyed act s new hs (histories_after_step m false frame (unwinder_at s.unwinders i) c hs) ws ws ws s.unwinders s.next (Some (Stepped answer left_))
      (same-step _ _ _ _ (judged refl).answer (judged refl).registers ∙ sym found) refl
      changes.unwinders changes.next (changes.held ∙ count ∙ sym (marks-changed _ hs c)) refl (changes.histories hs)))

  pub step-made : (s new : SessionState D R) (i c : ℕ) (frame : Frame) (old left_ : Regs) (words : Words) (answer : Result (Option ℕ) Error) (reply : Option (Reply Regs))
      → is_held s.unwinders i ≡ true → is_held s.caches c ≡ true → ChangesCaches (histories_after_step m (wants_memory answer) frame (unwinder_at s.unwinders i) c) s new
      → (wants_memory answer ≡ true → reply ≡ None) → (wants_memory answer ≡ false → reply ≡ Some (Stepped answer left_)) → WantsMemoryOnlyIf takes (wants_memory answer) (AsksMemory asks (unwinder_at s.unwinders i).modules frame)
      → (wants_memory answer ≡ false → IsStep answer old left_ (judge m (unwinder_at s.unwinders i).modules frame old words))
      → MeetsInSession (Step i c frame old words) s reply new
  step-made s new i c frame old left_ words answer reply = step-made-by _ s new i c frame old left_ words answer reply refl

  -- a new walk
  pub walk-made : (s : SessionState D R) (ws vs : List (Walk Regs)) (pc : ℕ) (regs : Regs) → vs ≡ ws ++ walk_from pc regs ∷ [] → Meets (NewWalk pc regs) s ws (Some Added) s vs
  walk-made s ws vs pc regs e = from-any (NewWalk pc regs) s s ws vs (Some Added) (λ hs count.
      is-obeyed (NewWalk pc regs) s s hs hs ws (ws ++ walk_from pc regs ∷ []) vs s.unwinders s.next (Some Added) refl refl refl refl count e (λ have. have))

  pub walk-refused : (s : SessionState D R) (ws vs : List (Walk Regs)) (pc : ℕ) (regs : Regs) → vs ≡ ws → Meets (NewWalk pc regs) s ws None s vs
  walk-refused s ws vs pc regs e = from-any (NewWalk pc regs) s s ws vs None (λ hs count. stays (NewWalk pc regs) s s hs ws vs None (refl, tt) refl refl e count)

  -- a move of a walk
  pub move-gone : (s : SessionState D R) (ws : List (Walk Regs)) (i c w : ℕ) (words : Words) → (is_held s.unwinders i && is_held s.caches c) ≡ false → Meets (NextFrame i c w words) s ws (Some Unknown) s ws
  move-gone s ws i c w words gone = from-any (NextFrame i c w words) s s ws ws (Some Unknown) (λ hs count.
      stays (NextFrame i c w words) s s hs ws ws (Some Unknown) (sym (if-gone _ _ (without-by s hs ws i c _ _ count refl refl gone))) refl refl refl count)

  pub move-unless-walk : (s : SessionState D R) (walks : List (StackWalk Regs)) (i c w : ℕ) (words : Words) → is_held s.unwinders i ≡ true → is_held s.caches c ≡ true → length walks ≤ w
      → Meets (NextFrame i c w words) s (map walk_of walks) (Some Unknown) s (map walk_of walks)
  move-unless-walk s walks i c w words less there past = from-any (NextFrame i c w words) s s (map walk_of walks) (map walk_of walks) (Some Unknown) (λ hs count.
      stays (NextFrame i c w words) s s hs (map walk_of walks) (map walk_of walks) (Some Unknown)
      (sym (if-there _ _ _ (with-cache s hs (map walk_of walks) i c count less there) ∙ if-gone _ _ (get-past walk_of walks w past))) refl refl refl count)

  move-count : (wanted : Bool) (place : WalkPosition) (loads : Loads (Loaded D)) (c : ℕ) (hs : List (Option KeyHistory)) → marks (histories_after_move m wanted place loads c hs) ≡ marks hs
  move-count wanted (Starts pc) loads c hs = refl
  move-count wanted (At frame) loads c hs = marks-changed _ hs c
  move-count wanted Over loads c hs = refl

  move-made-by : (wanted : Bool) (s new : SessionState D R) (walks : List (StackWalk Regs)) (i c w : ℕ) (old next : StackWalk Regs) (words : Words) (answer : Result (Option FrameAddress) Error) (reply : Option (Reply Regs))
      → is_held s.unwinders i ≡ true → is_held s.caches c ≡ true → w < length walks → old ≡ get_or walks w old
      → ChangesCaches (histories_after_move m wanted (place_of old.state) (unwinder_at s.unwinders i) c) s new
      → (wanted ≡ true → reply ≡ None) → (wanted ≡ false → reply ≡ Some (Moved (frame_answer answer) (walk_of next).registers))
      → WantsMemoryOnlyIf takes wanted (MoveAsks (AsksMemory asks (unwinder_at s.unwinders i).modules) (place_of old.state)) → (wanted ≡ true → walk_of next ≡ walk_of old)
      → (wanted ≡ false → move_made (frame_answer answer) next ≡ move (judge m (unwinder_at s.unwinders i).modules) words (walk_of old))
      → Meets (NextFrame i c w words) s (map walk_of walks) reply new (map walk_of (slice_set walks w next))
  move-made-by true s new walks i c w old next words answer reply less there here at changes refused answered memory same made =
      let ws = map walk_of walks in
      let judgment = judge m (unwinder_at s.unwinders i).modules in
      let found : slice_get ws w ≡ Some (walk_of old) = get-map walk_of walks w old here ∙ ap (λ x. Some (walk_of x)) (sym at) in
      let place : walk_place ws w ≡ place_of old.state = ap (λ (x : Option (Walk Regs)). unwrap_or (option_map (λ (walk : Walk Regs). walk.position) x) Over) found in
      from-any (NextFrame i c w words) s new ws (map walk_of (slice_set walks w next)) reply (λ hs count.
      let replied = if-there _ _ (λ modules. if_known (slice_get ws w) (λ there. moved (move (judge m modules) words there))) (with-cache s hs ws i c count less there)
      ∙ if-there _ _ (λ there. moved (move judgment words there)) found in
      rw (refused refl) (is-obeyed (NextFrame i c w words) s new hs (histories_after_move m true (place_of old.state) (unwinder_at s.unwinders i) c hs) ws ws (map walk_of (slice_set walks w next)) s.unwinders s.next None
      (ap is_done replied, (takes-if takes true memory.never refl, subst (λ (p : WalkPosition). MoveAsks (AsksMemory asks (unwinder_at s.unwinders i).modules) p) (sym place) (memory.asked refl)))
      (ap (λ (p : WalkPosition). parts s.unwinders s.next (histories_after_move m true p (unwinder_at s.unwinders i) c hs) ws) place)
      changes.unwinders changes.next (changes.held ∙ count ∙ sym (move-count true (place_of old.state) (unwinder_at s.unwinders i) c hs))
      (map-set walk_of walks w next ∙ ap (slice_set ws w) (same refl) ∙ sym (map-set walk_of walks w old) ∙ ap (λ x. map walk_of (slice_set walks w x)) at ∙ ap (map walk_of) (set-same walks w old here))
      (changes.histories hs)))
  move-made-by false s new walks i c w old next words answer reply less there here at changes refused answered memory same made =
      let ws = map walk_of walks in
      let judgment = judge m (unwinder_at s.unwinders i).modules in
      let found : slice_get ws w ≡ Some (walk_of old) = get-map walk_of walks w old here ∙ ap (λ x. Some (walk_of x)) (sym at) in
      let place : walk_place ws w ≡ place_of old.state = ap (λ (x : Option (Walk Regs)). unwrap_or (option_map (λ (walk : Walk Regs). walk.position) x) Over) found in
      let walked : with_moved judgment words w ws ≡ slice_set ws w (walk_of next) =
      ap (λ (x : Option (Walk Regs)). unwrap_or (option_map (λ (it : Walk Regs). slice_set ws w (move judgment words it).walk) x) ws) found
      ∙ ap (λ (x : Move Regs). slice_set ws w x.walk) (sym (made refl)) in
      from-any (NextFrame i c w words) s new ws (map walk_of (slice_set walks w next)) reply (λ hs count.
      let replied = if-there _ _ (λ modules. if_known (slice_get ws w) (λ there. moved (move (judge m modules) words there))) (with-cache s hs ws i c count less there)
      ∙ if-there _ _ (λ there. moved (move judgment words there)) found in
      rw (answered refl) (is-obeyed (NextFrame i c w words) s new hs (histories_after_move m false (place_of old.state) (unwinder_at s.unwinders i) c hs) ws (slice_set ws w (walk_of next)) (map walk_of (slice_set walks w next)) s.unwinders s.next (Some (Moved (frame_answer answer) (walk_of next).registers))
      (ap moved (made refl) ∙ sym replied)
      (ap (λ (p : WalkPosition). parts s.unwinders s.next (histories_after_move m false p (unwinder_at s.unwinders i) c hs) (with_moved judgment words w ws)) place
      ∙ ap (λ (vs : List (Walk Regs)). parts s.unwinders s.next (histories_after_move m false (place_of old.state) (unwinder_at s.unwinders i) c hs) vs) walked)
      changes.unwinders changes.next (changes.held ∙ count ∙ sym (move-count false (place_of old.state) (unwinder_at s.unwinders i) c hs))
      (map-set walk_of walks w next)
      (changes.histories hs)))

  pub move-done : (s new : SessionState D R) (walks : List (StackWalk Regs)) (i c w : ℕ) (old next : StackWalk Regs) (words : Words) (answer : Result (Option FrameAddress) Error) (reply : Option (Reply Regs))
      → is_held s.unwinders i ≡ true → is_held s.caches c ≡ true → w < length walks → old ≡ get_or walks w old
      → ChangesCaches (histories_after_move m (wants_memory answer) (place_of old.state) (unwinder_at s.unwinders i) c) s new
      → (wants_memory answer ≡ true → reply ≡ None) → (wants_memory answer ≡ false → reply ≡ Some (Moved (frame_answer answer) (walk_of next).registers))
      → WantsMemoryOnlyIf takes (wants_memory answer) (MoveAsks (AsksMemory asks (unwinder_at s.unwinders i).modules) (place_of old.state)) → (wants_memory answer ≡ true → walk_of next ≡ walk_of old)
      → (wants_memory answer ≡ false → move_made (frame_answer answer) next ≡ move (judge m (unwinder_at s.unwinders i).modules) words (walk_of old))
      → Meets (NextFrame i c w words) s (map walk_of walks) reply new (map walk_of (slice_set walks w next))
  move-done s new walks i c w old next words answer reply = move-made-by (wants_memory answer) s new walks i c w old next words answer reply
