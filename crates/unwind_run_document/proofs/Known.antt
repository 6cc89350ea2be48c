-- What a decoded command names was made before it.
use Rattle.std.proofs.Common.{◌≡◌, ◌≢◌, ℕ, ◌+◌, ◌-◌, ◌*◌, ◌^◌, ◌<◌, Bool, true, false, cond, List, [], ◌∷◌, length, Result, Ok, Err, refl, sym, ap, subst, ◌∙◌}
use Rattle.std.specs.Prelude.{nat_lt, codes, ok_or, ◌==◌}
use Rattle.std.proofs.lemmas.Bool.{ltb-true, eqb-false}
use Rattle.serde_json.specs.Data.{Data, Items, no_items, item}
use Rattle.serde_json.specs.Written.{has_float}
use Rattle.json_program.specs.declared.fault.FaultName.TheVariants.{FloatNumber, BadCommand, BadNumber, UnknownNumber}
use Rattle.json_program.specs.declared.fault.Fault.{Fault}
use Rattle.unwind_run_document.specs.declared.command.FrameKind.{FrameKind}
use Rattle.unwind_run_document.specs.declared.command.FrameKind.TheVariants.{Ip, Ra}
use Rattle.unwind_run_document.specs.declared.command.Verb.{Verb}
use Rattle.unwind_run_document.specs.declared.command.Verb.TheVariants as verb
use Rattle.json_program.specs.Faults.{Checked, ◌⊛◌, both, ◌>>=◌}
use Rattle.json_program.specs.Json.{field, text_value, address_value, number_value, has_only}
use Rattle.serde_json.specs.Find.{get}
use Rattle.unwind_run_document.specs.declared.document.Architecture.{Architecture}
use Rattle.unwind_run_document.specs.Commands.{slots_in, verb_in, task_in, command_in}
use Rattle.unwind_run_document.specs.Frames.{kind_in, checked_frame, frame_in}
use Rattle.unwind_run_document.specs.Loads.{loading_of, unloading_of, load_names, unload_names, load_in, unload_in}
use Rattle.unwind_run_document.specs.Lookups.{road_steps_of, roads_names, tables_in, roads_in}
use Rattle.unwind_run_document.specs.Made.{Made, made_number, one_number, number_below, made_after}
use Rattle.unwind_run_document.specs.Registers.{registers_in}
use Rattle.unwind_run_document.specs.Options.{options_in}
use Rattle.unwind_run_document.specs.Sections.{sections_in, segments_in}
use Rattle.unwind_run_document.specs.Sound.{IsSoundTask, IsSoundStep, IsSoundWalk, AreSoundRoads, AreSound}
use Rattle.unwind_run_document.specs.Stacks.{words_in, stack_names, stack_at, stack_in}
use Rattle.unwind_run_document.specs.Steps.{stepping_of, walking_of, limit_value, step_names, walk_names, step_in, walk_in}
use Rattle.unwind_run_document.specs.Tasks.{Task, make_unwinder, make_cache, clone_unwinder, remove_unwinder, remove_cache, load_module, unload_module, take_step, take_walk, show_counts, show_occupancy, take_roads, Stepping, Walking, Loading, Unloading, RoadSteps, StackWords}
use Rattle.json_program.specs.Faults.{in_unit}
use Rattle.unwind_run_document.specs.Document.{with_task, commands_from}

-- ---- what a check that holds was made of

ip_no_ra : Ip ≡ Ra → ⊥
ip_no_ra is = absurd cc

-- equal values of results
ok_is : {A E : Type 0} (x y : A) → ◌≡◌ {A = Result A E} (Ok x) (Ok y) → x ≡ y
ok_is x y is = cc

-- the test held
test_ok : {A E : Type 0} (b : Bool) (x : Result A E) (e : E) (y : A) → cond b x (Err e) ≡ Ok y → (b ≡ true) × (x ≡ Ok y)
test_ok true x e y is = (refl, is)
test_ok false x e y is = absurd cc

-- the test failed
test_not : {A E : Type 0} (b : Bool) (x : Result A E) (e : E) (y : A) → cond b (Err e) x ≡ Ok y → (b ≡ false) × (x ≡ Ok y)
test_not true x e y is = absurd cc
test_not false x e y is = (refl, is)

-- the step before gave a value
bind_ok : {A B E : Type 0} (r : Result A E) (f : A → Result B E) (y : B) → (r >>= f) ≡ Ok y → (x : A) × (r ≡ Ok x) × (f x ≡ Ok y)
bind_ok (Ok x) f y is = (x, refl, is)
bind_ok (Err e) f y is = absurd cc

-- the last field and those before it gave values
last_ok : {A B : Type 0} (f : Checked (A → B)) (x : Checked A) (y : B) → f ⊛ x ≡ Ok y → (g : A → B) × (a : A) × (f ≡ Ok g) × (x ≡ Ok a) × (y ≡ g a)
last_ok (Ok g) (Ok a) y is = (g, a, refl, refl, cc)
last_ok (Ok g) (Err n) y is = absurd cc
last_ok (Err m) (Ok a) y is = absurd cc
last_ok (Err m) (Err n) y is = absurd cc

-- the fields of a step gave values, and the step is made of these
five_ok : {A B C D E F : Type 0} (f : A → B → C → D → E → F) (a : Checked A) (b : Checked B) (c : Checked C) (d : Checked D) (e : Checked E) (y : F)
    → Ok f ⊛ a ⊛ b ⊛ c ⊛ d ⊛ e ≡ Ok y
    → (u : A) × (v : B) × (w : C) × (x : D) × (z : E) × (a ≡ Ok u) × (b ≡ Ok v) × (c ≡ Ok w) × (e ≡ Ok z) × (y ≡ f u v w x z)
five_ok f a b c d e y is =
    let l5 = last_ok (Ok f ⊛ a ⊛ b ⊛ c ⊛ d) e y is in
    let l4 = last_ok (Ok f ⊛ a ⊛ b ⊛ c) d l5.0 l5.2 in
    let l3 = last_ok (Ok f ⊛ a ⊛ b) c l4.0 l4.2 in
    let l2 = last_ok (Ok f ⊛ a) b l3.0 l3.2 in
    let l1 = last_ok (Ok f) a l2.0 l2.2 in (
      l1.1,
      l2.1,
      l3.1,
      l4.1,
      l5.1,
      l1.3,
      l2.3,
      l3.3,
      l5.3,
      l5.4
          ∙ ap (λ g. g l5.1) (l4.4 ∙ ap (λ g. g l4.1) (l3.4 ∙ ap (λ g. g l3.1) (l2.4 ∙ ap (λ g. g l2.1) (l1.4 ∙ ap (λ g. g l1.1) (sym (ok_is f l1.0 l1.2)))))),
    )

-- the first field of a load gave a value, and the load has it
nine_ok : {B C D E F G H I J : Type 0} (f : ℕ → B → C → D → E → F → G → H → I → J) (first : J → ℕ)
    → ((u : ℕ) (b : B) (c : C) (d : D) (e : E) (x : F) (g : G) (h : H) (i : I) → first (f u b c d e x g h i) ≡ u)
    → (u : Checked ℕ) (b : Checked B) (c : Checked C) (d : Checked D) (e : Checked E) (x : Checked F) (g : Checked G) (h : Checked H) (i : Checked I) (y : J)
    → Ok f ⊛ u ⊛ b ⊛ c ⊛ d ⊛ e ⊛ x ⊛ g ⊛ h ⊛ i ≡ Ok y → u ≡ Ok (first y)
nine_ok f first has u b c d e x g h i y is =
    let l9 = last_ok (Ok f ⊛ u ⊛ b ⊛ c ⊛ d ⊛ e ⊛ x ⊛ g ⊛ h) i y is in
    let l8 = last_ok (Ok f ⊛ u ⊛ b ⊛ c ⊛ d ⊛ e ⊛ x ⊛ g) h l9.0 l9.2 in
    let l7 = last_ok (Ok f ⊛ u ⊛ b ⊛ c ⊛ d ⊛ e ⊛ x) g l8.0 l8.2 in
    let l6 = last_ok (Ok f ⊛ u ⊛ b ⊛ c ⊛ d ⊛ e) x l7.0 l7.2 in
    let l5 = last_ok (Ok f ⊛ u ⊛ b ⊛ c ⊛ d) e l6.0 l6.2 in
    let l4 = last_ok (Ok f ⊛ u ⊛ b ⊛ c) d l5.0 l5.2 in
    let l3 = last_ok (Ok f ⊛ u ⊛ b) c l4.0 l4.2 in
    let l2 = last_ok (Ok f ⊛ u) b l3.0 l3.2 in
    let l1 = last_ok (Ok f) u l2.0 l2.2 in
    let made : y ≡ f l1.1 l2.1 l3.1 l4.1 l5.1 l6.1 l7.1 l8.1 l9.1 =
    l9.4 ∙ ap (λ k. k l9.1) (l8.4 ∙ ap (λ k. k l8.1) (l7.4 ∙ ap (λ k. k l7.1) (l6.4 ∙ ap (λ k. k l6.1) (l5.4 ∙ ap (λ k. k l5.1) (l4.4 ∙ ap (λ k. k l4.1) (l3.4 ∙ ap (λ k. k l3.1)
    (l2.4 ∙ ap (λ k. k l2.1) (l1.4 ∙ ap (λ k. k l1.1) (sym (ok_is f l1.0 l1.2)))))))))) in
    l1.3 ∙ ap (λ n. Ok n) (sym (ap first made ∙ has l1.1 l2.1 l3.1 l4.1 l5.1 l6.1 l7.1 l8.1 l9.1))

-- ---- steps and loads

below_count : (count : ℕ) (m n : ℕ) → number_below count m ≡ Ok n → n < count
below_count count m n is =
    let t = test_ok (nat_lt m count) (Ok m) UnknownNumber n is in
    subst (λ k. k < count) (ok_is m n t.1) (ltb-true m count t.0)

number_known : (count : ℕ) (r : Checked ℕ) (n : ℕ) → (r >>= number_below count) ≡ Ok n → n < count
number_known count r n is =
    let s = bind_ok r (number_below count) n is in
    below_count count s.0 n s.2

frame_sound : (kind : FrameKind) (address : ℕ) (frame : FrameKind × ℕ) → checked_frame kind address ≡ Ok frame → frame.0 ≡ Ra → frame.1 ≢ 0
frame_sound Ip address frame is ra = absurd (ip_no_ra (ap (λ (f : FrameKind × ℕ). f.0) (ok_is (Ip, address) frame is) ∙ ra))
frame_sound Ra address frame is ra =
    let t = test_not (address == 0) (Ok (Ra, address)) BadNumber frame is in
    λ zero_is. eqb-false address 0 t.0 (ap (λ (f : FrameKind × ℕ). f.1) (ok_is (Ra, address) frame t.1) ∙ zero_is)

frame_in_sound : (d : Data) (frame : FrameKind × ℕ) → frame_in d ≡ Ok frame → frame.0 ≡ Ra → frame.1 ≢ 0
frame_in_sound d frame is =
    let s = bind_ok (both (field kind_in (codes "kind") d) (field address_value (codes "address") d)) (λ f. checked_frame f.0 f.1) frame is in
    frame_sound s.0.0 s.0.1 frame s.2

abbrev Fit : StackWords → Type 0
Fit stack = stack.start + 8 * (length stack.words - 1) < 2 ^ 64

stack_sound : (start : ℕ) (words : List ℕ) (stack : StackWords) → stack_at start words ≡ Ok stack → Fit stack
stack_sound start words stack is =
    let made : StackWords = record { start = start; words = words } in
    let t = test_ok (nat_lt (start + 8 * (length words - 1)) (2 ^ 64)) (Ok made) BadNumber stack is in
    subst Fit (ok_is made stack t.1) (ltb-true _ _ t.0)

stack_in_sound : (d : Data) (stack : StackWords) → stack_in d ≡ Ok stack → Fit stack
stack_in_sound d stack is =
    let fields = both (field address_value (codes "start") d) (field words_in (codes "words") d) in
    let t = test_ok (has_only stack_names d) (fields >>= λ s. stack_at s.0 s.1) BadCommand stack is in
    let s = bind_ok fields (λ s. stack_at s.0 s.1) stack t.1 in
    stack_sound s.0.0 s.0.1 stack s.2

stack_field_sound : (d : Data) (stack : StackWords) → field stack_in (codes "stack") d ≡ Ok stack → Fit stack
stack_field_sound d stack is =
    let s = bind_ok (ok_or (get (codes "stack") d) BadCommand) stack_in stack is in
    stack_in_sound s.0 stack s.2

step_sound : (machine : Architecture) (made : Made) (d : Data) (step : Stepping) → step_in machine made d ≡ Ok step → IsSoundStep made step
step_sound machine made d step is =
    let u = made_number made.unwinders (codes "unwinder") d in
    let c = made_number made.caches (codes "cache") d in
    let t = test_ok (has_only step_names d) (Ok stepping_of ⊛ u ⊛ c ⊛ frame_in d ⊛ field (registers_in machine) (codes "regs") d ⊛ field stack_in (codes "stack") d) BadCommand step is in
    let p = five_ok stepping_of u c (frame_in d) (field (registers_in machine) (codes "regs") d) (field stack_in (codes "stack") d) step t.1 in
    subst (IsSoundStep made) (sym p.9) (record {
      unwinder = number_known made.unwinders (field number_value (codes "unwinder") d) p.0 p.5;
      cache = number_known made.caches (field number_value (codes "cache") d) p.1 p.6;
      address = frame_in_sound d p.2 p.7;
      words = stack_field_sound d p.4 p.8;
    })

load_sound : (made : Made) (d : Data) (load : Loading) → load_in made d ≡ Ok load → load.unwinder < made.unwinders
load_sound made d load is =
    let u = made_number made.unwinders (codes "unwinder") d in
    let t = test_ok (has_only load_names d) (Ok loading_of ⊛ u ⊛ field text_value (codes "name") d ⊛ field address_value (codes "start") d ⊛ field address_value (codes "end") d
    ⊛ field address_value (codes "base") d ⊛ field address_value (codes "base_svma") d ⊛ field sections_in (codes "sections") d
    ⊛ segments_in (get (codes "segments") d) ⊛ options_in d) BadCommand load is in
    let known : u ≡ Ok load.unwinder = nine_ok loading_of (λ l. l.unwinder) (λ u n s e b v ss gs o. refl) u (field text_value (codes "name") d) (field address_value (codes "start") d) (field address_value (codes "end") d)
    (field address_value (codes "base") d) (field address_value (codes "base_svma") d) (field sections_in (codes "sections") d) (segments_in (get (codes "segments") d)) (options_in d) load t.1 in
    number_known made.unwinders (field number_value (codes "unwinder") d) load.unwinder known

-- the fields of an unload gave values, and the unload has its unwinder
unload_sound : (made : Made) (d : Data) (unload : Unloading) → unload_in made d ≡ Ok unload → unload.unwinder < made.unwinders
unload_sound made d unload is =
    let u = made_number made.unwinders (codes "unwinder") d in
    let s = field address_value (codes "start") d in
    let t = test_ok (has_only unload_names d) (Ok unloading_of ⊛ u ⊛ s) BadCommand unload is in
    let l2 = last_ok (Ok unloading_of ⊛ u) s unload t.1 in
    let l1 = last_ok (Ok unloading_of) u l2.0 l2.2 in
    let made_of : unload ≡ unloading_of l1.1 l2.1 = l2.4 ∙ ap (λ g. g l2.1) (l1.4 ∙ ap (λ g. g l1.1) (sym (ok_is unloading_of l1.0 l1.2))) in
    subst (λ (u : Unloading). u.unwinder < made.unwinders) (sym made_of) (number_known made.unwinders (field number_value (codes "unwinder") d) l1.1 l1.3)

walk_sound : (machine : Architecture) (made : Made) (d : Data) (walk : Walking) → walk_in machine made d ≡ Ok walk → IsSoundWalk made walk
walk_sound machine made d walk is =
    let u = made_number made.unwinders (codes "unwinder") d in
    let c = made_number made.caches (codes "cache") d in
    let p = field address_value (codes "pc") d in
    let l = field limit_value (codes "limit") d in
    let r = field (registers_in machine) (codes "regs") d in
    let s = field stack_in (codes "stack") d in
    let t = test_ok (has_only walk_names d) (Ok walking_of ⊛ u ⊛ c ⊛ p ⊛ l ⊛ r ⊛ s) BadCommand walk is in
    let l6 = last_ok (Ok walking_of ⊛ u ⊛ c ⊛ p ⊛ l ⊛ r) s walk t.1 in
    let l5 = last_ok (Ok walking_of ⊛ u ⊛ c ⊛ p ⊛ l) r l6.0 l6.2 in
    let l4 = last_ok (Ok walking_of ⊛ u ⊛ c ⊛ p) l l5.0 l5.2 in
    let l3 = last_ok (Ok walking_of ⊛ u ⊛ c) p l4.0 l4.2 in
    let l2 = last_ok (Ok walking_of ⊛ u) c l3.0 l3.2 in
    let l1 = last_ok (Ok walking_of) u l2.0 l2.2 in
    let made_of : walk ≡ walking_of l1.1 l2.1 l3.1 l4.1 l5.1 l6.1 =
    l6.4 ∙ ap (λ g. g l6.1) (l5.4 ∙ ap (λ g. g l5.1) (l4.4 ∙ ap (λ g. g l4.1) (l3.4 ∙ ap (λ g. g l3.1) (l2.4 ∙ ap (λ g. g l2.1)
    (l1.4 ∙ ap (λ g. g l1.1) (sym (ok_is walking_of l1.0 l1.2))))))) in
    subst (IsSoundWalk made) (sym made_of) (record {
      unwinder = number_known made.unwinders (field number_value (codes "unwinder") d) l1.1 l1.3;
      cache = number_known made.caches (field number_value (codes "cache") d) l2.1 l2.3;
      words = stack_field_sound d l6.1 l6.3;
    })

roads_sound : (machine : Architecture) (d : Data) (roads : RoadSteps) → roads_in machine d ≡ Ok roads → AreSoundRoads roads
roads_sound machine d roads is =
    let r = field (registers_in machine) (codes "regs") d in
    let s = field stack_in (codes "stack") d in
    let t = test_ok (has_only roads_names d) (Ok road_steps_of ⊛ tables_in d ⊛ frame_in d ⊛ r ⊛ s) BadCommand roads is in
    let l4 = last_ok (Ok road_steps_of ⊛ tables_in d ⊛ frame_in d ⊛ r) s roads t.1 in
    let l3 = last_ok (Ok road_steps_of ⊛ tables_in d ⊛ frame_in d) r l4.0 l4.2 in
    let l2 = last_ok (Ok road_steps_of ⊛ tables_in d) (frame_in d) l3.0 l3.2 in
    let l1 = last_ok (Ok road_steps_of) (tables_in d) l2.0 l2.2 in
    let made_of : roads ≡ road_steps_of l1.1 l2.1 l3.1 l4.1 =
    l4.4 ∙ ap (λ g. g l4.1) (l3.4 ∙ ap (λ g. g l3.1) (l2.4 ∙ ap (λ g. g l2.1) (l1.4 ∙ ap (λ g. g l1.1) (sym (ok_is road_steps_of l1.0 l1.2))))) in
    subst AreSoundRoads (sym made_of) (record { address = frame_in_sound d l2.1 l2.3; words = stack_field_sound d l4.1 l4.3 })

-- the number that a command has beside what it does
one_sound : (count : ℕ) (name : List ℕ) (d : Data) (n : ℕ) → one_number count name d ≡ Ok n → n < count
one_sound count name d n is =
    let t = test_ok (has_only (codes "do" ∷ name ∷ []) d) (made_number count name d) BadCommand n is in
    number_known count (field number_value name d) n t.1

-- ---- commands

task_sound : (machine : Architecture) (made : Made) (d : Data) (v : Verb) (task : Task) → task_in machine made d v ≡ Ok task → IsSoundTask made task
task_sound machine made d verb.Unwinder task is = subst (IsSoundTask made) (ok_is make_unwinder task (test_ok (has_only (codes "do" ∷ []) d) (Ok make_unwinder) BadCommand task is).1) tt
task_sound machine made d verb.Cache task is =
    let t = test_ok (has_only (codes "do" ∷ codes "slots" ∷ []) d) (Ok make_cache ⊛ slots_in (get (codes "slots") d)) BadCommand task is in
    let l = last_ok (Ok make_cache) (slots_in (get (codes "slots") d)) task t.1 in
    subst (IsSoundTask made) (sym (l.4 ∙ ap (λ g. g l.1) (sym (ok_is make_cache l.0 l.2)))) tt
task_sound machine made d verb.Load task is =
    let l = last_ok (Ok load_module) (load_in made d) task is in
    subst (IsSoundTask made) (sym (l.4 ∙ ap (λ g. g l.1) (sym (ok_is load_module l.0 l.2)))) (load_sound made d l.1 l.3)
task_sound machine made d verb.Step task is =
    let l = last_ok (Ok take_step) (step_in machine made d) task is in
    subst (IsSoundTask made) (sym (l.4 ∙ ap (λ g. g l.1) (sym (ok_is take_step l.0 l.2)))) (step_sound machine made d l.1 l.3)
task_sound machine made d verb.Clone task is =
    let l = last_ok (Ok clone_unwinder) (one_number made.unwinders (codes "unwinder") d) task is in
    subst (IsSoundTask made) (sym (l.4 ∙ ap (λ g. g l.1) (sym (ok_is clone_unwinder l.0 l.2)))) (one_sound made.unwinders (codes "unwinder") d l.1 l.3)
task_sound machine made d verb.RemoveUnwinder task is =
    let l = last_ok (Ok remove_unwinder) (one_number made.unwinders (codes "unwinder") d) task is in
    subst (IsSoundTask made) (sym (l.4 ∙ ap (λ g. g l.1) (sym (ok_is remove_unwinder l.0 l.2)))) (one_sound made.unwinders (codes "unwinder") d l.1 l.3)
task_sound machine made d verb.RemoveCache task is =
    let l = last_ok (Ok remove_cache) (one_number made.caches (codes "cache") d) task is in
    subst (IsSoundTask made) (sym (l.4 ∙ ap (λ g. g l.1) (sym (ok_is remove_cache l.0 l.2)))) (one_sound made.caches (codes "cache") d l.1 l.3)
task_sound machine made d verb.Unload task is =
    let l = last_ok (Ok unload_module) (unload_in made d) task is in
    subst (IsSoundTask made) (sym (l.4 ∙ ap (λ g. g l.1) (sym (ok_is unload_module l.0 l.2)))) (unload_sound made d l.1 l.3)
task_sound machine made d verb.Walk task is =
    let l = last_ok (Ok take_walk) (walk_in machine made d) task is in
    subst (IsSoundTask made) (sym (l.4 ∙ ap (λ g. g l.1) (sym (ok_is take_walk l.0 l.2)))) (walk_sound machine made d l.1 l.3)
task_sound machine made d verb.Stats task is =
    let l = last_ok (Ok show_counts) (one_number made.caches (codes "cache") d) task is in
    subst (IsSoundTask made) (sym (l.4 ∙ ap (λ g. g l.1) (sym (ok_is show_counts l.0 l.2)))) (one_sound made.caches (codes "cache") d l.1 l.3)
task_sound machine made d verb.Occupancy task is =
    let l = last_ok (Ok show_occupancy) (one_number made.caches (codes "cache") d) task is in
    subst (IsSoundTask made) (sym (l.4 ∙ ap (λ g. g l.1) (sym (ok_is show_occupancy l.0 l.2)))) (one_sound made.caches (codes "cache") d l.1 l.3)
task_sound machine made d verb.Roads task is =
    let l = last_ok (Ok take_roads) (roads_in machine d) task is in
    subst (IsSoundTask made) (sym (l.4 ∙ ap (λ g. g l.1) (sym (ok_is take_roads l.0 l.2)))) (roads_sound machine d l.1 l.3)

command_sound : (machine : Architecture) (made : Made) (d : Data) (task : Task) → command_in machine made d ≡ Ok task → IsSoundTask made task
command_sound machine made d task is =
    let t = test_not (has_float d) (field verb_in (codes "do") d >>= task_in machine made d) FloatNumber task is in
    let s = bind_ok (field verb_in (codes "do") d) (task_in machine made d) task t.1 in
    task_sound machine made d s.0 task s.2

unit_ok : {A : Type 0} (n : ℕ) (r : Checked A) (x : A) → in_unit n r ≡ Ok x → r ≡ Ok x
unit_ok n (Ok y) x is = ap (λ z. Ok z) (ok_is y x is)
unit_ok n (Err name) x is = absurd cc

with_ok : (task : Task) (r : Result (List Task) Fault) (ts : List Task) → with_task task r ≡ Ok ts → (more : List Task) × (r ≡ Ok more) × (task ∷ more ≡ ts)
with_ok task (Ok more) ts is = (more, refl, ok_is (task ∷ more) ts is)
with_ok task (Err f) ts is = absurd cc

-- the commands that are decoded are sound, from what is made on
pub commands_sound : (machine : Architecture) (n : ℕ) (made : Made) (ds : Items) (ts : List Task) → commands_from machine n made ds ≡ Ok ts → AreSound made ts
commands_sound machine n made no_items ts is = subst (AreSound made) (ok_is [] ts is) tt
commands_sound machine n made (item d ds) ts is =
    let s = bind_ok (in_unit n (command_in machine made d)) (λ task. with_task task (commands_from machine (n + 1) (made_after made task) ds)) ts is in
    let w = with_ok s.0 (commands_from machine (n + 1) (made_after made s.0) ds) ts s.2 in
    subst (AreSound made) w.2
    (command_sound machine made d s.0 (unit_ok n (command_in machine made d) s.0 s.1), commands_sound machine (n + 1) (made_after made s.0) ds w.0 w.1)
