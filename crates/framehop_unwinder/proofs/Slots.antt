-- What a fitting cache holds, and that it fits after a rule is kept.
use Rattle.std.proofs.Common.{◌≡◌, ◌∙◌, ℕ, zero, suc, ◌+◌, ◌<◌, ◌≤◌, Bool, true, false, List, Option, Some, None, sym, ap, subst, refl, arith, [], ◌∷◌, replicate, length, get_or, ◌⊎◌, inl, inr}
use Rattle.std.specs.Prelude.{◌==◌, ◌&&◌, if◌then◌else◌, IfSome, slice_set}
use Rattle.std.specs.Bool.{beq}
use Rattle.std.specs.List.{All}
use Rattle.std.proofs.lemmas.List.Elements.{All-set, All-get_or, All-weaker, All-replicate, All-take}
use Rattle.std.proofs.lemmas.List.{get_or_past}
use Rattle.std.proofs.lemmas.Bool.{cases_lt}
use Rattle.std.proofs.lemmas.Bool.Decides.{Decides-eqb}
use Rattle.std.specs.Cmp.{booleans_Decides}
use Rattle.framehop_rules.specs.Slots.{Key, KeptRule, Kept, Layout, Finding, Hits, EmptySlot, OtherModules, OtherAddress, empty_set, empty_sets, finding_among, finding_for, found_in, kept_under, or_else_finding, sets_in, set_of, slots_of, with_newest}
use Rattle.framehop_unwinder.specs.Attempt.{Meanings}
use Rattle.framehop_unwinder.specs.Modules.{Loaded, Loads, AreOneBook}
use Rattle.framehop_unwinder.specs.RulesKept.{Fits, FitsEntry, FitsLoads, KeysBelow, SetFits, SetIsBelow, Sets, StepsCache, rule_kept, sets_after, with_any, with_missed}

all-cons : {A : Type 0} (P : A → Type 0) (x : A) (xs : List A) → P x → All P xs → All P (x ∷ xs)
all-cons P x xs one others zero d within = one
all-cons P x xs one others (suc k) d within = others k d (omega arith)

-- what holds of each slot of the sets holds of the slots of one set
slots-all : {R : Type 0} (P : Option (KeptRule R) → Type 0) (layout : Layout) (sets : Sets R) (set : ℕ) → P None → (set < length sets) ⊎ (length sets ≤ set) → All (All P) sets → All P (slots_of layout sets set)
slots-all P layout sets set none (inl within) all = All-get_or (All P) sets set (empty_set layout) within all
slots-all P layout sets set none (inr past) all = subst (All P) (sym (get_or_past sets set (empty_set layout) past)) (All-replicate P layout.ways None none)

-- and of one more
kept-all : {R : Type 0} (P : Option (KeptRule R) → Type 0) (layout : Layout) (sets : Sets R) (key : Key) (rule : R) → P None → P (Some (kept_under key rule)) → All (All P) sets
    → All (All P) (slice_set sets (set_of layout key.address) (with_newest layout (kept_under key rule) (slots_of layout sets (set_of layout key.address))))
kept-all P layout sets key rule none one all =
    let set = set_of layout key.address in
    All-set (All P) sets set (with_newest layout (kept_under key rule) (slots_of layout sets set))
    (All-take P layout.ways (Some (kept_under key rule) ∷ slots_of layout sets set) (all-cons P (Some (kept_under key rule)) (slots_of layout sets set) one (slots-all P layout sets set none (cases_lt set (length sets)) all))) all

empty-all : {R : Type 0} (P : Option (KeptRule R) → Type 0) (layout : Layout) → P None → All (All P) (empty_sets layout)
empty-all P layout none = All-replicate (All P) (sets_in layout) (empty_set layout) (All-replicate P layout.ways None none)

any_fits : {R : Type 0} (kept : Key → Option R) (generation : ℕ) (layout : Layout) (sets : Sets R) (key : Key) (rule : Option R)
    → (key.generation ≡ generation → kept key ≡ rule) → Fits kept generation sets → Fits kept generation (with_any layout sets key rule)
any_fits kept generation layout sets key (Some rule) same fits = record {
  each = kept-all (λ slot. IfSome slot (FitsEntry kept generation)) layout sets key rule tt same fits.each;
}
any_fits kept generation layout sets key None same fits = fits

missed_fits : {R : Type 0} (kept : Key → Option R) (generation : ℕ) (layout : Layout) (sets : Sets R) (key : Key) (rule : Option R) (look_up : Finding R)
    → (key.generation ≡ generation → kept key ≡ rule) → Fits kept generation sets → Fits kept generation (with_missed layout sets key rule look_up)
missed_fits kept generation layout sets key rule (Hits hit) same fits = fits
missed_fits kept generation layout sets key rule EmptySlot same fits = any_fits kept generation layout sets key rule same fits
missed_fits kept generation layout sets key rule OtherModules same fits = any_fits kept generation layout sets key rule same fits
missed_fits kept generation layout sets key rule OtherAddress same fits = any_fits kept generation layout sets key rule same fits

-- a step of one unwinder leaves a cache fitting for another whose generation differs, or that keeps the same
pub fits_after : {R : Type 0} (wanted : Bool) (mine theirs : Key → Option R) (generation : ℕ) (key : Key) (layout : Layout) (sets : Sets R)
    → (key.generation ≡ generation → theirs key ≡ mine key) → Fits theirs generation sets → Fits theirs generation (sets_after wanted mine key layout sets)
fits_after true mine theirs generation key layout sets same fits = fits
fits_after false mine theirs generation key layout sets same fits = missed_fits theirs generation layout sets key (mine key) (found_in layout sets key) same fits

-- a cache that a step of one unwinder changed fits each other that it fitted, if those of one generation have the same modules
pub loads_fit : {Data R Registers : Type 0} (m : Meanings Data R Registers) (one other : Loads (Loaded Data)) (wanted : Bool) (key : Key) (old new : Kept R)
    → key.generation ≡ one.generation → AreOneBook one other → StepsCache (rule_kept m one.modules) key wanted old new → FitsLoads m other old → FitsLoads m other new
loads_fit m one other wanted key old new of_one same steps fits =
    subst (Fits (rule_kept m other.modules) other.generation) (sym steps.sets)
    (fits_after wanted (rule_kept m one.modules) (rule_kept m other.modules) other.generation key old.layout old.sets
    (λ e. ap (λ modules. rule_kept m modules key) (sym (same (sym of_one ∙ e)))) fits)

below_any : {R : Type 0} (next : ℕ) (layout : Layout) (sets : Sets R) (key : Key) (rule : Option R) → key.generation < next → KeysBelow next sets → KeysBelow next (with_any layout sets key rule)
below_any {R} next layout sets key (Some rule) less below = record {
  each = kept-all (λ slot. IfSome slot (λ (entry : KeptRule R). entry.key.generation < next)) layout sets key rule tt less below.each;
}
below_any next layout sets key None less below = below

below_missed : {R : Type 0} (next : ℕ) (layout : Layout) (sets : Sets R) (key : Key) (rule : Option R) (look_up : Finding R) → key.generation < next → KeysBelow next sets → KeysBelow next (with_missed layout sets key rule look_up)
below_missed next layout sets key rule (Hits hit) less below = below
below_missed next layout sets key rule EmptySlot less below = below_any next layout sets key rule less below
below_missed next layout sets key rule OtherModules less below = below_any next layout sets key rule less below
below_missed next layout sets key rule OtherAddress less below = below_any next layout sets key rule less below

pub below_after : {R : Type 0} (wanted : Bool) (mine : Key → Option R) (key : Key) (next : ℕ) (layout : Layout) (sets : Sets R) → key.generation < next → KeysBelow next sets → KeysBelow next (sets_after wanted mine key layout sets)
below_after true mine key next layout sets less below = below
below_after false mine key next layout sets less below = below_missed next layout sets key (mine key) (found_in layout sets key) less below

weaker : {R : Type 0} (P Q : KeptRule R → Type 0) → ((entry : KeptRule R) → P entry → Q entry) → (slot : Option (KeptRule R)) → IfSome slot P → IfSome slot Q
weaker P Q f None h = tt
weaker P Q f (Some entry) h = f entry h

all-weaker : {R : Type 0} (P Q : KeptRule R → Type 0) → ((entry : KeptRule R) → P entry → Q entry) → (sets : Sets R) → All (All (λ slot. IfSome slot P)) sets → All (All (λ slot. IfSome slot Q)) sets
all-weaker P Q f sets all =
    All-weaker (All (λ slot. IfSome slot P)) (All (λ slot. IfSome slot Q)) (λ set h. All-weaker (λ slot. IfSome slot P) (λ slot. IfSome slot Q) (weaker P Q f) set h) sets all

pub new_fits : {R : Type 0} (theirs : Key → Option R) (generation : ℕ) (sets : Sets R) → KeysBelow generation sets → Fits theirs generation sets
new_fits {R} theirs generation sets below = record {
  each = all-weaker (λ (entry : KeptRule R). entry.key.generation < generation) (FitsEntry theirs generation) (λ entry less same. absurd (omega arith)) sets below.each;
}

pub below_more : {R : Type 0} (next : ℕ) (sets : Sets R) → KeysBelow next sets → KeysBelow (next + 1) sets
below_more {R} next sets below = record {
  each = all-weaker (λ (entry : KeptRule R). entry.key.generation < next) (λ (entry : KeptRule R). entry.key.generation < next + 1) (λ entry less. omega arith) sets below.each;
}

pub empty_fits : {R : Type 0} (theirs : Key → Option R) (generation : ℕ) (layout : Layout) → Fits theirs generation (empty_sets layout)
empty_fits theirs generation layout = record { each = empty-all (λ slot. IfSome slot (FitsEntry theirs generation)) layout tt }

pub empty_below : {R : Type 0} (next : ℕ) (layout : Layout) → KeysBelow {Rule = R} next (empty_sets layout)
empty_below {R} next layout = record { each = empty-all (λ slot. IfSome slot (λ (entry : KeptRule R). entry.key.generation < next)) layout tt }

-- the tests of a look-up that hits
by_tests : {R : Type 0} (g a f : Bool) (r rule : R) → (if g then (if a && f then Hits r else OtherAddress) else OtherModules) ≡ Hits rule
    → (g ≡ true) × (a ≡ true) × (f ≡ true) × (r ≡ rule)
by_tests true true true r rule is = let e : r ≡ rule = cc in (refl, refl, refl, e)
by_tests true true false r rule is = absurd cc
by_tests true false f r rule is = absurd cc
by_tests false a f r rule is = absurd cc

same_key : (k l : Key) → k.address ≡ l.address → k.is_first ≡ l.is_first → k.generation ≡ l.generation → k ≡ l
same_key k l p q r =
    let A : ℕ → Key = λ a. record { address = a; is_first = k.is_first; generation = k.generation } in
    let F : Bool → Key = λ f. record { address = l.address; is_first = f; generation = k.generation } in
    let G : ℕ → Key = λ g. record { address = l.address; is_first = l.is_first; generation = g } in
    ap A p ∙ ap F q ∙ ap G r

hit_entry : {R : Type 0} (kept : Key → Option R) (key : Key) (slot : Option (KeptRule R)) (rule : R)
    → finding_for key slot ≡ Hits rule → IfSome slot (FitsEntry kept key.generation) → kept key ≡ Some rule
hit_entry kept key None rule is fits = absurd cc
hit_entry kept key (Some e) rule is fits =
    let t = by_tests (e.key.generation == key.generation) (e.key.address == key.address) (beq e.key.is_first key.is_first) e.rule rule is in
    let g : e.key.generation ≡ key.generation = (Decides-eqb e.key.generation key.generation).0 t.0 in
    let a : e.key.address ≡ key.address = (Decides-eqb e.key.address key.address).0 t.1 in
    let f : e.key.is_first ≡ key.is_first = (booleans_Decides e.key.is_first key.is_first).0 t.2 in
    let same = same_key e.key key a f g in
    ap kept (sym same) ∙ fits g ∙ ap (λ r. Some r) t.3

either : {A B : Type 0} (C : Type 0) → (A → C) → (B → C) → A ⊎ B → C
either C f g (inl a) = f a
either C f g (inr b) = g b

or_hit : {R : Type 0} (one other : Finding R) (rule : R) → or_else_finding one other ≡ Hits rule → (one ≡ Hits rule) ⊎ (other ≡ Hits rule)
or_hit (Hits r) other rule is = inl is
or_hit EmptySlot other rule is = inr is
or_hit OtherModules other rule is = inr is
or_hit OtherAddress other rule is = inr is

-- a look-up that hits in the slots of a set gives the rule that is kept for its key
hit_among : {R : Type 0} (kept : Key → Option R) (key : Key) (slots : List (Option (KeptRule R))) (rule : R)
    → finding_among key slots ≡ Hits rule → SetFits kept key.generation slots → kept key ≡ Some rule
hit_among kept key [] rule is fits = absurd cc
hit_among kept key (slot ∷ []) rule is fits = hit_entry kept key slot rule is (fits 0 slot (omega arith))
hit_among kept key (slot ∷ next ∷ others) rule is fits =
    either (kept key ≡ Some rule) (λ here. hit_entry kept key slot rule here (fits 0 slot (omega arith)))
    (λ later. hit_among kept key (next ∷ others) rule later (λ k d h. fits (suc k) d (omega arith)))
    (or_hit (finding_for key slot) (finding_among key (next ∷ others)) rule is)

-- a look-up that hits gives the rule that is kept for its key
pub hit_fits : {R : Type 0} (kept : Key → Option R) (key : Key) (layout : Layout) (sets : Sets R) (rule : R)
    → found_in layout sets key ≡ Hits rule → Fits kept key.generation sets → kept key ≡ Some rule
hit_fits kept key layout sets rule is fits =
    let set = set_of layout key.address in
    hit_among kept key (slots_of layout sets set) rule is
    (slots-all (λ slot. IfSome slot (FitsEntry kept key.generation)) layout sets set tt (cases_lt set (length sets)) fits.each)
