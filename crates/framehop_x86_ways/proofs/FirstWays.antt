-- What a search finds is a way.
use Rattle.std.proofs.Common.{◌≡◌, ◌≢◌, ◌∙◌, ℕ, refl, sym, ap, rules, subst, inl, inr, zero, suc, Bool, true, false, List, [], ◌∷◌, ◌++◌, Option, Some, None}
use Rattle.std.specs.Prelude.{◌==◌, ◌||◌, if◌then◌else◌}
use Rattle.std.specs.List.{AllByRecursion, list_any}
use Rattle.framehop_x86_ways.specs.Places.{instruction_at, place_after, place_branched_to, IsNext}
use Rattle.framehop_x86_ways.specs.Ways.{leaves, IsChain, AreOnce, IsWay}
use Rattle.framehop_x86_ways.specs.FirstWay.{Trail, with_trail, untried, Found, Left, turn_at, turn, or_go_on, searched, way_in}
use Rattle.framehop_ways.specs.declared.executed.Bounds.{Bounds}
use Rattle.framehop_x86_ways.specs.declared.executed.Executed.{Executed}
use Rattle.framehop_x86_instructions.specs.declared.instruction.Instruction.{Instruction}
use Rattle.framehop_x86_ways.proofs.Lists.{all_and_one, all_so, any_and_one, any_before}

-- ---- turns

pub searched_none : (text : List ℕ) (bounds : Bounds) (seen : List ℕ) (trails : List Trail) → searched zero text bounds seen trails ≡ None
unfolding searched
searched_none text bounds seen trails = refl

pub searched_next : (turns : ℕ) (text : List ℕ) (bounds : Bounds) (seen : List ℕ) (trails : List Trail)
    → searched (suc turns) text bounds seen trails ≡ or_go_on (searched turns text bounds) (turn text bounds seen trails)
unfolding searched
searched_next turns text bounds seen trails = refl

pub found_next : (turns more : ℕ) (text : List ℕ) (bounds : Bounds) (seen : List ℕ) (trails : List Trail) (way : List Executed)
    → turns ≡ suc more → turn text bounds seen trails ≡ Found way → searched turns text bounds seen trails ≡ Some way
found_next turns more text bounds seen trails way is found =
    ap (λ n. searched n text bounds seen trails) is ∙ searched_next more text bounds seen trails ∙ ap (or_go_on (searched more text bounds)) found

pub left_next : (turns more : ℕ) (text : List ℕ) (bounds : Bounds) (seen seen_then : List ℕ) (trails then_left : List Trail)
    → turns ≡ suc more → turn text bounds seen trails ≡ Left seen_then then_left → searched turns text bounds seen trails ≡ searched more text bounds seen_then then_left
left_next turns more text bounds seen seen_then trails then_left is left =
    ap (λ n. searched n text bounds seen trails) is ∙ searched_next more text bounds seen trails ∙ ap (or_go_on (searched more text bounds)) left

-- ---- one more instruction

-- a place was tried
abbrev pub is_in : List ℕ → ℕ → Bool
is_in seen place = list_any (λ other. other == place) seen

chain_and_one : (text : List ℕ) (bounds : Bounds) (at : ℕ) (before : List Executed) (one : Executed) (next : ℕ)
    → IsChain text bounds at before one.place → instruction_at text one.place ≡ Some one.instruction → IsNext bounds one next → IsChain text bounds at (before ++ one ∷ []) next
chain_and_one text bounds at [] one next chain spelled goes = (sym chain, spelled, next, goes, refl)
chain_and_one text bounds at (first ∷ before) one next (is, first_spelled, place, first_goes, chain) spelled goes =
    (is, first_spelled, place, first_goes, chain_and_one text bounds place before one next chain spelled goes)

once_and_one : (before : List Executed) (one : Executed) → AreOnce before → AllByRecursion (λ other. other.place ≢ one.place) before → AreOnce (before ++ one ∷ [])
once_and_one [] one once new = (tt, tt)
once_and_one (first ∷ before) one once new =
    (all_and_one (λ other. other.place ≢ first.place) before one once.0 (λ is. new.0 (sym is)), once_and_one before one once.1 new.1)

-- ---- trails

pub record IsTrail (text : List ℕ) (bounds : Bounds) (at : ℕ) (seen : List ℕ) (trail : Trail) : Type 0 where
  pub chained : IsChain text bounds at trail.before trail.place
  pub once : AreOnce trail.before
  pub tried : AllByRecursion (λ one. is_in seen one.place ≡ true) trail.before

still_trail : (text : List ℕ) (bounds : Bounds) (at : ℕ) (seen : List ℕ) (place : ℕ) (trail : Trail) → IsTrail text bounds at seen trail → IsTrail text bounds at (seen ++ place ∷ []) trail
still_trail text bounds at seen place trail is = record {
  chained = is.chained;
  once = is.once;
  tried = all_so (λ one. is_in seen one.place ≡ true) (λ one. is_in (seen ++ place ∷ []) one.place ≡ true) trail.before
      (λ one tried. any_before (λ other. other == one.place) seen place tried) is.tried;
}

trails_and_one : (P : Trail → Type 0) (before : List Executed) (place : Option ℕ) (more : List Trail)
    → ((next : ℕ) → place ≡ Some next → P (record { place = next; before = before })) → AllByRecursion P more → AllByRecursion P (with_trail before place more)
trails_and_one P before None more is all = all
trails_and_one P before (Some next) more is all = (is next refl, all)

eq_self : (n : ℕ) → (n == n) ≡ true
eq_self n = search rules

is_in_and_one : (seen : List ℕ) (place : ℕ) → is_in (seen ++ place ∷ []) place ≡ true
is_in_and_one seen place = any_and_one (λ other. other == place) seen place ∙ ap (λ b. is_in seen place || b) (eq_self place) ∙ by (is_in seen place)
  where
    by : (b : Bool) → (b || true) ≡ true
    by true = refl
    by false = refl

-- a place that wasn't tried isn't among those that were executed
new_place : (seen : List ℕ) (before : List Executed) (place : ℕ) → AllByRecursion (λ one. is_in seen one.place ≡ true) before → is_in seen place ≡ false
    → AllByRecursion (λ one. one.place ≢ place) before
new_place seen before place tried new =
    all_so (λ one. is_in seen one.place ≡ true) (λ one. one.place ≢ place) before (λ one was same. let there = ap (is_in seen) same in cc) tried

-- what the trail of an untried place goes on to
goes_on : (text : List ℕ) (bounds : Bounds) (at : ℕ) (seen : List ℕ) (trail : Trail) (one : Executed) (next : ℕ)
    → IsTrail text bounds at seen trail → one.place ≡ trail.place → is_in seen one.place ≡ false → instruction_at text one.place ≡ Some one.instruction → IsNext bounds one next
    → IsTrail text bounds at (seen ++ one.place ∷ []) (record { place = next; before = trail.before ++ one ∷ [] })
goes_on text bounds at seen trail one next is place_is new spelled goes = record {
  chained = chain_and_one text bounds at trail.before one next (subst (λ (p : ℕ). IsChain text bounds at trail.before p) (sym place_is) is.chained) spelled goes;
  once = once_and_one trail.before one is.once (new_place seen trail.before one.place is.tried new);
  tried = all_and_one (λ other. is_in (seen ++ one.place ∷ []) other.place ≡ true) trail.before one (still_trail text bounds at seen one.place trail is).tried (is_in_and_one seen one.place);
}

-- ---- the search

record IsUntried (text seen : List ℕ) (place : ℕ) (instruction : Instruction) : Type 0 where
  new : is_in seen place ≡ false
  spelled : instruction_at text place ≡ Some instruction

untried_is : (text seen : List ℕ) (place : ℕ) (instruction : Instruction) → untried text seen place ≡ Some instruction → IsUntried text seen place instruction
untried_is text seen place instruction is = by (is_in seen place) refl is
  where
    by : (b : Bool) → is_in seen place ≡ b → (if b then None else instruction_at text place) ≡ Some instruction → IsUntried text seen place instruction
    by true tried same = cc
    by false new same = record { new = new; spelled = same }

-- what the rest of a search finds is a way
abbrev pub FindsWays : ℕ → List ℕ → Bounds → ℕ → Type 0
FindsWays turns text bounds at =
    (seen : List ℕ) (trails : List Trail) (way : List Executed) → AllByRecursion (IsTrail text bounds at seen) trails → searched turns text bounds seen trails ≡ Some way → IsWay text bounds at way

way_of : (text : List ℕ) (bounds : Bounds) (at : ℕ) (seen : List ℕ) (trail : Trail) (one : Executed) → IsTrail text bounds at seen trail → one.place ≡ trail.place
    → is_in seen one.place ≡ false → instruction_at text one.place ≡ Some one.instruction → leaves text trail.before one ≡ true → IsWay text bounds at (trail.before ++ one ∷ [])
way_of text bounds at seen trail one is place_is new spelled left = record {
  before = trail.before;
  last = one;
  is = refl;
  chained = subst (λ (p : ℕ). IsChain text bounds at trail.before p) (sym place_is) is.chained;
  spelled = spelled;
  once = once_and_one trail.before one is.once (new_place seen trail.before one.place is.tried new);
  left = left;
}

after_one : (turns : ℕ) (text : List ℕ) (bounds : Bounds) (at : ℕ) (seen : List ℕ) (trail : Trail) (more : List Trail) (way : List Executed) (found : Option Instruction)
    → FindsWays turns text bounds at → IsTrail text bounds at seen trail → AllByRecursion (IsTrail text bounds at seen) more → untried text seen trail.place ≡ found
    → or_go_on (searched turns text bounds) (turn_at text bounds seen trail more found) ≡ Some way → IsWay text bounds at way
after_one turns text bounds at seen trail more way None finds is all there found = finds seen more way all found
after_one turns text bounds at seen trail more way (Some instruction) finds is all there found = by (leaves text trail.before one) refl found
  where
    one : Executed
    one = record { place = trail.place; instruction = instruction }

    fresh : IsUntried text seen trail.place instruction
    fresh = untried_is text seen trail.place instruction there

    before : List Executed
    before = trail.before ++ one ∷ []

    old : AllByRecursion (IsTrail text bounds at (seen ++ trail.place ∷ [])) more
    old = all_so (IsTrail text bounds at seen) (IsTrail text bounds at (seen ++ trail.place ∷ [])) more (still_trail text bounds at seen trail.place) all

    next : (place : ℕ) → IsNext bounds one place → IsTrail text bounds at (seen ++ trail.place ∷ []) (record { place = place; before = before })
    next place goes = goes_on text bounds at seen trail one place is refl fresh.new fresh.spelled goes

    all_next : AllByRecursion (IsTrail text bounds at (seen ++ trail.place ∷ [])) (with_trail before (place_after bounds one) (with_trail before (place_branched_to one) more))
    all_next =
        trails_and_one (IsTrail text bounds at (seen ++ trail.place ∷ [])) before (place_after bounds one) (with_trail before (place_branched_to one) more)
        (λ place goes. next place (inl goes))
        (trails_and_one (IsTrail text bounds at (seen ++ trail.place ∷ [])) before (place_branched_to one) more (λ place goes. next place (inr goes)) old)

    by : (b : Bool) → leaves text trail.before one ≡ b
        → or_go_on (searched turns text bounds) (if b then Found before else Left (seen ++ trail.place ∷ [])
        (with_trail before (place_after bounds one) (with_trail before (place_branched_to one) more))) ≡ Some way
        → IsWay text bounds at way
    by true left same =
        let is_way : before ≡ way = cc in
        subst (λ (w : List Executed). IsWay text bounds at w) is_way (way_of text bounds at seen trail one is refl fresh.new fresh.spelled left)
    by false stays same =
        finds (seen ++ trail.place ∷ []) (with_trail before (place_after bounds one) (with_trail before (place_branched_to one) more)) way all_next same

pub finds_ways : (turns : ℕ) (text : List ℕ) (bounds : Bounds) (at : ℕ) → FindsWays turns text bounds at
finds_ways zero text bounds at seen trails way all found = let none = searched_none text bounds seen trails in cc
finds_ways (suc turns) text bounds at seen [] way all found =
    finds_ways turns text bounds at seen [] way tt (sym (searched_next turns text bounds seen []) ∙ found)
finds_ways (suc turns) text bounds at seen (trail ∷ more) way all found =
    after_one turns text bounds at seen trail more way (untried text seen trail.place) (finds_ways turns text bounds at) all.0 all.1 refl
    (sym (searched_next turns text bounds seen (trail ∷ more)) ∙ found)

-- at the start
pub first_is_way : (turns : ℕ) (text : List ℕ) (bounds : Bounds) (at : ℕ) (way : List Executed) → way_in turns text bounds at ≡ Some way → IsWay text bounds at way
first_is_way turns text bounds at way found =
    finds_ways turns text bounds at [] ((record { place = at; before = [] }) ∷ []) way
    (record { chained = refl; once = tt; tried = tt }, tt) found
