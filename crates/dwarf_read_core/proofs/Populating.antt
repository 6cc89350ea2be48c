-- How offsets that come populate a cache.
use Rattle.std.proofs.Common.{◌≡◌, ℕ, ◌+◌, ◌<◌, ◌≤◌, List, [], ◌∷◌, ◌++◌, ◌==◌, Bool, true, false, cond, Option, Some, None, Result, Ok, unwrap_or, map, refl, sym, ap, subst, ◌∙◌, ⊎_elim, arith}
use Rattle.std.specs.Prelude.{count_by, nat_le}
use Rattle.std.proofs.lemmas.Bool.{cases_eq}
use Rattle.std.proofs.lemmas.Bool.Decides.{nat_tests}
use Rattle.std.proofs.lemmas.List.{map_push}
use Rattle.std.proofs.lemmas.List.Sums.{sum_by-append}
use Rattle.dwarf_constants.specs.declared.error.Error.{Error}
use Rattle.dwarf_read_core.specs.AbbreviationsCache.{is_kept, least_count}
use Rattle.dwarf_read_core.specs.declared.abbrev.cache.AbbreviationsCacheStrategy.{AbbreviationsCacheStrategy}
use Rattle.dwarf_read_core.specs.declared.abbrev.cache.AbbreviationsCacheStrategy.TheVariants.{All, Duplicates}

-- how often a number came
abbrev pub times : ℕ → List ℕ → ℕ
times q came = count_by (λ o. o == q) came

times_push : (q n : ℕ) (came : List ℕ) → times q (came ++ n ∷ []) ≡ times q came + cond (n == q) 1 0
times_push q n came = omega (arith, sum_by-append (λ o. cond (o == q) 1 0) came (n ∷ []))

times_again : (n : ℕ) (came : List ℕ) → times n (came ++ n ∷ []) ≡ times n came + 1
times_again n came =
    let here : (n == n) ≡ true = grind (arith, nat_tests) in
    times_push n n came ∙ rw here refl

times_apart : (q n : ℕ) (came : List ℕ) → (n ≡ q → ⊥) → times q (came ++ n ∷ []) ≡ times q came
times_apart q n came apart =
    let other : (n == q) ≡ false = grind (arith, nat_tests) in
    times_push q n came ∙ rw other (omega arith)

module _ {A : Type 0} (answer : ℕ → A) where
  -- the answers of the numbers that came so often are kept
  abbrev pub Keeps : ℕ → List ℕ → (ℕ → Option A) → Type 0
  Keeps often came keeps = (q : ℕ) → keeps q ≡ cond (nat_le often (times q came)) (Some (answer q)) None

unwrap_cond : {A : Type 0} (b : Bool) (a : A) → unwrap_or (cond b (Some a) None) a ≡ a
unwrap_cond true a = refl
unwrap_cond false a = refl

keeps_here : {A : Type 0} (answer : ℕ → A) (often n : ℕ) (came : List ℕ) (keeps now : ℕ → Option A) → Keeps answer often came keeps → now n ≡ Some (unwrap_or (keeps n) (answer n)) → often ≤ times n came + 1 → now n ≡ cond (nat_le often (times n (came ++ n ∷ []))) (Some (answer n)) None
keeps_here answer often n came keeps now is then enough =
    let again : nat_le often (times n (came ++ n ∷ [])) ≡ true = rw (times_again n came) (grind (arith, nat_tests)) in
    then ∙ rw (again, is n) (ap (λ a. Some a) (unwrap_cond (nat_le often (times n came)) (answer n)))

-- one more number, whose answer is kept
pub keeps_more : {A : Type 0} (answer : ℕ → A) (often n : ℕ) (came : List ℕ) (keeps now : ℕ → Option A) → Keeps answer often came keeps → ((q : ℕ) → now q ≡ cond (q == n) (Some (unwrap_or (keeps q) (answer q))) (keeps q)) → often ≤ times n came + 1 → Keeps answer often (came ++ n ∷ []) now
keeps_more answer often n came keeps now is then enough = λ q. ⊎_elim
    (λ (same : n ≡ q).
    let here : (n == n) ≡ true = grind (arith, nat_tests) in
    subst (λ (p : ℕ). now p ≡ cond (nat_le often (times p (came ++ n ∷ []))) (Some (answer p)) None) same
    (keeps_here answer often n came keeps now is (then n ∙ rw here refl) enough))
    (λ apart.
    let other : (q == n) ≡ false = grind (arith, nat_tests) in
    then q ∙ rw (other, times_apart q n came apart) (is q))
    (cases_eq n q)

-- one more number, which hasn't come often enough
pub keeps_same : {A : Type 0} (answer : ℕ → A) (often n : ℕ) (came : List ℕ) (keeps : ℕ → Option A) → Keeps answer often came keeps → times n came + 1 < often → Keeps answer often (came ++ n ∷ []) keeps
keeps_same answer often n came keeps is few = λ q. ⊎_elim
    (λ (same : n ≡ q).
    let before : nat_le often (times n came) ≡ false = grind (arith, nat_tests) in
    let again : nat_le often (times n (came ++ n ∷ [])) ≡ false = rw (times_again n came) (grind (arith, nat_tests)) in
    subst (λ (p : ℕ). keeps p ≡ cond (nat_le often (times p (came ++ n ∷ []))) (Some (answer p)) None) same
    (is n ∙ rw (before, again) refl))
    (λ apart. rw (times_apart q n came apart) (is q))
    (cases_eq n q)

-- the numbers that came are those seen
abbrev pub Notices : List ℕ → (ℕ → Bool) → Type 0
Notices came seen = (q : ℕ) → seen q ≡ nat_le 1 (times q came)

pub seen_more : (n : ℕ) (came : List ℕ) (seen now : ℕ → Bool) → Notices came seen → ((q : ℕ) → now q ≡ cond (q == n) true (seen q)) → Notices (came ++ n ∷ []) now
seen_more n came seen now is then = λ q. ⊎_elim
    (λ (same : n ≡ q).
    let here : (n == n) ≡ true = grind (arith, nat_tests) in
    let again : nat_le 1 (times n (came ++ n ∷ [])) ≡ true = rw (times_again n came) (grind (arith, nat_tests)) in
    subst (λ (p : ℕ). now p ≡ nat_le 1 (times p (came ++ n ∷ []))) same (then n ∙ rw (here, again) refl))
    (λ apart.
    let other : (q == n) ≡ false = grind (arith, nat_tests) in
    then q ∙ rw (other, times_apart q n came apart) (is q))
    (cases_eq n q)

-- what was done for what the iterator gave so far
pub record SoFar {A O : Type 0} (answer : ℕ → A) (number : O → ℕ) (strategy : AbbreviationsCacheStrategy) (keeps : ℕ → Option A) (seen : ℕ → Bool) (gave : List (Result O Error)) : Type 0 where
  pub came : List O
  pub all : gave ≡ map (λ o. Ok o) came
  pub kept : Keeps answer (least_count strategy) (map number came) keeps
  pub noticed : strategy ≡ Duplicates → Notices (map number came) seen

pub nothing_so_far : {A O : Type 0} (answer : ℕ → A) (number : O → ℕ) (strategy : AbbreviationsCacheStrategy) (keeps : ℕ → Option A) (seen : ℕ → Bool) → ((q : ℕ) → keeps q ≡ None) → ((q : ℕ) → seen q ≡ false) → SoFar answer number strategy keeps seen []
nothing_so_far answer number Duplicates keeps seen empty none = record { came = []; all = refl; kept = empty; noticed = λ _. none }
nothing_so_far answer number All keeps seen empty none = record { came = []; all = refl; kept = empty; noticed = λ _. none }

wanted_enough : (strategy : AbbreviationsCacheStrategy) (n : ℕ) (came : List ℕ) (seen : ℕ → Bool) → true ≡ is_kept strategy (seen n) → (strategy ≡ Duplicates → Notices came seen) → least_count strategy ≤ times n came + 1
wanted_enough All n came seen wanted noticed = omega arith
wanted_enough Duplicates n came seen wanted noticed =
    let before : true ≡ nat_le 1 (times n came) = wanted ∙ noticed refl n in
    grind (arith, nat_tests)

unwanted_few : (strategy : AbbreviationsCacheStrategy) (n : ℕ) (came : List ℕ) (seen : ℕ → Bool) → false ≡ is_kept strategy (seen n) → (strategy ≡ Duplicates → Notices came seen) → times n came + 1 < least_count strategy
unwanted_few All n came seen wanted noticed = absurd (cc)
unwanted_few Duplicates n came seen wanted noticed =
    let before : false ≡ nat_le 1 (times n came) = wanted ∙ noticed refl n in
    grind (arith, nat_tests)

-- the offset is seen where that counts
abbrev pub Adds : AbbreviationsCacheStrategy → ℕ → (ℕ → Bool) → (ℕ → Bool) → Type 0
Adds strategy n seen now = strategy ≡ Duplicates → (q : ℕ) → now q ≡ cond (q == n) true (seen q)

pub so_far_kept : {A O : Type 0} (answer : ℕ → A) (number : O → ℕ) (strategy : AbbreviationsCacheStrategy) (keeps now : ℕ → Option A) (seen noticed : ℕ → Bool) (gave : List (Result O Error)) (item : Result O Error) (o : O) → item ≡ Ok o → SoFar answer number strategy keeps seen gave → true ≡ is_kept strategy (seen (number o)) → Adds strategy (number o) seen noticed → ((q : ℕ) → now q ≡ cond (q == number o) (Some (unwrap_or (keeps q) (answer q))) (keeps q)) → SoFar answer number strategy now noticed (gave ++ item ∷ [])
so_far_kept answer number strategy keeps now seen noticed gave item o is so wanted more then =
    let came : map number (so.came ++ o ∷ []) ≡ map number so.came ++ number o ∷ [] = map_push number so.came o in
    record {
      came = so.came ++ o ∷ [];
      all = rw (so.all, is) (sym (map_push (λ o. Ok o) so.came o));
      kept = rw came (keeps_more answer (least_count strategy) (number o) (map number so.came) keeps now so.kept then (wanted_enough strategy (number o) (map number so.came) seen wanted so.noticed));
      noticed = λ twice. rw came (seen_more (number o) (map number so.came) seen noticed (so.noticed twice) (more twice));
    }

pub so_far_passed : {A O : Type 0} (answer : ℕ → A) (number : O → ℕ) (strategy : AbbreviationsCacheStrategy) (keeps : ℕ → Option A) (seen noticed : ℕ → Bool) (gave : List (Result O Error)) (item : Result O Error) (o : O) → item ≡ Ok o → SoFar answer number strategy keeps seen gave → false ≡ is_kept strategy (seen (number o)) → Adds strategy (number o) seen noticed → SoFar answer number strategy keeps noticed (gave ++ item ∷ [])
so_far_passed answer number strategy keeps seen noticed gave item o is so wanted more =
    let came : map number (so.came ++ o ∷ []) ≡ map number so.came ++ number o ∷ [] = map_push number so.came o in
    record {
      came = so.came ++ o ∷ [];
      all = rw (so.all, is) (sym (map_push (λ o. Ok o) so.came o));
      kept = rw came (keeps_same answer (least_count strategy) (number o) (map number so.came) keeps so.kept (unwanted_few strategy (number o) (map number so.came) seen wanted so.noticed));
      noticed = λ twice. rw came (seen_more (number o) (map number so.came) seen noticed (so.noticed twice) (more twice));
    }
