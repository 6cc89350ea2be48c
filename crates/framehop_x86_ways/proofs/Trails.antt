-- What is pending in a search, as its trails.
use Rattle.std.proofs.Common.{◌≡◌, ◌∙◌, ℕ, ◌≤◌, refl, sym, ap, arith, List, [], ◌∷◌, ◌++◌, length, take, zero, suc}
use Rattle.std.specs.Prelude.{map, reverse}
use Rattle.std.specs.List.{AllByRecursion}
use Rattle.std.proofs.lemmas.List.{reverse-append, map-append, take-append-le}
use Rattle.framehop_x86_ways.specs.FirstWay.{Trail}
use Rattle.framehop_x86_ways.specs.SearchViews.{trail_of, trails_of, trails_with, IsRising}
use Rattle.framehop_x86_ways.specs.declared.executed.Executed.{Executed}
use Rattle.framehop_x86_ways.specs.declared.search.Pending.{Pending}
use Rattle.framehop_x86_ways.proofs.Lists.{all_and_one}

-- ---- how many are before what is pending

pub rising_more : (ps : List Pending) (most more : ℕ) → most ≤ more → IsRising ps most → IsRising ps more
rising_more [] most more below rising = tt
rising_more (p ∷ ps) most more below rising = (omega (arith, rising.0), rising.1, rising_more ps most more below rising.2)

all_below : (ps : List Pending) (p : Pending) (most : ℕ) → AllByRecursion (λ other. p.executed ≤ other.executed) ps → p.executed ≤ most → IsRising ps most
    → (one : Pending) → one.executed ≡ most → AllByRecursion (λ other. p.executed ≤ other.executed) (ps ++ one ∷ [])
all_below ps p most all low rising one is = all_and_one (λ other. p.executed ≤ other.executed) ps one all (omega (arith, is))

pub rising_and_one : (ps : List Pending) (one : Pending) → IsRising ps one.executed → IsRising (ps ++ one ∷ []) one.executed
rising_and_one [] one rising = (omega arith, tt, tt)
rising_and_one (p ∷ ps) one rising = (rising.0, all_below ps p one.executed rising.1 rising.0 rising.2 one refl, rising_and_one ps one rising.2)

pub record IsRisingTo (ps : List Pending) (one : Pending) (most : ℕ) : Type 0 where
  pub before : IsRising ps one.executed
  pub within : one.executed ≤ most

last_of_all : (ps : List Pending) (one : Pending) (least : ℕ) → AllByRecursion (λ other. least ≤ other.executed) (ps ++ one ∷ []) → AllByRecursion (λ other. least ≤ other.executed) ps × (least ≤ one.executed)
last_of_all [] one least all = (tt, all.0)
last_of_all (p ∷ ps) one least all = let rest = last_of_all ps one least all.1 in ((all.0, rest.0), rest.1)

pub rising_before : (ps : List Pending) (one : Pending) (most : ℕ) → IsRising (ps ++ one ∷ []) most → IsRisingTo ps one most
rising_before [] one most rising = record { before = tt; within = rising.0 }
rising_before (p ∷ ps) one most rising =
    let rest = rising_before ps one most rising.2 in
    let all = last_of_all ps one p.executed rising.1 in
    record { before = (all.1, all.0, rest.before); within = rest.within }

-- ---- trails

trail_same : (path other : List Executed) (p : Pending) → take p.executed path ≡ take p.executed other → trail_of path p ≡ trail_of other p
trail_same path other p is = ap (λ before. let trail : Trail = record { place = p.place; before = before } in trail) is

trails_same : (path other : List Executed) (ps : List Pending) (most : ℕ) → ((count : ℕ) → count ≤ most → take count path ≡ take count other) → IsRising ps most
    → map (trail_of path) ps ≡ map (trail_of other) ps
trails_same path other [] most same rising = refl
trails_same path other (p ∷ ps) most same rising =
    ap (λ t. t ∷ map (trail_of path) ps) (trail_same path other p (same p.executed rising.0)) ∙ ap (λ ts. trail_of other p ∷ ts) (trails_same path other ps most same rising.2)

pub trails_kept : (path : List Executed) (one : Executed) (ps : List Pending) → IsRising ps (length path) → trails_of (path ++ one ∷ []) ps ≡ trails_of path ps
trails_kept path one ps rising =
    ap reverse (trails_same (path ++ one ∷ []) path ps (length path) (λ count within. take-append-le count path (one ∷ []) within) rising)

take_again : (count most : ℕ) (xs : List Executed) → count ≤ most → take count (take most xs) ≡ take count xs
take_again zero most xs below = refl
take_again (suc count) zero xs below = absurd (omega arith)
take_again (suc count) (suc most) [] below = refl
take_again (suc count) (suc most) (x ∷ xs) below = ap (λ ys. x ∷ ys) (take_again count most xs (omega arith))

pub trails_taken : (path : List Executed) (ps : List Pending) (one : Pending) → IsRising (ps ++ one ∷ []) (length path)
    → trails_of path (ps ++ one ∷ []) ≡ trails_with one.place (take one.executed path) ps
trails_taken path ps one rising =
    let to = rising_before ps one (length path) rising in
    ap reverse (map-append (trail_of path) ps (one ∷ [])) ∙ reverse-append (map (trail_of path) ps) (trail_of path one ∷ [])
    ∙ ap (λ ts. trail_of path one ∷ reverse ts)
    (trails_same path (take one.executed path) ps one.executed (λ count below. sym (take_again count one.executed path below)) to.before)
