-- Overlaps are of FDEs that have an address in common.
use Rattle.std.proofs.Common.{◌≡◌, ℕ, ◌<◌, ◌≤◌, false, List, [], ◌∷◌, ◌++◌, map, append_assoc, refl, sym, ap, ◌∙◌, arith}
use Rattle.std.specs.Prelude.{min, max, nat_lt, IsTrue, ◌↔◌, Result, Ok, Err}
use Rattle.std.specs.List.{All, Contains, cons_option, filter_map, list_any}
use Rattle.std.proofs.lemmas.Bool.{ltb-true, ltb-false, lt-ltb, le-ltb}
use Rattle.std.proofs.lemmas.List.Elements.{All-nil, All-cons, All-head, All-tail, All-push, All-weaker, Contains-push, Contains-append_left}
use Rattle.std.proofs.lemmas.List.Folds.{list_any-from_Any, list_any_none}
use Rattle.std.proofs.lemmas.List.Sorted.{All-permutation}
use Rattle.list_laws.proofs.Laws.{by_case}
use Rattle.dwarf_constants.specs.declared.error.Error.{Error}
use Rattle.backtrace_lint.specs.Overlaps.{further, overlaps_from, overlaps_in, overlaps_of, spanned, spanned_at}
use Rattle.backtrace_lint.specs.OverlapLaws.{IsOverlapIn, Share, ordered, shares, sharing, sharing_after}
use Rattle.backtrace_lint.specs.declared.fdes.Code.{Code}
use Rattle.backtrace_lint.specs.declared.fdes.ListedFde.{ListedFde}
use Rattle.backtrace_lint.specs.declared.overlaps.Overlap.{Overlap}
use Rattle.backtrace_lint.specs.declared.overlaps.SpannedFde.{SpannedFde}
use Rattle.backtrace_lint.proofs.Sorted.{Rises, in-order-permutes, in-order-rises}

-- the test of two FDEs tells whether they have an address in common
pub shares-tells : (fde other : SpannedFde) → IsTrue (shares fde other) ↔ Share fde other
shares-tells fde other = (
  λ yes. let below = ltb-true (max fde.start other.start) (min fde.end other.end) yes in (max fde.start other.start, (omega arith, omega arith), (omega arith, omega arith)),
  λ both. let one = both.1 in let two = both.2 in lt-ltb (max fde.start other.start) (min fde.end other.end) (omega arith),
)

-- ---- FDEs whose code has an address, in the order of their starts

-- an FDE's code has an address
abbrev Spans : SpannedFde → Type 0
Spans fde = fde.start < fde.end

-- the first doesn't start below a number, nor each other below the one before it, and the code of each has an address
abbrev Follow : ℕ → List SpannedFde → Type 0
Follow low [] = Unit {0}
Follow low (fde ∷ fdes) = (low ≤ fde.start) × (fde.start < fde.end) × Follow fde.start fdes

follow : (low : ℕ) (fdes : List SpannedFde) → All (λ fde. low ≤ fde.start) fdes → Rises fdes → All Spans fdes → Follow low fdes
follow low [] above up span = tt
follow low (fde ∷ fdes) above up span = (
  All-head (λ fde. low ≤ fde.start) fde fdes above,
  All-head Spans fde fdes span,
  follow fde.start fdes up.0 up.1 (All-tail Spans fde fdes span),
)

add-span : (offset : ℕ) (read : Result Code Error) (fdes : List SpannedFde) → All Spans fdes → All Spans (cons_option (spanned_at offset read) fdes)
add-span offset (Ok code) fdes span =
    by_case (nat_lt code.start code.end)
    (λ is.
    let fde : SpannedFde = record { offset = offset; start = code.start; end = code.end } in
    rw is (All-cons Spans fde fdes (ltb-true code.start code.end is) span))
    (λ is. rw is span)
add-span offset (Err error) fdes span = span

all-span : (fdes : List ListedFde) → All Spans (filter_map spanned fdes)
all-span [] = All-nil Spans
all-span (fde ∷ fdes) = add-span fde.offset fde.read (filter_map spanned fdes) (all-span fdes)

ordered-span : (fdes : List ListedFde) → All Spans (ordered fdes)
ordered-span fdes = All-permutation Spans (filter_map spanned fdes) (ordered fdes) (in-order-permutes (filter_map spanned fdes)) (all-span fdes)

-- ---- the FDE that ends furthest of those before others

record EndsFurthest (before : List SpannedFde) (furthest : SpannedFde) : Type 0 where
  there : Contains before furthest
  above : All (λ fde. fde.end ≤ furthest.end) before

alone : (fde : SpannedFde) → EndsFurthest (fde ∷ []) fde
alone fde = record { there = Contains-push [] fde; above = All-cons (λ other. other.end ≤ fde.end) fde [] (omega arith) (All-nil (λ other. other.end ≤ fde.end)) }

-- .. and of those with one more
one-more : (before : List SpannedFde) (furthest fde : SpannedFde) → EndsFurthest before furthest → EndsFurthest (before ++ fde ∷ []) (further furthest fde)
one-more before furthest fde is =
    by_case (nat_lt furthest.end fde.end)
    (λ yes.
    let below = ltb-true furthest.end fde.end yes in
    let all = All-weaker (λ other. other.end ≤ furthest.end) (λ other. other.end ≤ fde.end) (λ other le. omega arith) before is.above in
    rw yes (record { there = Contains-push before fde; above = All-push (λ other. other.end ≤ fde.end) before fde all (omega arith) }))
    (λ no.
    let above = ltb-false furthest.end fde.end no in
    rw no
    (record {
      there = Contains-append_left before (fde ∷ []) furthest is.there;
      above = All-push (λ other. other.end ≤ furthest.end) before fde is.above above;
    }))

further-starts : (low : ℕ) (furthest fde : SpannedFde) → furthest.start ≤ low → fde.start ≤ low → (further furthest fde).start ≤ low
further-starts low furthest fde one other = by_case (nat_lt furthest.end fde.end) (λ yes. rw yes other) (λ no. rw no one)

-- an FDE shares an address with one before it if it does so with the one that ends furthest
any-shares : (before : List SpannedFde) (furthest fde : SpannedFde) → EndsFurthest before furthest → furthest.start ≤ fde.start → fde.start < fde.end
    → list_any (shares fde) before ≡ nat_lt fde.start furthest.end
any-shares before furthest fde is low span =
    by_case (nat_lt fde.start furthest.end)
    (λ yes.
    let below = ltb-true fde.start furthest.end yes in
    let both = lt-ltb (max fde.start furthest.start) (min fde.end furthest.end) (omega arith) in
    list_any-from_Any (shares fde) before (is.there.0, furthest, is.there.1, is.there.2, both) ∙ sym yes)
    (λ no.
    let past = ltb-false fde.start furthest.end no in
    let none = All-weaker (λ other. other.end ≤ furthest.end) (λ other. shares fde other ≡ false)
    (λ other le. le-ltb (max fde.start other.start) (min fde.end other.end) (omega arith)) before is.above in
    list_any_none (shares fde) before none ∙ sym no)

-- ---- the overlaps of FDEs after others

named-from : (low : ℕ) (before : List SpannedFde) (furthest : SpannedFde) (fdes : List SpannedFde)
    → EndsFurthest before furthest → furthest.start ≤ low → Follow low fdes
    → map (λ (overlap : Overlap). overlap.second) (overlaps_from furthest fdes) ≡ sharing_after before fdes
named-from low before furthest [] is under up = refl
named-from low before furthest (fde ∷ fdes) is under up =
    let under-it : furthest.start ≤ fde.start = omega arith in
    let tells = any-shares before furthest fde is under-it up.1 in
    let still = further-starts fde.start furthest fde under-it (omega arith) in
    let others = named-from fde.start (before ++ fde ∷ []) (further furthest fde) fdes (one-more before furthest fde is) still up.2 in
    by_case (nat_lt fde.start furthest.end)
    (λ yes. let any = tells ∙ yes in rw (yes, any) (ap (λ (named : List SpannedFde). fde ∷ named) others))
    (λ no. let any = tells ∙ no in rw (no, any) others)

each-from : (whole : List SpannedFde) (low : ℕ) (before : List SpannedFde) (furthest : SpannedFde) (fdes : List SpannedFde) → whole ≡ before ++ fdes
    → EndsFurthest before furthest → furthest.start ≤ low → Follow low fdes
    → All (IsOverlapIn whole) (overlaps_from furthest fdes)
each-from whole low before furthest [] parts is under up = All-nil (IsOverlapIn whole)
each-from whole low before furthest (fde ∷ fdes) parts is under up =
    let under-it : furthest.start ≤ fde.start = omega arith in
    let still = further-starts fde.start furthest fde under-it (omega arith) in
    let others-parts = parts ∙ sym (append_assoc before (fde ∷ []) fdes) in
    let others = each-from whole fde.start (before ++ fde ∷ []) (further furthest fde) fdes others-parts (one-more before furthest fde is) still up.2 in
    by_case (nat_lt fde.start furthest.end)
    (λ yes.
    let below = ltb-true fde.start furthest.end yes in
    let overlap : Overlap = record { first = furthest; second = fde } in
    let it : IsOverlapIn whole overlap = record {
      before = before;
      after = fdes;
      second = parts;
      first = is.there;
      furthest = is.above;
      common = (fde.start, (under-it, below), (omega arith, up.1));
    } in
    rw yes (All-cons (IsOverlapIn whole) overlap (overlaps_from (further furthest fde) fdes) it others))
    (λ no. rw no others)

-- ---- the overlaps of FDEs in the order of their starts

named-in : (fdes : List SpannedFde) → Rises fdes → All Spans fdes → map (λ (overlap : Overlap). overlap.second) (overlaps_in fdes) ≡ sharing fdes
named-in [] up span = refl
named-in (fde ∷ fdes) up span =
    named-from fde.start (fde ∷ []) fde fdes (alone fde) (omega arith) (follow fde.start fdes up.0 up.1 (All-tail Spans fde fdes span))

each-in : (fdes : List SpannedFde) → Rises fdes → All Spans fdes → All (IsOverlapIn fdes) (overlaps_in fdes)
each-in [] up span = All-nil (IsOverlapIn [])
each-in (fde ∷ fdes) up span =
    each-from (fde ∷ fdes) fde.start (fde ∷ []) fde fdes refl (alone fde) (omega arith) (follow fde.start fdes up.0 up.1 (All-tail Spans fde fdes span))

-- the FDEs that overlaps name are those that share an address with one before them
pub overlaps-named : (fdes : List ListedFde) → map (λ (overlap : Overlap). overlap.second) (overlaps_of fdes) ≡ sharing (ordered fdes)
overlaps-named fdes = named-in (ordered fdes) (in-order-rises (filter_map spanned fdes)) (ordered-span fdes)

-- each overlap is of one of these and of one before it
pub overlaps-each : (fdes : List ListedFde) → All (IsOverlapIn (ordered fdes)) (overlaps_of fdes)
overlaps-each fdes = each-in (ordered fdes) (in-order-rises (filter_map spanned fdes)) (ordered-span fdes)
