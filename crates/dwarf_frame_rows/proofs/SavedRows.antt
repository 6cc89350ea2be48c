-- What a copy of a row leaves in a list of rows, and the rows behind the first.
use Rattle.std.proofs.Common.{◌≡◌, ℕ, zero, suc, ◌+◌, ◌-◌, ◌<◌, ◌≤◌, List, [], ◌∷◌, ◌++◌, length, map, take, drop, reverse, get_or, slice_set, Result, Ok, Err, OnOk, refl, sym, ap, ◌∙◌, add-one, arith}
use Rattle.std.specs.FinMap.{empty}
use Rattle.std.proofs.Math.Seq.{take-suc}
use Rattle.std.proofs.lemmas.List.{map-append, reverse-append}
use Rattle.dwarf_frame_rows.specs.declared.row.UnwindTableRow.{UnwindTableRow}
use Rattle.dwarf_frame_rows.specs.Row.{SameAround, rules_of_first}

-- the items up to one that is written
map-written : {X Y : Type 0} (view : X → Y) (items : List X) (index : ℕ) (item : X) → index < length items
    → map view (take (suc index) (slice_set items index item)) ≡ map view (take index items) ++ view item ∷ []
map-written view [] index item there = absurd (omega arith)
map-written view (i ∷ items) zero item there = refl
map-written view (i ∷ items) (suc index) item there = ap (λ l. view i ∷ l) (map-written view items index item (omega arith))

-- those before it
take-written : {X : Type 0} (items : List X) (index : ℕ) (item : X) → take index (slice_set items index item) ≡ take index items
take-written [] zero item = refl
take-written [] (suc index) item = refl
take-written (i ∷ items) zero item = refl
take-written (i ∷ items) (suc index) item = ap (λ l. i ∷ l) (take-written items index item)

-- those behind it
drop-written : {X : Type 0} (items : List X) (index : ℕ) (item : X) → drop (suc index) (slice_set items index item) ≡ drop (suc index) items
drop-written [] zero item = refl
drop-written [] (suc index) item = refl
drop-written (i ∷ items) zero item = refl
drop-written (i ∷ items) (suc index) item = drop-written items index item

-- those on both sides of it
pub written-around : {X : Type 0} (old new : List X) (index : ℕ) (item : X) → new ≡ slice_set old index item → SameAround index old new
written-around old new index item is = record {
  before = ap (take index) is ∙ take-written old index item;
  behind = ap (drop (index + 1)) is ∙ ap (λ n. drop n (slice_set old index item)) (add-one index) ∙ drop-written old index item
      ∙ sym (ap (λ n. drop n old) (add-one index));
}

-- those up to one that became a copy
pub map-copied : {X Y E : Type 0} (view : X → Y) (old new : List X) (index : ℕ) (item : X) (source : Y) (result : Result (Unit {0}) E) → new ≡ slice_set old index item → index < length old
    → OnOk result (view item ≡ source) → OnOk result (map view (take (index + 1) new) ≡ map view (take index old) ++ source ∷ [])
map-copied view old new index item source (Ok _) is there copied =
    ap (λ (n : ℕ). map view (take n new)) (add-one index) ∙ ap (λ l. map view (take (suc index) l)) is ∙ map-written view old index item there
    ∙ ap (λ y. map view (take index old) ++ y ∷ []) copied
map-copied view old new index item source (Err e) is there copied = tt

-- ---- the first row, and those behind it

-- no row has no rules
pub rules-of-no-first : {T L : Type 0} (rows : List (UnwindTableRow T L)) → length rows < 1 → rules_of_first rows ≡ empty
rules-of-no-first [] none = refl
rules-of-no-first (row ∷ rows) none = absurd (omega arith)

-- the first row is among those before another
pub same-first : {T L : Type 0} (old new : List (UnwindTableRow T L)) (n : ℕ) → 0 < n → take n new ≡ take n old
    → rules_of_first new ≡ rules_of_first old
same-first old new zero some is = absurd (omega arith)
same-first [] [] (suc n) some is = refl
same-first [] (r ∷ new) (suc n) some is = cc
same-first (q ∷ old) [] (suc n) some is = cc
same-first (q ∷ old) (r ∷ new) (suc n) some is = cc

-- the rows behind the first, with one more behind those
more-behind-first : {X Y : Type 0} (view : X → Y) (old new : List X) (n : ℕ) (item : Y) → 0 < length old
    → map view (take (suc (suc n)) new) ≡ map view (take (suc n) old) ++ item ∷ []
    → map view (take (suc n) (drop 1 new)) ≡ map view (take n (drop 1 old)) ++ item ∷ []
more-behind-first view [] new n item there is = absurd (omega arith)
more-behind-first view (q ∷ old) [] n item there is = cc
more-behind-first view (q ∷ old) (r ∷ new) n item there is = cc

-- the latest first
pub reversed-with-more : {X Y : Type 0} (view : X → Y) (old new : List X) (n : ℕ) (item : Y) → 0 < length old
    → map view (take (n + 1 + 1) new) ≡ map view (take (n + 1) old) ++ item ∷ []
    → reverse (map view (take (n + 1) (drop 1 new))) ≡ item ∷ reverse (map view (take n (drop 1 old)))
reversed-with-more view old new n item there is =
    let more : map view (take (suc (suc n)) new) ≡ map view (take (suc n) old) ++ item ∷ [] =
    ap (λ m. map view (take m new)) (sym (add-one (suc n)) ∙ ap (λ m. m + 1) (sym (add-one n))) ∙ is ∙ ap (λ m. map view (take m old) ++ item ∷ []) (add-one n) in
    ap (λ m. reverse (map view (take m (drop 1 new)))) (add-one n) ∙ ap reverse (more-behind-first view old new n item there more)
    ∙ reverse-append (map view (take n (drop 1 old))) (item ∷ [])

-- those of some rows that are one more, the latest first
reversed-latest : {X Y : Type 0} (view : X → Y) (items : List X) (n : ℕ) (d : X) → n < length items
    → reverse (map view (take (suc n) items)) ≡ view (get_or items n d) ∷ reverse (map view (take n items))
reversed-latest view items n d there =
    ap (λ l. reverse (map view l)) (take-suc items n d there) ∙ ap reverse (map-append view (take n items) (get_or items n d ∷ []))
    ∙ reverse-append (map view (take n items)) (view (get_or items n d) ∷ [])

-- the latest of the rows behind the first, and the others, which are the same before an index
pub reversed-behind-first : {X Y : Type 0} (view : X → Y) (old new : List X) (n : ℕ) (d : X) → 0 < n → n ≤ length (drop 1 old)
    → take n new ≡ take n old
    → reverse (map view (take n (drop 1 old))) ≡ view (get_or old n d) ∷ reverse (map view (take (n - 1) (drop 1 new)))
reversed-behind-first view old new zero d some there is = absurd (omega arith)
reversed-behind-first view [] new (suc n) d some there is = absurd (omega arith)
reversed-behind-first view (q ∷ old) [] (suc n) d some there is = cc
reversed-behind-first view (q ∷ old) (r ∷ new) (suc n) d some there is =
    let same : take n new ≡ take n old = cc in
    reversed-latest view old n d (omega arith) ∙ ap (λ l. view (get_or old n d) ∷ reverse (map view l)) (sym same)
    ∙ ap (λ m. view (get_or old n d) ∷ reverse (map view (take m new))) (omega arith)
