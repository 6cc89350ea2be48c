-- What a row, and the rows that are left, add to ranges.
use Rattle.std.proofs.Common.{◌≡◌, inl, ℕ, suc, ◌+◌, ◌-◌, ◌<◌, ◌≤◌, Bool, true, false, List, [], ◌∷◌, length, Option, Some, None, Result, Ok, Err, refl, sym, ap, subst, ◌∙◌, arith}
use Rattle.std.specs.Prelude.{nat_le, nat_lt, max, min, ◌&&◌, if◌then◌else◌}
use Rattle.std.proofs.lemmas.Bool.Decides.{nat_tests}
use Rattle.dwarf_constants.specs.declared.error.Error.{Error}
use Rattle.dwarf_readers.specs.Stretch.{Stretch}
use Rattle.dwarf_frame_rows.specs.declared.row.UnwindTableRow.{UnwindTableRow}
use Rattle.dwarf_frame_rows.specs.Effects.{Limits}
use Rattle.dwarf_frame_rows.specs.Row.{Row, holds_at}
use Rattle.dwarf_frame_instructions.specs.declared.rows.ProgramRows.{ProgramRows}
use Rattle.dwarf_frame_instructions.specs.ProgramRows.{Advances, after_first, current_row, first_of, rows_left, rows_state}
use Rattle.dwarf_frame_instructions.specs.Programs.{RowList, row_among}
use Rattle.list_laws.proofs.Laws.{by_case}
use Rattle.framehop_ranges.specs.declared.ranges.Ranges.{Ranges}
use Rattle.framehop_ranges.specs.Ranges.{Sound, Extends, range_at}
use Rattle.framehop_tables.specs.declared.covered.Covered.{Covered}
use Rattle.framehop_tables.specs.declared.covered.Covered.TheVariants.{Says}
use Rattle.framehop_tables.specs.declared.spans.Span.{Span}
use Rattle.framehop_tables.specs.Covered.{RowRules, by_row, by_rows, by_rule}
use Rattle.framehop_tables.specs.Tabulations.{AddsOthers, AddsRow, AddsRows, Begins, GoOn, rows_past}

-- rows that go on from an address go on from a later one
pub go-on-later : (early late : ℕ) (rows : List (Row ℕ)) → early ≤ late → GoOn early rows → GoOn late rows
go-on-later early late [] le go = tt
go-on-later early late (row ∷ rows) le go = (omega (arith, go.0), go.1)

-- rows, the first of which is this one
abbrev row_and : Row ℕ → List (Row ℕ) → Option Error → RowList ℕ
row_and row others refusal = record { rows = row ∷ others; refusal = refusal }

abbrev rows_and : List (Row ℕ) → Option Error → RowList ℕ
rows_and rows refusal = record { rows = rows; refusal = refusal }

-- a row that contains an address is the row for it, and one that ends at or below it isn't
row-holds : (row : Row ℕ) (others : List (Row ℕ)) (refusal : Option Error) (address : ℕ) → row.start ≤ address → address < row.end → row_among address (row_and row others refusal) ≡ Ok row
row-holds row others refusal address low high =
    let starts : nat_le row.start address ≡ true = grind (arith, nat_tests) in
    let ends : nat_lt address row.end ≡ true = grind (arith, nat_tests) in
    rw (starts, ends) refl

and-false : (b : Bool) → (b && false) ≡ false
and-false true = refl
and-false false = refl

row-past : (row : Row ℕ) (others : List (Row ℕ)) (refusal : Option Error) (address : ℕ) → row.end ≤ address → row_among address (row_and row others refusal) ≡ row_among address (rows_and others refusal)
row-past row others refusal address past =
    let ends : nat_lt address row.end ≡ false = grind (arith, nat_tests) in
    let fails : holds_at address row ≡ false = rw ends (and-false (nat_le row.start address)) in
    rw fails refl

-- no row is the row for an address, if none is left
none-left : {Rule : Type 0} (rules : RowRules Rule) (offset : ℕ) (refusal : Option Error) (address : ℕ) → by_rows rules offset (rows_and [] refusal) address ≡ Says rules.uncovered
none-left rules offset None address = refl
none-left rules offset (Some e) address = refl

-- fewer rows end past a later address
past-later : (early late : ℕ) (rows : List (Row ℕ)) → early ≤ late → rows_past late rows ≤ rows_past early rows
past-later early late [] le = omega arith
past-later early late (row ∷ rows) le =
    let others = past-later early late rows le in
    by_case (nat_lt late row.end)
    (λ is. let before : nat_lt early row.end ≡ true = grind (arith, nat_tests) in rw (is, before) (omega (arith, others)))
    (λ is. by_case (nat_lt early row.end) (λ before. rw (is, before) (omega (arith, others))) (λ before. rw (is, before) others))

past-all : (address : ℕ) (rows : List (Row ℕ)) → rows_past address rows ≤ length rows
past-all address [] = omega arith
past-all address (row ∷ rows) = let others = past-all address rows in by_case (nat_lt address row.end) (λ is. rw is (omega (arith, others))) (λ is. rw is (omega (arith, others)))

past-here : (address : ℕ) (row : Row ℕ) (rows : List (Row ℕ)) → address < row.end → rows_past address (row ∷ rows) ≡ suc (rows_past address rows)
past-here address row rows over = let is : nat_lt address row.end ≡ true = grind (arith, nat_tests) in rw is refl

past-others : (address : ℕ) (row : Row ℕ) (rows : List (Row ℕ)) → row.end ≤ address → rows_past address (row ∷ rows) ≡ rows_past address rows
past-others address row rows under = let is : nat_lt address row.end ≡ false = grind (arith, nat_tests) in rw is refl

module _ {Rule : Type 0} (rules : RowRules Rule) (span : Span) (old : Ranges (Covered Rule)) (all : RowList ℕ) where
  -- What is reached if these rows are left: the ranges are the old ones below their end, and from there on as all the rows say; from
  -- their own end on the rows that are left say the same as all.
  pub record Reaches (ranges : Ranges (Covered Rule)) (left : RowList ℕ) : Type 0 where
    pub same : ranges.before ≡ old.before
    pub least : old.done ≤ ranges.done
    pub most : ranges.done ≤ max old.done span.limit
    pub few : length ranges.entries.items + rows_past (span.base_svma + ranges.done) left.rows ≤ length old.entries.items + length all.rows
    pub passed : ranges.done < span.limit → (address : ℕ) → span.base_svma + ranges.done ≤ address → rows_past address all.rows ≤ rows_past address left.rows
    pub below : (relative : ℕ) → relative < old.done → range_at ranges relative ≡ range_at old relative
    pub goes : GoOn (span.base_svma + old.done) all.rows → ranges.done < span.limit → GoOn (span.base_svma + ranges.done) left.rows
    pub from : GoOn (span.base_svma + old.done) all.rows → (relative : ℕ) → old.done ≤ relative → relative < ranges.done
        → range_at ranges relative ≡ by_rows rules span.offset all (span.base_svma + relative)
    pub rest : GoOn (span.base_svma + old.done) all.rows → (relative : ℕ) → ranges.done ≤ relative → relative < span.limit
        → row_among (span.base_svma + relative) all ≡ row_among (span.base_svma + relative) left

  -- nothing was added yet
  pub begins-none : Begins rules span all old old
  begins-none = record {
    same = refl;
    least = omega arith;
    most = omega arith;
    few = omega (arith, past-all (span.base_svma + old.done) all.rows);
    below = λ relative below. refl;
    from = λ go relative high below. absurd (omega arith);
  }

  -- some rows were added, and all are left
  pub reached-begun : (ranges : Ranges (Covered Rule)) → Begins rules span all old ranges → Reaches ranges all
  reached-begun ranges begins = record {
    same = begins.same;
    least = begins.least;
    most = begins.most;
    few = begins.few;
    passed = λ more address le. omega arith;
    below = begins.below;
    goes = λ go below. go-on-later (span.base_svma + old.done) (span.base_svma + ranges.done) all.rows (omega (arith, begins.least)) go;
    from = begins.from;
    rest = λ go relative high below. refl;
  }

  pub reached-none : Reaches old all
  reached-none = reached-begun old begins-none

  -- some rows are left
  pub reached-begins : (ranges : Ranges (Covered Rule)) (left : RowList ℕ) → ranges.done < span.limit → Reaches ranges left → Begins rules span all old ranges
  reached-begins ranges left more reached = record {
    same = reached.same;
    least = reached.least;
    most = reached.most;
    few = omega (arith, reached.few, reached.passed more (span.base_svma + ranges.done) (omega arith));
    below = reached.below;
    from = reached.from;
  }

  module _ (ranges new : Ranges (Covered Rule)) where
    -- a row more
    pub reached-row : (row : Row ℕ) (others : List (Row ℕ)) (refusal : Option Error) → ranges.done < span.limit
        → AddsRow ranges (min (row.end - span.base_svma) span.limit) (by_rule span.offset (rules.rule_of row)) new
        → Reaches ranges (row_and row others refusal) → Reaches new (rows_and others refusal)
    reached-row row others refusal more adds reached = let extends = adds.extends in record {
      same = extends.same ∙ reached.same;
      least = omega (arith, reached.least, extends.done);
      most = omega (arith, reached.most, extends.done);
      few =
          let less = past-later (span.base_svma + ranges.done) (span.base_svma + new.done) others (omega (arith, extends.done)) in
          by_case (nat_lt ranges.done (min (row.end - span.base_svma) span.limit))
          (λ is.
          let over : ranges.done < min (row.end - span.base_svma) span.limit = grind (arith, nat_tests) in
          omega (arith, past-here (span.base_svma + ranges.done) row others (omega (arith, over)), less, extends.few, reached.few))
          (λ is.
          let under : min (row.end - span.base_svma) span.limit ≤ ranges.done = grind (arith, nat_tests) in
          omega (arith, past-others (span.base_svma + ranges.done) row others (omega (arith, under, more)), less, adds.none under, reached.few));
      passed = λ below address le.
          omega (arith, past-others address row others (omega (arith, below, le, extends.done)), reached.passed more address (omega (arith, le, extends.done)));
      below = λ relative below. extends.below relative (omega (arith, reached.least)) ∙ reached.below relative below;
      goes = λ go below. let goes = reached.goes go more in go-on-later row.end (span.base_svma + new.done) others (omega (arith, extends.done)) goes.1;
      from = λ go relative high below.
          let goes = reached.goes go more in
          by_case (nat_lt relative ranges.done)
          (λ is. let low : relative < ranges.done = grind (arith, nat_tests) in extends.below relative low ∙ reached.from go relative high low)
          (λ is.
          let from : ranges.done ≤ relative = grind (arith, nat_tests) in
          let holds = row-holds row others refusal (span.base_svma + relative) (omega (arith, goes.0)) (omega (arith, extends.done)) in
          extends.from relative from below ∙ sym (ap (by_row rules span.offset) (reached.rest go relative from (omega (arith, extends.done, more)) ∙ holds)));
      rest = λ go relative high below.
          reached.rest go relative (omega (arith, extends.done)) below ∙ row-past row others refusal (span.base_svma + relative) (omega (arith, extends.done));
    }

    -- .. which is the first of those that are left
    pub reached-more : (rows : List (Row ℕ)) (refusal : Option Error) (row : Row ℕ) (rest : RowList ℕ) → ranges.done < span.limit → first_of (rows_and rows refusal) ≡ Ok (Some row)
        → rest ≡ after_first (rows_and rows refusal) → AddsRow ranges (min (row.end - span.base_svma) span.limit) (by_rule span.offset (rules.rule_of row)) new
        → Reaches ranges (rows_and rows refusal) → Reaches new rest
    reached-more [] None row rest more first after adds reached = let none : ◌≡◌ {A = Option (Row ℕ)} None (Some row) = cc in cc
    reached-more [] (Some e) row rest more first after adds reached = cc
    reached-more (head ∷ others) refusal row rest more first after adds reached =
        let same : head ≡ row = cc in
        let adds_head : AddsRow ranges (min (head.end - span.base_svma) span.limit) (by_rule span.offset (rules.rule_of head)) new =
        subst (λ (r : Row ℕ). AddsRow ranges (min (r.end - span.base_svma) span.limit) (by_rule span.offset (rules.rule_of r)) new) (sym same) adds in
        subst (Reaches new) (sym after) (reached-row head others refusal more adds_head reached)

    -- no row is left
    pub reached-end : (refusal : Option Error) → Extends ranges span.limit (Says rules.uncovered) new → Reaches ranges (rows_and [] refusal) → AddsRows rules span all old new
    reached-end refusal extends reached = record {
      sound = extends.sound;
      same = extends.same ∙ reached.same;
      done = omega (arith, reached.least, reached.most, extends.done);
      few = omega (arith, reached.few, extends.few);
      below = λ relative below. extends.below relative (omega (arith, reached.least)) ∙ reached.below relative below;
      from = λ go relative high below.
          by_case (nat_lt relative ranges.done)
          (λ is. let low : relative < ranges.done = grind (arith, nat_tests) in extends.below relative low ∙ reached.from go relative high low)
          (λ is.
          let from : ranges.done ≤ relative = grind (arith, nat_tests) in
          extends.from relative from below ∙ sym (ap (by_row rules span.offset) (reached.rest go relative from (omega (arith, extends.done))) ∙ none-left rules span.offset refusal (span.base_svma + relative)));
    }

    pub reached-last : (rows : List (Row ℕ)) (refusal : Option Error) → rows ≡ [] → Extends ranges span.limit (Says rules.uncovered) new → Reaches ranges (rows_and rows refusal)
        → AddsRows rules span all old new
    reached-last rows refusal none extends reached = reached-end refusal extends (subst (λ (l : List (Row ℕ)). Reaches ranges (rows_and l refusal)) none reached)

  -- the limit is reached
  pub reached-limit : (ranges : Ranges (Covered Rule)) (left : RowList ℕ) → Sound ranges → span.limit ≤ ranges.done → Reaches ranges left → AddsRows rules span all old ranges
  reached-limit ranges left sound over reached = record {
    sound = sound;
    same = reached.same;
    done = omega (arith, reached.least, reached.most);
    few = omega (arith, reached.few);
    below = reached.below;
    from = reached.from;
  }

-- nothing but that code is uncovered is added for no rows
pub adds-none : {Rule : Type 0} (rules : RowRules Rule) (span : Span) (old new : Ranges (Covered Rule)) (all : RowList ℕ) → all.rows ≡ [] → Extends old span.limit (Says rules.uncovered) new
    → AddsRows rules span all old new
adds-none rules span old new all none extends = reached-last rules span old all old new all.rows all.refusal none extends (reached-none rules span old all)

-- .. whatever was added before
pub others-none : {Rule : Type 0} (rules : RowRules Rule) (span : Span) (begun new : Ranges (Covered Rule)) (all : RowList ℕ) → all.rows ≡ [] → Extends begun span.limit (Says rules.uncovered) new
    → AddsOthers rules span all begun new
others-none rules span begun new all none extends old begins =
    reached-last rules span old all begun new all.rows all.refusal none extends (reached-begun rules span old all begun begins)

-- what is reached, whatever the ranges were before some rows were added
abbrev pub ReachesFrom : {Rule : Type 0} → RowRules Rule → Span → (all : RowList ℕ) → (begun ranges : Ranges (Covered Rule)) → (left : RowList ℕ) → Type 0
ReachesFrom {Rule} rules span all begun ranges left = (old : Ranges (Covered Rule)) → Begins rules span all old begun → Reaches rules span old all ranges left

-- ---- what a call gave

none-first : (rows : List (Row ℕ)) (refusal : Option Error) → first_of (rows_and rows refusal) ≡ Ok None → rows ≡ []
none-first [] refusal is = refl
none-first (row ∷ rows) refusal is = let none : ◌≡◌ {A = Option (Row ℕ)} (Some row) None = cc in cc

refused-first : (rows : List (Row ℕ)) (refusal : Option Error) (e : Error) → first_of (rows_and rows refusal) ≡ Err e → rows ≡ []
refused-first [] refusal e is = refl
refused-first (row ∷ rows) refusal e is = cc

module _ {R S E O L K : Type 0} (stretch : R → Stretch) (limit : ℕ) (number : O → ℕ) (items : K → List (UnwindTableRow O L)) (limits : Limits) (Fixed : Type 0) (fixed : Fixed) (t u : ProgramRows R S E O L K) where
  abbrev Left : ProgramRows R S E O L K → RowList ℕ
  Left rows = rows_left stretch limit number items limits rows

  -- the row that is current, as one is given or none
  abbrev row_if : Bool → Option (Row ℕ)
  row_if given = if given then Some (rows_state number items u).row else None

  -- if a row is current, it is the first of those that were left
  pub row-given : (result : Result Bool Error) (row : Row ℕ) → Advances stretch limit number items limits Fixed t result u → current_row number items u ≡ Some row
      → (first_of (Left t) ≡ Ok (Some row)) × (Left u ≡ after_first (Left t)) × (result ≡ Ok true)
  row-given (Ok true) row went is = (went.first ∙ ap (λ (o : Option (Row ℕ)). Ok o) is, went.left, refl)
  row-given (Ok false) row went is = let none : ◌≡◌ {A = Option (Row ℕ)} None (Some row) = sym (ap row_if went.given) ∙ is in cc
  row-given (Err e) row went is = let none : ◌≡◌ {A = Option (Row ℕ)} None (Some row) = sym (ap row_if went.given) ∙ is in cc

  -- if none is, none was left
  pub none-given : (result : Result Bool Error) → Advances stretch limit number items limits Fixed t result u → current_row number items u ≡ None → (Left t).rows ≡ []
  none-given (Ok more) went is = none-first (Left t).rows (Left t).refusal (went.first ∙ ap (λ (o : Option (Row ℕ)). Ok o) is)
  none-given (Err e) went is = refused-first (Left t).rows (Left t).refusal e (went.refused (inl fixed))
