-- What an FDE and an index add to ranges.
use Rattle.std.proofs.Common.{◌≡◌, ℕ, zero, suc, ◌+◌, ◌<◌, ◌≤◌, ◌^◌, true, false, List, [], ◌∷◌, length, get_or, drop, drop-cons, Option, Some, None, Result, Ok, Err, refl, sym, ap, subst, ◌∙◌, arith}
use Rattle.std.specs.Prelude.{nat_lt, min, IfOk}
use Rattle.std.specs.List.Sorted.{IsNonDecreasingBy}
use Rattle.std.proofs.lemmas.Bool.Decides.{nat_tests}
use Rattle.dwarf_constants.specs.declared.common.Vendor.{Vendor}
use Rattle.dwarf_constants.specs.declared.error.Error.{Error}
use Rattle.dwarf_frame_rows.specs.declared.effect.Effect.{Effect}
use Rattle.dwarf_frame_rows.specs.Effects.{Limits}
use Rattle.dwarf_frame_rows.specs.FrameSection.{FrameSection}
use Rattle.dwarf_frame_instructions.specs.Programs.{EntryProgram, InstructionContext, InstructionStep, Instructions, Moves, Refused, RowList, Writes, effects_of_cie, rows_after_cie, rows_from, rows_of_program, row_after, row_before, refused_rows, rules_left, step_of}
use Rattle.dwarf_frame_instructions.specs.Refusals.{rules_or_none}
use Rattle.dwarf_frame_entries.specs.Entries.{Fde, fde_from_offset}
use Rattle.dwarf_frame_entries.specs.EntryPrograms.{fde_program, fde_rows}
use Rattle.list_laws.proofs.Laws.{by_case}
use Rattle.framehop_ranges.specs.declared.ranges.Ranges.{Ranges}
use Rattle.framehop_ranges.specs.Ranges.{Extends, range_at}
use Rattle.framehop_tables.specs.declared.covered.Covered.{Covered}
use Rattle.framehop_tables.specs.declared.covered.Covered.TheVariants.{Nothing}
use Rattle.framehop_tables.specs.declared.spans.Span.{Span}
use Rattle.framehop_index.specs.declared.cfi_index.IndexedFde.{IndexedFde}
use Rattle.framehop_index.specs.IndexSpans.{HasInSpans, IsInSpan}
use Rattle.framehop_index.specs.Lookups.{found_by_index}
use Rattle.framehop_tables.specs.Covered.{Tabulated, by_entry, by_offset, covered_at}
use Rattle.framehop_tables.specs.Tabulations.{AddsEntry, AddsRows, AreOf, GoOn, end_of, room_within, row_count, start_at}
use Rattle.framehop_tables.proofs.RowLaws.{go-on-later}

-- ---- the rows of a program go on from its start

-- what a step makes of rows
abbrev rows_by : InstructionContext ℕ → ℕ → ℕ → List (Effect ℕ) → Instructions ℕ → InstructionStep ℕ → RowList ℕ
rows_by frame end start executed rest step = elim step [
  | Moves location ↦ row_before (row_after (rules_or_none frame.initial_rules) start location executed) (rows_from frame end location executed rest)
  | Writes effect ↦ rows_from frame end start (effect ∷ executed) rest
  | Refused e ↦ refused_rows e
]

rows-go-on : (frame : InstructionContext ℕ) (end start : ℕ) (executed : List (Effect ℕ)) (instructions : Instructions ℕ) → GoOn start (rows_from frame end start executed instructions).rows
rows-go-on frame end start executed [] = (omega arith, tt)
rows-go-on frame end start executed (Err e ∷ rest) = tt
rows-go-on frame end start executed (Ok i ∷ rest) = by (step_of frame start executed i) (λ next. rows-go-on frame end next executed rest) (λ effect. rows-go-on frame end start (effect ∷ executed) rest)
  where
    by : (step : InstructionStep ℕ) → ((next : ℕ) → GoOn next (rows_from frame end next executed rest).rows)
        → ((effect : Effect ℕ) → GoOn start (rows_from frame end start (effect ∷ executed) rest).rows) → GoOn start (rows_by frame end start executed rest step).rows
    by (Moves next) moved wrote = (omega arith, moved next)
    by (Writes effect) moved wrote = wrote effect
    by (Refused e) moved wrote = tt

program-goes-on : (limits : Limits) (program : EntryProgram ℕ) → GoOn program.initial_address (rows_of_program limits program).rows
program-goes-on limits program = by (effects_of_cie limits program)
  where
    by : (effects : Result (List (Effect ℕ)) Error) → GoOn program.initial_address (rows_after_cie limits program effects).rows
    by (Ok executed) =
        rows-go-on (record { factors = program.factors; limits = limits; initial_rules = Some (rules_left executed) }) program.end_address program.initial_address executed program.instructions
    by (Err e) = tt

-- the rows of an FDE that starts at or below an address go on from there
fde-goes-on : (limits : Limits) (section : FrameSection) (vendor : Vendor) (fde : Fde) (address : ℕ) → fde.initial_address ≤ address → GoOn address (fde_rows limits section vendor fde).rows
fde-goes-on limits section vendor fde address le =
    go-on-later fde.initial_address address (fde_rows limits section vendor fde).rows le (program-goes-on limits (fde_program section vendor fde))

-- ---- what is at an offset

module _ {Rule : Type 0} (t : Tabulated Rule) (span : Span) (old new : Ranges (Covered Rule)) where
  -- an FDE adds what its rows do
  pub adds-fde : (fde : Fde) (entry : Result Fde Error) → entry ≡ Ok fde → AddsRows t.rules span (fde_rows t.limits t.section t.vendor fde) old new → AddsEntry t span entry old new
  adds-fde fde entry is adds = subst (λ (e : Result Fde Error). AddsEntry t span e old new) (sym is) (record {
    sound = adds.sound;
    same = adds.same;
    done = adds.done;
    few = adds.few;
    below = adds.below;
    from = λ starts. adds.from (fde-goes-on t.limits t.section t.vendor fde (span.base_svma + old.done) starts);
  })

  -- if none can be read, nothing is said
  pub adds-none : (e : Error) (entry : Result Fde Error) → entry ≡ Err e → Extends old span.limit Nothing new → AddsEntry t span entry old new
  adds-none e entry is extends = subst (λ (e : Result Fde Error). AddsEntry t span e old new) (sym is) (record {
    sound = extends.sound;
    same = extends.same;
    done = extends.done;
    few = omega (arith, extends.few);
    below = extends.below;
    from = λ starts. extends.from;
  })

-- ---- starts

-- where the FDE at a place starts
pub start-within : (end : ℕ) (kept : List IndexedFde) (i : ℕ) (d : IndexedFde) → i < length kept → start_at end kept i ≡ min (get_or kept i d).start end
start-within end [] i d within = absurd (omega arith)
start-within end (fde ∷ others) zero d within = refl
start-within end (fde ∷ others) (suc i) d within = start-within end others i d (omega arith)

-- after the last
pub start-after : (end : ℕ) (kept : List IndexedFde) (i : ℕ) → length kept ≤ i → start_at end kept i ≡ end
start-after end [] i past = refl
start-after end (fde ∷ others) zero past = absurd (omega arith)
start-after end (fde ∷ others) (suc i) past = start-after end others i (omega arith)

pub start-fits : (end : ℕ) (kept : List IndexedFde) (i : ℕ) → start_at end kept i ≤ end
start-fits end [] i = omega arith
start-fits end (fde ∷ others) zero = omega arith
start-fits end (fde ∷ others) (suc i) = start-fits end others i

-- what the code finds at a place
pub start-some : (end : ℕ) (kept : List IndexedFde) (i : ℕ) (fde : IndexedFde) → true ≡ nat_lt i (length kept) → fde ≡ get_or kept i fde → start_at end kept i ≡ min fde.start end
start-some end kept i fde is at =
    let within : i < length kept = grind (arith, nat_tests) in
    start-within end kept i fde within ∙ ap (λ (f : IndexedFde). min f.start end) (sym at)

pub start-none : (end : ℕ) (kept : List IndexedFde) (i : ℕ) → false ≡ nat_lt i (length kept) → start_at end kept i ≡ end
start-none end kept i is = let past : length kept ≤ i = grind (arith, nat_tests) in start-after end kept i past

-- ---- what an index says from one start to the next

no-fde : IndexedFde
no-fde = record { start = 0; offset = 0 }

module _ {Rule : Type 0} (t : Tabulated Rule) (kept : List IndexedFde) (spans : HasInSpans kept t.base t.section) (up : IsNonDecreasingBy (λ fde. fde.start) kept) where
  abbrev End : ℕ
  End = end_of t.base

  -- below the first start it says nothing
  pub says-none : (relative : ℕ) → relative < start_at End kept 0 → covered_at t relative ≡ Nothing
  unfolding covered_at
  says-none relative below =
      ap (by_offset t relative) (spans.none relative no-fde (λ some. let start = start-within End kept 0 no-fde some in omega (arith, below, start)))

  -- at addresses past 64 bits it says nothing
  pub says-past : (relative : ℕ) → End ≤ relative → relative < 2 ^ 32 → covered_at t relative ≡ Nothing
  unfolding covered_at
  says-past relative past fits = by (found_by_index t.section t.base relative)
    where
      by : (found : Option ℕ) → by_offset t relative found ≡ Nothing
      by None = refl
      by (Some offset) =
          let over : 2 ^ 64 ≤ t.base + relative = omega (arith, past, fits) in
          let is : nat_lt (t.base + relative) (2 ^ 64) ≡ false = grind (arith, nat_tests) in
          rw is refl

  module _ (i : ℕ) (d : IndexedFde) (within : i < length kept) where
    abbrev Offset : ℕ
    Offset = (get_or kept i d).offset

    in-span : (relative : ℕ) → start_at End kept i ≤ relative → relative < start_at End kept (i + 1) → IsInSpan kept i relative d
    in-span relative from below =
        let start = start-within End kept i d within in
        let next = start-fits End kept (i + 1) in
        record {
          within = within;
          from = omega (arith, start, next, from, below);
          below = λ more. let after = start-within End kept (i + 1) d more in omega (arith, after, below);
        }

    -- from a start to the next it says what is at the FDE's offset
    pub says-entry : (relative : ℕ) → start_at End kept i ≤ relative → relative < start_at End kept (i + 1)
        → covered_at t relative ≡ by_entry t Offset (fde_from_offset t.section Offset) (t.base + relative)
    unfolding covered_at
    says-entry relative from below =
        let next = start-fits End kept (i + 1) in
        let under : t.base + relative < 2 ^ 64 = omega (arith, next, below) in
        let is : nat_lt (t.base + relative) (2 ^ 64) ≡ true = grind (arith, nat_tests) in
        ap (by_offset t relative) (spans.some i relative d (in-span relative from below)) ∙ rw is refl

    -- which starts at or below an address there
    begins : (relative : ℕ) → start_at End kept i ≤ relative → relative < start_at End kept (i + 1) → (entry : Result Fde Error) → fde_from_offset t.section Offset ≡ entry
        → IfOk entry (λ fde. fde.initial_address ≤ t.base + relative)
    begins relative from below (Ok fde) is = spans.starts relative Offset fde (spans.some i relative d (in-span relative from below)) is
    begins relative from below (Err e) is = tt

    -- an FDE more
    module _ (span : Span) (old new : Ranges (Covered Rule)) (base : span.base_svma ≡ t.base) (offset : span.offset ≡ Offset) (limit : span.limit ≡ start_at End kept (i + 1)) (done : old.done ≡ start_at End kept i)
        (adds : AddsEntry t span (fde_from_offset t.section Offset) old new) where
      pub next-done : new.done ≡ start_at End kept (i + 1)
      next-done =
          by_case (nat_lt (i + 1) (length kept))
          (λ is.
          let more : i + 1 < length kept = grind (arith, nat_tests) in
          let order = up i (i + 1) d (omega arith) more in
          omega (arith, adds.done, limit, done, start-within End kept i d within, start-within End kept (i + 1) d more))
          (λ is.
          let past : length kept ≤ i + 1 = grind (arith, nat_tests) in
          omega (arith, adds.done, limit, done, start-fits End kept i, start-after End kept (i + 1) past))

      pub next-says : ((relative : ℕ) → relative < old.done → range_at old relative ≡ covered_at t relative) → (relative : ℕ) → relative < new.done → range_at new relative ≡ covered_at t relative
      next-says before relative below =
          by_case (nat_lt relative old.done)
          (λ is. let low : relative < old.done = grind (arith, nat_tests) in adds.below relative low ∙ before relative low)
          (λ is.
          let from : old.done ≤ relative = grind (arith, nat_tests) in
          let next : relative < start_at End kept (i + 1) = omega (arith, next-done) in
          let starts : IfOk (fde_from_offset t.section Offset) (λ fde. fde.initial_address ≤ span.base_svma + old.done) =
          rw base (begins old.done (omega (arith, done)) (omega (arith, from, next)) (fde_from_offset t.section Offset) refl) in
          let says = says-entry relative (omega (arith, done, from)) next in
          adds.from starts relative from below ∙ ap (λ (o : ℕ). by_entry t o (fde_from_offset t.section Offset) (span.base_svma + relative)) offset
          ∙ ap (λ (b : ℕ). by_entry t Offset (fde_from_offset t.section Offset) (b + relative)) base ∙ sym says)

      pub next-few : length old.entries.items + room_within t (drop i kept) ≤ room_within t kept → length new.entries.items + room_within t (drop (i + 1) kept) ≤ room_within t kept
      next-few before =
          let rest : drop i kept ≡ get_or kept i d ∷ drop (suc i) kept = drop-cons kept i d within in
          let count : room_within t (drop i kept) ≡ row_count t (fde_from_offset t.section Offset) + 1 + room_within t (drop (suc i) kept) = ap (room_within t) rest in
          let same : i + 1 ≡ suc i = omega arith in
          let next : drop (i + 1) kept ≡ drop (suc i) kept = ap (λ (n : ℕ). drop n kept) same in
          omega (arith, adds.few, before, count, ap (room_within t) next)

  -- after the last FDE all is said
  pub all-said : (i : ℕ) (old new : Ranges (Covered Rule)) → length kept ≤ i → Extends old (2 ^ 32) Nothing new → old.done ≡ start_at End kept i → length old.entries.items + room_within t (drop i kept) ≤ room_within t kept
      → ((relative : ℕ) → relative < old.done → range_at old relative ≡ covered_at t relative) → AreOf t kept new
  all-said i old new past extends done few says = record {
    sound = extends.sound;
    few = omega (arith, extends.few, few);
    says = λ relative fits.
        by_case (nat_lt relative old.done)
        (λ is. let low : relative < old.done = grind (arith, nat_tests) in extends.below relative low ∙ says relative low)
        (λ is.
        let from : old.done ≤ relative = grind (arith, nat_tests) in
        let end = start-after End kept i past in
        extends.from relative from (omega (arith, extends.done)) ∙ sym (says-past relative (omega (arith, done, end, from)) fits));
  }
