-- The FDEs that the rows of a table name.
use Rattle.std.proofs.Common.{◌≡◌, ℕ, zero, suc, ◌+◌, ◌-◌, ◌<◌, ◌≤◌, Bool, true, false, List, [], ◌∷◌, map, Option, Some, None, Result, Ok, Err, refl, sym, ap, subst, ◌∙◌, arith}
use Rattle.std.specs.Prelude.{◌==◌, nat_le, nat_lt}
use Rattle.std.specs.List.{All, Contains, cons_option, filter_map}
use Rattle.std.specs.List.Sorted.{IsStrictlyIncreasing}
use Rattle.std.specs.Result.{result_ok}
use Rattle.std.proofs.lemmas.Bool.Decides.{nat_tests}
use Rattle.std.proofs.lemmas.List.Elements.{All-nil, All-cons, All-head, All-tail, All-weaker}
use Rattle.list_laws.proofs.Laws.{by_case}
use Rattle.dwarf_constants.specs.declared.error.Error.{Error}
use Rattle.dwarf_frame_rows.specs.FrameSection.{FrameSection}
use Rattle.dwarf_frame_entries.specs.Entries.{AnyEntry, Fde, PartialFde, fde_of}
use Rattle.dwarf_frame_entries.specs.EntryLists.{entries_of}
use Rattle.dwarf_frame_entries.specs.SectionFdes.{whole_fdes}
use Rattle.dwarf_frame_entries.specs.declared.entries.Entry.TheVariants as which
use Rattle.dwarf_call_frames.specs.Halving.{row_with_start}
use Rattle.dwarf_call_frames.specs.Truthful.{row_of_fde}
use Rattle.backtrace_lint.specs.HeaderTables.{is_named, located, located_fdes, rowless_fdes, start_at, start_named, unordered_from, unordered_rows, untrue_from, untrue_if}
use Rattle.backtrace_lint.specs.declared.header_tables.HeaderRow.{HeaderRow}
use Rattle.backtrace_lint.specs.declared.header_tables.LocatedFde.{LocatedFde}
use Rattle.backtrace_lint.specs.declared.header_tables.UnorderedRow.{UnorderedRow}
use Rattle.backtrace_lint.specs.declared.header_tables.UntrueRow.{UntrueRow}
use Rattle.backtrace_lint.specs.ListedFdes.{code_read, listed_among, listed_fdes}
use Rattle.backtrace_lint.proofs.Each.{Each}
use Rattle.backtrace_lint.proofs.HeaderTables.{table_row}
use Rattle.backtrace_lint.proofs.Members.{Apart, Distinct, first-member, later-member}
use Rattle.backtrace_lint.proofs.Rising.{Rises, fde-head, whole-among}

-- ---- FDEs that can be read

-- an FDE by its offset and the start of its code
abbrev pub locate : Fde → LocatedFde
locate fde = record { offset = fde.head.offset; start = fde.initial_address }

located-read : (partial : PartialFde) (read : Result Fde Error) (fdes : List LocatedFde) (whole : List Fde) → Each (λ (fde : Fde). fde.head ≡ partial.head) read → fdes ≡ map locate whole
    → cons_option (located (record { offset = partial.head.offset; read = code_read read })) fdes ≡ map locate (cons_option (result_ok read) whole)
located-read partial (Ok fde) fdes whole there others =
    let head : fde.head ≡ partial.head = there.each in
    rw (sym head, others) refl
located-read partial (Err e) fdes whole there others = others

located-items : (section : FrameSection) (items : List (Result AnyEntry Error)) → filter_map located (listed_among section items) ≡ map locate (whole-among section items)
located-items section [] = refl
located-items section (Err e ∷ items) = located-items section items
located-items section (Ok (which.Cie cie) ∷ items) = located-items section items
located-items section (Ok (which.Fde partial) ∷ items) =
    located-read partial (fde_of section.limit section.kind partial) (filter_map located (listed_among section items)) (whole-among section items) (fde-head section.limit section.kind partial) (located-items section items)

-- the FDEs of a section's list that can be read are those of the section
pub located-whole : (section : FrameSection) → located_fdes (listed_fdes section) ≡ map locate (whole_fdes section)
unfolding whole_fdes
located-whole section = located-items section (entries_of section)

-- ---- numbers that ascend

abbrev pub Ascends : List ℕ → Type 0
Ascends [] = Unit {0}
Ascends (x ∷ xs) = All (λ (y : ℕ). x < y) xs × Ascends xs

pub increasing : (xs : List ℕ) → Ascends xs → IsStrictlyIncreasing xs
increasing [] up k less = absurd (omega arith)
increasing (x ∷ []) up k less = absurd (omega arith)
increasing (x ∷ y ∷ ys) up zero less = All-head (λ (z : ℕ). x < z) y ys up.0
increasing (x ∷ y ∷ ys) up (suc k) less = let next : suc k + 1 ≡ suc (k + 1) = omega arith in rw next (increasing (y ∷ ys) up.1 k (omega arith))

unordered-up : (index before : ℕ) (rows : List HeaderRow) → unordered_from index before rows ≡ [] → Ascends (before ∷ map (λ row. row.start) rows)
unordered-up index before [] none = (All-nil (λ (y : ℕ). before < y), tt)
unordered-up index before (row ∷ rows) none =
    by-order (nat_lt before row.start) refl none (unordered-up (suc index) row.start rows)
  where
    by-order : (less : Bool) → nat_lt before row.start ≡ less → unordered_from index before (row ∷ rows) ≡ []
        → (unordered_from (suc index) row.start rows ≡ [] → Ascends (row.start ∷ map (λ row. row.start) rows)) → Ascends (before ∷ map (λ row. row.start) (row ∷ rows))
    by-order true is none later =
        let up = later (rw is at none) in
        let below : before < row.start = grind (arith, nat_tests, is) in
        let starts = map (λ (row : HeaderRow). row.start) rows in
        (All-cons (λ (y : ℕ). before < y) row.start starts below (All-weaker (λ (y : ℕ). row.start < y) (λ (y : ℕ). before < y) (λ y less. omega arith) starts up.0), up)
    by-order false is none later = let never : ◌≡◌ {A = List UnorderedRow} (record { index = index; start = row.start; before = before } ∷ unordered_from (suc index) row.start rows) [] = rw is at none in absurd cc

pub ordered-up : (rows : List HeaderRow) → unordered_rows rows ≡ [] → Ascends (map (λ row. row.start) rows)
ordered-up [] none = tt
ordered-up (row ∷ rows) none = unordered-up 1 row.start rows none

-- ---- no FDE is repeated

apart-rising : (fde : Fde) (fdes : List Fde) → All (λ (other : Fde). fde.head.offset < other.head.offset) fdes → Apart fde fdes
apart-rising fde fdes up = All-weaker (λ (other : Fde). fde.head.offset < other.head.offset) (λ (other : Fde). fde ≡ other → ⊥) (λ other less same. let at : fde.head.offset ≡ other.head.offset = ap (λ (f : Fde). f.head.offset) same in omega arith) fdes up

pub rising-distinct : (fdes : List Fde) → Rises fdes → Distinct fdes
rising-distinct [] up = tt
rising-distinct (fde ∷ fdes) up = (apart-rising fde fdes up.0, rising-distinct fdes up.1)

apart-starts : (fde : Fde) (fdes : List Fde) → All (λ (start : ℕ). fde.initial_address < start) (map (λ fde. fde.initial_address) fdes) → Apart fde fdes
apart-starts fde [] up = All-nil (λ (other : Fde). fde ≡ other → ⊥)
apart-starts fde (other ∷ fdes) up =
    let starts = map (λ (fde : Fde). fde.initial_address) fdes in
    let below : fde.initial_address < other.initial_address = All-head (λ (start : ℕ). fde.initial_address < start) other.initial_address starts up in
    All-cons (λ (other : Fde). fde ≡ other → ⊥) other fdes (λ same. let at : fde.initial_address ≡ other.initial_address = ap (λ (f : Fde). f.initial_address) same in omega arith)
    (apart-starts fde fdes (All-tail (λ (start : ℕ). fde.initial_address < start) other.initial_address starts up))

pub ascending-distinct : (fdes : List Fde) → Ascends (map (λ fde. fde.initial_address) fdes) → Distinct fdes
ascending-distinct [] up = tt
ascending-distinct (fde ∷ fdes) up = (apart-starts fde fdes up.0, ascending-distinct fdes up.1)

-- ---- rows and the FDEs that they name

module _ (section : ℕ) (fdes : List Fde) where
  -- a row is that of an FDE
  pub record Names (row : HeaderRow) (fde : Fde) : Type 0 where
    pub member : Contains fdes fde
    pub start : row.start ≡ fde.initial_address
    pub place : row.fde ≡ section + fde.head.offset

  -- .. each in turn
  abbrev pub AllName : List HeaderRow → List Fde → Type 0
  AllName [] [] = Unit {0}
  AllName [] (fde ∷ named) = ⊥
  AllName (row ∷ rows) [] = ⊥
  AllName (row ∷ rows) (fde ∷ named) = Names row fde × AllName rows named

  pub all-rows : (rows : List HeaderRow) (named : List Fde) → AllName rows named → map table_row rows ≡ map row_with_start (map (row_of_fde section) named)
  all-rows [] [] all = refl
  all-rows [] (fde ∷ named) all = absurd all
  all-rows (row ∷ rows) [] all = absurd all
  all-rows (row ∷ rows) (fde ∷ named) all =
      let start = all.0.start in
      let place = all.0.place in
      let others = all-rows rows named all.1 in
      rw (start, place, others) refl

  pub all-starts : (rows : List HeaderRow) (named : List Fde) → AllName rows named → map (λ row. row.start) rows ≡ map (λ fde. fde.initial_address) named
  all-starts [] [] all = refl
  all-starts [] (fde ∷ named) all = absurd all
  all-starts (row ∷ rows) [] all = absurd all
  all-starts (row ∷ rows) (fde ∷ named) all = let start = all.0.start in let others = all-starts rows named all.1 in rw (start, others) refl

  pub named-members : (rows : List HeaderRow) (named : List Fde) → AllName rows named → (fde : Fde) → Contains named fde → Contains fdes fde
  named-members [] [] all fde (k, less, is) = absurd (omega arith)
  named-members [] (first ∷ named) all fde has = absurd all
  named-members (row ∷ rows) [] all fde (k, less, is) = absurd (omega arith)
  named-members (row ∷ rows) (first ∷ named) all fde (zero, less, is) = subst (λ (f : Fde). Contains fdes f) is all.0.member
  named-members (row ∷ rows) (first ∷ named) all fde (suc k, less, is) = named-members rows named all.1 fde (k, omega arith, is)

  -- an FDE at an address that a row names
  pub named-at : (rows : List HeaderRow) (named : List Fde) (address : ℕ) → AllName rows named → is_named rows address ≡ true → (fde : Fde) × (Contains named fde × (address ≡ section + fde.head.offset))
  named-at [] [] address all is = cc
  named-at [] (fde ∷ named) address all is = absurd all
  named-at (row ∷ rows) [] address all is = absurd all
  named-at (row ∷ rows) (fde ∷ named) address all is =
      by_case (row.fde == address)
      (λ here. let same : row.fde ≡ address = grind (arith, nat_tests, here) in (fde, (first-member fde named, sym same ∙ all.0.place)))
      (λ not. let others = named-at rows named address all.1 (rw not at is) in (others.0, (later-member fde named others.0 others.1.0, others.1.1)))

-- the FDE that is found at an offset
record Found (offset start : ℕ) (fdes : List Fde) : Type 0 where
  fde : Fde
  member : Contains fdes fde
  place : offset ≡ fde.head.offset
  starts : start ≡ fde.initial_address

found-at : (offset start : ℕ) (fdes : List Fde) → start_at (map locate fdes) offset ≡ Some start → Found offset start fdes
found-at offset start [] is = cc
found-at offset start (fde ∷ fdes) is =
    by_case (fde.head.offset == offset)
    (λ here.
    let place : fde.head.offset ≡ offset = grind (arith, nat_tests, here) in
    let found : ◌≡◌ {A = Option ℕ} (Some fde.initial_address) (Some start) = rw here at is in
    let same : fde.initial_address ≡ start = cc in
    record { fde = fde; member = first-member fde fdes; place = sym place; starts = sym same })
    (λ not.
    let others = found-at offset start fdes (rw not at is) in
    record { fde = others.fde; member = later-member fde fdes others.fde others.member; place = others.place; starts = others.starts })

-- .. at an address
found-named : (section address start : ℕ) (fdes : List Fde) → start_named section (map locate fdes) address ≡ Some start
    → (fde : Fde) × (Contains fdes fde × ((address ≡ section + fde.head.offset) × (start ≡ fde.initial_address)))
found-named section address start fdes is =
    by_case (nat_le section address)
    (λ within.
    let le : section ≤ address = grind (arith, nat_tests, within) in
    let found = found-at (address - section) start fdes (rw within at is) in
    let place = found.place in
    (found.fde, (found.member, (omega (arith, le, place), found.starts))))
    (λ not. let never : ◌≡◌ {A = Option ℕ} None (Some start) = rw not at is in absurd cc)

-- the FDEs that rows name, if each names one
pub name-all : (section index : ℕ) (fdes : List Fde) (rows : List HeaderRow) → untrue_from (start_named section (map locate fdes)) index rows ≡ [] → (named : List Fde) × AllName section fdes rows named
name-all section index fdes [] none = ([], tt)
name-all section index fdes (row ∷ rows) none =
    by-start (start_named section (map locate fdes) row.fde) refl none (name-all section (suc index) fdes rows)
  where
    others-name : (fde : Fde) → Names section fdes row fde → (more : (named : List Fde) × AllName section fdes rows named) → (named : List Fde) × AllName section fdes (row ∷ rows) named
    others-name fde names more = (fde ∷ more.0, (names, more.1))

    by-start : (named : Option ℕ) → start_named section (map locate fdes) row.fde ≡ named
        → cons_option (untrue_if index row named) (untrue_from (start_named section (map locate fdes)) (suc index) rows) ≡ [] → (untrue_from (start_named section (map locate fdes)) (suc index) rows ≡ [] → (named : List Fde) × AllName section fdes rows named)
        → (named : List Fde) × AllName section fdes (row ∷ rows) named
    by-start None is none later = cc
    by-start (Some start) is none later =
        by_case (start == row.start)
        (λ here.
        let same : start ≡ row.start = grind (arith, nat_tests, here) in
        let found = found-named section row.fde start fdes is in
        others-name found.0 (record { member = found.1.0; start = sym same ∙ found.1.1.1; place = found.1.1.0 }) (later (rw here at none)))
        (λ not. let never : ◌≡◌ {A = List UntrueRow} (record { index = index; row = row; named = Some start } ∷ untrue_from (start_named section (map locate fdes)) (suc index) rows) [] = rw not at none in absurd cc)

-- each FDE is named, if none is without a row
pub all-named : (section : ℕ) (rows : List HeaderRow) (fdes : List Fde) → rowless_fdes section rows (map locate fdes) ≡ [] → (fde : Fde) → Contains fdes fde → is_named rows (section + fde.head.offset) ≡ true
all-named section rows [] none fde (k, less, is) = absurd (omega arith)
all-named section rows (first ∷ fdes) none fde has =
    by-named (is_named rows (section + first.head.offset)) refl none has (λ none later. all-named section rows fdes none fde later)
  where
    by-named : (named : Bool) → is_named rows (section + first.head.offset) ≡ named → rowless_fdes section rows (map locate (first ∷ fdes)) ≡ [] → Contains (first ∷ fdes) fde
        → (rowless_fdes section rows (map locate fdes) ≡ [] → Contains fdes fde → is_named rows (section + fde.head.offset) ≡ true)
        → is_named rows (section + fde.head.offset) ≡ true
    by-named true named none (zero, less, is) others = subst (λ (f : Fde). is_named rows (section + f.head.offset) ≡ true) is named
    by-named true named none (suc k, less, is) others = others (rw named at none) (k, omega arith, is)
    by-named false named none has others = let never : ◌≡◌ {A = List LocatedFde} (locate first ∷ rowless_fdes section rows (map locate fdes)) [] = rw named at none in absurd cc
