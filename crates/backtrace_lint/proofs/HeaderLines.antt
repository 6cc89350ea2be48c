-- A header of which no line is written has no finding.
use Rattle.std.proofs.Common.{◌≡◌, ℕ, ◌+◌, List, [], ◌∷◌, ◌++◌, length, Result, Ok, Err, refl}
use Rattle.std.specs.Prelude.{codes, decimal}
use Rattle.json_program.specs.Lines.{line}
use Rattle.backtrace_lint.specs.HeaderLines.{header_fault_text, header_text, reason_text, rowless_text, rows_text, unordereds_text, untrues_text}
use Rattle.backtrace_lint.specs.HeaderTables.{rowless_fdes, unordered_rows, untrue_rows}
use Rattle.backtrace_lint.specs.Lines.{Place, count_text, place_text}
use Rattle.backtrace_lint.specs.declared.header_tables.HeaderFault.{HeaderFault}
use Rattle.backtrace_lint.specs.declared.header_tables.HeaderRow.{HeaderRow}
use Rattle.backtrace_lint.specs.declared.header_tables.LocatedFde.{LocatedFde}
use Rattle.backtrace_lint.specs.declared.header_tables.UnorderedRow.{UnorderedRow}
use Rattle.backtrace_lint.specs.declared.header_tables.UntrueRow.{UntrueRow}

left-nil : (xs ys : List ℕ) → xs ++ ys ≡ [] → xs ≡ []
left-nil [] ys is = refl
left-nil (x ∷ xs) ys is = cc

right-nil : (xs ys : List ℕ) → xs ++ ys ≡ [] → ys ≡ []
right-nil [] ys is = is
right-nil (x ∷ xs) ys is = cc

place-some : (place : Place) → place_text place ≡ [] → ⊥
place-some place is =
    let none : codes ": " ≡ [] = right-nil (place.file ++ codes ": " ++ place.section) (codes ": ") is in
    let never : ◌≡◌ {A = List ℕ} (58 ∷ 32 ∷ []) [] = none in
    cc

count-some : (place : Place) (what : List ℕ) (count : ℕ) (more : List ℕ) → count_text place what count ++ more ≡ [] → ⊥
count-some place what count more is =
    let none : codes ", first " ≡ [] = right-nil (place_text place ++ what ++ codes ": " ++ decimal count) (codes ", first ") (left-nil (count_text place what count) more is) in
    let never : ◌≡◌ {A = List ℕ} (44 ∷ 32 ∷ 102 ∷ 105 ∷ 114 ∷ 115 ∷ 116 ∷ 32 ∷ []) [] = none in
    cc

fault-some : (place : Place) (fault : HeaderFault) → header_fault_text place fault ≡ [] → ⊥
fault-some place fault is = place-some place (left-nil (place_text place) (line (reason_text fault)) is)

unordered-none : (place : Place) (rows : List UnorderedRow) → unordereds_text place rows ≡ [] → rows ≡ []
unordered-none place [] is = refl
unordered-none place (row ∷ rows) is = absurd (count-some place (codes "rows out of order") (length rows + 1) _ is)

untrue-none : (place : Place) (rows : List UntrueRow) → untrues_text place rows ≡ [] → rows ≡ []
untrue-none place [] is = refl
untrue-none place (row ∷ rows) is = absurd (count-some place (codes "rows without their FDE") (length rows + 1) _ is)

rowless-none : (place : Place) (fdes : List LocatedFde) → rowless_text place fdes ≡ [] → fdes ≡ []
rowless-none place [] is = refl
rowless-none place (fde ∷ fdes) is = absurd (count-some place (codes "FDEs without a row") (length fdes + 1) _ is)

-- Rows that can be read are those of the FDEs of a section, in order.
pub record AreClean (section : ℕ) (rows : List HeaderRow) (fdes : List LocatedFde) : Type 0 where
  pub ordered : unordered_rows rows ≡ []
  pub true_rows : untrue_rows section rows fdes ≡ []
  pub all : rowless_fdes section rows fdes ≡ []

clean-rows : (place : Place) (section : ℕ) (rows : List HeaderRow) (fdes : List LocatedFde) → rows_text place section rows fdes ≡ [] → AreClean section rows fdes
clean-rows place section rows fdes is =
    let first = unordereds_text place (unordered_rows rows) in
    let second = untrues_text place (untrue_rows section rows fdes) in
    let third = rowless_text place (rowless_fdes section rows fdes) in
    let before = left-nil (first ++ second) third is in
    record {
      ordered = unordered-none place (unordered_rows rows) (left-nil first second before);
      true_rows = untrue-none place (untrue_rows section rows fdes) (right-nil first second before);
      all = rowless-none place (rowless_fdes section rows fdes) (right-nil (first ++ second) third is);
    }

-- Rows were read, and have no finding.
pub record IsClean (section : ℕ) (read : Result (List HeaderRow) HeaderFault) (fdes : List LocatedFde) : Type 0 where
  pub rows : List HeaderRow
  pub is : read ≡ Ok rows
  pub clean : AreClean section rows fdes

pub clean-header : (place : Place) (section : ℕ) (read : Result (List HeaderRow) HeaderFault) (fdes : List LocatedFde) → header_text place section read fdes ≡ [] → IsClean section read fdes
clean-header place section (Ok rows) fdes is = record { rows = rows; is = refl; clean = clean-rows place section rows fdes is }
clean-header place section (Err fault) fdes is = absurd (fault-some place fault is)
