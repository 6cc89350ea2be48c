-- The lines of rows.
use Rattle.std.specs.Prelude.{if◌then◌else◌}
use Rattle.std.proofs.Common.{◌≡◌, ◌≢◌, ℕ, ◌*◌, List, [], ◌∷◌, ◌++◌, append_assoc, Bool, true, false, Option, Some, None, Result, Ok, Err, IfErr, OnOk, option_map, refl, sym, ap, subst, ◌∙◌, inr}
use Rattle.dwarf_constants.specs.declared.error.Error.{Error}
use Rattle.dwarf_constants.specs.declared.error.Error.TheVariants.{OutOfMemory}
use Rattle.std.specs.FinMap.{get}
use Rattle.std.specs.declared.alloc.AllocError.{AllocError}
use Rattle.dwarf_frame_rows.specs.declared.row.UnwindTableRow.{UnwindTableRow}
use Rattle.dwarf_frame_rows.specs.declared.rules.CfaRule.{CfaRule}
use Rattle.dwarf_frame_rows.specs.declared.rules.CfaRule.TheVariants as cfa
use Rattle.dwarf_frame_rows.specs.declared.rules.RegisterRule.{RegisterRule}
use Rattle.dwarf_frame_rows.specs.declared.rules.RegisterRule.TheVariants as rule
use Rattle.dwarf_frame_rows.specs.Effects.{Limits}
use Rattle.dwarf_frame_rows.specs.Row.{Row, row_of}
use Rattle.dwarf_frame_instructions.proofs.Laws.{rule_seen}
use Rattle.dwarf_frame_instructions.specs.ProgramRows.{Advances, after_first, current_row, first_of, rows_left, rows_state}
use Rattle.dwarf_frame_instructions.specs.Execution.{row_in}
use Rattle.dwarf_frame_instructions.specs.Programs.{RowList}
use Rattle.dwarf_frame_instructions.specs.StateViews.{cfa_as, row_as, rule_as}
use Rattle.dwarf_frame_instructions.specs.declared.rows.ProgramRows.{ProgramRows}
use Rattle.dwarf_readers.specs.Stretch.{Stretch}
use Rattle.line_parts.specs.Parts.{hex_of}
use Rattle.frame_table.specs.TableViews.{ShowsNext}
use Rattle.frame_table.specs.Tables.{Table, cfa_text, rule_text_in, found_text, if_shown, given_line, line_of_cells, row_line, row_lines, rule_text}
use Rattle.frame_table.specs.declared.names.Machine.{Machine}

-- the text of a row doesn't have the offsets of its expressions
same_cfa : {T U : Type 0} (number : T → U) (machine : Option Machine) (r : CfaRule T) → cfa_text machine (cfa_as number r) ≡ cfa_text machine r
same_cfa number machine (cfa.RegisterAndOffset register offset) = refl
same_cfa number machine (cfa.Expression expression) = refl

same_rule : {T U : Type 0} (number : T → U) (machine : Option Machine) (r : RegisterRule T) → rule_text machine (rule_as number r) ≡ rule_text machine r
same_rule number machine rule.Undefined = refl
same_rule number machine rule.SameValue = refl
same_rule number machine (rule.Offset offset) = refl
same_rule number machine (rule.ValOffset offset) = refl
same_rule number machine (rule.Register register) = refl
same_rule number machine (rule.Expression expression) = refl
same_rule number machine (rule.ValExpression expression) = refl
same_rule number machine rule.Architectural = refl
same_rule number machine (rule.Constant n) = refl

same_found : {T U : Type 0} (number : T → U) (machine : Option Machine) (o : Option (RegisterRule T)) → found_text machine (option_map (rule_as number) o) ≡ found_text machine o
same_found number machine None = refl
same_found number machine (Some r) = same_rule number machine r

same_row_line : {T : Type 0} (number : T → ℕ) (table : Table) (row : Row T) → row_line table (row_as number row) ≡ row_line table row
same_row_line number table row =
    let each : (register : ℕ) → rule_text_in table (row_as number row) register ≡ rule_text_in table row register =
    λ register. ap (found_text table.machine) (rule_seen (rule_as number) row.rules register) ∙ same_found number table.machine (get row.rules register) in
    let all : rule_text_in table (row_as number row) ≡ rule_text_in table row = λ i register. each register i in
    ap (λ (text : List ℕ). line_of_cells table (hex_of (2 * table.address_size) row.start) text (rule_text_in table (row_as number row))) (same_cfa number table.machine row.cfa)
    ∙ ap (λ (texts : ℕ → List ℕ). line_of_cells table (hex_of (2 * table.address_size) row.start) (cfa_text table.machine row.cfa) texts) all

-- one more line, and the others with their error
pub goes_on : (others : RowList ℕ) (table : Table) (left all : RowList ℕ) (answer : Result Bool Error) (text new whole : List ℕ)
    → ShowsNext others table left text new answer → answer ≡ Ok true → left.refusal ≡ all.refusal → text ++ row_lines table left.rows ≡ whole
    → (others.refusal ≡ all.refusal) × (new ++ row_lines table others.rows ≡ whole)
goes_on others table left all answer text new whole shown given refusal lines =
    let more = subst (λ (r : Result Bool Error). ShowsNext others table left text new r) given shown in
    (more.0 ∙ refusal, more.1 ∙ lines)

-- the line of the row that is current, as it lies in memory
pub same_if_given : {O L : Type 0} (number : O → ℕ) (table : Table) (row : UnwindTableRow O L) (given : Option (Row ℕ)) (answer : Result (Unit {0}) AllocError) (text new : List ℕ)
    → Some (row_in number row) ≡ given → OnOk answer (new ≡ text ++ if_shown table (row_line table (row_of row)))
    → OnOk answer (new ≡ text ++ given_line table given)
same_if_given number table row given (Err e) text new is added = tt
same_if_given number table row given (Ok done) text new is added =
    added
    ∙ ap (λ (l : List ℕ). text ++ if_shown table l) (sym (same_row_line number table (row_of row)))
    ∙ ap (λ (o : Option (Row ℕ)). text ++ given_line table o) is

-- the line of the first row, and the others
shows_row : (table : Table) (rows : List (Row ℕ)) (refusal : Option Error) (row : Row ℕ) (others : RowList ℕ) (text new : List ℕ)
    → first_of (record { rows = rows; refusal = refusal }) ≡ Ok (Some row) → others ≡ after_first (record { rows = rows; refusal = refusal }) → new ≡ text ++ if_shown table (row_line table row)
    → (others.refusal ≡ refusal) × (new ++ row_lines table others.rows ≡ text ++ row_lines table rows)
shows_row table [] None row others text new is left added = let none : ◌≡◌ {A = Option (Row ℕ)} None (Some row) = cc in cc
shows_row table [] (Some e) row others text new is left added = cc
shows_row table (first ∷ rest) refusal row others text new is left added =
    let same : row ≡ first = cc in (
      ap (λ (l : RowList ℕ). l.refusal) left,
      ap (λ (l : RowList ℕ). new ++ row_lines table l.rows) left
          ∙ ap (λ (t : List ℕ). t ++ row_lines table rest) (added ∙ ap (λ (r : Row ℕ). text ++ if_shown table (row_line table r)) same)
          ∙ append_assoc text (if_shown table (row_line table first)) (row_lines table rest),
    )

-- no row, and no error
shows_end : (table : Table) (rows : List (Row ℕ)) (refusal : Option Error) (text new : List ℕ)
    → first_of (record { rows = rows; refusal = refusal }) ≡ Ok None → new ≡ text ++ [] → (refusal ≡ None) × (new ≡ text ++ row_lines table rows)
shows_end table [] None text new is added = (refl, added)
shows_end table [] (Some e) text new is added = cc
shows_end table (first ∷ rest) refusal text new is added = let none : ◌≡◌ {A = Option (Row ℕ)} (Some first) None = cc in cc

-- no row, but an error
shows_error : (table : Table) (rows : List (Row ℕ)) (refusal : Option Error) (e : Error) (text new : List ℕ)
    → first_of (record { rows = rows; refusal = refusal }) ≡ Err e → new ≡ text ++ [] → (refusal ≡ Some e) × (new ≡ text ++ row_lines table rows)
shows_error table [] None e text new is added = cc
shows_error table [] (Some x) e text new is added = let same : x ≡ e = cc in (ap (λ (y : Error). Some y) same, added)
shows_error table (first ∷ rest) refusal e text new is added = cc

module _ {R S E O L K : Type 0} (stretch : R → Stretch) (limit : ℕ) (number : O → ℕ) (items : K → List (UnwindTableRow O L)) (limits : Limits) (Fixed : Type 0) (t u : ProgramRows R S E O L K) where
  abbrev Left : ProgramRows R S E O L K → RowList ℕ
  Left rows = rows_left stretch limit number items limits rows

  -- the row that is current, as one is given or none
  abbrev row_if : Bool → Option (Row ℕ)
  row_if given = if given then Some (rows_state number items u).row else None

  -- the line of the next row is there, or all lines are
  shows : (table : Table) (answer : Result Bool Error) (text new : List ℕ)
      → Advances stretch limit number items limits Fixed t answer u → IfErr answer (λ e. e ≢ OutOfMemory)
      → new ≡ text ++ given_line table (current_row number items u)
      → ShowsNext (Left u) table (Left t) text new answer
  shows table (Ok true) text new went wanted added =
      shows_row table (Left t).rows (Left t).refusal (rows_state number items u).row (Left u) text new (went.first ∙ ap (λ b. Ok (row_if b)) went.given) went.left
      (added ∙ ap (λ b. text ++ given_line table (row_if b)) went.given)
  shows table (Ok false) text new went wanted added =
      shows_end table (Left t).rows (Left t).refusal text new (went.first ∙ ap (λ b. Ok (row_if b)) went.given) (added ∙ ap (λ b. text ++ given_line table (row_if b)) went.given)
  shows table (Err e) text new went wanted added =
      shows_error table (Left t).rows (Left t).refusal e text new (went.refused (inr wanted)) (added ∙ ap (λ b. text ++ given_line table (row_if b)) went.given)

  pub shows_next : (table : Table) (answer given : Result Bool Error) (text new : List ℕ)
      → Advances stretch limit number items limits Fixed t answer u → given ≡ answer → IfErr answer (λ e. e ≢ OutOfMemory)
      → new ≡ text ++ given_line table (current_row number items u)
      → ShowsNext (Left u) table (Left t) text new given
  shows_next table answer given text new went is wanted added =
      subst (λ (r : Result Bool Error). ShowsNext (Left u) table (Left t) text new r) (sym is) (shows table answer text new went wanted added)
