-- Each row is the first of those that are left.
use Rattle.std.proofs.Common.{◌≡◌, ℕ, List, [], ◌∷◌, ◌++◌, Option, Some, None, Ok, Err, sym, ap, ◌∙◌}
use Rattle.std.specs.List.{cons_option, filter_map}
use Rattle.std.proofs.lemmas.List.{append-nil, append_assoc}
use Rattle.dwarf_constants.specs.declared.error.Error.{Error}
use Rattle.dwarf_frame_rows.specs.Row.{Row}
use Rattle.dwarf_frame_instructions.specs.ProgramRows.{after_first, first_of}
use Rattle.dwarf_frame_instructions.specs.Programs.{RowList}
use Rattle.backtrace_lint.specs.RowFindings.{unsaid_start, unsaid_starts}

module _ {Rule : Type 0} (rule_of : Row ℕ → Option Rule) (old : List ℕ) (all : RowList ℕ) where
  -- What was found, with what is found in the rows that are left, is what is found in all; the error that ends these is that of all.
  pub record Reads (found : List ℕ) (left : RowList ℕ) : Type 0 where
    pub starts : found ++ unsaid_starts rule_of left ≡ old ++ unsaid_starts rule_of all
    pub ends : left.refusal ≡ all.refusal

  -- no row is left
  end-rows : (found : List ℕ) (rows : List (Row ℕ)) (refusal : Option Error) → first_of (record { rows = rows; refusal = refusal }) ≡ Ok None → Reads found (record { rows = rows; refusal = refusal })
      → (found ≡ old ++ unsaid_starts rule_of all) × (None ≡ all.refusal)
  end-rows found [] None is reads = (sym (append-nil found) ∙ reads.starts, reads.ends)
  end-rows found [] (Some e) is reads = cc
  end-rows found (row ∷ rows) refusal is reads = cc

  pub ends-none : (found : List ℕ) (left : RowList ℕ) → first_of left ≡ Ok None → Reads found left → (found ≡ old ++ unsaid_starts rule_of all) × (None ≡ all.refusal)
  ends-none found left is reads = end-rows found left.rows left.refusal is reads

  -- an error ends the rows
  fail-rows : (found : List ℕ) (rows : List (Row ℕ)) (refusal : Option Error) (e : Error) → first_of (record { rows = rows; refusal = refusal }) ≡ Err e → Reads found (record { rows = rows; refusal = refusal })
      → (found ≡ old ++ unsaid_starts rule_of all) × (Some e ≡ all.refusal)
  fail-rows found [] None e is reads = cc
  fail-rows found [] (Some other) e is reads = let same : Some e ≡ Some other = cc in (sym (append-nil found) ∙ reads.starts, same ∙ reads.ends)
  fail-rows found (row ∷ rows) refusal e is reads = cc

  pub ends-error : (found : List ℕ) (left : RowList ℕ) (e : Error) → first_of left ≡ Err e → Reads found left → (found ≡ old ++ unsaid_starts rule_of all) × (Some e ≡ all.refusal)
  ends-error found left e is reads = fail-rows found left.rows left.refusal e is reads

  -- a row is found, or has a rule
  more-rows : (found after : List ℕ) (rows : List (Row ℕ)) (refusal : Option Error) (row : Row ℕ) (start : Option ℕ) → first_of (record { rows = rows; refusal = refusal }) ≡ Ok (Some row) → unsaid_start rule_of row ≡ start
      → after ≡ found ++ cons_option start [] → Reads found (record { rows = rows; refusal = refusal }) → Reads after (after_first (record { rows = rows; refusal = refusal }))
  more-rows found after [] None row start is said pushed reads = cc
  more-rows found after [] (Some e) row start is said pushed reads = cc
  more-rows found after (first ∷ rows) refusal row start is said pushed reads =
      let same : first ≡ row = cc in
      let here : unsaid_start rule_of first ≡ start = ap (unsaid_start rule_of) same ∙ said in
      record {
        starts = by-start start pushed
            ∙ ap (λ (s : Option ℕ). found ++ cons_option s (filter_map (unsaid_start rule_of) rows)) (sym here)
            ∙ reads.starts;
        ends = reads.ends;
      }
    where
      by-start : (start : Option ℕ) → after ≡ found ++ cons_option start [] → after ++ filter_map (unsaid_start rule_of) rows ≡ found ++ cons_option start (filter_map (unsaid_start rule_of) rows)
      by-start None pushed = ap (λ (l : List ℕ). l ++ filter_map (unsaid_start rule_of) rows) (pushed ∙ append-nil found)
      by-start (Some s) pushed = ap (λ (l : List ℕ). l ++ filter_map (unsaid_start rule_of) rows) pushed ∙ append_assoc found (s ∷ []) (filter_map (unsaid_start rule_of) rows)

  pub goes-on : (found after : List ℕ) (left : RowList ℕ) (row : Row ℕ) (start : Option ℕ) → first_of left ≡ Ok (Some row) → unsaid_start rule_of row ≡ start → after ≡ found ++ cons_option start [] → Reads found left → Reads after (after_first left)
  goes-on found after left row start is said pushed reads = more-rows found after left.rows left.refusal row start is said pushed reads
