-- What rows add to ranges that are made without a context.
use Rattle.std.proofs.Common.{◌≡◌, ℕ, ◌-◌, ◌<◌, ◌≤◌, Option, None, sym, ap, subst, ◌∙◌}
use Rattle.std.specs.Prelude.{min}
use Rattle.dwarf_readers.specs.Stretch.{Stretch}
use Rattle.dwarf_frame_rows.specs.Effects.{Limits}
use Rattle.dwarf_frame_rows.specs.Row.{Row}
use Rattle.dwarf_frame_instructions.specs.Programs.{RowList, no_rows, row_before}
use Rattle.dwarf_frame_parts.specs.declared.parts.Parts.{Parts}
use Rattle.dwarf_frame_parts.specs.declared.parts_rows.PartsRows.{PartsRows}
use Rattle.dwarf_frame_parts.specs.PartsRows.{GoesOn, HasRows, IsAt, IsLast}
use Rattle.dwarf_frame_parts.specs.RowParts.{parts_of}
use Rattle.dwarf_frame_parts.specs.SimpleRows.{parts_shown}
use Rattle.framehop_ranges.specs.declared.ranges.Ranges.{Ranges}
use Rattle.framehop_ranges.specs.Ranges.{Sound, Extends}
use Rattle.framehop_tables.specs.declared.covered.Covered.{Covered}
use Rattle.framehop_tables.specs.declared.covered.Covered.TheVariants.{Says}
use Rattle.framehop_tables.specs.declared.spans.Span.{Span}
use Rattle.framehop_tables.specs.Covered.{RowRules, by_rule}
use Rattle.framehop_tables.specs.Tabulations.{AddsRow, AddsRows, Begins}
use Rattle.framehop_tables.proofs.RowLaws.{Reaches, reached-begins, reached-end, reached-limit, reached-none, reached-row}

module _ {Rule R E O : Type 0} (stretch : R → Stretch) (limit : ℕ) (rules : RowRules Rule) (limits : Limits) (all : RowList ℕ) (span : Span) (old : Ranges (Covered Rule)) where
  -- What is reached when these rows are left.
  pub record Reached (ranges : Ranges (Covered Rule)) (rows : PartsRows R E O) : Type 0 where
    pub left : RowList ℕ
    pub has : HasRows stretch limit limits rows left
    pub sound : Sound ranges
    pub more : ranges.done < span.limit
    pub reached : Reaches rules span old all ranges left

  -- all of them
  pub reached-first : (rows : PartsRows R E O) → HasRows stretch limit limits rows all → Sound old → old.done < span.limit → Reached old rows
  reached-first rows has sound more = record { left = all; has = has; sound = sound; more = more; reached = reached-none rules span old all }

  module _ (ranges : Ranges (Covered Rule)) (before : PartsRows R E O) (known : Reached ranges before) where
    -- some of the rows are added
    pub begun : Sound ranges × Begins rules span all old ranges
    begun = (known.sound, reached-begins rules span old all ranges known.left known.more known.reached)

    module _ (rows : PartsRows R E O) (rule_of_parts : Parts ℕ → Option Rule) (of_parts : (row : Row ℕ) → rules.rule_of row ≡ rule_of_parts (parts_of rows.columns.fp rows.columns.ra row))
        (covered : Covered Rule) (says : covered ≡ by_rule span.offset (rule_of_parts (parts_shown rows.state.current))) (new : Ranges (Covered Rule))
        (adds : AddsRow ranges (min (rows.end_address - span.base_svma) span.limit) covered new) where
      -- what the parts of a row say is what the row says
      says-row : (row : Row ℕ) → IsAt rows row → covered ≡ by_rule span.offset (rules.rule_of row)
      says-row row at = says ∙ sym (ap (λ (p : Parts ℕ). by_rule span.offset (rule_of_parts p)) at.parts) ∙ sym (ap (by_rule span.offset) (of_parts row))

      -- a row more
      added : (row : Row ℕ) (others : RowList ℕ) → known.left ≡ row_before row others → IsAt rows row → Reaches rules span old all new others
      added row others is at =
          reached-row rules span old all ranges new row others.rows others.refusal known.more
          (subst (λ (c : Covered Rule). AddsRow ranges (min (row.end - span.base_svma) span.limit) c new) (says-row row at)
          (subst (λ (end : ℕ). AddsRow ranges (min (end - span.base_svma) span.limit) covered new) at.end adds))
          (subst (Reaches rules span old all ranges) is known.reached)

      -- the last row
      pub ended : IsLast known.left rows → (last : Ranges (Covered Rule)) → Extends new span.limit (Says rules.uncovered) last → AddsRows rules span all old last
      ended is last extends = reached-end rules span old all new last None extends (added is.row no_rows is.first is.is)

      module _ (goes : GoesOn stretch limit limits known.left rows) where
        -- others are left
        pub moved : new.done < span.limit → Reached new rows
        moved more = record { left = goes.others; has = goes.rest; sound = adds.extends.sound; more = more; reached = added goes.row goes.others goes.first goes.is }

        -- .. past the limit
        pub moved-past : span.limit ≤ new.done → AddsRows rules span all old new
        moved-past past = reached-limit rules span old all new goes.others adds.extends.sound past (added goes.row goes.others goes.first goes.is)
