-- A pass over the entries of a section.
use Rattle.std.proofs.Common.{◌≡◌, ℕ, List, [], ◌∷◌, ◌++◌, Option, Some, None, Result, Ok, refl, sym, ap, ◌∙◌}
use Rattle.std.specs.List.{cons_option}
use Rattle.std.proofs.lemmas.List.{append_assoc}
use Rattle.dwarf_constants.specs.declared.error.Error.{Error}
use Rattle.dwarf_frame_rows.specs.FrameSection.{FrameSection}
use Rattle.dwarf_frame_entries.specs.Entries.{AnyEntry}
use Rattle.backtrace_lint.specs.declared.fdes.ListedFde.{ListedFde}
use Rattle.backtrace_lint.specs.Faults.{fault_from, fault_of, offset_after}
use Rattle.backtrace_lint.specs.ListedFdes.{listed_among, listed_entry, listed_fdes, with_listed}

-- What a pass has gathered, if these of the section's entries are left, of which the first is at this offset.
pub record Gathering (section : FrameSection) (found : List ListedFde) (offset : ℕ) (left : List (Result AnyEntry Error)) : Type 0 where
  pub lists : listed_fdes section ≡ found ++ listed_among section left
  pub faults : fault_of section ≡ fault_from section offset left

module _ (section : FrameSection) (before after : List ListedFde) (offset next : ℕ) (all left : List (Result AnyEntry Error)) (entry : AnyEntry) (is : all ≡ Ok entry ∷ left)
    (on : next ≡ offset_after section entry) (gathering : Gathering section before offset all) where
  fault-next : fault_of section ≡ fault_from section next left
  fault-next = gathering.faults ∙ ap (fault_from section offset) is ∙ ap (λ (n : ℕ). fault_from section n left) (sym on)

  fdes-next : listed_fdes section ≡ before ++ cons_option (listed_entry section.limit section.kind entry) (listed_among section left)
  fdes-next = gathering.lists ∙ ap (λ (items : List (Result AnyEntry Error)). before ++ listed_among section items) is

  gathered-by : (first : Option ListedFde) → listed_entry section.limit section.kind entry ≡ first → after ≡ with_listed before first → Gathering section after next left
  gathered-by (Some fde) here pushed = record {
    lists = fdes-next
        ∙ ap (λ (first : Option ListedFde). before ++ cons_option first (listed_among section left)) here
        ∙ sym (append_assoc before (fde ∷ []) (listed_among section left))
        ∙ ap (λ (fdes : List ListedFde). fdes ++ listed_among section left) (sym pushed);
    faults = fault-next;
  }
  gathered-by None here pushed = record {
    lists = fdes-next
        ∙ ap (λ (first : Option ListedFde). before ++ cons_option first (listed_among section left)) here
        ∙ ap (λ (fdes : List ListedFde). fdes ++ listed_among section left) (sym pushed);
    faults = fault-next;
  }

  -- an entry is gathered
  pub entry-gathered : after ≡ with_listed before (listed_entry section.limit section.kind entry) → Gathering section after next left
  entry-gathered pushed = gathered-by (listed_entry section.limit section.kind entry) refl pushed
