-- What the lookup of an address that passes over FDEs gives, by the next item of a section's list.
use Rattle.std.proofs.Common.{◌≡◌, ◌⊎◌, inl, inr, ℕ, Bool, true, false, cond, List, [], ◌∷◌, Some, Result, Ok, Err, refl, sym, ap, ◌∙◌}
use Rattle.std.specs.Prelude.{IsTrue, unwrap_or}
use Rattle.std.specs.List.{cons_option, filter_map, find}
use Rattle.std.specs.Option.{ok_or}
use Rattle.std.specs.Result.{result_ok}
use Rattle.dwarf_constants.specs.declared.error.Error.{Error}
use Rattle.dwarf_constants.specs.declared.error.Error.TheVariants.{NoUnwindInfoForAddress, OutOfMemory}
use Rattle.dwarf_readers.specs.Stretch.{◌>>=◌}
use Rattle.dwarf_frame_rows.specs.FrameSection.{FrameSection}
use Rattle.dwarf_frame_entries.specs.declared.entries.Entry.TheVariants as which
use Rattle.dwarf_frame_entries.specs.AddressLookups.{fde_for_address_skipping}
use Rattle.dwarf_frame_entries.specs.Entries.{AnyEntry, Cie, Fde, PartialFde, cie_from_offset, cie_of, contains, fde_of, fde_with}
use Rattle.dwarf_frame_entries.specs.EntryLists.{ListEnd, SectionEnd, Terminator, Failed, end_error, entries_of, list_end}
use Rattle.dwarf_frame_entries.specs.SectionFdes.{fde_in, whole_fdes}
use Rattle.dwarf_frame_entries.proofs.LookupMemory.{cie_memory}

-- the FDEs among items of a section's list that can be read
abbrev pub whole_among : FrameSection → List (Result AnyEntry Error) → List Fde
whole_among section items = filter_map result_ok (filter_map (fde_in section) items)

-- what a lookup gives that has these FDEs, and a list that ends so
abbrev pub skipping_in : ℕ → List Fde → ListEnd → Result Fde Error
skipping_in address fdes end = ok_or (find (contains address) fdes) (unwrap_or (end_error end) NoUnwindInfoForAddress)

-- and that has these items of the section's list
abbrev pub skipping_among : FrameSection → ℕ → List (Result AnyEntry Error) → ListEnd → Result Fde Error
skipping_among section address items end = skipping_in address (whole_among section items) end

-- all of them
pub skipping-all : (section : FrameSection) (address : ℕ) → skipping_among section address (entries_of section) (list_end section) ≡ fde_for_address_skipping section address
unfolding whole_fdes
skipping-all section address = refl

-- the items that are left give some answer
module _ (section : FrameSection) (address : ℕ) (items : List (Result AnyEntry Error)) (end : ListEnd) (answer : Result Fde Error) (gives : skipping_among section address items end ≡ answer) where
  -- an error ends them
  pub list-fails : (e : Error) → items ≡ Err e ∷ [] → end ≡ Failed e → answer ≡ Err e
  list-fails e list fails = sym gives ∙ ap (λ l. skipping_among section address l end) list ∙ ap (skipping_in address []) fails

  -- nothing is left
  pub none-left : items ≡ [] → (end ≡ SectionEnd) ⊎ (end ≡ Terminator) → answer ≡ Err NoUnwindInfoForAddress
  none-left list (inl is) = sym gives ∙ ap (λ l. skipping_among section address l end) list ∙ ap (skipping_in address []) is
  none-left list (inr is) = sym gives ∙ ap (λ l. skipping_among section address l end) list ∙ ap (skipping_in address []) is

  module _ (next : ListEnd) (on : end ≡ next) where
    -- a CIE comes first
    pub cie-passed : (cie : Cie) (others : List (Result AnyEntry Error)) → items ≡ Ok (which.Cie cie) ∷ others → skipping_among section address others next ≡ answer
    cie-passed cie others list = ap (skipping_among section address others) (sym on) ∙ sym (ap (λ l. skipping_among section address l end) list) ∙ gives

    -- an FDE comes first
    module _ (partial : PartialFde) (others : List (Result AnyEntry Error)) (list : items ≡ Ok (which.Fde partial) ∷ others) where
      first-is : (fde : Result Fde Error) → fde_of section.limit section.kind partial ≡ fde → answer ≡ skipping_in address (cons_option (result_ok fde) (whole_among section others)) next
      first-is fde is =
          sym gives
          ∙ ap (λ l. skipping_among section address l end) list
          ∙ ap (λ (x : Result Fde Error). skipping_in address (cons_option (result_ok x) (whole_among section others)) end) is
          ∙ ap (skipping_in address (cons_option (result_ok fde) (whole_among section others))) on

      -- it can't be read
      pub fde-passed : (e : Error) → fde_of section.limit section.kind partial ≡ Err e → skipping_among section address others next ≡ answer
      fde-passed e fails = sym (first-is (Err e) fails)

      by : (fde : Fde) (b : Bool) → contains address fde ≡ b
          → skipping_in address (fde ∷ whole_among section others) next ≡ ok_or (cond b (Some fde) (find (contains address) (whole_among section others))) (unwrap_or (end_error next) NoUnwindInfoForAddress)
      by fde b is = ap (λ (t : Bool). ok_or (cond t (Some fde) (find (contains address) (whole_among section others))) (unwrap_or (end_error next) NoUnwindInfoForAddress)) is

      -- it contains the address
      pub fde-found : (fde : Fde) → fde_of section.limit section.kind partial ≡ Ok fde → contains address fde ≡ true → answer ≡ Ok fde
      fde-found fde is inside = first-is (Ok fde) is ∙ by fde true inside

      -- it doesn't
      pub fde-elsewhere : (fde : Fde) → fde_of section.limit section.kind partial ≡ Ok fde → contains address fde ≡ false → skipping_among section address others next ≡ answer
      fde-elsewhere fde is outside = sym (first-is (Ok fde) is ∙ by fde false outside)

-- ---- FDEs by their CIEs

-- by a CIE that was read
pub fde-by-cie : (section : FrameSection) (partial : PartialFde) (cie : Cie) (fde : Result Fde Error) → cie_of section.limit section.kind partial ≡ Ok cie → fde_with section.limit partial cie ≡ fde
    → fde_of section.limit section.kind partial ≡ fde
fde-by-cie section partial cie fde read is = ap (λ (x : Result Cie Error). x >>= fde_with section.limit partial) read ∙ is

-- the CIE can't be read
pub fde-without-cie : (section : FrameSection) (partial : PartialFde) (e : Error) → cie_of section.limit section.kind partial ≡ Err e → fde_of section.limit section.kind partial ≡ Err e
fde-without-cie section partial e fails = ap (λ (x : Result Cie Error). x >>= fde_with section.limit partial) fails

-- an error that isn't want of memory is that of the CIE
pub cie-failed : (may_allocate : Bool) (e : Error) (read same : Result Cie Error) → same ≡ read → (e ≡ OutOfMemory → ⊥) → (read ≡ Err e) ⊎ (IsTrue may_allocate × (e ≡ OutOfMemory)) → same ≡ Err e
cie-failed may_allocate e read same at other (inl is) = at ∙ is
cie-failed may_allocate e read same at other (inr wanted) = absurd (other wanted.1)

-- want of memory isn't
pub memory-wanted : (section : FrameSection) (place : ℕ) (may_allocate : Bool) {answer : Result Fde Error} → (cie_from_offset section place ≡ Err OutOfMemory) ⊎ (IsTrue may_allocate × (OutOfMemory ≡ OutOfMemory))
    → (answer ≡ Err OutOfMemory) ⊎ (IsTrue may_allocate × (OutOfMemory ≡ OutOfMemory))
memory-wanted section place may_allocate (inl is) = absurd ((cie_memory section place).never is)
memory-wanted section place may_allocate (inr wanted) = inr wanted
