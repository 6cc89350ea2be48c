-- What a scan for an address gives, by the next item of the section's list.
use Rattle.std.proofs.Common.{◌≡◌, ◌⊎◌, inl, inr, ℕ, Bool, true, false, cond, List, [], ◌∷◌, Some, Result, Ok, Err, refl, sym, ap, ◌∙◌}
use Rattle.std.specs.Prelude.{unwrap_or}
use Rattle.std.specs.List.{cons_option, find}
use Rattle.std.specs.Option.{ok_or}
use Rattle.std.specs.Result.{result_ok}
use Rattle.dwarf_constants.specs.declared.error.Error.{Error}
use Rattle.dwarf_constants.specs.declared.error.Error.TheVariants.{NoUnwindInfoForAddress}
use Rattle.dwarf_frame_rows.specs.FrameSection.{FrameSection}
use Rattle.dwarf_frame_entries.specs.declared.entries.Entry.TheVariants as which
use Rattle.dwarf_frame_entries.specs.AddressLookups.{fde_for_address_skipping}
use Rattle.dwarf_frame_entries.specs.Entries.{AnyEntry, Cie, Fde, PartialFde, contains, fde_of}
use Rattle.dwarf_frame_entries.specs.EntryLists.{ListEnd, SectionEnd, Terminator, Failed, end_error, entries_of, list_end}
use Rattle.dwarf_frame_entries.specs.SectionFdes.{whole_fdes}
use Rattle.framehop_index.proofs.CfiIndexBuild.{whole_among}

-- what a scan gives of these FDEs and a list that ends so
abbrev pub scan_in : ℕ → List Fde → ListEnd → Result Fde Error
scan_in address fdes end = ok_or (find (contains address) fdes) (unwrap_or (end_error end) NoUnwindInfoForAddress)

-- and of these items of the section's list
abbrev pub scan_among : FrameSection → ℕ → List (Result AnyEntry Error) → ListEnd → Result Fde Error
scan_among section address items end = scan_in address (whole_among section items) end

-- all of them
pub scan-all : (section : FrameSection) (address : ℕ) → scan_among section address (entries_of section) (list_end section) ≡ fde_for_address_skipping section address
unfolding whole_fdes
scan-all section address = refl

-- the items that are left give some answer
module _ (section : FrameSection) (address : ℕ) (items : List (Result AnyEntry Error)) (end : ListEnd) (answer : Result Fde Error) (gives : scan_among section address items end ≡ answer) where
  -- an error ends them
  pub list-fails : (e : Error) → items ≡ Err e ∷ [] → end ≡ Failed e → answer ≡ Err e
  list-fails e list fails = sym gives ∙ ap (λ l. scan_among section address l end) list ∙ ap (scan_in address []) fails

  -- nothing is left
  pub none-left : items ≡ [] → (end ≡ SectionEnd) ⊎ (end ≡ Terminator) → answer ≡ Err NoUnwindInfoForAddress
  none-left list (inl is) = sym gives ∙ ap (λ l. scan_among section address l end) list ∙ ap (scan_in address []) is
  none-left list (inr is) = sym gives ∙ ap (λ l. scan_among section address l end) list ∙ ap (scan_in address []) is

  module _ (next : ListEnd) (on : end ≡ next) where
    -- a CIE comes first
    pub cie-passed : (cie : Cie) (others : List (Result AnyEntry Error)) → items ≡ Ok (which.Cie cie) ∷ others → scan_among section address others next ≡ answer
    cie-passed cie others list = ap (scan_among section address others) (sym on) ∙ sym (ap (λ l. scan_among section address l end) list) ∙ gives

    -- an FDE comes first
    module _ (partial : PartialFde) (others : List (Result AnyEntry Error)) (list : items ≡ Ok (which.Fde partial) ∷ others) where
      first-is : (fde : Result Fde Error) → fde_of section.limit section.kind partial ≡ fde → answer ≡ scan_in address (cons_option (result_ok fde) (whole_among section others)) next
      first-is fde is =
          sym gives
          ∙ ap (λ l. scan_among section address l end) list
          ∙ ap (λ (x : Result Fde Error). scan_in address (cons_option (result_ok x) (whole_among section others)) end) is
          ∙ ap (scan_in address (cons_option (result_ok fde) (whole_among section others))) on

      -- it can't be read
      pub fde-passed : (e : Error) → fde_of section.limit section.kind partial ≡ Err e → scan_among section address others next ≡ answer
      fde-passed e fails = sym (first-is (Err e) fails)

      by : (fde : Fde) (b : Bool) → contains address fde ≡ b
          → scan_in address (fde ∷ whole_among section others) next ≡ ok_or (cond b (Some fde) (find (contains address) (whole_among section others))) (unwrap_or (end_error next) NoUnwindInfoForAddress)
      by fde b is = ap (λ (t : Bool). ok_or (cond t (Some fde) (find (contains address) (whole_among section others))) (unwrap_or (end_error next) NoUnwindInfoForAddress)) is

      -- it contains the address
      pub fde-found : (fde : Fde) → fde_of section.limit section.kind partial ≡ Ok fde → contains address fde ≡ true → answer ≡ Ok fde
      fde-found fde is inside = first-is (Ok fde) is ∙ by fde true inside

      -- it doesn't
      pub fde-elsewhere : (fde : Fde) → fde_of section.limit section.kind partial ≡ Ok fde → contains address fde ≡ false → scan_among section address others next ≡ answer
      fde-elsewhere fde is outside = sym (first-is (Ok fde) is ∙ by fde false outside)
