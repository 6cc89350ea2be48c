-- What the lookup of an address gives, by the next item of a section's list.
use Rattle.std.proofs.Common.{◌≡◌, ◌⊎◌, inl, inr, ℕ, Bool, true, false, cond, List, [], ◌∷◌, Some, Result, Ok, Err, sym, ap, ◌∙◌}
use Rattle.std.specs.Prelude.{IsTrue, unwrap_or}
use Rattle.std.specs.List.{filter_map, find}
use Rattle.dwarf_constants.specs.declared.error.Error.{Error}
use Rattle.dwarf_constants.specs.declared.error.Error.TheVariants.{NoUnwindInfoForAddress, OutOfMemory}
use Rattle.dwarf_readers.specs.Stretch.{◌>>=◌}
use Rattle.dwarf_frame_rows.specs.FrameSection.{FrameSection}
use Rattle.dwarf_frame_entries.specs.declared.entries.Entry.TheVariants as which
use Rattle.dwarf_frame_entries.specs.AddressLookups.{decides, fde_for, fde_or_error, first_deciding}
use Rattle.dwarf_frame_entries.specs.Entries.{AnyEntry, Cie, Fde, PartialFde, cie_of, contains, fde_with}

-- the first of some FDEs, by whether it decides
first-by : (address : ℕ) (read : Result Fde Error) (others : List (Result Fde Error)) (b : Bool) → decides address read ≡ b
    → first_deciding address (read ∷ others) ≡ unwrap_or (cond b (Some read) (find (decides address) others)) (Err NoUnwindInfoForAddress)
first-by address read others b is = ap (λ (t : Bool). unwrap_or (cond t (Some read) (find (decides address) others)) (Err NoUnwindInfoForAddress)) is

-- the lookup of an address in a list gives some answer
module _ (section : FrameSection) (address : ℕ) (entries : List (Result AnyEntry Error)) (answer : Result Fde Error) (gives : fde_for section address entries ≡ answer) where
  -- an error comes first
  pub error-first : (e : Error) → entries ≡ Err e ∷ [] → answer ≡ Err e
  error-first e list = sym gives ∙ ap (fde_for section address) list

  -- nothing is left
  pub none-left : entries ≡ [] → answer ≡ Err NoUnwindInfoForAddress
  none-left list = sym gives ∙ ap (fde_for section address) list

  -- a CIE comes first
  pub cie-first : (cie : Cie) (others : List (Result AnyEntry Error)) → entries ≡ Ok (which.Cie cie) ∷ others → fde_for section address others ≡ answer
  cie-first cie others list = sym (ap (fde_for section address) list) ∙ gives

  -- an FDE comes first, whose CIE is this
  module _ (partial : PartialFde) (cie-read : Result Cie Error) (same : cie_of section.limit section.kind partial ≡ cie-read) (others : List (Result AnyEntry Error)) (list : entries ≡ Ok (which.Fde partial) ∷ others) where
    read-first : (fde : Result Fde Error) → (cie-read >>= fde_with section.limit partial) ≡ fde → answer ≡ first_deciding address (fde ∷ filter_map (fde_or_error section) others)
    read-first fde is =
        sym gives
        ∙ ap (fde_for section address) list
        ∙ ap (λ (x : Result Fde Error). first_deciding address (x ∷ filter_map (fde_or_error section) others)) (ap (λ (x : Result Cie Error). x >>= fde_with section.limit partial) same ∙ is)

    -- its CIE can't be read, or there is no memory
    pub cie-fails : (may_allocate : Bool) (e : Error) → (cie-read ≡ Err e) ⊎ (IsTrue may_allocate × (e ≡ OutOfMemory)) → (answer ≡ Err e) ⊎ (IsTrue may_allocate × (e ≡ OutOfMemory))
    cie-fails may_allocate e (inl is) = inl (read-first (Err e) (ap (λ (x : Result Cie Error). x >>= fde_with section.limit partial) is))
    cie-fails may_allocate e (inr memory) = inr memory

    module _ (cie : Cie) (is : cie-read ≡ Ok cie) where
      with-cie : (fde : Result Fde Error) → fde_with section.limit partial cie ≡ fde → answer ≡ first_deciding address (fde ∷ filter_map (fde_or_error section) others)
      with-cie fde gives-fde = read-first fde (ap (λ (x : Result Cie Error). x >>= fde_with section.limit partial) is ∙ gives-fde)

      -- the FDE can't be read by its CIE
      pub fde-fails : (e : Error) → fde_with section.limit partial cie ≡ Err e → answer ≡ Err e
      fde-fails e fails = with-cie (Err e) fails

      -- it contains the address
      pub fde-found : (fde : Fde) → fde_with section.limit partial cie ≡ Ok fde → contains address fde ≡ true → answer ≡ Ok fde
      fde-found fde read-so found = with-cie (Ok fde) read-so ∙ first-by address (Ok fde) (filter_map (fde_or_error section) others) true found

      -- it doesn't
      pub fde-elsewhere : (fde : Fde) → fde_with section.limit partial cie ≡ Ok fde → contains address fde ≡ false → fde_for section address others ≡ answer
      fde-elsewhere fde read-so outside = sym (with-cie (Ok fde) read-so ∙ first-by address (Ok fde) (filter_map (fde_or_error section) others) false outside)
