-- What functions that read CIEs return for the FDEs of a section.
use Rattle.std.proofs.Common.{◌≡◌, ℕ, Bool, List, [], ◌∷◌, Result, Ok, refl, sym, ap, subst, ◌∙◌}
use Rattle.std.specs.Borrow.{Bor}
use Rattle.std.specs.List.{All}
use Rattle.std.proofs.lemmas.List.Elements.{All-head, All-tail}
use Rattle.dwarf_constants.specs.declared.error.Error.{Error}
use Rattle.dwarf_readers.specs.Stretch.{Stretch}
use Rattle.dwarf_frame_rows.specs.SectionKind.{FrameSectionKind}
use Rattle.dwarf_frame_rows.specs.declared.base_addresses.BaseAddresses.{BaseAddresses}
use Rattle.dwarf_frame_rows.specs.FrameSection.{FrameSection, SectionContents, frame_section, section_data}
use Rattle.dwarf_frame_entries.specs.CieReaders.{CieResult, ReadsCie, ReadsCieOf, ReadsCies}
use Rattle.dwarf_frame_entries.specs.declared.entries.Entry.TheVariants as which
use Rattle.dwarf_frame_entries.specs.Entries.{AnyEntry, PartialFde, cie_from_offset, cie_of}
use Rattle.dwarf_frame_entries.specs.EntryViews.{cie_view}
use Rattle.dwarf_frame_entries.specs.Memory.{MayGive}
use Rattle.dwarf_frame_entries.specs.SectionFdes.{IsOfSection}

-- the CIE of an FDE that was read in a section
pub cie-of-same : (section : FrameSection) (partial : PartialFde) (offset : ℕ) → partial.within ≡ section.within → partial.cie_offset ≡ offset
    → cie_of section.limit section.kind partial ≡ cie_from_offset section offset
cie-of-same section partial offset within at =
    ap (λ (w : SectionContents). cie_from_offset (record { limit = section.limit; kind = section.kind; within = w }) partial.cie_offset) within
    ∙ ap (cie_from_offset section) at

-- the items after the first are of the section, as all are
pub later-of-section : (section : FrameSection) (item : Result AnyEntry Error) (entries others : List (Result AnyEntry Error)) → entries ≡ item ∷ others
    → All (IsOfSection section) entries → All (IsOfSection section) others
later-of-section section item entries others list all =
    All-tail (IsOfSection section) item others (subst (λ (items : List (Result AnyEntry Error)). All (IsOfSection section) items) list all)

pub may-give-same : {X Y : Type 0} (may_allocate : Bool) (view : X → Y) (result : Result X Error) (answer other : Result Y Error) → answer ≡ other → MayGive may_allocate view result other
    → MayGive may_allocate view result answer
may-give-same may_allocate view result answer other is h = rw is h

module _ {S : Type 0} {frame : S → BaseAddresses → FrameSection} {limit : ℕ} {kind : FrameSectionKind} {size : S → ℕ} {bytes : S → Stretch}
    (framed : (s : S) (b : BaseAddresses) → frame s b ≡ frame_section limit kind (size s) (bytes s) b) where
  -- sections of one type with the same contents are the same
  pub same-section : (s t : S) (b c : BaseAddresses) → section_data (size s) (bytes s) b ≡ (frame t c).within → frame s b ≡ frame t c
  same-section s t b c within =
      let given : section_data (size s) (bytes s) b ≡ section_data (size t) (bytes t) c = within ∙ ap (λ (f : FrameSection). f.within) (framed t c) in
      let made : SectionContents → FrameSection = λ w. record { limit = limit; kind = kind; within = w } in
      framed s b ∙ ap made given ∙ sym (framed t c)

  -- an FDE that comes first in the list of a section was read in this section, as the others were
  pub first-of-section : (s t : S) (b c : BaseAddresses) (offset : ℕ) (partial : PartialFde) (entries others : List (Result AnyEntry Error))
      → section_data (size s) (bytes s) b ≡ partial.within → partial.cie_offset ≡ offset → entries ≡ Ok (which.Fde partial) ∷ others → All (IsOfSection (frame t c)) entries
      → ((frame s b ≡ frame t c) × (cie_of (frame t c).limit (frame t c).kind partial ≡ cie_from_offset (frame t c) offset)) × All (IsOfSection (frame t c)) others
  first-of-section s t b c offset partial entries others contents at list all =
      let known : All (IsOfSection (frame t c)) (Ok (which.Fde partial) ∷ others) = subst (λ (items : List (Result AnyEntry Error)). All (IsOfSection (frame t c)) items) list all in
      let within : partial.within ≡ (frame t c).within = All-head (IsOfSection (frame t c)) (Ok (which.Fde partial)) others known in
      ((same-section s t b c (contents ∙ within), cie-of-same (frame t c) partial offset within at), All-tail (IsOfSection (frame t c)) (Ok (which.Fde partial)) others known)

  module _ {F N R E O : Type 0} (step : F → Bor S → Bor BaseAddresses → N → CieResult R E O → F → Type 0) (stretch : R → Stretch) (value : O → ℕ) (number : N → ℕ) where
    -- a function that reads the CIEs of a section reads that of each FDE of the section
    pub reads-of : (s : S) (b : BaseAddresses) (partial : PartialFde) (get_cie : F) (may_allocate : Bool) → partial.within ≡ (frame s b).within
        → ReadsCie step stretch value frame number (frame s b) get_cie may_allocate → ReadsCieOf step stretch value frame number partial get_cie may_allocate
    reads-of s b partial get_cie may_allocate within reads given bases offset result after there at stepped =
        let contents : section_data (size given.now) (bytes given.now) bases.now ≡ (frame s b).within =
        sym (ap (λ (f : FrameSection). f.within) (framed given.now bases.now)) ∙ sym there ∙ within in
        let same : frame given.now bases.now ≡ frame s b = same-section given.now s bases.now b contents in
        may-give-same may_allocate (cie_view stretch value) result _ _
        (cie-of-same (frame given.now bases.now) partial (number offset) there at ∙ ap (λ (f : FrameSection). cie_from_offset f (number offset)) same)
        (reads given bases offset result after same stepped)

module _ {F S N R E O : Type 0} (step : F → Bor S → Bor BaseAddresses → N → CieResult R E O → F → Type 0) (stretch : R → Stretch) (value : O → ℕ)
    (frame : S → BaseAddresses → FrameSection) (number : N → ℕ) (section : FrameSection) (may_allocate : Bool) where
  -- it reads them in its first state
  pub reads-first : (first : F) → ReadsCies step stretch value frame number section first may_allocate → ReadsCie step stretch value frame number section first may_allocate
  reads-first first reads = reads [] first refl

  -- it reads them after a call
  pub reads-on : (first mid : F) (given : Bor S) (bases : Bor BaseAddresses) (offset : N) (result : CieResult R E O) → frame given.now bases.now ≡ section
      → step first given bases offset result mid → ReadsCies step stretch value frame number section first may_allocate
      → ReadsCies step stretch value frame number section mid may_allocate
  reads-on first mid given bases offset result same stepped reads offsets last leads =
      reads (offset ∷ offsets) last (given, bases, same, result, mid, stepped, leads)
