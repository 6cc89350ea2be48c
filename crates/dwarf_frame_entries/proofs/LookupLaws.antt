-- The lookups of an address agree if each FDE can be read.
use Rattle.std.proofs.Common.{◌≡◌, ◌⊎◌, inl, inr, ℕ, zero, suc, ◌<◌, Bool, true, false, List, [], ◌∷◌, length, Option, Some, None, Result, Ok, Err, refl, ◌∙◌, arith}
use Rattle.std.specs.Prelude.{IsOk, unwrap_or}
use Rattle.std.specs.List.{All, filter_map, find}
use Rattle.std.specs.Option.{ok_or}
use Rattle.std.proofs.lemmas.List.Elements.{All-head, All-tail}
use Rattle.list_laws.specs.Items.{Answer}
use Rattle.dwarf_constants.specs.declared.error.Error.{Error}
use Rattle.dwarf_constants.specs.declared.error.Error.TheVariants.{NoUnwindInfoForAddress}
use Rattle.dwarf_readers.specs.Stretch.{Stretch}
use Rattle.dwarf_frame_rows.specs.FrameSection.{FrameSection}
use Rattle.dwarf_frame_entries.specs.declared.entries.Entry.TheVariants as which
use Rattle.dwarf_frame_entries.specs.AddressLookups.{decides, fde_for, fde_or_error}
use Rattle.dwarf_frame_entries.specs.Entries.{AnyEntry, Fde, contains, fde_of}
use Rattle.dwarf_frame_entries.specs.EntryLists.{ListEnd, SectionEnd, Terminator, end_error, entries_from, list_end_from, next_length}
use Rattle.dwarf_frame_entries.specs.LookupLaws.{AllFdesAreRead, LookupsAgree}
use Rattle.dwarf_frame_entries.specs.SectionFdes.{fde_in}
use Rattle.dwarf_frame_entries.proofs.EntryLists.{end-ended, end-passed, end-refused, entries-ended, entries-passed, entries-read, entries-refused, entries_shrink}
use Rattle.dwarf_frame_entries.proofs.SkippingLookups.{skipping-all, skipping_among, whole_among}

-- the lookups agree among these items of a list that ends so
abbrev Agree : FrameSection → ℕ → List (Result AnyEntry Error) → ListEnd → Type 0
Agree section address items end = fde_for section address items ≡ skipping_among section address items end

-- each FDE among these items can be read
abbrev Read : FrameSection → List (Result AnyEntry Error) → Type 0
Read section items = All IsOk (filter_map (fde_in section) items)

-- an FDE that can be read comes first
fde-first : (address : ℕ) (fde : Fde) (fdes : List (Result Fde Error)) (whole : List Fde) (none : Error) (b : Bool) → contains address fde ≡ b
    → unwrap_or (find (decides address) fdes) (Err NoUnwindInfoForAddress) ≡ ok_or (find (contains address) whole) none
    → unwrap_or (find (decides address) (Ok fde ∷ fdes)) (Err NoUnwindInfoForAddress) ≡ ok_or (find (contains address) (fde ∷ whole)) none
fde-first address fde fdes whole none true is others = rw is refl
fde-first address fde fdes whole none false is others = rw is others

-- an FDE that can't be read isn't one that can
refused : {P : Type 0} (read : Result Fde Error) (e : Error) → read ≡ Err e → IsOk read → P
refused read e is ok = cc

-- an entry comes first
entry-first : (section : FrameSection) (address : ℕ) (entry : AnyEntry) (items : List (Result AnyEntry Error)) (end : ListEnd) → Read section (Ok entry ∷ items)
    → (Read section items → Agree section address items end) → Agree section address (Ok entry ∷ items) end
entry-first section address (which.Cie cie) items end all others = others all
entry-first section address (which.Fde partial) items end all others = by (fde_of section.limit section.kind partial) refl
  where
    by : (fde : Result Fde Error) → fde_of section.limit section.kind partial ≡ fde → Agree section address (Ok (which.Fde partial) ∷ items) end
    by (Err e) is = refused (fde_of section.limit section.kind partial) e is (All-head IsOk (fde_of section.limit section.kind partial) (filter_map (fde_in section) items) all)
    by (Ok fde) is =
        rw is (fde-first address fde (filter_map (fde_or_error section) items) (whole_among section items) (unwrap_or (end_error end) NoUnwindInfoForAddress) (contains address fde) refl
        (others (All-tail IsOk (fde_of section.limit section.kind partial) (filter_map (fde_in section) items) all)))

-- the lists of shorter stretches
abbrev AgreeBelow : ℕ → FrameSection → ℕ → Type 0
AgreeBelow n section address =
    (s : Stretch) → length s.bytes < n → Read section (entries_from section s) → Agree section address (entries_from section s) (list_end_from section s)

-- no entry is left
agree_ended : (section : FrameSection) (address : ℕ) (end : ListEnd) → (end ≡ SectionEnd) ⊎ (end ≡ Terminator) → Agree section address [] end
agree_ended section address end (inl e) = rw e refl
agree_ended section address end (inr e) = rw e refl

-- the list of a stretch, by what is read at its next length
agree_by : (n : ℕ) (section : FrameSection) (address : ℕ) (s : Stretch) → AgreeBelow n section address → length s.bytes < suc n → Read section (entries_from section s)
    → (answer : Answer Stretch (Option AnyEntry) Error) → next_length section s ≡ answer → Agree section address (entries_from section s) (list_end_from section s)
agree_by n section address s others less all (Err e) is = rw (entries-refused section s e is, end-refused section s e is) refl
agree_by n section address s others less all (Ok None) is = rw (entries-ended section s is) (agree_ended section address (list_end_from section s) (end-ended section s is))
agree_by n section address s others less all (Ok (Some (None, rest))) is =
    let shorter = (entries_shrink section).smaller s rest None is in
    let same = entries-passed section s rest is in
    rw (same, end-passed section s rest None is) (others rest (omega arith) (rw same at all))
agree_by n section address s others less all (Ok (Some (Some entry, rest))) is =
    let shorter = (entries_shrink section).smaller s rest (Some entry) is in
    let list = entries-read section s rest entry is in
    rw (list, end-passed section s rest (Some entry) is)
    (entry-first section address entry (entries_from section rest) (list_end_from section rest) (rw list at all) (others rest (omega arith)))

agree_within : (n : ℕ) (section : FrameSection) (address : ℕ) → AgreeBelow n section address
agree_within zero section address s less all = absurd (omega arith)
agree_within (suc n) section address s less all = agree_by n section address s (agree_within n section address) less all (next_length section s) refl

-- the lookups of a section agree
pub lookups_agree : (section : FrameSection) (address : ℕ) → AllFdesAreRead section → LookupsAgree section address
lookups_agree section address all =
    agree_within (suc (length section.within.bytes.bytes)) section address section.within.bytes (omega arith) all ∙ skipping-all section address
