-- What is said of a section's FDEs, and of the error that ends its list, is what its index leaves out, and why it has none.
use Rattle.std.proofs.Common.{◌≡◌, ℕ, zero, suc, ◌+◌, ◌-◌, ◌<◌, ◌≤◌, ◌^◌, Bool, true, false, cond, List, [], ◌∷◌, length, map, Option, Some, None, Result, Ok, Err, refl, sym, ap, ◌∙◌, arith}
use Rattle.std.specs.Prelude.{◌==◌, is_none, nat_le, nat_lt, not, option_map}
use Rattle.std.specs.List.{cons_option, count_by, filter, filter_map}
use Rattle.std.specs.Result.{result_ok}
use Rattle.std.proofs.lemmas.List.Sums.{sum_by-cons}
use Rattle.list_laws.specs.Items.{Answer, Shrinks, items_from, items_within, rest_from, rest_within}
use Rattle.list_laws.proofs.Laws.{by_case}
use Rattle.dwarf_constants.specs.declared.error.Error.{Error}
use Rattle.dwarf_readers.specs.Remainder.{Takes, TakesItem, size_of}
use Rattle.dwarf_readers.specs.Stretch.{Stretch}
use Rattle.dwarf_readers.proofs.Laws.{initial_length_takes, items_shrink, leaves_from, leaves_if, leaves_none, leaves_ok, leaves_then, split_takes}
use Rattle.dwarf_frame_rows.specs.FrameSection.{FrameSection}
use Rattle.dwarf_frame_entries.specs.Entries.{AnyEntry, Fde, PartialFde, entry_at, entry_within, fde_of, offset_in}
use Rattle.dwarf_frame_entries.specs.EntryLists.{SectionEnd, Terminator, end_by, end_error, entries_from, entries_of, entry_there, list_end_from, list_error, next_length, unless_ended}
use Rattle.dwarf_frame_entries.specs.SectionFdes.{fde_in, whole_fdes}
use Rattle.dwarf_frame_entries.specs.declared.entries.Entry.TheVariants as which
use Rattle.framehop_errors.specs.declared.cfi_index.DwarfCfiIndexError.TheVariants.{Gimli}
use Rattle.framehop_index.specs.EntryFor.{fits_index, has_index, index_error, indexed_fdes, is_left_out, left_out as left_out_by_index}
use Rattle.backtrace_lint.specs.LeftOut.{left_out}
use Rattle.backtrace_lint.specs.declared.fdes.Fault.{Fault}
use Rattle.backtrace_lint.specs.declared.fdes.ListedFde.{ListedFde}
use Rattle.backtrace_lint.specs.declared.left_out.LeftOut.{LeftOut}
use Rattle.backtrace_lint.specs.Faults.{fault_from, fault_of, offset_after}
use Rattle.backtrace_lint.specs.IndexLaws.{index_fault, is_kept, kept_fdes, left_outs, listed_whole}
use Rattle.backtrace_lint.specs.ListedFdes.{code_read, listed_among}
use Rattle.backtrace_lint.proofs.Each.{Each}
use Rattle.backtrace_lint.proofs.Rising.{fde-head, whole-among}

-- ---- FDEs

-- an FDE, as it is listed by what was read of it
abbrev as-listed : PartialFde → Result Fde Error → ListedFde
as-listed partial read = record { offset = partial.head.offset; read = code_read read }

-- it is said to be left out exactly if an index leaves it out
kept-if-held : (partial : PartialFde) (read : Result Fde Error) → Each (λ (fde : Fde). fde.head ≡ partial.head) read → is_kept (as-listed partial read) ≡ not (is_left_out 0 read)
kept-if-held partial (Err e) there = refl
kept-if-held partial (Ok fde) there =
    let head : fde.head ≡ partial.head = there.each in
    let above : nat_le 0 fde.initial_address ≡ true = grind arith in
    let from : fde.initial_address - 0 ≡ fde.initial_address = omega arith in
    by_case (nat_lt fde.initial_address (2 ^ 32))
    (λ near. by_case (nat_lt fde.head.offset (2 ^ 32)) (λ low. rw (sym head, above, from, near, low) refl) (λ far. rw (sym head, above, from, near, far) refl))
    (λ far. rw (sym head, above, from, far) refl)

-- one more that is said, or isn't
count-one : (fde : ListedFde) (left : Bool) (said : List LeftOut) → is_kept fde ≡ not left → length (cons_option (left_out fde) said) ≡ cond left 1 0 + length said
count-one fde left said kept = by (left_out fde) left kept
  where
    by : (o : Option LeftOut) (left : Bool) → is_none o ≡ not left → length (cons_option o said) ≡ cond left 1 0 + length said
    by None true is = cc
    by None false is = omega arith
    by (Some one) true is = omega arith
    by (Some one) false is = cc

count-read : (fde : ListedFde) (read : Result Fde Error) (said : List LeftOut) (fdes : List (Result Fde Error)) → is_kept fde ≡ not (is_left_out 0 read) → length said ≡ count_by (is_left_out 0) fdes
    → length (cons_option (left_out fde) said) ≡ count_by (is_left_out 0) (read ∷ fdes)
count-read fde read said fdes kept others =
    count-one fde (is_left_out 0 read) said kept
    ∙ ap (λ n. cond (is_left_out 0 read) 1 0 + n) others
    ∙ sym (sum_by-cons (λ read. cond (is_left_out 0 read) 1 0) read fdes)

count-items : (section : FrameSection) (items : List (Result AnyEntry Error)) → length (filter_map left_out (listed_among section items)) ≡ count_by (is_left_out 0) (filter_map (fde_in section) items)
count-items section [] = refl
count-items section (Err e ∷ items) = count-items section items
count-items section (Ok (which.Cie cie) ∷ items) = count-items section items
count-items section (Ok (which.Fde partial) ∷ items) =
    let read = fde_of section.limit section.kind partial in
    count-read (as-listed partial read) read (filter_map left_out (listed_among section items)) (filter_map (fde_in section) items)
    (kept-if-held partial read (fde-head section.limit section.kind partial)) (count-items section items)

-- as many are said to be left out as an index leaves out
pub count-left-out : (section : FrameSection) → length (left_outs section) ≡ left_out_by_index 0 section
count-left-out section = count-items section (entries_of section)

-- one more that is held, or isn't
held-one : (fits : Bool) (listed : ListedFde) (fde : Fde) (kept : List ListedFde) (held : List Fde) → listed ≡ listed_whole fde → kept ≡ map listed_whole held
    → cond (not (not fits)) (listed ∷ kept) kept ≡ map listed_whole (cond fits (fde ∷ held) held)
held-one true listed fde kept held same others = rw (same, others) refl
held-one false listed fde kept held same others = others

held-read : (partial : PartialFde) (read : Result Fde Error) (kept : List ListedFde) (whole : List Fde) → Each (λ (fde : Fde). fde.head ≡ partial.head) read → is_kept (as-listed partial read) ≡ not (is_left_out 0 read)
    → kept ≡ map listed_whole (filter (fits_index 0) whole)
    → cond (is_kept (as-listed partial read)) (as-listed partial read ∷ kept) kept ≡ map listed_whole (filter (fits_index 0) (cons_option (result_ok read) whole))
held-read partial (Err e) kept whole there is others = others
held-read partial (Ok fde) kept whole there is others =
    let listed = as-listed partial (Ok fde) in
    let head : fde.head ≡ partial.head = there.each in
    let same : listed ≡ listed_whole fde = rw (sym head) refl in
    ap (λ test. cond test (listed ∷ kept) kept) is ∙ held-one (fits_index 0 fde) listed fde kept (filter (fits_index 0) whole) same others

held-items : (section : FrameSection) (items : List (Result AnyEntry Error)) → filter is_kept (listed_among section items) ≡ map listed_whole (filter (fits_index 0) (whole-among section items))
held-items section [] = refl
held-items section (Err e ∷ items) = held-items section items
held-items section (Ok (which.Cie cie) ∷ items) = held-items section items
held-items section (Ok (which.Fde partial) ∷ items) =
    let read = fde_of section.limit section.kind partial in
    let head = fde-head section.limit section.kind partial in
    held-read partial read (filter is_kept (listed_among section items)) (whole-among section items) head (kept-if-held partial read head) (held-items section items)

-- the others are those that an index holds
pub held-others : (section : FrameSection) → kept_fdes section ≡ map listed_whole (indexed_fdes 0 section)
unfolding whole_fdes
held-others section = held-items section (entries_of section)

-- ---- the error that ends a list

-- a length takes four bytes at least
entry-takes : (section : FrameSection) (s : Stretch) → Takes 4 s (entry_at section s)
entry-takes section s =
    leaves_then (initial_length_takes section.limit s) (λ length le.
    leaves_if (length.0.0 == 0) (leaves_ok le)
    (leaves_then (leaves_from {m = 4} (split_takes length.0.0 length.1) (omega arith)) (λ parts less.
    leaves_then {n = 0} (leaves_none (entry_within section (record { offset = offset_in section s; length = length.0.0 }) length.0.1 parts.0)) (λ entry _. leaves_ok less))))

ended-takes : (ends : Bool) (s : Stretch) (read : Option AnyEntry × Stretch) → 4 + length read.1.bytes ≤ length s.bytes → TakesItem 4 s (unless_ended ends read)
ended-takes true s (None, rest) le = leaves_ok tt
ended-takes true s (Some entry, rest) le = leaves_ok le
ended-takes false s (read, rest) le = leaves_ok le

entries-shrink : (section : FrameSection) → Shrinks size_of (next_length section)
entries-shrink section =
    items_shrink (next_length section) (λ s. leaves_if (length s.bytes == 0) (leaves_ok tt)
    (leaves_then (entry-takes section s) (λ read le. leaves_from {m = 1} (ended-takes section.kind.ends_at_zero s read le) (omega arith))))

-- the error among items of a section's list
abbrev error-among : FrameSection → (offset : ℕ) → List (Result AnyEntry Error) → Option Error
error-among section offset items = option_map (λ fault. fault.error) (fault_from section offset items)

-- the entries of a stretch, by at most n steps
abbrev entries-within : ℕ → FrameSection → Stretch → List (Result AnyEntry Error)
entries-within n section s = filter_map entry_there (items_within n (next_length section) s)

-- the error that is left behind some steps, if one is
abbrev error-left : FrameSection → Stretch → Option Error
error-left section rest = end_error (end_by rest (next_length section rest))

no-error : (empty : Bool) → end_error (cond empty SectionEnd Terminator) ≡ None
no-error true = refl
no-error false = refl

ends-by : (n : ℕ) (section : FrameSection) (s : Stretch) (offset : ℕ)
    → ((rest : Stretch) (offset : ℕ) → size_of rest < size_of s → error-among section offset (entries-within n section rest) ≡ error-left section (rest_within n (next_length section) rest))
    → (answer : Answer Stretch (Option AnyEntry) Error) → next_length section s ≡ answer
    → error-among section offset (filter_map entry_there (items_from (items_within n (next_length section)) answer)) ≡ error-left section (rest_from (rest_within n (next_length section)) s answer)
ends-by n section s offset others (Err e) is = sym (ap (λ answer. end_error (end_by s answer)) is)
ends-by n section s offset others (Ok None) is = sym (ap (λ answer. end_error (end_by s answer)) is ∙ no-error (length s.bytes == 0))
ends-by n section s offset others (Ok (Some (None, rest))) is = others rest offset ((entries-shrink section).smaller s rest None is)
ends-by n section s offset others (Ok (Some (Some entry, rest))) is = others rest (offset_after section entry) ((entries-shrink section).smaller s rest (Some entry) is)

ends-within : (n : ℕ) (section : FrameSection) (s : Stretch) (offset : ℕ) → size_of s < n → error-among section offset (entries-within n section s) ≡ error-left section (rest_within n (next_length section) s)
ends-within zero section s offset less = absurd (omega arith)
ends-within (suc n) section s offset less = ends-by n section s offset (λ rest offset smaller. ends-within n section rest offset (omega arith)) (next_length section s) refl

-- the error that is said to end a section's list is the one that does
fault-error : (section : FrameSection) → option_map (λ fault. fault.error) (fault_of section) ≡ list_error section
unfolding entries_from list_end_from
fault-error section = ends-within (suc (size_of section.within.bytes)) section section.within.bytes 0 (omega arith)

-- a section has an index if no error is said
pub index-if-no-fault : (section : FrameSection) → has_index section ≡ is_none (fault_of section)
index-if-no-fault section = ap is_none (sym (fault-error section)) ∙ by (fault_of section)
  where
    by : (fault : Option Fault) → is_none (option_map (λ fault. fault.error) fault) ≡ is_none fault
    by None = refl
    by (Some fault) = refl

-- .. and else none, for that error
pub index-fault : (section : FrameSection) → index_error section ≡ option_map index_fault (fault_of section)
index-fault section = ap (option_map Gimli) (sym (fault-error section)) ∙ by (fault_of section)
  where
    by : (fault : Option Fault) → option_map Gimli (option_map (λ fault. fault.error) fault) ≡ option_map index_fault fault
    by None = refl
    by (Some fault) = refl
