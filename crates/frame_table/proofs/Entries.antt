-- What is listed of entries.
use Rattle.std.proofs.Common.{◌≡◌, ℕ, List, ◌++◌, Option, Result, Ok, sym, ap, subst, ◌∙◌}
use Rattle.std.specs.declared.alloc.AllocError.{AllocError}
use Rattle.dwarf_constants.specs.declared.error.Error.{Error}
use Rattle.dwarf_frame_instructions.specs.Programs.{EntryProgram, rows_of_program}
use Rattle.dwarf_frame_rows.specs.Effects.{Limits}
use Rattle.dwarf_frame_entries.specs.Entries.{Fde, PartialFde}
use Rattle.frame_table.proofs.Appends.{then}
use Rattle.frame_table.specs.Entries.{Part, Setting, fde_or_fault, head_of, part_with, prefix_text, whole_fde_part}
use Rattle.frame_table.specs.EntryWrites.{WritesPart}
use Rattle.frame_table.specs.EntryPrefix.{EntryPrefix}
use Rattle.frame_table.specs.declared.parts.PartEnd.{PartEnd}
use Rattle.frame_table.specs.Tables.{Table, table_text}

-- the prefix of a line, by equal numbers
pub same_prefix : (size size' offset offset' length length' : ℕ) (prefix : EntryPrefix) → size ≡ size' → offset ≡ offset' → length ≡ length'
    → prefix_text size (head_of offset length) prefix ≡ prefix_text size' (head_of offset' length') prefix
same_prefix size size' offset offset' length length' prefix s o l =
    ap (λ (n : ℕ). prefix_text n (head_of offset length) prefix) s
    ∙ ap (λ (n : ℕ). prefix_text size' (head_of n length) prefix) o
    ∙ ap (λ (n : ℕ). prefix_text size' (head_of offset' n) prefix) l

-- a line and a table, ended as an entry ends
pub whole_part : (limits : Limits) (result : Result PartEnd AllocError) (before line t u new : List ℕ) (table shown : Table) (program meant : EntryProgram ℕ)
    (place offset end : ℕ) (refusal : Option Error)
    → t ≡ before ++ line
    → u ≡ t ++ table_text table (rows_of_program limits program)
    → refusal ≡ (rows_of_program limits program).refusal
    → table ≡ shown → program ≡ meant → place ≡ offset
    → ((b body : List ℕ) → u ≡ b ++ body → WritesPart (part_with place end body refusal) b new result)
    → WritesPart (part_with offset end (line ++ table_text shown (rows_of_program limits meant)) (rows_of_program limits meant).refusal) before new result
whole_part limits result before line t u new table shown program meant place offset end refusal line_is lines_are refusal_is table_is program_is place_is ends =
    let body = line ++ table_text table (rows_of_program limits program) in
    let Is : Part → Type 0 = λ part. WritesPart part before new result in
    subst (λ (n : ℕ). Is (part_with n end (line ++ table_text shown (rows_of_program limits meant)) (rows_of_program limits meant).refusal)) place_is
    (subst (λ (p : EntryProgram ℕ). Is (part_with place end (line ++ table_text shown (rows_of_program limits p)) (rows_of_program limits p).refusal)) program_is
    (subst (λ (s : Table). Is (part_with place end (line ++ table_text s (rows_of_program limits program)) (rows_of_program limits program).refusal)) table_is
    (subst (λ (r : Option Error). Is (part_with place end body r)) refusal_is
    (ends before body (then before t u line (table_text table (rows_of_program limits program)) line_is lines_are)))))

-- an FDE that is read is listed so
pub listed_fde : (s : Setting) (partial : PartialFde) (fde : Fde) (read : Result Fde Error) (prefix : EntryPrefix) (cie_offset : ℕ) (result : Result PartEnd AllocError) (old new : List ℕ)
    → read ≡ Ok fde → cie_offset ≡ partial.cie_offset
    → WritesPart (whole_fde_part s cie_offset fde prefix) old new result
    → WritesPart (fde_or_fault s partial prefix read) old new result
listed_fde s partial fde read prefix cie_offset result old new read_is offset_is writes =
    let is : whole_fde_part s cie_offset fde prefix ≡ fde_or_fault s partial prefix read =
    ap (λ (n : ℕ). whole_fde_part s n fde prefix) offset_is ∙ sym (ap (fde_or_fault s partial prefix) read_is) in
    subst (λ (part : Part). WritesPart part old new result) is writes
