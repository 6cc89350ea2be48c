use Rattle.std.proofs.Common.{◌≡◌, ℕ, ◌∙◌, inl, ap, refl, subst}
use Rattle.dwarf_constants.specs.declared.common.Register.{Register}
use Rattle.dwarf_constants.specs.declared.common.Encoding.{Encoding}
use Rattle.dwarf_readers.specs.Stretch.{Stretch}
use Rattle.dwarf_frame_rows.specs.FrameSection.{FrameSection}
use Rattle.dwarf_frame_rows.specs.Row.{Row}
use Rattle.dwarf_frame_instructions.specs.Programs.{EntryProgram}
use Rattle.dwarf_frame_entries.specs.Entries.{Cie}
use Rattle.dwarf_frame_parts.specs.Answers.{IsPartsOf}
use Rattle.dwarf_frame_parts.specs.PartsStates.{HasRoomForParts}
use Rattle.dwarf_frame_parts.specs.declared.parts_rows.PartsAt.{PartsAt}
use Rattle.dwarf_frame_parts.specs.declared.parts_rows.PartsAt.TheVariants.{Found, Uncovered}
use Rattle.dwarf_frame_parts.specs.declared.simple_row.Columns.{Columns}
use Rattle.dwarf_frame_parts.specs.RowParts.{parts_of}
use Rattle.dwarf_frame_parts.specs.SimpleRows.{parts_shown}
use Rattle.framehop.specs.Coverage.{Covered, by_fde_row}
use Rattle.framehop.proofs.CoverageAnswers.{by-row, by-uncovered}
use Rattle.framehop.proofs.dwarf.unwind_frame_by_fde.Goals as goal

-- what was found for a program is found for the same program
of_program : (columns : Columns) (address : ℕ) (result : PartsAt) (p q : EntryProgram ℕ) → p ≡ q → IsPartsOf columns p address result → IsPartsOf columns q address result
of_program columns address result p q same found = subst (λ (program : EntryProgram ℕ). IsPartsOf columns program address result) same found

-- what is so by two registers is so by equal ones
of_equal : {N T : Type 0} (by : N → N → T) (one other same-one same-other : N) (it : T) → one ≡ same-one → other ≡ same-other → by one other ≡ it → by same-one same-other ≡ it
of_equal {N} {T} by one other same-one same-other it e f is =
    subst (λ (n : N). by same-one n ≡ it) f (subst (λ (n : N). by n other ≡ it) e is)

-- a row is covered alike by equal sizes and bytes
covered : (size other : ℕ) (bytes others : Stretch) (row : Row ℕ) → size ≡ other → bytes ≡ others → Covered other bytes row ≡ Covered size others row
covered size other bytes others row e f = cc

-- the row has the parts that were found
pub returns-in-Found-clause-answers : goal.returns-in-Found-clause-answers
returns-in-Found-clause-answers g c =
    let section : FrameSection = g.Section._UnwindSectionPrivate.frame c.args.section.now c.args.bases.now in
    let columns : Columns = record { fp = c.frame_pointer.result; ra = c.return_address.result } in
    let has = c.if-can_have.ensures.0 refl in
    let room : HasRoomForParts g.UCS.UnwindContextStorage.limits = record { rules = has.0; rows = has.1 } in
    let found = of_program columns c.args.address (Found c.in-Found.parts) _ _ c.program.ensures c.in-Found.ensures g.UCS.UnwindContextStorage.limits room in
    let same = of_equal (λ (fp : Register) (ra : Register). parts_of fp ra found.0) _ _ _ _ (parts_shown c.in-Found.parts) c.frame_pointer.ensures c.return_address.ensures found.2 in
    let size = ap (λ (encoding : Encoding). encoding.address_size) c.encoding-encoding.ensures ∙ ap (λ (cie : Cie). cie.address_size) c.cie.ensures in
    let bytes = ap (λ (framed : FrameSection). framed.within.bytes) (g.met.Section._UnwindSectionPrivate.framed c.args.section.now c.args.bases.now) in
    by-row g.A.DwarfUnwinding.rows g.A.DwarfUnwinding.MeetsExpression c.args.is_first_frame g.ES.Stack.ArrayLike.capacity _ _ _ _ _ c.encoding-encoding.result.address_size _ found.0 _
    (ap (by_fde_row c.args.fde.now.cie.address_size section.within.bytes) found.1 ∙ covered _ _ _ _ found.0 size bytes)
    (c.unwind_frame_by_parts.ensures.answers found.0 same) c.unwind_frame_by_parts.ensures.refusals
    (λ h. absurd (c.unwind_frame_by_parts.ensures.memory h))

-- no row covers the address
pub returns-in-Uncovered-clause-answers : goal.returns-in-Uncovered-clause-answers
returns-in-Uncovered-clause-answers g c =
    let section : FrameSection = g.Section._UnwindSectionPrivate.frame c.args.section.now c.args.bases.now in
    let columns : Columns = record { fp = c.frame_pointer.result; ra = c.return_address.result } in
    let has = c.if-can_have.ensures.0 refl in
    let room : HasRoomForParts g.UCS.UnwindContextStorage.limits = record { rules = has.0; rows = has.1 } in
    let none = of_program columns c.args.address Uncovered _ _ c.program.ensures c.in-Uncovered.ensures g.UCS.UnwindContextStorage.limits room in
    by-uncovered g.A.DwarfUnwinding.rows g.A.DwarfUnwinding.MeetsExpression c.args.is_first_frame g.ES.Stack.ArrayLike.capacity c.args.read_stack.now c.args.regs.now c.rule_if_uncovered_by_fde.result _
    (ap (by_fde_row c.args.fde.now.cie.address_size section.within.bytes) none.1) c.rule_if_uncovered_by_fde.ensures.rule

-- nor in a context
pub returns-in-Err-clause-answers : goal.returns-in-Err-clause-answers
returns-in-Err-clause-answers g c =
    let section : FrameSection = g.Section._UnwindSectionPrivate.frame c.args.section.now c.args.bases.now in
    by-uncovered g.A.DwarfUnwinding.rows g.A.DwarfUnwinding.MeetsExpression c.args.is_first_frame g.ES.Stack.ArrayLike.capacity c.args.read_stack.now c.args.regs.now c.rule_if_uncovered_by_fde-in-Err.result _
    (ap (by_fde_row c.args.fde.now.cie.address_size section.within.bytes) (c.in-Err.ensures.row (inl c.requires.rows))) c.rule_if_uncovered_by_fde-in-Err.ensures.rule
