-- The list of instructions, one read after the other.
use Rattle.std.proofs.Common.{◌≡◌, ℕ, ◌-◌, ◌%◌, ◌^◌, true, false, length, ◌≤◌, List, [], ◌∷◌, ◌++◌, Option, Some, None, Result, Ok, refl, ap, arith}
use Rattle.std.specs.Prelude.{◌==◌, nat_le}
use Rattle.std.specs.Int.{w16, w32, w64}
use Rattle.list_laws.specs.Items.{GivesNext, LeavesNone, Shrinks, step_taken}
use Rattle.list_laws.proofs.Laws.{by_case, gives-next}
use Rattle.dwarf_constants.specs.Pointer.{format_of}
use Rattle.dwarf_constants.specs.declared.common.Vendor.{Vendor}
use Rattle.dwarf_constants.specs.declared.common.Vendor.TheVariants as vendor
use Rattle.dwarf_constants.specs.declared.constants.DwCfa.{DwCfa}
use Rattle.dwarf_constants.specs.declared.constants.TheConstants.{DW_CFA_advance_loc, DW_CFA_offset, DW_CFA_restore, DW_EH_PE_absptr, DW_EH_PE_uleb128, DW_EH_PE_udata2, DW_EH_PE_udata4, DW_EH_PE_udata8, DW_EH_PE_sleb128, DW_EH_PE_sdata2, DW_EH_PE_sdata4, DW_EH_PE_sdata8}
use Rattle.dwarf_constants.specs.declared.error.Error.{Error}
use Rattle.dwarf_constants.specs.declared.error.Error.TheVariants.{OffsetOutOfBounds}
use Rattle.dwarf_readers.specs.InitialLength.{as_offset}
use Rattle.dwarf_readers.specs.Leb128.{signed_at, unsigned_at}
use Rattle.dwarf_endianity.specs.Offset.{offset_below}
use Rattle.dwarf_readers.specs.Operands.{alone, one, two}
use Rattle.dwarf_readers.specs.Stretch.{Stretch, ◌>>=◌, byte_at, number_at, requirement}
use Rattle.dwarf_readers.specs.Remainder.{Takes, item_at, size_of}
use Rattle.dwarf_readers.proofs.Laws.{address_takes, behind_passes, byte_takes, item_takes, items_shrink, leaves_err, leaves_from, leaves_if, leaves_none, leaves_ok, leaves_then, number_takes, signed_number_takes, signed_takes, unsigned_takes, unsigned_16_takes}
use Rattle.dwarf_frame_rows.specs.EncodedPointer.{Origins, direct_address, origin_of, pointer_at, value_at}
use Rattle.dwarf_frame_instructions.specs.declared.instructions.CallFrameInstruction.{CallFrameInstruction}
use Rattle.dwarf_frame_instructions.specs.declared.instructions.CallFrameInstruction.TheVariants.{SetLoc, AdvanceLoc, DefCfa, DefCfaSf, DefCfaRegister, DefCfaOffset, DefCfaOffsetSf, DefCfaExpression, Undefined, SameValue, Offset, OffsetExtendedSf, ValOffset, ValOffsetSf, Register as InRegister, Expression, ValExpression, Restore, RememberState, RestoreState, ArgsSize, NegateRaState, Nop}
use Rattle.dwarf_frame_instructions.specs.Instructions.{Conventions, Operands, cfa_definition, expression_at, extended_opcodes, instruction_at, instruction_of, instructions_of, listed_at, location_at, location_in, offset_rules, other_rules, register_at, row_creation, vendor_opcodes}
use Rattle.dwarf_frame_instructions.specs.OpcodeTables.{from_cfa_definition, from_offset_rules, from_other_rules, from_row_state}

-- operands leave no more than there was
pub record GoOn (operands : Operands) : Type 0 where
  pub takes : (s : Stretch) → Takes 0 s (operands s)

-- ---- operands

register_takes : (s : Stretch) → Takes 0 s (register_at s)
register_takes s = leaves_then (unsigned_16_takes s) (λ number le. leaves_ok (omega arith))

value_takes : (size format : ℕ) (s : Stretch) → Takes 0 s (value_at size format s)
value_takes size format s =
    leaves_if (format == DW_EH_PE_absptr.0) (leaves_from {m = 0} (address_takes size s) (omega arith))
    (leaves_if (format == DW_EH_PE_uleb128.0) (leaves_from {m = 0} (unsigned_takes s) (omega arith))
    (leaves_if (format == DW_EH_PE_udata2.0) (leaves_from {m = 0} (number_takes 2 s) (omega arith))
    (leaves_if (format == DW_EH_PE_udata4.0) (leaves_from {m = 0} (number_takes 4 s) (omega arith))
    (leaves_if (format == DW_EH_PE_udata8.0) (leaves_from {m = 0} (number_takes 8 s) (omega arith))
    (leaves_if (format == DW_EH_PE_sleb128.0) (leaves_then (signed_takes s) (λ read le. leaves_ok (omega arith)))
    (leaves_if (format == DW_EH_PE_sdata2.0) (leaves_then (signed_number_takes w16 s) (λ read le. leaves_ok (omega arith)))
    (leaves_if (format == DW_EH_PE_sdata4.0) (leaves_then (signed_number_takes w32 s) (λ read le. leaves_ok (omega arith)))
    (leaves_if (format == DW_EH_PE_sdata8.0) (leaves_then (signed_number_takes w64 s) (λ read le. leaves_ok (omega arith)))
    leaves_err))))))))

pointer_takes : (origins : Origins) (encoding : ℕ) (s : Stretch) → Takes 0 s (pointer_at origins encoding s)
pointer_takes origins encoding s =
    leaves_then {n = 0} (leaves_none (origin_of origins encoding s.offset)) (λ base _.
    leaves_then (value_takes origins.address_size (format_of encoding) s) (λ value le. leaves_ok (omega arith)))

location_takes : (encoding : Option ℕ) (origins : Origins) (s : Stretch) → Takes 0 s (location_in encoding origins s)
location_takes (Some encoding) origins s =
    leaves_then {n = 0} (leaves_none (requirement (nat_le origins.section_place s.offset) OffsetOutOfBounds)) (λ here _.
    leaves_then (pointer_takes origins encoding s) (λ pointer le.
    leaves_then {n = 0} (leaves_none (direct_address pointer.0)) (λ address _. leaves_ok (omega arith))))
location_takes None origins s = leaves_from {m = 0} (address_takes origins.address_size s) (omega arith)

expression_takes : (conventions : Conventions) (s : Stretch) → Takes 0 s (expression_at conventions s)
expression_takes conventions s =
    leaves_then (unsigned_takes s) (λ read le.
    leaves_then {n = 0} (count_takes conventions.limit read s (omega arith)) (λ count less.
    leaves_then {n = 0} (leaves_none (offset_below conventions.limit (count.1.offset - conventions.origins.section_place))) (λ offset _.
    leaves_then (leaves_from {m = 0} (behind_passes count.0 count.1) (omega arith)) (λ rest least. leaves_ok least))))
  where
    count_takes : (limit : ℕ) (read : ℕ × Stretch) (s : Stretch) → length read.1.bytes ≤ length s.bytes → Takes 0 s (as_offset limit read)
    count_takes limit read s le = leaves_then {n = 0} (leaves_none (offset_below limit read.0)) (λ offset _. leaves_ok (omega arith))

-- ---- rows of the tables

alone_goes_on : (i : CallFrameInstruction ℕ) → GoOn (alone i)
alone_goes_on i = record { takes = λ s. leaves_ok (omega arith) }

one_goes_on : {A : Type 0} (n : ℕ) (operand : Stretch → Result (A × Stretch) Error) (i : A → CallFrameInstruction ℕ) → ((s : Stretch) → Takes n s (operand s)) → GoOn (one operand i)
one_goes_on n operand i takes = record { takes = λ s. leaves_then (takes s) (λ value le. leaves_ok (omega arith)) }

two_go_on : {A B : Type 0} (n : ℕ) (first : Stretch → Result (A × Stretch) Error) (second : Stretch → Result (B × Stretch) Error) (i : A → B → CallFrameInstruction ℕ)
    → ((s : Stretch) → Takes 0 s (first s)) → ((s : Stretch) → Takes n s (second s)) → GoOn (two first second i)
two_go_on n first second i firsts seconds = record {
  takes = λ s. leaves_then (firsts s) (λ value le. leaves_from {m = 0} ((one_goes_on n second (i value.0) seconds).takes value.1) (omega arith));
}

-- .. of each row
pub data AllGoOn : List (DwCfa × Operands) → Type 0 where
  no_rows : AllGoOn []
  one_more : (code : DwCfa) (operands : Operands) (rows : List (DwCfa × Operands)) → GoOn operands → AllGoOn rows → AllGoOn ((code, operands) ∷ rows)

and_then : {code : DwCfa} {operands : Operands} {rows : List (DwCfa × Operands)} → GoOn operands → AllGoOn rows → AllGoOn ((code, operands) ∷ rows)
and_then {code} {operands} {rows} first others = one_more code operands rows first others

and_all : {rows : List (DwCfa × Operands)} (more : List (DwCfa × Operands)) → AllGoOn rows → AllGoOn more → AllGoOn (rows ++ more)
and_all more no_rows others = others
and_all more (one_more code operands rows first rest) others = one_more code operands (rows ++ more) first (and_all more rest others)

module _ (conventions : Conventions) where
  with_unsigned : (i : ℕ → CallFrameInstruction ℕ) → GoOn (one unsigned_at i)
  with_unsigned i = one_goes_on 1 unsigned_at i unsigned_takes

  location_rows : AllGoOn (row_creation conventions)
  location_rows =
      and_then (one_goes_on 0 (location_at conventions) SetLoc (location_takes conventions.encoding conventions.origins))
      (and_then (one_goes_on 1 byte_at AdvanceLoc byte_takes)
      (and_then (one_goes_on 2 (number_at 2) AdvanceLoc (number_takes 2))
      (and_then (one_goes_on 4 (number_at 4) AdvanceLoc (number_takes 4))
      no_rows)))

  cfa_rows : AllGoOn (cfa_definition conventions)
  cfa_rows =
      and_then (two_go_on 1 register_at unsigned_at DefCfa register_takes unsigned_takes)
      (and_then (two_go_on 1 register_at signed_at DefCfaSf register_takes signed_takes)
      (and_then (one_goes_on 0 register_at DefCfaRegister register_takes)
      (and_then (with_unsigned DefCfaOffset)
      (and_then (one_goes_on 1 signed_at DefCfaOffsetSf signed_takes)
      (and_then (one_goes_on 0 (expression_at conventions) DefCfaExpression (expression_takes conventions))
      no_rows)))))

  offset_rows : AllGoOn offset_rules
  offset_rows =
      and_then (one_goes_on 0 register_at Undefined register_takes)
      (and_then (one_goes_on 0 register_at SameValue register_takes)
      (and_then (two_go_on 1 register_at unsigned_at Offset register_takes unsigned_takes)
      (and_then (two_go_on 1 register_at signed_at OffsetExtendedSf register_takes signed_takes)
      (and_then (two_go_on 1 register_at unsigned_at ValOffset register_takes unsigned_takes)
      (and_then (two_go_on 1 register_at signed_at ValOffsetSf register_takes signed_takes)
      no_rows)))))

  rule_rows : AllGoOn (other_rules conventions)
  rule_rows =
      and_then (two_go_on 0 register_at register_at InRegister register_takes register_takes)
      (and_then (two_go_on 0 register_at (expression_at conventions) Expression register_takes (expression_takes conventions))
      (and_then (two_go_on 0 register_at (expression_at conventions) ValExpression register_takes (expression_takes conventions))
      (and_then (one_goes_on 0 register_at Restore register_takes)
      no_rows)))

  vendor_rows : (v : Vendor) → AllGoOn (vendor_opcodes v)
  vendor_rows vendor.Default = no_rows
  vendor_rows vendor.AArch64 = and_then (alone_goes_on NegateRaState) no_rows

  other_rows : AllGoOn (from_row_state conventions)
  other_rows =
      and_then (alone_goes_on RememberState)
      (and_then (alone_goes_on RestoreState)
      (and_then (alone_goes_on Nop)
      (and_then (with_unsigned ArgsSize)
      (vendor_rows conventions.vendor))))

  all_rows : AllGoOn (extended_opcodes conventions)
  all_rows =
      and_all (from_cfa_definition conventions) location_rows
      (and_all (from_offset_rules conventions) cfa_rows
      (and_all (from_other_rules conventions) offset_rows
      (and_all (from_row_state conventions) rule_rows other_rows)))

  listed_goes_on : (opcode : ℕ) (rows : List (DwCfa × Operands)) → AllGoOn rows → (s : Stretch) → Takes 0 s (listed_at rows opcode s)
  listed_goes_on opcode [] no_rows s = leaves_err
  listed_goes_on opcode ((code, operands) ∷ rows) (one_more _ _ _ first others) s =
      by_case (opcode == code.0)
      (λ is. rw is (first.takes s))
      (λ is. rw is (listed_goes_on opcode rows others s))

  told_takes : (opcode : ℕ) (s : Stretch) → Takes 0 s (instruction_of conventions opcode s)
  told_takes opcode s =
      by_case (opcode - opcode % 2 ^ 6 == DW_CFA_advance_loc.0)
      (λ is. rw is (leaves_ok (omega arith)))
      (λ advance. by_case (opcode - opcode % 2 ^ 6 == DW_CFA_offset.0)
      (λ is. rw (advance, is) ((with_unsigned (Offset (record { 0 = opcode % 2 ^ 6 }))).takes s))
      (λ offset. by_case (opcode - opcode % 2 ^ 6 == DW_CFA_restore.0)
      (λ is. rw (advance, offset, is) (leaves_ok (omega arith)))
      (λ restore. rw (advance, offset, restore) (listed_goes_on opcode (extended_opcodes conventions) all_rows s))))

  -- an instruction takes a byte at least
  instruction_takes : (s : Stretch) → Takes 1 s (instruction_at conventions s)
  instruction_takes s = leaves_then (byte_takes s) (λ opcode le. leaves_from {m = 1} (told_takes opcode.0 opcode.1) (omega arith))

  instructions_shrink : Shrinks size_of (item_at (instruction_at conventions))
  instructions_shrink = items_shrink (item_at (instruction_at conventions)) (λ s. item_takes 1 (instruction_at conventions) s (instruction_takes s))

  -- a call of next, by the step that it takes
  pub next_taken : {X : Type 0} (view : X → CallFrameInstruction ℕ) (result : Result (Option X) Error) (s rest : Stretch) → item_at (instruction_at conventions) s ≡ step_taken view result rest
      → LeavesNone result (item_at (instruction_at conventions) rest) → GivesNext view result (instructions_of conventions s) (instructions_of conventions rest)
  unfolding instructions_of
  next_taken view result s rest is none = gives-next size_of (item_at (instruction_at conventions)) instructions_shrink view result s rest is none

  -- if bytes are left, an item is the instruction there, and else there is none
  pub item_there : (s : Stretch) (read : Result (CallFrameInstruction ℕ × Stretch) Error) → (length s.bytes == 0) ≡ false → instruction_at conventions s ≡ read
      → item_at (instruction_at conventions) s ≡ (read >>= λ item. Ok (Some item))
  item_there s read some is = rw some (ap (λ answer. answer >>= λ item. Ok (Some item)) is)

  pub item_none : (s : Stretch) → (length s.bytes == 0) ≡ true → item_at (instruction_at conventions) s ≡ Ok None
  item_none s none = rw none refl
