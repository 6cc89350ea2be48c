-- No instruction, and no effect of one, says that memory ran out.
use Rattle.std.proofs.Common.{ℕ, ◌-◌, ◌%◌, ◌^◌, List, [], ◌∷◌, ◌++◌, Option, Some, None}
use Rattle.std.specs.Prelude.{◌==◌}
use Rattle.list_laws.proofs.Laws.{by_case}
use Rattle.dwarf_constants.specs.declared.common.Vendor.{Vendor}
use Rattle.dwarf_constants.specs.declared.common.Vendor.TheVariants as vendor
use Rattle.dwarf_constants.specs.declared.constants.DwCfa.{DwCfa}
use Rattle.dwarf_constants.specs.declared.constants.TheConstants.{DW_CFA_advance_loc, DW_CFA_offset, DW_CFA_restore}
use Rattle.dwarf_readers.specs.Memory.{NeverWantsMemory}
use Rattle.dwarf_readers.specs.Operands.{Parse, alone, one, two}
use Rattle.dwarf_readers.specs.Stretch.{Stretch, byte_at, number_at}
use Rattle.dwarf_readers.specs.Leb128.{signed_at, unsigned_at}
use Rattle.dwarf_readers.proofs.Laws.{address_memory, as_offset_memory, behind_memory, byte_memory, memory_err, memory_if, memory_ok, memory_test, memory_then, number_memory, offset_memory, signed_memory, unsigned_16_memory, unsigned_memory}
use Rattle.dwarf_frame_rows.specs.EncodedPointer.{Origins}
use Rattle.dwarf_frame_rows.proofs.Laws.{direct_memory, pointer_memory}
use Rattle.dwarf_frame_instructions.specs.declared.effects.Factors.{Factors}
use Rattle.dwarf_frame_instructions.specs.declared.instructions.CallFrameInstruction.{CallFrameInstruction}
use Rattle.dwarf_frame_instructions.specs.declared.instructions.CallFrameInstruction.TheVariants.{SetLoc, AdvanceLoc, DefCfa, DefCfaSf, DefCfaRegister, DefCfaOffset, DefCfaOffsetSf, DefCfaExpression, Undefined, SameValue, Offset, OffsetExtendedSf, ValOffset, ValOffsetSf, Register as InRegister, Expression, ValExpression, Restore, RememberState, RestoreState, ArgsSize, NegateRaState, Nop}
use Rattle.dwarf_frame_instructions.specs.Effects.{effect_of}
use Rattle.dwarf_frame_instructions.specs.Instructions.{Conventions, Operands, cfa_definition, expression_at, extended_opcodes, instruction_at, instruction_of, listed_at, location_at, location_in, offset_rules, other_rules, register_at, row_creation, vendor_opcodes}
use Rattle.dwarf_frame_instructions.specs.OpcodeTables.{from_cfa_definition, from_offset_rules, from_other_rules, from_row_state}

-- ---- operands

-- operands never say so
record NeverWantMemory {A : Type 0} (operands : Parse A) : Type 0 where
  reads : (s : Stretch) → NeverWantsMemory (operands s)

register_memory : (s : Stretch) → NeverWantsMemory (register_at s)
register_memory s = memory_then (unsigned_16_memory s) (λ number. memory_ok)

location_memory : (encoding : Option ℕ) (origins : Origins) (s : Stretch) → NeverWantsMemory (location_in encoding origins s)
location_memory (Some encoding) origins s =
    memory_then (memory_test _ _ (λ h. cc)) (λ _.
    memory_then (pointer_memory origins encoding s) (λ pointer.
    memory_then (direct_memory pointer.0) (λ address. memory_ok)))
location_memory None origins s = address_memory origins.address_size s

expression_memory : (conventions : Conventions) (s : Stretch) → NeverWantsMemory (expression_at conventions s)
expression_memory conventions s =
    memory_then (unsigned_memory s) (λ read.
    memory_then (as_offset_memory conventions.limit read) (λ count.
    memory_then (offset_memory conventions.limit (count.1.offset - conventions.origins.section_place)) (λ offset.
    memory_then (behind_memory count.0 count.1) (λ rest. memory_ok))))

alone_reads : (i : CallFrameInstruction ℕ) → NeverWantMemory (alone i)
alone_reads i = record { reads = λ s. memory_ok }

one_reads : {A : Type 0} (operand : Parse A) (i : A → CallFrameInstruction ℕ) → ((s : Stretch) → NeverWantsMemory (operand s)) → NeverWantMemory (one operand i)
one_reads operand i h = record { reads = λ s. memory_then (h s) (λ value. memory_ok) }

two_read : {A B : Type 0} (first : Parse A) (second : Parse B) (i : A → B → CallFrameInstruction ℕ) → ((s : Stretch) → NeverWantsMemory (first s)) → ((s : Stretch) → NeverWantsMemory (second s))
    → NeverWantMemory (two first second i)
two_read first second i h k = record { reads = λ s. memory_then (h s) (λ value. (one_reads second (i value.0) k).reads value.1) }

-- .. those of each row
data AllNeverWantMemory : List (DwCfa × Operands) → Type 0 where
  no_rows : AllNeverWantMemory []
  one_more : (code : DwCfa) (operands : Operands) (rows : List (DwCfa × Operands)) → NeverWantMemory operands → AllNeverWantMemory rows → AllNeverWantMemory ((code, operands) ∷ rows)

and_then : {code : DwCfa} {operands : Operands} {rows : List (DwCfa × Operands)} → NeverWantMemory operands → AllNeverWantMemory rows → AllNeverWantMemory ((code, operands) ∷ rows)
and_then {code} {operands} {rows} first others = one_more code operands rows first others

and_all : {rows : List (DwCfa × Operands)} (more : List (DwCfa × Operands)) → AllNeverWantMemory rows → AllNeverWantMemory more → AllNeverWantMemory (rows ++ more)
and_all more no_rows others = others
and_all more (one_more code operands rows first rest) others = one_more code operands (rows ++ more) first (and_all more rest others)

module _ (conventions : Conventions) where
  location_rows : AllNeverWantMemory (row_creation conventions)
  location_rows =
      and_then (one_reads (location_at conventions) SetLoc (location_memory conventions.encoding conventions.origins))
      (and_then (one_reads byte_at AdvanceLoc byte_memory)
      (and_then (one_reads (number_at 2) AdvanceLoc (number_memory 2))
      (and_then (one_reads (number_at 4) AdvanceLoc (number_memory 4))
      no_rows)))

  cfa_rows : AllNeverWantMemory (cfa_definition conventions)
  cfa_rows =
      and_then (two_read register_at unsigned_at DefCfa register_memory unsigned_memory)
      (and_then (two_read register_at signed_at DefCfaSf register_memory signed_memory)
      (and_then (one_reads register_at DefCfaRegister register_memory)
      (and_then (one_reads unsigned_at DefCfaOffset unsigned_memory)
      (and_then (one_reads signed_at DefCfaOffsetSf signed_memory)
      (and_then (one_reads (expression_at conventions) DefCfaExpression (expression_memory conventions))
      no_rows)))))

  offset_rows : AllNeverWantMemory offset_rules
  offset_rows =
      and_then (one_reads register_at Undefined register_memory)
      (and_then (one_reads register_at SameValue register_memory)
      (and_then (two_read register_at unsigned_at Offset register_memory unsigned_memory)
      (and_then (two_read register_at signed_at OffsetExtendedSf register_memory signed_memory)
      (and_then (two_read register_at unsigned_at ValOffset register_memory unsigned_memory)
      (and_then (two_read register_at signed_at ValOffsetSf register_memory signed_memory)
      no_rows)))))

  rule_rows : AllNeverWantMemory (other_rules conventions)
  rule_rows =
      and_then (two_read register_at register_at InRegister register_memory register_memory)
      (and_then (two_read register_at (expression_at conventions) Expression register_memory (expression_memory conventions))
      (and_then (two_read register_at (expression_at conventions) ValExpression register_memory (expression_memory conventions))
      (and_then (one_reads register_at Restore register_memory)
      no_rows)))

  vendor_rows : (v : Vendor) → AllNeverWantMemory (vendor_opcodes v)
  vendor_rows vendor.Default = no_rows
  vendor_rows vendor.AArch64 = and_then (alone_reads NegateRaState) no_rows

  other_rows : AllNeverWantMemory (from_row_state conventions)
  other_rows =
      and_then (alone_reads RememberState)
      (and_then (alone_reads RestoreState)
      (and_then (alone_reads Nop)
      (and_then (one_reads unsigned_at ArgsSize unsigned_memory)
      (vendor_rows conventions.vendor))))

  all_rows : AllNeverWantMemory (extended_opcodes conventions)
  all_rows =
      and_all (from_cfa_definition conventions) location_rows
      (and_all (from_offset_rules conventions) cfa_rows
      (and_all (from_other_rules conventions) offset_rows
      (and_all (from_row_state conventions) rule_rows other_rows)))

  listed_read : (opcode : ℕ) (rows : List (DwCfa × Operands)) → AllNeverWantMemory rows → (s : Stretch) → NeverWantsMemory (listed_at rows opcode s)
  listed_read opcode [] no_rows s = memory_err (λ h. cc)
  listed_read opcode ((code, operands) ∷ rows) (one_more _ _ _ first others) s =
      by_case (opcode == code.0)
      (λ is. rw is (first.reads s))
      (λ is. rw is (listed_read opcode rows others s))

  told_read : (opcode : ℕ) (s : Stretch) → NeverWantsMemory (instruction_of conventions opcode s)
  told_read opcode s =
      by_case (opcode - opcode % 2 ^ 6 == DW_CFA_advance_loc.0)
      (λ is. rw is memory_ok)
      (λ advance. by_case (opcode - opcode % 2 ^ 6 == DW_CFA_offset.0)
      (λ is. rw (advance, is) ((one_reads unsigned_at (Offset (record { 0 = opcode % 2 ^ 6 })) unsigned_memory).reads s))
      (λ offset. by_case (opcode - opcode % 2 ^ 6 == DW_CFA_restore.0)
      (λ is. rw (advance, offset, is) memory_ok)
      (λ restore. rw (advance, offset, restore) (listed_read opcode (extended_opcodes conventions) all_rows s))))

  pub instruction_read : (s : Stretch) → NeverWantsMemory (instruction_at conventions s)
  instruction_read s = memory_then (byte_memory s) (λ opcode. told_read opcode.0 opcode.1)

-- ---- effects

pub effect_found : {T : Type 0} (factors : Factors) (location : ℕ) (i : CallFrameInstruction T) → NeverWantsMemory (effect_of factors location i)
effect_found factors location (SetLoc address) = memory_if _ (memory_err (λ h. cc)) memory_ok
effect_found factors location (AdvanceLoc delta) = memory_if _ memory_ok (memory_err (λ h. cc))
effect_found factors location i = record { never = λ h. cc }
