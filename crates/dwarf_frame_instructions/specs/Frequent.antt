-- The instructions that most programs have most of, which are tried before all others.
use Rattle.std.specs.Prelude.{ℕ, ◌-◌, ◌%◌, ◌^◌, List, [], ◌∷◌, Bool, true, false, ◌&&◌, Option, Some, None, Result, Ok, Err, nat_lt}
use Rattle.dwarf_constants.specs.declared.constants.DwCfa.{DwCfa}
use Rattle.dwarf_constants.specs.declared.constants.TheConstants.{DW_CFA_advance_loc, DW_CFA_offset, DW_CFA_restore, DW_CFA_nop, DW_CFA_advance_loc1, DW_CFA_remember_state, DW_CFA_restore_state, DW_CFA_def_cfa, DW_CFA_def_cfa_register, DW_CFA_def_cfa_offset}
use Rattle.dwarf_constants.specs.declared.error.Error.{Error}
use Rattle.dwarf_readers.specs.Operands.{look_up}
use Rattle.dwarf_readers.specs.Stretch.{Stretch, byte_at}
use Rattle.dwarf_frame_instructions.specs.Instructions.{opcode_number}

-- what the operands at the start of a stretch have to be
abbrev pub Test : Type 0
Test = Stretch → Bool

-- anything
abbrev pub no_operand : Test
no_operand s = true

-- a first byte, if there is one, which is so, and what is left after it is so
abbrev pub byte_and_rest : (ℕ → Bool) → Test → Result (ℕ × Stretch) Error → Bool
byte_and_rest test rest (Ok read) = test read.0 && rest read.1
byte_and_rest test rest (Err e) = false

-- a byte
abbrev pub one_byte : Test
one_byte s = byte_and_rest (λ byte. true) no_operand (byte_at s)

-- a number of variable length in one byte: the high bit says that another follows (7.6)
abbrev pub one_short : Test
one_short s = byte_and_rest (λ byte. nat_lt byte 128) no_operand (byte_at s)

-- two such numbers
abbrev pub two_short : Test
two_short s = byte_and_rest (λ byte. nat_lt byte 128) one_short (byte_at s)

-- the frequent opcodes in the high two bits (table 7.29)
abbrev pub frequent_primary : List (DwCfa × Test)
frequent_primary =
    (DW_CFA_advance_loc, no_operand)
    ∷ (DW_CFA_offset, one_short)
    ∷ (DW_CFA_restore, no_operand)
    ∷ []

-- .. and in all eight
abbrev pub frequent_extended : List (DwCfa × Test)
frequent_extended =
    (DW_CFA_advance_loc1, one_byte)
    ∷ (DW_CFA_def_cfa, two_short)
    ∷ (DW_CFA_def_cfa_register, one_short)
    ∷ (DW_CFA_def_cfa_offset, one_short)
    ∷ (DW_CFA_remember_state, no_operand)
    ∷ (DW_CFA_restore_state, no_operand)
    ∷ (DW_CFA_nop, no_operand)
    ∷ []

-- the operands are as a table has them for an opcode
abbrev pub meets : Option Test → Test
meets (Some test) s = test s
meets None s = false

-- .. in all eight bits
abbrev pub is_frequent_extended : (opcode : ℕ) → Test
is_frequent_extended opcode s = meets (look_up opcode_number opcode frequent_extended) s

-- .. in the high two bits, if it is frequent there, or else in all eight
abbrev pub is_frequent_by : (opcode : ℕ) → Option Test → Test
is_frequent_by opcode (Some test) s = test s
is_frequent_by opcode None s = is_frequent_extended opcode s

-- an opcode is frequent with the operands after it
abbrev pub is_frequent_of : (opcode : ℕ) → Test
is_frequent_of opcode s = is_frequent_by opcode (look_up opcode_number (opcode - opcode % 2 ^ 6) frequent_primary) s

-- .. the one that was read, with what is left
abbrev pub is_frequent_read : Result (ℕ × Stretch) Error → Bool
is_frequent_read (Ok opcode) = is_frequent_of opcode.0 opcode.1
is_frequent_read (Err e) = false

-- a stretch begins with a frequent instruction
abbrev pub is_frequent_at : Stretch → Bool
is_frequent_at s = is_frequent_read (byte_at s)
