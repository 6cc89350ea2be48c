-- Words that do nothing but compute, load, store and write registers, and which of the stack pointer, x29 and x30 they may write, by
-- the encoding groups of A64. A group that isn't here, as SVE and SME, has no such word.
--
-- Arm Architecture Reference Manual for A-profile architecture, C4.1 (A64 instruction set encoding).
use Rattle.std.specs.Prelude.{ℕ, ◌==◌, ◌&&◌, not, Bool, if◌then◌else◌, Option, Some, None}
use Rattle.framehop_ways.specs.Words.{bits}
use Rattle.framehop_ways.specs.Lost.{nothing_lost, lost_by, lost_by_or_sp, both_lost}
use Rattle.framehop_ways.specs.declared.instruction.Lost.{Lost}

-- Rd or Rt is written, with 31 for the zero register.
abbrev pub lost_by_rd : ℕ → Lost
lost_by_rd word = lost_by (bits word 0 5)

-- Rd is written, with 31 for the stack pointer.
abbrev pub lost_by_rd_or_sp : ℕ → Lost
lost_by_rd_or_sp word = lost_by_or_sp (bits word 0 5)

-- Rn is written: a base register with write-back.
abbrev pub lost_by_base : ℕ → Lost
lost_by_base word = lost_by_or_sp (bits word 5 5)

-- What is written if the test holds.
abbrev pub lost_if : Bool → Lost → Lost
lost_if test lost = if test then lost else nothing_lost

-- Data processing with an immediate: Rd is the stack pointer for 31 in additions and subtractions that don't set flags, with tags too,
-- and in logical operations but ANDS.
abbrev pub immediate_writes_sp : ℕ → Bool
immediate_writes_sp word =
    if bits word 24 5 == 17 then bits word 29 1 == 0 else
    (bits word 23 6 == 36) && not (bits word 29 2 == 3)

abbrev pub lost_by_immediate : ℕ → Lost
lost_by_immediate word = if immediate_writes_sp word then lost_by_rd_or_sp word else lost_by_rd word

-- Data processing of registers: Rd is the stack pointer for 31 in additions and subtractions of an extended register that don't set
-- flags.
abbrev pub register_writes_sp : ℕ → Bool
register_writes_sp word = (bits word 24 5 == 11) && (bits word 21 1 == 1) && (bits word 29 1 == 0)

abbrev pub lost_by_register : ℕ → Lost
lost_by_register word = if register_writes_sp word then lost_by_rd_or_sp word else lost_by_rd word

-- System instructions and moves of system registers, hints and barriers, which write Rt if bit 21, L, is set; and SVC.
abbrev pub lost_by_system : ℕ → Option Lost
lost_by_system word =
    if bits word 22 10 == 0x354 then Some (lost_if (bits word 21 1 == 1) (lost_by_rd word)) else
    if (bits word 21 11 == 0x6a0) && (bits word 0 5 == 1) then Some nothing_lost else None

-- Loads and stores, bits 28 and 29 clear: those of vector structures, with write-back if bit 23 is set; exclusive and ordered ones and
-- compare and swap, which write no other registers than Rs, Rt and Rt2, but for CASP, which has none here.
abbrev pub is_compare_and_swap_pair : ℕ → Bool
is_compare_and_swap_pair word = (bits word 31 1 == 0) && (bits word 23 1 == 0) && (bits word 21 1 == 1)

abbrev pub lost_by_exclusive : ℕ → Option Lost
lost_by_exclusive word =
    if bits word 24 1 == 1 then None else
    if is_compare_and_swap_pair word then None else
    Some (both_lost (lost_by (bits word 16 5)) (both_lost (lost_by_rd word) (lost_by (bits word 10 5))))

abbrev pub lost_by_structure : ℕ → Option Lost
lost_by_structure word =
    if bits word 31 1 == 1 then None else
    Some (lost_if (bits word 23 1 == 1) (lost_by_base word))

abbrev pub lost_by_first_accesses : ℕ → Option Lost
lost_by_first_accesses word = if bits word 26 1 == 0 then lost_by_exclusive word else lost_by_structure word

-- Bits 28 and 29 are 1 and 0: loads relative to the instruction.
abbrev pub lost_by_literal : ℕ → Option Lost
lost_by_literal word = if bits word 24 1 == 1 then None else Some (lost_if (bits word 26 1 == 0) (lost_by_rd word))

-- Bits 28 and 29 are 0 and 1: pairs. A load of general registers writes Rt and Rt2.
abbrev pub loads_general_pair : ℕ → Bool
loads_general_pair word = (bits word 26 1 == 0) && (bits word 22 1 == 1)

abbrev pub lost_by_pair : ℕ → Lost
lost_by_pair word =
    both_lost (lost_if (loads_general_pair word) (both_lost (lost_by_rd word) (lost_by (bits word 10 5))))
    (lost_if (bits word 23 1 == 1) (lost_by_base word))

-- Bits 28 and 29 set: one register. Atomic operations, but for those of 64 bytes, write Rt.
abbrev pub lost_by_atomic : ℕ → Option Lost
lost_by_atomic word =
    if (bits word 15 1 == 1) && not (bits word 12 2 == 0) then None else Some (lost_if (bits word 26 1 == 0) (lost_by_rd word))

-- Loads at an authenticated address write Rt, and Rn if bit 11, W, is set.
abbrev pub lost_by_authenticated : ℕ → Lost
lost_by_authenticated word = both_lost (lost_by_rd word) (lost_if (bits word 11 1 == 1) (lost_by_base word))

-- The other ones write Rt if they load a general register, and Rn if they are indexed before or after.
abbrev pub loads_general_register : ℕ → Bool
loads_general_register word = (bits word 26 1 == 0) && not (bits word 22 2 == 0)

abbrev pub is_indexed : ℕ → Bool
is_indexed word = (bits word 24 1 == 0) && (bits word 21 1 == 0) && (bits word 10 1 == 1)

abbrev pub lost_by_one : ℕ → Lost
lost_by_one word = both_lost (lost_if (loads_general_register word) (lost_by_rd word)) (lost_if (is_indexed word) (lost_by_base word))

-- Bits 24 clear and 21 set.
abbrev pub is_of_other_form : ℕ → Bool
is_of_other_form word = (bits word 24 1 == 0) && (bits word 21 1 == 1)

abbrev pub lost_by_last_accesses : ℕ → Option Lost
lost_by_last_accesses word =
    if is_of_other_form word && (bits word 10 2 == 0) then lost_by_atomic word else
    if is_of_other_form word && (bits word 10 1 == 1) then Some (lost_by_authenticated word) else Some (lost_by_one word)

-- Loads and stores, by bits 28 and 29.
abbrev pub lost_by_access : ℕ → Option Lost
lost_by_access word =
    if bits word 28 2 == 0 then lost_by_first_accesses word else
    if bits word 28 2 == 1 then lost_by_literal word else
    if bits word 28 2 == 2 then Some (lost_by_pair word) else lost_by_last_accesses word

-- The top level: bits 25 to 28 are 100x for data processing with an immediate, 101x for branches and system instructions, x101 for data
-- processing of registers, x111 for vectors and floating-point numbers, of which conversions write Rd, and x1x0 for loads and stores.
abbrev pub lost_by_plain : ℕ → Option Lost
lost_by_plain word =
    if bits word 26 3 == 4 then Some (lost_by_immediate word) else
    if bits word 26 3 == 5 then lost_by_system word else
    if bits word 25 3 == 5 then Some (lost_by_register word) else
    if bits word 25 3 == 7 then Some (lost_by_rd word) else
    if (bits word 27 1 == 1) && (bits word 25 1 == 0) then lost_by_access word else None
