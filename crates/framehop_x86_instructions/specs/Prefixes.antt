-- The prefixes before an opcode.
--
-- Intel 64 and IA-32 Architectures Software Developer's Manual, volume 2, 2.1.1 (instruction prefixes), 2.2.1 (REX prefixes).
use Rattle.std.specs.List.{list_any}
use Rattle.std.specs.Prelude.{ℕ, suc, ◌-◌, ◌/◌, ◌==◌, ◌||◌, Bool, if◌then◌else◌, List, [], ◌∷◌, take, slice_index, fold, Option, Some, None}
use Rattle.framehop_x86_instructions.specs.declared.prefixes.Prefixes.{Prefixes}
use Rattle.framehop_x86_instructions.specs.declared.prefixes.Repeat.{Repeat}
use Rattle.framehop_x86_instructions.specs.declared.prefixes.Repeat.TheVariants.{F2, F3}

-- Group 1: LOCK, REPNE, REP. Group 2: the segments CS, SS, DS, ES, FS, GS. Group 3: the operand size. Group 4: the address size.
abbrev pub is_legacy_prefix : ℕ → Bool
is_legacy_prefix byte =
    (byte == 0xf0) || (byte == 0xf2) || (byte == 0xf3)
    || (byte == 0x2e) || (byte == 0x36) || (byte == 0x3e) || (byte == 0x26) || (byte == 0x64) || (byte == 0x65)
    || (byte == 0x66) || (byte == 0x67)

-- 40 to 4F, in 64-bit mode.
abbrev pub is_rex : ℕ → Bool
is_rex byte = byte / 16 == 4

abbrev pub is_prefix : ℕ → Bool
is_prefix byte = is_rex byte || is_legacy_prefix byte

-- How many bytes are prefixes, from the first on.
abbrev pub prefix_count : List ℕ → ℕ
prefix_count [] = 0
prefix_count (byte ∷ more) = if is_prefix byte then suc (prefix_count more) else 0

-- Whether a byte is among some.
abbrev pub has_byte : ℕ → List ℕ → Bool
has_byte wanted bytes = list_any (λ byte. byte == wanted) bytes

-- The last of F2 and F3 is the one that counts.
abbrev pub later_repeat : Option Repeat → ℕ → Option Repeat
later_repeat last byte = if byte == 0xf2 then Some F2 else if byte == 0xf3 then Some F3 else last

abbrev pub last_repeat : List ℕ → Option Repeat
last_repeat bytes = fold later_repeat None bytes

-- A REX prefix counts only right before the opcode: it is the last of so many prefixes, and else 0.
abbrev pub last_rex : List ℕ → ℕ → ℕ
last_rex code count =
    let last = slice_index code (count - 1) in
    if count == 0 then 0 else if is_rex last then last else 0

-- The prefixes that code begins with.
abbrev pub prefixes_among : List ℕ → ℕ → List ℕ → Prefixes
prefixes_among code count bytes = record {
  count = count;
  operand_size = has_byte 0x66 bytes;
  address_size = has_byte 0x67 bytes;
  segment = has_byte 0x64 bytes || has_byte 0x65 bytes;
  lock = has_byte 0xf0 bytes;
  repeat = last_repeat bytes;
  rex = last_rex code count;
}

abbrev pub prefixes_of : List ℕ → Prefixes
prefixes_of code = prefixes_among code (prefix_count code) (take (prefix_count code) code)
