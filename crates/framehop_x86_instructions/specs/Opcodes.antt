-- An opcode with its escapes, or with the VEX or EVEX prefix in which they are.
--
-- Intel SDM, volume 2, 2.1.2 (opcodes), 2.2.1.2 (REX prefix fields), 2.3.5 (the VEX prefix), 2.7.1 (instruction format and EVEX);
-- AMD64 Architecture Programmer's Manual, volume 3, 1.2.7 (the XOP prefix).
use Rattle.std.specs.Prelude.{ℕ, ◌+◌, ◌-◌, ◌/◌, ◌%◌, ◌==◌, Bool, false, not, nat_le, if◌then◌else◌, List, slice_index, Option, Some, None}
use Rattle.framehop_x86_instructions.specs.Bits.{bit}
use Rattle.framehop_x86_instructions.specs.declared.opcode.Encoding.{Encoding}
use Rattle.framehop_x86_instructions.specs.declared.opcode.Encoding.TheVariants.{Legacy, Vex, Evex, Xop}
use Rattle.framehop_x86_instructions.specs.declared.opcode.Map.{Map}
use Rattle.framehop_x86_instructions.specs.declared.opcode.Map.TheVariants.{OneByte, TwoByte, ThreeByte38, ThreeByte3A, Map5, Map6, Other}
use Rattle.framehop_x86_instructions.specs.declared.opcode.Extension.{Extension}
use Rattle.framehop_x86_instructions.specs.declared.opcode.Opcode.{Opcode}
use Rattle.framehop_x86_instructions.specs.declared.prefixes.Prefixes.{Prefixes}
use Rattle.framehop_x86_instructions.specs.declared.prefixes.Repeat.{Repeat}
use Rattle.framehop_x86_instructions.specs.declared.prefixes.Repeat.TheVariants.{F2, F3}

-- REX is 0100WRXB.
abbrev pub extension_of_rex : ℕ → Extension
extension_of_rex rex = record { w = bit rex 3; r = bit rex 2; x = bit rex 1; b = bit rex 0 }

-- In VEX of three bytes and in EVEX, R, X and B are bits 7, 6 and 5 of the first byte after C4 or 62, inverted, and W is bit 7 of the
-- second.
abbrev pub extension_of_vex : ℕ → ℕ → Extension
extension_of_vex first second = record { w = bit second 7; r = not (bit first 7); x = not (bit first 6); b = not (bit first 5) }

-- The maps by their numbers in VEX (mmmmm) and EVEX (mmm).
abbrev pub map_numbered : ℕ → Map
map_numbered number =
    if number == 1 then TwoByte else
    if number == 2 then ThreeByte38 else
    if number == 3 then ThreeByte3A else
    if number == 5 then Map5 else
    if number == 6 then Map6 else Other

-- vvvv is in bits 3 to 6, inverted, and pp in bits 0 and 1: 2 stands for F3, 3 for F2.
abbrev pub vvvv_of : ℕ → ℕ
vvvv_of byte = 15 - byte / 8 % 16

abbrev pub repeat_of : ℕ → Option Repeat
repeat_of byte = if byte % 4 == 2 then Some F3 else if byte % 4 == 3 then Some F2 else None

-- An opcode after prefixes alone.
abbrev pub legacy : Encoding → Map → ℕ → ℕ → Prefixes → Opcode
legacy encoding map byte size prefixes = record {
  encoding = encoding;
  map = map;
  byte = byte;
  size = size;
  extension = extension_of_rex prefixes.rex;
  vvvv = 0;
  repeat = prefixes.repeat;
}

abbrev pub one_byte : Encoding → Prefixes → ℕ → Opcode
one_byte encoding prefixes byte = legacy encoding OneByte byte 1 prefixes

-- After 0F: the escapes 0F 38 and 0F 3A lead to maps of their own.
abbrev pub escaped_by : Prefixes → ℕ → ℕ → Opcode
escaped_by prefixes second third =
    if second == 0x38 then legacy Legacy ThreeByte38 third 3 prefixes else
    if second == 0x3a then legacy Legacy ThreeByte3A third 3 prefixes else
    legacy Legacy TwoByte second 2 prefixes

abbrev pub escaped : Prefixes → List ℕ → ℕ → Opcode
escaped prefixes code at = escaped_by prefixes (slice_index code (at + 1)) (slice_index code (at + 2))

-- VEX of two bytes, C5 and R, vvvv, L, pp: the map is that of 0F.
abbrev pub vex_of_two_bytes : List ℕ → ℕ → Opcode
vex_of_two_bytes code at = record {
  encoding = Vex;
  map = TwoByte;
  byte = slice_index code (at + 2);
  size = 3;
  extension = record { w = false; r = not (bit (slice_index code (at + 1)) 7); x = false; b = false };
  vvvv = vvvv_of (slice_index code (at + 1));
  repeat = repeat_of (slice_index code (at + 1));
}

-- VEX of three bytes, C4 and R, X, B, mmmmm and W, vvvv, L, pp.
abbrev pub vex_of_three_bytes : List ℕ → ℕ → Opcode
vex_of_three_bytes code at = record {
  encoding = Vex;
  map = map_numbered (slice_index code (at + 1) % 32);
  byte = slice_index code (at + 3);
  size = 4;
  extension = extension_of_vex (slice_index code (at + 1)) (slice_index code (at + 2));
  vvvv = vvvv_of (slice_index code (at + 2));
  repeat = repeat_of (slice_index code (at + 2));
}

-- EVEX, 62 and three bytes: R, X, B, R', 0, mmm; W, vvvv, 1, pp; z, L'L, b, V', aaa.
abbrev pub evex : List ℕ → ℕ → Opcode
evex code at = record {
  encoding = Evex;
  map = map_numbered (slice_index code (at + 1) % 16);
  byte = slice_index code (at + 4);
  size = 5;
  extension = extension_of_vex (slice_index code (at + 1)) (slice_index code (at + 2));
  vvvv = vvvv_of (slice_index code (at + 2));
  repeat = repeat_of (slice_index code (at + 2));
}

-- XOP is 8F if the map's number, in the five lowest bits behind it, is 8 or more: POP has 0 there.
abbrev pub is_xop : List ℕ → ℕ → Bool
is_xop code at = nat_le 8 (slice_index code (at + 1) % 32)

-- The opcode at a place by its first byte, where bytes that are missing are 0.
abbrev pub opcode_by : Prefixes → List ℕ → ℕ → ℕ → Opcode
opcode_by prefixes code at first =
    if first == 0x0f then escaped prefixes code at else
    if first == 0xc5 then vex_of_two_bytes code at else
    if first == 0xc4 then vex_of_three_bytes code at else
    if first == 0x62 then evex code at else
    if first == 0x8f then (if is_xop code at then one_byte Xop prefixes first else one_byte Legacy prefixes first) else
    one_byte Legacy prefixes first

abbrev pub opcode_of : Prefixes → List ℕ → Opcode
opcode_of prefixes code = opcode_by prefixes code prefixes.count (slice_index code prefixes.count)
