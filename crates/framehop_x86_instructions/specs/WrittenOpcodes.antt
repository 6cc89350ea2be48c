-- Which general registers an opcode may write, in all maps.
--
-- Intel SDM, volume 2, chapters 3 to 6 (the pages of the instructions).
use Rattle.std.specs.Prelude.{ℕ, ◌==◌, ◌||◌, if◌then◌else◌, [], ◌∷◌}
use Rattle.framehop_x86_instructions.specs.OpcodeMaps.{within}
use Rattle.framehop_x86_instructions.specs.WrittenMaps.{nothing, these, rcx, one_byte_written, two_byte_written}
use Rattle.framehop_x86_instructions.specs.declared.opcode.Encoding.{Encoding}
use Rattle.framehop_x86_instructions.specs.declared.opcode.Encoding.TheVariants.{Legacy}
use Rattle.framehop_x86_instructions.specs.declared.opcode.Map.{Map}
use Rattle.framehop_x86_instructions.specs.declared.opcode.Map.TheVariants.{OneByte, TwoByte, ThreeByte38, ThreeByte3A, Map5, Map6}
use Rattle.framehop_x86_instructions.specs.declared.writes.Writes.{Writes}
use Rattle.framehop_x86_instructions.specs.declared.writes.Writes.TheVariants.{Unknown, Reg, Rm, RmUnlessF3, Vvvv, RegAndVvvv}

-- After 0F 38. Without VEX: MOVBE, CRC32, ADCX, ADOX, ENCODEKEY. With it: ANDN, BZHI, PDEP, PEXT, BEXTR and shifts, CMPccXADD; group 17, which
-- writes vvvv; MULX, which writes two.
abbrev pub written_of_38 : Encoding → ℕ → Writes
written_of_38 Legacy opcode = if within 0xf0 0xf1 opcode || (opcode == 0xf6) || within 0xfa 0xfb opcode then Reg else nothing
written_of_38 _ opcode =
    if within 0xe0 0xef opcode || (opcode == 0xf2) || (opcode == 0xf5) || (opcode == 0xf7) then Reg else
    if opcode == 0xf3 then Vvvv else
    if opcode == 0xf6 then RegAndVvvv else nothing

-- RORX.
abbrev pub rorx : Encoding → ℕ → Writes
rorx Legacy opcode = nothing
rorx _ opcode = if opcode == 0xf0 then Reg else nothing

-- After 0F 3A: PEXTR and EXTRACTPS; PCMPESTRI and PCMPISTRI; RORX, with a VEX prefix.
abbrev pub written_of_3a : Encoding → ℕ → Writes
written_of_3a encoding opcode =
    if within 0x14 0x17 opcode then Rm else
    if within 0x60 0x63 opcode then these (rcx ∷ []) else
    rorx encoding opcode

-- After VEX or EVEX in the map of 0F: conversions to integers, MOVMSK, KMOV, PEXTRW; MOVD and MOVQ.
abbrev pub written_of_vector : ℕ → Writes
written_of_vector opcode =
    if within 0x2c 0x2d opcode || (opcode == 0x50) || within 0x78 0x79 opcode then Reg else
    if (opcode == 0x93) || (opcode == 0xc5) || (opcode == 0xd7) then Reg else
    if opcode == 0x7e then RmUnlessF3 else nothing

-- In map 5: conversions to integers; MOVW.
abbrev pub written_of_map_5 : ℕ → Writes
written_of_map_5 opcode =
    if within 0x2c 0x2d opcode || within 0x6c 0x6d opcode || within 0x78 0x79 opcode then Reg else
    if opcode == 0x7e then Rm else nothing

abbrev pub writes_of : Encoding → Map → ℕ → Writes
writes_of Legacy OneByte opcode = one_byte_written opcode
writes_of Legacy TwoByte opcode = two_byte_written opcode
writes_of _ TwoByte opcode = written_of_vector opcode
writes_of encoding ThreeByte38 opcode = written_of_38 encoding opcode
writes_of encoding ThreeByte3A opcode = written_of_3a encoding opcode
writes_of _ Map5 opcode = written_of_map_5 opcode
writes_of _ Map6 opcode = nothing
writes_of _ _ opcode = Unknown
