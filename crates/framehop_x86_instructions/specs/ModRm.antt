-- The ModRM and SIB bytes, and the displacement behind them.
--
-- Intel SDM, volume 2, 2.1.3, 2.1.5 (tables 2-2 and 2-3), 2.2.1.6 (RIP-relative addressing).
use Rattle.std.specs.Prelude.{ℕ, ◌<◌, ◌+◌, ◌/◌, ◌%◌, ◌==◌, ◌&&◌, not, Bool, if◌then◌else◌, List, slice_index}
use Rattle.framehop_x86_instructions.specs.declared.modrm.ModRm.{ModRm}

abbrev pub modrm_of : ℕ → ModRm
modrm_of byte = record { mode = byte / 64; reg = byte / 8 % 8; rm = byte % 8 }

-- reg and rm have three bits.
abbrev pub AreFields : ModRm → Type 0
AreFields modrm = (modrm.reg < 8) × (modrm.rm < 8)

-- A SIB byte follows where rm is 4, unless the operand is a register.
abbrev pub has_sib : ModRm → Bool
has_sib modrm = not (modrm.mode == 3) && (modrm.rm == 4)

-- The base: that of the SIB byte at a place, or rm.
abbrev pub sib_base : ModRm → List ℕ → ℕ → ℕ
sib_base modrm code at = if has_sib modrm then slice_index code at % 8 else modrm.rm

-- disp8 in mode 1, disp32 in mode 2; in mode 0 disp32 in place of base 5 (RIP without a SIB byte, none with one).
abbrev pub displacement_size : ℕ → ℕ → ℕ
displacement_size mode base =
    if mode == 0 then (if base == 5 then 4 else 0) else
    if mode == 1 then 1 else
    if mode == 2 then 4 else 0

-- How many bytes all three have, where the SIB byte is at a place.
abbrev pub addressing_size : ModRm → List ℕ → ℕ → ℕ
addressing_size modrm code at = 1 + (if has_sib modrm then 1 else 0) + displacement_size modrm.mode (sib_base modrm code at)
