-- The parts of an instruction: prefixes, opcode, ModRM with SIB and displacement, immediates.
--
-- Intel SDM, volume 2, 2.1 (figure 2-1).
use Rattle.std.specs.Prelude.{ℕ, ◌<◌, ◌≤◌, ◌+◌, if◌then◌else◌, List, slice_index}
use Rattle.framehop_x86_instructions.specs.ModRm.{modrm_of, addressing_size}
use Rattle.framehop_x86_instructions.specs.Opcodes.{opcode_of}
use Rattle.framehop_x86_instructions.specs.Operands.{has_modrm, immediate_size, operands_of}
use Rattle.framehop_x86_instructions.specs.Prefixes.{prefixes_of}
use Rattle.framehop_x86_instructions.specs.declared.layout.Layout.{Layout}
use Rattle.framehop_x86_instructions.specs.declared.modrm.ModRm.{ModRm}
use Rattle.framehop_x86_instructions.specs.declared.opcode.Opcode.{Opcode}
use Rattle.framehop_x86_instructions.specs.declared.operands.Operands.{Operands}
use Rattle.framehop_x86_instructions.specs.declared.prefixes.Prefixes.{Prefixes}

-- The ModRM byte at a place, if there is one, and how many bytes it has with what belongs to it.
abbrev pub modrm_in : Operands → List ℕ → ℕ → ModRm
modrm_in operands code at = modrm_of (if has_modrm operands then slice_index code at else 0)

abbrev pub addressing_in : Operands → ModRm → List ℕ → ℕ → ℕ
addressing_in operands modrm code at = if has_modrm operands then addressing_size modrm code (at + 1) else 0

-- The parts behind an opcode.
abbrev pub layout_with : Prefixes → Opcode → Operands → ModRm → List ℕ → ℕ → Layout
layout_with prefixes opcode operands modrm code at = record {
  prefixes = prefixes;
  opcode = opcode;
  operands = operands;
  modrm = modrm;
  addressing = addressing_in operands modrm code at;
  immediate = immediate_size operands prefixes opcode modrm.reg;
}

abbrev pub layout_at : Prefixes → Opcode → Operands → List ℕ → ℕ → Layout
layout_at prefixes opcode operands code at = layout_with prefixes opcode operands (modrm_in operands code at) code at

abbrev pub layout_behind : Prefixes → Opcode → List ℕ → Layout
layout_behind prefixes opcode code = layout_at prefixes opcode (operands_of prefixes opcode) code (prefixes.count + opcode.size)

-- The parts of the instruction that code begins with, where bytes that are missing are 0.
unfoldable pub layout_of : List ℕ → Layout
layout_of code = layout_behind (prefixes_of code) (opcode_of (prefixes_of code) code) code

-- How many bytes the parts behind the prefixes can have.
abbrev pub AreSizes : Layout → Type 0
AreSizes layout = (0 < layout.opcode.size) × (layout.opcode.size ≤ 5) × (layout.addressing ≤ 6) × (layout.immediate ≤ 8)

-- The length is the sum of the parts.
abbrev pub length_of : Layout → ℕ
length_of layout = layout.prefixes.count + layout.opcode.size + layout.addressing + layout.immediate
