-- The fields of an instruction that name registers.
--
-- Intel SDM, volume 2, 2.1.3, 2.2.1.2 (figures 2-4 to 2-7), 2.3.5.6 (vvvv), A.2.2.
use Rattle.std.specs.Prelude.{ℕ, ◌<◌, ◌+◌, ◌%◌, ◌==◌, not, Bool, true, false, if◌then◌else◌, Option, Some}
use Rattle.framehop_x86_instructions.specs.declared.fields.Fields.{Fields}
use Rattle.framehop_x86_instructions.specs.declared.layout.Layout.{Layout}
use Rattle.framehop_x86_instructions.specs.declared.prefixes.Repeat.{Repeat}
use Rattle.framehop_x86_instructions.specs.declared.prefixes.Repeat.TheVariants.{F3}

-- R, X or B is the fourth bit of a number.
abbrev pub extended : Bool → ℕ → ℕ
extended bit number = if bit then number + 8 else number

-- There are sixteen general registers.
abbrev pub AreNumbers : Fields → Type 0
AreNumbers fields = (fields.reg < 16) × (fields.rm < 16) × (fields.opcode < 16) × (fields.vvvv < 16)

abbrev pub is_f3 : Option Repeat → Bool
is_f3 (Some F3) = true
is_f3 other = false

-- The w bit of an opcode, its lowest, is clear if operands have one byte.
abbrev pub fields_of : Layout → Fields
fields_of layout = record {
  is_register = layout.modrm.mode == 3;
  digit = layout.modrm.reg;
  reg = extended layout.opcode.extension.r layout.modrm.reg;
  rm = extended layout.opcode.extension.b layout.modrm.rm;
  opcode = extended layout.opcode.extension.b (layout.opcode.byte % 8);
  vvvv = layout.opcode.vvvv;
  is_narrow = layout.opcode.byte % 2 == 0;
  has_rex = not (layout.prefixes.rex == 0);
  has_f3 = is_f3 layout.opcode.repeat;
}
