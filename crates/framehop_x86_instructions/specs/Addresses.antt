-- Addresses relative to RSP or RBP.
--
-- Intel SDM, volume 2, 2.1.5 (tables 2-2, 2-3), 2.2.1.2 (table 2-5), 2.2.1.3.
use Rattle.std.specs.Prelude.{ℕ, ◌+◌, ◌/◌, ◌%◌, ◌==◌, ◌&&◌, ◌||◌, ℤ, pos, Bool, if◌then◌else◌, List, slice_index, Option, Some, None}
use Rattle.std.specs.Option.{option_map}
use Rattle.framehop_x86_instructions.specs.Fields.{extended}
use Rattle.framehop_x86_instructions.specs.ModRm.{has_sib}
use Rattle.framehop_x86_instructions.specs.Numbers.{signed_byte, signed_at}
use Rattle.framehop_x86_instructions.specs.declared.address.Address.{Address}
use Rattle.framehop_x86_instructions.specs.declared.address.Base.{Base}
use Rattle.framehop_x86_instructions.specs.declared.address.Base.TheVariants.{StackPointer, FramePointer}
use Rattle.framehop_x86_instructions.specs.declared.layout.Layout.{Layout}
use Rattle.framehop_x86_instructions.specs.declared.modrm.ModRm.{ModRm}
use Rattle.framehop_x86_instructions.specs.declared.opcode.Extension.{Extension}

abbrev pub base_numbered : ℕ → Option Base
base_numbered number = if number == 4 then Some StackPointer else if number == 5 then Some FramePointer else None

-- disp8, disp32 or none.
abbrev pub displacement : List ℕ → ℕ → ℕ → ℤ
displacement code mode at =
    if mode == 1 then signed_byte (slice_index code at) else
    if mode == 2 then signed_at code at else pos 0

-- By the base's number of three bits, which B extends. In mode 0 there is none for 5.
abbrev pub address_by : List ℕ → ℕ → ℕ → Bool → ℕ → Option Address
address_by code mode number b at =
    if (mode == 0) && (number == 5) then None else
    option_map (λ base. record { base = base; bytes = displacement code mode at }) (base_numbered (extended b number))

-- By a SIB byte without an index, whose number is 4 then, which X extends.
abbrev pub address_by_sib : List ℕ → ℕ → Bool → Bool → ℕ → Option Address
address_by_sib code mode x b at =
    if extended x (slice_index code at / 8 % 8) == 4 then address_by code mode (slice_index code at % 8) b (at + 1) else None

abbrev pub address_in : List ℕ → Extension → ModRm → ℕ → Option Address
address_in code extension modrm at =
    if has_sib modrm then address_by_sib code modrm.mode extension.x extension.b at else
    address_by code modrm.mode modrm.rm extension.b at

-- An operand in memory, in no segment of its own (64 and 65) and with addresses of eight bytes, where what is behind the ModRM byte is at a
-- place.
abbrev pub address_of : List ℕ → Layout → ℕ → Option Address
address_of code layout at =
    if (layout.modrm.mode == 3) || layout.prefixes.address_size || layout.prefixes.segment then None else
    address_in code layout.opcode.extension layout.modrm at
