-- The tables of the code are those of the definitions, opcode by opcode.
use Rattle.std.proofs.Common.{◌≡◌, ◌∙◌, ℕ, ◌<◌, refl, ap, arith, map, get_or}
use Rattle.std.specs.List.{range_with_len}
use Rattle.std.proofs.lemmas.List.FromFn.{get_or-map-range_with_len}
use Rattle.framehop_x86_instructions.specs.OpcodeMaps.{one_byte_map, two_byte_map}
use Rattle.framehop_x86_instructions.specs.declared.maps.TheConstants.{ONE_BYTE, TWO_BYTE}
use Rattle.framehop_x86_instructions.specs.WrittenMaps.{one_byte_written, two_byte_written}
use Rattle.framehop_x86_instructions.specs.declared.operands.Operands.{Operands}
use Rattle.framehop_x86_instructions.specs.declared.writes.TheConstants.{ONE_BYTE_WRITTEN, TWO_BYTE_WRITTEN}
use Rattle.framehop_x86_instructions.specs.declared.writes.Writes.{Writes}

one_byte_is : ONE_BYTE ≡ map one_byte_map (range_with_len 0 256)
unfolding one_byte_map
one_byte_is = refl

two_byte_is : TWO_BYTE ≡ map two_byte_map (range_with_len 0 256)
unfolding two_byte_map
two_byte_is = refl

pub in_one_byte : (opcode : ℕ) (d : Operands) → opcode < 256 → get_or ONE_BYTE opcode d ≡ one_byte_map opcode
in_one_byte opcode d below =
    ap (λ t. get_or t opcode d) one_byte_is ∙ get_or-map-range_with_len one_byte_map 0 256 opcode opcode d below (omega arith)

pub in_two_byte : (opcode : ℕ) (d : Operands) → opcode < 256 → get_or TWO_BYTE opcode d ≡ two_byte_map opcode
in_two_byte opcode d below =
    ap (λ t. get_or t opcode d) two_byte_is ∙ get_or-map-range_with_len two_byte_map 0 256 opcode opcode d below (omega arith)

-- ---- what is written

one_byte_written_is : ONE_BYTE_WRITTEN ≡ map one_byte_written (range_with_len 0 256)
unfolding one_byte_written
one_byte_written_is = refl

two_byte_written_is : TWO_BYTE_WRITTEN ≡ map two_byte_written (range_with_len 0 256)
unfolding two_byte_written
two_byte_written_is = refl

pub in_one_byte_written : (opcode : ℕ) (d : Writes) → opcode < 256 → get_or ONE_BYTE_WRITTEN opcode d ≡ one_byte_written opcode
in_one_byte_written opcode d below =
    ap (λ t. get_or t opcode d) one_byte_written_is ∙ get_or-map-range_with_len one_byte_written 0 256 opcode opcode d below (omega arith)

pub in_two_byte_written : (opcode : ℕ) (d : Writes) → opcode < 256 → get_or TWO_BYTE_WRITTEN opcode d ≡ two_byte_written opcode
in_two_byte_written opcode d below =
    ap (λ t. get_or t opcode d) two_byte_written_is ∙ get_or-map-range_with_len two_byte_written 0 256 opcode opcode d below (omega arith)
