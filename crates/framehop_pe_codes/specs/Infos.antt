-- Unwind infos, version 1, as bytes, and their chains (Microsoft, "x64 exception handling", struct UNWIND_INFO and "Chained
-- unwind info structures").
use Rattle.std.specs.Prelude.{ℕ, zero, suc, ◌+◌, ◌*◌, ◌/◌, ◌%◌, ◌==◌, ◌&&◌, Bool, nat_lt, if◌then◌else◌, List, [], ◌∷◌, ◌++◌, map, flat_map, take, drop, length, slice_index, Option, Some, None, Ok, Err, is_some}
use Rattle.std.specs.Option.{option_map, option_and_then}
use Rattle.framehop_registers.specs.declared.x86_64.unwindregs.Reg.{Reg}
use Rattle.framehop_errors.specs.declared.pe.PeUnwinderError.TheVariants.{UnwindInfoParseError}
use Rattle.framehop_pe_codes.specs.Codes.{register_numbered, codes_of, u32_at}
use Rattle.framehop_pe_codes.specs.Refusals.{PeResult, result_and_then, or_refusal}
use Rattle.framehop_pe_codes.specs.Sections.{Memory}
use Rattle.framehop_pe_codes.specs.declared.operation.UnwindCode.{UnwindCode}
use Rattle.framehop_pe_codes.specs.declared.operation.UnwindOperation.{UnwindOperation}

-- The fixed part of an unwind info, and the bytes of its codes. The prolog's size isn't used.
pub record InfoHeader : Type 0 where
  pub frame_register : Option Reg
  pub frame_offset : ℕ
  pub code_bytes : List ℕ
  pub chained : Option ℕ

-- The frame register by the low four bits of a byte, 0 for none.
abbrev pub frame_register_of : ℕ → Option Reg
frame_register_of byte = if byte % 16 == 0 then None else Some (register_numbered (byte % 16))

-- The header of some bytes, if the next info of the chain is at this address.
abbrev pub header_with : List ℕ → Option ℕ → InfoHeader
header_with bytes chained = record {
  frame_register = frame_register_of (slice_index bytes 3);
  frame_offset = 16 * (slice_index bytes 3 / 16);
  code_bytes = take (2 * slice_index bytes 2) (drop 4 bytes);
  chained = chained;
}

-- Where the row of a chained info is: after the codes, whose number is padded to an even one.
abbrev pub chained_row_at : List ℕ → ℕ
chained_row_at bytes = let count = slice_index bytes 2 in 4 + 2 * (count + count % 2)

-- The header that some bytes begin with. The low three bits are the version, 1; the flag of 4 in the five above them says that a row
-- follows the codes, whose third number is the address of the next info.
unfoldable pub header_of : List ℕ → Option InfoHeader
header_of bytes =
    if nat_lt (length bytes) 4 then None else
    if nat_lt (length bytes) (4 + 2 * slice_index bytes 2) then None else
    if (slice_index bytes 0 % 8) == 1 then
    (if (slice_index bytes 0 / 32 % 2) == 1 then
    (if nat_lt (length bytes) (chained_row_at bytes + 12) then None else Some (header_with bytes (Some (u32_at bytes (chained_row_at bytes + 8)))))
    else Some (header_with bytes None))
    else None

-- An unwind info.
pub record Info : Type 0 where
  pub frame_register : Option Reg
  pub frame_offset : ℕ
  pub codes : List UnwindCode
  pub chained : Option ℕ

-- The info of a header and its codes.
abbrev pub with_codes : InfoHeader → List UnwindCode → Info
with_codes header codes = record {
  frame_register = header.frame_register;
  frame_offset = header.frame_offset;
  codes = codes;
  chained = header.chained;
}

-- The info that some bytes begin with. Its codes may set a frame if it and the first info of its chain name a frame register.
abbrev pub info_of : Bool → List ℕ → Option Info
info_of is_first_framed bytes =
    option_and_then (λ header. option_map (with_codes header) (codes_of (is_first_framed && is_some header.frame_register) header.code_bytes)) (header_of bytes)

-- The info at an address.
abbrev pub info_at : Memory → Bool → ℕ → PeResult Info
info_at memory is_first_framed address =
    result_and_then (memory address) (λ bytes. or_refusal UnwindInfoParseError (info_of is_first_framed bytes))

-- ---- chains

-- The infos of a chain from an address on, at most so many, or the first refusal.
abbrev pub chain_from : ℕ → Memory → Bool → Option ℕ → PeResult (List Info)
chain_from n memory is_first_framed None = Ok []
chain_from zero memory is_first_framed (Some address) = Err UnwindInfoParseError
chain_from (suc n) memory is_first_framed (Some address) =
    result_and_then (info_at memory is_first_framed address) (λ info.
    result_and_then (chain_from n memory is_first_framed info.chained) (λ infos. Ok (info ∷ infos)))

-- The infos after the first one: with it at most 32.
abbrev pub chain_after : Memory → Info → PeResult (List Info)
chain_after memory first = chain_from 31 memory (is_some first.frame_register) first.chained

-- The operations of some codes.
abbrev pub operations_of : List UnwindCode → List UnwindOperation
operations_of codes = map (λ code. code.operation) codes

-- Codes without the leading ones of which the offset exceeds this one: their instructions didn't run yet.
abbrev pub ran_codes : ℕ → List UnwindCode → List UnwindCode
ran_codes offset [] = []
ran_codes offset (code ∷ codes) = if nat_lt offset code.prolog_offset then ran_codes offset codes else code ∷ codes

-- The operations to undo at an offset in the first info's function: those of its codes that ran, and all of the others.
abbrev pub operations_to_undo : ℕ → Info → List Info → List UnwindOperation
operations_to_undo offset first others =
    operations_of (ran_codes offset first.codes) ++ flat_map (λ info. operations_of info.codes) others
