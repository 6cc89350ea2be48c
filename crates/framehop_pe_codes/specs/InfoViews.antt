-- What contracts see of unwind infos and their codes in memory.
use Rattle.std.specs.Prelude.{ℕ, ◌+◌, ◌*◌, ◌&&◌, true, Bool, List, ◌≡◌, IsSome, is_some, ◌++◌, ◌∷◌, [], length, flat_map, Option, Some, None, Ok}
use Rattle.framehop_errors.specs.declared.pe.PeUnwinderError.TheVariants.{UnwindInfoParseError}
use Rattle.framehop_pe_codes.specs.Codes.{codes_of}
use Rattle.framehop_pe_codes.specs.Infos.{InfoHeader, Info, header_of, with_codes, info_at, chain_from, operations_of}
use Rattle.framehop_pe_codes.specs.CodesToUndo.{CodesToUndo, codes_to_undo}
use Rattle.framehop_pe_codes.specs.Refusals.{PeResult, result_and_then, or_refusal}
use Rattle.framehop_pe_codes.specs.Sections.{Memory, info_memory}
use Rattle.framehop_pe_codes.specs.declared.info.UnwindInfo.{UnwindInfo}
use Rattle.framehop_pe_codes.specs.declared.chain.CodesLeft.{CodesLeft}
use Rattle.framehop_pe_codes.specs.declared.listing.PrologCodes.{PrologCodes}
use Rattle.framehop_pe_codes.specs.declared.operation.UnwindOperation.{UnwindOperation}

-- The header of an info.
abbrev pub header_seen : UnwindInfo → InfoHeader
header_seen info = record {
  frame_register = info.frame_register;
  frame_offset = info.frame_offset;
  code_bytes = info.codes.now;
  chained = info.chained;
}

-- The info in memory is the one that some bytes begin with.
pub record IsInfo (is_first_framed : Bool) (info : UnwindInfo) (bytes : List ℕ) : Type 0 where
  pub header : header_of bytes ≡ Some (header_seen info)
  pub codes : IsSome (codes_of (is_first_framed && is_some info.frame_register) info.codes.now)

-- The info in memory is the first of a chain, and this is its value.
pub record IsFirst (info : UnwindInfo) (first : Info) : Type 0 where
  pub codes : codes_of (is_some info.frame_register) info.codes.now ≡ Some first.codes
  pub is : first ≡ with_codes (header_seen info) first.codes

-- If the info in memory is the first of a chain, this holds of its value.
abbrev pub OverFirst : UnwindInfo → (Info → Type 0) → Type 0
OverFirst info says = (first : Info) → IsFirst info first → says first

-- The info in memory is the first of a chain, at an address.
pub record IsFirstAt (memory : Memory) (info : UnwindInfo) (address : ℕ) : Type 0 where
  pub first : Info
  pub is_first : IsFirst info first
  pub read : info_at memory true address ≡ Ok first

-- The operations of the codes that are left: those of the bytes, and those of the chain after them. Or the first refusal.
abbrev pub operations_left : CodesLeft → PeResult (List UnwindOperation)
operations_left left =
    result_and_then (or_refusal UnwindInfoParseError (codes_of left.is_framed left.codes.now)) (λ codes.
    result_and_then (chain_from left.infos (info_memory left.sections) left.is_first_framed left.chained) (λ infos.
    Ok (operations_of codes ++ flat_map (λ info. operations_of info.codes) infos)))

-- If the codes that are left can all be read, this holds of their operations.
abbrev pub OverOperations : CodesLeft → (List UnwindOperation → Type 0) → Type 0
OverOperations left says = (operations : List UnwindOperation) → operations_left left ≡ Ok operations → says operations

-- What is undone by codes that can all be read.
abbrev pub IsChainRead : PrologCodes → PeResult CodesToUndo → Type 0
IsChainRead codes found =
    (operations : List UnwindOperation) × (operations_left codes.left ≡ Ok operations)
    × (found ≡ Ok (record { frame = codes.frame; operations = operations }))

-- The codes in memory are those that are undone of the chain of a first info, at an offset in its function.
abbrev pub ReadsChain : Memory → UnwindInfo → ℕ → PrologCodes → Type 0
ReadsChain memory info offset codes = OverFirst info (λ first. IsChainRead codes (codes_to_undo memory first offset))

-- If the codes can all be read, this holds of what is undone by them.
abbrev pub OverCodes : PrologCodes → (CodesToUndo → Type 0) → Type 0
OverCodes codes says =
    (operations : List UnwindOperation) → operations_left codes.left ≡ Ok operations
    → says (record { frame = codes.frame; operations = operations })

-- The same with an operation before them.
abbrev pub with_operation : UnwindOperation → PeResult (List UnwindOperation) → PeResult (List UnwindOperation)
with_operation operation operations = result_and_then operations (λ more. Ok (operation ∷ more))

-- The operation that comes next, or none at the end, and those that are left after it.
abbrev pub next_and_left : Option UnwindOperation → PeResult (List UnwindOperation) → PeResult (List UnwindOperation)
next_and_left None left = Ok []
next_and_left (Some operation) left = with_operation operation left

-- A number that falls with each code.
abbrev pub bytes_left : CodesLeft → ℕ
bytes_left left = 1024 * left.infos + length left.codes.now
