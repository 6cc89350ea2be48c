-- What the unwind data of a PE file say of a frame of x86_64: what is undone to come to its caller (Microsoft, "x64 exception handling",
-- "Unwind procedure").
use Rattle.std.specs.Prelude.{ℕ, ◌-◌, Bool, true, nat_lt, if◌then◌else◌, List, [], length, map, take, Option, Some, None, is_none, Ok, Err}
use Rattle.framehop_registers.specs.Callback.{Words}
use Rattle.framehop_registers.specs.declared.x86_64.unwindregs.Reg.{Reg}
use Rattle.framehop_registers.specs.declared.x86_64.unwindregs.UnwindRegsX86_64.{UnwindRegsX86_64}
use Rattle.framehop_rules.specs.declared.x86_64.offset_or_pop.OffsetOrPop.{OffsetOrPop}
use Rattle.framehop_code_rules.specs.declared.CodeRules.{CodeRules}
use Rattle.framehop_code_rules.specs.declared.CodeRules.TheVariants as rules
use Rattle.framehop_errors.specs.declared.pe.PeUnwinderError.TheVariants.{MissingInstructionData}
use Rattle.framehop_pe_codes.specs.CodesToUndo.{CodesToUndo, codes_to_undo}
use Rattle.framehop_pe_codes.specs.EpilogRuns.{caller_by_epilog}
use Rattle.framehop_pe_codes.specs.Epilogs.{EpilogLeft, epilog_of}
use Rattle.framehop_pe_codes.specs.Infos.{Info, info_at}
use Rattle.framehop_pe_codes.specs.Machine.{PeCaller, returned, caller_by_codes}
use Rattle.framehop_pe_codes.specs.Refusals.{PeResult, result_and_then}
use Rattle.framehop_pe_codes.specs.Sections.{Memory, PeFile, text_memory, unwind_info_memory}
use Rattle.framehop_pe_codes.specs.declared.ends.EpilogEnds.{EpilogEnds}
use Rattle.framehop_pe_codes.specs.declared.ends.EpilogEnds.TheVariants as ends
use Rattle.framehop_pe_codes.specs.declared.ends.RowCode.{RowCode}
use Rattle.framehop_pe.specs.RuleParts.{operation_part, epilog_parts}
use Rattle.framehop_pe.specs.Rows.{function_of}
use Rattle.framehop_pe.specs.declared.pdata.RuntimeFunction.{RuntimeFunction}

-- What is undone before a function returns: nothing in a leaf function, what is left of an epilog, or the codes of a prolog.
pub data ToUndo : Type 0 where
  Leaf : ToUndo
  ByEpilog : Option Reg → EpilogLeft → ToUndo
  ByCodes : CodesToUndo → ToUndo

-- The code of a function from an address to its end, if the text has it whole.
abbrev pub code_to_end : PeFile → ℕ → ℕ → PeResult (List ℕ)
code_to_end file address end =
    result_and_then (text_memory file address) (λ bytes.
    if nat_lt (length bytes) (end - address) then Err (MissingInstructionData address) else Ok (take (end - address) bytes))

-- The code of a row, by the next info of the chain that its info begins: if there is none, a function begins there.
abbrev pub row_code : RuntimeFunction → (chained : Option ℕ) → RowCode
row_code function chained = record { begin = function.begin_address; end = function.end_address; begins_function = is_none chained }

-- Which instructions end an epilog there.
abbrev pub ends_by : CodeRules → RowCode → EpilogEnds
ends_by rules.Published row = ends.Published
ends_by rules.Known row = ends.Known row
ends_by rules.Ways row = ends.Known row

-- The epilog that is left at an address in the code of a row, which only a first frame can be in.
abbrev pub epilog_at : PeFile → RowCode → Option Reg → ℕ → Bool → PeResult (Option EpilogLeft)
epilog_at file row frame_register address is_first =
    if is_first then result_and_then (code_to_end file address row.end) (λ bytes. Ok (epilog_of (ends_by file.code_rules row) frame_register bytes))
    else Ok None

-- What is left of the epilog, or else the codes of the chain, which is only then read.
abbrev pub epilog_or_codes : Memory → Info → ℕ → Option EpilogLeft → PeResult ToUndo
epilog_or_codes memory first offset (Some epilog) = Ok (ByEpilog first.frame_register epilog)
epilog_or_codes memory first offset None = result_and_then (codes_to_undo memory first offset) (λ codes. Ok (ByCodes codes))

-- What is undone at an address in a function. Its first unwind info is read before all else.
abbrev pub to_undo_in : PeFile → RuntimeFunction → ℕ → Bool → PeResult ToUndo
to_undo_in file function address is_first =
    result_and_then (info_at (unwind_info_memory file) true function.unwind_info_address) (λ first.
    result_and_then (epilog_at file (row_code function first.chained) first.frame_register address is_first) (λ epilog.
    epilog_or_codes (unwind_info_memory file) first (address - function.begin_address) epilog))

-- A function without a row is a leaf function.
abbrev pub to_undo_by : PeFile → Option RuntimeFunction → ℕ → Bool → PeResult ToUndo
to_undo_by file None address is_first = Ok Leaf
to_undo_by file (Some function) address is_first = to_undo_in file function address is_first

-- What is undone at an address.
abbrev pub to_undo_at : PeFile → ℕ → Bool → PeResult ToUndo
to_undo_at file address is_first = to_undo_by file (function_of file.pdata address) address is_first

-- The caller, once it is undone one by one.
abbrev pub caller_of : ToUndo → UnwindRegsX86_64 → Words → PeResult PeCaller
caller_of Leaf registers words = returned registers words
caller_of (ByEpilog frame_register epilog) registers words = caller_by_epilog frame_register epilog registers words
caller_of (ByCodes codes) registers words = caller_by_codes codes.frame codes.operations registers words

-- The sequence that a rule for it is made of.
abbrev pub parts_of : ToUndo → List OffsetOrPop
parts_of Leaf = []
parts_of (ByEpilog frame_register epilog) = epilog_parts epilog
parts_of (ByCodes codes) = map operation_part codes.operations
