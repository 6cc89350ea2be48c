-- What is to undo is refused by the bytes of the file alone.
use Rattle.std.proofs.Common.{◌≡◌, ℕ, zero, suc, ◌-◌, Bool, true, false, List, [], ◌∷◌, length, take, refl, subst}
use Rattle.std.specs.Prelude.{nat_lt, if◌then◌else◌, is_some, Option, Some, None, Ok, Err}
use Rattle.std.specs.Option.{option_or}
use Rattle.framehop_registers.specs.declared.x86_64.unwindregs.Reg.{Reg}
use Rattle.framehop_errors.specs.declared.pe.PeUnwinderError.{PeUnwinderError}
use Rattle.framehop_errors.specs.declared.pe.PeUnwinderError.TheVariants.{MissingInstructionData, MissingUnwindInfoData, UnwindInfoParseError}
use Rattle.framehop_pe_codes.specs.CodesToUndo.{CodesToUndo, codes_to_undo, frame_of, operations_from}
use Rattle.framehop_pe_codes.specs.Epilogs.{EpilogLeft, epilog_of}
use Rattle.framehop_pe_codes.specs.Infos.{Info, chain_after, chain_from, info_at, info_of, operations_to_undo}
use Rattle.framehop_pe_codes.specs.Refusals.{IsOfFile, PeResult, or_refusal, result_and_then}
use Rattle.framehop_pe_codes.specs.Sections.{PeFile, section_bytes, text_memory, unwind_info_memory}
use Rattle.framehop_pe_codes.specs.declared.ends.RowCode.{RowCode}
use Rattle.framehop_pe_codes.specs.declared.operation.UnwindOperation.{UnwindOperation}
use Rattle.framehop_pe.specs.Rows.{function_of}
use Rattle.framehop_pe.specs.ToUndo.{ByCodes, ByEpilog, Leaf, ToUndo, code_to_end, ends_by, epilog_at, epilog_or_codes, row_code, to_undo_at, to_undo_by}
use Rattle.framehop_pe.specs.declared.pdata.RuntimeFunction.{RuntimeFunction}

abbrev pub IsRefusedByFile : {A : Type 0} → PeResult A → Type 0
IsRefusedByFile result = (e : PeUnwinderError) → result ≡ Err e → IsOfFile e

by-error : {A : Type 0} (e : PeUnwinderError) → IsOfFile e → (f : PeUnwinderError) → ◌≡◌ {A = PeResult A} (Err e) (Err f) → IsOfFile f
by-error e of f is = let same : e ≡ f = cc in subst (λ (g : PeUnwinderError). IsOfFile g) same of

by-both : {A B : Type 0} (first : PeResult A) (next : A → PeResult B) → IsRefusedByFile first → ((value : A) → IsRefusedByFile (next value)) → IsRefusedByFile (result_and_then first next)
by-both (Ok value) next one two e is = two value e is
by-both {B = B} (Err f) next one two e is = by-error {A = B} f (one f refl) e is

by-option : {A : Type 0} (found : Option A) (refusal : PeUnwinderError) → IsOfFile refusal → IsRefusedByFile (or_refusal refusal found)
by-option (Some value) refusal of e is = cc
by-option {A = A} None refusal of e is = by-error {A = A} refusal of e is

read : {A : Type 0} (value : A) → IsRefusedByFile (let r : PeResult A = Ok value in r)
read value e is = cc

module _ (file : PeFile) where
  info : (is_first_framed : Bool) (address : ℕ) → IsRefusedByFile (info_at (unwind_info_memory file) is_first_framed address)
  info is_first_framed address =
      by-both {B = Info} (unwind_info_memory file address) (λ bytes. or_refusal UnwindInfoParseError (info_of is_first_framed bytes))
      (by-option (option_or (section_bytes file.rdata address) (section_bytes file.xdata address)) (MissingUnwindInfoData address) tt)
      (λ bytes. by-option (info_of is_first_framed bytes) UnwindInfoParseError tt)

  chain : (n : ℕ) (is_first_framed : Bool) (chained : Option ℕ) → IsRefusedByFile (chain_from n (unwind_info_memory file) is_first_framed chained)
  chain n is_first_framed None = read []
  chain zero is_first_framed (Some address) = by-error {A = List Info} UnwindInfoParseError tt
  chain (suc n) is_first_framed (Some address) =
      by-both {B = List Info} (info_at (unwind_info_memory file) is_first_framed address)
      (λ found. result_and_then (chain_from n (unwind_info_memory file) is_first_framed found.chained) (λ infos. Ok (found ∷ infos)))
      (info is_first_framed address)
      (λ found. by-both (chain_from n (unwind_info_memory file) is_first_framed found.chained) (λ infos. Ok (found ∷ infos)) (chain n is_first_framed found.chained) (λ infos. read (found ∷ infos)))

  whole : (address : ℕ) (bytes : List ℕ) (size : ℕ) (short : Bool) → IsRefusedByFile (let r : PeResult (List ℕ) = if short then Err (MissingInstructionData address) else Ok (take size bytes) in r)
  whole address bytes size true = by-error {A = List ℕ} (MissingInstructionData address) tt
  whole address bytes size false = read (take size bytes)

  code : (address end : ℕ) → IsRefusedByFile (code_to_end file address end)
  code address end =
      by-both {B = List ℕ} (text_memory file address) (λ bytes. if nat_lt (length bytes) (end - address) then Err (MissingInstructionData address) else Ok (take (end - address) bytes))
      (by-option (section_bytes file.text address) (MissingInstructionData address) tt)
      (λ bytes. whole address bytes (end - address) (nat_lt (length bytes) (end - address)))

  epilog : (row : RowCode) (frame_register : Option Reg) (address : ℕ) (is_first : Bool) → IsRefusedByFile (epilog_at file row frame_register address is_first)
  epilog row frame_register address true =
      let seen : List ℕ → Option EpilogLeft = epilog_of (ends_by file.code_rules row) frame_register in
      by-both (code_to_end file address row.end) (λ bytes. Ok (seen bytes)) (code address row.end) (λ bytes. read (seen bytes))
  epilog row frame_register address false = read None

  operations : (first : Info) (offset : ℕ) → IsRefusedByFile (operations_from (unwind_info_memory file) first offset)
  operations first offset =
      by-both (chain_after (unwind_info_memory file) first) (λ others. Ok (operations_to_undo offset first others))
      (chain 31 (is_some first.frame_register) first.chained) (λ others. read (operations_to_undo offset first others))

  all-codes : (first : Info) (offset : ℕ) → IsRefusedByFile (codes_to_undo (unwind_info_memory file) first offset)
  all-codes first offset =
      let made : List UnwindOperation → CodesToUndo = λ all. record { frame = frame_of first all; operations = all } in
      by-both (operations_from (unwind_info_memory file) first offset) (λ all. Ok (made all)) (operations first offset) (λ all. read (made all))

  codes : (first : Info) (offset : ℕ) (found : Option EpilogLeft) → IsRefusedByFile (epilog_or_codes (unwind_info_memory file) first offset found)
  codes first offset (Some left) = read (ByEpilog first.frame_register left)
  codes first offset None = by-both (codes_to_undo (unwind_info_memory file) first offset) (λ all. Ok (ByCodes all)) (all-codes first offset) (λ all. read (ByCodes all))

  by-function : (function : Option RuntimeFunction) (address : ℕ) (is_first : Bool) → IsRefusedByFile (to_undo_by file function address is_first)
  by-function None address is_first = read Leaf
  by-function (Some function) address is_first =
      let after : Info → Option EpilogLeft → PeResult ToUndo = λ first. epilog_or_codes (unwind_info_memory file) first (address - function.begin_address) in
      by-both (info_at (unwind_info_memory file) true function.unwind_info_address)
      (λ first. result_and_then (epilog_at file (row_code function first.chained) first.frame_register address is_first) (after first))
      (info true function.unwind_info_address)
      (λ first. by-both (epilog_at file (row_code function first.chained) first.frame_register address is_first) (after first)
      (epilog (row_code function first.chained) first.frame_register address is_first) (λ found. codes first (address - function.begin_address) found))

  pub refused-by_file : (address : ℕ) (is_first : Bool) → IsRefusedByFile (to_undo_at file address is_first)
  refused-by_file address is_first = by-function (function_of file.pdata address) address is_first
