-- What is undone at an address in a function, from its parts that are read one after the other.
use Rattle.std.proofs.Common.{◌≡◌, ◌∙◌, ◌-◌, ℕ, Bool, List, ap, refl, subst}
use Rattle.std.specs.Prelude.{Option, Some, None, Ok, Err}
use Rattle.framehop_registers.specs.declared.x86_64.unwindregs.Reg.{Reg}
use Rattle.framehop_errors.specs.declared.pe.PeUnwinderError.{PeUnwinderError}
use Rattle.framehop_pe_codes.specs.CodesToUndo.{CodesToUndo, codes_to_undo}
use Rattle.framehop_pe_codes.specs.Epilogs.{EpilogLeft}
use Rattle.framehop_pe_codes.specs.Infos.{Info}
use Rattle.framehop_pe_codes.specs.InfoViews.{IsFirst, IsFirstAt, operations_left}
use Rattle.framehop_pe_codes.specs.Refusals.{PeResult, result_and_then}
use Rattle.framehop_pe_codes.specs.Sections.{PeFile, unwind_info_memory}
use Rattle.framehop_pe_codes.specs.declared.epilog.Epilog.{Epilog}
use Rattle.framehop_pe_codes.specs.declared.info.UnwindInfo.{UnwindInfo}
use Rattle.framehop_pe_codes.specs.declared.listing.PrologCodes.{PrologCodes}
use Rattle.framehop_pe_codes.specs.declared.operation.UnwindOperation.{UnwindOperation}
use Rattle.framehop_pe.specs.PartViews.{IsRead, IsEpilogRead}
use Rattle.framehop_pe.specs.ToUndo.{ToUndo, ByEpilog, ByCodes, epilog_at, epilog_or_codes, row_code, to_undo_in}
use Rattle.framehop_pe.specs.declared.pdata.RuntimeFunction.{RuntimeFunction}
use Rattle.framehop_pe.specs.declared.x86_64.pe.Undoing.TheVariants as undoing

module _ (file : PeFile) (function : RuntimeFunction) (address : ℕ) (is_first : Bool) (info : UnwindInfo)
    (at : IsFirstAt (unwind_info_memory file) info function.unwind_info_address) where
  same_register : at.first.frame_register ≡ info.frame_register
  same_register = ap (λ (i : Info). i.frame_register) at.is_first.is

  from-epilog : (found : PeResult (Option EpilogLeft)) → epilog_at file (row_code function info.chained) info.frame_register address is_first ≡ found
      → to_undo_in file function address is_first ≡ result_and_then found (epilog_or_codes (unwind_info_memory file) at.first (address - function.begin_address))
  from-epilog found is =
      let next : Info → Option EpilogLeft → PeResult ToUndo = λ first. epilog_or_codes (unwind_info_memory file) first (address - function.begin_address) in
      let seen : Info → PeResult (Option EpilogLeft) = λ first. epilog_at file (row_code function first.chained) first.frame_register address is_first in
      ap (λ (o : PeResult Info). result_and_then o (λ first. result_and_then (seen first) (next first))) at.read
      ∙ ap (λ (i : Info). result_and_then (seen i) (next at.first)) at.is_first.is
      ∙ ap (λ (o : PeResult (Option EpilogLeft)). result_and_then o (next at.first)) is

  pub read-epilog : (found : Option Epilog) (epilog : Epilog) → IsEpilogRead (epilog_at file (row_code function info.chained) info.frame_register address is_first) found → found ≡ Some epilog
      → (undo : ToUndo) × IsRead (undoing.Epilog info.frame_register epilog) undo × (to_undo_in file function address is_first ≡ Ok undo)
  read-epilog found epilog read is =
      let (pops, popped, left) = subst (λ (o : Option Epilog). IsEpilogRead (epilog_at file (row_code function info.chained) info.frame_register address is_first) o) is read in
      let value : EpilogLeft = record { adjustment = epilog.adjustment; pops = pops } in (
        ByEpilog info.frame_register value,
        (pops, popped, refl),
        from-epilog (Ok (Some value)) left ∙ ap (λ (r : Option Reg). let o : PeResult ToUndo = Ok (ByEpilog r value) in o) same_register,
      )

  module _ (found : Option Epilog) (read : IsEpilogRead (epilog_at file (row_code function info.chained) info.frame_register address is_first) found) (is : found ≡ None) where
    from-codes : (codes : PeResult CodesToUndo) → codes_to_undo (unwind_info_memory file) at.first (address - function.begin_address) ≡ codes
        → to_undo_in file function address is_first ≡ result_and_then codes (λ c. Ok (ByCodes c))
    from-codes codes came =
        from-epilog (Ok None) (subst (λ (o : Option Epilog). IsEpilogRead (epilog_at file (row_code function info.chained) info.frame_register address is_first) o) is read)
        ∙ ap (λ (o : PeResult CodesToUndo). result_and_then o (λ c. Ok (ByCodes c))) came

    pub read-codes : (codes : PrologCodes) → ((first : Info) → IsFirst info first → (operations : List UnwindOperation) × (operations_left codes.left ≡ Ok operations)
        × (codes_to_undo (unwind_info_memory file) first (address - function.begin_address) ≡ Ok (record { frame = codes.frame; operations = operations })))
        → (undo : ToUndo) × IsRead (undoing.Codes codes) undo × (to_undo_in file function address is_first ≡ Ok undo)
    read-codes codes listed =
        let (operations, left, came) = listed at.first at.is_first in
        let value : CodesToUndo = record { frame = codes.frame; operations = operations } in (
          ByCodes value,
          (operations, left, refl),
          from-codes (Ok value) came,
        )

    pub refused-codes : (e : PeUnwinderError) → ((first : Info) → IsFirst info first → codes_to_undo (unwind_info_memory file) first (address - function.begin_address) ≡ Err e)
        → to_undo_in file function address is_first ≡ Err e
    refused-codes e refused = from-codes (Err e) (refused at.first at.is_first)
