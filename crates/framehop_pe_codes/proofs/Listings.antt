-- What is undone of a chain, once all of it is read.
use Rattle.std.proofs.Common.{◌≡◌, ◌∙◌, ℕ, Bool, List, ap, sym, refl}
use Rattle.std.specs.Prelude.{Ok, Err}
use Rattle.framehop_errors.specs.declared.pe.PeUnwinderError.{PeUnwinderError}
use Rattle.framehop_pe_codes.specs.CodesToUndo.{CodesToUndo, codes_to_undo, frame_of, operations_from, sets_frame}
use Rattle.framehop_pe_codes.specs.InfoViews.{IsFirst}
use Rattle.framehop_pe_codes.specs.Infos.{Info}
use Rattle.framehop_pe_codes.specs.Refusals.{PeResult, result_and_then}
use Rattle.framehop_pe_codes.specs.Sections.{Memory}
use Rattle.framehop_pe_codes.specs.declared.info.UnwindInfo.{UnwindInfo}
use Rattle.framehop_pe_codes.specs.declared.machine.FrameBase.{FrameBase}
use Rattle.framehop_pe_codes.specs.declared.operation.UnwindOperation.{UnwindOperation}

abbrev pub Operations : Type 0
Operations = PeResult (List UnwindOperation)

abbrev pub listed_as : FrameBase → List UnwindOperation → PeResult CodesToUndo
listed_as frame operations = Ok (record { frame = frame; operations = operations })

abbrev frame_read : UnwindInfo → Bool → FrameBase
frame_read info is_set = record { register = info.frame_register; offset = info.frame_offset; is_set = is_set }

record IsReadThrough (operations : Operations) (is_set : Bool) : Type 0 where
  all : List UnwindOperation
  read : operations ≡ Ok all
  sets : is_set ≡ sets_frame all

read-through : (operations : Operations) (is_set : Bool) → Ok is_set ≡ result_and_then operations (λ l. Ok (sets_frame l)) → IsReadThrough operations is_set
read-through (Ok all) is_set is = record { all = all; read = refl; sets = cc }
read-through (Err e) is_set is = cc

not-through : (operations : Operations) (e : PeUnwinderError) → Err e ≡ result_and_then operations (λ l. Ok (sets_frame l)) → operations ≡ Err e
not-through (Ok all) e is = cc
not-through (Err f) e is = let same : e ≡ f = cc in ap (λ (x : PeUnwinderError). let o : Operations = Err x in o) (sym same)

-- the frame that the code makes
frame-made : (info : UnwindInfo) (first : Info) (all : List UnwindOperation) (is_set : Bool) → IsFirst info first → is_set ≡ sets_frame all
    → frame_read info is_set ≡ frame_of first all
frame-made info first all is_set is_first sets =
    ap (frame_read info) sets ∙ ap (λ (i : Info). frame_of i all) (sym is_first.is)

module _ (memory : Memory) (first : Info) (offset : ℕ) (operations : Operations) (came : operations ≡ operations_from memory first offset) where
  pub chain-refused : (e : PeUnwinderError) → Err e ≡ result_and_then operations (λ l. Ok (sets_frame l)) → codes_to_undo memory first offset ≡ Err e
  chain-refused e fails =
      ap (λ (o : Operations). result_and_then o (λ all. listed_as (frame_of first all) all)) (sym came ∙ not-through operations e fails)

  pub chain-read : (info : UnwindInfo) (is_set : Bool) → IsFirst info first → Ok is_set ≡ result_and_then operations (λ l. Ok (sets_frame l))
      → (all : List UnwindOperation) × (operations ≡ Ok all) × (codes_to_undo memory first offset ≡ listed_as (frame_read info is_set) all)
  chain-read info is_set is_first tested =
      let through = read-through operations is_set tested in (
        through.all,
        through.read,
        ap (λ (o : Operations). result_and_then o (λ all. listed_as (frame_of first all) all)) (sym came ∙ through.read)
            ∙ sym (ap (λ (f : FrameBase). listed_as f through.all) (frame-made info first through.all is_set is_first through.sets)),
      )
