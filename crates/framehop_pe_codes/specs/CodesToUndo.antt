-- What is undone of a prolog: the operations, and what saved registers are counted from.
use Rattle.std.specs.Prelude.{ℕ, Bool, true, false, List, [], ◌∷◌, Ok}
use Rattle.framehop_pe_codes.specs.Infos.{Info, chain_after, operations_to_undo}
use Rattle.framehop_pe_codes.specs.Refusals.{PeResult, result_and_then}
use Rattle.framehop_pe_codes.specs.Sections.{Memory}
use Rattle.framehop_pe_codes.specs.declared.operation.UnwindOperation.{UnwindOperation}
use Rattle.framehop_pe_codes.specs.declared.operation.UnwindOperation.TheVariants.{SetFrame}
use Rattle.framehop_pe_codes.specs.declared.machine.FrameBase.{FrameBase}

-- One of the operations sets a frame.
abbrev pub sets_frame : List UnwindOperation → Bool
sets_frame [] = false
sets_frame (SetFrame ∷ operations) = true
sets_frame (operation ∷ operations) = sets_frame operations

-- The base of a frame: the frame register of the first info, and whether one of the operations to undo sets it.
abbrev pub frame_of : Info → List UnwindOperation → FrameBase
frame_of first operations = record { register = first.frame_register; offset = first.frame_offset; is_set = sets_frame operations }

-- What is undone of a prolog.
pub record CodesToUndo : Type 0 where
  pub frame : FrameBase
  pub operations : List UnwindOperation

-- The operations to undo of a chain by its first info, or the first refusal of an info after it.
abbrev pub operations_from : Memory → Info → ℕ → PeResult (List UnwindOperation)
operations_from memory first offset = result_and_then (chain_after memory first) (λ others. Ok (operations_to_undo offset first others))

-- What is undone of it.
abbrev pub codes_to_undo : Memory → Info → ℕ → PeResult CodesToUndo
codes_to_undo memory first offset =
    result_and_then (operations_from memory first offset) (λ operations.
    Ok (record { frame = frame_of first operations; operations = operations }))
