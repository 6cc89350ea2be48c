-- FDEs with their CIEs.
use Rattle.std.proofs.Common.{inl, inr, false, Result, Ok, Err}
use Rattle.dwarf_constants.specs.declared.error.Error.{Error}
use Rattle.dwarf_endianity.specs.Answers.{Gives}
use Rattle.dwarf_frame_entries.specs.Memory.{MayGive}

-- an answer for which no memory is wanted
pub wants-none : {X Y : Type 0} (view : X → Y) (r : Result X Error) (answer : Result Y Error) → MayGive false view r answer → Gives view r answer
wants-none view (Ok x) answer h = h
wants-none view (Err e) answer (inl h) = h
wants-none view (Err e) answer (inr wanted) = let never = wanted.0 in cc
