-- What the look-up of a row comes to, by that of its FDE.
use Rattle.std.proofs.Common.{◌≡◌, ◌⊎◌, inl, inr, ℕ, Bool, true, false, Result, Ok, Err, ap, ◌∙◌}
use Rattle.std.specs.Borrow.{Bor}
use Rattle.std.specs.Prelude.{IsTrue}
use Rattle.dwarf_constants.specs.declared.error.Error.{Error}
use Rattle.dwarf_constants.specs.declared.error.Error.TheVariants.{OutOfMemory}
use Rattle.dwarf_readers.specs.Memory.{NeverWantsMemory}
use Rattle.dwarf_readers.specs.Stretch.{◌>>=◌}
use Rattle.dwarf_frame_rows.specs.declared.row.UnwindTableRow.{UnwindTableRow}
use Rattle.dwarf_frame_rows.specs.Row.{Row}
use Rattle.dwarf_frame_instructions.specs.Execution.{IsRefusal}
use Rattle.dwarf_frame_instructions.specs.ProgramRows.{IsRowFor}
use Rattle.dwarf_frame_entries.specs.Entries.{Fde}

-- there is no FDE
pub no-fde : (found : Result Fde Error) (next : Fde → Result (Row ℕ) Error) (may_allocate : Bool) (e : Error) (Fixed : Type 0) → (found ≡ Err e) ⊎ (IsTrue may_allocate × (e ≡ OutOfMemory))
    → IsRefusal (Fixed × (may_allocate ≡ false)) e → (found >>= next) ≡ Err e
no-fde found next may_allocate e Fixed (inl is) told = ap (λ (x : Result Fde Error). x >>= next) is
no-fde found next true e Fixed (inr wants) (inl never) = cc
no-fde found next false e Fixed (inr wants) (inl never) = let wanted = wants.0 in cc
no-fde found next may_allocate e Fixed (inr wants) (inr other) = absurd (other wants.1)

-- what refuses in a storage that takes no memory refuses in any
fixed-refuses : (Fixed Never : Type 0) (e : Error) → IsRefusal (Fixed × Never) e → IsRefusal Fixed e
fixed-refuses Fixed Never e (inl both) = inl both.0
fixed-refuses Fixed Never e (inr other) = inr other

-- the row is that of the FDE
pub fde-row : {O L : Type 0} (number : O → ℕ) (Fixed Never : Type 0) (whole answer : Result (Row ℕ) Error) (result : Result (Bor (UnwindTableRow O L)) Error) → whole ≡ answer
    → IsRowFor number Fixed answer result → IsRowFor number (Fixed × Never) whole result
fde-row number Fixed Never whole answer (Ok shown) is h = is ∙ h
fde-row number Fixed Never whole answer (Err e) is h = λ told. is ∙ h (fixed-refuses Fixed Never e told)

-- by a function that doesn't allocate, a lookup that never says that memory ran out fails for another reason
pub found-with-memory : {A : Type 0} {answer : Result A Error} → NeverWantsMemory answer → (e : Error) → (answer ≡ Err e) ⊎ (IsTrue false × (e ≡ OutOfMemory)) → e ≡ OutOfMemory → ⊥
found-with-memory memory e (inl is) same = memory.never (is ∙ ap (λ (x : Error). Err x) same)
found-with-memory memory e (inr wanted) same = let never = wanted.0 in cc
