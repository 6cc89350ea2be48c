-- Texts that are written one after the other.
use Rattle.std.proofs.Common.{◌≡◌, ℕ, Bool, true, false, IsTrue, ◌↔◌, List, [], ◌++◌, Option, Result, Ok, Err, refl, subst}
use Rattle.std.specs.Prelude.{IsErr, IsErrOf}
use Rattle.std.specs.Io.KnownBytes.{Appends}
use Rattle.json_program.proofs.Laws.{begun_line, fails_after, written_all, written_more}
use Rattle.json_program.specs.Stream.{AppendsPrefix, IsWritten, WritesText}
use Rattle.json_program.specs.declared.status.RunError.{RunError}
use Rattle.json_program.specs.declared.status.RunError.TheVariants.{Write}

-- the last text, after those before it
pub writes_last : {T E : Type 0} (result : Result T E) (old mid new : Option (List ℕ)) (left last all : List ℕ) → IsWritten old mid left all
    → left ≡ last ++ [] → WritesText result mid new last → WritesText result old new all
writes_last (Ok value) old mid new left last all written is writes = record {
  whole = written_all old new all (written_more old mid new last [] all (subst (λ (t : List ℕ). IsWritten old mid t all) is written) writes.whole);
  prefix = tt;
}
writes_last (Err error) old mid new left last all written is writes = record {
  whole = tt;
  prefix = begun_line old mid new last [] all (subst (λ (t : List ℕ). IsWritten old mid t all) is written) writes.prefix;
}

-- a call that fails in a text, after those before it
pub fails_in : {T E : Type 0} (result : Result T E) (old mid new : Option (List ℕ)) (left text rest all : List ℕ) → IsErr result
    → IsWritten old mid left all → left ≡ text ++ rest → AppendsPrefix mid new text → WritesText result old new all
fails_in result old mid new left text rest all failed written is begun =
    fails_after result old new all failed (begun_line old mid new text rest all (subst (λ (t : List ℕ). IsWritten old mid t all) is written) begun)

-- a text more
pub writes_more : (old mid new : Option (List ℕ)) (left text rest all : List ℕ) → IsWritten old mid left all → left ≡ text ++ rest → Appends mid new text
    → IsWritten old new rest all
writes_more old mid new left text rest all written is added = written_more old mid new text rest all (subst (λ (t : List ℕ). IsWritten old mid t all) is written) added

-- after a call that returned a value the sink hasn't failed
pub not_failed_with : {T : Type 0} (value : T) (failed : Bool) → (IsErrOf {T = T} {E = RunError} (Ok value) Write ↔ IsTrue failed) → failed ≡ false
not_failed_with {T} value true reports = let is : ◌≡◌ {A = Result T RunError} (Ok value) (Err Write) = reports.1 refl in cc
not_failed_with value false reports = refl
