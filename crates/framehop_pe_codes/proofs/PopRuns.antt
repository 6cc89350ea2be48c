-- The pops that some bytes begin with, and those that are left after them.
use Rattle.std.proofs.Common.{◌≡◌, ◌∙◌, ℕ, ◌+◌, ◌≤◌, true, false, List, [], ◌∷◌, ◌++◌, length, take, drop, refl, ap, sym, arith, append-nil, append_assoc, drop-drop, length-drop, take-add}
use Rattle.std.specs.Prelude.{Option, Some, None}
use Rattle.std.specs.List.{flat_map}
use Rattle.std.specs.Option.{option_map}
use Rattle.std.proofs.lemmas.Grind.{flat_map-append}
use Rattle.framehop_registers.specs.declared.x86_64.unwindregs.Reg.{Reg}
use Rattle.framehop_pe_codes.specs.EpilogEnds.{is_end}
use Rattle.framehop_pe_codes.specs.EpilogViews.{AreFirstPops}
use Rattle.framehop_pe_codes.specs.Epilogs.{pop_bytes, pop_of, pops_of, pops_until}
use Rattle.framehop_pe_codes.specs.declared.ends.EpilogEnds.{EpilogEnds}
use Rattle.framehop_pe_codes.proofs.PopBytes.{pop-spelled, pops-read}
use Rattle.framehop_pe_codes.proofs.Pops.{pops-cons, pops-end, pops-other}

abbrev after : List Reg → Option (List Reg) → Option (List Reg)
after done left = option_map (λ more. done ++ more) left

-- so many bytes are pops
pub record IsPopRun (ends : EpilogEnds) (bytes : List ℕ) (size : ℕ) : Type 0 where
  pub done : List Reg
  pub within : size ≤ length bytes
  pub spelled : take size bytes ≡ flat_map pop_bytes done
  pub left : pops_until (is_end ends) bytes ≡ after done (pops_until (is_end ends) (drop size bytes))

none-done : (left : Option (List Reg)) → left ≡ after [] left
none-done None = refl
none-done (Some more) = refl

pub none-popped : (ends : EpilogEnds) (bytes : List ℕ) → IsPopRun ends bytes 0
none-popped ends bytes = record { done = []; within = omega arith; spelled = refl; left = none-done (pops_until (is_end ends) bytes) }

one-after : (done : List Reg) (register : Reg) (left : Option (List Reg)) → after done (option_map (λ more. register ∷ more) left) ≡ after (done ++ register ∷ []) left
one-after done register None = refl
one-after done register (Some more) = ap (λ (all : List Reg). Some all) (sym (append_assoc done (register ∷ []) more))

-- .. and those of one more
pub one-more : (ends : EpilogEnds) (bytes : List ℕ) (size : ℕ) (register : Reg) (more : ℕ) → IsPopRun ends bytes size
    → is_end ends (drop size bytes) ≡ false → pop_of (drop size bytes) ≡ Some (register, more) → more ≤ length (drop size bytes)
    → IsPopRun ends bytes (size + more)
one-more ends bytes size register more run goes_on found fits = record {
  done = run.done ++ register ∷ [];
  within = let len = length-drop size bytes in let before = run.within in omega arith;
  spelled =
      take-add size more bytes ∙ ap (λ (l : List ℕ). l ++ take more (drop size bytes)) run.spelled
      ∙ ap (λ (l : List ℕ). flat_map pop_bytes run.done ++ l) (pop-spelled (drop size bytes) register more found ∙ sym (append-nil (pop_bytes register)))
      ∙ sym (flat_map-append pop_bytes run.done (register ∷ []));
  left =
      run.left ∙ ap (after run.done) (pops-cons (is_end ends) (drop size bytes) register more goes_on found)
      ∙ one-after run.done register (pops_until (is_end ends) (drop more (drop size bytes)))
      ∙ ap (λ (l : List ℕ). after (run.done ++ register ∷ []) (pops_until (is_end ends) l)) (drop-drop more size bytes);
}

-- they are all pops up to the end
pub all-popped : (ends : EpilogEnds) (bytes : List ℕ) (size : ℕ) → IsPopRun ends bytes size → is_end ends (drop size bytes) ≡ true → AreFirstPops ends bytes size
all-popped ends bytes size run end = record {
  pops = run.done;
  within = run.within;
  popped = ap pops_of run.spelled ∙ pops-read run.done;
  is =
      run.left ∙ ap (after run.done) (pops-end (is_end ends) (drop size bytes) end)
      ∙ ap (λ (all : List Reg). Some all) (append-nil run.done);
}

-- .. or else none are
pub not-popped : (ends : EpilogEnds) (bytes : List ℕ) (size : ℕ) → IsPopRun ends bytes size → is_end ends (drop size bytes) ≡ false
    → pop_of (drop size bytes) ≡ None → pops_until (is_end ends) bytes ≡ None
not-popped ends bytes size run goes_on none = run.left ∙ ap (after run.done) (pops-other (is_end ends) (drop size bytes) goes_on none)
