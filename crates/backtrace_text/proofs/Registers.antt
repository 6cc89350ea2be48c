-- The line of registers.
use Rattle.std.proofs.Common.{◌≡◌, ◌≢◌, ℕ, List, [], ◌∷◌, ◌++◌, length, map, refl, sym, ap, ◌∙◌, append_assoc, Result, Ok, Err, OnOk}
use Rattle.std.specs.Prelude.{codes}
use Rattle.std.specs.List.{flat_map}
use Rattle.std.specs.declared.alloc.AllocError.{AllocError}
use Rattle.json_program.specs.Lines.{line}
use Rattle.backtrace_text.specs.Frames.{Register, register_text, registers_text}

-- registers that are some have a line
pub registers_text-some : {X : Type 0} (view : X → Register) (xs : List X) → length xs ≢ 0
    → registers_text (map view xs) ≡ line (codes "   " ++ flat_map register_text (map view xs))
registers_text-some view [] some = absurd (some refl)
registers_text-some view (x ∷ xs) some = refl

-- the line is written piece by piece
pub writes_registers : {X : Type 0} (view : X → Register) (xs : List X) (answer : Result (Unit {0}) AllocError) (old begun named new : List ℕ)
    → length xs ≢ 0 → begun ≡ old ++ codes "   " → named ≡ begun ++ flat_map register_text (map view xs)
    → OnOk answer (new ≡ named ++ 10 ∷ []) → OnOk answer (new ≡ old ++ registers_text (map view xs))
writes_registers view xs (Err error) old begun named new some spaces each end = tt
writes_registers {X} view xs (Ok done) old begun named new some spaces each end =
    end
    ∙ ap (λ (t : List ℕ). t ++ 10 ∷ []) (each ∙ ap (λ (t : List ℕ). t ++ flat_map register_text (map view xs)) spaces ∙ append_assoc old (codes "   ") (flat_map register_text (map view xs)))
    ∙ append_assoc old (codes "   " ++ flat_map register_text (map view xs)) (10 ∷ [])
    ∙ ap (λ (t : List ℕ). old ++ t) (sym (registers_text-some view xs some))
