-- A callback whose state no read changes.
use Rattle.std.proofs.Common.{◌≡◌, ℕ, ◌<◌, ◌^◌, List, [], ◌∷◌, Result, sym, subst}
use Rattle.framehop_registers.specs.Callback.{Words, AnswersBy, read_answer, Leads}

-- no reads change it
stays : {S : Type 0} (step : S → ℕ → Result ℕ (Unit {0}) → S → Type 0) (state : S) → ((at : ℕ) (r : Result ℕ (Unit {0})) (next : S) → at < 2 ^ 64 → step state at r next → state ≡ next) → (reads : List ℕ) (last : S) → Leads step state reads last → state ≡ last
stays step state keeps [] last same = same
stays {S} step state keeps (at ∷ more) last (fits, r, mid, stepped, rest) =
    stays step state keeps more last (subst (λ (m : S). Leads step m more last) (sym (keeps at r mid fits stepped)) rest)

-- a callback that answers by words answers by them after any reads
pub answers_always : {S : Type 0} (step : S → ℕ → Result ℕ (Unit {0}) → S → Type 0) (state : S) (words : Words) → ((at : ℕ) (r : Result ℕ (Unit {0})) (next : S) → at < 2 ^ 64 → step state at r next → state ≡ next) → ((at : ℕ) (r : Result ℕ (Unit {0})) (next : S) → at < 2 ^ 64 → step state at r next → r ≡ read_answer (words at)) → AnswersBy step state words
answers_always {S} step state words keeps answers reads last leads at r next fits stepped =
    answers at r next fits (subst (λ (s : S). step s at r next) (sym (stays step state keeps reads last leads)) stepped)
