-- Laws of pop lists, and of calls that may read the stack. Each is the contract of a function of the crate.
use Rattle.std.proofs.Common.{◌≡◌, ℕ, ◌<◌, ◌^◌, List, [], ◌∷◌, ◌++◌, refl, sym, subst}
use Rattle.std.specs.Prelude.{Result}
use Rattle.framehop_registers.specs.Callback.{Words, read_answer, OverWords, Leads}
pub use Rattle.framehop_registers.proofs.OrderNumbers.{pop_list-begins, pop_list-fits, pop_list-order_number, order-pop_list, order_number-pop_list, same_order}

module _ {S : Type 0} {step : S → ℕ → Result ℕ (Unit {0}) → S → Type 0} where
  -- a call that doesn't read
  pub over_none : {state : S} {P : Words → Type 0} → ((words : Words) → P words) → OverWords step state state P
  over_none says = record { said = λ words _. says words; still = λ words answers. answers }

  -- one read
  pub over_read : {old new : S} {P : Words → Type 0} (at : ℕ) (r : Result ℕ (Unit {0})) → at < 2 ^ 64 → step old at r new
      → ((words : Words) → r ≡ read_answer (words at) → P words) → OverWords step old new P
  over_read at r fits call says = record {
    said = λ words answers. says words (answers [] _ refl at r _ fits call);
    still = λ words answers reads last leads. answers (at ∷ reads) last (fits, r, _, call, leads);
  }

  -- what follows from what a call says
  pub over_weaker : {old new : S} {P Q : Words → Type 0} → OverWords step old new P → ((words : Words) → P words → Q words)
      → OverWords step old new Q
  over_weaker call follows = record { said = λ words answers. follows words (call.said words answers); still = call.still }

  -- two calls, one after the other
  pub over_both : {old mid new : S} {P Q R : Words → Type 0} → OverWords step old mid P → OverWords step mid new Q
      → ((words : Words) → P words → Q words → R words) → OverWords step old new R
  over_both first second follows = record {
    said = λ words answers. follows words (first.said words answers) (second.said words (first.still words answers));
    still = λ words answers. second.still words (first.still words answers);
  }

-- one read
pub leads_one : {S : Type 0} (step : S → ℕ → Result ℕ (Unit {0}) → S → Type 0) (old new : S) (at : ℕ) (r : Result ℕ (Unit {0}))
    → at < 2 ^ 64 → step old at r new → Leads step old (at ∷ []) new
leads_one step old new at r fits call = (fits, r, new, call, refl)

-- reads, and then more of them
pub leads_both : {S : Type 0} (step : S → ℕ → Result ℕ (Unit {0}) → S → Type 0) (reads more : List ℕ) (old mid new : S)
    → Leads step old reads mid → Leads step mid more new → Leads step old (reads ++ more) new
leads_both step [] more old mid new first second = subst (λ s. Leads step s more new) (sym first) second
leads_both step (at ∷ reads) more old mid new (fits, r, next, call, first) second =
    (fits, r, next, call, leads_both step reads more next mid new first second)
