-- Tokens that are added one after the other.
use Rattle.std.proofs.Common.{◌≡◌, List, [], ◌∷◌, ◌++◌, ap, ◌∙◌, append_assoc, Result, Ok, Err, OnOk}
use Rattle.json.specs.Token.{Token}
use Rattle.json.specs.Written.{Written}
use Rattle.backtrace_json.specs.Writers.{Adds}

-- a call adds tokens behind others
pub adds_after : {T E : Type 0} (result : Result T E) (old mid new : Written) (first second : List Token)
    → mid.tokens ≡ old.tokens ++ first → mid.before ≡ old.before → Adds result mid new second → Adds result old new (first ++ second)
adds_after (Ok value) old mid new first second before kept adds = record {
  tokens = adds.tokens ∙ ap (λ (ts : List Token). ts ++ second) before ∙ append_assoc old.tokens first second;
  before = adds.before ∙ kept;
}
adds_after (Err error) old mid new first second before kept adds = record { tokens = tt; before = tt }

-- a token, some tokens and another token
two_keys : (old one value two : List Token) (first second : Token) (tokens : List Token) → one ≡ old ++ first ∷ [] → value ≡ one ++ tokens
    → two ≡ value ++ second ∷ [] → two ≡ old ++ (first ∷ tokens ++ second ∷ [])
two_keys old one value two first second tokens begun added ended =
    ended ∙ ap (λ (ts : List Token). ts ++ second ∷ []) (added ∙ ap (λ (ts : List Token). ts ++ tokens) begun) ∙ simp append_assoc

-- two members of an object are added, key by key
pub adds_two_members : {T E : Type 0} (result : Result T E) (old one value two new : Written) (first second : Token) (firsts seconds : List Token)
    → one.tokens ≡ old.tokens ++ first ∷ [] → value.tokens ≡ one.tokens ++ firsts → two.tokens ≡ value.tokens ++ second ∷ []
    → one.before ≡ old.before → value.before ≡ one.before → two.before ≡ value.before → Adds result two new seconds
    → Adds result old new (first ∷ firsts ++ second ∷ seconds)
adds_two_members (Ok done) old one value two new first second firsts seconds begun added ended kept_one kept_value kept_two adds = record {
  tokens =
      adds.tokens ∙ ap (λ (ts : List Token). ts ++ seconds) (two_keys old.tokens one.tokens value.tokens two.tokens first second firsts begun added ended)
      ∙ simp append_assoc;
  before = adds.before ∙ kept_two ∙ kept_value ∙ kept_one;
}
adds_two_members (Err error) old one value two new first second firsts seconds begun added ended kept_one kept_value kept_two adds =
    record { tokens = tt; before = tt }

-- Tokens were added, and what stood before them was kept.
pub record Added (old new : Written) (tokens : List Token) : Type 0 where
  pub added : new.tokens ≡ old.tokens ++ tokens
  pub kept : new.before ≡ old.before

-- some tokens
pub added_first : (old new : Written) (tokens : List Token) → new.tokens ≡ old.tokens ++ tokens → new.before ≡ old.before → Added old new tokens
added_first old new tokens added kept = record { added = added; kept = kept }

-- some tokens more
pub added_more : (old mid new : Written) (first second : List Token) → Added old mid first → new.tokens ≡ mid.tokens ++ second → new.before ≡ mid.before
    → Added old new (first ++ second)
added_more old mid new first second begun more kept = record {
  added = more ∙ ap (λ (ts : List Token). ts ++ second) begun.added ∙ append_assoc old.tokens first second;
  kept = kept ∙ begun.kept;
}

-- a call adds the last token
pub adds_last : {T E : Type 0} (result : Result T E) (old mid new : Written) (first : List Token) (last : Token) (all : List Token) → Added old mid first
    → OnOk result (new.tokens ≡ mid.tokens ++ last ∷ []) → new.before ≡ mid.before → first ++ last ∷ [] ≡ all → Adds result old new all
adds_last (Ok value) old mid new first last all begun more kept is = record {
  tokens = more ∙ ap (λ (ts : List Token). ts ++ last ∷ []) begun.added ∙ append_assoc old.tokens first (last ∷ []) ∙ ap (λ (ts : List Token). old.tokens ++ ts) is;
  before = kept ∙ begun.kept;
}
adds_last (Err error) old mid new first last all begun more kept is = record { tokens = tt; before = tt }
