-- Runs: the part of a document that is read has the text of the whole.
use Rattle.std.proofs.Common.{◌≡◌, ◌+◌, ◌<◌, ℕ, List, length, take, Option, Some, None, inl, inr, ap, arith}
use Rattle.std.specs.Prelude.{IfSome}
use Rattle.std.proofs.lemmas.List.{length-take, take_all}
use Rattle.std.proofs.lemmas.Bool.{cases_lt}
use Rattle.json_program.specs.declared.transfer.TheConstants.{DOCUMENT_LIMIT}

-- what holds of a value holds of it in another way
pub if_some_map : {A : Type 0} (o : Option A) (P Q : A → Type 0) → ((x : A) → P x → Q x) → IfSome o P → IfSome o Q
if_some_map (Some x) P Q f h = f x h
if_some_map None P Q f h = tt

-- what holds of every value holds of the one that there is
pub if_some_always : {A : Type 0} (o : Option A) (P : A → Type 0) → ((x : A) → P x) → IfSome o P
if_some_always (Some x) P f = f x
if_some_always None P f = tt

-- if every document that is too long has one text, the part that is read has the text of the whole
pub part_says : {A : Type 0} (says : List ℕ → A)
    → ((one other : List ℕ) → DOCUMENT_LIMIT < length one → DOCUMENT_LIMIT < length other → says one ≡ says other)
    → (all : List ℕ) → says (take (DOCUMENT_LIMIT + 1) all) ≡ says all
part_says says alike all = elim (cases_lt DOCUMENT_LIMIT (length all)) [
  | inl more ↦ alike (take (DOCUMENT_LIMIT + 1) all) all (omega (arith, length-take (DOCUMENT_LIMIT + 1) all)) more
  | inr short ↦ ap says (take_all (DOCUMENT_LIMIT + 1) all (omega arith))
]
