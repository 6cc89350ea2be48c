-- The numbers of the names of functions by their symbols.
use Rattle.std.proofs.Common.{◌≡◌, ◌∙◌, ℕ, true, false, List, Vec, sym, ap, subst, Some}
use Rattle.std.proofs.lemmas.Slice.Eq.{bytes_eq-Decides}
use Rattle.std.specs.Global.{Global}
use Rattle.std.specs.Map.{KeepsOthers, lookup}
use Rattle.std.specs.Prelude.{bytes_eq}
use Rattle.folded_stacks.specs.FrameNames.{HasAtMostOneMore}
use Rattle.list_laws.proofs.Laws.{by_case}
use Rattle.fold_stacks.specs.FrameNames.{HasName}
use Rattle.fold_stacks.specs.FrameTexts.{function_text}
use Rattle.fold_stacks.specs.Symbols.{SymbolsAreNamed, number_at}
use Rattle.fold_stacks.proofs.Kept.{kept_numbers}

-- with a name more
pub symbols-kept : (old new : List (List ℕ)) (name : List ℕ) (entries : List (Vec ℕ Global × ℕ)) → HasAtMostOneMore old new name → SymbolsAreNamed old entries
    → SymbolsAreNamed new entries
symbols-kept old new name entries more are symbol number is = kept_numbers old new name more number (function_text symbol) (are symbol number is)

-- with the number of a symbol more
pub symbols-put : (names : List (List ℕ)) (old new : List (Vec ℕ Global × ℕ)) (key : Vec ℕ Global) (number : ℕ) → lookup (λ k. bytes_eq key.items k.items) new ≡ Some number
    → KeepsOthers (λ x y. bytes_eq x.items y.items) (λ y. bytes_eq key.items y.items) old new → HasName names number (function_text key.items)
    → SymbolsAreNamed names old → SymbolsAreNamed names new
unfolding KeepsOthers
symbols-put names old new key number found others here are symbol n is =
    by_case (bytes_eq symbol key.items)
    (λ same. let text : symbol ≡ key.items = (bytes_eq-Decides symbol key.items).0 same in
    let there : number_at new key.items ≡ Some n = subst (λ (s : List ℕ). number_at new s ≡ Some n) text is in
    let number_is : Some number ≡ Some n = sym found ∙ there in
    let n_is : number ≡ n = cc in
    subst (λ (k : ℕ). HasName names k (function_text symbol)) n_is (subst (λ (s : List ℕ). HasName names number (function_text s)) (sym text) here))
    (λ differ. are symbol n
    (sym (others (λ k. bytes_eq symbol k.items) (λ x y h. ap (λ (s : List ℕ). bytes_eq s y.items) ((bytes_eq-Decides symbol x.items).0 h))
    (λ k h. ap (bytes_eq symbol) (sym ((bytes_eq-Decides key.items k.items).0 h)) ∙ differ)) ∙ is))
