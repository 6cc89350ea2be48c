-- The lines of a list, by its first one.
use Rattle.std.proofs.Common.{◌≡◌, ℕ, suc, ◌+◌, ◌<◌, ◌≤◌, List, [], ◌∷◌, ◌++◌, length, take, drop, Option, Some, None, refl, sym, ap, ◌∙◌, append_assoc, length-drop, arith}
use Rattle.std.specs.List.{cons_option, position_or_len}
use Rattle.std.specs.Option.{option_to_list}
use Rattle.std.specs.Prelude.{◌==◌, nat_lt}
use Rattle.std.proofs.lemmas.Bool.{ltb-false, ltb-true}
use Rattle.list_laws.proofs.Laws.{by_case}
use Rattle.kernel_symbols.specs.Lines.{first_line, lines_of, symbol_in, symbols_of, SymbolParts}

-- how many bytes the first line has
abbrev size_of : List ℕ → ℕ
size_of list = position_or_len (λ byte. byte == 10) list

-- the rest of a list with a byte in front
rest-behind : (byte size : ℕ) (list : List ℕ) → drop (1 + size + 1) (byte ∷ list) ≡ drop (size + 1) list
rest-behind byte size list = let more : 1 + size + 1 ≡ suc (size + 1) = omega arith in rw more refl

front-behind : (byte size : ℕ) (list : List ℕ) → take (1 + size) (byte ∷ list) ≡ byte ∷ take size list
front-behind byte size list = let more : 1 + size ≡ suc size = omega arith in rw more refl

-- a line that ends before the list does
part : (list : List ℕ) → size_of list < length list → lines_of list ≡ take (size_of list) list ∷ lines_of (drop (size_of list + 1) list)
part [] within = absurd (omega arith)
part (byte ∷ list) within =
    by_case (byte == 10)
    (λ is. rw is refl)
    (λ is.
    let short : 1 + size_of list < suc (length list) = rw is at within in
    let others = part list (omega arith) in
    rw (is, others, front-behind byte (size_of list) list, rest-behind byte (size_of list) list) refl)

-- one that ends with the list
whole : (list : List ℕ) → length list ≤ size_of list → lines_of list ≡ list ∷ []
whole [] within = refl
whole (byte ∷ list) within =
    by_case (byte == 10)
    (λ is. let none : suc (length list) ≤ 0 = rw is at within in absurd (omega arith))
    (λ is.
    let short : suc (length list) ≤ 1 + size_of list = rw is at within in
    let others = whole list (omega arith) in
    rw (is, others) refl)

-- a symbol in front of others, if there is one
in-front : (found : Option SymbolParts) (others : List SymbolParts) → cons_option found others ≡ option_to_list found ++ others
in-front None others = refl
in-front (Some symbol) others = refl

-- the symbols of a list are the one of its first line, if it has one, and those of the rest
symbols-first : (list : List ℕ) → symbols_of list ≡ option_to_list (symbol_in (first_line list).bytes) ++ symbols_of (first_line list).rest
symbols-first list =
    by_case (nat_lt (size_of list) (length list))
    (λ is. rw (is, part list (ltb-true (size_of list) (length list) is)) (in-front (symbol_in (take (size_of list) list)) (symbols_of (drop (size_of list + 1) list))))
    (λ is. rw (is, whole list (ltb-false (size_of list) (length list) is)) (in-front (symbol_in list) []))

-- the symbols so far, and those of a list, with the one of its first line among the first
pub symbols-next : (before : List SymbolParts) (list : List ℕ)
    → (before ++ option_to_list (symbol_in (first_line list).bytes)) ++ symbols_of (first_line list).rest ≡ before ++ symbols_of list
symbols-next before list =
    append_assoc before (option_to_list (symbol_in (first_line list).bytes)) (symbols_of (first_line list).rest)
    ∙ ap (λ (symbols : List SymbolParts). before ++ symbols) (sym (symbols-first list))

-- what follows the first line of a list is shorter
pub rest-shorter : (list : List ℕ) → 0 < length list → length (first_line list).rest < length list
rest-shorter list some =
    by_case (nat_lt (size_of list) (length list))
    (λ is. rw is (omega (arith, length-drop (size_of list + 1) list)))
    (λ is. rw is some)
