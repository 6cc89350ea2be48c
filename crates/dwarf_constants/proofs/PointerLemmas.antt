-- Which bytes are encodings of pointers, over all 256 of them.
use Rattle.std.proofs.Common.{◌≡◌, ℕ, zero, suc, ◌<◌, Bool, true, false, not, ◌==◌, ◌&&◌, ◌||◌, if◌then◌else◌, Contains, refl, sym, ap, subst, ◌∙◌}
use Rattle.std.specs.Bool.{Decides, one_answer}
use Rattle.std.specs.List.{list_any}
use Rattle.std.proofs.lemmas.Bool.Decides.{Decides-below_and, Decides-eqb}
use Rattle.std.proofs.lemmas.Map.Made.{is_member-Decides}
use Rattle.dwarf_constants.specs.Pointer.{format_of, application_of, formats, applications, valid_encodings}

-- the test that the code makes
abbrev pub is_valid : ℕ → Bool
is_valid n = n == 0xff || (list_any (λ format. format_of n == format) formats
    && list_any (λ application. application_of n == application) applications)

abbrev is_listed : ℕ → Bool
is_listed n = list_any (λ encoding. n == encoding) valid_encodings

abbrev agrees : ℕ → Bool
agrees n = if is_valid n then is_listed n else not (is_listed n)

abbrev agrees_below : ℕ → Bool
agrees_below zero = true
agrees_below (suc n) = agrees n && agrees_below n

same : (a b : Bool) → (if a then b else not b) ≡ true → a ≡ b
same true b h = sym h
same false true h = h
same false false h = refl

is_valid-listed : (n : ℕ) → n < 256 → is_valid n ≡ is_listed n
is_valid-listed n h =
    same _ _ ((Decides-below_and agrees (λ k. agrees k ≡ true) agrees_below (λ k. (λ x. x, λ x. x)) refl (λ _. refl) 256).0 refl n h)

-- the test of the format, of the application, and of a byte from the three tests
abbrev has_format : ℕ → Bool
has_format format = list_any (λ listed. format == listed) formats

abbrev has_application : ℕ → Bool
has_application application = list_any (λ listed. application == listed) applications

abbrev joined : Bool → Bool → Bool → Bool
joined omitted known_format known_application = omitted || (known_format && known_application)

is_omitted : (n : ℕ) (absent : Bool) → Decides absent (n ≡ 0xff) → absent ≡ false → (n == 0xff) ≡ false
is_omitted n absent decides refused = one_answer _ _ (Decides-eqb n 0xff) decides ∙ refused

-- with a listed format the application decides
pub is_valid-then : (n format application : ℕ) (absent known_format known_application : Bool)
    → Decides absent (n ≡ 0xff) → absent ≡ false
    → format ≡ format_of n → known_format ≡ has_format format → known_format ≡ true
    → application ≡ application_of n → known_application ≡ has_application application
    → known_application ≡ is_valid n
is_valid-then n format application absent known_format known_application decides refused f_is f_test f_true a_is a_test =
    a_test ∙ ap has_application a_is
    ∙ sym (ap (λ (b : Bool). joined b (has_format (format_of n)) (has_application (application_of n))) (is_omitted n absent decides refused)
    ∙ ap (λ (b : Bool). joined false b (has_application (application_of n))) (ap has_format (sym f_is) ∙ sym f_test ∙ f_true))

-- without one the byte is not valid
pub is_valid-else : (n format : ℕ) (absent known_format : Bool)
    → Decides absent (n ≡ 0xff) → absent ≡ false
    → format ≡ format_of n → known_format ≡ has_format format → known_format ≡ false
    → known_format ≡ is_valid n
is_valid-else n format absent known_format decides refused f_is f_test f_false =
    f_false
    ∙ sym (ap (λ (b : Bool). joined b (has_format (format_of n)) (has_application (application_of n))) (is_omitted n absent decides refused)
    ∙ ap (λ (b : Bool). joined false b (has_application (application_of n))) (ap has_format (sym f_is) ∙ sym f_test ∙ f_false))

-- the code's test is true exactly for the listed bytes
pub is_valid-Decides : (n : ℕ) (r : Bool) → n < 256 → r ≡ is_valid n → Decides r (Contains valid_encodings n)
is_valid-Decides n r h e =
    subst (λ (b : Bool). Decides b (Contains valid_encodings n)) (sym (e ∙ is_valid-listed n h))
    (is_member-Decides Decides-eqb valid_encodings n)
