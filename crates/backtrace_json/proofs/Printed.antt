-- The text of tokens that are written one after the other.
use Rattle.std.proofs.Common.{◌≡◌, ℕ, Bool, true, false, List, [], ◌∷◌, ◌++◌, fold, refl, ap, ◌∙◌, append_assoc}
use Rattle.json.proofs.Printed.Tokens.{print_from-append}
use Rattle.json.specs.Json.{Json, null, boolean, number, string, array, object, Members, no_members, member}
use Rattle.json.specs.Print.{ends, print_from}
use Rattle.json.specs.Token.{Token}
use Rattle.json.specs.Tree.{items_tokens, json_tokens, members_tokens}
use Rattle.backtrace_json.specs.Parts.{comma_if}
use Rattle.backtrace_json.specs.Values.{items_of, json_text}

-- tokens behind these come after a value, if tokens like them come after these
abbrev pub after : Bool → List Token → Bool
after later tokens = fold (λ _ token. ends token) later tokens

pub after-append : (later : Bool) (ts us : List Token) → after later (ts ++ us) ≡ after (after later ts) us
after-append later [] us = refl
after-append later (t ∷ ts) us = after-append (ends t) ts us

after-members : (later : Bool) (ms : Members) → after later (members_tokens ms) ≡ true
after-members later no_members = refl
after-members later (member name value ms) =
    after-append false (json_tokens value) (members_tokens ms) ∙ after-members (after false (json_tokens value)) ms

-- the members of an object
abbrev pub members_in : Json → Members
members_in null = no_members
members_in (boolean b) = no_members
members_in (number digits) = no_members
members_in (string text) = no_members
members_in (array values) = no_members
members_in (object ms) = ms

-- an object comes after a comma, if an element stands before
printed_object : (later : Bool) (ms : Members) → print_from later (json_tokens (object ms)) ≡ comma_if later ++ json_text (object ms)
unfolding print_from
printed_object true ms = refl
printed_object false ms = refl

-- the end of an array comes after no comma
pub printed_end : (later : Bool) (rest : List Token) → print_from later (Token.end_array ∷ rest) ≡ print_from false (Token.end_array ∷ rest)
unfolding print_from
printed_end true rest = refl
printed_end false rest = refl

-- an object as an element, before others
pub printed_element : (later : Bool) (ms : Members) (others : List Json) (rest : List Token)
    → print_from later (items_tokens (items_of (object ms ∷ others)) ++ rest)
    ≡ (comma_if later ++ json_text (object ms)) ++ print_from true (items_tokens (items_of others) ++ rest)
printed_element later ms others rest =
    let left = items_tokens (items_of others) ++ rest in
    ap (print_from later) (append_assoc (json_tokens (object ms)) (items_tokens (items_of others)) rest)
    ∙ print_from-append later (json_tokens (object ms)) left
    ∙ ap (λ (b : Bool). print_from later (json_tokens (object ms)) ++ print_from b left) (after-members false ms)
    ∙ ap (λ (t : List ℕ). t ++ print_from true left) (printed_object later ms)

-- tokens that open an array, before its elements and what follows
pub printed_opened : (opening rest : List Token) (name : Token) → print_from false ((opening ++ name ∷ Token.begin_array ∷ []) ++ rest)
    ≡ print_from false (opening ++ name ∷ Token.begin_array ∷ []) ++ print_from false rest
printed_opened opening rest name =
    print_from-append false (opening ++ name ∷ Token.begin_array ∷ []) rest
    ∙ ap (λ (b : Bool). print_from false (opening ++ name ∷ Token.begin_array ∷ []) ++ print_from b rest) (after-append false opening (name ∷ Token.begin_array ∷ []))
