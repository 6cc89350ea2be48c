-- Names of members, and lists of references to texts.
use Rattle.std.proofs.Common.{◌≡◌, List, [], ◌∷◌, map, Bool, ◌&&◌, ◌||◌, String, Global, Bor, string_bytes, refl, sym, ap, ◌∙◌, ℕ}
use Rattle.std.specs.Prelude.{bytes_eq}
use Rattle.std.specs.List.{list_any}
use Rattle.serde_json.specs.View.{members_view}
use Rattle.serde_json.specs.declared.value.Value.{Value}
use Rattle.json_program.specs.Json.{are_among}

abbrev pub Entry : Type 0
Entry = String Global × Value

abbrev pub Texts : Type 0
Texts = List (Bor (List ℕ))

-- the bytes of the texts
abbrev pub bytes_of : Texts → List (List ℕ)
bytes_of texts = map (λ t. t.now) texts

pub list_any-bytes_of : (key : List ℕ) (texts : Texts) → list_any (λ t. bytes_eq t.now key) texts ≡ list_any (λ t. bytes_eq t key) (bytes_of texts)
list_any-bytes_of key [] = refl
list_any-bytes_of key (t ∷ ts) = ap (λ b. bytes_eq t.now key || b) (list_any-bytes_of key ts)

-- a member's name is looked up, and then those of the rest
pub are_among-member : (names : Texts) (e : Entry) (left : List Entry) (key : List ℕ) (b : Bool) → key ≡ string_bytes e.0
    → b ≡ list_any (λ t. bytes_eq t.now key) names
    → are_among (bytes_of names) (members_view (e ∷ left)) ≡ (b && are_among (bytes_of names) (members_view left))
are_among-member names e left key b is found =
    ap (λ k. list_any (λ t. bytes_eq t k) (bytes_of names) && are_among (bytes_of names) (members_view left)) (sym is)
    ∙ ap (λ c. c && are_among (bytes_of names) (members_view left)) (sym (found ∙ list_any-bytes_of key names))
