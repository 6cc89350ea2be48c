-- The JSON value of bytes.
use Rattle.std.proofs.Common.{◌≡◌, ℕ, List, Bool, true, false, cond, Option, None, refl, ap, ◌∙◌}
use Rattle.std.specs.Str.{IsUtf8, is_utf8}
use Rattle.std.proofs.lemmas.Str.{IsUtf8-from_is_utf8, is_utf8-from_IsUtf8}
use Rattle.serde_json.specs.Data.{Data}
use Rattle.serde_json.specs.Read.{read}
use Rattle.json_program.specs.Json.{json_of}

pub json_of-utf8 : (bytes : List ℕ) (d : Option Data) → IsUtf8 bytes → read bytes ≡ d → json_of bytes ≡ d
unfolding json_of
json_of-utf8 bytes d text is = ap (λ b. cond b (read bytes) None) (is_utf8-from_IsUtf8 bytes text) ∙ is

tested : (bytes : List ℕ) → (IsUtf8 bytes → read bytes ≡ None) → (b : Bool) → is_utf8 bytes ≡ b → cond b (read bytes) None ≡ None
tested bytes refused true text = refused (IsUtf8-from_is_utf8 bytes text)
tested bytes refused false other = refl

pub json_of-refused : (bytes : List ℕ) → (IsUtf8 bytes → read bytes ≡ None) → json_of bytes ≡ None
unfolding json_of
json_of-refused bytes refused = tested bytes refused (is_utf8 bytes) refl
