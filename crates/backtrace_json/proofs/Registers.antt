-- The tokens of registers.
use Rattle.std.proofs.Common.{◌≡◌, ◌≢◌, List, [], ◌∷◌, ◌++◌, length, map, refl, sym, ap}
use Rattle.std.specs.List.{flat_map}
use Rattle.json.specs.Token.{Token}
use Rattle.json.specs.Tree.{json_tokens, members_tokens}
use Rattle.backtrace_text.specs.Frames.{Register}
use Rattle.backtrace_json.specs.Frames.{register_member, registers_value}
use Rattle.backtrace_json.specs.Parts.{register_tokens}
use Rattle.backtrace_json.specs.Values.{address_value, members_of}

members_of_registers : (rs : List Register) → members_tokens (members_of (map register_member rs)) ≡ flat_map register_tokens rs ++ Token.end_object ∷ []
members_of_registers [] = refl
members_of_registers (r ∷ rs) = ap (λ (ts : List Token). Token.key r.name ∷ (json_tokens (address_value r.value) ++ ts)) (members_of_registers rs)

-- those of some registers
pub registers_value-some : {X : Type 0} (view : X → Register) (xs : List X) → length xs ≢ 0
    → Token.begin_object ∷ (flat_map register_tokens (map view xs) ++ Token.end_object ∷ []) ≡ json_tokens (registers_value (map view xs))
registers_value-some view [] some = absurd (some refl)
registers_value-some view (x ∷ xs) some = ap (λ (ts : List Token). Token.begin_object ∷ ts) (sym (members_of_registers (map view (x ∷ xs))))
