-- The tokens of a frame, one member after the other.
use Rattle.std.proofs.Common.{◌≡◌, ℕ, List, [], ◌∷◌, ◌++◌, append_assoc, Option, option_map}
use Rattle.std.specs.Prelude.{codes}
use Rattle.json.specs.Token.{Token}
use Rattle.json.specs.Tree.{json_tokens}
use Rattle.backtrace_text.specs.Frames.{Offset, Register}
use Rattle.backtrace_text.specs.declared.names.FunctionNames.{FunctionNames}
use Rattle.backtrace_json.specs.Frames.{file_value, function_value, offset_value, registers_value, value_by_parts}
use Rattle.backtrace_json.specs.Parts.{file_tokens, function_tokens}
use Rattle.backtrace_json.specs.Values.{address_value, or_null}

in_order : (first address function offset file file_offset last registers end : List Token)
    → ((((first ++ address) ++ (function ++ offset)) ++ (file ++ file_offset)) ++ last) ++ registers ++ end
    ≡ first ++ (address ++ (function ++ (offset ++ (file ++ (file_offset ++ (last ++ (registers ++ end)))))))
in_order first address function offset file file_offset last registers end = simp append_assoc

-- the members of a frame, as they are added
pub frame_in_order : (names : FunctionNames) (address : Option ℕ) (function file : Option Offset) (registers : List Register)
    → (((((Token.begin_object ∷ Token.key (codes "address") ∷ []) ++ json_tokens (or_null (option_map address_value address)))
    ++ function_tokens names function) ++ file_tokens file) ++ Token.key (codes "registers") ∷ []) ++ json_tokens (registers_value registers)
    ++ Token.end_object ∷ []
    ≡ json_tokens (value_by_parts names address function file registers)
frame_in_order names address function file registers =
    in_order (Token.begin_object ∷ Token.key (codes "address") ∷ []) (json_tokens (or_null (option_map address_value address)))
    (Token.key (codes "function") ∷ json_tokens (function_value names function)) (Token.key (codes "offset") ∷ json_tokens (offset_value function))
    (Token.key (codes "file") ∷ json_tokens (file_value file)) (Token.key (codes "file_offset") ∷ json_tokens (offset_value file))
    (Token.key (codes "registers") ∷ []) (json_tokens (registers_value registers)) (Token.end_object ∷ [])
