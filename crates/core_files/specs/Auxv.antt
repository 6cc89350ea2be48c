-- NT_AUXV: the auxiliary vector (System V ABI, "Auxiliary Vector"; Linux, include/uapi/linux/auxvec.h), entries of a_type and a_un, 8
-- bytes each, up to AT_NULL or the descriptor's end.
use Rattle.std.specs.Prelude.{ℕ, ◌+◌, ◌*◌, ◌/◌, ◌==◌, List, length, not, Option}
use Rattle.std.specs.List.{find, take_while}
use Rattle.std.specs.Option.{option_map}
use Rattle.core_files.specs.Bytes.{u64_at, each_from}

-- An entry: its type and its value.
abbrev pub entry_at : List ℕ → ℕ → ℕ × ℕ
entry_at descriptor number = (u64_at descriptor (16 * number), u64_at descriptor (16 * number + 8))

-- The entries that are whole.
abbrev pub entries : List ℕ → List (ℕ × ℕ)
entries descriptor = each_from (entry_at descriptor) 0 (length descriptor / 16)

-- The entries before AT_NULL.
abbrev pub auxiliary_vector : List ℕ → List (ℕ × ℕ)
auxiliary_vector descriptor = take_while (λ (entry : ℕ × ℕ). not (entry.0 == 0)) (entries descriptor)

-- The value of the first entry of a type.
unfoldable pub auxiliary_value : List ℕ → ℕ → Option ℕ
auxiliary_value descriptor kind = option_map (λ (entry : ℕ × ℕ). entry.1) (find (λ (entry : ℕ × ℕ). entry.0 == kind) (auxiliary_vector descriptor))
