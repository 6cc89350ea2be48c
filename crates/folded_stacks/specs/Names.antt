-- The names in a folded stack.
use Rattle.std.specs.Prelude.{ℕ, ◌==◌, nat_le, ◌&&◌, ◌||◌, if◌then◌else◌, Bool, true, false, List, [], ◌∷◌, ◌++◌, map, codes}

-- a byte of a frame's name: spaces and control characters (up to 32, and 127) and semicolons (59) are underscores (95)
abbrev pub shown_byte : ℕ → ℕ
shown_byte byte = if nat_le byte 32 || byte == 59 || byte == 127 then 95 else byte

-- the name of a frame of the kernel
abbrev pub kernel_name : List ℕ → List ℕ
kernel_name name = map shown_byte name ++ codes "_[k]"

-- whether a byte is a digit (48 to 57), a capital letter (65 to 90) or a small one (97 to 122)
abbrev pub is_alphanumeric : ℕ → Bool
is_alphanumeric byte = (nat_le 48 byte && nat_le byte 57) || (nat_le 65 byte && nat_le byte 90) || (nat_le 97 byte && nat_le byte 122)

-- a name with an underscore for each run of other bytes, where the byte before it was one of those or not
abbrev pub squeezed : Bool → List ℕ → List ℕ
squeezed replaced [] = []
squeezed replaced (byte ∷ bytes) =
    if is_alphanumeric byte then byte ∷ squeezed false bytes else
    if replaced then squeezed true bytes else
    95 ∷ squeezed true bytes

-- the name of a process
abbrev pub process_name : List ℕ → List ℕ
process_name name = squeezed false name
