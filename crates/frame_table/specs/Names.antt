-- The names of registers, as readelf prints them.
use Rattle.std.specs.Prelude.{ℕ, ◌-◌, ◌==◌, ◌&&◌, List, [], ◌∷◌, ◌++◌, codes, decimal, nat_le, nat_lt, slice_get, unwrap_or, Option, Some, None, if◌then◌else◌}
use Rattle.frame_table.specs.declared.names.Machine.{Machine}
use Rattle.frame_table.specs.declared.names.Machine.TheVariants.{X86_64, AArch64}

-- a letter or more, and a number
abbrev pub numbered : List ℕ → ℕ → List ℕ
numbered letters n = letters ++ decimal n

-- the general registers of x86_64 and the return address, by their numbers (System V ABI for AMD64, figure 3.36)
abbrev pub general_names : List (List ℕ)
general_names =
    codes "rax" ∷ codes "rdx" ∷ codes "rcx" ∷ codes "rbx" ∷ codes "rsi" ∷ codes "rdi" ∷ codes "rbp" ∷ codes "rsp"
    ∷ codes "r8" ∷ codes "r9" ∷ codes "r10" ∷ codes "r11" ∷ codes "r12" ∷ codes "r13" ∷ codes "r14" ∷ codes "r15"
    ∷ codes "rip" ∷ []

-- the general registers, and the vector registers from 17 on
abbrev pub x86_64_name : ℕ → Option (List ℕ)
x86_64_name n =
    if nat_le 17 n && nat_lt n 33 then Some (numbered (codes "xmm") (n - 17)) else slice_get general_names n

-- the general registers, the stack pointer and the vectors (DWARF for the Arm 64-bit Architecture, 4.1)
abbrev pub aarch64_name : ℕ → Option (List ℕ)
aarch64_name n =
    if nat_le n 30 then Some (numbered (codes "x") n)
    else if n == 31 then Some (codes "sp")
    else if nat_le 64 n && nat_le n 95 then Some (numbered (codes "v") (n - 64))
    else None

-- the name that a machine has for a register, if a machine is stated
abbrev pub known_name : Option Machine → ℕ → Option (List ℕ)
known_name None n = None
known_name (Some X86_64) n = x86_64_name n
known_name (Some AArch64) n = aarch64_name n

-- the name of a register, or else r and its number
abbrev pub register_name : Option Machine → ℕ → List ℕ
register_name machine n = unwrap_or (known_name machine n) (numbered (codes "r") n)

-- a name in brackets
abbrev pub bracketed : List ℕ → List ℕ
bracketed name = codes " (" ++ name ++ codes ")"

-- r and a register's number, and then the name in brackets, if there is one
abbrev pub in_full : ℕ → Option (List ℕ) → List ℕ
in_full n None = numbered (codes "r") n
in_full n (Some name) = numbered (codes "r") n ++ bracketed name

-- r and the number of a machine's register, and then its name, if it has one
abbrev pub register_in_full : Option Machine → ℕ → List ℕ
register_in_full machine n = in_full n (known_name machine n)
