-- The registers of a frame, as a command states them.
use Rattle.std.specs.Prelude.{ℕ, ◌+◌, ◌-◌, ◌^◌, if◌then◌else◌, List, [], ◌∷◌, zero, suc, codes, slice_get, Option, Some, None, Ok, Err}
use Rattle.serde_json.specs.Data.{Data}
use Rattle.serde_json.specs.Find.{get}
use Rattle.json_program.specs.declared.fault.FaultName.TheVariants.{BadCommand}
use Rattle.unwind_run_document.specs.declared.document.Architecture.{Architecture}
use Rattle.unwind_run_document.specs.declared.document.Architecture.TheVariants as arch
use Rattle.unwind_run_document.specs.declared.registers.StatedRegisters.{StatedRegisters}
use Rattle.json_program.specs.Faults.{Checked, ◌⊛◌}
use Rattle.json_program.specs.Json.{address_value, field, has_only, optional_value}

-- the general registers of x86_64 by their DWARF numbers (System V ABI for AMD64, figure 3.36)
abbrev pub general_names_x86_64 : List (List ℕ)
general_names_x86_64 =
    codes "rax" ∷ codes "rdx" ∷ codes "rcx" ∷ codes "rbx" ∷ codes "rsi" ∷ codes "rdi" ∷ codes "rbp" ∷ codes "rsp"
    ∷ codes "r8" ∷ codes "r9" ∷ codes "r10" ∷ codes "r11" ∷ codes "r12" ∷ codes "r13" ∷ codes "r14" ∷ codes "r15" ∷ []

-- those of aarch64 below the frame pointer (DWARF for the Arm 64-bit Architecture, 4.1)
abbrev pub general_names_aarch64 : List (List ℕ)
general_names_aarch64 =
    codes "x0" ∷ codes "x1" ∷ codes "x2" ∷ codes "x3" ∷ codes "x4" ∷ codes "x5" ∷ codes "x6" ∷ codes "x7" ∷ codes "x8"
    ∷ codes "x9" ∷ codes "x10" ∷ codes "x11" ∷ codes "x12" ∷ codes "x13" ∷ codes "x14" ∷ codes "x15" ∷ codes "x16"
    ∷ codes "x17" ∷ codes "x18" ∷ codes "x19" ∷ codes "x20" ∷ codes "x21" ∷ codes "x22" ∷ codes "x23" ∷ codes "x24"
    ∷ codes "x25" ∷ codes "x26" ∷ codes "x27" ∷ codes "x28" ∷ []

-- the name of a general register of an architecture, by its number
abbrev pub general_name : Architecture → ℕ → Option (List ℕ)
general_name arch.X86_64 number = slice_get general_names_x86_64 number
general_name arch.Aarch64 number = slice_get general_names_aarch64 number

-- the value that is stated under a name, if there is one
abbrev pub value_named : Data → Option (List ℕ) → Checked (Option ℕ)
value_named d None = Ok None
value_named d (Some name) = optional_value address_value (get name d)

-- the value that is stated of a register, by its number
abbrev pub value_in : Architecture → Data → ℕ → Checked (Option ℕ)
value_in machine d number = value_named d (general_name machine number)

-- the values of so many registers from a number on
unfoldable pub values_from : Architecture → Data → (number count : ℕ) → Checked (List (Option ℕ))
values_from machine d number zero = Ok []
values_from machine d number (suc count) =
    Ok (λ value values. value ∷ values) ⊛ value_in machine d number ⊛ values_from machine d (number + 1) count

-- the values of the general registers that are stated, by their numbers
abbrev pub others_in : Architecture → Data → Checked (List (Option ℕ))
others_in machine d = values_from machine d 0 35

-- the fields of the registers of x86_64: of RBP and RSP `bp` and `sp` are stated
abbrev pub names_x86_64 : List (List ℕ)
names_x86_64 =
    codes "ip" ∷ codes "sp" ∷ codes "bp" ∷ codes "rax" ∷ codes "rdx" ∷ codes "rcx" ∷ codes "rbx" ∷ codes "rsi" ∷ codes "rdi"
    ∷ codes "r8" ∷ codes "r9" ∷ codes "r10" ∷ codes "r11" ∷ codes "r12" ∷ codes "r13" ∷ codes "r14" ∷ codes "r15" ∷ []

-- all the bits of a code address
abbrev pub all_bits : ℕ
all_bits = 2 ^ 64 - 1

-- the registers of these parts
abbrev pub registers_of : (code sp fp mask : ℕ) → (others : List (Option ℕ)) → StatedRegisters
registers_of code sp fp mask others = record { code = code; sp = sp; fp = fp; mask = mask; others = others }

-- a value that has to be the registers of x86_64
abbrev pub registers_x86_64_in : Data → Checked StatedRegisters
registers_x86_64_in d =
    if has_only names_x86_64 d
    then Ok (λ ip sp bp. registers_of ip sp bp all_bits)
    ⊛ field address_value (codes "ip") d ⊛ field address_value (codes "sp") d ⊛ field address_value (codes "bp") d
    ⊛ others_in arch.X86_64 d
    else Err BadCommand

-- the fields of the registers of aarch64: of x29 and x30 `fp` and `lr` are stated
abbrev pub names_aarch64 : List (List ℕ)
names_aarch64 = codes "lr" ∷ codes "sp" ∷ codes "fp" ∷ codes "mask" ∷ general_names_aarch64

-- the mask of code addresses: all bits if none is stated
abbrev pub mask_at : Option Data → Checked ℕ
mask_at None = Ok all_bits
mask_at (Some d) = address_value d

-- a value that has to be the registers of aarch64
abbrev pub registers_aarch64_in : Data → Checked StatedRegisters
registers_aarch64_in d =
    if has_only names_aarch64 d
    then Ok registers_of
    ⊛ field address_value (codes "lr") d ⊛ field address_value (codes "sp") d ⊛ field address_value (codes "fp") d
    ⊛ mask_at (get (codes "mask") d) ⊛ others_in arch.Aarch64 d
    else Err BadCommand

-- a value that has to be the registers of an architecture
abbrev pub registers_in : Architecture → Data → Checked StatedRegisters
registers_in arch.X86_64 d = registers_x86_64_in d
registers_in arch.Aarch64 d = registers_aarch64_in d
