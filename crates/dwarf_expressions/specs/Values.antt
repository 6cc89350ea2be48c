-- Values without a type (DWARF 5, 2.5.1): whole numbers modulo 2^(8n), where an address has n bytes.
use Rattle.std.specs.Prelude.{Result, Ok, ℕ, ◌*◌, ◌^◌, ℤ, pos, ◌-ℤ◌, unsigned_abs, nat_lt, if◌then◌else◌}
use Rattle.std.specs.Int.{int_rem_euclid}
use Rattle.dwarf_constants.specs.declared.error.Error.{Error}
use Rattle.dwarf_expressions.specs.declared.value.Value.{Value}
use Rattle.dwarf_expressions.specs.declared.value.Value.TheVariants.{Generic}

-- how many values there are
abbrev pub modulus : ℕ → ℕ
modulus n = 2 ^ (8 * n)

-- the value of a whole number
abbrev pub value_of : ℕ → ℤ → ℕ
value_of n z = unsigned_abs (int_rem_euclid z (pos (modulus n)))

-- the value of a whole number, as a result without an error
abbrev pub value_from : ℕ → ℤ → Result ℕ Error
value_from n z = Ok (value_of n z)

-- a value as a signed number, in two's complement
abbrev pub signed : ℕ → ℕ → ℤ
signed n v = if nat_lt (2 * v) (modulus n) then pos v else pos v -ℤ pos (modulus n)

-- the number of a value
abbrev pub generic_of : Value → ℕ
generic_of (Generic n) = n
