-- What a number of variable length leaves: the stretch without its first bytes.
use Rattle.std.proofs.Common.{◌≡◌, ℕ, ◌+◌, ◌≤◌, List, length, take, Option, Some, None, Result, Ok, Err, cond, Bool, true, false, refl, ap, sym}
use Rattle.std.specs.Prelude.{nat_lt}
use Rattle.dwarf_constants.specs.declared.error.Error.{Error}
use Rattle.dwarf_constants.specs.declared.error.Error.TheVariants.{BadUnsignedLeb128}
use Rattle.dwarf_readers.specs.Leb128.{leb128_within, string_of, unsigned_at, unsigned_below, value_behind}
use Rattle.dwarf_readers.specs.Remainder.{IsRest}
use Rattle.dwarf_readers.specs.Stretch.{Stretch, behind, ends_at}
use Rattle.dwarf_readers.proofs.Following.{string_inside}

same_rest : (read : Result (ℕ × Stretch) Error) (x y : ℕ × Stretch) → read ≡ Ok x → read ≡ Ok y → x.1 ≡ y.1
same_rest read x y is is-too = let same : x ≡ y = cc in ap (λ (read : ℕ × Stretch). read.1) same

value_rest : (s rest : Stretch) (n : ℕ) (string : List ℕ) (value : Option ℕ) → length string ≤ length s.bytes
    → value_behind BadUnsignedLeb128 string s value ≡ Ok (n, rest) → IsRest s rest
value_rest s rest n string (Some v) inside is = record { count = length string; inside = inside; is = sym (same_rest (value_behind BadUnsignedLeb128 string s (Some v)) (v, behind (length string) s) (n, rest) refl is) }
value_rest s rest n string None inside is = absurd (cc)

missing_rest : (s rest : Stretch) (n : ℕ) (test : Bool) (e other : Error) → cond {A = Result (ℕ × Stretch) Error} test (Err e) (Err other) ≡ Ok (n, rest) → IsRest s rest
missing_rest s rest n true e other is = absurd (cc)
missing_rest s rest n false e other is = absurd (cc)

pub unsigned_rest : (s rest : Stretch) (n : ℕ) → unsigned_at s ≡ Ok (n, rest) → IsRest s rest
unsigned_rest s rest n = by_string (string_of (take 10 s.bytes)) refl where
  by_string : (found : Option (List ℕ)) → string_of (take 10 s.bytes) ≡ found → leb128_within 10 BadUnsignedLeb128 (unsigned_below 64) s found ≡ Ok (n, rest) → IsRest s rest
  by_string (Some string) same is = value_rest s rest n string (unsigned_below 64 string) (string_inside s.bytes 10 string same) is
  by_string None same is = missing_rest s rest n (nat_lt (length s.bytes) 10) (ends_at (s.offset + length s.bytes)) BadUnsignedLeb128 is
