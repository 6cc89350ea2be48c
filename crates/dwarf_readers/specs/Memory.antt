-- Answers that never say that memory ran out.
use Rattle.std.specs.Prelude.{◌≢◌, ℕ, Bool, Option, Result, Ok, Err, if◌then◌else◌}
use Rattle.std.specs.Int.{Width}
use Rattle.std.specs.Option.{ok_or}
use Rattle.dwarf_constants.specs.declared.error.Error.{Error}
use Rattle.dwarf_constants.specs.declared.error.Error.TheVariants.{OutOfMemory}
use Rattle.dwarf_endianity.specs.Offset.{offset_below}
use Rattle.dwarf_readers.specs.InitialLength.{address_at, address_size_at, as_offset, initial_length_at}
use Rattle.dwarf_readers.specs.Leb128.{signed_at, unsigned_16_at, unsigned_at}
use Rattle.dwarf_readers.specs.Stretch.{Stretch, ◌>>=◌, behind_at, byte_at, number_at, requirement, signed_number_at, split_at, string_at}

-- The answer isn't that memory ran out.
pub record NeverWantsMemory {A : Type 0} (answer : Result A Error) : Type 0 where
  pub never : answer ≢ Err OutOfMemory

-- One answer after another, either of two, a value, another error, a test, and a value that may be missing.
pub record AnswersNeverWantMemory (X Y : Type 0) : Type 0 where
  pub then_other : (first : Result X Error) (next : X → Result Y Error) → NeverWantsMemory first
      → ((x : X) → NeverWantsMemory (next x)) → NeverWantsMemory (first >>= next)
  pub either : (test : Bool) (a b : Result X Error) → NeverWantsMemory a → NeverWantsMemory b
      → NeverWantsMemory (if test then a else b)
  pub ok : (x : X) → NeverWantsMemory {A = X} (Ok x)
  pub err : (e : Error) → e ≢ OutOfMemory → NeverWantsMemory {A = X} (Err e)
  pub test : (test : Bool) (e : Error) → e ≢ OutOfMemory → NeverWantsMemory (requirement test e)
  pub there : (value : Option X) (e : Error) → e ≢ OutOfMemory → NeverWantsMemory (ok_or value e)

-- No read of a number, a part or a string wants memory.
pub record ReadsNeverWantMemory : Type 0 where
  pub byte : (s : Stretch) → NeverWantsMemory (byte_at s)
  pub number : (n : ℕ) (s : Stretch) → NeverWantsMemory (number_at n s)
  pub signed_number : (w : Width) (s : Stretch) → NeverWantsMemory (signed_number_at w s)
  pub behind : (n : ℕ) (s : Stretch) → NeverWantsMemory (behind_at n s)
  pub split : (n : ℕ) (s : Stretch) → NeverWantsMemory (split_at n s)
  pub unsigned : (s : Stretch) → NeverWantsMemory (unsigned_at s)
  pub unsigned_16 : (s : Stretch) → NeverWantsMemory (unsigned_16_at s)
  pub signed : (s : Stretch) → NeverWantsMemory (signed_at s)
  pub string : (s : Stretch) → NeverWantsMemory (string_at s)
  pub offset : (limit n : ℕ) → NeverWantsMemory (offset_below limit n)
  pub as_offset : (limit : ℕ) (n : ℕ × Stretch) → NeverWantsMemory (as_offset limit n)
  pub address_size : (s : Stretch) → NeverWantsMemory (address_size_at s)
  pub address : (size : ℕ) (s : Stretch) → NeverWantsMemory (address_at size s)
  pub initial_length : (limit : ℕ) (s : Stretch) → NeverWantsMemory (initial_length_at limit s)
