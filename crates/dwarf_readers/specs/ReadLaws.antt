-- What laws of reads say together: how many bytes reads take, where what they leave begins, and what bytes that follow change.
use Rattle.std.specs.Prelude.{◌≡◌, ℕ, ◌+◌, ◌≤◌, List, length, Bool, Option, None, Result, Ok, Err, if◌then◌else◌}
use Rattle.std.specs.Int.{Width, byte_len}
use Rattle.dwarf_constants.specs.declared.error.Error.{Error}
use Rattle.dwarf_readers.specs.InitialLength.{address_at, address_size_at}
use Rattle.dwarf_readers.specs.Leb128.{signed_at, unsigned_16_at, unsigned_at}
use Rattle.dwarf_readers.specs.More.{IsSteady, IsSteadyMove, IsSteadySearch, Stays, StaysAs, extended_stretch}
use Rattle.dwarf_readers.specs.Onward.{GoesOn, ReadsOn}
use Rattle.dwarf_readers.specs.Operands.{Parse}
use Rattle.dwarf_readers.specs.Remainder.{IsShorter, LeavesLess, Passes, Takes}
use Rattle.dwarf_readers.specs.Stretch.{Stretch, ◌>>=◌, behind_at, byte_at, bytes_at, number_at, prefix_at, requirement, signed_byte_at, signed_number_at, split_at, string_at}

-- ---- how many bytes are taken

-- A read of n bytes takes n bytes.
pub record FixedReadsTake : Type 0 where
  pub byte : (s : Stretch) → Takes 1 s (byte_at s)
  pub signed_byte : (s : Stretch) → Takes 1 s (signed_byte_at s)
  pub number : (n : ℕ) (s : Stretch) → Takes n s (number_at n s)
  pub signed_number : (w : Width) (s : Stretch) → Takes (byte_len w) s (signed_number_at w s)
  pub bytes : (n : ℕ) (s : Stretch) → Takes n s (bytes_at n s)
  pub split : (n : ℕ) (s : Stretch) → Takes n s (split_at n s)
  pub behind : (n : ℕ) (s : Stretch) → Passes n s (behind_at n s)

-- How much is left by one answer after another, by either of two, and by one that is known.
pub record AnswersLeave (X Y : Type 0) : Type 0 where
  pub then_other : (rest : X → Option Stretch) (other : Y → Option Stretch) (n m : ℕ) (s : Stretch)
      (first : Result X Error) (next : X → Result Y Error) → LeavesLess rest n s first
      → ((x : X) → IsShorter n s (rest x) → LeavesLess other m s (next x)) → LeavesLess other m s (first >>= next)
  pub either : (rest : X → Option Stretch) (n : ℕ) (s : Stretch) (test : Bool) (a b : Result X Error)
      → LeavesLess rest n s a → LeavesLess rest n s b → LeavesLess rest n s (if test then a else b)
  pub ok : (rest : X → Option Stretch) (n : ℕ) (s : Stretch) (x : X) → IsShorter n s (rest x) → LeavesLess rest n s (Ok x)
  pub err : (rest : X → Option Stretch) (n : ℕ) (s : Stretch) (e : Error) → LeavesLess rest n s (Err e)
  pub none : (n : ℕ) (s : Stretch) (value : Result X Error) → LeavesLess (λ _. None) n s value
  pub from : (rest : X → Option Stretch) (n m : ℕ) (s t : Stretch) (answer : Result X Error)
      → LeavesLess rest n t answer → m + length t.bytes ≤ n + length s.bytes → LeavesLess rest m s answer
  pub known : (rest : X → Option Stretch) (n : ℕ) (s : Stretch) (answer : Result X Error) (x : X)
      → LeavesLess rest n s answer → answer ≡ Ok x → IsShorter n s (rest x)

-- ---- where what is left begins

-- What a read leaves doesn't begin before it.
pub record ReadsGoOn : Type 0 where
  pub byte : (s : Stretch) → ReadsOn s (byte_at s)
  pub number : (n : ℕ) (s : Stretch) → ReadsOn s (number_at n s)
  pub signed_number : (w : Width) (s : Stretch) → ReadsOn s (signed_number_at w s)
  pub split : (n : ℕ) (s : Stretch) → ReadsOn s (split_at n s)
  pub unsigned : (s : Stretch) → ReadsOn s (unsigned_at s)
  pub unsigned_16 : (s : Stretch) → ReadsOn s (unsigned_16_at s)
  pub signed : (s : Stretch) → ReadsOn s (signed_at s)
  pub string : (s : Stretch) → ReadsOn s (string_at s)
  pub address_size : (s : Stretch) → ReadsOn s (address_size_at s)
  pub address : (size : ℕ) (s : Stretch) → ReadsOn s (address_at size s)

-- Where what is left begins: by one answer after another, by either of two, and by one that is known.
pub record AnswersGoOn (X Y : Type 0) : Type 0 where
  pub then_other : (rest : X → Stretch) (other : Y → Stretch) (offset : ℕ)
      (first : Result X Error) (next : X → Result Y Error) → GoesOn rest offset first
      → ((x : X) → offset ≤ (rest x).offset → GoesOn other offset (next x)) → GoesOn other offset (first >>= next)
  pub after_value : (other : Y → Stretch) (offset : ℕ) (value : Result X Error) (next : X → Result Y Error)
      → ((x : X) → GoesOn other offset (next x)) → GoesOn other offset (value >>= next)
  pub either : (rest : X → Stretch) (offset : ℕ) (test : Bool) (a b : Result X Error)
      → GoesOn rest offset a → GoesOn rest offset b → GoesOn rest offset (if test then a else b)
  pub ok : (rest : X → Stretch) (offset : ℕ) (x : X) → offset ≤ (rest x).offset → GoesOn rest offset (Ok x)
  pub err : (rest : X → Stretch) (offset : ℕ) (e : Error) → GoesOn rest offset (Err e)
  pub from : (rest : X → Stretch) (offset before : ℕ) (answer : Result X Error)
      → GoesOn rest offset answer → before ≤ offset → GoesOn rest before answer
  pub known : (rest : X → Stretch) (offset : ℕ) (answer : Result X Error) (x : X)
      → GoesOn rest offset answer → answer ≡ Ok x → offset ≤ (rest x).offset

-- ---- what bytes that follow change

-- Bytes that follow change no read of n bytes.
pub record FixedReadsStay : Type 0 where
  pub byte : IsSteady byte_at
  pub signed_byte : IsSteady signed_byte_at
  pub number : (n : ℕ) → IsSteady (number_at n)
  pub signed_number : (w : Width) → IsSteady (signed_number_at w)
  pub bytes : (n : ℕ) → IsSteady (bytes_at n)
  pub behind : (n : ℕ) → IsSteadyMove (behind_at n)
  pub first : (n : ℕ) → IsSteadySearch (prefix_at n)
  pub split : (n : ℕ) → IsSteady (split_at n)

-- Bytes that follow change neither one answer after another, nor one after a test that reads no bytes, nor either of two.
pub record AnswersStay (A B : Type 0) : Type 0 where
  pub then_other : (first : A → A) (second : B → B) (before after : Result A Error) (next later : A → Result B Error)
      → StaysAs first before after → ((x : A) → StaysAs second (next x) (later (first x)))
      → StaysAs second (before >>= next) (after >>= later)
  pub then_read : (more : List ℕ) (before after : Result (A × Stretch) Error) (next : A × Stretch → Result (B × Stretch) Error)
      → Stays more before after
      → ((x : A) (left : Stretch) → Stays more (next (x, left)) (next (x, extended_stretch more left)))
      → Stays more (before >>= next) (after >>= next)
  pub then_steady : (read : Parse A) (next : A × Stretch → Result (B × Stretch) Error)
      → IsSteady read → ((x : A) → IsSteady (λ left. next (x, left))) → IsSteady (λ s. read s >>= next)
  pub after_test : (more : List ℕ) (test : Bool) (e : Error) (before after : Result (A × Stretch) Error)
      → Stays more before after
      → Stays more (requirement test e >>= λ _. before) (requirement test e >>= λ _. after)
  pub either : (more : List ℕ) (test : Bool) (a b c d : Result (A × Stretch) Error)
      → Stays more a b → Stays more c d → Stays more (if test then a else c) (if test then b else d)
  pub value : (more : List ℕ) (value : Result A Error) (left : Stretch)
      → Stays more (value >>= λ x. Ok (x, left)) (value >>= λ x. Ok (x, extended_stretch more left))
  pub error : (more : List ℕ) (e : Error) → Stays {A = A} more (Err e) (Err e)
