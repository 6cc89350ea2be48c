-- Parts that are taken from the front of some bytes.
use Rattle.std.specs.Prelude.{ℕ, nat_lt, if◌then◌else◌, Bool, List, [], length, take, drop, position, ◌==◌, Option, Some, None, Ok, Err}
use Rattle.perf_files.specs.declared.error.FieldError.{FieldError}
use Rattle.perf_files.specs.declared.error.FieldError.TheVariants.{PastEnd}
use Rattle.perf_files.specs.declared.field.Field.{Field}
use Rattle.perf_files.specs.declared.fields.ThreadId.{ThreadId}
use Rattle.perf_files.specs.Bytes.{number_at}
use Rattle.perf_files.specs.FieldResults.{FieldResult, and_then}

-- What is taken of some bytes, and those that are left.
abbrev pub Take : Type 0 → Type 0
Take A = List ℕ → FieldResult (A × List ℕ)

infixl 10 ◌>>=◌
-- One after another, up to the first error.
abbrev pub ◌>>=◌ : {A B : Type 0} → Take A → (A → Take B) → Take B
first >>= next = λ bytes. and_then (first bytes) (λ taken. next taken.0 taken.1)

-- A value, for which no bytes are taken.
abbrev pub given : {A : Type 0} → A → Take A
given value = λ bytes. Ok (value, bytes)

-- An error.
abbrev pub refused : {A : Type 0} → FieldError → Take A
refused error = λ bytes. Err error

-- What is taken only if a test holds, and else a value.
abbrev pub taken_if : {A : Type 0} → Bool → A → Take A → Take A
taken_if present other part = λ bytes. if present then part bytes else Ok (other, bytes)

-- A part, if a test holds.
abbrev pub optional : {A : Type 0} → Bool → Take A → Take (Option A)
optional present part = taken_if present None (part >>= (λ value. given (Some value)))

-- So many bytes.
unfoldable pub bytes_field : ℕ → Field → Take (List ℕ)
bytes_field size field = λ bytes. if nat_lt (length bytes) size then Err (PastEnd field) else Ok (take size bytes, drop size bytes)

-- A number of so many bytes.
unfoldable pub number_field : ℕ → Field → Take ℕ
number_field size field = λ bytes. if nat_lt (length bytes) size then Err (PastEnd field) else Ok (number_at size bytes 0, drop size bytes)

-- Process and thread.
unfoldable pub thread_field : Field → Take ThreadId
thread_field field = do
  pid ← number_field 4 field
  tid ← number_field 4 field
  given (record { pid = pid; tid = tid })

-- So many bytes, or all.
abbrev pub front_of : List ℕ → Option ℕ → List ℕ
front_of bytes (Some size) = take size bytes
front_of bytes None = bytes

-- The bytes before the first 0, or all.
abbrev pub before_zero : List ℕ → List ℕ
before_zero bytes = front_of bytes (position (λ byte. byte == 0) bytes)

-- A name, which takes all that is left.
unfoldable pub name_field : Take (List ℕ)
name_field = λ bytes. Ok (before_zero bytes, [])

-- What a call took, as a view shows it, and what it left.
abbrev pub taken : {A V : Type 0} → (A → V) → FieldResult A → List ℕ → FieldResult (V × List ℕ)
taken view (Ok value) left = Ok (view value, left)
taken view (Err error) left = Err error

-- What a call read, as a view shows it.
abbrev pub seen : {A V : Type 0} → (A → V) → FieldResult A → FieldResult V
seen view (Ok value) = Ok (view value)
seen view (Err error) = Err error

-- What is read of some bytes, whatever is left of them.
abbrev pub read_of : {A : Type 0} → Take A → List ℕ → FieldResult A
read_of part bytes = and_then (part bytes) (λ taken. Ok taken.0)
