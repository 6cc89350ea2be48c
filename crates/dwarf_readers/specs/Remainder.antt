-- What reads leave: the bytes that they take are gone.
use Rattle.std.specs.Prelude.{ℕ, ◌≡◌, ◌+◌, ◌==◌, ◌≤◌, length, Option, Some, None, option_map, Result, Ok, Err, if◌then◌else◌}
use Rattle.dwarf_constants.specs.declared.error.Error.{Error}
use Rattle.dwarf_readers.specs.Stretch.{Stretch, ◌>>=◌, behind}
use Rattle.list_laws.specs.Items.{Answer}

-- What is left, if anything, is at least n bytes shorter than the stretch.
abbrev pub IsShorter : ℕ → Stretch → Option Stretch → Type 0
IsShorter n s (Some rest) = n + length rest.bytes ≤ length s.bytes
IsShorter n s None = Unit {0}

-- What an answer leaves, as rest gives it, is at least n bytes shorter than the stretch; an error leaves nothing.
abbrev pub IsLessLeft : {X : Type 0} → (X → Option Stretch) → ℕ → Stretch → Result X Error → Type 0
IsLessLeft rest n s (Ok x) = IsShorter n s (rest x)
IsLessLeft rest n s (Err e) = Unit {0}

-- An answer leaves at least n bytes fewer than the stretch has.
pub record LeavesLess {X : Type 0} (rest : X → Option Stretch) (n : ℕ) (s : Stretch) (answer : Result X Error) : Type 0 where
  pub less : IsLessLeft rest n s answer

-- A read takes at least n bytes.
abbrev pub Takes : {A : Type 0} → ℕ → Stretch → Result (A × Stretch) Error → Type 0
Takes n s read = LeavesLess (λ x. Some x.1) n s read

-- A move passes at least n bytes.
abbrev pub Passes : ℕ → Stretch → Result Stretch Error → Type 0
Passes n s move = LeavesLess Some n s move

-- An item takes at least n bytes.
abbrev pub TakesItem : {A : Type 0} → ℕ → Stretch → Answer Stretch A Error → Type 0
TakesItem n s answer = LeavesLess (option_map (λ x. x.1)) n s answer

-- what is read if bytes are left, and else the end
abbrev pub item_at : {A : Type 0} → (Stretch → Result (A × Stretch) Error) → Stretch → Answer Stretch A Error
item_at read s = if length s.bytes == 0 then Ok None else (do
  item ← read s
  Ok (Some item))

-- how many bytes a stretch has
abbrev pub size_of : Stretch → ℕ
size_of s = length s.bytes

-- What is left is the stretch without as many of its first bytes as count says.
pub record IsRest (s rest : Stretch) : Type 0 where
  pub count : ℕ
  pub inside : count ≤ length s.bytes
  pub is : rest ≡ behind count s
