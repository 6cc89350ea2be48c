-- Pushes that some bytes end with.
use Rattle.std.specs.List.{AllByRecursion}
use Rattle.std.specs.Prelude.{Bool, ◌==◌, ◌&&◌, ◌||◌, nat_lt, nat_le, slice_index, ℕ, ◌≡◌, ◌≢◌, ◌<◌, ◌≤◌, ◌+◌, ◌⊎◌, List, [], ◌∷◌, ◌++◌, length}
use Rattle.framehop_analysis.specs.Instructions.{RexPrefix, NoRex, Instruction, Push, bytes_of, spelling}
use Rattle.framehop_analysis.specs.Prologue.{IsPush}

-- The bytes end with a push, with its prefix where one stands there.
pub record EndsWithPush (bytes prefix : List ℕ) : Type 0 where
  pub rex : RexPrefix
  pub low : ℕ
  pub fits : low < 8
  pub spelled : bytes ≡ prefix ++ bytes_of (Push rex low)
  pub whole : rex ≡ NoRex → (byte : ℕ) (more : List ℕ) → (byte ≡ 0x40) ⊎ (byte ≡ 0x41) → prefix ≢ more ++ byte ∷ []

-- The bytes end with a prefix that a push can have, and these come before it; or they end with none, and these are all.
abbrev pub IsBeforeRex : List ℕ → List ℕ → Type 0
IsBeforeRex bytes before =
    ((byte : ℕ) × ((byte ≡ 0x40) ⊎ (byte ≡ 0x41)) × (bytes ≡ before ++ byte ∷ []))
    ⊎ ((before ≡ bytes) × ((byte : ℕ) (more : List ℕ) → (byte ≡ 0x40) ⊎ (byte ≡ 0x41) → bytes ≢ more ++ byte ∷ []))

-- The bytes end with no push.
abbrev pub EndsWithNoPush : List ℕ → Type 0
EndsWithNoPush bytes = (rex : RexPrefix) (low : ℕ) (prefix : List ℕ) → low < 8 → bytes ≢ prefix ++ bytes_of (Push rex low)

-- So many pushes are read. A run of pushes at the end begins no further back, unless it goes on through the bytes before them.
pub record IsGreedyRun (bytes prefix : List ℕ) (pushes : List Instruction) (count : ℕ) : Type 0 where
  pub all : AllByRecursion IsPush pushes
  pub spelled : bytes ≡ prefix ++ spelling pushes
  pub counted : count ≡ length pushes
  pub within : count + length prefix ≤ length bytes
  pub greedy : (other_prefix : List ℕ) (others : List Instruction) → AllByRecursion IsPush others → bytes ≡ other_prefix ++ spelling others
      → (length prefix ≤ length other_prefix) ⊎ ((more : List Instruction) × AllByRecursion IsPush more × (prefix ≡ other_prefix ++ spelling more))

-- The byte of a push, whatever stands before it.
abbrev pub is_push_byte : ℕ → Bool
is_push_byte byte = nat_le 0x50 byte && nat_lt byte 0x58

-- The byte of a REX prefix.
abbrev pub is_rex_byte : ℕ → Bool
is_rex_byte byte = (byte == 0x40) || (byte == 0x41)

-- The test whether an expected instruction comes next.
abbrev pub is_expected : List ℕ → Bool
is_expected bytes =
    let first = slice_index bytes 0 in
    let second = slice_index bytes 1 in
    let third = slice_index bytes 2 in
    nat_le 4 (length bytes) &&
    (is_push_byte first || (is_rex_byte first && is_push_byte second)
    || (((first == 0x83) || (first == 0x81)) && (second == 0xec))
    || ((first == 0x48) && ((second == 0x83) || (second == 0x81)) && (third == 0xec))
    || ((first == 0x48) && (second == 0x89) && (third == 0xe5)))
