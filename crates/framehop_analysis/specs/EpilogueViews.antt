-- Pops that some bytes begin with.
use Rattle.std.specs.List.{AllByRecursion}
use Rattle.std.specs.Prelude.{ℕ, ◌≡◌, ◌≢◌, ◌+◌, ◌<◌, ◌≤◌, ◌==◌, ◌||◌, ◌&&◌, if◌then◌else◌, Bool, false, List, [], ◌∷◌, ◌++◌, length, Option}
use Rattle.framehop_analysis.specs.Instructions.{RexPrefix, Instruction, Pop, bytes_of, spelling, is_plain_rbp_pop}
use Rattle.framehop_analysis.specs.Epilogue.{last_rbp_pop}

-- The bytes are those of a pop, and then others; is it `pop rbp` without a prefix?
pub record IsPopThen (bytes : List ℕ) (is_plain_rbp : Bool) (suffix : List ℕ) : Type 0 where
  pub rex : RexPrefix
  pub low : ℕ
  pub fits : low < 8
  pub spelled : bytes ≡ bytes_of (Pop rex low) ++ suffix
  pub is_bp : is_plain_rbp ≡ is_plain_rbp_pop (Pop rex low)

-- The bytes after a prefix that a pop can have, or all if they begin with none.
abbrev pub after_rex : List ℕ → List ℕ
after_rex [] = []
after_rex (byte ∷ more) = if (byte == 0x40) || (byte == 0x41) then more else byte ∷ more

-- The bytes begin with no pop.
abbrev pub BeginsWithNoPop : List ℕ → Type 0
BeginsWithNoPop bytes = (rex : RexPrefix) (low : ℕ) (suffix : List ℕ) → low < 8 → bytes ≢ bytes_of (Pop rex low) ++ suffix

-- Pops alone.
abbrev pub IsPop : Instruction → Type 0
IsPop (Pop rex low) = low < 8
IsPop other = ⊥

-- The bytes are those of pops, and then others. The pops are so many, and RBP is popped last after so many others.
pub record IsPopRun (bytes : List ℕ) (pops : List Instruction) (count : ℕ) (bp_offset_by_8 : Option ℕ) (suffix : List ℕ) : Type 0 where
  pub all : AllByRecursion IsPop pops
  pub spelled : bytes ≡ spelling pops ++ suffix
  pub counted : count ≡ length pops
  pub bp_offset : bp_offset_by_8 ≡ last_rbp_pop pops
  pub within : count + length suffix ≤ length bytes

-- The bytes are those of pops, and then others, which begin with no pop.
abbrev pub IsWholePopRun : List ℕ → ℕ → Option ℕ → List ℕ → Type 0
IsWholePopRun bytes count bp_offset_by_8 suffix = (pops : List Instruction) × IsPopRun bytes pops count bp_offset_by_8 suffix × BeginsWithNoPop suffix

-- The bytes begin with a return, or with a jump that comes after a pop.
abbrev pub leaves_function : Bool → List ℕ → Bool
leaves_function is_after_pop [] = false
leaves_function is_after_pop (byte ∷ more) =
    (byte == 0xc3) || (((byte == 0xe9) || (byte == 0xeb) || (byte == 0xff)) && is_after_pop)
