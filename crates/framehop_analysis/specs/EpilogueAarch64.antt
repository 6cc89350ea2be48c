-- The end of a function on aarch64: loads of pairs and additions to the stack pointer, and the rule for them.
use Rattle.std.specs.Prelude.{ℕ, ◌≡◌, ◌*◌, ◌^◌, ◌<◌, ◌==◌, if◌then◌else◌, ℤ, pos, negsuc, ◌≤ℤ◌, ◌+ℤ◌, ◌*ℤ◌, List, [], ◌∷◌, ◌++◌, Option, Some, None}
use Rattle.std.specs.List.{AllByRecursion}
use Rattle.std.specs.Option.{option_map}
use Rattle.framehop_analysis.specs.FunctionEndsAarch64.{IsLeft}
use Rattle.framehop_analysis.specs.EpilogueInstructionsAarch64.{EpilogueFits, epilogue_spelling, EpilogueInstruction, Load, Add}
use Rattle.framehop_analysis.specs.MachineAarch64.{access_offset, raise}
use Rattle.framehop_rules.specs.declared.aarch64.unwind_rule.UnwindRuleAarch64.{UnwindRuleAarch64}
use Rattle.framehop_rules.specs.declared.aarch64.unwind_rule.UnwindRuleAarch64.TheVariants.{NoOp, OffsetSp, OffsetSpAndRestoreLr, OffsetSpAndRestoreFpAndLr}

-- By how many bytes an instruction raises the stack pointer, in whole numbers.
abbrev pub raise_of : EpilogueInstruction → ℤ
raise_of (Load bit_30 pair) = raise pair
raise_of (Add shift number) = pos (number * 4096 ^ shift)

-- By how many bytes all raise it.
abbrev pub raise_of_all : List EpilogueInstruction → ℤ
raise_of_all [] = pos 0
raise_of_all (instruction ∷ more) = raise_of instruction +ℤ raise_of_all more

-- How many bytes from the stack pointer before it an instruction loads a register.
abbrev pub load_offset : ℕ → EpilogueInstruction → Option ℤ
load_offset number (Load bit_30 pair) =
    if pair.second == number then Some (access_offset pair +ℤ pos 8) else
    if pair.first == number then Some (access_offset pair) else None
load_offset number (Add shift amount) = None

-- The last of two loads, if there are any.
abbrev pub later : Option ℤ → Option ℤ → Option ℤ
later None first = first
later (Some last) first = Some last

-- How many bytes from the stack pointer before all instructions a register is loaded last.
abbrev pub last_load_offset : ℕ → List EpilogueInstruction → Option ℤ
last_load_offset number [] = None
last_load_offset number (instruction ∷ more) =
    later (option_map (λ bytes. raise_of instruction +ℤ bytes) (last_load_offset number more)) (load_offset number instruction)

-- The rule says by how many bytes the stack pointer goes up, and from which offsets x29 and x30 are loaded. There is none for x29
-- alone.
abbrev pub IsRuleFor : ℤ → Option ℤ → Option ℤ → UnwindRuleAarch64 → Type 0
IsRuleFor raised fp lr NoOp = (raised ≡ pos 0) × (fp ≡ None) × (lr ≡ None)
IsRuleFor raised fp lr (OffsetSp x) = (raised ≡ pos (16 * x)) × (fp ≡ None) × (lr ≡ None)
IsRuleFor raised fp lr (OffsetSpAndRestoreLr x y) = (raised ≡ pos (16 * x)) × (fp ≡ None) × (lr ≡ Some (pos 8 *ℤ y))
IsRuleFor raised fp lr (OffsetSpAndRestoreFpAndLr x y z) = (raised ≡ pos (16 * x)) × (fp ≡ Some (pos 8 *ℤ y)) × (lr ≡ Some (pos 8 *ℤ z))
IsRuleFor raised fp lr other = ⊥

-- The rule says so of these instructions.
abbrev pub IsRuleOfEpilogue : List EpilogueInstruction → UnwindRuleAarch64 → Type 0
IsRuleOfEpilogue list rule = IsRuleFor (raise_of_all list) (last_load_offset 29 list) (last_load_offset 30 list) rule

-- A storage offset fits 16 bits with a sign.
pub record FitsOffset (units : ℤ) : Type 0 where
  pub low : negsuc 32767 ≤ℤ units
  pub high : units ≤ℤ pos 32767

-- The numbers of a rule fit their fields, and a move by 0 is `NoOp`.
abbrev pub FieldsFit : UnwindRuleAarch64 → Type 0
FieldsFit (OffsetSp x) = (0 < x) × (x < 2 ^ 16)
FieldsFit (OffsetSpAndRestoreLr x y) = (x < 2 ^ 16) × FitsOffset y
FieldsFit (OffsetSpAndRestoreFpAndLr x y z) = (x < 2 ^ 16) × FitsOffset y × FitsOffset z
FieldsFit other = Unit {0}

-- The bytes begin with these instructions, and then the function is left.
pub record IsEnd (bytes : List ℕ) (instructions : List EpilogueInstruction) : Type 0 where
  pub fit : AllByRecursion EpilogueFits instructions
  pub rest : List ℕ
  pub spelled : bytes ≡ epilogue_spelling instructions ++ rest
  pub left : IsLeft rest (raise_of_all instructions)
