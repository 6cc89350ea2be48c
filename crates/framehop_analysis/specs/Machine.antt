-- What the instructions do (Intel's manual, volume 2, 'Operation' of MOV, POP, PUSH, RET), on a memory that has a word at every
-- address. Sums are modulo 2^64.
use Rattle.std.specs.Prelude.{ℕ, ◌+◌, ◌-◌, ◌%◌, ◌^◌, ◌==◌, if◌then◌else◌, List, [], ◌∷◌}
use Rattle.framehop_analysis.specs.Instructions.{Instruction, Push, Pop, SetFramePointer, Return, Jump, register_number}

-- The instruction pointer, RSP, RBP, the other registers by their numbers, and the memory.
pub record State : Type 0 where
  pub ip : ℕ
  pub sp : ℕ
  pub bp : ℕ
  pub others : ℕ → ℕ
  pub memory : ℕ → ℕ

-- A map with another value at one number.
abbrev pub updated : (ℕ → ℕ) → ℕ → ℕ → (ℕ → ℕ)
updated map at value = λ other. if other == at then value else map other

-- The value of the register with a number.
abbrev pub register : State → ℕ → ℕ
register s number = if number == 4 then s.sp else if number == 5 then s.bp else s.others number

-- The state with another value of the register with a number.
abbrev pub with_register : State → ℕ → ℕ → State
with_register s number value =
    if number == 4 then record s { sp = value } else
    if number == 5 then record s { bp = value } else
    record s { others = updated s.others number value }

-- A stack pointer 8 higher.
abbrev pub higher : ℕ → ℕ
higher sp = (sp + 8) % 2 ^ 64

-- A stack pointer 8 lower.
abbrev pub lower : ℕ → ℕ
lower sp = (sp + (2 ^ 64 - 8)) % 2 ^ 64

-- A return takes the word at the stack pointer as the next instruction's address.
abbrev pub returned : State → State
returned s = record s { ip = s.memory s.sp; sp = higher s.sp }

-- What an instruction does. POP reads before it writes, so that `pop rsp` loads the stack pointer. A jump leaves for another
-- function, whose return it stands for.
abbrev pub effect : Instruction → State → State
effect (Push rex low) s =
    record s { sp = lower s.sp; memory = updated s.memory (lower s.sp) (register s (register_number rex low)) }
effect (Pop rex low) s = with_register (record s { sp = higher s.sp }) (register_number rex low) (s.memory s.sp)
effect SetFramePointer s = record s { bp = s.sp }
effect Return s = returned s
effect (Jump first) s = returned s

-- The state after instructions, one after the other.
abbrev pub state_after : List Instruction → State → State
state_after [] s = s
state_after (instruction ∷ more) s = state_after more (effect instruction s)
