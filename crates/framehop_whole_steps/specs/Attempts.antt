-- What a row that is taken whole says of a frame.
use Rattle.std.specs.Prelude.{ℕ, ◌==◌, ◌&&◌, Bool, false, Option, Some, None, Result, Ok, Err, if◌then◌else◌, option_and_then, unwrap_or}
use Rattle.framehop_registers.specs.Callback.{Words}
use Rattle.framehop_rules.specs.Outcome.{Caller}
use Rattle.framehop_expressions.specs.Architectures.{instruction_pointer, stack_pointer}
use Rattle.framehop_expressions.specs.declared.architecture.Architecture.{Architecture}
use Rattle.framehop_whole_rows.specs.Callers.{WholeCaller, caller_of}
use Rattle.framehop_whole_rows.specs.Rules.{RowFrame}
use Rattle.framehop_whole_rows.specs.declared.caller.CallerError.{CallerError}
use Rattle.framehop_unwinder.specs.Attempt.{Attempt, Says, Evaluates}
use Rattle.framehop_whole_steps.specs.Carrying.{Carrying}
use Rattle.framehop_whole_steps.specs.FoundRows.{FoundRow, ends_at}
use Rattle.framehop_whole_steps.specs.Known.{known_of}
use Rattle.framehop_whole_steps.specs.Registers.{values_of}
use Rattle.framehop_whole_steps.specs.declared.registers.WholeRegs.{WholeRegs}
use Rattle.framehop_whole_steps.specs.declared.rule.WholeRule.{WholeRule}
use Rattle.framehop_whole_steps.specs.declared.rule.WholeRule.TheVariants as whole

-- a value is known, and is this one
abbrev pub is_value : ℕ → Option ℕ → Bool
is_value value None = false
is_value value (Some known) = known == value

-- a frame with these registers that are known has this instruction pointer and this stack pointer
abbrev pub is_at : Architecture → (known : ℕ → Option ℕ) → (to sp : ℕ) → Bool
is_at architecture known to sp =
    is_value to (known (instruction_pointer architecture)) && is_value sp (known (stack_pointer architecture))

-- the registers of a caller with this stack pointer: exactly what the row gives is known; a frame pointer that isn't is 0
abbrev pub registers_with : {Registers : Type 0} → Carrying Registers → WholeRegs Registers → WholeCaller → (sp : ℕ) → WholeRegs Registers
registers_with c registers caller sp = record {
  regs = c.with_frame registers.regs caller.return_address sp (unwrap_or (caller.registers c.frame_pointer) 0);
  others = Some (values_of caller.registers);
}

-- the caller with this stack pointer, unless the step changes neither stack pointer nor instruction pointer
abbrev pub caller_with : {Registers : Type 0} → Carrying Registers → (known : ℕ → Option ℕ) → WholeRegs Registers → WholeCaller → (sp : ℕ)
    → Option (Caller (WholeRegs Registers))
caller_with c known registers caller sp =
    if is_at c.architecture known caller.return_address sp then None
    else Some (record { return_address = caller.return_address; registers = registers_with c registers caller sp })

-- .. if its stack pointer is known
abbrev pub caller_taken : {Registers : Type 0} → Carrying Registers → (known : ℕ → Option ℕ) → WholeRegs Registers → WholeCaller
    → Option (Caller (WholeRegs Registers))
caller_taken c known registers caller =
    option_and_then (caller_with c known registers caller) (caller.registers (stack_pointer c.architecture))

-- the caller that a row gives, if it gives one
abbrev pub caller_by : {Registers : Type 0} → Carrying Registers → (known : ℕ → Option ℕ) → WholeRegs Registers
    → Result (Option WholeCaller) CallerError → Option (Caller (WholeRegs Registers))
caller_by c known registers (Ok (Some caller)) = caller_taken c known registers caller
caller_by c known registers (Ok None) = None
caller_by c known registers (Err why) = None

-- a frame with these registers at a row, on a stack of these words
abbrev pub frame_at : {Registers : Type 0} → Carrying Registers → (known : ℕ → Option ℕ) → Registers → Words → FoundRow → RowFrame
frame_at c known registers words found = record {
  architecture = c.architecture;
  mask = c.mask registers;
  frame = record { registers = known; words = words };
  section = found.section;
  row = found.row;
  column = found.column;
}

-- the caller of a frame at a row, by the registers that are known
abbrev pub caller_known : {Registers : Type 0} → Carrying Registers → FoundRow → (known : ℕ → Option ℕ) → WholeRegs Registers → Words
    → Option (Caller (WholeRegs Registers))
caller_known c found known registers words =
    caller_by c known registers (caller_of (frame_at c known registers.regs words found))

-- .. that are those of a first or a later frame
abbrev pub caller_at : {Registers : Type 0} → Carrying Registers → Bool → FoundRow → WholeRegs Registers → Words
    → Option (Caller (WholeRegs Registers))
caller_at c first found registers words = caller_known c found (known_of c first registers) registers words

-- what a row says of its frames: that the walk ends, or their callers
abbrev pub attempt_by_row : {Rule Registers : Type 0} → Carrying Registers → Bool → FoundRow → Attempt (WholeRule Rule) (WholeRegs Registers)
attempt_by_row c first found = if ends_at found then Says whole.Ends else Evaluates (caller_at c first found)
