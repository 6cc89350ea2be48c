-- The values that the rules of a row give (DWARF 5, 6.4.1), over the registers of a frame that are known and the words of memory.
use Rattle.std.specs.Prelude.{ℕ, ℤ, ◌==◌, Option, Some, None, Result, Ok, Err, if◌then◌else◌}
use Rattle.std.specs.Option.{ok_or}
use Rattle.dwarf_constants.specs.declared.error.Error.{Error}
use Rattle.dwarf_readers.specs.Stretch.{Stretch}
use Rattle.dwarf_frame_rows.specs.Expressions.{expression_in}
use Rattle.dwarf_frame_rows.specs.Row.{Row}
use Rattle.dwarf_frame_rows.specs.declared.expression.UnwindExpression.{UnwindExpression}
use Rattle.dwarf_frame_rows.specs.declared.rules.CfaRule.{CfaRule}
use Rattle.dwarf_frame_rows.specs.declared.rules.CfaRule.TheVariants as cfa
use Rattle.dwarf_frame_rows.specs.declared.rules.RegisterRule.{RegisterRule}
use Rattle.dwarf_frame_rows.specs.declared.rules.RegisterRule.TheVariants as rule
use Rattle.framehop_registers.specs.declared.aarch64.unwindregs.PtrAuthMask.{PtrAuthMask}
use Rattle.framehop_rows.specs.RowSources.{plus}
use Rattle.framehop_expressions.specs.Architectures.{instruction_pointer, is_saved_by_callees, stack_pointer}
use Rattle.framehop_expressions.specs.Evaluation.{Frame, expression_value, word_value}
use Rattle.framehop_expressions.specs.declared.architecture.Architecture.{Architecture}
use Rattle.framehop_expressions.specs.declared.unknown.Unknown.{Unknown}
use Rattle.framehop_expressions.specs.declared.unknown.Unknown.TheVariants as unknown

-- a value that is known, and then what is made of it
abbrev pub known_then : {A B : Type 0} → Result A Unknown → (A → Result B Unknown) → Result B Unknown
known_then (Ok x) next = next x
known_then (Err why) next = Err why

-- a frame at a row: the architecture, the mask of code addresses, the registers that are known and the words of memory, the section that
-- has the row's expressions, the row, and the register of the return address
pub record RowFrame : Type 0 where
  pub architecture : Architecture
  pub mask : PtrAuthMask
  pub frame : Frame
  pub section : Stretch
  pub row : Row ℕ
  pub column : ℕ

-- why a value isn't known: this register isn't
abbrev pub unknown_register : ℕ → Unknown
unknown_register number = unknown.Register (record { 0 = number })

-- the value of a register in the frame
abbrev pub register_value : (ℕ → Option ℕ) → ℕ → Result ℕ Unknown
register_value registers number = ok_or (registers number) (unknown_register number)

-- a base plus an offset in bytes, if that is an address of 64 bits
abbrev pub moved : ℕ → ℤ → Result ℕ Unknown
moved base offset = ok_or (plus base offset) unknown.OutOfRange

-- a register's value plus an offset
abbrev pub offset_value : (ℕ → Option ℕ) → ℕ → ℤ → Result ℕ Unknown
offset_value registers number offset = known_then (register_value registers number) (λ base. moved base offset)

-- the value of an expression of these bytes, if they are there
abbrev pub result_of_bytes : Frame → Option ℕ → Result Stretch Error → Result ℕ Unknown
result_of_bytes f first (Ok bytes) = expression_value f bytes first
result_of_bytes f first (Err e) = Err (unknown.Expression e)

-- the value of an expression of the section, with this value on its stack first, if there is one
abbrev pub computed : RowFrame → Option ℕ → UnwindExpression ℕ → Result ℕ Unknown
computed r first expression = result_of_bytes r.frame first (expression_in r.section expression.offset expression.length)

-- the canonical frame address
abbrev pub cfa_value : RowFrame → CfaRule ℕ → Result ℕ Unknown
cfa_value r (cfa.RegisterAndOffset register offset) = offset_value r.frame.registers register.0 offset
cfa_value r (cfa.Expression expression) = computed r None expression

-- the word at the value of an expression, on whose stack the CFA is first (6.4.2.3)
abbrev pub word_computed : RowFrame → (cfa : ℕ) → UnwindExpression ℕ → Result ℕ Unknown
word_computed r cfa expression = known_then (computed r (Some cfa) expression) (word_value r.frame.words)

-- the value that the rule of a register gives at a CFA. No architecture has a rule of its own; a constant is a rule of the sign state
abbrev pub rule_value : RowFrame → (cfa number : ℕ) → RegisterRule ℕ → Result ℕ Unknown
rule_value r cfa number rule.Undefined = Err (unknown_register number)
rule_value r cfa number rule.SameValue = register_value r.frame.registers number
rule_value r cfa number (rule.Offset offset) = known_then (moved cfa offset) (word_value r.frame.words)
rule_value r cfa number (rule.ValOffset offset) = moved cfa offset
rule_value r cfa number (rule.Register register) = register_value r.frame.registers register.0
rule_value r cfa number (rule.Expression expression) = word_computed r cfa expression
rule_value r cfa number (rule.ValExpression expression) = computed r (Some cfa) expression
rule_value r cfa number rule.Architectural = Err (unknown_register number)
rule_value r cfa number (rule.Constant n) = Ok n

-- a register of the caller without a rule: the stack pointer is the CFA, and what functions leave as it was has its value
abbrev pub unruled_value : Architecture → (ℕ → Option ℕ) → (cfa number : ℕ) → Result ℕ Unknown
unruled_value architecture registers cfa number =
    if number == stack_pointer architecture then Ok cfa
    else if is_saved_by_callees architecture number then register_value registers number
    else Err (unknown_register number)

-- a register of the caller, by its rule if it has one
abbrev pub given_by : RowFrame → (cfa number : ℕ) → Option (RegisterRule ℕ) → Result ℕ Unknown
given_by r cfa number (Some column) = rule_value r cfa number column
given_by r cfa number None = unruled_value r.architecture r.frame.registers cfa number

-- the return address if its register has no rule: it is still there, unless that is the instruction pointer
abbrev pub unruled_return : Architecture → (ℕ → Option ℕ) → ℕ → Result (Option ℕ) Unknown
unruled_return architecture registers number =
    if number == instruction_pointer architecture then Err (unknown_register number)
    else known_then (register_value registers number) (λ address. Ok (Some address))

-- the return address by a rule of its register that gives it a value
abbrev pub stated_return : RowFrame → (cfa : ℕ) → RegisterRule ℕ → Result (Option ℕ) Unknown
stated_return r cfa column = known_then (rule_value r cfa r.column column) (λ address. Ok (Some address))

-- .. by any rule: if it is undefined there is no caller (6.4.4)
abbrev pub ruled_return : RowFrame → (cfa : ℕ) → RegisterRule ℕ → Result (Option ℕ) Unknown
ruled_return r cfa rule.Undefined = Ok None
ruled_return r cfa column = stated_return r cfa column

-- .. by its rule, if it has one
abbrev pub return_by : RowFrame → (cfa : ℕ) → Option (RegisterRule ℕ) → Result (Option ℕ) Unknown
return_by r cfa None = unruled_return r.architecture r.frame.registers r.column
return_by r cfa (Some column) = ruled_return r cfa column
