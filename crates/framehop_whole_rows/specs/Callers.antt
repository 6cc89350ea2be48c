-- The caller that a row gives (DWARF 5, 6.4.3): the canonical frame address first, then the return address, then each register.
use Rattle.std.specs.Prelude.{ℕ, ◌≡◌, ◌%◌, ◌==◌, Bool, false, Option, Some, None, Result, Ok, Err, nat_lt, if◌then◌else◌}
use Rattle.std.specs.FinMap.{get}
use Rattle.dwarf_readers.specs.Stretch.{Stretch}
use Rattle.dwarf_frame_rows.specs.Row.{Row}
use Rattle.framehop_registers.specs.Callback.{Words, OverWords}
use Rattle.framehop_registers.specs.RegistersAarch64.{stripped_address}
use Rattle.framehop_registers.specs.declared.aarch64.unwindregs.PtrAuthMask.{PtrAuthMask}
use Rattle.framehop_expressions.specs.Architectures.{instruction_pointer, register_count, sign_state}
use Rattle.framehop_expressions.specs.MachineViews.{frame_of}
use Rattle.framehop_expressions.specs.Registers.{known}
use Rattle.framehop_expressions.specs.declared.registers.KnownRegisters.{KnownRegisters}
use Rattle.framehop_expressions.specs.declared.unknown.Unknown.{Unknown}
use Rattle.framehop_whole_rows.specs.Rules.{RowFrame, cfa_value, given_by, return_by}
use Rattle.framehop_whole_rows.specs.declared.caller.CallerError.{CallerError}
use Rattle.framehop_whole_rows.specs.declared.caller.CallerError.TheVariants as error
use Rattle.framehop_whole_rows.specs.declared.caller.KnownCaller.{KnownCaller}
use Rattle.framehop_whole_rows.specs.declared.caller.Returned.{Returned}

-- a caller: its return address, and its registers that are known, by their numbers
pub record WholeCaller : Type 0 where
  pub return_address : ℕ
  pub registers : ℕ → Option ℕ

-- a register of the caller by its rule, if it has one, at a CFA
abbrev pub given : RowFrame → (cfa number : ℕ) → Result ℕ Unknown
given r cfa number = given_by r cfa number (get r.row.rules number)

-- the lowest bit of the sign state, if that is known
abbrev pub is_signed : Result ℕ Unknown → Bool
is_signed (Ok state) = state % 2 == 1
is_signed (Err why) = false

-- a return address without its authentication code, if it is signed
abbrev pub code_address : PtrAuthMask → Bool → ℕ → ℕ
code_address mask signed address = if signed then stripped_address mask address else address

-- the return address at a CFA, or that there is no caller
abbrev pub returned_to : RowFrame → (cfa : ℕ) → Option ℕ → Option Returned
returned_to r cfa None = None
returned_to r cfa (Some address) =
    Some (record { cfa = cfa; address = code_address r.mask (is_signed (given r cfa sign_state)) address })

-- .. or why it isn't known
abbrev pub returned_by : RowFrame → (cfa : ℕ) → Result (Option ℕ) Unknown → Result (Option Returned) CallerError
returned_by r cfa (Ok to) = Ok (returned_to r cfa to)
returned_by r cfa (Err why) = Err (error.ReturnAddress why)

-- .. by the CFA
abbrev pub returned_at : RowFrame → Result ℕ Unknown → Result (Option Returned) CallerError
returned_at r (Err why) = Err (error.Cfa why)
returned_at r (Ok cfa) = returned_by r cfa (return_by r cfa (get r.row.rules r.column))

-- the CFA and the return address
abbrev pub returned : RowFrame → Result (Option Returned) CallerError
returned r = returned_at r (cfa_value r r.row.cfa)

-- a value, if it is known
abbrev pub if_known : Result ℕ Unknown → Option ℕ
if_known (Ok value) = Some value
if_known (Err why) = None

-- a register of the caller: the instruction pointer is the return address; the register that held that was written by the call
abbrev pub caller_register : RowFrame → Returned → ℕ → Option ℕ
caller_register r to number =
    if number == instruction_pointer r.architecture then Some to.address
    else if number == r.column then None
    else if_known (given r to.cfa number)

-- .. if the architecture has it
abbrev pub register_after : RowFrame → Returned → ℕ → Option ℕ
register_after r to number = if nat_lt number (register_count r.architecture) then caller_register r to number else None

-- the caller, or that there is none, or why it isn't known
abbrev pub caller_by : RowFrame → Result (Option Returned) CallerError → Result (Option WholeCaller) CallerError
caller_by r (Err why) = Err why
caller_by r (Ok None) = Ok None
caller_by r (Ok (Some to)) = Ok (Some (record { return_address = to.address; registers = register_after r to }))

abbrev pub caller_of : RowFrame → Result (Option WholeCaller) CallerError
caller_of r = caller_by r (returned r)

-- ---- what the code returns

-- Registers are those that are known, of the frame's architecture and with its mask.
pub record AreRegisters (r : RowFrame) (registers : KnownRegisters) (values : ℕ → Option ℕ) : Type 0 where
  pub architecture_is : registers.architecture ≡ r.architecture
  pub mask_is : registers.mask ≡ r.mask
  pub values_are : (number : ℕ) → known registers number ≡ values number

-- A caller has this return address and these registers.
pub record IsCaller (r : RowFrame) (caller : KnownCaller) (whole : WholeCaller) : Type 0 where
  pub return_address : caller.return_address ≡ whole.return_address
  pub registers : AreRegisters r caller.registers whole.registers

-- The result is the caller, or that there is none, or why it isn't known.
abbrev pub IsResult : RowFrame → Result (Option KnownCaller) CallerError → Type 0
IsResult r (Err why) = caller_of r ≡ Err why
IsResult r (Ok None) = caller_of r ≡ Ok None
IsResult r (Ok (Some caller)) = (whole : WholeCaller) × (caller_of r ≡ Ok (Some whole)) × IsCaller r caller whole

-- what a frame at a row has but for words: the registers, the section, the row, and the register of the return address
pub record RowPlace : Type 0 where
  pub registers : KnownRegisters
  pub section : Stretch
  pub row : Row ℕ
  pub column : ℕ

abbrev pub row_place : KnownRegisters → Stretch → Row ℕ → (column : ℕ) → RowPlace
row_place registers section row column = record { registers = registers; section = section; row = row; column = column }

-- .. with words
abbrev pub row_frame : RowPlace → Words → RowFrame
row_frame place words = record {
  architecture = place.registers.architecture;
  mask = place.registers.mask;
  frame = frame_of place.registers words;
  section = place.section;
  row = place.row;
  column = place.column;
}

-- A call took the callback from `old` to `new`. Over all words that the callback answered by, the statement holds of the frame at the row.
abbrev pub OverRow : {S : Type 0} → (S → ℕ → Result ℕ (Unit {0}) → S → Type 0) → (old new : S) → RowPlace → (RowFrame → Type 0) → Type 0
OverRow step old new place Statement = OverWords step old new (λ words. Statement (row_frame place words))
