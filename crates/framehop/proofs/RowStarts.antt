-- No row of an FDE holds below the start of its code.
use Rattle.std.proofs.Common.{◌≡◌, ℕ, ◌+◌, ◌*◌, ◌%◌, ◌^◌, ◌<◌, ◌≤◌, Bool, true, false, cond, List, [], ◌∷◌, Option, Some, None, Result, Ok, Err, refl, ap, ◌∙◌, arith}
use Rattle.std.specs.Prelude.{nat_lt, unwrap_or}
use Rattle.std.specs.FinMap.{empty}
use Rattle.std.specs.List.{find}
use Rattle.std.proofs.lemmas.Bool.Decides.{nat_tests}
use Rattle.dwarf_constants.specs.declared.common.Vendor.{Vendor}
use Rattle.dwarf_constants.specs.declared.error.Error.{Error}
use Rattle.dwarf_constants.specs.declared.error.Error.TheVariants.{AddressOverflow, InvalidCfiSetLoc, NoUnwindInfoForAddress}
use Rattle.dwarf_frame_rows.specs.declared.effect.Effect.{Effect}
use Rattle.dwarf_frame_rows.specs.declared.effect.Effect.TheVariants.{Move}
use Rattle.dwarf_frame_rows.specs.Effects.{Limits}
use Rattle.dwarf_frame_rows.specs.FrameSection.{FrameSection}
use Rattle.dwarf_frame_rows.specs.Row.{Row, holds_at}
use Rattle.dwarf_frame_instructions.specs.declared.effects.Factors.{Factors}
use Rattle.dwarf_frame_instructions.specs.declared.instructions.CallFrameInstruction.{CallFrameInstruction}
use Rattle.dwarf_frame_instructions.specs.declared.instructions.CallFrameInstruction.TheVariants as instruction
use Rattle.dwarf_frame_instructions.specs.Effects.{address_limit, effect_of}
use Rattle.dwarf_frame_instructions.specs.Programs.{EntryProgram, InstructionContext, Instructions, InstructionStep, Moves, Refused, RowList, Writes, executed_by_cie, found_or, no_rows, refused_rows, row_after, row_before, rows_after_cie, rows_from, rows_of_program, rules_left, step_by, step_from, step_of, written}
use Rattle.dwarf_frame_instructions.specs.Refusals.{needs}
use Rattle.dwarf_frame_entries.specs.Entries.{Fde}
use Rattle.dwarf_frame_entries.specs.EntryPrograms.{fde_program, fde_row}

-- ---- moves go on

module _ {T : Type 0} where
  never-moves : (effect : Effect T) (next : ℕ) (need : Result (Unit {0}) Error) {A : Type 0} → written effect need ≡ Moves next → A
  never-moves effect next (Ok done) is = cc
  never-moves effect next (Err e) is = cc

  -- a step that moves has the effect of a move
  moved-by : (frame : InstructionContext T) (executed : List (Effect T)) (effect : Effect T) (next : ℕ) → step_by frame executed effect ≡ Moves next → effect ≡ Move next
  moved-by frame executed (Move location) next is = let same : location ≡ next = cc in ap Move same
  moved-by frame executed effect next is = never-moves effect next (needs frame.limits frame.initial_rules executed effect) is

  moved-from : (frame : InstructionContext T) (executed : List (Effect T)) (answer : Result (Effect T) Error) (next : ℕ) → step_from frame executed answer ≡ Moves next → answer ≡ Ok (Move next)
  moved-from frame executed (Ok effect) next is = ap (λ e. Ok e) (moved-by frame executed effect next is)
  moved-from frame executed (Err e) next is = cc

  set-on : (location address next : ℕ) (b : Bool) → nat_lt address location ≡ b → ◌≡◌ {A = Result (Effect T) Error} (cond b (Err (InvalidCfiSetLoc address)) (Ok (Move address))) (Ok (Move next)) → location ≤ next
  set-on location address next true test is = cc
  set-on location address next false test is = let same : address ≡ next = cc in grind (arith, nat_tests)

  advanced-on : (location to next : ℕ) (b : Bool) → location ≤ to → ◌≡◌ {A = Result (Effect T) Error} (cond b (Ok (Move to)) (Err AddressOverflow)) (Ok (Move next)) → location ≤ next
  advanced-on location to next true le is = let same : to ≡ next = cc in omega arith
  advanced-on location to next false le is = cc

  -- the location never goes back
  goes-on : (factors : Factors) (location next : ℕ) (i : CallFrameInstruction T) → effect_of factors location i ≡ Ok (Move next) → location ≤ next
  goes-on factors location next (instruction.SetLoc address) is = set-on location address next (nat_lt address location) refl is
  goes-on factors location next (instruction.AdvanceLoc delta) is =
      let to : ℕ = location + (delta * factors.code_alignment_factor) % 2 ^ 64 in
      advanced-on location to next (nat_lt to (address_limit factors.address_size)) (omega arith) is
  goes-on factors location next _ is = cc

  step-goes-on : (frame : InstructionContext T) (location next : ℕ) (executed : List (Effect T)) (i : CallFrameInstruction T) → step_of frame location executed i ≡ Moves next → location ≤ next
  step-goes-on frame location next executed i is = goes-on frame.factors location next i (moved-from frame executed (effect_of frame.factors location i) next is)

-- ---- rows

module _ {T : Type 0} (address : ℕ) where
  -- no row among these holds at the address
  abbrev NoneHolds : RowList T → Type 0
  NoneHolds list = find (holds_at address) list.rows ≡ None

  out-below : (row : Row T) → address < row.start → holds_at address row ≡ false
  out-below row below = grind (arith, nat_tests)

  starts-later : (row : Row T) (others : RowList T) → address < row.start → NoneHolds others → NoneHolds (row_before row others)
  starts-later row others below none = ap (λ (b : Bool). cond b (Some row) (find (holds_at address) others.rows)) (out-below row below) ∙ none

  -- what a step makes of rows
  abbrev rows-by : InstructionContext T → ℕ → ℕ → List (Effect T) → Instructions T → InstructionStep T → RowList T
  rows-by frame end start executed rest step = elim step [
    | Moves location ↦ row_before (row_after (unwrap_or frame.initial_rules empty) start location executed) (rows_from frame end location executed rest)
    | Writes effect ↦ rows_from frame end start (effect ∷ executed) rest
    | Refused e ↦ refused_rows e
  ]

  none-from : (frame : InstructionContext T) (end start : ℕ) (executed : List (Effect T)) (instructions : Instructions T) → address < start → NoneHolds (rows_from frame end start executed instructions)
  none-from frame end start executed [] below = starts-later (row_after (unwrap_or frame.initial_rules empty) start end executed) no_rows below refl
  none-from frame end start executed (Err e ∷ rest) below = refl
  none-from frame end start executed (Ok i ∷ rest) below =
      go (step_of frame start executed i) refl (λ next. none-from frame end next executed rest) (λ effect. none-from frame end start (effect ∷ executed) rest)
    where
      go : (step : InstructionStep T) → step_of frame start executed i ≡ step → ((next : ℕ) → address < next → NoneHolds (rows_from frame end next executed rest))
          → ((effect : Effect T) → address < start → NoneHolds (rows_from frame end start (effect ∷ executed) rest))
          → NoneHolds (rows-by frame end start executed rest step)
      go (Moves next) is moved wrote =
          let on : start ≤ next = step-goes-on frame start next executed i is in
          starts-later (row_after (unwrap_or frame.initial_rules empty) start next executed) (rows_from frame end next executed rest) below (moved next (omega arith))
      go (Writes effect) is moved wrote = wrote effect below
      go (Refused e) is moved wrote = refl

  none-of-program : (limits : Limits) (program : EntryProgram T) → address < program.initial_address → NoneHolds (rows_of_program limits program)
  none-of-program limits program below = go (executed_by_cie limits program.factors program.initial_instructions)
    where
      go : (left : Result (List (Effect T)) Error) → NoneHolds (rows_after_cie limits program left)
      go (Ok executed) = none-from (record { factors = program.factors; limits = limits; initial_rules = Some (rules_left executed) }) program.end_address program.initial_address executed program.instructions below
      go (Err e) = refl

-- below the start of its code an FDE has no row
pub no-row-below : (limits : Limits) (section : FrameSection) (vendor : Vendor) (fde : Fde) (address : ℕ) → address < fde.initial_address
    → fde_row limits section vendor fde address ≡ Err (unwrap_or (rows_of_program limits (fde_program section vendor fde)).refusal NoUnwindInfoForAddress)
no-row-below limits section vendor fde address below =
    ap (λ (o : Option (Row ℕ)). found_or (rows_of_program limits (fde_program section vendor fde)).refusal o) (none-of-program address limits (fde_program section vendor fde) below)
