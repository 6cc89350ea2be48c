-- In a program without a refusal each address of the code lies in exactly one row.
use Rattle.std.proofs.Common.{◌≡◌, ℕ, suc, ◌+◌, ◌<◌, ◌≤◌, Bool, true, false, cond, List, [], ◌∷◌, length, Some, None, Result, Ok, Err, refl, ap, ◌∙◌, arith}
use Rattle.std.specs.Prelude.{◌*◌, ◌%◌, ◌^◌, nat_lt, unwrap_or}
use Rattle.std.specs.FinMap.{empty}
use Rattle.std.specs.List.{filter}
use Rattle.std.proofs.lemmas.Bool.Decides.{nat_tests}
use Rattle.dwarf_constants.specs.declared.error.Error.{Error}
use Rattle.dwarf_constants.specs.declared.error.Error.TheVariants.{AddressOverflow, InvalidCfiSetLoc}
use Rattle.dwarf_frame_rows.specs.declared.effect.Effect.{Effect}
use Rattle.dwarf_frame_rows.specs.declared.effect.Effect.TheVariants.{Move, Cfa, CfaRegister, CfaOffset, Rule, RestoreRule, NegateRaState, ArgsSize, Remember, Restore, Nothing}
use Rattle.dwarf_frame_rows.specs.Effects.{Limits}
use Rattle.dwarf_frame_rows.specs.Row.{Row, holds_at}
use Rattle.dwarf_frame_instructions.specs.declared.effects.Factors.{Factors}
use Rattle.dwarf_frame_instructions.specs.declared.instructions.CallFrameInstruction.{CallFrameInstruction}
use Rattle.dwarf_frame_instructions.specs.declared.instructions.CallFrameInstruction.TheVariants as instruction
use Rattle.dwarf_frame_instructions.specs.Effects.{address_limit, effect_of}
use Rattle.dwarf_frame_instructions.specs.Programs.{InstructionContext, Instructions, EntryProgram, RowList, InstructionStep, Moves, Writes, Refused, executed_by_cie, refused_rows, row_after, rows_after_cie, rows_from, rows_of_program, rules_left, step_by, step_from, step_of, row_before, written}
use Rattle.dwarf_frame_instructions.specs.Refusals.{needs}

-- ---- moves go on

module _ {T : Type 0} where
  never_moves : (effect : Effect T) (next : ℕ) (need : Result (Unit {0}) Error) {A : Type 0} → written effect need ≡ Moves next → A
  never_moves effect next (Ok done) is = cc
  never_moves effect next (Err e) is = cc

  -- a step that moves has the effect of a move
  moved_by : (frame : InstructionContext T) (executed : List (Effect T)) (effect : Effect T) (next : ℕ) → step_by frame executed effect ≡ Moves next → effect ≡ Move next
  moved_by frame executed (Move location) next is = let same : location ≡ next = cc in ap Move same
  moved_by frame executed (Cfa rule) next is = never_moves (Cfa rule) next (needs frame.limits frame.initial_rules executed (Cfa rule)) is
  moved_by frame executed (CfaRegister register) next is = never_moves (CfaRegister register) next (needs frame.limits frame.initial_rules executed (CfaRegister register)) is
  moved_by frame executed (CfaOffset offset) next is = never_moves (CfaOffset offset) next (needs frame.limits frame.initial_rules executed (CfaOffset offset)) is
  moved_by frame executed (Rule register rule) next is = never_moves (Rule register rule) next (needs frame.limits frame.initial_rules executed (Rule register rule)) is
  moved_by frame executed (RestoreRule register) next is = never_moves (RestoreRule register) next (needs frame.limits frame.initial_rules executed (RestoreRule register)) is
  moved_by frame executed NegateRaState next is = never_moves NegateRaState next (needs frame.limits frame.initial_rules executed NegateRaState) is
  moved_by frame executed (ArgsSize size) next is = never_moves (ArgsSize size) next (needs frame.limits frame.initial_rules executed (ArgsSize size)) is
  moved_by frame executed Remember next is = never_moves Remember next (needs frame.limits frame.initial_rules executed Remember) is
  moved_by frame executed Restore next is = never_moves Restore next (needs frame.limits frame.initial_rules executed Restore) is
  moved_by frame executed Nothing next is = never_moves Nothing next (needs frame.limits frame.initial_rules executed Nothing) is

  moved_from : (frame : InstructionContext T) (executed : List (Effect T)) (answer : Result (Effect T) Error) (next : ℕ) → step_from frame executed answer ≡ Moves next → answer ≡ Ok (Move next)
  moved_from frame executed (Ok effect) next is = ap (λ e. Ok e) (moved_by frame executed effect next is)
  moved_from frame executed (Err e) next is = cc

  set_on : (location address next : ℕ) (b : Bool) → nat_lt address location ≡ b → ◌≡◌ {A = Result (Effect T) Error} (cond b (Err (InvalidCfiSetLoc address)) (Ok (Move address))) (Ok (Move next)) → location ≤ next
  set_on location address next true test is = cc
  set_on location address next false test is = let same : address ≡ next = cc in grind (arith, nat_tests)

  advanced_on : (location to next : ℕ) (b : Bool) → location ≤ to → ◌≡◌ {A = Result (Effect T) Error} (cond b (Ok (Move to)) (Err AddressOverflow)) (Ok (Move next)) → location ≤ next
  advanced_on location to next true le is = let same : to ≡ next = cc in omega arith
  advanced_on location to next false le is = cc

  -- the location never goes back
  goes_on : (factors : Factors) (location next : ℕ) (i : CallFrameInstruction T) → effect_of factors location i ≡ Ok (Move next) → location ≤ next
  goes_on factors location next (instruction.SetLoc address) is = set_on location address next (nat_lt address location) refl is
  goes_on factors location next (instruction.AdvanceLoc delta) is =
      let to : ℕ = location + (delta * factors.code_alignment_factor) % 2 ^ 64 in
      advanced_on location to next (nat_lt to (address_limit factors.address_size)) (omega arith) is
  goes_on factors location next (instruction.DefCfa register offset) is = cc
  goes_on factors location next (instruction.DefCfaSf register factored) is = cc
  goes_on factors location next (instruction.DefCfaRegister register) is = cc
  goes_on factors location next (instruction.DefCfaOffset offset) is = cc
  goes_on factors location next (instruction.DefCfaOffsetSf factored) is = cc
  goes_on factors location next (instruction.DefCfaExpression expression) is = cc
  goes_on factors location next (instruction.Undefined register) is = cc
  goes_on factors location next (instruction.SameValue register) is = cc
  goes_on factors location next (instruction.Offset register factored) is = cc
  goes_on factors location next (instruction.OffsetExtendedSf register factored) is = cc
  goes_on factors location next (instruction.ValOffset register factored) is = cc
  goes_on factors location next (instruction.ValOffsetSf register factored) is = cc
  goes_on factors location next (instruction.Register register source) is = cc
  goes_on factors location next (instruction.Expression register expression) is = cc
  goes_on factors location next (instruction.ValExpression register expression) is = cc
  goes_on factors location next (instruction.Restore register) is = cc
  goes_on factors location next instruction.RememberState is = cc
  goes_on factors location next instruction.RestoreState is = cc
  goes_on factors location next (instruction.ArgsSize size) is = cc
  goes_on factors location next instruction.NegateRaState is = cc
  goes_on factors location next instruction.Nop is = cc

  step_goes_on : (frame : InstructionContext T) (location next : ℕ) (executed : List (Effect T)) (i : CallFrameInstruction T) → step_of frame location executed i ≡ Moves next → location ≤ next
  step_goes_on frame location next executed i is = goes_on frame.factors location next i (moved_from frame executed (effect_of frame.factors location i) next is)

-- ---- rows

module _ {T : Type 0} (address : ℕ) where
  -- how many of some rows contain the address
  abbrev count : List (Row T) → ℕ
  count rows = length (filter (holds_at address) rows)

  -- none does before their start, and one from there to the end of the code
  pub record Covers (start end : ℕ) (rows : List (Row T)) : Type 0 where
    pub before : address < start → count rows ≡ 0
    pub inside : start ≤ address → address < end → count rows ≡ 1

  more : (row : Row T) (rows : List (Row T)) (b : Bool) → holds_at address row ≡ b → count (row ∷ rows) ≡ cond b (suc (count rows)) (count rows)
  more row rows b is = ap (λ t. length (cond t (row ∷ filter (holds_at address) rows) (filter (holds_at address) rows))) is ∙ chosen b
    where
      chosen : (b : Bool) → length (cond b (row ∷ filter (holds_at address) rows) (filter (holds_at address) rows)) ≡ cond b (suc (count rows)) (count rows)
      chosen true = refl
      chosen false = refl

  last_covers : (row : Row T) → Covers row.start row.end (row ∷ [])
  last_covers row = record {
    before = λ below. more row [] false (grind (arith, nat_tests));
    inside = λ from to. more row [] true (grind (arith, nat_tests));
  }

  moved_covers : (row : Row T) (end : ℕ) (rows : List (Row T)) → row.start ≤ row.end → Covers row.end end rows → Covers row.start end (row ∷ rows)
  moved_covers row end rows le others = record {
    before = λ below. let less : address < row.end = omega arith in more row rows false (grind (arith, nat_tests)) ∙ others.before less;
    inside = λ from to. at (nat_lt address row.end) refl from to;
  }
    where
      at : (b : Bool) → nat_lt address row.end ≡ b → row.start ≤ address → address < end → count (row ∷ rows) ≡ 1
      at true test from to = let less : address < row.end = grind (arith, nat_tests) in more row rows true (grind (arith, nat_tests)) ∙ ap suc (others.before less)
      at false test from to = let beyond : row.end ≤ address = grind (arith, nat_tests) in more row rows false (grind (arith, nat_tests)) ∙ others.inside beyond to

  -- what a step makes of rows
  abbrev rows_by : InstructionContext T → ℕ → ℕ → List (Effect T) → Instructions T → InstructionStep T → RowList T
  rows_by frame end start executed rest step = elim step [
    | Moves location ↦ row_before (row_after (unwrap_or frame.initial_rules empty) start location executed) (rows_from frame end location executed rest)
    | Writes effect ↦ rows_from frame end start (effect ∷ executed) rest
    | Refused e ↦ refused_rows e
  ]

  rows_cover : (frame : InstructionContext T) (end start : ℕ) (executed : List (Effect T)) (instructions : Instructions T) → (rows_from frame end start executed instructions).refusal ≡ None
      → Covers start end (rows_from frame end start executed instructions).rows
  rows_cover frame end start executed [] whole = last_covers (row_after (unwrap_or frame.initial_rules empty) start end executed)
  rows_cover frame end start executed (Err e ∷ rest) whole = cc
  rows_cover frame end start executed (Ok i ∷ rest) whole =
      go (step_of frame start executed i) refl (λ next. rows_cover frame end next executed rest) (λ effect. rows_cover frame end start (effect ∷ executed) rest) whole
    where
      go : (step : InstructionStep T) → step_of frame start executed i ≡ step
          → ((next : ℕ) → (rows_from frame end next executed rest).refusal ≡ None → Covers next end (rows_from frame end next executed rest).rows)
          → ((effect : Effect T) → (rows_from frame end start (effect ∷ executed) rest).refusal ≡ None → Covers start end (rows_from frame end start (effect ∷ executed) rest).rows)
          → (rows_by frame end start executed rest step).refusal ≡ None → Covers start end (rows_by frame end start executed rest step).rows
      go (Moves next) is moved wrote whole = moved_covers (row_after (unwrap_or frame.initial_rules empty) start next executed) end (rows_from frame end next executed rest).rows (step_goes_on frame start next executed i is) (moved next whole)
      go (Writes effect) is moved wrote whole = wrote effect whole
      go (Refused e) is moved wrote whole = cc

  -- the rows of a program
  pub one_row : (limits : Limits) (program : EntryProgram T) → (rows_of_program limits program).refusal ≡ None → program.initial_address ≤ address → address < program.end_address
      → count (rows_of_program limits program).rows ≡ 1
  one_row limits program whole from to = go (executed_by_cie limits program.factors program.initial_instructions) whole
    where
      go : (left : Result (List (Effect T)) Error) → (rows_after_cie limits program left).refusal ≡ None → count (rows_after_cie limits program left).rows ≡ 1
      go (Ok executed) whole =
          (rows_cover (record { factors = program.factors; limits = limits; initial_rules = Some (rules_left executed) }) program.end_address program.initial_address executed program.instructions whole).inside from to
      go (Err e) whole = cc
