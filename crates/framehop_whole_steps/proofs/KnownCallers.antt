-- What is known of the frame that a row led to.
use Rattle.std.proofs.Common.{◌≡◌, ℕ, ◌<◌, ◌⊎◌, inl, inr, Bool, true, false, Option, Some, None, Result, Ok, Err, arith, refl, sym, ap, subst, ◌∙◌}
use Rattle.std.specs.Prelude.{◌==◌, if◌then◌else◌, nat_lt, option_and_then, slice_set, unwrap_or}
use Rattle.std.specs.Option.{option_or}
use Rattle.std.proofs.lemmas.List.{get_or-set_same, get_or-set_other, length-set}
use Rattle.std.proofs.lemmas.List.FromFn.{get_or-map-range_with_len}
use Rattle.list_laws.proofs.Laws.{by_case}
use Rattle.framehop_registers.specs.Callback.{Words}
use Rattle.framehop_registers.specs.Registers.{HasAllRegisters, bp_of, sp_of}
use Rattle.framehop_registers.specs.RegistersAarch64.{mask_of, stripped_address}
use Rattle.framehop_registers.specs.declared.aarch64.unwindregs.UnwindRegsAarch64.{UnwindRegsAarch64}
use Rattle.framehop_registers.specs.declared.x86_64.unwindregs.UnwindRegsX86_64.{UnwindRegsX86_64}
use Rattle.framehop_rules.specs.Outcome.{Caller}
use Rattle.framehop_expressions.specs.Architectures.{instruction_pointer, register_count, stack_pointer}
use Rattle.framehop_expressions.specs.declared.architecture.Architecture.{Architecture}
use Rattle.framehop_expressions.specs.declared.architecture.Architecture.TheVariants.{X86_64, Aarch64}
use Rattle.framehop_whole_rows.specs.Callers.{WholeCaller, register_after, returned}
use Rattle.framehop_whole_rows.specs.Callers as row_callers
use Rattle.framehop_whole_rows.specs.Rules.{RowFrame}
use Rattle.framehop_whole_rows.specs.declared.caller.CallerError.{CallerError}
use Rattle.framehop_whole_steps.specs.Attempts.{caller_by, caller_with, frame_at, is_at, registers_with}
use Rattle.framehop_whole_steps.specs.Carrying.{Carrying, aarch64, carried_aarch64, carried_x86_64, known_pointer, x86_64}
use Rattle.framehop_whole_steps.specs.FoundRows.{FoundRow}
use Rattle.framehop_whole_steps.specs.Known.{known_of}
use Rattle.framehop_whole_steps.specs.Laws.{KnowsCaller, KnowsCallersAarch64, KnowsCallersX86_64, LeadsTo}
use Rattle.framehop_whole_steps.specs.Registers.{other_at, values_of}
use Rattle.framehop_whole_steps.specs.declared.registers.WholeRegs.{WholeRegs}

-- ---- what a row gives

-- the caller that a row gives knows its instruction pointer, and no register that the architecture doesn't have
pub record IsGiven (architecture : Architecture) (whole : WholeCaller) : Type 0 where
  pub counter : whole.registers (instruction_pointer architecture) ≡ Some whole.return_address
  pub within : (number : ℕ) → nat_lt number (register_count architecture) ≡ false → whole.registers number ≡ None

has-counter : (r : RowFrame) (to : _) (architecture : Architecture) → r.architecture ≡ architecture
    → register_after r to (instruction_pointer architecture) ≡ Some to.address
has-counter r to X86_64 is = rw is refl
has-counter r to Aarch64 is = rw is refl

given-by : (r : RowFrame) (architecture : Architecture) (to : _) → r.architecture ≡ architecture
    → IsGiven architecture (record { return_address = to.address; registers = register_after r to })
given-by r architecture to is = record {
  counter = has-counter r to architecture is;
  within = λ number none. rw (is, none) refl;
}

is-given : (r : RowFrame) (architecture : Architecture) (found : Result (Option _) CallerError) (whole : WholeCaller) → r.architecture ≡ architecture
    → row_callers.caller_by r found ≡ Ok (Some whole) → IsGiven architecture whole
is-given r architecture (Err why) whole is gives = absurd cc
is-given r architecture (Ok None) whole is gives = absurd cc
is-given r architecture (Ok (Some to)) whole is gives =
    let made : WholeCaller = record { return_address = to.address; registers = register_after r to } in
    let same : made ≡ whole = cc in
    subst (IsGiven architecture) same (given-by r architecture to is)

-- ---- where the step leads

module _ {Registers : Type 0} (c : Carrying Registers) (registers : WholeRegs Registers) (whole : WholeCaller)
    (caller : Caller (WholeRegs Registers)) where
  abbrev made : (sp : ℕ) → Caller (WholeRegs Registers)
  made sp = record { return_address = whole.return_address; registers = registers_with c registers whole sp }

  abbrev IsMade : Type 0
  IsMade = (sp : ℕ) × (whole.registers (stack_pointer c.architecture) ≡ Some sp) × (made sp ≡ caller)

  moved-to : (stays : Bool) (sp : ℕ) → (if stays then None else Some (made sp)) ≡ Some caller → made sp ≡ caller
  moved-to true sp leads = absurd cc
  moved-to false sp leads = cc

  made-by : (known : ℕ → Option ℕ) (pointer : Option ℕ) → whole.registers (stack_pointer c.architecture) ≡ pointer
      → option_and_then (caller_with c known registers whole) pointer ≡ Some caller → IsMade
  made-by known None is leads = absurd cc
  made-by known (Some sp) is leads = (sp, is, moved-to (is_at c.architecture known whole.return_address sp) sp leads)

-- ---- what is known of a frame with these registers

-- the value that rules carry, if they do, is the one beside
or-same : (carried beside value : Option ℕ) → beside ≡ value → (carried ≡ None) ⊎ (carried ≡ value) → option_or carried beside ≡ value
or-same None beside value same agrees = same
or-same (Some own) beside value same (inl none) = absurd cc
or-same (Some own) beside value same (inr is) = is

-- a frame pointer that is known is the one beside
pointer-same : (pointer : Option ℕ) → (known_pointer (unwrap_or pointer 0) ≡ None) ⊎ (known_pointer (unwrap_or pointer 0) ≡ pointer)
pointer-same None = inl refl
pointer-same (Some value) = by_case (value == 0) (λ is. inl (rw is refl)) (λ is. inr (rw is refl))

-- those beside are those of the caller
beside-same : (known : ℕ → Option ℕ) (number : ℕ) → number < 35 → other_at (Some (values_of known)) number ≡ known number
beside-same known number below = get_or-map-range_with_len known 0 35 number number None below (omega arith)

-- what is known of a frame is the caller's, if what rules carry is
module _ {Registers : Type 0} (c : Carrying Registers) (few : (number : ℕ) → number < register_count c.architecture → number < 35)
    (regs : Registers) (whole : WholeCaller) (given : IsGiven c.architecture whole)
    (carried : (number : ℕ) → (c.carried false regs number ≡ None) ⊎ (c.carried false regs number ≡ whole.registers number)) where
  abbrev frame : WholeRegs Registers
  frame = record { regs = regs; others = Some (values_of whole.registers) }

  known-same : (number : ℕ) → known_of c false frame number ≡ whole.registers number
  known-same number =
      by_case (nat_lt number (register_count c.architecture))
      (λ is.
      let below : number < register_count c.architecture = grind arith in
      rw is (or-same (c.carried false regs number) (other_at (Some (values_of whole.registers)) number) (whole.registers number)
      (beside-same whole.registers number (few number below)) (carried number)))
      (λ is. rw is (sym (given.within number is)))

-- ---- x86_64

module _ (registers : WholeRegs UnwindRegsX86_64) (whole : WholeCaller) (sp : ℕ) (all : HasAllRegisters registers.regs) (given : IsGiven X86_64 whole)
    (pointer : whole.registers 7 ≡ Some sp) where
  abbrev fp : ℕ
  fp = unwrap_or (whole.registers 6) 0

  abbrev left : UnwindRegsX86_64
  left = (registers_with x86_64 registers whole sp).regs

  sp-left : sp_of left ≡ sp
  sp-left =
      get_or-set_other (slice_set registers.regs.regs 7 sp) 6 7 fp 0 (λ same. absurd (omega arith))
      ∙ get_or-set_same registers.regs.regs 7 sp 0 (omega (arith, all))

  bp-left : bp_of left ≡ fp
  bp-left = get_or-set_same (slice_set registers.regs.regs 7 sp) 6 fp 0 (omega (arith, length-set registers.regs.regs 7 sp, all))

  carried-x86_64 : (number : ℕ) → (carried_x86_64 false left number ≡ None) ⊎ (carried_x86_64 false left number ≡ whole.registers number)
  carried-x86_64 number =
      by_case (number == 16)
      (λ is. let at : number ≡ 16 = grind arith in rw at (inr (sym given.counter)))
      (λ not_ip.
      by_case (number == 7)
      (λ is. let at : number ≡ 7 = grind arith in rw at (inr (ap (λ (n : ℕ). Some n) sp-left ∙ sym pointer)))
      (λ not_sp.
      by_case (number == 6)
      (λ is. let at : number ≡ 6 = grind arith in rw at (rw bp-left (pointer-same (whole.registers 6))))
      (λ not_bp. inl (rw (not_ip, not_sp, not_bp) refl))))

  pub knows-x86_64 : KnowsCaller x86_64 (record { return_address = whole.return_address; registers = registers_with x86_64 registers whole sp }) whole
  knows-x86_64 = record {
    return_address = refl;
    registers = known-same x86_64 (λ number below. omega arith) left whole given carried-x86_64;
  }

-- ---- aarch64

module _ (registers : WholeRegs UnwindRegsAarch64) (whole : WholeCaller) (sp : ℕ)
    (plain : stripped_address (mask_of registers.regs) whole.return_address ≡ whole.return_address) (given : IsGiven Aarch64 whole)
    (pointer : whole.registers 31 ≡ Some sp) where
  abbrev after : UnwindRegsAarch64
  after = (registers_with aarch64 registers whole sp).regs

  carried-aarch64 : (number : ℕ) → (carried_aarch64 false after number ≡ None) ⊎ (carried_aarch64 false after number ≡ whole.registers number)
  carried-aarch64 number =
      by_case (number == 31)
      (λ is. let at : number ≡ 31 = grind arith in rw at (inr (sym pointer)))
      (λ not_sp.
      by_case (number == 29)
      (λ is. let at : number ≡ 29 = grind arith in rw at (pointer-same (whole.registers 29)))
      (λ not_fp.
      by_case (number == 30)
      (λ is. let at : number ≡ 30 = grind arith in rw at (inl refl))
      (λ not_lr.
      by_case (number == 32)
      (λ is. let at : number ≡ 32 = grind arith in rw at (inr (ap (λ (n : ℕ). Some n) plain ∙ sym given.counter)))
      (λ not_pc. inl (rw (not_sp, not_fp, not_lr, not_pc) refl)))))

  pub knows-aarch64 : KnowsCaller aarch64 (record { return_address = whole.return_address; registers = registers_with aarch64 registers whole sp }) whole
  knows-aarch64 = record {
    return_address = refl;
    registers = known-same aarch64 (λ number below. below) after whole given carried-aarch64;
  }

-- ---- steps

made-from : {Registers : Type 0} (c : Carrying Registers) (first : Bool) (found : FoundRow) (registers : WholeRegs Registers) (words : Words)
    (whole : WholeCaller) (caller : Caller (WholeRegs Registers)) → LeadsTo c first found registers words whole caller → IsMade c registers whole caller
made-from c first found registers words whole caller to =
    let known = known_of c first registers in
    let leads : caller_by c known registers (Ok (Some whole)) ≡ Some caller =
    sym (ap (λ (by : Result (Option WholeCaller) CallerError). caller_by c known registers by) to.gives) ∙ to.leads in
    made-by c registers whole caller known (whole.registers (stack_pointer c.architecture)) refl leads

pub law-x86_64 : KnowsCallersX86_64
law-x86_64 first found registers words whole caller all to =
    let (sp, pointer, same) = made-from x86_64 first found registers words whole caller to in
    let r : RowFrame = frame_at x86_64 (known_of x86_64 first registers) registers.regs words found in
    let given : IsGiven X86_64 whole = is-given r X86_64 (returned r) whole refl to.gives in
    subst (λ (c : Caller (WholeRegs UnwindRegsX86_64)). KnowsCaller x86_64 c whole) same (knows-x86_64 registers whole sp all given pointer)

pub law-aarch64 : KnowsCallersAarch64
law-aarch64 first found registers words whole caller plain to =
    let (sp, pointer, same) = made-from aarch64 first found registers words whole caller to in
    let r : RowFrame = frame_at aarch64 (known_of aarch64 first registers) registers.regs words found in
    let given : IsGiven Aarch64 whole = is-given r Aarch64 (returned r) whole refl to.gives in
    subst (λ (c : Caller (WholeRegs UnwindRegsAarch64)). KnowsCaller aarch64 c whole) same (knows-aarch64 registers whole sp plain given pointer)
