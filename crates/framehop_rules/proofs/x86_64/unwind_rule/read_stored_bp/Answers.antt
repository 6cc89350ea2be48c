use Rattle.std.proofs.Common.{◌≡◌, ℕ, ◌<◌, ◌≤◌, Bool, true, false, arith}
use Rattle.std.specs.Prelude.{Option, Some, None}
use Rattle.framehop_rules.specs.Outcome.{Answers, Refuses, word}
use Rattle.framehop_registers.specs.Registers.{sp_of, bp_of}
use Rattle.framehop_rules.specs.RuleMeaning.{stored_bp}
use Rattle.framehop_registers.specs.declared.error.Error.{Error}
use Rattle.framehop_registers.specs.declared.x86_64.unwindregs.UnwindRegsX86_64.{UnwindRegsX86_64}
use Rattle.framehop_registers.proofs.Laws.{over_weaker}
use Rattle.framehop_rules.proofs.x86_64.unwind_rule.read_stored_bp.Goals as goal
use Rattle.framehop_rules.proofs.x86_64.unwind_rule.read_stored_bp.Goals.{else-is_first_frame-via-then-is_first_frame+else-at-sp, else-is_first_frame-via-else-is_first_frame}

-- a word that was read is what was stored
read : (there : Option ℕ) (is_first : Bool) (registers : UnwindRegsX86_64) (at bp : ℕ)
    → Answers bp ≡ word (λ _. there) at → Answers bp ≡ stored_bp is_first registers (λ _. there) at
read (Some found) is_first registers at bp is = grind arith
read None is_first registers at bp is = grind arith

-- an unreadable word below the stack pointer of a first frame
popped : (there : Option ℕ) (registers : UnwindRegsX86_64) (at : ℕ) (error : Error)
    → Refuses error ≡ word (λ _. there) at → at < sp_of registers
    → Answers (bp_of registers) ≡ stored_bp true registers (λ _. there) at
popped (Some found) registers at error is below = grind arith
popped None registers at error is below = grind arith

-- an unreadable word of a later frame
later : (there : Option ℕ) (registers : UnwindRegsX86_64) (at : ℕ) (error : Error)
    → Refuses error ≡ word (λ _. there) at
    → Refuses error ≡ stored_bp false registers (λ _. there) at
later (Some found) registers at error is = grind arith
later None registers at error is = grind arith

-- an unreadable word that is not below the stack pointer
above : (there : Option ℕ) (is_first : Bool) (registers : UnwindRegsX86_64) (at : ℕ) (error : Error)
    → Refuses error ≡ word (λ _. there) at → sp_of registers ≤ at
    → Refuses error ≡ stored_bp is_first registers (λ _. there) at
above (Some found) is_first registers at error is not_below = grind arith
above None true registers at error is not_below = grind arith
above None false registers at error is not_below = grind arith

pub returns-in-Ok-clause-bp : goal.returns-in-Ok-clause-bp
returns-in-Ok-clause-bp g c =
    over_weaker c.in-Ok.ensures.word
    (λ words is. read (words c.args.at) c.args.is_first_frame c.args.regs.now c.args.at c.in-Ok.bp is)

pub returns-then-at-sp-clause-bp : goal.returns-then-at-sp-clause-bp
returns-then-at-sp-clause-bp g c =
    let below : c.args.at < sp_of c.args.regs.now = omega (arith, c.if-at-sp.true, c.sp.ensures) in
    over_weaker c.in-Err.ensures.word (λ words is.
    rw (c.bp.ensures, c.if-is_first_frame.true)
    (popped (words c.args.at) c.args.regs.now c.args.at c.in-Err.error is below))

pub returns-else-is_first_frame-clause-bp : goal.returns-else-is_first_frame-clause-bp
returns-else-is_first_frame-clause-bp g c =
    over_weaker c.in-Err.ensures.word (λ words is. elim c.else-is_first_frame.branch [
      | else-is_first_frame-via-then-is_first_frame+else-at-sp w ↦
          above (words c.args.at) c.args.is_first_frame c.args.regs.now c.args.at c.in-Err.error is
          (omega (arith, w.if-at-sp.false, w.sp.ensures))
      | else-is_first_frame-via-else-is_first_frame w ↦
          rw w.if-is_first_frame.false (later (words c.args.at) c.args.regs.now c.args.at c.in-Err.error is)
    ])
