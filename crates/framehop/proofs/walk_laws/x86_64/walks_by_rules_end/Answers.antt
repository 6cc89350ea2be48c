use Rattle.std.proofs.Common.{Bool, true, false, sym, ◌∙◌}
use Rattle.framehop_registers.specs.Callback.{Words}
use Rattle.framehop_registers.specs.Registers.{HasAllRegisters, sp_of}
use Rattle.framehop_registers.specs.declared.x86_64.unwindregs.UnwindRegsX86_64.{UnwindRegsX86_64}
use Rattle.framehop_rules.specs.RuleMeaning.{IsAtReturn}
use Rattle.framehop_unwinder.specs.Frames.{Frame}
use Rattle.framehop.specs.WalkLengths.{RaisesSp}
use Rattle.framehop.specs.WalksX86_64.{IsRuleStep}
use Rattle.framehop.proofs.WalkEnds.{ends}
use Rattle.framehop.proofs.walk_laws.x86_64.walks_by_rules_end.Goals as goal

-- what is known of the registers of a first frame, and of those of a later one
abbrev IsKnown : Words → Bool → UnwindRegsX86_64 → Type 0
IsKnown words true registers = Unit {0}
IsKnown words false registers = IsAtReturn registers words

pub returns : goal.returns
returns c judgment words pc registers all count goes =
    let law = c.rules_raise_sp.ensures in
    let Known : Frame → UnwindRegsX86_64 → Type 0 = λ frame registers. HasAllRegisters registers × IsKnown words frame.is_first registers in
    let raises : RaisesSp judgment words sp_of Known (IsRuleStep judgment words) = record {
      known = λ frame registers caller known made answered.
          let means = sym made.is ∙ answered in
          (law.all_there made.rule frame.is_first registers words caller known.0 means, law.at_return made.rule frame.is_first registers words caller known.0 means);
      raised = λ to registers caller known made answered. record {
        higher = law.higher made.rule false registers words caller known.0 known.1 (sym made.is ∙ answered);
        fits = law.fits made.rule false registers words caller known.0 (sym made.is ∙ answered);
      };
    } in
    ends judgment words sp_of Known (IsRuleStep judgment words) raises pc count registers (all, tt) goes
