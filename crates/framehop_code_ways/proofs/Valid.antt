-- A rule of a way on x86_64 can be executed.
use Rattle.std.proofs.Common.{List, Option, Some, None, IfSome}
use Rattle.framehop_rules.specs.RuleMeaning.{IsValid}
use Rattle.framehop_rules.specs.declared.x86_64.unwind_rule.UnwindRuleX86_64.{UnwindRuleX86_64}
use Rattle.framehop_rules.specs.declared.x86_64.unwind_rule.UnwindRuleX86_64.TheVariants.{OffsetSpAndPopRegisters}
use Rattle.framehop_x86_ways.specs.Values.{returned}
use Rattle.framehop_x86_ways.specs.WayRules.{IsRuleOf, IsRuleOfWay}
use Rattle.framehop_x86_ways.specs.declared.executed.Executed.{Executed}
use Rattle.framehop_x86_ways.specs.declared.values.Returned.{Returned}

valid_rule : (left : Returned) (rule : UnwindRuleX86_64) → IsRuleOf left rule → IsValid rule
valid_rule left (OffsetSpAndPopRegisters x count number) is = absurd is
valid_rule left rule is = tt

pub valid_way : (way : List Executed) (rule : Option UnwindRuleX86_64) → IfSome rule (λ one. IsRuleOfWay way one) → IfSome rule (λ one. IsValid one)
valid_way way None is = tt
valid_way way (Some rule) is = valid_rule (returned is.0.0 is.0.1) rule is.2
