use Rattle.framehop_whole_steps.proofs.rule.WholeRuleUnwindRule.exec.Goals as goal

pub returns-in-Ok-Some-clause-order : goal.returns-in-Ok-Some-clause-order
returns-in-Ok-Some-clause-order g c = rw c.in-Plain.is c.exec.ensures.order

pub returns-in-Ok-None-clause-order : goal.returns-in-Ok-None-clause-order
returns-in-Ok-None-clause-order g c = rw c.in-Plain.is c.exec.ensures.order

pub returns-in-Err-clause-order : goal.returns-in-Err-clause-order
returns-in-Err-clause-order g c = rw c.in-Plain.is c.exec.ensures.order
