use Rattle.std.proofs.Common.{Some, ap}
use Rattle.std.specs.Prelude.{ok_or}
use Rattle.serde_json.specs.View.{view}
use Rattle.json_program.specs.declared.fault.FaultName.TheVariants.{NotJson}
use Rattle.json_program.proofs.Texts.{json_of-utf8, json_of-refused}
use Rattle.json_program.proofs.json.read.Goals as goal

pub returns-in-Ok : goal.returns-in-Ok
returns-in-Ok c =
    ap (λ d. ok_or d NotJson)
    (json_of-utf8 c.args.text.now (Some (view c.in-Ok.document)) c.in-Ok.ensures.ok.0 c.in-Ok.ensures.ok.1)

pub returns-in_default : goal.returns-in_default
returns-in_default c =
    ap (λ d. ok_or d NotJson)
    (json_of-refused c.args.text.now (c.in-Err.ensures.err (λ m. c.in_default.not-Memory (c.classify.ensures.memory.1 m))))
