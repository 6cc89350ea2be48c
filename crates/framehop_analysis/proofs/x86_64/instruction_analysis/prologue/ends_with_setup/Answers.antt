use Rattle.std.proofs.lemmas.Bool.Decides.{Decides-eqb}
use Rattle.std.proofs.lemmas.Slice.Eq.{ends_is}
use Rattle.framehop_analysis.specs.Instructions.{spelling}
use Rattle.framehop_analysis.specs.Prologue.{frame_setup}
use Rattle.framehop_analysis.proofs.x86_64.instruction_analysis.prologue.ends_with_setup.Goals as goal

pub returns-in-Some-eq229 : goal.returns-in-Some-eq229
returns-in-Some-eq229 c =
    let is = ends_is Decides-eqb c.args.bytes.now (spelling frame_setup) c.ends_with.result c.ends_with.ensures.value in
    (λ test. (_, is.0 test), λ ends. is.1 ends.0 ends.1)
