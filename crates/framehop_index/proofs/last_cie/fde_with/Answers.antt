use Rattle.std.proofs.Common.{rules, false, ◌≡◌, Ok}
use Rattle.framehop_index.proofs.WholeFdes.{wants-none}
use Rattle.framehop_index.proofs.last_cie.fde_with.Goals as goal

pub returns : goal.returns
returns g c = wants-none (λ fde. fde) c.parse.result _ (c.parse.ensures false (λ s b o r after same at step. let is : r ≡ Ok c.args.cie.now = search rules in rw (is, g.met.Section._UnwindSectionPrivate.framed s.now b.now) c.requires))
