use Rattle.std.proofs.Common.{◌≡◌, ◌∙◌, length, rules}
use Rattle.framehop_index.proofs.KeptCies.{count-kept}
use Rattle.framehop_index.proofs.kept_cies.KeptCies.count.Goals as goal

pub returns : goal.returns
returns c section are =
    let counted : c.len.result ≡ length c.args.self.now.cies.items = search rules in
    counted ∙ count-kept section c.args.self.now are
