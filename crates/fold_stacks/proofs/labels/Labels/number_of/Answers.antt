use Rattle.fold_stacks.specs.KnownFiles.{files_in}
use Rattle.fold_stacks.proofs.NamedFrames.{files-stay, named-kept}
use Rattle.fold_stacks.proofs.labels.Labels.number_of.Goals as goal

pub invariant_of-self : goal.invariant_of-self
invariant_of-self c =
    let files = files_in c.self.inside.files.entries in
    named-kept c.self.inside.names c.number_of.new.self c.number_of.ensures.kept files files c.self.inside.kernel c.self.inside.kernel c.self.inside.places
    c.self.inside.kernel_places (files-stay files) (λ known is. is) c.self.invariant
