use Rattle.std.proofs.Common.{sym}
use Rattle.fold_stacks.specs.KnownFiles.{files_in}
use Rattle.fold_stacks.proofs.NamedFrames.{files-stay, named-kept, named-kernel}
use Rattle.fold_stacks.proofs.labels.Labels.number_of_kernel.Goals as goal

pub returns-in-Some-clause-number : goal.returns-in-Some-clause-number
returns-in-Some-clause-number g c =
    c.self.invariant.in_kernel (record { file = 0; address = c.args.address }) c.in-Some.number (sym c.in-Some.ensures.number)

pub invariant_of-self-in_err-number : goal.invariant_of-self-in_err-number
invariant_of-self-in_err-number g c =
    let files = files_in c.self.inside.files.entries in
    rw c.get.ensures.same
    (named-kept c.self.inside.names c.kernel_number.new.names c.kernel_number.ensures.names files files c.self.inside.kernel c.kernel_number.new.kernel
    c.self.inside.places c.self.inside.kernel_places (files-stay files) c.kernel_number.ensures.kernel c.self.invariant)

pub invariant_of-self-in_err-keep : goal.invariant_of-self-in_err-keep
invariant_of-self-in_err-keep g c =
    let files = files_in c.self.inside.files.entries in
    rw (c.in_err-keep.ensures.err, c.get.ensures.same)
    (named-kept c.self.inside.names c.kernel_number.new.names c.kernel_number.ensures.names files files c.self.inside.kernel c.kernel_number.new.kernel
    c.self.inside.places c.self.inside.kernel_places (files-stay files) c.kernel_number.ensures.kernel c.self.invariant)

pub invariant_of-self-2 : goal.invariant_of-self-2
invariant_of-self-2 g c =
    let files = files_in c.self.inside.files.entries in
    named-kernel c.kernel_number.new.names files c.kernel_number.new.kernel c.self.inside.places c.get.new.self
    (rw c.get.ensures.same
    (named-kept c.self.inside.names c.kernel_number.new.names c.kernel_number.ensures.names files files c.self.inside.kernel c.kernel_number.new.kernel
    c.self.inside.places c.self.inside.kernel_places (files-stay files) c.kernel_number.ensures.kernel c.self.invariant))
    (record { file = 0; address = c.args.address }) c.in_ok-number.number c.keep.new.self c.in_ok-keep.ensures.ok c.in_ok-number.ensures.number
