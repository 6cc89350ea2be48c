use Rattle.std.proofs.Common.{sym}
use Rattle.fold_stacks.specs.KnownFiles.{files_in}
use Rattle.fold_stacks.proofs.NamedFrames.{named-kept, named-place}
use Rattle.fold_stacks.proofs.labels.Labels.number_of_place.Goals as goal

pub returns-in-Some-clause-number : goal.returns-in-Some-clause-number
returns-in-Some-clause-number g c =
    c.self.invariant.in_files (record { file = c.args.place.file; address = c.args.place.address }) c.in-Some.number (sym c.in-Some.ensures.number)

pub invariant_of-self-in_err-number : goal.invariant_of-self-in_err-number
invariant_of-self-in_err-number g c =
    rw c.get.ensures.same
    (named-kept c.self.inside.names c.number_at.new.names c.number_at.ensures.names (files_in c.self.inside.files.entries) (files_in c.number_at.new.known.entries)
    c.self.inside.kernel c.self.inside.kernel c.self.inside.places c.self.inside.kernel_places c.number_at.ensures.files (λ known is. is) c.self.invariant)

pub invariant_of-self-in_err-keep : goal.invariant_of-self-in_err-keep
invariant_of-self-in_err-keep g c =
    rw (c.in_err-keep.ensures.err, c.get.ensures.same)
    (named-kept c.self.inside.names c.number_at.new.names c.number_at.ensures.names (files_in c.self.inside.files.entries) (files_in c.number_at.new.known.entries)
    c.self.inside.kernel c.self.inside.kernel c.self.inside.places c.self.inside.kernel_places c.number_at.ensures.files (λ known is. is) c.self.invariant)

pub invariant_of-self-2 : goal.invariant_of-self-2
invariant_of-self-2 g c =
    named-place c.number_at.new.names (files_in c.number_at.new.known.entries) c.self.inside.kernel c.get.new.self c.self.inside.kernel_places
    (rw c.get.ensures.same
    (named-kept c.self.inside.names c.number_at.new.names c.number_at.ensures.names (files_in c.self.inside.files.entries) (files_in c.number_at.new.known.entries)
    c.self.inside.kernel c.self.inside.kernel c.self.inside.places c.self.inside.kernel_places c.number_at.ensures.files (λ known is. is) c.self.invariant))
    (record { file = c.args.place.file; address = c.args.place.address }) c.in_ok-number.number c.keep.new.self c.in_ok-keep.ensures.ok c.in_ok-number.ensures.number
