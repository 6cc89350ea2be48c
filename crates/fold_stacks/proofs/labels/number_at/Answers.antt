use Rattle.std.proofs.Common.{sym}
use Rattle.fold_stacks.proofs.FilesRead.{named-at}
use Rattle.fold_stacks.proofs.labels.number_at.Goals as goal

pub returns-in-Some-clause-number : goal.returns-in-Some-clause-number
returns-in-Some-clause-number g c =
    named-at c.number_in.new.names c.read_file.new.known.entries c.args.place.file c.args.place.address c.in-Some.file.now (sym c.in-Some.ensures.value)
    c.number_in.result c.number_in.ensures.number
