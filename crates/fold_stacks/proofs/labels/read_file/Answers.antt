use Rattle.std.proofs.Common.{◌∙◌, sym}
use Rattle.fold_stacks.proofs.FilesRead.{file-put, file-there, files-put, not-there}
use Rattle.fold_stacks.proofs.labels.read_file.Goals as goal

pub returns-then-contains_key-clause-known : goal.returns-then-contains_key-clause-known
returns-then-contains_key-clause-known g c =
    file-there c.args.file c.args.known.now.entries (sym c.contains_key.ensures ∙ c.if-contains_key.true)

pub returns-clause-known : goal.returns-clause-known
returns-clause-known g c =
    file-put c.args.known.now.entries c.insert.new.self.entries c.args.file (record { name = c.in_ok-name.name; functions = c.in_ok-functions.functions })
    c.in_ok-insert.ensures.updates.0

pub returns-clause-kept : goal.returns-clause-kept
returns-clause-kept g c =
    files-put c.args.known.now.entries c.insert.new.self.entries c.args.file (record { name = c.in_ok-name.name; functions = c.in_ok-functions.functions })
    c.in_ok-insert.ensures.updates.0 (not-there c.args.file c.args.known.now.entries (sym c.contains_key.ensures ∙ c.if-contains_key.false))
