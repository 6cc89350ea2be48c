use Rattle.std.proofs.Common.{◌-◌, ◌+◌, arith, sym}
use Rattle.core_files.proofs.Files.{files-next}
use Rattle.core_files.proofs.mapped_files.MappedFiles.next.Goals as goal

pub returns-clause-ok : goal.returns-clause-ok
returns-clause-ok c =
    let files = c.args.self.now in
    files-next files.descriptor.now (files.count - files.number) (files.count - (files.number + 1)) files.number c.in-Some.length files.names.now c.bytes_after-self.result.now _ (omega (arith, c.if-self.false, files.passed))
    (sym c.in-Some.ensures) (rw c.first_bytes.ensures at c.in_ok-file.ensures.ok) c.bytes_after-self.ensures
