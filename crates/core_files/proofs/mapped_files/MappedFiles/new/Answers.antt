use Rattle.std.proofs.Common.{arith}
use Rattle.core_files.proofs.Files.{files-short, files-cut, files-whole}
use Rattle.core_files.proofs.mapped_files.MappedFiles.new.Goals as goal

pub returns-then-descriptor-lt-ROWS_OFFSET-clause-err : goal.returns-then-descriptor-lt-ROWS_OFFSET-clause-err
returns-then-descriptor-lt-ROWS_OFFSET-clause-err c = files-short c.args.descriptor.now (omega arith)

pub returns-then-count-descriptor-clause-err : goal.returns-then-count-descriptor-clause-err
returns-then-count-descriptor-clause-err c = files-cut c.args.descriptor.now c.u64_at-count.result c.u64_at-count.ensures (omega arith) (omega arith)

pub returns-clause-ok : goal.returns-clause-ok
returns-clause-ok c = files-whole c.args.descriptor.now c.u64_at-count.result _ c.u64_at-count.ensures (omega arith) (omega arith) c.bytes_after.ensures
