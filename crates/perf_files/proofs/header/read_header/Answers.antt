use Rattle.std.proofs.Common.{sym}
use Rattle.std.proofs.lemmas.Result.{err_from_is_err_and}
use Rattle.perf_files.specs.Header.{header_of}
use Rattle.perf_files.proofs.HeaderLaws.{magic-refused}
use Rattle.perf_files.proofs.header.read_header.Goals as goal

pub returns-in_err-check_magic : goal.returns-in_err-check_magic
unfolding header_of
returns-in_err-check_magic c =
    let given = err_from_is_err_and c.from_residual.result c.from_residual.ensures.1 in
    rw (given.1, given.2) (sym (magic-refused c.args.bytes.now _ _ (sym c.in_err-check_magic.ensures.check)))
