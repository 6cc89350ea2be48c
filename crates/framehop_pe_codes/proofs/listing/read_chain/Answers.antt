use Rattle.std.proofs.lemmas.Result.{err_from_is_err_and}
use Rattle.framehop_pe_codes.specs.InfoViews.{operations_left}
use Rattle.framehop_pe_codes.specs.Sections.{file_of, unwind_info_memory}
use Rattle.framehop_pe_codes.proofs.Listings.{chain-refused, chain-read}
use Rattle.framehop_pe_codes.proofs.listing.read_chain.Goals as goal

pub returns-in_err-is_set-clause-err : goal.returns-in_err-is_set-clause-err
returns-in_err-is_set-clause-err c =
    let from = err_from_is_err_and c.from_residual.result c.from_residual.ensures.1 in
    rw (from.1, from.2) (λ first is_first. chain-refused (unwind_info_memory (file_of c.args.sections)) first c.args.offset (operations_left c.codes_from-left.result)
    (c.codes_from-left.ensures first is_first) c.in_err-is_set.field-0.0 c.in_err-is_set.ensures)

pub returns-clause-ok : goal.returns-clause-ok
returns-clause-ok c = λ first is_first.
    chain-read (unwind_info_memory (file_of c.args.sections)) first c.args.offset (operations_left c.codes_from-left.result)
    (c.codes_from-left.ensures first is_first) c.args.info c.in_ok-is_set.is_set is_first c.in_ok-is_set.ensures
