use Rattle.framehop_pe_codes.specs.Sections.{file_of, unwind_info_memory}
use Rattle.framehop_pe_codes.proofs.FirstInfos.{left-after}
use Rattle.framehop_pe_codes.proofs.listing.codes_from.Goals as goal

pub returns : goal.returns
returns c = λ first is_first.
    left-after (unwind_info_memory (file_of c.args.sections)) c.args.info first c.args.offset c.ran_codes.result.now c.is_some-is_framed.result c.is_some-is_framed.ensures is_first c.ran_codes.ensures.codes
