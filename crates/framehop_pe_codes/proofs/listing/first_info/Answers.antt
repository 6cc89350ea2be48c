use Rattle.framehop_pe_codes.specs.Sections.{file_of, unwind_info_memory}
use Rattle.framehop_pe_codes.proofs.FirstInfos.{first-at}
use Rattle.framehop_pe_codes.proofs.listing.first_info.Goals as goal

pub returns-in-Some-clause-ok : goal.returns-in-Some-clause-ok
returns-in-Some-clause-ok c =
    first-at (unwind_info_memory (file_of c.args.sections)) c.in-Some.info c.args.address c.in_ok-bytes.bytes.now c.in_ok-bytes.ensures.ok c.in-Some.ensures.info
