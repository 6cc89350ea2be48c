use Rattle.test_framehop.proofs.WorkedHeader.{truthful}
use Rattle.test_framehop.proofs.headers.worked_header_is_truthful.Goals as goal

pub returns : goal.returns
returns c = truthful
