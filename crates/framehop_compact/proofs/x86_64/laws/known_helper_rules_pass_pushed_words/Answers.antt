use Rattle.framehop_compact.proofs.StubHelpers.{in-shared, in-stubs}
use Rattle.framehop_compact.proofs.x86_64.laws.known_helper_rules_pass_pushed_words.Goals as goal

pub returns : goal.returns
returns c = record { shared = in-shared; stubs = in-stubs }
