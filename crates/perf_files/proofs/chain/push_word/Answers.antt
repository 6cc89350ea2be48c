use Rattle.std.proofs.Common.{sym}
use Rattle.perf_files.proofs.ChainLaws.{context-next, address-next}
use Rattle.perf_files.proofs.chain.push_word.Goals as goal

pub returns-in-Some : goal.returns-in-Some
returns-in-Some c = context-next c.args.frames.now.items c.args.context c.in-Some.next c.args.word (sym c.in-Some.ensures)

pub returns-in_ok-push-in-None : goal.returns-in_ok-push-in-None
returns-in_ok-push-in-None c = address-next c.args.frames.now.items _ c.args.context c.args.word (sym c.in-None.ensures) c.in_ok-push-in-None.ensures.items
