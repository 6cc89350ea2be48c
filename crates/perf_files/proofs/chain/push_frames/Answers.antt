use Rattle.std.proofs.Common.{arith, ap, sym, ◌∙◌, ◌+◌, ◌++◌, drop}
use Rattle.std.proofs.lemmas.List.{append-nil}
use Rattle.std.proofs.lemmas.Option.{slice_get-get_or}
use Rattle.perf_files.specs.Chains.{chain_frames}
use Rattle.perf_files.proofs.ChainLaws.{word-next, words-end, no-frames}
use Rattle.perf_files.proofs.chain.push_frames.Goals as goal

pub returns-in_default : goal.returns-in_default
returns-in_default c = cc (slice_get-get_or c.args.chain.now c.loop-index.index 0 (omega arith), c.in_default.ensures)

pub loop-index-preserved : goal.loop-index-preserved
loop-index-preserved c =
    let chain = c.args.chain.now in
    let index = c.loop-index.index in
    let next = word-next chain index (index + 1) c.in-Some.word (omega arith) c.in-Some.ensures in
    c.in_ok-context.ensures (drop (index + 1) chain)
    ∙ ap (λ words. c.loop-index.frames.items ++ chain_frames c.loop-index.context words) (sym next)
    ∙ c.loop-index.invariant

pub returns : goal.returns
returns c =
    let none = no-frames c.loop-index.context _ (words-end c.args.chain.now c.loop-index.index (omega arith)) in
    sym (append-nil c.loop-index.frames.items) ∙ ap (λ frames. c.loop-index.frames.items ++ frames) (sym none) ∙ c.loop-index.invariant
