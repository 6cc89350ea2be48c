use Rattle.std.proofs.Common.{arith, ap, sym, ◌∙◌}
use Rattle.std.specs.Prelude.{Some}
use Rattle.core_files.specs.MemoryViews.{segments_of, files_of}
use Rattle.core_files.proofs.Words.{word-missing, word-by-bytes}
use Rattle.core_files.proofs.memory.Memory.word_by_bytes.Goals as goal

pub returns-in_default : goal.returns-in_default
returns-in_default c =
    sym (word-missing (segments_of c.args.self.now) (files_of c.args.self.now) c.args.address c.loop-place.place c.requires c.loop-place-test.true (sym c.in_default.ensures))

pub returns : goal.returns
returns c =
    let known = c.loop-place.invariant in
    sym (word-by-bytes (segments_of c.args.self.now) (files_of c.args.self.now) c.args.address c.loop-place.bytes c.requires known.size (λ k h. known.known k (omega arith)) ∙ ap Some (sym c.u64_at.ensures))
