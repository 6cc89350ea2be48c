use Rattle.std.proofs.Common.{◌∙◌, ℕ, Option, Some, cond, ap, sym}
use Rattle.fold_stacks.specs.Comms.{is_thread}
use Rattle.fold_stacks.proofs.EndedThreads.{key, name-looked-up}
use Rattle.fold_stacks.proofs.comms.Comms.keep.Goals as goal

pub returns-in_ok-insert-clause-ended : goal.returns-in_ok-insert-clause-ended
returns-in_ok-insert-clause-ended c = λ other.
    let found = rw c.key_of.ensures at (c.in_ok-insert.ensures.updates.0 (key other)) in
    rw (c.in-Some.is, ← c.self.view_is)
    (name-looked-up other c.insert.new.self.entries ∙ found
    ∙ ap (λ (known : Option ℕ). cond (is_thread c.args.thread other) (Some c.in-Some.name) known) (sym (name-looked-up other c.self.inside.ended.entries)))
