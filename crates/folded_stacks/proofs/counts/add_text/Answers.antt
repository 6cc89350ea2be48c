use Rattle.std.proofs.Common.{ℕ, ◌+◌, ◌-◌, ◌^◌, min, rules, ap, ◌∙◌, arith}
use Rattle.folded_stacks.specs.Lines.{stack_text}
use Rattle.folded_stacks.proofs.Counting.{counting-in-place}
use Rattle.folded_stacks.proofs.counts.add_text.Goals as goal

pub returns : goal.returns
returns c =
    counting-in-place (stack_text c.args.names.now c.args.stack.now) c.in_ok-text.text c.args.samples c.args.lines.now.entries _ _ c.saturating_add.result
    c.in_ok-text.ensures c.in_ok-lines.ensures.value (omega arith)
    (c.saturating_add.ensures ∙ ap (λ (n : ℕ). min (n + c.args.samples) (2 ^ 64 - 1)) c.or_insert-known.ensures.value)
    (let written = c.in_ok-lines.ensures.update.1 c.saturating_add.result in search rules)
