use Rattle.std.proofs.Common.{◌≡◌, ℕ, zero, suc, ◌+◌, ◌-◌, List, ap, subst, ◌∙◌, arith, refl}
use Rattle.std.specs.Prelude.{string_bytes}
use Rattle.framehop_registers.specs.Callback.{Words}
use Rattle.framehop_unwinder.specs.declared.iterator.StackWalk.{StackWalk}
use Rattle.framehop_histories.specs.Commands.{Act, NewWalk, NextFrame}
use Rattle.framehop_histories.specs.Commands as reply
use Rattle.framehop_histories.specs.CommandViews.{reply_of, walks_of}
use Rattle.framehop_histories.specs.Performs.{Obeys}
use Rattle.framehop_histories.specs.declared.commands.Answer.TheVariants.{Added}
use Rattle.unwind_run_program.specs.Outputs.{next_state, without_walks}
use Rattle.unwind_run_program.proofs.Walks.{SoFar, after_move, begins, goes_on, reaches_limit, stops, walk-begun}
use Rattle.unwind_run_program.proofs.commands.walk.Goals as goal

pub returns-clause-output : goal.returns-clause-output
returns-clause-output g c =
    let u = g.A.ModuleUnwinding in
    let m = u.meanings in
    let w = c.args.walk in
    let l = c.loop in
    let none : w.limit - l.counter ≡ zero = omega arith in
    λ words said model at.
    let so_far = subst (λ (left : ℕ). SoFar m (NextFrame w.unwinder w.cache 0 words) w.limit (next_state m (NewWalk w.pc w.regs) (without_walks model)) left l.session (walks_of l.walks.items) (string_bytes l.text)) none ((l.invariant.told words said).1 model at) in
    reaches_limit m words w.limit w.unwinder w.cache w.pc w.regs model l.session (walks_of l.walks.items) (string_bytes l.text) (string_bytes c.lines-2.result.text) c.lines-2.result.is_refused
    so_far (ap string_bytes c.lines-2.ensures.text ∙ c.in_ok-push_str.ensures.bytes) c.lines-2.ensures.refused

pub loop-init : goal.loop-init
loop-init g c =
    let u = g.A.ModuleUnwinding in
    let m = u.meanings in
    let w = c.args.walk in
    let s = c.args.session.now in
    let walks = c.new_walk.new.walks.items in
    let text = string_bytes c.new-text.result in
    let same : w.limit ≡ w.limit - 0 = omega arith in
    let act : Words → Act g.row.A-UnwindData.Denot g.row.A-UnwindRegs.Denot = λ words. NextFrame w.unwinder w.cache 0 words in
    let obeys = subst (λ (ws : List (StackWalk g.row.A-UnwindRegs.Denot)). Obeys u.takes_memory u.asks_memory m (NewWalk w.pc w.regs) s ws Added s walks) c.new-walks.ensures.items (c.in-Added.ensures.obeys s) in
    record {
      callable = c.requires;
      loads = record { unwinders = refl; next = refl; caches = refl };
      told = λ words said. (
        said,
        λ model at.
            let first = next_state m (NewWalk w.pc w.regs) (without_walks model) in
            subst (λ (left : ℕ). SoFar m (act words) w.limit first left s (walks_of walks) text) same
            (begins u.takes_memory u.asks_memory m (act words) w.limit first s (walks_of walks) text
            (walk-begun u.takes_memory u.asks_memory m w.pc w.regs model s (walks_of walks) reply.Added obeys at) at.histories c.new-text.ensures.bytes),
      );
    }

pub returns-then-not-branch-clause-output : goal.returns-then-not-branch-clause-output
returns-then-not-branch-clause-output g c =
    let u = g.A.ModuleUnwinding in
    let m = u.meanings in
    let w = c.args.walk in
    let l = c.loop in
    let left = w.limit - (l.counter + 1) in
    let one_more : w.limit - l.counter ≡ suc left = omega arith in
    let after = c.next_frame-answer.new in
    let text = string_bytes c.push_move.new.text in
    let given = c.in_ok-push_move.field-0 in
    λ words said model at.
    let told = l.invariant.told words said in
    let act = NextFrame w.unwinder w.cache 0 words in
    let first = next_state m (NewWalk w.pc w.regs) (without_walks model) in
    let moved = after_move u.takes_memory u.asks_memory m act w.limit first (w.limit - l.counter) left l.session after.session (walks_of l.walks.items) (walks_of after.walks.items) (reply_of c.next_frame-answer.result) given (string_bytes l.text) text
    one_more (told.1 model at) (c.next_frame-answer.ensures.obeys.said words told.0) c.in_ok-push_move.ensures in
    stops m words w.limit w.unwinder w.cache w.pc w.regs model left given after.session (walks_of after.walks.items) text (string_bytes c.lines.result.text) c.lines.result.is_refused moved c.if-not-branch.true
    (ap string_bytes c.lines.ensures.text) c.lines.ensures.refused

pub loop-preserved : goal.loop-preserved
loop-preserved g c =
    let u = g.A.ModuleUnwinding in
    let m = u.meanings in
    let w = c.args.walk in
    let l = c.loop in
    let left = w.limit - (l.counter + 1) in
    let one_more : w.limit - l.counter ≡ suc left = omega arith in
    let after = c.next_frame-answer.new in
    let text = string_bytes c.push_move.new.text in
    let given = c.in_ok-push_move.field-0 in
    let loads = c.next_frame-answer.ensures.loads in
    record {
      callable = c.next_frame-answer.ensures.callable;
      loads = record {
        unwinders = loads.unwinders ∙ l.invariant.loads.unwinders;
        next = loads.next ∙ l.invariant.loads.next;
        caches = loads.caches ∙ l.invariant.loads.caches;
      };
      told = λ words said.
          let told = l.invariant.told words said in (
            c.next_frame-answer.ensures.obeys.still words told.0,
            λ model at.
                let act = NextFrame w.unwinder w.cache 0 words in
                let first = next_state m (NewWalk w.pc w.regs) (without_walks model) in
                let moved = after_move u.takes_memory u.asks_memory m act w.limit first (w.limit - l.counter) left l.session after.session (walks_of l.walks.items) (walks_of after.walks.items) (reply_of c.next_frame-answer.result) given (string_bytes l.text) text
                one_more (told.1 model at) (c.next_frame-answer.ensures.obeys.said words told.0) c.in_ok-push_move.ensures in
                goes_on u.takes_memory u.asks_memory m act w.limit first left given after.session (walks_of after.walks.items) text moved c.if-not-branch.false,
          );
    }
