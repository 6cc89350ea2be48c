use Rattle.std.proofs.lemmas.Result.{err_from_is_err_and}
use Rattle.dwarf_frame_rows.specs.Contexts.{state_of}
use Rattle.dwarf_frame_instructions.specs.Execution.{state_in}
use Rattle.dwarf_frame_instructions.specs.InstructionViews.{conventions_by}
use Rattle.dwarf_frame_instructions.specs.Instructions.{instructions_of}
use Rattle.dwarf_frame_instructions.proofs.Execution.{started_ended, started_first, started_next, starts_by, starts_refused}
use Rattle.dwarf_frame_instructions.proofs.rows.start.Goals as goal

pub loop-next-init : goal.loop-next-init
loop-next-init g c =
    let conventions = conventions_by g.R.Reader.stretch g.R.Offset.ReaderOffset.limit c.args.coding.now in
    started_first g.R.Offset.ReaderOffset.value g.S.UnwindContextStorage.limits c.args.factors.now (state_of g.S-Stack-ArrayLike.items c.clear.new.self)
    (instructions_of conventions (g.R.Reader.stretch c.args.input)) c.clear.ensures

pub loop-next-preserved : goal.loop-next-preserved
loop-next-preserved g c =
    let number = g.R.Offset.ReaderOffset.value in
    let items = g.S-Stack-ArrayLike.items in
    let limits = g.S.UnwindContextStorage.limits in
    let conventions = conventions_by g.R.Reader.stretch g.R.Offset.ReaderOffset.limit c.args.coding.now in
    let s = c.loop-next.invariant in
    started_next g.S.UnwindContextStorage.never_allocates limits c.args.factors.now c.loop-next.location (state_in number items c.loop-next.context) (state_in number items c.run.new.context)
    (instructions_of conventions (g.R.Reader.stretch c.args.input)) (instructions_of conventions (g.R.Reader.stretch c.loop-next.rest)) (instructions_of conventions (g.R.Reader.stretch c.run.new.input)) s
    c.in-Some.next (rw c.in-Some.is at c.in_ok-next.ensures.prefix)

pub returns-in_err-next : goal.returns-in_err-next
returns-in_err-next g c =
    let number = g.R.Offset.ReaderOffset.value in
    let items = g.S-Stack-ArrayLike.items in
    let limits = g.S.UnwindContextStorage.limits in
    let conventions = conventions_by g.R.Reader.stretch g.R.Offset.ReaderOffset.limit c.args.coding.now in
    let s = c.loop-next.invariant in
    let p = err_from_is_err_and c.from_residual.result c.from_residual.ensures.1 in
    rw (p.1, p.2) (record {
      started = starts_refused g.S.UnwindContextStorage.never_allocates limits c.args.factors.now c.loop-next.location (state_in number items c.loop-next.context) (state_in number items c.run.new.context)
          (instructions_of conventions (g.R.Reader.stretch c.args.input)) (instructions_of conventions (g.R.Reader.stretch c.loop-next.rest)) (instructions_of conventions (g.R.Reader.stretch c.run.new.input)) s
          c.in_err-next.field-0.0 c.in_err-next.ensures.prefix;
      memory = c.in_err-next.ensures.memory;
    })

pub returns : goal.returns
returns g c =
    let number = g.R.Offset.ReaderOffset.value in
    let items = g.S-Stack-ArrayLike.items in
    let limits = g.S.UnwindContextStorage.limits in
    let conventions = conventions_by g.R.Reader.stretch g.R.Offset.ReaderOffset.limit c.args.coding.now in
    let s = c.loop-next.invariant in
    let ended = started_ended g.S.UnwindContextStorage.never_allocates limits c.args.factors.now c.loop-next.location (state_in number items c.loop-next.context) (state_in number items c.run.new.context)
    (instructions_of conventions (g.R.Reader.stretch c.args.input)) (instructions_of conventions (g.R.Reader.stretch c.loop-next.rest)) (instructions_of conventions (g.R.Reader.stretch c.run.new.input)) s
    (rw c.in_default.is at c.in_ok-next.ensures.prefix) in
    record {
      started = starts_by number g.S.UnwindContextStorage.never_allocates limits c.args.factors.now (instructions_of conventions (g.R.Reader.stretch c.args.input)) ended.0 (state_of items c.run.new.context)
          ended.1 ended.2 ended.3 (state_of items c.save_initial_rules.new.self) c.save_initial_rules.result c.save_initial_rules.ensures.acts c.save_initial_rules.ensures.memory;
      memory = c.save_initial_rules.ensures.memory;
    }
