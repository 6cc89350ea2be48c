use Rattle.std.proofs.Common.{◌≢◌, length, arith}
use Rattle.std.proofs.lemmas.Grind.{common_steps}
use Rattle.backtrace_text.specs.FrameViews.{register_view}
use Rattle.backtrace_json.proofs.Adding.{added_first, added_more, adds_last}
use Rattle.backtrace_json.proofs.Registers.{registers_value-some}
use Rattle.backtrace_json.proofs.frames.add_registers.Goals as goal

pub returns : goal.returns
returns c =
    let old = c.args.writer.now in
    let some : length c.args.registers.now ≢ 0 = grind (arith, common_steps, c.if-is_empty.ensures) in
    let begun = added_first old c.begin_object.new.self _ c.in_ok-begin_object.ensures.ok c.begin_object.ensures.room.0 in
    let each = added_more old c.begin_object.new.self c.add_each.new.writer _ _ begun c.in_ok-add_each.ensures.tokens c.in_ok-add_each.ensures.before in
    adds_last c.end_object.result old c.add_each.new.writer c.end_object.new.self _ _ _ each c.end_object.ensures.ok c.end_object.ensures.room.0
    (registers_value-some register_view c.args.registers.now some)
