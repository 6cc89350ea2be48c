use Rattle.std.proofs.Common.{◌≢◌, length, arith}
use Rattle.std.proofs.lemmas.Grind.{common_steps}
use Rattle.backtrace_text.specs.FrameViews.{register_view}
use Rattle.backtrace_text.proofs.Registers.{writes_registers}
use Rattle.backtrace_text.proofs.frames.push_registers.Goals as goal

pub returns : goal.returns
returns c =
    let some : length c.args.registers.now ≢ 0 = grind (arith, common_steps, c.if-is_empty.ensures) in
    writes_registers register_view c.args.registers.now c.push_bytes-2.result c.args.text.now.items c.push_bytes.new.text.items c.push_each.new.text.items c.push_bytes-2.new.text.items
    some (c.in_ok-push_bytes.ensures {u = tt}) (c.in_ok-push_each.ensures {u = tt}) c.push_bytes-2.ensures
