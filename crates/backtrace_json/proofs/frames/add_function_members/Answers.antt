use Rattle.backtrace_json.proofs.Adding.{adds_two_members}
use Rattle.backtrace_json.proofs.frames.add_function_members.Goals as goal

pub returns : goal.returns
returns c =
    adds_two_members c.add_offset.result c.args.writer.now c.key.new.self c.add_function.new.writer c.key-2.new.self c.add_offset.new.writer _ _ _ _
    c.in_ok-key.ensures.ok c.in_ok-add_function.ensures.tokens c.in_ok-key-2.ensures.ok c.key.ensures.room.0 c.in_ok-add_function.ensures.before c.key-2.ensures.room.0
    c.add_offset.ensures
