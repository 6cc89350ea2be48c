use Rattle.std.proofs.Common.{map, option_map}
use Rattle.backtrace_text.specs.FrameViews.{offset_view, register_view}
use Rattle.backtrace_json.proofs.Adding.{added_first, added_more, adds_last}
use Rattle.backtrace_json.proofs.FrameTokens.{frame_in_order}
use Rattle.backtrace_json.proofs.frames.add_parts.Goals as goal

pub returns : goal.returns
returns c =
    let old = c.args.writer.now in
    let begun = added_first old c.begin_object.new.self _ c.in_ok-begin_object.ensures.ok c.begin_object.ensures.room.0 in
    let key = added_more old c.begin_object.new.self c.key.new.self _ _ begun c.in_ok-key.ensures.ok c.key.ensures.room.0 in
    let address = added_more old c.key.new.self c.add_address_if.new.writer _ _ key c.in_ok-add_address_if.ensures.tokens c.in_ok-add_address_if.ensures.before in
    let function = added_more old c.add_address_if.new.writer c.add_function_members.new.writer _ _ address
    c.in_ok-add_function_members.ensures.tokens c.in_ok-add_function_members.ensures.before in
    let file = added_more old c.add_function_members.new.writer c.add_file_members.new.writer _ _ function
    c.in_ok-add_file_members.ensures.tokens c.in_ok-add_file_members.ensures.before in
    let last = added_more old c.add_file_members.new.writer c.key-2.new.self _ _ file c.in_ok-key-2.ensures.ok c.key-2.ensures.room.0 in
    let registers = added_more old c.key-2.new.self c.add_registers.new.writer _ _ last c.in_ok-add_registers.ensures.tokens c.in_ok-add_registers.ensures.before in
    adds_last c.end_object.result old c.add_registers.new.writer c.end_object.new.self _ _ _ registers c.end_object.ensures.ok c.end_object.ensures.room.0
    (frame_in_order c.args.names c.args.address (option_map offset_view c.args.function) (option_map offset_view c.args.file) (map register_view c.args.registers.now))
