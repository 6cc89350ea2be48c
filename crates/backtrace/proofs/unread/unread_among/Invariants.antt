use Rattle.std.proofs.Common.{◌≡◌, ◌++◌, drop}
use Rattle.std.specs.List.{filter}
use Rattle.backtrace.specs.Unread.{is_unread}
use Rattle.backtrace.proofs.unread.unread_among.Given as goal

-- those so far, and then those that are left
abbrev pub invariant-loop-section : goal.invariant-loop-section
invariant-loop-section l =
    let test = is_unread l.file.bytes.now l.file.header l.has_debug_file in
    l.unread.items ++ filter test (drop l.section-index l.sections) ≡ filter test l.sections
