use Rattle.std.proofs.Common.{◌≡◌, ◌++◌, take}
use Rattle.std.specs.List.{flat_map}
use Rattle.backtrace_text.specs.FrameViews.{register_view}
use Rattle.backtrace_text.specs.Frames.{register_text}
use Rattle.backtrace_text.proofs.frames.push_each.Given as goal

abbrev pub invariant-loop-register : goal.invariant-loop-register
invariant-loop-register l = l.text.items ≡ l.fn.text.items ++ flat_map (λ register. register_text (register_view register)) (take l.register-index l.registers)
