use Rattle.std.proofs.Common.{◌≡◌, ◌++◌, take}
use Rattle.std.specs.List.{flat_map}
use Rattle.backtrace_text.specs.FrameViews.{register_view}
use Rattle.backtrace_json.specs.Parts.{register_tokens}
use Rattle.backtrace_json.proofs.frames.add_each.Given as goal

-- the registers so far are added
abbrev pub invariant-loop-register : goal.invariant-loop-register
invariant-loop-register l = record {
  tokens : l.writer.tokens ≡ l.fn.writer.tokens ++ flat_map (λ register. register_tokens (register_view register)) (take l.register-index l.registers);
  before : l.writer.before ≡ l.fn.writer.before;
}
