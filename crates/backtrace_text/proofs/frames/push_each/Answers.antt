use Rattle.std.proofs.Common.{◌≤◌, ◌++◌, length, ap, ◌∙◌, sym, List, ℕ, arith}
use Rattle.std.specs.List.{flat_map}
use Rattle.std.proofs.lemmas.List.{take_all}
use Rattle.std.proofs.lemmas.List.Folds.{flat_map-map}
use Rattle.backtrace_text.specs.FrameViews.{register_view}
use Rattle.backtrace_text.specs.Frames.{register_text}
use Rattle.backtrace_text.specs.declared.frames.RegisterValue.{RegisterValue}
use Rattle.backtrace_text.proofs.frames.push_each.Goals as goal

pub returns : goal.returns
returns c =
    let registers = c.args.registers.now in
    let end : length registers ≤ c.loop-register.register-index = omega (arith, c.loop-register-test.false) in
    c.loop-register.invariant
    ∙ ap (λ (xs : List RegisterValue). c.args.text.now.items ++ flat_map (λ register. register_text (register_view register)) xs) (take_all c.loop-register.register-index registers end)
    ∙ ap (λ (t : List ℕ). c.args.text.now.items ++ t) (sym (flat_map-map register_text register_view registers))
