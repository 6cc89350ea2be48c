use Rattle.std.proofs.Common.{◌≤◌, ◌++◌, length, ap, ◌∙◌, sym, List, arith}
use Rattle.std.specs.List.{flat_map}
use Rattle.std.proofs.lemmas.List.{take_all}
use Rattle.std.proofs.lemmas.List.Folds.{flat_map-map}
use Rattle.json.specs.Token.{Token}
use Rattle.backtrace_text.specs.FrameViews.{register_view}
use Rattle.backtrace_text.specs.declared.frames.RegisterValue.{RegisterValue}
use Rattle.backtrace_json.specs.Parts.{register_tokens}
use Rattle.backtrace_json.proofs.frames.add_each.Goals as goal

pub returns : goal.returns
returns c =
    let registers = c.args.registers.now in
    let old = c.args.writer.now.tokens in
    let end : length registers ≤ c.loop-register.register-index = omega (arith, c.loop-register-test.false) in
    record {
      tokens =
          c.loop-register.invariant.tokens
          ∙ ap (λ (xs : List RegisterValue). old ++ flat_map (λ register. register_tokens (register_view register)) xs) (take_all c.loop-register.register-index registers end)
          ∙ ap (λ (t : List Token). old ++ t) (sym (flat_map-map register_tokens register_view registers));
      before = c.loop-register.invariant.before;
    }
