use Rattle.std.proofs.Common.{◌≡◌, ◌∙◌, ap, refl, sym, subst, false, true}
use Rattle.std.specs.Prelude.{string_bytes}
use Rattle.json_program.specs.Lines.{line}
use Rattle.framehop_rules.specs.declared.rule_cache.CacheOccupancy.{CacheOccupancy}
use Rattle.framehop_unwinder.specs.ByNumber.{is_held}
use Rattle.framehop_unwinder.specs.History.{KeyHistory, history_at, occupancy_after}
use Rattle.unwind_run_program.specs.Replies.{occupancy_text}
use Rattle.unwind_run_program.specs.Outputs.{output_of_occupancy}
use Rattle.unwind_run_program.proofs.Texts.{line-gone, line-there, unknown-output, was-found}
use Rattle.unwind_run_program.proofs.commands.occupancy.Goals as goal

pub returns-in_default-clause-output : goal.returns-in_default-clause-output
returns-in_default-clause-output g c = λ model at.
    let caches = c.args.session.now.caches in
    let gone : is_held caches c.args.cache ≡ false = subst (λ k. is_held caches k ≡ false) c.numbered.ensures c.in_default.ensures.found.only in
    unknown-output c.unknown.result (output_of_occupancy c.args.cache model) c.args.session.now c.unknown.ensures.text c.unknown.ensures.refused
    (line-gone (λ (h : KeyHistory). occupancy_text (occupancy_after h)) model.histories caches c.args.cache at.histories gone) refl at

pub returns-clause-output : goal.returns-clause-output
returns-clause-output g c = λ model at.
    let caches = c.args.session.now.caches in
    let there : is_held caches c.args.cache ≡ true = subst (λ k. is_held caches k ≡ true) c.numbered.ensures (was-found _ c.occupancy.result _ _ c.in-Ok.occupancy c.occupancy.ensures.found c.in-Ok.is) in
    let told = subst (λ k. c.in-Ok.occupancy ≡ occupancy_after (history_at model.histories k)) c.numbered.ensures (c.in-Ok.ensures.histories model.histories at.histories) in
    record {
      text = ap string_bytes c.lines.ensures.text ∙ c.in_ok-line.ensures ∙ ap (λ (x : CacheOccupancy). line (occupancy_text x)) told ∙ sym (line-there (λ (h : KeyHistory). occupancy_text (occupancy_after h)) model.histories caches c.args.cache at.histories there);
      is_refused = c.lines.ensures.refused;
      model = at;
    }
