use Rattle.std.proofs.Common.{◌≡◌, true, false, ap, sym, ◌∙◌}
use Rattle.std.specs.Prelude.{is_some}
use Rattle.framehop_unwinder.specs.IdViews.{unwinder_number}
use Rattle.example_profiler.proofs.Calls.{if_failed, if_not_failed}
use Rattle.example_profiler.proofs.ProcessLaws.{as-before, has-loaded, is-bare, modules, others-loaded, was-none}
use Rattle.example_profiler.proofs.profiler.Profiler.start.Goals as goal

pub returns-in_err-load-clause-refused : goal.returns-in_err-load-clause-refused
returns-in_err-load-clause-refused g c =
    let there = is-bare c.args.self.now.session c.add_unwinder.new.self (unwinder_number c.in-Ok.process) c.in-Ok.ensures.number c.in-Ok.ensures.ok in
    absurd (let no : true ≡ false = sym (ap is_some there) ∙ c.in_err-load.ensures.found.only in cc)

pub returns-then-is_err-clause-refused : goal.returns-then-is_err-clause-refused
returns-then-is_err-clause-refused g c = λ process.
    let same = if_failed c.in_ok-load.field-0 _ (sym c.is_err.ensures.value ∙ c.if-is_err.true) c.in_ok-load.ensures.refused in
    ap modules (as-before c.args.self.now.session c.add_unwinder.new.self (unwinder_number c.in-Ok.process) c.in-Ok.ensures.number c.in-Ok.ensures.ok
    c.load.new.self c.remove_unwinder.new.self same c.in_ok-remove_unwinder.ensures.ok (unwinder_number process))

pub returns-clause-started : goal.returns-clause-started
returns-clause-started g c =
    let old = c.args.self.now.session in
    let added = c.add_unwinder.new.self in
    let number = unwinder_number c.in-Ok.process in
    let loaded = if_not_failed c.in_ok-load.field-0 _ (sym c.is_err.ensures.value ∙ c.if-is_err.false) c.in_ok-load.ensures.ok in
    record {
      fresh = ap modules (was-none old added number c.in-Ok.ensures.number c.in-Ok.ensures.ok);
      modules = ap modules (has-loaded old added number c.in-Ok.ensures.number c.in-Ok.ensures.ok c.load.new.self c.args.module loaded);
      others = λ other differ. ap modules (others-loaded old added number c.in-Ok.ensures.number c.in-Ok.ensures.ok c.load.new.self c.args.module loaded (unwinder_number other) differ);
    }
