use Rattle.std.proofs.Common.{◌≡◌, ◌<◌}
use Rattle.std.specs.Bool.{OnFalse, OnTrue}
use Rattle.sample_stacks.specs.Modules.{ranges_left}
use Rattle.fold_stacks.proofs.walks.load_all.Given as goal

-- fewer ranges are left if one was loaded, and else nothing is changed
abbrev pub invariant-loop-frame : goal.invariant-loop-frame
invariant-loop-frame g l = record {
  unwinder : l.modules.unwinder ≡ l.fn.modules.unwinder;
  fewer : OnTrue l.is_new (ranges_left l.modules < ranges_left l.fn.modules);
  same : OnFalse l.is_new (l.modules ≡ l.fn.modules);
  session : OnFalse l.is_new (l.session ≡ l.fn.session);
}
