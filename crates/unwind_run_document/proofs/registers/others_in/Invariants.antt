use Rattle.std.proofs.Common.{◌≡◌, ◌-◌, length, take}
use Rattle.serde_json.specs.View.{view}
use Rattle.json_program.specs.Elements.{so_far, joined}
use Rattle.unwind_run_document.specs.Registers.{others_in, values_from}
use Rattle.unwind_run_document.proofs.registers.others_in.Given as goal

abbrev pub invariant-loop-number : goal.invariant-loop-number
invariant-loop-number l = record {
  has_all : length l.others ≡ 35;
  so_far_same : others_in l.arch (view l.object) ≡ joined (so_far l.fault (take l.number l.others)) (values_from l.arch (view l.object) l.number (35 - l.number));
}
