use Rattle.std.proofs.Common.{◌≡◌, reverse, false, vec_len}
use Rattle.json_program.specs.Stream.{IsWritten}
use Rattle.framehop_unwinder.specs.Progress.{SessionModel, IsAt}
use Rattle.unwind_run_program.specs.Outputs.{beginning}
use Rattle.unwind_run_document.specs.Made.{Made}
use Rattle.unwind_run_document.specs.Sound.{AreSound}
use Rattle.unwind_run_document.specs.CommandViews.{tasks_of}
use Rattle.unwind_run_program.specs.Text.{lines_of}
use Rattle.unwind_run_program.proofs.program.run_commands.Given as goal

-- what is written and the lines of the commands that are left, which stand in reverse, make the lines of all
abbrev pub invariant-loop-command : goal.invariant-loop-command
invariant-loop-command g l =
    let m = g.A.ModuleUnwinding.meanings in
    let data_of = g.A.DocumentModules.data_of in
    let forms = g.A.DocumentModules.forms in
    record {
      failed : g.W.Sink.has_failed l.writer ≡ false;
      sound : (made : Made) × AreSound made (tasks_of (reverse l.commands.items));
      stands : (model : SessionModel g.row.A-UnwindData.Denot) × IsAt model l.session
          × IsWritten (g.W.Sink.contents l.fn.writer) (g.W.Sink.contents l.writer) (lines_of m forms data_of model (tasks_of (reverse l.commands.items))) (lines_of m forms data_of (beginning l.fn.generation) (tasks_of l.fn.commands.items));
    }

abbrev pub decreases-loop-command : goal.decreases-loop-command
decreases-loop-command g l = vec_len l.commands
