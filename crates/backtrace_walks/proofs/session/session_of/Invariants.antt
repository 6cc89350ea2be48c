use Rattle.std.proofs.Common.{◌≡◌, drop}
use Rattle.framehop_unwinder.specs.State.{modules_at}
use Rattle.backtrace_files.specs.FileViews.{files_seen}
use Rattle.backtrace_walks.specs.Modules.{modules_of, with_files}
use Rattle.backtrace_walks.specs.SessionViews.{IsReady}
use Rattle.backtrace_walks.proofs.session.session_of.Given as goal

-- the modules so far, with those of the files that are left
abbrev pub invariant-loop-file : goal.invariant-loop-file
invariant-loop-file g l =
    record {
      ready : IsReady l.session;
      loaded : with_files (modules_at l.session 0) (files_seen (drop l.file-index l.files)) ≡ modules_of (files_seen l.files);
    }
