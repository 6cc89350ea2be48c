use Rattle.framehop_unwinder.specs.State.{modules_at}
use Rattle.backtrace_files.specs.FileViews.{files_seen}
use Rattle.backtrace_walks.specs.Modules.{modules_of}
use Rattle.backtrace_walks.proofs.FilesLoaded.{goes_on}
use Rattle.backtrace_walks.proofs.session.session_of.Goals as goal

pub loop-file-preserved : goal.loop-file-preserved
loop-file-preserved g c =
    let has = c.in_ok-load_found.ensures in
    record {
      ready = has.ready;
      loaded = goes_on c.args.files.now c.loop-file.file-index _ (modules_at c.loop-file.session 0) (modules_at c.load_found.new.session 0) (modules_of (files_seen c.args.files.now))
          c.in_ok-found.found c.loop-file-test.true c.in_ok-found.ensures has.modules c.loop-file.invariant.loaded;
    }
