-- What contracts see of a core file.
use Rattle.std.specs.Prelude.{◌≡◌, ℕ, List, Ok}
use Rattle.core_files.specs.declared.core_file.CoreFile.{CoreFile}
use Rattle.core_files.specs.CoreFiles.{CoreContents, HasParts, KnownPart, core_of}
use Rattle.core_files.specs.NoteViews.{mappings_of}
use Rattle.core_files.specs.RangeViews.{ranges_seen}

-- What the core says.
abbrev pub contents_of : CoreFile → CoreContents
contents_of core = record {
  machine = core.machine;
  segments = ranges_seen core.segments.items;
  threads = core.threads.items;
  files = mappings_of core.mapped_files.items;
  auxv = core.auxv.now;
  siginfo = core.siginfo.now;
  prpsinfo = core.prpsinfo.now;
}

-- A core is what each file with these parts says.
abbrev pub IsOfEachWith : List ℕ → List KnownPart → CoreFile → Type 0
IsOfEachWith head parts core = (bytes : List ℕ) → HasParts bytes head parts → core_of bytes ≡ Ok (contents_of core)
