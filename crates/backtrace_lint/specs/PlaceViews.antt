-- Places as contracts see them.
use Rattle.backtrace_lint.specs.Lines.{Place}
use Rattle.backtrace_lint.specs.declared.lines.Place.{Place as Lent}

-- a file and a section
abbrev pub place_seen : Lent → Place
place_seen place = record { file = place.file.now; section = place.section.now }
