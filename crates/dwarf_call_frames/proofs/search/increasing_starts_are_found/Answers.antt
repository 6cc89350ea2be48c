use Rattle.dwarf_call_frames.proofs.Increasing.{finds}
use Rattle.dwarf_call_frames.proofs.search.increasing_starts_are_found.Goals as goal

pub returns : goal.returns
returns c = λ address rows up. finds address rows up
