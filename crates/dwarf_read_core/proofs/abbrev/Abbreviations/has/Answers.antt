use Rattle.std.proofs.Common.{◌∙◌, ap, is_some}
use Rattle.dwarf_read_core.specs.DebugAbbrev.{declarations}
use Rattle.dwarf_read_core.proofs.Places.{has_code_place_of}
use Rattle.dwarf_read_core.proofs.abbrev.Abbreviations.has.Goals as goal

pub returns : goal.returns
returns c = c.is_some.ensures ∙ ap is_some c.place.ensures ∙ has_code_place_of c.args.code (declarations c.args.self.now)
