use Rattle.std.proofs.Common.{rules}
use Rattle.dwarf_constants.specs.Names.{register_offset_names}
use Rattle.dwarf_constants.proofs.NamesLemmas.{no_name}
use Rattle.dwarf_constants.proofs.constants.DwOp.register_string.Goals as goal

pub returns-in_default : goal.returns-in_default
returns-in_default c = no_name register_offset_names c.args.self.0 (search rules)
