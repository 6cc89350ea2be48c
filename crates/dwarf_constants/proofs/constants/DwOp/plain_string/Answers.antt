use Rattle.std.proofs.Common.{rules}
use Rattle.dwarf_constants.specs.Names.{plain_operation_names}
use Rattle.dwarf_constants.proofs.NamesLemmas.{no_name}
use Rattle.dwarf_constants.proofs.constants.DwOp.plain_string.Goals as goal

pub returns-in_default : goal.returns-in_default
returns-in_default c = no_name plain_operation_names c.args.self.0 (search rules)
