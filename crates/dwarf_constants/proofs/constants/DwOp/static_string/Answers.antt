use Rattle.std.proofs.Common.{◌++◌}
use Rattle.dwarf_constants.specs.Names.{plain_operation_names, literal_names, register_offset_names}
use Rattle.dwarf_constants.proofs.NamesLemmas.{name_in_either}
use Rattle.dwarf_constants.proofs.constants.DwOp.static_string.Goals as goal

pub returns : goal.returns
returns c =
    name_in_either (λ s. s.now) c.or-2.result c.or.result c.register_string.result (plain_operation_names ++ literal_names) register_offset_names c.args.self.now.0 c.or-2.ensures
    (name_in_either (λ s. s.now) c.or.result c.plain_string.result c.literal_string.result plain_operation_names literal_names c.args.self.now.0 c.or.ensures c.plain_string.ensures c.literal_string.ensures)
    c.register_string.ensures
