use Rattle.std.proofs.Common.{refl}
use Rattle.dwarf_frame_parts.specs.RowParts.{parts_of}
use Rattle.framehop_rows.specs.ScaledRow.{RA, RBP, scaled_rule}
use Rattle.framehop.proofs.RowCfas.{x86_64-cfa}
use Rattle.framehop.proofs.row_laws.x86_64.the_cfa_becomes_sp.Goals as goal

pub returns : goal.returns
returns c registers all first limit size section row words caller is =
    x86_64-cfa c.rule_answers_as_its_row.ensures registers all first limit size section row words caller (scaled_rule (parts_of RBP RA row)) refl is
