use Rattle.std.proofs.Common.{refl}
use Rattle.dwarf_frame_parts.specs.RowParts.{parts_of}
use Rattle.framehop_rows.specs.ScaledRowAarch64.{X29, X30, scaled_rule}
use Rattle.framehop.proofs.RowCfas.{aarch64-cfa}
use Rattle.framehop.proofs.row_laws.aarch64.the_cfa_becomes_sp.Goals as goal

pub returns : goal.returns
returns c registers first limit size section row words caller is =
    aarch64-cfa c.rule_answers_as_its_row.ensures registers first limit size section row words caller (scaled_rule (parts_of X29 X30 row)) refl is
