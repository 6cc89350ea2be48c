use Rattle.std.proofs.Common.{arith}
use Rattle.dwarf_constants.proofs.PointerLemmas.{is_valid-then, is_valid-else, is_valid-Decides}
use Rattle.dwarf_constants.proofs.constants.DwEhPe.is_valid_encoding.Goals as goal

pub returns-then-is_format : goal.returns-then-is_format
returns-then-is_format c =
    is_valid-Decides c.args.self.0 _ (omega arith)
    (is_valid-then _ _ _ _ _ _ c.is_absent.ensures c.if-is_absent.false
    c.format.ensures c.is_format.ensures c.if-is_format.true c.application.ensures c.is_application.ensures)

pub returns-else-is_format : goal.returns-else-is_format
returns-else-is_format c =
    is_valid-Decides c.args.self.0 _ (omega arith)
    (is_valid-else _ _ _ _ c.is_absent.ensures c.if-is_absent.false c.format.ensures c.is_format.ensures c.if-is_format.false)
