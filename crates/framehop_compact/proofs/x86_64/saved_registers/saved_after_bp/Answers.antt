use Rattle.std.proofs.Common.{◌∙◌, ◌-◌, ◌*◌, ◌^◌, ◌<◌, sym, ap, arith}
use Rattle.std.specs.Option.{option_map}
use Rattle.framehop_compact.specs.SavedRegisters.{saved_after_bp}
use Rattle.framehop_compact.proofs.Arrangements.{too_many}
use Rattle.framehop_compact.proofs.BpOfSix.{past_all, said_by_number, said_if_not, said_if_saved}
use Rattle.framehop_compact.proofs.Weights.{few_lists, mul_comm_of}
use Rattle.framehop_compact.proofs.x86_64.saved_registers.saved_after_bp.Goals as goal

pub returns-then-count-gt6 : goal.returns-then-count-gt6
returns-then-count-gt6 c = sym (ap (option_map saved_after_bp) (too_many c.args.count c.args.number c.if-count-gt6.true))

pub overflow_mul-first : goal.overflow_mul-first
overflow_mul-first c =
    let few : c.from.result * c.factorial.result < 2 ^ 32 = few_lists c.args.number (6 - c.args.count) _ _ (omega arith) c.from.ensures c.factorial.ensures (omega arith) in
    grind arith

pub returns-else-count-eq0 : goal.returns-else-count-eq0
returns-else-count-eq0 c =
    sym (past_all c.args.count c.args.number (c.from.result * c.factorial.result) (omega arith) (omega arith)
    (mul_comm_of _ _ _ _ c.from.ensures c.factorial.ensures) c.if-first-ge720.true)

pub returns-then-before-count : goal.returns-then-before-count
returns-then-before-count c =
    let first = c.from.result * c.factorial.result in
    said_if_saved c.args.count _ c.if-before-count.true
    ∙ sym (said_by_number c.args.count c.args.number first (omega arith) (omega arith) (mul_comm_of _ _ _ _ c.from.ensures c.factorial.ensures))

pub returns-else-before-count : goal.returns-else-before-count
returns-else-before-count c =
    let first = c.from.result * c.factorial.result in
    said_if_not c.args.count _ (omega arith)
    ∙ sym (said_by_number c.args.count c.args.number first (omega arith) (omega arith) (mul_comm_of _ _ _ _ c.from.ensures c.factorial.ensures))
