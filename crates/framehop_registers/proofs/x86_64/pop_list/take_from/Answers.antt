use Rattle.std.proofs.Common.{◌≡◌, ℕ, zero, suc, ◌+◌, ◌<◌, List, length, length-drop, get_or, drop, set, ap, sym, ◌∙◌, add-zero, arith}
use Rattle.std.proofs.lemmas.List.{get_or-drop, get_or_default, set-set, take-set-le, drop-set-lt, drop-set-add}
use Rattle.std.proofs.lemmas.List.Edits.{swap_is}
use Rattle.framehop_registers.specs.declared.x86_64.unwindregs.Reg.{Reg}
use Rattle.framehop_registers.specs.declared.x86_64.unwindregs.Reg.TheVariants.{RAX, RBX}
use Rattle.framehop_registers.proofs.Orders.{drop-swap}
use Rattle.framehop_registers.proofs.x86_64.pop_list.take_from.Goals as goal

pub returns-clause-register : goal.returns-clause-register
returns-clause-register c =
    let registers = c.args.registers.now in
    get_or_default registers (c.args.taken + c.args.place) RAX RBX (omega arith)
    ∙ sym (get_or-drop c.args.taken registers c.args.place RBX)

pub returns-clause-front : goal.returns-clause-front
returns-clause-front c = take-set-le c.args.taken c.args.registers.now (c.args.taken + c.args.place) (get_or c.args.registers.now c.args.taken RAX) (omega arith)

-- behind the first, it is as if the two had changed places
behind : (registers : List Reg) (taken place : ℕ) → taken + place < length registers
    → drop (taken + 1) (set registers (taken + place) (get_or registers taken RAX))
    ≡ drop (taken + 1) (set (set registers taken (get_or registers (taken + place) RAX)) (taken + place) (get_or registers taken RAX))
behind registers taken zero inside =
    let first = get_or registers taken RAX in
    rw add-zero (ap (drop (taken + 1)) (sym (set-set registers taken first first)))
behind registers taken (suc place) inside =
    let first = get_or registers taken RAX in
    let chosen = get_or registers (taken + suc place) RAX in
    let at : taken + suc place ≡ (taken + 1) + place = omega arith in
    rw at (
    drop-set-add (taken + 1) registers place first
    ∙ ap (λ xs. set xs place first) (sym (drop-set-lt (taken + 1) registers taken (get_or registers (taken + 1 + place) RAX) (omega arith)))
    ∙ sym (drop-set-add (taken + 1) (set registers taken (get_or registers (taken + 1 + place) RAX)) place first))

pub returns-clause-left : goal.returns-clause-left
returns-clause-left c =
    let registers = c.args.registers.now in
    let size = length-drop c.args.taken registers in
    behind registers c.args.taken c.args.place (omega arith)
    ∙ ap (drop (c.args.taken + 1)) (swap_is registers c.args.taken (c.args.taken + c.args.place) RAX (omega arith) (omega arith))
    ∙ drop-swap registers c.args.taken c.args.place (omega arith)
