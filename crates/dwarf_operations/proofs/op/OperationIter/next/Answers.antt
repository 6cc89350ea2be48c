use Rattle.std.proofs.Common.{Some, None, Ok, Err, sym, ap, ◌∙◌}
use Rattle.dwarf_readers.specs.Remainder.{item_at}
use Rattle.dwarf_operations.specs.Operations.{operation_at}
use Rattle.dwarf_operations.proofs.OperationLists.{item_none, item_there, next_taken}
use Rattle.dwarf_operations.proofs.op.OperationIter.next.Goals as goal

pub returns-then-is_empty : goal.returns-then-is_empty
returns-then-is_empty g c =
    let size = c.self.inside.encoding.address_size in
    let s = g.R.Reader.stretch c.self.inside.input in
    let none = item_none size s (sym c.is_empty.ensures ∙ c.if-is_empty.true) in
    let next = next_taken size (Ok None) s s none none in
    (sym c.self.view_is ∙ next.0, sym c.self.view_is ∙ next.1)

pub returns-in-Ok : goal.returns-in-Ok
returns-in-Ok g c =
    let size = c.self.inside.encoding.address_size in
    let s = g.R.Reader.stretch c.self.inside.input in
    let rest = g.R.Reader.stretch c.parse.new.bytes in
    sym c.self.view_is ∙ next_taken size (Ok (Some c.in-Ok.operation)) s rest (item_there size s (Ok (c.in-Ok.operation, rest)) (sym c.is_empty.ensures ∙ c.if-is_empty.false) c.in-Ok.ensures.read) tt

pub returns-in-Err : goal.returns-in-Err
returns-in-Err g c =
    let size = c.self.inside.encoding.address_size in
    let s = g.R.Reader.stretch c.self.inside.input in
    let rest = g.R.Reader.stretch c.empty.new.self in
    let next = next_taken size (Err c.in-Err.error) s rest (item_there size s (Err c.in-Err.error) (sym c.is_empty.ensures ∙ c.if-is_empty.false) c.in-Err.ensures.read) (ap (item_at (operation_at size)) c.empty.ensures) in
    (sym c.self.view_is ∙ next.0, next.1)
