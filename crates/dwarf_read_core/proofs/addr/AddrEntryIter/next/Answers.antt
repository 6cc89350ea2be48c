use Rattle.std.proofs.Common.{◌≡◌, length, ◌==◌, true, false, Some, None, Ok, Err, refl, sym, ◌∙◌}
use Rattle.dwarf_read_core.specs.AddressSets.{next_address}
use Rattle.dwarf_read_core.proofs.AddressLists.{addresses-next}
use Rattle.dwarf_read_core.proofs.addr.AddrEntryIter.next.Goals as goal

pub returns-then-is_empty : goal.returns-then-is_empty
returns-then-is_empty g c =
    let s = g.R.Reader.stretch c.args.self.now.input in
    let size = c.args.self.now.encoding.address_size in
    let empty : (length s.bytes == 0) ≡ true = sym c.is_empty.ensures ∙ c.if-is_empty.true in
    let none : next_address size s ≡ Ok None = rw empty refl in
    addresses-next size (Ok None) s s none none

pub returns-in-Ok : goal.returns-in-Ok
returns-in-Ok g c =
    let s = g.R.Reader.stretch c.args.self.now.input in
    let size = c.args.self.now.encoding.address_size in
    let some : (length s.bytes == 0) ≡ false = sym c.is_empty.ensures ∙ c.if-is_empty.false in
    addresses-next size (Ok (Some c.in-Ok.address)) s (g.R.Reader.stretch c.read_address.new.self) (rw (some, c.in-Ok.ensures.read) refl) tt

pub returns-in-Err : goal.returns-in-Err
returns-in-Err g c =
    let s = g.R.Reader.stretch c.args.self.now.input in
    let size = c.args.self.now.encoding.address_size in
    let some : (length s.bytes == 0) ≡ false = sym c.is_empty.ensures ∙ c.if-is_empty.false in
    let t = g.R.Reader.stretch c.empty.new.self in
    let none : next_address size t ≡ Ok None = rw c.empty.ensures refl in
    addresses-next size (Err c.in-Err.e) s t (rw (some, c.in-Err.ensures.read) refl) none
