use Rattle.std.proofs.Common.{◌≡◌, ◌+◌, length, ◌==◌, true, false, Some, None, Ok, Err, refl, sym, ◌∙◌, arith}
use Rattle.dwarf_read_core.specs.AddressSets.{set_step}
use Rattle.dwarf_read_core.proofs.AddressLists.{set_step-here, sets-next, sets-none}
use Rattle.dwarf_read_core.proofs.addr.AddrHeaderIter.next.Goals as goal

pub returns-then-is_empty : goal.returns-then-is_empty
returns-then-is_empty g c =
    let s = g.R.Reader.stretch c.self.inside.input in
    let offset = g.R.Offset.ReaderOffset.value c.self.inside.offset.0 in
    let empty : (length s.bytes == 0) ≡ true = sym c.is_empty.ensures ∙ c.if-is_empty.true in
    let none = sets-none g.R.Offset.ReaderOffset.limit (offset + length s.bytes) s empty in
    rw (← c.self.view_is) (none, none)

pub returns-in-Ok : goal.returns-in-Ok
returns-in-Ok g c =
    let s = g.R.Reader.stretch c.self.inside.input in
    let t = g.R.Reader.stretch c.parse.new.input in
    let limit = g.R.Offset.ReaderOffset.limit in
    let offset = g.R.Offset.ReaderOffset.value c.self.inside.offset.0 in
    let next = g.R.Offset.ReaderOffset.value c.offset_behind-offset.result in
    let some : (length s.bytes == 0) ≡ false = sym c.is_empty.ensures ∙ c.if-is_empty.false in
    let end : next + length t.bytes ≡ offset + length s.bytes = omega (arith, c.offset_behind-offset.ensures, c.len.ensures.len, c.len-before.ensures.len) in
    let step : set_step limit (offset + length s.bytes) s ≡ Ok (Some (c.in-Ok.header, t)) = set_step-here limit offset s ∙ rw (some, c.in-Ok.ensures.read) refl in
    rw (← c.self.view_is, end) (sets-next limit (offset + length s.bytes) (λ set. set) (Ok (Some c.in-Ok.header)) s t step tt)

pub returns-in-Err : goal.returns-in-Err
returns-in-Err g c =
    let s = g.R.Reader.stretch c.self.inside.input in
    let t = g.R.Reader.stretch c.empty.new.self in
    let limit = g.R.Offset.ReaderOffset.limit in
    let offset = g.R.Offset.ReaderOffset.value c.self.inside.offset.0 in
    let some : (length s.bytes == 0) ≡ false = sym c.is_empty.ensures ∙ c.if-is_empty.false in
    let step : set_step limit (offset + length s.bytes) s ≡ Err c.in-Err.e = set_step-here limit offset s ∙ rw (some, c.in-Err.ensures.read) refl in
    let empty : (length t.bytes == 0) ≡ true = rw c.empty.ensures refl in
    let none : set_step limit (offset + length s.bytes) t ≡ Ok None = rw empty refl in
    rw (← c.self.view_is) ((sets-next limit (offset + length s.bytes) (λ set. set) (Err c.in-Err.e) s t step none).0, sets-none limit (offset + length t.bytes) t empty)
