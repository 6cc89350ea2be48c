use Rattle.std.proofs.Common.{◌≡◌, ◌≤◌, ◌+◌, ◌*◌, ◌%◌, ◌^◌, ℕ, length, slice_index, ap, sym, ◌∙◌, arith, below_more}
use Rattle.std.proofs.lemmas.Result.{err_from_is_err_and}
use Rattle.dwarf_readers.specs.Stretch.{behind, byte_at, ends_at}
use Rattle.dwarf_readers.proofs.Strings.{ByteRead, Room, byte_missing, byte_read, room, value_more}
use Rattle.dwarf_readers.proofs.leb128.read.read_groups.Goals as goal

pub overflow_add-low : goal.overflow_add-low
overflow_add-low g c =
    let group : Room c.loop-last.low c.from.result c.loop-last.count = room _ _ _ c.loop-last.invariant.below (omega arith) (omega arith) in
    omega (arith, group.shifted, group.below, group.fits)

pub loop-last-preserved : goal.loop-last-preserved
loop-last-preserved g c =
    let s = g.R.Reader.stretch c.args.r.now in
    let count = c.loop-last.count in
    let group : Room c.loop-last.low c.from.result count = room _ _ _ c.loop-last.invariant.below (omega arith) (omega arith) in
    let read : ByteRead s (count + 1) c.in_ok-last-2.last (g.R.Reader.stretch c.read_u8-in-loop-last.new.self) =
    byte_read _ _ _ _ (sym (ap byte_at c.loop-last.invariant.left) ∙ c.in_ok-last-2.ensures.read) in
    let last : c.from.result ≡ slice_index s.bytes count % 128 = c.from.ensures ∙ ap (λ (b : ℕ). b % 128) c.loop-last.invariant.last in
    let more = value_more s.bytes count c.loop-last.invariant.inside in
    let scaled : 128 ^ count * c.from.result ≡ 128 ^ count * (slice_index s.bytes count % 128) = ap (λ (b : ℕ). 128 ^ count * b) last in
    record {
      count = omega arith;
      inside = read.inside;
      marked = below_more (λ k. 128 ≤ slice_index s.bytes k) count c.loop-last.invariant.marked (omega (arith, c.loop-last.invariant.last));
      low = omega (arith, group.shifted, scaled, more, c.loop-last.invariant.low);
      below = omega (arith, group.shifted, group.below);
      last = read.byte;
      left = read.left;
    }

pub returns-in_err-last-2-clause-missing : goal.returns-in_err-last-2-clause-missing
returns-in_err-last-2-clause-missing g c =
    let s = g.R.Reader.stretch c.args.r.now in
    let invariant = c.loop-last.invariant in
    let count = c.loop-last.count in
    let e = err_from_is_err_and c.from_residual-in_err-last-2.result c.from_residual-in_err-last-2.ensures.1 in
    let missing = byte_missing s (count + 1) _ (sym (ap byte_at invariant.left) ∙ c.in_err-last-2.ensures.read) in
    let size : count + 1 ≡ length s.bytes = omega (arith, missing.0, invariant.inside) in
    rw (e.1, e.2) (record {
      few = omega (arith, c.if-count-most.true);
      marked = λ k h. below_more (λ k. 128 ≤ slice_index s.bytes k) count invariant.marked (omega (arith, invariant.last)) k (omega arith);
      eof = missing.1 ∙ ap (λ (i : ℕ). ends_at (s.offset + i)) size;
      rest = c.in_err-last-2.ensures.unchanged ∙ invariant.left ∙ ap (λ (i : ℕ). behind i s) size;
    })
