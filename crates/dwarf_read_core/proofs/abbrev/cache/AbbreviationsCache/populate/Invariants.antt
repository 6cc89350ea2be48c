use Rattle.std.specs.BTreeSet.{contains}
use Rattle.std.specs.Ordering.{nat_cmp}
use Rattle.dwarf_read_core.specs.AbbreviationTable.{table_in}
use Rattle.dwarf_read_core.specs.AbbreviationsCache.{kept_answer}
use Rattle.dwarf_read_core.proofs.Populating.{SoFar}
use Rattle.dwarf_read_core.proofs.abbrev.cache.AbbreviationsCache.populate.Given as goal

-- the iterator goes on and ends, and the cache keeps what it is to keep of the offsets so far
abbrev pub invariant-loop-offset : goal.invariant-loop-offset
invariant-loop-offset g l = record {
  can : (goal.iterator-loop-offset g).can_next l.offset-iterator;
  ends : (goal.iterator-loop-offset g).is_finite l.offset-iterator;
  so_far : SoFar (λ q. table_in q (g.R.Reader.stretch l.debug_abbrev)) (λ o. g.R.Offset.ReaderOffset.value o.0) l.strategy (kept_answer l.cache) (contains nat_cmp l.seen) l.yielded;
}
