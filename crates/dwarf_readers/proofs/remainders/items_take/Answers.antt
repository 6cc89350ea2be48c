use Rattle.dwarf_readers.proofs.Lengths.{item_takes, items_shrink}
use Rattle.dwarf_readers.proofs.remainders.items_take.Goals as goal

pub returns : goal.returns
returns g c = record {
  item = λ n read s h. item_takes n read s h;
  shrink = λ step h. items_shrink step h;
}
