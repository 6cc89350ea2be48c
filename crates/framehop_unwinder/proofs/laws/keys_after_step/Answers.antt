use Rattle.framehop_unwinder.proofs.KeyLists.{no-keys, keys-kept, keys-count}
use Rattle.framehop_unwinder.proofs.laws.keys_after_step.Goals as goal

pub returns : goal.returns
returns g c = record {
  empty = no-keys;
  kept = λ key keys cache wanted kept. keys-kept wanted kept key cache.layout keys cache.sets;
  counts = λ key keys cache. keys-count cache.layout keys cache.sets key;
}
