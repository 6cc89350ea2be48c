use Rattle.std.proofs.Common.{◌≡◌, ◌<◌, ◌+◌, ◌-◌, ◌/◌, ◌%◌, ◌++◌, [], ◌∷◌, ℕ, List, suc, length, take, slice_set, ap, sym, ◌∙◌, refl, arith, add-one, append_assoc}
use Rattle.std.proofs.Math.ListN.{length-set}
use Rattle.std.proofs.Math.Seq.{take-suc-set}
use Rattle.dwarf_readers.specs.Unsigned.{groups_of}
use Rattle.dwarf_readers.proofs.Spellings.{group_room, groups_start, last_group, more_groups, rest_fits}
use Rattle.dwarf_readers.proofs.leb128.write.Leb128.unsigned.Goals as goal

pub groups-init : goal.groups-init
groups-init c = record {
  count = omega arith;
  size = refl;
  fits = omega (arith, c.ranges.value);
  same = groups_start c.args.value;
}

pub groups-preserved : goal.groups-preserved
groups-preserved c =
    let bytes = c.groups.bytes in
    let rest = c.groups.rest in
    let len = c.groups.len in
    let less : len < 9 = group_room rest len c.groups.invariant.count c.groups.invariant.fits c.groups-test.true in
    let size : len < length bytes = omega (arith, c.groups.invariant.count, c.groups.invariant.size) in
    let step : suc (9 - (len + 1)) ≡ 9 - len = omega arith in
    let cut : take (len + 1) (slice_set bytes len (rest % 128 + 128)) ≡ take len bytes ++ (rest % 128 + 128) ∷ [] = rw add-one (take-suc-set bytes len (rest % 128 + 128) size) in
    let byte : rest % 128 + 128 ≡ 128 + rest % 128 = omega arith in
    let tail : (rest % 128 + 128) ∷ groups_of (9 - (len + 1)) (rest / 128) ≡ groups_of (9 - len) rest =
    ap (λ (b : ℕ). b ∷ groups_of (9 - (len + 1)) (rest / 128)) byte ∙ sym (more_groups (9 - (len + 1)) rest c.groups-test.true) ∙ ap (λ (n : ℕ). groups_of n rest) step in
    record {
      count = omega arith;
      size = rw length-set c.groups.invariant.size;
      fits = rest_fits rest len c.groups.invariant.fits;
      same = ap (λ (front : List ℕ). front ++ groups_of (9 - (len + 1)) (rest / 128)) cut
          ∙ append_assoc (take len bytes) ((rest % 128 + 128) ∷ []) (groups_of (9 - (len + 1)) (rest / 128))
          ∙ ap (λ (more : List ℕ). take len bytes ++ more) tail ∙ c.groups.invariant.same;
    }

pub returns : goal.returns
returns c =
    let bytes = c.groups.bytes in
    let rest = c.groups.rest in
    let len = c.groups.len in
    let size : len < length bytes = omega (arith, c.groups.invariant.count, c.groups.invariant.size) in
    let cut : take (len + 1) (slice_set bytes len rest) ≡ take len bytes ++ rest ∷ [] = rw add-one (take-suc-set bytes len rest size) in
    let end : rest < 128 = c.groups-test.false in
    cut ∙ ap (λ (more : List ℕ). take len bytes ++ more) (sym (last_group (9 - len) rest end)) ∙ c.groups.invariant.same
