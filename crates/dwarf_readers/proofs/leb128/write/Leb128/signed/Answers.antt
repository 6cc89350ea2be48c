use Rattle.std.proofs.Common.{rules, ◌≡◌, ◌≤◌, ◌<◌, ◌+◌, ◌-◌, ◌++◌, [], ◌∷◌, ℕ, List, suc, length, take, slice_set, unsigned_abs, to_z, of_z, ap, sym, ◌∙◌, refl, arith, add-one, append_assoc}
use Rattle.std.proofs.Math.ListN.{length-set}
use Rattle.std.proofs.Math.Seq.{take-suc-set}
use Rattle.std.proofs.lemmas.Int.{to_z-of_z}
use Rattle.std.specs.Int.{w64}
use mir.Val.{SFits}
use Rattle.dwarf_readers.specs.Signed.{above_group, low_group, signed_groups_of, signed_string}
use Rattle.dwarf_readers.proofs.SignedSpellings.{bits_fit, bits_of, far_above, far_below, last_signed_group, more_signed_groups, near, signed_groups_start, signed_rest_fits, signed_room}
use Rattle.dwarf_readers.proofs.leb128.write.Leb128.signed.Goals as goal
use Rattle.dwarf_readers.proofs.leb128.write.Leb128.signed.Goals.{then-rest-ltminus64, else-rest-ltminus64+then-rest-ge64}

pub groups-init : goal.groups-init
groups-init c =
    let value : to_z w64 (of_z w64 c.args.value) ≡ c.args.value = to_z-of_z w64 c.args.value c.ranges.value in
    let fits = bits_fit c.args.value c.ranges.value in
    record {
      count = omega arith;
      size = refl;
      fits = rw value (omega arith);
      same = signed_groups_start (to_z w64 (of_z w64 c.args.value));
    }

pub groups-preserved : goal.groups-preserved
groups-preserved c =
    let bytes = c.groups.bytes in
    let rest = to_z w64 c.groups.rest-bits in
    let len = c.groups.len in
    let large : 64 ≤ bits_of rest = elim c.if-rest-ltminus64.branch [
      | then-rest-ltminus64 w ↦ far_below rest w.if-rest-ltminus64.true
      | else-rest-ltminus64+then-rest-ge64 w ↦ far_above rest w.if-rest-ge64.true
    ] in
    let less : len < 9 = signed_room rest len c.groups.invariant.count c.groups.invariant.fits large in
    let size : len < length bytes = omega (arith, c.groups.invariant.count, c.groups.invariant.size) in
    let step : suc (9 - (len + 1)) ≡ 9 - len = omega arith in
    let group_fits : SFits w64 c.rem_euclid.result = search rules in
    let above_fits : SFits w64 c.div_euclid-rest.result = search rules in
    let group : unsigned_abs (to_z w64 (of_z w64 c.rem_euclid.result)) ≡ low_group rest = ap unsigned_abs (to_z-of_z w64 c.rem_euclid.result group_fits ∙ c.rem_euclid.ensures.value) in
    let above : to_z w64 (of_z w64 c.div_euclid-rest.result) ≡ above_group rest = to_z-of_z w64 c.div_euclid-rest.result above_fits ∙ c.div_euclid-rest.ensures in
    let byte : unsigned_abs (to_z w64 (of_z w64 c.rem_euclid.result)) + 128 ≡ 128 + low_group rest = omega (arith, group) in
    let cut : take (len + 1) (slice_set bytes len (128 + low_group rest)) ≡ take len bytes ++ (128 + low_group rest) ∷ [] = rw add-one (take-suc-set bytes len (128 + low_group rest) size) in
    let tail : (128 + low_group rest) ∷ signed_groups_of (9 - (len + 1)) (above_group rest) ≡ signed_groups_of (9 - len) rest =
    sym (more_signed_groups (9 - (len + 1)) rest large) ∙ ap (λ (n : ℕ). signed_groups_of n rest) step in
    rw (byte, above) (record {
      count = omega arith;
      size = rw length-set c.groups.invariant.size;
      fits = signed_rest_fits rest len c.groups.invariant.fits;
      same = ap (λ (front : List ℕ). front ++ signed_groups_of (9 - (len + 1)) (above_group rest)) cut
          ∙ append_assoc (take len bytes) ((128 + low_group rest) ∷ []) (signed_groups_of (9 - (len + 1)) (above_group rest))
          ∙ ap (λ (more : List ℕ). take len bytes ++ more) tail ∙ c.groups.invariant.same;
    })

pub returns : goal.returns
returns c =
    let bytes = c.groups.bytes in
    let rest = to_z w64 c.groups.rest-bits in
    let len = c.groups.len in
    let size : len < length bytes = omega (arith, c.groups.invariant.count, c.groups.invariant.size) in
    let group_fits : SFits w64 c.rem_euclid-2.result = search rules in
    let group : unsigned_abs (to_z w64 (of_z w64 c.rem_euclid-2.result)) ≡ low_group rest = ap unsigned_abs (to_z-of_z w64 c.rem_euclid-2.result group_fits ∙ c.rem_euclid-2.ensures.value) in
    let cut : take (len + 1) (slice_set bytes len (low_group rest)) ≡ take len bytes ++ low_group rest ∷ [] = rw add-one (take-suc-set bytes len (low_group rest) size) in
    let end : bits_of rest < 64 = near rest c.if-rest-ltminus64.false c.if-rest-ge64.false in
    rw group (cut ∙ ap (λ (more : List ℕ). take len bytes ++ more) (sym (last_signed_group (9 - len) rest end)) ∙ c.groups.invariant.same ∙ ap signed_string (to_z-of_z w64 c.args.value c.ranges.value))
