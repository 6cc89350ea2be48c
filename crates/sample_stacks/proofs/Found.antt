-- A range that has an address, of ranges that are apart, is the one that has it.
use Rattle.std.proofs.Common.{◌≡◌, ℕ, zero, suc, ◌<◌, ◌≤◌, true, false, List, [], ◌∷◌, length, get_or, Some, set, ap, sym, ◌∙◌, arith}
use Rattle.std.proofs.lemmas.Bool.Decides.{nat_tests}
use Rattle.sample_stacks.specs.Known.{is_untouched, ranges_seen, untouched}
use Rattle.sample_stacks.specs.Ranges.{AreApart, has_address, mapping_in}
use Rattle.sample_stacks.specs.declared.known.KnownRange.{KnownRange}
use Rattle.sample_stacks.specs.declared.known.RangeCode.{RangeCode}

starts-above : (low : ℕ) (known : List KnownRange) (i : ℕ) (d : KnownRange) → AreApart low (ranges_seen known) → i < length known
    → low ≤ (get_or known i d).range.start
starts-above low [] i d apart within = absurd (omega arith)
starts-above low (x ∷ xs) zero d (from, some, apart) within = from
starts-above low (x ∷ xs) (suc i) d (from, some, apart) within =
    let later = starts-above x.range.end xs i d apart (omega arith) in omega arith

pub found-at : (address low : ℕ) (known : List KnownRange) (i : ℕ) (d found : KnownRange) → i < length known → get_or known i d ≡ found
    → found.range.start ≤ address → address < found.range.end → AreApart low (ranges_seen known)
    → mapping_in address (ranges_seen known) ≡ Some found.range.mapping
found-at address low [] i d found within is from below apart = absurd (omega arith)
found-at address low (x ∷ xs) zero d found within is from below apart =
    let has : has_address address x.range ≡ true = rw is (grind (arith, nat_tests)) in
    rw has (ap (λ (known : KnownRange). Some known.range.mapping) is)
found-at address low (x ∷ xs) (suc i) d found within is from below (first, some, apart) =
    let start = starts-above x.range.end xs i d apart (omega arith) in
    let above : x.range.end ≤ found.range.start = rw is at start in
    let misses : has_address address x.range ≡ false = grind (arith, nat_tests) in
    rw misses (found-at address x.range.end xs i d found (omega arith) is from below apart)

-- other code leaves the ranges
pub seen-set : (known : List KnownRange) (i : ℕ) (d found : KnownRange) (code : RangeCode) → i < length known → get_or known i d ≡ found
    → ranges_seen (set known i (record { range = found.range; code = code })) ≡ ranges_seen known
seen-set [] i d found code within is = absurd (omega arith)
seen-set (x ∷ xs) zero d found code within is = ap (λ (known : KnownRange). known.range ∷ ranges_seen xs) (sym is)
seen-set (x ∷ xs) (suc i) d found code within is = ap (λ ranges. x.range ∷ ranges) (seen-set xs i d found code (omega arith) is)

-- code in place of what was untouched leaves fewer ranges that are
pub fewer-set : (known : List KnownRange) (i : ℕ) (d found : KnownRange) (code : RangeCode) → i < length known → get_or known i d ≡ found
    → is_untouched code ≡ false → is_untouched found.code ≡ true
    → untouched (set known i (record { range = found.range; code = code })) < untouched known
fewer-set [] i d found code within is new old = absurd (omega arith)
fewer-set (x ∷ xs) zero d found code within is new old =
    let was : is_untouched x.code ≡ true = ap (λ (known : KnownRange). is_untouched known.code) is ∙ old in
    rw (new, was) (omega arith)
fewer-set (x ∷ xs) (suc i) d found code within is new old =
    let less = fewer-set xs i d found code (omega arith) is new old in omega arith
