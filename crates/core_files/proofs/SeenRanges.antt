-- The range that contains an address, among ranges in memory.
use Rattle.std.proofs.Common.{◌≡◌, ℕ, ◌+◌, ◌-◌, ◌<◌, ◌≤◌, true, false, List, [], length, get_or, subst, ap, sym, ◌∙◌, arith}
use Rattle.std.specs.Prelude.{nat_le, nat_lt, Some, None}
use Rattle.std.specs.List.{AllWithin, AllAdjacentBelow}
use Rattle.std.specs.List.Sorted.{IsPartitionedBy, IsPartitionPoint}
use Rattle.std.proofs.lemmas.Bool.Decides.{nat_tests}
use Rattle.std.proofs.lemmas.List.{get_or-map, length-map}
use Rattle.std.proofs.lemmas.List.Elements.{All-from_get_or}
use Rattle.std.proofs.lemmas.List.Folds.{list_any_at, list_any_none}
use Rattle.core_files.specs.declared.memory_range.MemoryRange.{MemoryRange}
use Rattle.core_files.specs.Ranges.{KnownRange, any_loses, contains, range_at, BeginAtOrBelow, IsBefore, IsIncreasing}
use Rattle.core_files.specs.RangeViews.{range_seen, ranges_seen}
use Rattle.core_files.proofs.Mapped.{mapped-all, mapped-adjacent, mapped-back}
use Rattle.core_files.proofs.RangeLaws.{pass-here, pass-end, starts-in-order, halves-none, halves-here, halves-missed}

module _ (ranges : List MemoryRange) where
  count : length (ranges_seen ranges) ≡ length ranges
  count = length-map ranges range_seen

  at : (i : ℕ) (d : MemoryRange) → i < length ranges → get_or (ranges_seen ranges) i (range_seen d) ≡ range_seen (get_or ranges i d)
  at i d within = get_or-map range_seen ranges i d (range_seen d) within

  -- whether they increase
  pub seen-increasing : (high : ℕ) → length ranges ≤ high → AllAdjacentBelow (λ range next. IsBefore (range_seen range) (range_seen next)) ranges high → IsIncreasing (ranges_seen ranges)
  seen-increasing high le all k d h = mapped-adjacent range_seen IsBefore ranges (length ranges) (omega arith) (λ i e w. all i e (omega arith)) k d (omega (arith, count))

  pub seen-not-increasing : (next : ℕ) (d : MemoryRange) (P : Type 0) → 0 < next → next < length ranges → (IsBefore (range_seen (get_or ranges (next - 1) d)) (range_seen (get_or ranges next d)) → P) → IsIncreasing (ranges_seen ranges) → P
  seen-not-increasing next d P some within not up =
      let before = mapped-back range_seen IsBefore ranges (length ranges) (next - 1) d (omega arith) (λ k e h. up k e (omega (arith, count))) (omega arith) in
      let same : (get_or ranges (next - 1 + 1) d).address ≡ (get_or ranges next d).address = ap (λ (k : ℕ). (get_or ranges k d).address) (omega arith) in
      not (omega (arith, before, same))

  -- whether bytes were lost
  pub seen-loses : (i : ℕ) (d : MemoryRange) → i < length ranges → 0 < (get_or ranges i d).lost → true ≡ any_loses (ranges_seen ranges)
  seen-loses i d within some =
      let here : nat_lt 0 (get_or ranges i d).lost ≡ true = grind (arith, nat_tests) in
      sym (list_any_at (λ (range : KnownRange). nat_lt 0 range.lost) (ranges_seen ranges) i (range_seen d) (omega (arith, count)) (ap (λ (range : KnownRange). nat_lt 0 range.lost) (at i d within) ∙ here))

  pub seen-loses-none : (high : ℕ) → length ranges ≤ high → AllWithin (λ range. nat_lt 0 range.lost ≡ false) ranges 0 high → false ≡ any_loses (ranges_seen ranges)
  seen-loses-none high le none =
      let nothing : KnownRange = record { address = 0; size = 0; bytes = []; lost = 0; executable = false } in
      let all = mapped-all range_seen (λ (range : KnownRange). nat_lt 0 range.lost ≡ false) ranges 0 (length ranges) (omega arith) (λ k e a b. none k e a (omega arith)) in
      sym (list_any_none (λ (range : KnownRange). nat_lt 0 range.lost) (ranges_seen ranges)
      (All-from_get_or (λ (range : KnownRange). nat_lt 0 range.lost ≡ false) (ranges_seen ranges) nothing (λ i h. all i nothing (omega arith) (omega (arith, count)))))

  module _ (address : ℕ) where
    -- by a pass
    pub seen-pass-here : (i : ℕ) (d : MemoryRange) → i < length ranges → AllWithin (λ range. contains address (range_seen range) ≡ false) ranges 0 i → true ≡ contains address (range_seen (get_or ranges i d))
        → Some (range_seen (get_or ranges i d)) ≡ range_at (ranges_seen ranges) address
    seen-pass-here i d within before here =
        let none = mapped-all range_seen (λ (range : KnownRange). contains address range ≡ false) ranges 0 i (omega arith) before in
        ap Some (sym (at i d within))
        ∙ sym (pass-here (ranges_seen ranges) address i (range_seen d) (omega (arith, count)) (λ k e h. none k e (omega arith) h) (ap (contains address) (at i d within) ∙ sym here))

    pub seen-pass-end : (high : ℕ) → length ranges ≤ high → AllWithin (λ range. contains address (range_seen range) ≡ false) ranges 0 high → None ≡ range_at (ranges_seen ranges) address
    seen-pass-end high le before =
        let none = mapped-all range_seen (λ (range : KnownRange). contains address range ≡ false) ranges 0 (length ranges) (omega arith) (λ k e a b. before k e a (omega arith)) in
        sym (pass-end (ranges_seen ranges) address (λ k e h. none k e (omega arith) (omega (arith, count))))

    -- by halving
    module _ (up : IsIncreasing (ranges_seen ranges)) where
      pub seen-partitioned : IsPartitionedBy (λ range. nat_le range.address address) ranges
      seen-partitioned i j d le within low =
          let begins : KnownRange → Type 0 = λ range. nat_le range.address address ≡ true in
          subst begins (at i d (omega arith))
          (starts-in-order (ranges_seen ranges) up address i j (range_seen d) le (omega (arith, count)) (subst begins (sym (at j d within)) low))

      module _ (n : ℕ) (bound : n ≤ length ranges) where
        pub seen-partition : IsPartitionPoint (λ range. nat_le range.address address ≡ true) (λ range. nat_le range.address address ≡ false) ranges n
            → BeginAtOrBelow (ranges_seen ranges) address n
        seen-partition point =
            let above = mapped-all range_seen (λ (range : KnownRange). nat_le range.address address ≡ false) ranges n (length ranges) (omega arith) point.1 in
            (mapped-all range_seen (λ (range : KnownRange). nat_le range.address address ≡ true) ranges 0 n bound point.0, λ k e a b. above k e a (omega (arith, count)))

        module _ (point : BeginAtOrBelow (ranges_seen ranges) address n) where
          pub seen-none : n ≡ 0 → None ≡ range_at (ranges_seen ranges) address
          seen-none none = sym (halves-none (ranges_seen ranges) up address n (omega (arith, count)) point none)

          pub seen-here : 0 < n → (d : MemoryRange) → true ≡ contains address (range_seen (get_or ranges (n - 1) d)) → Some (range_seen (get_or ranges (n - 1) d)) ≡ range_at (ranges_seen ranges) address
          seen-here some d here =
              ap Some (sym (at (n - 1) d (omega arith)))
              ∙ sym (halves-here (ranges_seen ranges) up address n (omega (arith, count)) point some (range_seen d) (ap (contains address) (at (n - 1) d (omega arith)) ∙ sym here))

          pub seen-missed : 0 < n → (d : MemoryRange) → false ≡ contains address (range_seen (get_or ranges (n - 1) d)) → None ≡ range_at (ranges_seen ranges) address
          seen-missed some d not =
              sym (halves-missed (ranges_seen ranges) up address n (omega (arith, count)) point some (range_seen d) (ap (contains address) (at (n - 1) d (omega arith)) ∙ sym not))
