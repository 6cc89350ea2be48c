-- What is kept by offsets, before a value and after one more.
use Rattle.std.proofs.Common.{◌≡◌, ℕ, Option, Some, None, Result, Ok, Err, cond, ap, sym, subst, ◌∙◌, arith}
use Rattle.std.specs.Prelude.{OnErr, OnOk}
use Rattle.std.specs.BTreeMap.{BTreeMap, IsEmpty, IsUnchanged, Updates, get, is_at}
use Rattle.std.specs.Map.{lookup}
use Rattle.std.specs.Ordering.{nat_cmp}
use Rattle.std.proofs.lemmas.Bool.Decides.{nat_tests}
use Rattle.list_laws.proofs.Laws.{by_case}
use Rattle.dwarf_frame_entries.specs.Kept.{EachKept}

module _ {V : Type 0} (P : ℕ → V → Type 0) where
  -- nothing is kept yet
  pub none-kept : (kept : BTreeMap ℕ V) → IsEmpty kept → EachKept P kept
  none-kept kept empty offset value is =
      let none : get nat_cmp kept offset ≡ None = ap (lookup (is_at (nat_cmp offset))) empty in cc

  module _ (kept after : BTreeMap ℕ V) (each : EachKept P kept) where
    -- a value more is kept
    one-more : (offset : ℕ) (value : V) → P offset value → Updates nat_cmp kept after offset (Some value) → EachKept P after
    one-more offset value has updates other found is =
        by_case (is_at (nat_cmp offset) other)
        (λ here.
        let same : offset ≡ other = grind (arith, nat_tests) in
        let whole : get nat_cmp after other ≡ Some value = updates.0 other ∙ ap (λ b. cond b (Some value) (get nat_cmp kept other)) here in
        let it : value ≡ found = cc in
        subst (λ (n : ℕ). P n found) same (subst (P offset) it has))
        (λ apart. each other found (sym (updates.0 other ∙ ap (λ b. cond b (Some value) (get nat_cmp kept other)) apart) ∙ is))

    -- .. or isn't
    no-more : IsUnchanged kept after → EachKept P after
    no-more same offset value is = each offset value (sym (ap (lookup (is_at (nat_cmp offset))) same) ∙ is)

    -- by what an insertion said
    pub after-insert : {X F : Type 0} (result : Result X F) (offset : ℕ) (value : V) → P offset value
        → OnOk result (Updates nat_cmp kept after offset (Some value)) → OnErr result (IsUnchanged kept after) → EachKept P after
    after-insert (Ok old) offset value has updates unchanged = one-more offset value has updates
    after-insert (Err e) offset value has updates unchanged = no-more unchanged
