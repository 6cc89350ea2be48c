-- What is known of the own instructions of CIEs, kept by their offsets.
use Rattle.std.proofs.Common.{◌≡◌, ℕ, Some, None, Result, Ok, Err, cond, ap, sym, subst, ◌∙◌, arith}
use Rattle.std.specs.Prelude.{IsTrue, OnErr, OnOk}
use Rattle.std.specs.BTreeMap.{BTreeMap, IsEmpty, IsUnchanged, Updates, get, is_at}
use Rattle.std.specs.Map.{lookup}
use Rattle.std.specs.Ordering.{nat_cmp}
use Rattle.std.proofs.lemmas.Bool.Decides.{nat_tests}
use Rattle.list_laws.proofs.Laws.{by_case}
use Rattle.dwarf_constants.specs.declared.common.Vendor.{Vendor}
use Rattle.dwarf_constants.specs.declared.error.Error.{Error}
use Rattle.dwarf_frame_rows.specs.Effects.{Limits}
use Rattle.dwarf_frame_rows.specs.FrameSection.{FrameSection}
use Rattle.dwarf_frame_instructions.specs.Programs.{EntryProgram, effects_of_cie}
use Rattle.dwarf_frame_entries.specs.Entries.{Cie, Fde, cie_from_offset}
use Rattle.dwarf_frame_entries.specs.EntryPrograms.{fde_program}
use Rattle.dwarf_frame_entries.specs.Kept.{EachKept}
use Rattle.dwarf_frame_parts.specs.declared.left.LeftByCie.{LeftByCie}
use Rattle.dwarf_frame_parts.specs.declared.simple_row.Columns.{Columns}
use Rattle.dwarf_frame_parts.specs.PartsStates.{HasRoomForParts}
use Rattle.dwarf_cie_rows.specs.OwnRows.{AreLeftIn, HoldsBy, IsOwn, IsOwnAt, IsOwnOf}
use Rattle.dwarf_cie_rows.specs.declared.own_rows.KnownRows.{KnownRows}
use Rattle.dwarf_cie_rows.specs.declared.own_rows.OwnRow.{OwnRow}
use Rattle.dwarf_cie_rows.specs.declared.own_rows.OwnRow.TheVariants.{Left, Fails}

module _ (columns : Columns) (limits : Limits) (section : FrameSection) (vendor : Vendor) where
  -- what is known of an FDE's CIE is known of the one at its offset
  pub own-at : (fde : Fde) (offset : ℕ) (own : OwnRow) → offset ≡ fde.cie.head.offset → cie_from_offset section fde.cie.head.offset ≡ Ok fde.cie → IsOwnOf columns limits section vendor fde own
      → IsOwnAt columns limits section vendor offset own
  own-at fde offset own here there is cie at =
      let same : fde.cie ≡ cie = let it = ap (cie_from_offset section) (sym here) ∙ at in cc in
      subst (λ (c : Cie). IsOwn columns limits section vendor c own) same is

  -- and the other way round
  pub own-there : (fde : Fde) (offset : ℕ) (own : OwnRow) → offset ≡ fde.cie.head.offset → cie_from_offset section fde.cie.head.offset ≡ Ok fde.cie → IsOwnAt columns limits section vendor offset own
      → IsOwnOf columns limits section vendor fde own
  own-there fde offset own here there is = is fde.cie (ap (cie_from_offset section) here ∙ there)

  -- what was executed of an FDE's program
  pub own-left : (program : EntryProgram ℕ) (fde : Fde) (left : LeftByCie) → program ≡ fde_program section vendor fde → HasRoomForParts limits → AreLeftIn columns program left
      → IsOwnOf columns limits section vendor fde (Left left)
  own-left program fde left is room are = (room, subst (λ (p : EntryProgram ℕ). AreLeftIn columns p left) is are)

  pub own-fails : (program : EntryProgram ℕ) (fde : Fde) (e : Error) → program ≡ fde_program section vendor fde → effects_of_cie limits program ≡ Err e
      → IsOwnOf columns limits section vendor fde Fails
  own-fails program fde e is fails = (e, ap (effects_of_cie limits) (sym is) ∙ fails)

  -- nothing is known yet
  pub none-known : (known : KnownRows) → (IsTrue known.has_room → HasRoomForParts limits) → known.last ≡ None → IsEmpty known.all → HoldsBy columns limits section vendor known
  none-known known room last empty = record {
    room = room;
    last = rw last tt;
    all = λ offset value is. let none : get nat_cmp known.all offset ≡ None = ap (lookup (is_at (nat_cmp offset))) empty in cc;
  }

  module _ (kept after : BTreeMap ℕ OwnRow) (each : EachKept (IsOwnAt columns limits section vendor) kept) where
    -- one more is kept
    one-more : (offset : ℕ) (own : OwnRow) → IsOwnAt columns limits section vendor offset own → Updates nat_cmp kept after offset (Some own) → EachKept (IsOwnAt columns limits section vendor) after
    one-more offset own has updates other found is =
        by_case (is_at (nat_cmp offset) other)
        (λ here.
        let same : offset ≡ other = grind (arith, nat_tests) in
        let whole : get nat_cmp after other ≡ Some own = updates.0 other ∙ ap (λ b. cond b (Some own) (get nat_cmp kept other)) here in
        let it : own ≡ found = cc in
        subst (λ (n : ℕ). IsOwnAt columns limits section vendor n found) same (subst (IsOwnAt columns limits section vendor offset) it has))
        (λ apart. each other found (sym (updates.0 other ∙ ap (λ b. cond b (Some own) (get nat_cmp kept other)) apart) ∙ is))

    -- .. or isn't, by what an insertion said
    pub after-insert : {X F : Type 0} (result : Result X F) (offset : ℕ) (own : OwnRow) → IsOwnAt columns limits section vendor offset own
        → OnOk result (Updates nat_cmp kept after offset (Some own)) → OnErr result (IsUnchanged kept after) → EachKept (IsOwnAt columns limits section vendor) after
    after-insert (Ok old) offset own has updates unchanged = one-more offset own has updates
    after-insert (Err e) offset own has updates unchanged = λ other found is. each other found (sym (ap (lookup (is_at (nat_cmp other))) unchanged) ∙ is)
