-- The CIEs of a section, kept as the pass over its entries comes to them.
use Rattle.std.proofs.Common.{◌≡◌, ℕ, ◌<◌, ◌≤◌, min, List, [], ◌∷◌, ◌++◌, length, map, take, true, cond, Some, Result, Ok, sym, ap, ◌∙◌, subst, arith}
use Rattle.std.specs.Prelude.{◌==◌}
use Rattle.std.specs.List.{All, filter_map}
use Rattle.std.proofs.lemmas.Bool.Decides.{nat_tests}
use Rattle.std.proofs.lemmas.List.{append-nil, append_assoc, length-append, length-map, length-take, map-append, take-append-le, take_all}
use Rattle.std.proofs.lemmas.List.Elements.{All-head, All-push, All-tail}
use Rattle.dwarf_constants.specs.declared.error.Error.{Error}
use Rattle.dwarf_frame_rows.specs.FrameSection.{FrameSection}
use Rattle.list_laws.proofs.Laws.{by_case}
use Rattle.dwarf_frame_entries.specs.Entries.{AnyEntry, Cie, PartialFde, cie_from_offset}
use Rattle.dwarf_frame_entries.specs.EntryLists.{entries_of}
use Rattle.dwarf_frame_entries.specs.KeptCies.{IsKeptAt, cie_kept}
use Rattle.dwarf_frame_entries.specs.SectionFdes.{StandsThere}
use Rattle.dwarf_frame_entries.specs.declared.entries.Entry.TheVariants as which
use Rattle.dwarf_frame_entries.specs.declared.kept_cie.KeptCie.{KeptCie}
use Rattle.framehop_index.specs.FirstCies.{cie_offset_in, cie_offsets, most_kept}
use Rattle.framehop_index.specs.KeptCies.{AreFirstKept, AreKeptOf, IsKeptIn, kept_at}
use Rattle.framehop_index.specs.declared.kept_cies.KeptCies.{KeptCies}

-- so many are kept
pub count-kept : (section : FrameSection) (kept : KeptCies) → AreKeptOf section kept → length kept.cies.items ≡ min most_kept (length (cie_offsets section))
count-kept section kept are =
    sym (length-map kept.cies.items (λ (cie : KeptCie). cie.head.offset)) ∙ ap length are.first ∙ length-take most_kept (cie_offsets section)

-- ---- one more

-- after as many as are kept at most no more are
full : (offset : ℕ) (offsets : List ℕ) (cies : List KeptCie) → map (λ cie. cie.head.offset) cies ≡ take most_kept offsets → most_kept ≤ length cies → take most_kept (offsets ++ offset ∷ []) ≡ take most_kept offsets
full offset offsets cies first many =
    let counted : length cies ≡ length (take most_kept offsets) = sym (length-map cies (λ (cie : KeptCie). cie.head.offset)) ∙ ap length first in
    take-append-le most_kept offsets (offset ∷ []) (omega (arith, length-take most_kept offsets))

-- before that all are
room : (offset : ℕ) (offsets : List ℕ) (cies : List KeptCie) → map (λ cie. cie.head.offset) cies ≡ take most_kept offsets → length cies < most_kept
    → take most_kept (offsets ++ offset ∷ []) ≡ take most_kept offsets ++ offset ∷ []
room offset offsets cies first few =
    let counted : length cies ≡ length (take most_kept offsets) = sym (length-map cies (λ (cie : KeptCie). cie.head.offset)) ∙ ap length first in
    let short : length offsets < most_kept = omega (arith, length-take most_kept offsets) in
    take_all most_kept (offsets ++ offset ∷ []) (omega (arith, length-append offsets (offset ∷ [])))
    ∙ ap (λ (xs : List ℕ). xs ++ offset ∷ []) (sym (take_all most_kept offsets (omega arith)))

module _ (section : FrameSection) where
  -- no more is kept, if as many are as can be
  pub stays-full : (offset : ℕ) (offsets : List ℕ) (kept : KeptCies) → most_kept ≤ length kept.cies.items → AreFirstKept section offsets kept → AreFirstKept section (offsets ++ offset ∷ []) kept
  stays-full offset offsets kept many are = record {
    own = are.own;
    first = are.first ∙ sym (full offset offsets kept.cies.items are.first many);
  }

  -- what is kept of a CIE that stands at its own offset is kept of what is there
  own_offset : (cie : Cie) (kept : KeptCie) → cie_from_offset section cie.head.offset ≡ Ok cie → IsKeptAt section cie.head.offset kept → (kept.head.offset ≡ cie.head.offset) × IsKeptIn section kept
  own_offset cie kept at is =
      let same : cie ≡ cie_kept section.within.bytes kept = cc in
      let offset : cie.head.offset ≡ kept.head.offset = ap (λ (c : Cie). c.head.offset) same in
      (sym offset, subst (λ (n : ℕ). IsKeptAt section n kept) offset is)

  -- one more is kept, if fewer are
  pub keeps-next : (cie : Cie) (offsets : List ℕ) (old new : KeptCies) (kept : KeptCie) → length old.cies.items < most_kept → new.cies.items ≡ old.cies.items ++ kept ∷ [] → cie_from_offset section cie.head.offset ≡ Ok cie
      → IsKeptAt section cie.head.offset kept → AreFirstKept section offsets old → AreFirstKept section (offsets ++ cie.head.offset ∷ []) new
  keeps-next cie offsets old new kept few pushed at is are =
      let (offset, here) = own_offset cie kept at is in
      record {
        own = subst (All (IsKeptIn section)) (sym pushed) (All-push (IsKeptIn section) old.cies.items kept are.own here);
        first = ap (map (λ (cie : KeptCie). cie.head.offset)) pushed ∙ map-append (λ (cie : KeptCie). cie.head.offset) old.cies.items (kept ∷ [])
            ∙ ap (λ (n : ℕ). map (λ (cie : KeptCie). cie.head.offset) old.cies.items ++ n ∷ []) offset
            ∙ ap (λ (xs : List ℕ). xs ++ cie.head.offset ∷ []) are.first
            ∙ sym (room cie.head.offset offsets old.cies.items are.first few);
      }

  -- ---- what is at an offset

  -- what is kept of the CIE at an offset is kept of what is there
  pub found-at : (offset : ℕ) (cies : List KeptCie) (kept : KeptCie) → kept_at offset cies ≡ Some kept → All (IsKeptIn section) cies → IsKeptAt section offset kept
  found-at offset [] kept is are = absurd cc
  found-at offset (first ∷ others) kept is are =
      by_case (first.head.offset == offset)
      (λ same.
      let here : first ≡ kept = let found : cond (first.head.offset == offset) (Some first) (kept_at offset others) ≡ Some kept = is in let one : cond true (Some first) (kept_at offset others) ≡ Some kept = rw same at found in cc in
      let place : first.head.offset ≡ offset = grind (arith, nat_tests) in
      subst (λ (n : ℕ). IsKeptAt section n kept) place (subst (λ (k : KeptCie). IsKeptAt section first.head.offset k) here (All-head (IsKeptIn section) first others are)))
      (λ differs.
      let rest : kept_at offset others ≡ Some kept = let found : cond (first.head.offset == offset) (Some first) (kept_at offset others) ≡ Some kept = is in rw differs at found in
      found-at offset others kept rest (All-tail (IsKeptIn section) first others are))

  -- ---- the pass over the entries

  -- the first of the entries that are left stands at its offset
  pub first_there : (all left : List (Result AnyEntry Error)) (item : Result AnyEntry Error) → all ≡ item ∷ left → All (StandsThere section) all → StandsThere section item
  first_there all left item is there = All-head (StandsThere section) item left (subst (All (StandsThere section)) is there)

  -- and so do the others
  pub others_there : (all left : List (Result AnyEntry Error)) (item : Result AnyEntry Error) → all ≡ item ∷ left → All (StandsThere section) all → All (StandsThere section) left
  others_there all left item is there = All-tail (StandsThere section) item left (subst (All (StandsThere section)) is there)

  -- of the CIEs before those that are left the first are kept
  pub record AreKeptBefore (left : List (Result AnyEntry Error)) (kept : KeptCies) : Type 0 where
    pub seen : List ℕ
    pub are : AreFirstKept section seen kept
    pub others : seen ++ filter_map cie_offset_in left ≡ cie_offsets section

  -- none is before the first entry
  pub none-before : (left : List (Result AnyEntry Error)) (kept : KeptCies) → left ≡ entries_of section → AreFirstKept section [] kept → AreKeptBefore left kept
  none-before left kept is none = record { seen = []; are = none; others = ap (filter_map cie_offset_in) is }

  -- a CIE is kept
  pub cie-before : (all left : List (Result AnyEntry Error)) (cie : Cie) (old new : KeptCies) → all ≡ Ok (which.Cie cie) ∷ left
      → ((offsets : List ℕ) → AreFirstKept section offsets old → AreFirstKept section (offsets ++ cie.head.offset ∷ []) new) → AreKeptBefore all old → AreKeptBefore left new
  cie-before all left cie old new is keeps before = record {
    seen = before.seen ++ cie.head.offset ∷ [];
    are = keeps before.seen before.are;
    others = append_assoc before.seen (cie.head.offset ∷ []) (filter_map cie_offset_in left)
        ∙ sym (ap (λ (items : List (Result AnyEntry Error)). before.seen ++ filter_map cie_offset_in items) is) ∙ before.others;
  }

  -- an FDE is passed
  pub fde-before : (all left : List (Result AnyEntry Error)) (partial : PartialFde) (kept : KeptCies) → all ≡ Ok (which.Fde partial) ∷ left → AreKeptBefore all kept → AreKeptBefore left kept
  fde-before all left partial kept is before = record {
    seen = before.seen;
    are = before.are;
    others = sym (ap (λ (items : List (Result AnyEntry Error)). before.seen ++ filter_map cie_offset_in items) is) ∙ before.others;
  }

  -- the first of all are kept
  pub all-before : (left : List (Result AnyEntry Error)) (kept : KeptCies) → left ≡ [] → AreKeptBefore left kept → AreKeptOf section kept
  all-before left kept none before =
      let all : before.seen ≡ cie_offsets section = sym (append-nil before.seen) ∙ sym (ap (λ (items : List (Result AnyEntry Error)). before.seen ++ filter_map cie_offset_in items) none) ∙ before.others in
      subst (λ (offsets : List ℕ). AreFirstKept section offsets kept) all before.are
