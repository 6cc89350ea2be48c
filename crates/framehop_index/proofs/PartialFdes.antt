-- The FDE at an offset of a section, without its CIE, is read in that section.
use Rattle.std.proofs.Common.{◌≡◌, ℕ, Bool, true, false, cond, Option, Some, None, Result, Ok, Err, refl}
use Rattle.std.specs.Prelude.{IfOk, ◌==◌}
use Rattle.std.specs.Option.{ok_or}
use Rattle.dwarf_constants.specs.declared.common.Format.{Format}
use Rattle.dwarf_constants.specs.declared.error.Error.{Error}
use Rattle.dwarf_endianity.specs.Offset.{offset_below}
use Rattle.dwarf_readers.specs.InitialLength.{initial_length_at}
use Rattle.dwarf_readers.specs.Stretch.{Stretch, ◌>>=◌, behind_at, split_at}
use Rattle.dwarf_frame_rows.specs.FrameSection.{FrameSection}
use Rattle.dwarf_frame_entries.specs.declared.entries.Entry.TheVariants as which
use Rattle.dwarf_frame_entries.specs.Entries.{AnyEntry, Head, PartialFde, cie_at, entry_at, entry_within, id_at, offset_in, partial_among, partial_at, partial_fde_from_offset}

-- what holds of each value that a second read gives holds of what both give
then : {A B : Type 0} (read : Result A Error) (next : A → Result B Error) (P : B → Type 0) → ((x : A) → IfOk (next x) P) → IfOk (read >>= next) P
then (Ok x) next P each = each x
then (Err e) next P each = tt

-- what holds of both branches
either : {A : Type 0} (b : Bool) (read other : Result A Error) (P : A → Type 0) → IfOk read P → IfOk other P → IfOk (cond b read other) P
either true read other P h k = h
either false read other P h k = k

module _ (section : FrameSection) where
  -- an entry that is read in the section
  IsIn : Option AnyEntry → Type 0
  IsIn (Some (which.Fde partial)) = partial.within ≡ section.within
  IsIn (Some (which.Cie cie)) = Unit {0}
  IsIn None = Unit {0}

  partial-in : (head : Head) (place : ℕ) (id : ℕ × Stretch) → IfOk (partial_at section head place id) (λ partial. partial.within ≡ section.within)
  partial-in head place id =
      then (offset_below section.limit id.0) _ _ (λ pointer. then (ok_or (section.kind.cie_place place pointer) _) _ _ (λ cie_offset. refl))

  within-in : (head : Head) (format : Format) (s : Stretch) → IfOk (entry_within section head format s) (λ entry. IsIn (Some entry))
  unfolding IsIn
  within-in head format s =
      then (id_at (section.kind.id_width format) s) _ _ (λ id.
      either (section.kind.is_cie format id.0) _ _ _
      (then (cie_at section head format id.1) _ _ (λ cie. tt))
      (by (partial_at section head (offset_in section s) id) (partial-in head (offset_in section s) id)))
    where
      by : (read : Result PartialFde Error) → IfOk read (λ partial. partial.within ≡ section.within)
          → IfOk (read >>= (λ partial. Ok (which.Fde partial))) (λ entry. IsIn (Some entry))
      by (Ok partial) is = is
      by (Err e) is = tt

  entry-in : (s : Stretch) → IfOk (entry_at section s) (λ (read : Option AnyEntry × Stretch). IsIn read.0)
  unfolding IsIn
  entry-in s =
      then (initial_length_at section.limit s) _ _ (λ length.
      either (length.0.0 == 0) _ _ _ tt
      (then (split_at length.0.0 length.1) _ _ (λ parts.
      let head : Head = record { offset = offset_in section s; length = length.0.0 } in
      by parts.1 (entry_within section head length.0.1 parts.0) (within-in head length.0.1 parts.0))))
    where
      by : (rest : Stretch) (read : Result AnyEntry Error) → IfOk read (λ entry. IsIn (Some entry))
          → IfOk (read >>= (λ entry. Ok (Some entry, rest))) (λ (read : Option AnyEntry × Stretch). IsIn read.0)
      by rest (Ok entry) is = is
      by rest (Err e) is = tt

  among-in : (offset : ℕ) (item : Option AnyEntry) → IsIn item → IfOk (partial_among offset item) (λ partial. partial.within ≡ section.within)
  unfolding IsIn
  among-in offset None is = tt
  among-in offset (Some (which.Cie cie)) is = tt
  among-in offset (Some (which.Fde partial)) is = is

  offset-in : (offset : ℕ) → IfOk (partial_fde_from_offset section offset) (λ partial. partial.within ≡ section.within)
  offset-in offset =
      then (behind_at offset section.within.bytes) _ _ (λ rest. by (entry_at section rest) (entry-in rest))
    where
      by : (read : Result (Option AnyEntry × Stretch) Error) → IfOk read (λ (read : Option AnyEntry × Stretch). IsIn read.0)
          → IfOk (read >>= (λ entry. partial_among offset entry.0)) (λ partial. partial.within ≡ section.within)
      by (Ok read) is = among-in offset read.0 is
      by (Err e) is = tt

  -- the FDE that is read is read in the section
  pub read-in : (offset : ℕ) (partial : PartialFde) → partial_fde_from_offset section offset ≡ Ok partial → partial.within ≡ section.within
  read-in offset partial is = let h = offset-in offset in rw is at h
