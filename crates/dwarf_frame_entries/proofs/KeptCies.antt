-- CIEs that are kept without the bytes of their section, and read again over these.
use Rattle.std.proofs.Common.{◌≡◌, ℕ, ◌-◌, Bool, true, false, cond, length, Result, Ok, Err, sym, ap, subst, ◌∙◌}
use Rattle.std.specs.Prelude.{nat_lt}
use Rattle.dwarf_constants.specs.declared.error.Error.{Error}
use Rattle.dwarf_constants.specs.declared.error.Error.TheVariants.{UnsupportedOffset}
use Rattle.dwarf_endianity.specs.Answers.{Gives}
use Rattle.dwarf_endianity.specs.Offset.{offset_below}
use Rattle.dwarf_readers.specs.Stretch.{Stretch, ◌>>=◌, behind, behind_at, ends_at, prefix, split_at}
use Rattle.dwarf_frame_rows.specs.FrameSection.{FrameSection}
use Rattle.dwarf_frame_rows.specs.SectionKind.{FrameSectionKind}
use Rattle.dwarf_frame_entries.specs.Entries.{Cie, Fde, PartialFde, cie_from_offset, fde_of, fde_with}
use Rattle.dwarf_frame_entries.specs.KeptCies.{IsKeptAt, cie_kept}
use Rattle.dwarf_frame_entries.specs.SectionWithin.{section_within}
use Rattle.dwarf_frame_entries.specs.declared.kept_cie.KeptCie.{KeptCie}
use Rattle.dwarf_frame_entries.proofs.CieBytes.{instructions-there}

-- ---- what reads give that don't fail

given : {A : Type 0} (test : Bool) (e : Error) (x y : A) → cond test (Err e) (Ok x) ≡ Ok y → y ≡ x
given true e x y is = absurd (cc)
given false e x y is = cc

pub offset-same : (limit n x : ℕ) → offset_below limit n ≡ Ok x → x ≡ n
offset-same limit n x = by (nat_lt n limit)
  where
    by : (test : Bool) → cond test (Ok n) (Err UnsupportedOffset) ≡ Ok x → x ≡ n
    by true is = cc
    by false is = absurd (cc)

pub rest-same : (n : ℕ) (s rest : Stretch) → behind_at n s ≡ Ok rest → rest ≡ behind n s
rest-same n s rest is = given (nat_lt (length s.bytes) n) (ends_at s.offset) (behind n s) rest is

pub part-same : (n : ℕ) (s part rest : Stretch) → split_at n s ≡ Ok (part, rest) → part ≡ prefix n s
part-same n s part rest is = ap (λ (x : Stretch × Stretch). x.0) (given (nat_lt (length s.bytes) n) (ends_at s.offset) (prefix n s, behind n s) (part, rest) is)

-- ---- what is kept

-- it is kept of a CIE, if its fields are those of the CIE, and its instructions are where the CIE's are
pub kept-there : (section : FrameSection) (offset : ℕ) (cie : Cie) (kept : KeptCie) → cie_from_offset section offset ≡ Ok cie
    → cie_kept section.within.bytes kept ≡ record cie { instructions = prefix kept.count (behind kept.skipped section.within.bytes) }
    → kept.skipped ≡ cie.instructions.offset - section.within.bytes.offset → kept.count ≡ length cie.instructions.bytes → IsKeptAt section offset kept
kept-there section offset cie kept at fields skipped count =
    let bytes : Stretch = section.within.bytes in
    let there : cie.instructions ≡ prefix kept.count (behind kept.skipped bytes)
    = instructions-there section offset cie at ∙ ap (λ (n : ℕ). prefix n (behind (cie.instructions.offset - bytes.offset) bytes)) (sym count) ∙ ap (λ (n : ℕ). prefix kept.count (behind n bytes)) (sym skipped) in
    at ∙ ap Ok (ap (λ (s : Stretch). record cie { instructions = s }) there ∙ sym fields)

-- ---- an FDE by it

-- it is read as by the CIE at its offset
pub fde-by-kept : (limit : ℕ) (kind : FrameSectionKind) (partial : PartialFde) (kept : KeptCie) (cie : Cie) (bytes : Stretch) (result : Result Fde Error)
    → IsKeptAt (section_within limit kind partial.within) partial.cie_offset kept → bytes ≡ partial.within.bytes → cie ≡ cie_kept bytes kept
    → Gives (λ fde. fde) result (fde_with limit partial cie) → Gives (λ fde. fde) result (fde_of limit kind partial)
fde-by-kept limit kind partial kept cie bytes result named same is =
    let read : fde_of limit kind partial ≡ fde_with limit partial (cie_kept partial.within.bytes kept) = ap (λ (read : Result Cie Error). read >>= fde_with limit partial) named in
    let all : fde_with limit partial cie ≡ fde_of limit kind partial
    = ap (fde_with limit partial) (is ∙ ap (λ (s : Stretch). cie_kept s kept) same) ∙ sym read in
    subst (Gives (λ fde. fde) result) all
