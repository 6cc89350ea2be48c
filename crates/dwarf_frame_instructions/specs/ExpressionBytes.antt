-- The bytes of the expression that an instruction names (DWARF 5, 6.4.2.2 and 6.4.2.3; as a value 7.5.5, exprloc).
use Rattle.std.specs.Prelude.{ℕ, ◌≡◌, ◌+◌, ◌≤◌, length, Ok}
use Rattle.dwarf_readers.specs.Leb128.{unsigned_at}
use Rattle.dwarf_readers.specs.Stretch.{Stretch, behind, prefix}
use Rattle.dwarf_frame_rows.specs.declared.expression.UnwindExpression.{UnwindExpression}
use Rattle.dwarf_frame_rows.specs.Expressions.{expression_in}
use Rattle.dwarf_frame_instructions.specs.Instructions.{Conventions, expression_at}

-- A stretch is a piece of a section: as many bytes as count says, after as many as skipped says.
pub record IsPiece (section s : Stretch) : Type 0 where
  pub skipped : ℕ
  pub count : ℕ
  pub inside : skipped + count ≤ length section.bytes
  pub is : s ≡ prefix count (behind skipped section)

-- An expression has its length before it; its offset and length give exactly the bytes after that; and what follows them is left.
pub record HasItsBytes (section s : Stretch) (expression : UnwindExpression ℕ) (rest : Stretch) : Type 0 where
  pub after : Stretch
  pub stated : unsigned_at s ≡ Ok (expression.length, after)
  pub bytes : expression_in section expression.offset expression.length ≡ Ok (prefix expression.length after)
  pub left : rest ≡ behind expression.length after

-- An expression that is read at the start of a stretch has its bytes.
abbrev pub ReadsItsBytes : Conventions → (section s : Stretch) → Type 0
ReadsItsBytes conventions section s =
    (expression : UnwindExpression ℕ) (rest : Stretch) → expression_at conventions s ≡ Ok (expression, rest) → HasItsBytes section s expression rest

-- An expression that is read at the start of a piece of a section, by conventions of that section, has its bytes.
abbrev pub PieceReadsItsBytes : Conventions → (section s : Stretch) → Type 0
PieceReadsItsBytes conventions section s =
    IsPiece section s → conventions.origins.section_place ≡ section.offset → ReadsItsBytes conventions section s
