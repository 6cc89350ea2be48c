-- The bytes of an expression are those that its instruction has.
use Rattle.std.proofs.Common.{◌≡◌, ℕ, ◌+◌, ◌-◌, ◌≤◌, Bool, true, false, cond, length, take, drop, Result, Ok, Err, refl, ap, ◌∙◌, sym, arith}
use Rattle.std.specs.Prelude.{min, nat_lt}
use Rattle.std.proofs.lemmas.Bool.Decides.{nat_tests}
use Rattle.std.proofs.lemmas.List.{drop-drop, drop-take, length-drop, length-take, take-take}
use Rattle.dwarf_constants.specs.declared.error.Error.{Error}
use Rattle.dwarf_constants.specs.declared.error.Error.TheVariants.{UnsupportedOffset}
use Rattle.dwarf_readers.specs.InitialLength.{as_offset}
use Rattle.dwarf_endianity.specs.Offset.{offset_below}
use Rattle.dwarf_readers.specs.Leb128.{unsigned_at}
use Rattle.dwarf_readers.specs.Remainder.{IsRest}
use Rattle.dwarf_readers.specs.Stretch.{Stretch, ◌>>=◌, behind, behind_at, ends_at, prefix}
use Rattle.dwarf_readers.proofs.Laws.{unsigned_rest}
use Rattle.dwarf_frame_rows.specs.declared.expression.UnwindExpression.{UnwindExpression}
use Rattle.dwarf_frame_rows.specs.Expressions.{expression_in}
use Rattle.dwarf_frame_instructions.specs.ExpressionBytes.{HasItsBytes, IsPiece, ReadsItsBytes}
use Rattle.dwarf_frame_instructions.specs.Instructions.{Conventions}

-- ---- what an instruction names

-- what an instruction names after a length and what is left after that
record IsNamed (place n : ℕ) (after : Stretch) (expression : UnwindExpression ℕ) (rest : Stretch) : Type 0 where
  offset : expression.offset ≡ after.offset - place
  size : expression.length ≡ n
  left : rest ≡ behind n after
  enough : n ≤ length after.bytes

same_parts : (read : Result (UnwindExpression ℕ × Stretch) Error) (x y : UnwindExpression ℕ × Stretch) → read ≡ Ok x → read ≡ Ok y → x ≡ y
same_parts read x y is is-too = cc

-- an expression with what follows its bytes, at an offset, and after a length
abbrev expression_before : (offset n : ℕ) → Stretch → Result (UnwindExpression ℕ × Stretch) Error
expression_before offset n left = Ok (record { offset = offset; length = n }, left)

abbrev at_offset : (n : ℕ) → Stretch → (offset : ℕ) → Result (UnwindExpression ℕ × Stretch) Error
at_offset n after offset = behind_at n after >>= expression_before offset n

abbrev after_count : (limit place : ℕ) → ℕ × Stretch → Result (UnwindExpression ℕ × Stretch) Error
after_count limit place count = offset_below limit (count.1.offset - place) >>= at_offset count.0 count.1

module _ (limit place n : ℕ) (after rest : Stretch) (expression : UnwindExpression ℕ) where
  named-there : (short : Bool) → nat_lt (length after.bytes) n ≡ short
      → (cond short (Err (ends_at after.offset)) (Ok (behind n after)) >>= expression_before (after.offset - place) n) ≡ Ok (expression, rest)
      → IsNamed place n after expression rest
  named-there true test is = cc
  named-there false test is =
      let named : UnwindExpression ℕ = record { offset = after.offset - place; length = n } in
      let parts = same_parts (expression_before (after.offset - place) n (behind n after)) (named, behind n after) (expression, rest) refl is in
      record {
        offset = sym (ap (λ (x : UnwindExpression ℕ × Stretch). x.0.offset) parts);
        size = sym (ap (λ (x : UnwindExpression ℕ × Stretch). x.0.length) parts);
        left = sym (ap (λ (x : UnwindExpression ℕ × Stretch). x.1) parts);
        enough = grind (arith, nat_tests);
      }

  named-near : (near : Bool) → (cond near (Ok (after.offset - place)) (Err UnsupportedOffset) >>= at_offset n after) ≡ Ok (expression, rest) → IsNamed place n after expression rest
  named-near true is = named-there (nat_lt (length after.bytes) n) refl is
  named-near false is = cc

  named-small : (small : Bool) → ((cond small (Ok n) (Err UnsupportedOffset) >>= λ offset. Ok (offset, after)) >>= after_count limit place) ≡ Ok (expression, rest)
      → IsNamed place n after expression rest
  named-small true is = named-near (nat_lt (after.offset - place) limit) is
  named-small false is = cc

-- ---- what is there

-- what a piece of a section has behind some of its bytes is in the section behind as many more
module _ (section s after : Stretch) (piece : IsPiece section s) (tail : IsRest s after) where
  abbrev skipped : ℕ
  skipped = piece.skipped + tail.count

  piece-size : length s.bytes ≡ piece.count
  piece-size =
      let bytes : s.bytes ≡ take piece.count (drop piece.skipped section.bytes) = ap (λ (t : Stretch). t.bytes) piece.is in
      let inside : piece.skipped + piece.count ≤ length section.bytes = piece.inside in
      ap length bytes ∙ length-take piece.count (drop piece.skipped section.bytes)
      ∙ ap (λ n. min piece.count n) (length-drop piece.skipped section.bytes) ∙ omega arith

  count-left : tail.count ≤ piece.count
  count-left = let n = piece-size in let le : tail.count ≤ length s.bytes = tail.inside in omega arith

  bytes-after : after.bytes ≡ take (piece.count - tail.count) (drop skipped section.bytes)
  bytes-after =
      let n = count-left in
      let sum : tail.count + (piece.count - tail.count) ≡ piece.count = omega arith in
      ap (λ (t : Stretch). t.bytes) tail.is
      ∙ ap (λ (t : Stretch). drop tail.count t.bytes) piece.is
      ∙ ap (λ n. drop tail.count (take n (drop piece.skipped section.bytes))) (sym sum)
      ∙ drop-take tail.count (piece.count - tail.count) (drop piece.skipped section.bytes)
      ∙ ap (λ bytes. take (piece.count - tail.count) bytes) (drop-drop tail.count piece.skipped section.bytes)

  offset-after : after.offset ≡ section.offset + skipped
  offset-after =
      let first : after.offset ≡ s.offset + tail.count = ap (λ (t : Stretch). t.offset) tail.is in
      let second : s.offset ≡ section.offset + piece.skipped = ap (λ (t : Stretch). t.offset) piece.is in
      omega arith

  order-after : after.big ≡ section.big
  order-after = ap (λ (t : Stretch). t.big) tail.is ∙ ap (λ (t : Stretch). t.big) piece.is

  module _ (n : ℕ) (enough : n ≤ length after.bytes) where
    size-left : n ≤ piece.count - tail.count
    size-left =
        let size : length after.bytes ≡ min (piece.count - tail.count) (length (drop skipped section.bytes)) = ap length bytes-after ∙ length-take (piece.count - tail.count) (drop skipped section.bytes) in
        omega arith

    bytes-same : take n (drop skipped section.bytes) ≡ take n after.bytes
    bytes-same = sym (ap (λ bytes. take n bytes) bytes-after ∙ take-take n (piece.count - tail.count) (drop skipped section.bytes) size-left)

    same-stretch : prefix n (behind skipped section) ≡ prefix n after
    same-stretch =
        ap (λ bytes. record { bytes = bytes; offset = section.offset + skipped; big = section.big }) bytes-same
        ∙ ap (λ offset. record { bytes = take n after.bytes; offset = offset; big = section.big }) (sym offset-after)
        ∙ ap (λ big. record { bytes = take n after.bytes; offset = after.offset; big = big }) (sym order-after)

    found : expression_in section skipped n ≡ Ok (prefix n after)
    found =
        let inside : piece.skipped + piece.count ≤ length section.bytes = piece.inside in
        let left = count-left in
        let size = size-left in
        let rest : length (drop skipped section.bytes) ≡ length section.bytes - skipped = length-drop skipped section.bytes in
        let has-start : nat_lt (length section.bytes) skipped ≡ false = grind (arith, nat_tests) in
        let has-end : nat_lt (length (drop skipped section.bytes)) n ≡ false = grind (arith, nat_tests) in
        rw has-start (rw has-end (ap Ok same-stretch))

pub reads_its_bytes : (conventions : Conventions) (section s : Stretch) → IsPiece section s → conventions.origins.section_place ≡ section.offset → ReadsItsBytes conventions section s
reads_its_bytes conventions section s piece place expression rest is = by_length (unsigned_at s) refl is where
  by_length : (read : Result (ℕ × Stretch) Error) → unsigned_at s ≡ read → (read >>= λ n. as_offset conventions.limit n >>= after_count conventions.limit conventions.origins.section_place) ≡ Ok (expression, rest)
      → HasItsBytes section s expression rest
  by_length (Err e) reads named = cc
  by_length (Ok (n, after)) reads named =
      let tail : IsRest s after = unsigned_rest s after n reads in
      let names : IsNamed conventions.origins.section_place n after expression rest = named-small conventions.limit conventions.origins.section_place n after rest expression (nat_lt n conventions.limit) named in
      let starts : after.offset ≡ section.offset + (piece.skipped + tail.count) = offset-after section s after piece tail in
      let offset : expression.offset ≡ piece.skipped + tail.count = names.offset ∙ omega arith in
      let there = found section s after piece tail n names.enough in
      record {
        after = after;
        stated = rw names.size reads;
        bytes = rw names.size (rw offset there);
        left = rw names.size names.left;
      }
