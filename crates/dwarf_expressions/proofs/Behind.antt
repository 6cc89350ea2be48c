-- Reads of operations leave what follows an offset in the stretch that they read.
use Rattle.std.proofs.Common.{subst, ◌≡◌, ℕ, ◌+◌, ◌-◌, ◌≤◌, List, [], ◌∷◌, length, take, drop, Bool, Option, Some, None, Result, Ok, Err, add_assoc, add-zero, refl, sym, ap, ◌∙◌, arith, length-drop}
use Rattle.std.specs.Prelude.{◌==◌, nat_lt, slice_index, if◌then◌else◌, option_map}
use Rattle.std.specs.Int.{Width, w8, w16, w32, w64, byte_len, cast_signed}
use Rattle.std.proofs.lemmas.List.{drop-drop, length-take}
use Rattle.list_laws.proofs.Laws.{by_case}
use Rattle.dwarf_constants.specs.declared.constants.DwOp.{DwOp}
use Rattle.dwarf_constants.specs.declared.constants.TheConstants.{DW_OP_lit0, DW_OP_lit31, DW_OP_breg0, DW_OP_breg31}
use Rattle.dwarf_constants.specs.declared.error.Error.{Error}
use Rattle.dwarf_constants.specs.declared.error.Error.TheVariants.{BadSignedLeb128, BadUnsignedLeb128, UnsupportedAddressSize, UnsupportedEvaluation}
use Rattle.dwarf_endianity.specs.ByteOrder.{number_of}
use Rattle.dwarf_readers.specs.InitialLength.{address_at, is_size}
use Rattle.dwarf_readers.specs.Leb128.{leb128_within, signed_at, signed_in_range, string_of, unsigned_16_at, unsigned_at, unsigned_below, value_behind}
use Rattle.dwarf_readers.specs.Operands.{Parse, look_up, one}
use Rattle.dwarf_readers.specs.Stretch.{Stretch, ◌>>=◌, behind, byte_at, ends_at, number_at, signed_byte_at, signed_number_at}
use Rattle.dwarf_operations.specs.declared.op.Operation.{Operation}
use Rattle.dwarf_operations.specs.declared.op.Operation.TheVariants.{Address, UnsignedConstant, SignedConstant, Pick, PlusConstant, Bra, Skip, RegisterOffset}
use Rattle.dwarf_expressions.specs.EvaluationViews.{IsRestAt}
use Rattle.dwarf_operations.specs.Operations.{offset_of, register_and_offset, with_operands, without_operands, listed_operation, is_between, operation_by, operation_at, opcode_number}

-- rest begins at an offset in s
pub record IsBehind (s rest : Stretch) : Type 0 where
  pub count : ℕ
  pub is : rest ≡ behind count s
  pub within : count ≤ length s.bytes

-- what a read leaves does
pub record StaysIn {A : Type 0} (s : Stretch) (read : Result (A × Stretch) Error) : Type 0 where
  pub left : (x : A) (rest : Stretch) → read ≡ Ok (x, rest) → IsBehind s rest

same_stretch : (bytes others : List ℕ) (offset other : ℕ) (big : Bool) → bytes ≡ others → offset ≡ other
    → let s : Stretch = record { bytes = bytes; offset = offset; big = big } in s ≡ record { bytes = others; offset = other; big = big }
same_stretch bytes others offset other big e f =
    ap (λ (x : List ℕ). let s : Stretch = record { bytes = x; offset = offset; big = big } in s) e ∙ ap (λ (y : ℕ). let s : Stretch = record { bytes = others; offset = y; big = big } in s) f

here : (s : Stretch) → IsBehind s s
here s = record { count = 0; is = same_stretch s.bytes (drop 0 s.bytes) s.offset (s.offset + 0) s.big refl (sym (add-zero s.offset)); within = omega arith }

further : (s t rest : Stretch) → IsBehind s t → IsBehind t rest → IsBehind s rest
further s t rest a b =
    let len : length t.bytes ≡ length s.bytes - a.count = ap (λ (r : Stretch). length r.bytes) a.is ∙ length-drop a.count s.bytes in
    record {
      count = a.count + b.count;
      is =
          b.is
          ∙ ap (behind b.count) a.is
          ∙ same_stretch (drop b.count (drop a.count s.bytes)) (drop (a.count + b.count) s.bytes) (s.offset + a.count + b.count) (s.offset + (a.count + b.count)) s.big
          (drop-drop b.count a.count s.bytes) (add_assoc s.offset a.count b.count);
      within = (let h = b.within in let k = a.within in omega arith);
    }

err_stays : (A : Type 0) (s : Stretch) (e : Error) → StaysIn {A = A} s (Err e)
err_stays A s e = record { left = λ x rest is. cc }

ok_stays : {A : Type 0} (s rest : Stretch) (x : A) → IsBehind s rest → StaysIn s (Ok (x, rest))
ok_stays {A} s rest x h = record { left = λ y other is. let pair : (x, rest) ≡ (y, other) = cc in let e : rest ≡ other = ap (λ (p : A × Stretch). p.1) pair in let P : Stretch → Type 0 = λ r. IsBehind s r in subst P e h }

then_stays : {A B : Type 0} (s : Stretch) (read : Result (A × Stretch) Error) (next : A × Stretch → Result (B × Stretch) Error) → StaysIn s read
    → ((x : A) (rest : Stretch) → StaysIn rest (next (x, rest))) → StaysIn s (read >>= next)
then_stays s (Ok (x, rest)) next h g = let first = h.left x rest refl in record { left = λ y last is. further s rest last first ((g x rest).left y last is) }
then_stays s (Err e) next h g = record { left = λ y last is. cc }

-- ---- reads

fixed_stays : {A : Type 0} (n : ℕ) (s : Stretch) (e : Error) (x : A) → StaysIn s (if nat_lt (length s.bytes) n then Err e else Ok (x, behind n s))
fixed_stays {A} n s e x =
    by_case (nat_lt (length s.bytes) n)
    (λ is. rw is (err_stays A s e))
    (λ is. let le : n ≤ length s.bytes = grind arith in rw is (ok_stays s (behind n s) x (record { count = n; is = refl; within = le })))

string_length : (bytes string : List ℕ) → string_of bytes ≡ Some string → length string ≤ length bytes
string_length [] string is = cc
string_length (b ∷ bs) string is =
    by_case (nat_lt b 128)
    (λ low. let e : Some (b ∷ []) ≡ Some string = rw low at is in let f : b ∷ [] ≡ string = cc in let P : List ℕ → Type 0 = λ x. length x ≤ length (b ∷ bs) in subst P f (omega arith))
    (λ high. longer (λ rest e. string_length bs rest e) (string_of bs) refl (rw high at is))
  where
    longer : ((rest : List ℕ) → string_of bs ≡ Some rest → length rest ≤ length bs) → (o : Option (List ℕ)) → string_of bs ≡ o → option_map (λ rest. b ∷ rest) o ≡ Some string → length string ≤ length (b ∷ bs)
    longer le None e f = cc
    longer le (Some rest) e f = let short = le rest e in let same : b ∷ rest ≡ string = cc in let P : List ℕ → Type 0 = λ x. length x ≤ length (b ∷ bs) in subst P same (omega arith)

leb128_stays : {A : Type 0} (n : ℕ) (bad : Error) (fitting : List ℕ → Option A) (s : Stretch) → StaysIn s (leb128_within n bad fitting s (string_of (take n s.bytes)))
leb128_stays {A} n bad fitting s = by (string_of (take n s.bytes)) refl
  where
    value : (string : List ℕ) → length string ≤ length s.bytes → (o : Option A) → StaysIn s (value_behind bad string s o)
    value string le (Some x) = ok_stays s (behind (length string) s) x (record { count = length string; is = refl; within = le })
    value string le None = err_stays A s bad

    by : (o : Option (List ℕ)) → string_of (take n s.bytes) ≡ o → StaysIn s (leb128_within n bad fitting s o)
    by (Some string) is = let le = string_length (take n s.bytes) string is in value string (omega (arith, length-take n s.bytes)) (fitting string)
    by None is =
        by_case (nat_lt (length s.bytes) n)
        (λ short. rw short (err_stays A s (ends_at (s.offset + length s.bytes))))
        (λ long. rw long (err_stays A s bad))

-- ---- operands

-- operands leave a part of the stretch
pub record AreWithin (operands : Parse Operation) : Type 0 where
  pub stays : (s : Stretch) → StaysIn s (operands s)

one_within : {A : Type 0} (operand : Parse A) (operation : A → Operation) → ((s : Stretch) → StaysIn s (operand s)) → AreWithin (one operand operation)
one_within operand operation stays =
    record { stays = λ s. then_stays s (operand s) (λ value. Ok (operation value.0, value.1)) (stays s) (λ x rest. ok_stays rest rest (operation x) (here rest)) }

signed_stays : (s : Stretch) → StaysIn s (signed_at s)
signed_stays s = leb128_stays 10 BadSignedLeb128 signed_in_range s

unsigned_stays : (s : Stretch) → StaysIn s (unsigned_at s)
unsigned_stays s = leb128_stays 10 BadUnsignedLeb128 (unsigned_below 64) s

offset_within : (register : ℕ) → AreWithin (offset_of register)
offset_within register = record { stays = (one_within signed_at (RegisterOffset (record { 0 = register })) signed_stays).stays }

register_within : AreWithin register_and_offset
register_within = record {
  stays = λ s.
      then_stays s (unsigned_16_at s) (λ register. offset_of register.0 register.1) (leb128_stays 3 BadUnsignedLeb128 (unsigned_below 16) s) (λ x rest. (offset_within x).stays rest);
}

number_stays : (n : ℕ) (s : Stretch) → StaysIn s (number_at n s)
number_stays n s = fixed_stays n s (ends_at s.offset) (number_of s.big (take n s.bytes))

signed_number_stays : (w : Width) (s : Stretch) → StaysIn s (signed_number_at w s)
signed_number_stays w s = fixed_stays (byte_len w) s (ends_at s.offset) (cast_signed w (number_of s.big (take (byte_len w) s.bytes)))

byte_stays : (s : Stretch) → StaysIn s (byte_at s)
byte_stays s = fixed_stays 1 s (ends_at s.offset) (slice_index s.bytes 0)

signed_byte_stays : (s : Stretch) → StaysIn s (signed_byte_at s)
signed_byte_stays s = fixed_stays 1 s (ends_at s.offset) (cast_signed w8 (slice_index s.bytes 0))

address_stays : (size : ℕ) (s : Stretch) → StaysIn s (address_at size s)
address_stays size s = by_case (is_size size) (λ is. rw is (number_stays size s)) (λ is. rw is (err_stays ℕ s (UnsupportedAddressSize size)))

-- .. of each row
data AllWithin : List (DwOp × Parse Operation) → Type 0 where
  no_rows : AllWithin []
  one_more : (code : DwOp) (operands : Parse Operation) (rows : List (DwOp × Parse Operation)) → AreWithin operands → AllWithin rows → AllWithin ((code, operands) ∷ rows)

and_then : {code : DwOp} {operands : Parse Operation} {rows : List (DwOp × Parse Operation)} → AreWithin operands → AllWithin rows → AllWithin ((code, operands) ∷ rows)
and_then {code} {operands} {rows} first others = one_more code operands rows first others

table_within : (size : ℕ) → AllWithin (with_operands size)
table_within size =
    and_then (one_within (address_at size) Address (address_stays size))
    (and_then (one_within byte_at UnsignedConstant byte_stays)
    (and_then (one_within signed_byte_at SignedConstant signed_byte_stays)
    (and_then (one_within (number_at 2) UnsignedConstant (number_stays 2))
    (and_then (one_within (signed_number_at w16) SignedConstant (signed_number_stays w16))
    (and_then (one_within (number_at 4) UnsignedConstant (number_stays 4))
    (and_then (one_within (signed_number_at w32) SignedConstant (signed_number_stays w32))
    (and_then (one_within (number_at 8) UnsignedConstant (number_stays 8))
    (and_then (one_within (signed_number_at w64) SignedConstant (signed_number_stays w64))
    (and_then (one_within unsigned_at UnsignedConstant unsigned_stays)
    (and_then (one_within signed_at SignedConstant signed_stays)
    (and_then (one_within byte_at Pick byte_stays)
    (and_then (one_within unsigned_at PlusConstant unsigned_stays)
    (and_then (one_within (signed_number_at w16) Bra (signed_number_stays w16))
    (and_then (one_within (signed_number_at w16) Skip (signed_number_stays w16))
    (and_then register_within
    no_rows)))))))))))))))

module _ (opcode : ℕ) (plain : Option Operation) where
  plain_stays : (o : Option Operation) (s : Stretch) → StaysIn s (listed_operation None o s)
  plain_stays (Some operation) s = ok_stays s s operation (here s)
  plain_stays None s = err_stays Operation s UnsupportedEvaluation

  listed_stays : (rows : List (DwOp × Parse Operation)) → AllWithin rows → (s : Stretch) → StaysIn s (listed_operation (look_up opcode_number opcode rows) plain s)
  listed_stays [] no_rows s = plain_stays plain s
  listed_stays ((code, operands) ∷ rows) (one_more _ _ _ first others) s =
      by_case (opcode == code.0)
      (λ is. rw is (first.stays s))
      (λ is. rw is (listed_stays rows others s))

said_stays : (size opcode : ℕ) (s : Stretch) → StaysIn s (operation_by size opcode s)
said_stays size opcode s =
    by_case (is_between DW_OP_lit0 DW_OP_lit31 opcode)
    (λ is. rw is (ok_stays s s (UnsignedConstant (opcode - DW_OP_lit0.0)) (here s)))
    (λ no. by_case (is_between DW_OP_breg0 DW_OP_breg31 opcode)
    (λ is. rw (no, is) ((offset_within (opcode - DW_OP_breg0.0)).stays s))
    (λ is. rw (no, is) (listed_stays opcode (look_up opcode_number opcode without_operands) (with_operands size) (table_within size) s)))

operation_stays : (size : ℕ) (s : Stretch) → StaysIn s (operation_at size s)
operation_stays size s = then_stays s (byte_at s) (λ opcode. operation_by size opcode.0 opcode.1) (byte_stays s) (λ x rest. said_stays size x rest)

-- ---- offsets

-- an operation of an expression leaves what begins at an offset in it
pub operation_stands : (size : ℕ) (expression rest left : Stretch) (offset : ℕ) (operation : Operation) → IsRestAt expression rest offset → operation_at size rest ≡ Ok (operation, left)
    → IsRestAt expression left (left.offset - expression.offset)
operation_stands size expression rest left offset operation at is =
    let now : IsBehind expression rest = record { count = offset; is = at.rest_is; within = at.within } in
    let all = further expression rest left now ((operation_stays size rest).left operation left is) in
    let same : left.offset - expression.offset ≡ all.count = ap (λ (s : Stretch). s.offset - expression.offset) all.is ∙ (let e : expression.offset + all.count - expression.offset ≡ all.count = omega arith in e) in
    record { rest_is = all.is ∙ ap (λ (k : ℕ). behind k expression) (sym same); within = (let h = all.within in omega arith) }
