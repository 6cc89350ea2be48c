-- What an epilog is read as, by the bytes that spell it.
use Rattle.std.proofs.Common.{◌≡◌, ◌∙◌, ℕ, suc, ◌+◌, ◌/◌, ◌%◌, ◌<◌, ◌≤◌, Bool, true, false, List, [], ◌∷◌, ◌++◌, length, drop, refl, ap, sym, arith, inl, inr, append_assoc, length-append, get_or-append-add}
use Rattle.std.specs.Prelude.{◌==◌, ◌&&◌, ◌⊎◌, ◌≢◌, nat_le, nat_lt, slice_index, if◌then◌else◌, Option, Some, None}
use Rattle.std.specs.Option.{option_or}
use Rattle.std.proofs.Math.Seq.{get_or-append_seam}
use Rattle.std.proofs.lemmas.Bool.Decides.{Decides-eqb, nat_tests}
use Rattle.std.proofs.lemmas.Slice.Eq.{starts_is}
use Rattle.framehop_registers.specs.declared.x86_64.unwindregs.Reg.{Reg}
use Rattle.framehop_registers.specs.declared.x86_64.unwindregs.Reg.TheVariants.{RAX, RDX, RCX, RBX, RSI, RDI, RBP, RSP, R8, R9, R10, R11, R12, R13, R14, R15}
use Rattle.framehop_pe_codes.specs.Codes.{u32_at}
use Rattle.framehop_pe_codes.specs.EpilogEnds.{begins_with, signed_below}
use Rattle.framehop_pe_codes.specs.EpilogInstructions.{Adjust, NoAdjust, AddByte, AddLong, LeaByte, LeaLong, Adjusts, Long, adjust_bytes, long_bytes, long_number}
use Rattle.framehop_pe_codes.specs.Epilogs.{SizedAdjustment, adjustment_of, lea, lea_size, lea_spelling, long_add, long_lea, number_of, short_add, short_lea}
use Rattle.framehop_pe_codes.specs.declared.epilog.SpAdjustment.{SpAdjustment}
use Rattle.framehop_pe_codes.specs.declared.epilog.SpAdjustment.TheVariants.{Stays, Add, Lea}

-- ---- bytes that begin with others

pub begins-is : (spelling bytes : List ℕ) → begins_with spelling bytes ≡ true → bytes ≡ spelling ++ drop (length spelling) bytes
unfolding begins_with
begins-is spelling bytes is = (starts_is Decides-eqb bytes spelling (begins_with spelling bytes) refl).0 is

pub begins-read : (spelling rest : List ℕ) → begins_with spelling (spelling ++ rest) ≡ true
unfolding begins_with
begins-read spelling rest = (starts_is Decides-eqb (spelling ++ rest) spelling (begins_with spelling (spelling ++ rest)) refl).1 rest refl

pub is-false : (b : Bool) → (b ≡ true → ⊥) → b ≡ false
is-false true never = absurd (never refl)
is-false false never = refl

-- their first bytes, or their second ones, differ
pub begins-first : (x : ℕ) (spelling bytes : List ℕ) → (slice_index bytes 0 ≡ x → ⊥) → begins_with (x ∷ spelling) bytes ≡ false
begins-first x spelling bytes other = is-false _ (λ is. other (ap (λ (l : List ℕ). slice_index l 0) (begins-is (x ∷ spelling) bytes is)))

pub begins-second : (x y : ℕ) (spelling bytes : List ℕ) → (slice_index bytes 1 ≡ y → ⊥) → begins_with (x ∷ y ∷ spelling) bytes ≡ false
begins-second x y spelling bytes other = is-false _ (λ is. other (ap (λ (l : List ℕ). slice_index l 1) (begins-is (x ∷ y ∷ spelling) bytes is)))

pub begins-third : (x y z : ℕ) (spelling bytes : List ℕ) → (slice_index bytes 2 ≡ z → ⊥) → begins_with (x ∷ y ∷ z ∷ spelling) bytes ≡ false
begins-third x y z spelling bytes other = is-false _ (λ is. other (ap (λ (l : List ℕ). slice_index l 2) (begins-is (x ∷ y ∷ z ∷ spelling) bytes is)))

-- ---- what tests lead to

pub if-false : {A : Type 0} (test : Bool) (value : Option A) → test ≡ false → (if test then value else None) ≡ None
if-false test value is = ap (λ (b : Bool). if b then value else None) is

pub if-true : {A : Type 0} (test : Bool) (value : Option A) → test ≡ true → (if test then value else None) ≡ value
if-true test value is = ap (λ (b : Bool). if b then value else None) is

pub both-true : (a b : Bool) → a ≡ true → b ≡ true → (a && b) ≡ true
both-true true b one other = other
both-true false b one other = one

pub left-false : (a b : Bool) → a ≡ false → (a && b) ≡ false
left-false a b is = ap (λ (t : Bool). t && b) is

pub and-left : (a b : Bool) → (a && b) ≡ true → a ≡ true
and-left true b is = refl
and-left false b is = is

pub and-right : (a b : Bool) → (a && b) ≡ true → b ≡ true
and-right true b is = is
and-right false b is = cc

pub le-true : (a b : ℕ) → a ≤ b → nat_le a b ≡ true
le-true a b h = grind (arith, nat_tests)

pub lt-true : (a b : ℕ) → a < b → nat_lt a b ≡ true
lt-true a b h = grind (arith, nat_tests)

-- what a test gave
pub record Given {A : Type 0} (test : Bool) (value given : A) : Type 0 where
  pub holds : test ≡ true
  pub is : value ≡ given

pub given-by : {A : Type 0} (test : Bool) (value given : A) → (if test then Some value else None) ≡ Some given → Given test value given
given-by true value given is = record { holds = refl; is = cc }
given-by false value given is = cc

-- ---- leas

number-high : (register : Reg) → (0x48 + number_of register / 8 ≡ 0x48) ⊎ (0x48 + number_of register / 8 ≡ 0x49)
number-high RAX = inl refl
number-high RCX = inl refl
number-high RDX = inl refl
number-high RBX = inl refl
number-high RSP = inl refl
number-high RBP = inl refl
number-high RSI = inl refl
number-high RDI = inl refl
number-high R8 = inr refl
number-high R9 = inr refl
number-high R10 = inr refl
number-high R11 = inr refl
number-high R12 = inr refl
number-high R13 = inr refl
number-high R14 = inr refl
number-high R15 = inr refl

pub lea-length : (mode register : ℕ) → length (lea_spelling mode register) ≡ lea_size register
lea-length mode register = by (register % 8 == 4)
  where
    by : (b : Bool) → length ((0x48 + register / 8) ∷ 0x8d ∷ (mode + register % 8) ∷ (if b then 0x24 ∷ [] else [])) ≡ (if b then 4 else 3)
    by true = refl
    by false = refl

pub u32-after : (spelling : List ℕ) (long : Long) (rest : List ℕ) → u32_at (spelling ++ (long_bytes long ++ rest)) (length spelling) ≡ long_number long
u32-after spelling long rest =
    let at : (k : ℕ) → slice_index (spelling ++ (long_bytes long ++ rest)) (length spelling + k) ≡ slice_index (long_bytes long ++ rest) k =
    λ k. get_or-append-add spelling (long_bytes long ++ rest) k 0 in
    let first : slice_index (spelling ++ (long_bytes long ++ rest)) (length spelling) ≡ long.first = get_or-append_seam spelling long.first (long.second ∷ long.third ∷ long.fourth ∷ rest) 0 in
    rw (first, at 1, at 2, at 3) refl

-- ---- an adjustment is read as it is spelled

abbrev pub chosen : Option SizedAdjustment → Option SizedAdjustment → Option SizedAdjustment → SizedAdjustment
chosen short long lea = elim (option_or short (option_or long lea)) [ Some found ↦ found | None ↦ (Stays, 0) ]

pub adjustment-is : (frame_register : Option Reg) (bytes : List ℕ) (short long by_lea : Option SizedAdjustment)
    → short_add bytes ≡ short → long_add bytes ≡ long → lea frame_register bytes ≡ by_lea → adjustment_of frame_register bytes ≡ chosen short long by_lea
unfolding adjustment_of
adjustment-is frame_register bytes short long by_lea is_short is_long is_lea =
    ap (λ (o : Option SizedAdjustment). chosen o (long_add bytes) (lea frame_register bytes)) is_short
    ∙ ap (λ (o : Option SizedAdjustment). chosen short o (lea frame_register bytes)) is_long ∙ ap (chosen short long) is_lea

-- neither an add nor a lea
abbrev pub IsPlain : List ℕ → Type 0
IsPlain bytes = ((slice_index bytes 0 ≢ 0x48) × (slice_index bytes 0 ≢ 0x49)) ⊎ (slice_index bytes 1 ≡ 0xff)

not-begun : (x y : ℕ) (spelling bytes : List ℕ) → (x ≡ 0x48) ⊎ (x ≡ 0x49) → (y ≡ 0xff → ⊥) → IsPlain bytes → begins_with (x ∷ y ∷ spelling) bytes ≡ false
not-begun x y spelling bytes (inl is) other (inl (one, two)) = begins-first x (y ∷ spelling) bytes (λ first. one (first ∙ is))
not-begun x y spelling bytes (inr is) other (inl (one, two)) = begins-first x (y ∷ spelling) bytes (λ first. two (first ∙ is))
not-begun x y spelling bytes prefix other (inr wide) = begins-second x y spelling bytes (λ second. other (sym second ∙ wide))

plain-lea : (frame_register : Option Reg) (bytes : List ℕ) → IsPlain bytes → lea frame_register bytes ≡ None
plain-lea None bytes plain = refl
plain-lea (Some register) bytes plain =
    let number = number_of register in
    let tail : ℕ → List ℕ = λ mode. (mode + number % 8) ∷ (if number % 8 == 4 then 0x24 ∷ [] else []) in
    let none : (mode : ℕ) → begins_with (lea_spelling mode number) bytes ≡ false = λ mode. not-begun (0x48 + number / 8) 0x8d (tail mode) bytes (number-high register) (λ e. omega arith) plain in
    ap (λ (o : Option SizedAdjustment). option_or o (long_lea number bytes)) (if-false _ _ (left-false _ _ (none 0x60)))
    ∙ if-false _ _ (left-false _ _ (none 0xa0))

plain-adjustment : (frame_register : Option Reg) (bytes : List ℕ) → IsPlain bytes → adjustment_of frame_register bytes ≡ (Stays, 0)
plain-adjustment frame_register bytes plain =
    adjustment-is frame_register bytes None None None
    (if-false _ _ (left-false _ _ (not-begun 0x48 0x83 (0xc4 ∷ []) bytes (inl refl) (λ e. omega arith) plain)))
    (if-false _ _ (left-false _ _ (not-begun 0x48 0x81 (0xc4 ∷ []) bytes (inl refl) (λ e. omega arith) plain)))
    (plain-lea frame_register bytes plain)

short-add-read : (number : ℕ) (rest : List ℕ) → number < 128 → short_add (0x48 ∷ 0x83 ∷ 0xc4 ∷ number ∷ rest) ≡ Some (Add number, 4)
short-add-read number rest small =
    if-true _ _ (both-true _ _ (begins-read (0x48 ∷ 0x83 ∷ 0xc4 ∷ []) (number ∷ rest)) (both-true _ _ (le-true _ _ (omega arith)) (lt-true _ _ small)))

long-add-read : (long : Long) (rest : List ℕ) → long_number long < 2147483648 → long_add (0x48 ∷ 0x81 ∷ 0xc4 ∷ (long_bytes long ++ rest)) ≡ Some (Add (long_number long), 7)
long-add-read long rest small =
    if-true _ _ (both-true _ _ (begins-read (0x48 ∷ 0x81 ∷ 0xc4 ∷ []) (long_bytes long ++ rest)) (both-true _ _ (le-true _ _ (omega arith)) (lt-true _ _ small)))

no-short-add : (y : ℕ) (bytes : List ℕ) → slice_index bytes 1 ≡ y → (y ≡ 0x83 → ⊥) → short_add bytes ≡ None
no-short-add y bytes is other = if-false _ _ (left-false _ _ (begins-second 0x48 0x83 (0xc4 ∷ []) bytes (λ e. other (sym is ∙ e))))

no-long-add : (y : ℕ) (bytes : List ℕ) → slice_index bytes 1 ≡ y → (y ≡ 0x81 → ⊥) → long_add bytes ≡ None
no-long-add y bytes is other = if-false _ _ (left-false _ _ (begins-second 0x48 0x81 (0xc4 ∷ []) bytes (λ e. other (sym is ∙ e))))

short-lea-read : (number byte : ℕ) (rest : List ℕ) → short_lea number (lea_spelling 0x60 number ++ byte ∷ rest) ≡ Some (Lea (signed_below 256 byte), lea_size number + 1)
short-lea-read number byte rest =
    let spelling = lea_spelling 0x60 number in
    let size : length spelling ≡ lea_size number = lea-length 0x60 number in
    let whole : length (spelling ++ byte ∷ rest) ≡ length spelling + suc (length rest) = length-append spelling (byte ∷ rest) in
    let at : slice_index (spelling ++ byte ∷ rest) (lea_size number) ≡ byte = ap (λ (k : ℕ). slice_index (spelling ++ byte ∷ rest) k) (sym size) ∙ get_or-append_seam spelling byte rest 0 in
    if-true _ _ (both-true _ _ (begins-read spelling (byte ∷ rest)) (le-true _ _ (omega arith)))
    ∙ ap (λ (b : ℕ). Some (Lea (signed_below 256 b), lea_size number + 1)) at

long-lea-read : (number : ℕ) (long : Long) (rest : List ℕ)
    → long_lea number (lea_spelling 0xa0 number ++ (long_bytes long ++ rest)) ≡ Some (Lea (signed_below 4294967296 (long_number long)), lea_size number + 4)
long-lea-read number long rest =
    let spelling = lea_spelling 0xa0 number in
    let size : length spelling ≡ lea_size number = lea-length 0xa0 number in
    let whole : length (spelling ++ (long_bytes long ++ rest)) ≡ length spelling + suc (suc (suc (suc (length rest)))) = length-append spelling (long_bytes long ++ rest) in
    let at : u32_at (spelling ++ (long_bytes long ++ rest)) (lea_size number) ≡ long_number long =
    ap (λ (k : ℕ). u32_at (spelling ++ (long_bytes long ++ rest)) k) (sym size) ∙ u32-after spelling long rest in
    if-true _ _ (both-true _ _ (begins-read spelling (long_bytes long ++ rest)) (le-true _ _ (omega arith)))
    ∙ ap (λ (b : ℕ). Some (Lea (signed_below 4294967296 b), lea_size number + 4)) at

no-short-lea : (number : ℕ) (rest : List ℕ) → short_lea number (lea_spelling 0xa0 number ++ rest) ≡ None
no-short-lea number rest =
    let tail : List ℕ = if number % 8 == 4 then 0x24 ∷ [] else [] in
    if-false _ _ (left-false _ _ (begins-third (0x48 + number / 8) 0x8d (0x60 + number % 8) tail (lea_spelling 0xa0 number ++ rest) (λ e. let same : 0xa0 + number % 8 ≡ 0x60 + number % 8 = e in omega arith)))

-- the adjustment, and how many bytes it has
pub adjust-read : (frame_register : Option Reg) (adjust : Adjust) (does : SpAdjustment) (rest : List ℕ) → Adjusts frame_register adjust does → IsPlain rest
    → adjustment_of frame_register (adjust_bytes adjust ++ rest) ≡ (does, length (adjust_bytes adjust))
adjust-read frame_register NoAdjust does rest is plain = plain-adjustment frame_register rest plain ∙ ap (λ (d : SpAdjustment). (d, 0)) (sym is)
adjust-read frame_register (AddByte number) does rest (small, is) plain =
    adjustment-is frame_register (0x48 ∷ 0x83 ∷ 0xc4 ∷ number ∷ rest) (Some (Add number, 4)) _ _ (short-add-read number rest small) refl refl
    ∙ ap (λ (d : SpAdjustment). (d, 4)) (sym is)
adjust-read frame_register (AddLong long) does rest (small, is) plain =
    let bytes = 0x48 ∷ 0x81 ∷ 0xc4 ∷ (long_bytes long ++ rest) in
    adjustment-is frame_register bytes None (Some (Add (long_number long), 7)) _ (no-short-add 0x81 bytes refl (λ e. omega arith)) (long-add-read long rest small) refl
    ∙ ap (λ (d : SpAdjustment). (d, 7)) (sym is)
adjust-read None (LeaByte register byte) does rest (frame, is) plain = cc
adjust-read (Some other) (LeaByte register byte) does rest (frame, is) plain =
    let same : other ≡ register = cc in
    let number = number_of register in
    let spelling = lea_spelling 0x60 number in
    let size : length (spelling ++ byte ∷ []) ≡ lea_size number + 1 = length-append spelling (byte ∷ []) ∙ ap (λ (k : ℕ). k + 1) (lea-length 0x60 number) in
    ap (λ (r : Reg). adjustment_of (Some r) (spelling ++ byte ∷ [] ++ rest)) same
    ∙ ap (adjustment_of (Some register)) (append_assoc spelling (byte ∷ []) rest)
    ∙ adjustment-is (Some register) (spelling ++ byte ∷ rest) None None (Some (Lea (signed_below 256 byte), lea_size number + 1))
    (no-short-add 0x8d (spelling ++ byte ∷ rest) refl (λ e. omega arith)) (no-long-add 0x8d (spelling ++ byte ∷ rest) refl (λ e. omega arith))
    (ap (λ (o : Option SizedAdjustment). option_or o (long_lea number (spelling ++ byte ∷ rest))) (short-lea-read number byte rest))
    ∙ ap (λ (d : SpAdjustment). (d, lea_size number + 1)) (sym is) ∙ ap (λ (k : ℕ). (does, k)) (sym size)
adjust-read None (LeaLong register long) does rest (frame, is) plain = cc
adjust-read (Some other) (LeaLong register long) does rest (frame, is) plain =
    let same : other ≡ register = cc in
    let number = number_of register in
    let spelling = lea_spelling 0xa0 number in
    let bytes = spelling ++ (long_bytes long ++ rest) in
    let size : length (spelling ++ long_bytes long) ≡ lea_size number + 4 = length-append spelling (long_bytes long) ∙ ap (λ (k : ℕ). k + 4) (lea-length 0xa0 number) in
    ap (λ (r : Reg). adjustment_of (Some r) (spelling ++ long_bytes long ++ rest)) same
    ∙ ap (adjustment_of (Some register)) (append_assoc spelling (long_bytes long) rest)
    ∙ adjustment-is (Some register) bytes None None (Some (Lea (signed_below 4294967296 (long_number long)), lea_size number + 4))
    (no-short-add 0x8d bytes refl (λ e. omega arith)) (no-long-add 0x8d bytes refl (λ e. omega arith))
    (ap (λ (o : Option SizedAdjustment). option_or o (long_lea number bytes)) (no-short-lea number (long_bytes long ++ rest)) ∙ long-lea-read number long rest)
    ∙ ap (λ (d : SpAdjustment). (d, lea_size number + 4)) (sym is) ∙ ap (λ (k : ℕ). (does, k)) (sym size)
