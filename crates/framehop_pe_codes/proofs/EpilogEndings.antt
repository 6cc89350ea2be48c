-- Which instruction ends an epilog, by the bytes that spell it.
use Rattle.std.proofs.Common.{◌≡◌, ◌∙◌, ℕ, suc, ◌+◌, ◌-◌, ◌*◌, ◌/◌, ◌%◌, ◌<◌, ◌≤◌, Bool, true, false, List, [], ◌∷◌, ◌++◌, length, drop, refl, ap, arith, inl, inr, drop-cons}
use Rattle.std.specs.Prelude.{◌==◌, ◌&&◌, ◌||◌, ◌⊎◌, nat_le, slice_index, if◌then◌else◌, Option, Some, None}
use Rattle.std.proofs.lemmas.Bool.Decides.{nat_tests}
use Rattle.framehop_registers.specs.declared.x86_64.unwindregs.Reg.{Reg}
use Rattle.framehop_registers.specs.declared.x86_64.unwindregs.Reg.TheVariants.{RAX, RDX, RCX, RBX, RSI, RDI, RBP, RSP, R8, R9, R10, R11, R12, R13, R14, R15}
use Rattle.framehop_pe_codes.specs.Codes.{u32_at}
use Rattle.framehop_pe_codes.specs.EpilogEnds.{begins_with, direct_jump, is_end, is_known_end, is_published_end, is_return, is_wide_jump, leaves, signed_below}
use Rattle.framehop_pe_codes.specs.EpilogEnds as ends_
use Rattle.framehop_pe_codes.specs.EpilogInstructions.{End, Ends, Jump, JumpAtRip, JumpByte, JumpLong, Long, RepeatReturn, Return, WideJump, end_bytes, long_bytes, long_number}
use Rattle.framehop_pe_codes.specs.Epilogs.{pop_bytes}
use Rattle.framehop_pe_codes.specs.declared.ends.EpilogEnds.{EpilogEnds}
use Rattle.framehop_pe_codes.specs.declared.ends.EpilogEnds.TheVariants.{Published, Known}
use Rattle.framehop_pe_codes.specs.declared.ends.RowCode.{RowCode}
use Rattle.framehop_pe_codes.proofs.EpilogSpellings.{and-left, and-right, begins-is, begins-read, both-true, if-true, le-true}

-- ---- a pop ends nothing

published-pop : (register : Reg) (rest : List ℕ) → is_published_end (pop_bytes register ++ rest) ≡ false
unfolding is_published_end is_return begins_with
published-pop RAX rest = refl
published-pop RCX rest = refl
published-pop RDX rest = refl
published-pop RBX rest = refl
published-pop RSP rest = refl
published-pop RBP rest = refl
published-pop RSI rest = refl
published-pop RDI rest = refl
published-pop R8 rest = refl
published-pop R9 rest = refl
published-pop R10 rest = refl
published-pop R11 rest = refl
published-pop R12 rest = refl
published-pop R13 rest = refl
published-pop R14 rest = refl
published-pop R15 rest = refl

known-pop : (row : RowCode) (register : Reg) (rest : List ℕ) → is_known_end row (pop_bytes register ++ rest) ≡ false
unfolding is_known_end is_return is_wide_jump direct_jump begins_with
known-pop row RAX rest = refl
known-pop row RCX rest = refl
known-pop row RDX rest = refl
known-pop row RBX rest = refl
known-pop row RSP rest = refl
known-pop row RBP rest = refl
known-pop row RSI rest = refl
known-pop row RDI rest = refl
known-pop row R8 rest = refl
known-pop row R9 rest = refl
known-pop row R10 rest = refl
known-pop row R11 rest = refl
known-pop row R12 rest = refl
known-pop row R13 rest = refl
known-pop row R14 rest = refl
known-pop row R15 rest = refl

pub pop-goes-on : (ends : EpilogEnds) (register : Reg) (rest : List ℕ) → is_end ends (pop_bytes register ++ rest) ≡ false
pop-goes-on Published register rest = published-pop register rest
pop-goes-on (Known row) register rest = known-pop row register rest

-- ---- an end is read as it is spelled

or-left : (a b : Bool) → a ≡ true → (a || b) ≡ true
or-left a b is = ap (λ (t : Bool). t || b) is

or-right : (a b : Bool) → b ≡ true → (a || b) ≡ true
or-right true b is = refl
or-right false b is = is

by-return : (row : RowCode) (bytes : List ℕ) → is_return bytes ≡ true → is_known_end row bytes ≡ true
unfolding is_known_end
by-return row bytes is = or-left _ _ (or-left _ _ (or-left _ _ is))

by-rip : (row : RowCode) (bytes : List ℕ) → begins_with (0xff ∷ 0x25 ∷ []) bytes ≡ true → is_known_end row bytes ≡ true
unfolding is_known_end
by-rip row bytes is = or-left _ _ (or-left _ _ (or-right _ _ is))

by-wide : (row : RowCode) (bytes : List ℕ) → is_wide_jump bytes ≡ true → is_known_end row bytes ≡ true
unfolding is_known_end
by-wide row bytes is = or-left _ _ (or-right (is_return bytes || begins_with (0xff ∷ 0x25 ∷ []) bytes) _ is)

by-jump : (row : RowCode) (bytes : List ℕ) → leaves row bytes (direct_jump bytes) ≡ true → is_known_end row bytes ≡ true
unfolding is_known_end
by-jump row bytes is = or-right (is_return bytes || begins_with (0xff ∷ 0x25 ∷ []) bytes || is_wide_jump bytes) _ is

wide-read : (bits mode operand : ℕ) (rest : List ℕ) → bits < 8 → operand < 8 → is_wide_jump (end_bytes (WideJump bits mode operand) ++ rest) ≡ true
unfolding is_wide_jump
wide-read bits mode operand rest few low =
    let prefix : (0x48 + bits) / 8 ≡ 9 = omega arith in
    let field : (64 * mode + 8 * 4 + operand) / 8 % 8 ≡ 4 = omega arith in
    let is_prefix : ((0x48 + bits) / 8 == 9) ≡ true = grind (arith, nat_tests) in
    let is_field : ((64 * mode + 8 * 4 + operand) / 8 % 8 == 4) ≡ true = grind (arith, nat_tests) in
    both-true (((0x48 + bits) / 8 == 9) && true) ((64 * mode + 8 * 4 + operand) / 8 % 8 == 4) (both-true ((0x48 + bits) / 8 == 9) true is_prefix refl) is_field

byte-jump : (byte : ℕ) (rest : List ℕ) → direct_jump (0xeb ∷ byte ∷ rest) ≡ Some (2, signed_below 256 byte)
unfolding direct_jump begins_with
byte-jump byte rest =
    if-true _ _ (both-true _ _ (begins-read (0xeb ∷ []) (byte ∷ rest)) (le-true _ _ (omega arith)))

long-jump : (long : Long) (rest : List ℕ) → direct_jump (0xe9 ∷ (long_bytes long ++ rest)) ≡ Some (5, signed_below 4294967296 (long_number long))
unfolding direct_jump begins_with
long-jump long rest =
    if-true _ _ (both-true _ _ refl (le-true _ _ (omega arith)))

return-read : (rest : List ℕ) → is_return (0xc3 ∷ rest) ≡ true
unfolding is_return begins_with
return-read rest = refl

repeat-read : (rest : List ℕ) → is_return (0xf3 ∷ 0xc3 ∷ rest) ≡ true
unfolding is_return begins_with
repeat-read rest = refl

published-end-read : (bytes rest : List ℕ) (end : End) → Ends Published bytes end → is_published_end (end_bytes end ++ rest) ≡ true
unfolding is_published_end is_return begins_with
published-end-read bytes rest Return is = refl
published-end-read bytes rest RepeatReturn is = refl
published-end-read bytes rest (Jump opcode) (inl is) = ap (λ (first : ℕ). is_published_end (first ∷ rest)) is
published-end-read bytes rest (Jump opcode) (inr is) = ap (λ (first : ℕ). is_published_end (first ∷ rest)) is
published-end-read bytes rest (JumpByte byte) is = absurd is
published-end-read bytes rest (JumpLong long) is = absurd is
published-end-read bytes rest JumpAtRip is = refl
published-end-read bytes rest (WideJump bits mode operand) (no_bits, no_mode, at_rip) =
    ap (λ (k : ℕ). is_published_end ((0x48 + k) ∷ 0xff ∷ (64 * mode + 8 * 4 + operand) ∷ rest)) no_bits
    ∙ ap (λ (k : ℕ). is_published_end (0x48 ∷ 0xff ∷ (64 * k + 8 * 4 + operand) ∷ rest)) no_mode
    ∙ ap (λ (k : ℕ). is_published_end (0x48 ∷ 0xff ∷ (8 * 4 + k) ∷ rest)) at_rip

pub end-read : (ends : EpilogEnds) (end : End) (rest : List ℕ) → Ends ends (end_bytes end ++ rest) end → is_end ends (end_bytes end ++ rest) ≡ true
end-read Published end rest is = published-end-read (end_bytes end ++ rest) rest end is
end-read (Known row) Return rest is = by-return row (0xc3 ∷ rest) (return-read rest)
end-read (Known row) RepeatReturn rest is = by-return row (0xf3 ∷ 0xc3 ∷ rest) (repeat-read rest)
end-read (Known row) (Jump opcode) rest is = absurd is
end-read (Known row) (JumpByte byte) rest is =
    by-jump row (0xeb ∷ byte ∷ rest) (ap (leaves row (0xeb ∷ byte ∷ rest)) (byte-jump byte rest) ∙ is)
end-read (Known row) (JumpLong long) rest is =
    by-jump row (0xe9 ∷ (long_bytes long ++ rest)) (ap (leaves row (0xe9 ∷ (long_bytes long ++ rest))) (long-jump long rest) ∙ is)
end-read (Known row) JumpAtRip rest is = by-rip row (0xff ∷ 0x25 ∷ rest) (begins-read (0xff ∷ 0x25 ∷ []) rest)
end-read (Known row) (WideJump bits mode operand) rest (few, low) = by-wide row (end_bytes (WideJump bits mode operand) ++ rest) (wide-read bits mode operand rest few low)

-- ---- an end is spelled as it is read

pub record EndSeen (ends : EpilogEnds) (bytes : List ℕ) : Type 0 where
  pub end : End
  pub rest : List ℕ
  pub spelled : bytes ≡ end_bytes end ++ rest
  pub ends_it : Ends ends bytes end

or-cases : (a b : Bool) → (a || b) ≡ true → (a ≡ true) ⊎ (b ≡ true)
or-cases true b is = inl refl
or-cases false b is = inr is

module _ (ends : EpilogEnds) (bytes : List ℕ) where
  of-c3 : ((b : List ℕ) → Ends ends b Return) → begins_with (0xc3 ∷ []) bytes ≡ true → EndSeen ends bytes
  of-c3 always is = record { end = Return; rest = drop 1 bytes; spelled = begins-is (0xc3 ∷ []) bytes is; ends_it = always bytes }

  of-f3 : ((b : List ℕ) → Ends ends b RepeatReturn) → begins_with (0xf3 ∷ 0xc3 ∷ []) bytes ≡ true → EndSeen ends bytes
  of-f3 always is = record { end = RepeatReturn; rest = drop 2 bytes; spelled = begins-is (0xf3 ∷ 0xc3 ∷ []) bytes is; ends_it = always bytes }

  of-return : ((b : List ℕ) → Ends ends b Return) → ((b : List ℕ) → Ends ends b RepeatReturn) → is_return bytes ≡ true → EndSeen ends bytes
  unfolding is_return
  of-return always repeat is =
      elim (or-cases (begins_with (0xc3 ∷ []) bytes) (begins_with (0xf3 ∷ 0xc3 ∷ []) bytes) is) [ inl one ↦ of-c3 always one | inr two ↦ of-f3 repeat two ]

  of-rip : ((b : List ℕ) → Ends ends b JumpAtRip) → begins_with (0xff ∷ 0x25 ∷ []) bytes ≡ true → EndSeen ends bytes
  of-rip always is = record { end = JumpAtRip; rest = drop 2 bytes; spelled = begins-is (0xff ∷ 0x25 ∷ []) bytes is; ends_it = always bytes }

published-seen : (bytes : List ℕ) → is_published_end bytes ≡ true → EndSeen Published bytes
unfolding is_published_end
published-seen bytes is =
    elim (or-cases (is_return bytes || begins_with (0xeb ∷ []) bytes || begins_with (0xe9 ∷ []) bytes || begins_with (0xff ∷ 0x25 ∷ []) bytes) (begins_with (0x48 ∷ 0xff ∷ 0x25 ∷ []) bytes) is) [
      | inr wide ↦ record { end = WideJump 0 0 5; rest = drop 3 bytes; spelled = begins-is (0x48 ∷ 0xff ∷ 0x25 ∷ []) bytes wide; ends_it = (refl, refl, refl) }
      | inl four ↦ elim (or-cases (is_return bytes || begins_with (0xeb ∷ []) bytes || begins_with (0xe9 ∷ []) bytes) (begins_with (0xff ∷ 0x25 ∷ []) bytes) four) [
        | inr rip ↦ of-rip Published bytes (λ b. tt) rip
        | inl three ↦ elim (or-cases (is_return bytes || begins_with (0xeb ∷ []) bytes) (begins_with (0xe9 ∷ []) bytes) three) [
          | inr long ↦ record { end = Jump 0xe9; rest = drop 1 bytes; spelled = begins-is (0xe9 ∷ []) bytes long; ends_it = inr refl }
          | inl two ↦ elim (or-cases (is_return bytes) (begins_with (0xeb ∷ []) bytes) two) [
            | inr short ↦ record { end = Jump 0xeb; rest = drop 1 bytes; spelled = begins-is (0xeb ∷ []) bytes short; ends_it = inl refl }
            | inl one ↦ of-return Published bytes (λ b. tt) (λ b. tt) one
          ]
        ]
      ]
    ]

wide-seen : (row : RowCode) (bytes : List ℕ) → is_wide_jump bytes ≡ true → EndSeen (Known row) bytes
unfolding is_wide_jump
wide-seen row [] is = cc
wide-seen row (one ∷ []) is = absurd (let never : false ≡ true = and-right (one / 8 == 9) false (and-left ((one / 8 == 9) && false) false is) in cc)
wide-seen row (one ∷ two ∷ []) is = absurd (let never : false ≡ true = and-right ((one / 8 == 9) && (two == 0xff)) false is in cc)
wide-seen row (one ∷ two ∷ three ∷ rest) is =
    let first : one / 8 ≡ 9 = let t = and-left (one / 8 == 9) (two == 0xff) (and-left ((one / 8 == 9) && (two == 0xff)) (three / 8 % 8 == 4) is) in grind (arith, nat_tests) in
    let second : two ≡ 0xff = let t = and-right (one / 8 == 9) (two == 0xff) (and-left ((one / 8 == 9) && (two == 0xff)) (three / 8 % 8 == 4) is) in grind (arith, nat_tests) in
    let third : three / 8 % 8 ≡ 4 = let t = and-right ((one / 8 == 9) && (two == 0xff)) (three / 8 % 8 == 4) is in grind (arith, nat_tests) in
    let prefix : one ≡ 0x48 + (one - 0x48) = omega arith in
    let mode_byte : three ≡ 64 * (three / 64) + 8 * 4 + three % 8 = omega arith in
    record {
      end = WideJump (one - 0x48) (three / 64) (three % 8);
      rest = rest;
      spelled = ap (λ (b : ℕ). b ∷ two ∷ three ∷ rest) prefix ∙ ap (λ (b : ℕ). (0x48 + (one - 0x48)) ∷ b ∷ three ∷ rest) second
          ∙ ap (λ (b : ℕ). (0x48 + (one - 0x48)) ∷ 0xff ∷ b ∷ rest) mode_byte;
      ends_it = (omega arith, omega arith);
    }

-- four bytes from a place on
abbrev pub long_at : List ℕ → ℕ → Long
long_at bytes at = record {
  first = slice_index bytes at;
  second = slice_index bytes (at + 1);
  third = slice_index bytes (at + 2);
  fourth = slice_index bytes (at + 3);
}

one-at : (bytes : List ℕ) (at next : ℕ) → at < length bytes → suc at ≡ next → drop at bytes ≡ slice_index bytes at ∷ drop next bytes
one-at bytes at next within is = drop-cons bytes at 0 within ∙ ap (λ (k : ℕ). slice_index bytes at ∷ drop k bytes) is

pub four-at : (bytes : List ℕ) (at : ℕ) → at + 4 ≤ length bytes → drop at bytes ≡ long_bytes (long_at bytes at) ++ drop (at + 4) bytes
four-at bytes at within =
    one-at bytes at (at + 1) (omega arith) (omega arith)
    ∙ ap (λ (l : List ℕ). slice_index bytes at ∷ l) (one-at bytes (at + 1) (at + 2) (omega arith) (omega arith)
    ∙ ap (λ (l : List ℕ). slice_index bytes (at + 1) ∷ l) (one-at bytes (at + 2) (at + 3) (omega arith) (omega arith)
    ∙ ap (λ (l : List ℕ). slice_index bytes (at + 2) ∷ l) (one-at bytes (at + 3) (at + 4) (omega arith) (omega arith))))

pub one-after : (bytes : List ℕ) (at : ℕ) → at + 1 ≤ length bytes → drop at bytes ≡ slice_index bytes at ∷ drop (at + 1) bytes
one-after bytes at within = one-at bytes at (at + 1) (omega arith) (omega arith)

jump-seen : (row : RowCode) (bytes : List ℕ) (jump : Option ends_.Jump) → direct_jump bytes ≡ jump → leaves row bytes jump ≡ true → EndSeen (Known row) bytes
unfolding direct_jump
jump-seen row bytes None is left = cc
jump-seen row bytes (Some jump) is left = by (begins_with (0xeb ∷ []) bytes && nat_le 2 (length bytes)) refl (begins_with (0xe9 ∷ []) bytes && nat_le 5 (length bytes)) refl is
  where
    by : (short : Bool) → (begins_with (0xeb ∷ []) bytes && nat_le 2 (length bytes)) ≡ short → (long : Bool) → (begins_with (0xe9 ∷ []) bytes && nat_le 5 (length bytes)) ≡ long
        → (if short then Some (2, signed_below 256 (slice_index bytes 1)) else if long then Some (5, signed_below 4294967296 (u32_at bytes 1)) else None) ≡ Some jump
        → EndSeen (Known row) bytes
    by true short long is_long same =
        let begins = and-left (begins_with (0xeb ∷ []) bytes) (nat_le 2 (length bytes)) short in
        let enough : 1 + 1 ≤ length bytes = let t = and-right (begins_with (0xeb ∷ []) bytes) (nat_le 2 (length bytes)) short in grind (arith, nat_tests) in
        record {
          end = JumpByte (slice_index bytes 1);
          rest = drop 2 bytes;
          spelled = begins-is (0xeb ∷ []) bytes begins ∙ ap (λ (l : List ℕ). 0xeb ∷ l) (one-after bytes 1 enough);
          ends_it = ap (leaves row bytes) same ∙ left;
        }
    by false short true long same =
        let begins = and-left (begins_with (0xe9 ∷ []) bytes) (nat_le 5 (length bytes)) long in
        let enough : 1 + 4 ≤ length bytes = let t = and-right (begins_with (0xe9 ∷ []) bytes) (nat_le 5 (length bytes)) long in grind (arith, nat_tests) in
        record {
          end = JumpLong (long_at bytes 1);
          rest = drop 5 bytes;
          spelled = begins-is (0xe9 ∷ []) bytes begins ∙ ap (λ (l : List ℕ). 0xe9 ∷ l) (four-at bytes 1 enough);
          ends_it = ap (leaves row bytes) same ∙ left;
        }
    by false short false long same = cc

known-seen : (row : RowCode) (bytes : List ℕ) → is_known_end row bytes ≡ true → EndSeen (Known row) bytes
unfolding is_known_end
known-seen row bytes is =
    elim (or-cases (is_return bytes || begins_with (0xff ∷ 0x25 ∷ []) bytes || is_wide_jump bytes) (leaves row bytes (direct_jump bytes)) is) [
      | inr jump ↦ jump-seen row bytes (direct_jump bytes) refl jump
      | inl three ↦ elim (or-cases (is_return bytes || begins_with (0xff ∷ 0x25 ∷ []) bytes) (is_wide_jump bytes) three) [
        | inr wide ↦ wide-seen row bytes wide
        | inl two ↦ elim (or-cases (is_return bytes) (begins_with (0xff ∷ 0x25 ∷ []) bytes) two) [
          | inr rip ↦ of-rip (Known row) bytes (λ b. tt) rip
          | inl one ↦ of-return (Known row) bytes (λ b. tt) (λ b. tt) one
        ]
      ]
    ]

pub end-seen : (ends : EpilogEnds) (bytes : List ℕ) → is_end ends bytes ≡ true → EndSeen ends bytes
end-seen Published bytes is = published-seen bytes is
end-seen (Known row) bytes is = known-seen row bytes is
