-- Epilogs are read as they are spelled, and nothing else is read.
use Rattle.std.proofs.Common.{◌≡◌, ◌∙◌, ℕ, zero, suc, ◌+◌, ◌<◌, ◌≤◌, Bool, true, false, List, [], ◌∷◌, ◌++◌, length, drop, refl, ap, sym, subst, arith, inl, inr, append_assoc}
use Rattle.std.specs.Prelude.{◌&&◌, ◌⊎◌, ◌↔◌, nat_le, nat_lt, slice_index, if◌then◌else◌, Option, Some, None}
use Rattle.std.specs.List.{flat_map}
use Rattle.std.specs.Option.{option_map, option_or}
use Rattle.std.proofs.Math.Seq.{drop-append_seam}
use Rattle.std.proofs.lemmas.List.{take-append-drop}
use Rattle.std.proofs.lemmas.Bool.Decides.{nat_tests}
use Rattle.framehop_registers.specs.declared.x86_64.unwindregs.Reg.{Reg}
use Rattle.framehop_registers.specs.declared.x86_64.unwindregs.Reg.TheVariants.{RAX, RDX, RCX, RBX, RSI, RDI, RBP, RSP, R8, R9, R10, R11, R12, R13, R14, R15}
use Rattle.framehop_pe_codes.specs.Codes.{u32_at}
use Rattle.framehop_pe_codes.specs.EpilogEnds.{begins_with, is_end, signed_below}
use Rattle.framehop_pe_codes.specs.EpilogInstructions.{Adjust, NoAdjust, AddByte, AddLong, LeaByte, LeaLong, Adjusts, End, Ends, IsSpelled, Jump, JumpAtRip, JumpByte, JumpLong, RepeatReturn, Return, WideJump, adjust_bytes, end_bytes, long_bytes}
use Rattle.framehop_pe_codes.specs.Epilogs.{EpilogLeft, SizedAdjustment, adjustment_of, epilog_of, lea, lea_size, lea_spelling, long_add, long_lea, number_of, pop_bytes, pop_of, pops_until, pops_within, short_add, short_lea}
use Rattle.framehop_pe_codes.specs.declared.ends.EpilogEnds.{EpilogEnds}
use Rattle.framehop_pe_codes.specs.declared.ends.EpilogEnds.TheVariants.{Published, Known}
use Rattle.framehop_pe_codes.specs.declared.epilog.SpAdjustment.{SpAdjustment}
use Rattle.framehop_pe_codes.specs.declared.epilog.SpAdjustment.TheVariants.{Add, Lea}
use Rattle.framehop_pe_codes.proofs.EpilogEndings.{end-read, end-seen, four-at, long_at, one-after, pop-goes-on}
use Rattle.framehop_pe_codes.proofs.EpilogSpellings.{IsPlain, adjust-read, adjustment-is, and-left, and-right, begins-is, chosen, given-by, lea-length}
use Rattle.framehop_pe_codes.proofs.PopBytes.{pop-read, pop-spelled}
use Rattle.framehop_pe_codes.proofs.Pops.{After, pops-cons, pops-end, splits}

-- ---- from the spelling to what is read

plain-pop : (register : Reg) (one other : List ℕ) → IsPlain (pop_bytes register ++ one ++ other)
plain-pop RAX one other = inl (λ e. omega arith, λ e. omega arith)
plain-pop RCX one other = inl (λ e. omega arith, λ e. omega arith)
plain-pop RDX one other = inl (λ e. omega arith, λ e. omega arith)
plain-pop RBX one other = inl (λ e. omega arith, λ e. omega arith)
plain-pop RSP one other = inl (λ e. omega arith, λ e. omega arith)
plain-pop RBP one other = inl (λ e. omega arith, λ e. omega arith)
plain-pop RSI one other = inl (λ e. omega arith, λ e. omega arith)
plain-pop RDI one other = inl (λ e. omega arith, λ e. omega arith)
plain-pop R8 one other = inl (λ e. omega arith, λ e. omega arith)
plain-pop R9 one other = inl (λ e. omega arith, λ e. omega arith)
plain-pop R10 one other = inl (λ e. omega arith, λ e. omega arith)
plain-pop R11 one other = inl (λ e. omega arith, λ e. omega arith)
plain-pop R12 one other = inl (λ e. omega arith, λ e. omega arith)
plain-pop R13 one other = inl (λ e. omega arith, λ e. omega arith)
plain-pop R14 one other = inl (λ e. omega arith, λ e. omega arith)
plain-pop R15 one other = inl (λ e. omega arith, λ e. omega arith)

plain-opcode : (opcode : ℕ) (rest : List ℕ) → (opcode ≡ 0xeb) ⊎ (opcode ≡ 0xe9) → IsPlain (opcode ∷ rest)
plain-opcode opcode rest (inl is) = inl (λ e. omega (arith, is), λ e. omega (arith, is))
plain-opcode opcode rest (inr is) = inl (λ e. omega (arith, is), λ e. omega (arith, is))

plain-end : (ends : EpilogEnds) (bytes rest : List ℕ) (end : End) → Ends ends bytes end → IsPlain (end_bytes end ++ rest)
plain-end ends bytes rest Return is = inl (λ e. omega arith, λ e. omega arith)
plain-end ends bytes rest RepeatReturn is = inl (λ e. omega arith, λ e. omega arith)
plain-end Published bytes rest (Jump opcode) is = plain-opcode opcode rest is
plain-end (Known row) bytes rest (Jump opcode) is = absurd is
plain-end ends bytes rest (JumpByte byte) is = inl (λ e. omega arith, λ e. omega arith)
plain-end ends bytes rest (JumpLong long) is = inl (λ e. omega arith, λ e. omega arith)
plain-end ends bytes rest JumpAtRip is = inl (λ e. omega arith, λ e. omega arith)
plain-end ends bytes rest (WideJump bits mode operand) is = inr refl

plain-rest : (ends : EpilogEnds) (pops : List Reg) (rest : List ℕ) (end : End) → Ends ends (end_bytes end ++ rest) end
    → IsPlain (flat_map pop_bytes pops ++ (end_bytes end ++ rest))
plain-rest ends [] rest end is = plain-end ends (end_bytes end ++ rest) rest end is
plain-rest ends (register ∷ more) rest end is = plain-pop register (flat_map pop_bytes more) (end_bytes end ++ rest)

pops-read : (ends : EpilogEnds) (pops : List Reg) (tail : List ℕ) → is_end ends tail ≡ true → pops_until (is_end ends) (flat_map pop_bytes pops ++ tail) ≡ Some pops
pops-read ends [] tail end = pops-end (is_end ends) tail end
pops-read ends (register ∷ more) tail end =
    let after = flat_map pop_bytes more ++ tail in
    let add : Option (List Reg) → Option (List Reg) = option_map (λ registers. register ∷ registers) in
    ap (pops_until (is_end ends)) (append_assoc (pop_bytes register) (flat_map pop_bytes more) tail)
    ∙ pops-cons (is_end ends) (pop_bytes register ++ after) register (length (pop_bytes register)) (pop-goes-on ends register after) (pop-read register after)
    ∙ ap (λ (l : List ℕ). add (pops_until (is_end ends) l)) (drop-append_seam (pop_bytes register) after)
    ∙ ap add (pops-read ends more tail end)

abbrev left-by : EpilogEnds → List ℕ → SizedAdjustment → Option EpilogLeft
left-by ends bytes adjustment = option_map (λ pops. record { adjustment = adjustment.0; pops = pops }) (pops_until (is_end ends) (drop adjustment.1 bytes))

read-as : (ends : EpilogEnds) (frame_register : Option Reg) (left : EpilogLeft) (bytes : List ℕ) → IsSpelled ends frame_register left bytes
    → epilog_of ends frame_register bytes ≡ Some left
read-as ends frame_register left bytes spelled =
    let tail = end_bytes spelled.end ++ spelled.rest in
    let after = flat_map pop_bytes left.pops ++ tail in
    let front = adjust_bytes spelled.adjust in
    ap (epilog_of ends frame_register) spelled.spelled
    ∙ ap (left-by ends (front ++ after)) (adjust-read frame_register spelled.adjust left.adjustment after spelled.adjusts (plain-rest ends left.pops spelled.rest spelled.end spelled.ends_it))
    ∙ ap (λ (l : List ℕ). option_map (λ pops. record { adjustment = left.adjustment; pops = pops }) (pops_until (is_end ends) l)) (drop-append_seam front after)
    ∙ ap (option_map (λ pops. record { adjustment = left.adjustment; pops = pops })) (pops-read ends left.pops tail (end-read ends spelled.end spelled.rest spelled.ends_it))

-- ---- from what is read to the spelling

record AdjustSeen (frame_register : Option Reg) (bytes : List ℕ) (found : SizedAdjustment) : Type 0 where
  adjust : Adjust
  spelled : bytes ≡ adjust_bytes adjust ++ drop found.1 bytes
  adjusts : Adjusts frame_register adjust found.0

module _ (frame_register : Option Reg) (bytes : List ℕ) (found : SizedAdjustment) where
  short-seen : short_add bytes ≡ Some found → AdjustSeen frame_register bytes found
  short-seen is =
      let tests = begins_with (0x48 ∷ 0x83 ∷ 0xc4 ∷ []) bytes && (nat_le 4 (length bytes) && nat_lt (slice_index bytes 3) 128) in
      let given = given-by tests (Add (slice_index bytes 3), 4) found is in
      let fits = and-right (begins_with (0x48 ∷ 0x83 ∷ 0xc4 ∷ []) bytes) (nat_le 4 (length bytes) && nat_lt (slice_index bytes 3) 128) given.holds in
      let enough : 3 + 1 ≤ length bytes = let t = and-left (nat_le 4 (length bytes)) (nat_lt (slice_index bytes 3) 128) fits in grind (arith, nat_tests) in
      let small : slice_index bytes 3 < 128 = let t = and-right (nat_le 4 (length bytes)) (nat_lt (slice_index bytes 3) 128) fits in grind (arith, nat_tests) in
      subst (AdjustSeen frame_register bytes) given.is (record {
        adjust = AddByte (slice_index bytes 3);
        spelled = begins-is (0x48 ∷ 0x83 ∷ 0xc4 ∷ []) bytes (and-left _ _ given.holds) ∙ ap (λ (l : List ℕ). 0x48 ∷ 0x83 ∷ 0xc4 ∷ l) (one-after bytes 3 enough);
        adjusts = (small, refl);
      })

  long-seen : long_add bytes ≡ Some found → AdjustSeen frame_register bytes found
  long-seen is =
      let tests = begins_with (0x48 ∷ 0x81 ∷ 0xc4 ∷ []) bytes && (nat_le 7 (length bytes) && nat_lt (u32_at bytes 3) 2147483648) in
      let given = given-by tests (Add (u32_at bytes 3), 7) found is in
      let fits = and-right (begins_with (0x48 ∷ 0x81 ∷ 0xc4 ∷ []) bytes) (nat_le 7 (length bytes) && nat_lt (u32_at bytes 3) 2147483648) given.holds in
      let enough : 3 + 4 ≤ length bytes = let t = and-left (nat_le 7 (length bytes)) (nat_lt (u32_at bytes 3) 2147483648) fits in grind (arith, nat_tests) in
      let small : u32_at bytes 3 < 2147483648 = let t = and-right (nat_le 7 (length bytes)) (nat_lt (u32_at bytes 3) 2147483648) fits in grind (arith, nat_tests) in
      subst (AdjustSeen frame_register bytes) given.is (record {
        adjust = AddLong (long_at bytes 3);
        spelled = begins-is (0x48 ∷ 0x81 ∷ 0xc4 ∷ []) bytes (and-left _ _ given.holds) ∙ ap (λ (l : List ℕ). 0x48 ∷ 0x81 ∷ 0xc4 ∷ l) (four-at bytes 3 enough);
        adjusts = (small, refl);
      })

  module _ (register : Reg) (frame : frame_register ≡ Some register) where
    abbrev number : ℕ
    number = number_of register

    short-lea-seen : short_lea number bytes ≡ Some found → AdjustSeen frame_register bytes found
    short-lea-seen is =
        let spelling = lea_spelling 0x60 number in
        let size = lea_size number in
        let given = given-by (begins_with spelling bytes && nat_le (size + 1) (length bytes)) (Lea (signed_below 256 (slice_index bytes size)), size + 1) found is in
        let enough : size + 1 ≤ length bytes = let t = and-right (begins_with spelling bytes) (nat_le (size + 1) (length bytes)) given.holds in grind (arith, nat_tests) in
        subst (AdjustSeen frame_register bytes) given.is (record {
          adjust = LeaByte register (slice_index bytes size);
          spelled =
              begins-is spelling bytes (and-left _ _ given.holds) ∙ ap (λ (k : ℕ). spelling ++ drop k bytes) (lea-length 0x60 number)
              ∙ ap (λ (l : List ℕ). spelling ++ l) (one-after bytes size enough) ∙ sym (append_assoc spelling (slice_index bytes size ∷ []) (drop (size + 1) bytes));
          adjusts = (frame, refl);
        })

    long-lea-seen : long_lea number bytes ≡ Some found → AdjustSeen frame_register bytes found
    long-lea-seen is =
        let spelling = lea_spelling 0xa0 number in
        let size = lea_size number in
        let given = given-by (begins_with spelling bytes && nat_le (size + 4) (length bytes)) (Lea (signed_below 4294967296 (u32_at bytes size)), size + 4) found is in
        let enough : size + 4 ≤ length bytes = let t = and-right (begins_with spelling bytes) (nat_le (size + 4) (length bytes)) given.holds in grind (arith, nat_tests) in
        subst (AdjustSeen frame_register bytes) given.is (record {
          adjust = LeaLong register (long_at bytes size);
          spelled =
              begins-is spelling bytes (and-left _ _ given.holds) ∙ ap (λ (k : ℕ). spelling ++ drop k bytes) (lea-length 0xa0 number)
              ∙ ap (λ (l : List ℕ). spelling ++ l) (four-at bytes size enough) ∙ sym (append_assoc spelling (long_bytes (long_at bytes size)) (drop (size + 4) bytes));
          adjusts = (frame, refl);
        })

    either-lea : (short : Option SizedAdjustment) → short_lea number bytes ≡ short → option_or short (long_lea number bytes) ≡ Some found → AdjustSeen frame_register bytes found
    either-lea (Some value) short is = short-lea-seen (short ∙ is)
    either-lea None short is = long-lea-seen is

lea-seen : (frame_register : Option Reg) (bytes : List ℕ) (found : SizedAdjustment) → lea frame_register bytes ≡ Some found → AdjustSeen frame_register bytes found
lea-seen None bytes found is = cc
lea-seen (Some register) bytes found is = either-lea (Some register) bytes found register refl (short_lea (number_of register) bytes) refl is

chosen-seen : (frame_register : Option Reg) (bytes : List ℕ) (short long by_lea : Option SizedAdjustment)
    → short_add bytes ≡ short → long_add bytes ≡ long → lea frame_register bytes ≡ by_lea → AdjustSeen frame_register bytes (chosen short long by_lea)
chosen-seen frame_register bytes (Some found) long by_lea is_short is_long is_lea = short-seen frame_register bytes found is_short
chosen-seen frame_register bytes None (Some found) by_lea is_short is_long is_lea = long-seen frame_register bytes found is_long
chosen-seen frame_register bytes None None (Some found) is_short is_long is_lea = lea-seen frame_register bytes found is_lea
chosen-seen frame_register bytes None None None is_short is_long is_lea = record { adjust = NoAdjust; spelled = refl; adjusts = refl }

adjust-seen : (frame_register : Option Reg) (bytes : List ℕ) → AdjustSeen frame_register bytes (adjustment_of frame_register bytes)
adjust-seen frame_register bytes =
    subst (AdjustSeen frame_register bytes) (sym (adjustment-is frame_register bytes _ _ _ refl refl refl)) (chosen-seen frame_register bytes _ _ _ refl refl refl)

record PopsSeen (ends : List ℕ → Bool) (bytes : List ℕ) (pops : List Reg) : Type 0 where
  tail : List ℕ
  spelled : bytes ≡ flat_map pop_bytes pops ++ tail
  end : ends tail ≡ true

module _ (ends : List ℕ → Bool) where
  pops-step : (n : ℕ) (bytes : List ℕ) (pops : List Reg) (end : Bool) → ends bytes ≡ end → (found : Option (Reg × ℕ)) → pop_of bytes ≡ found
      → ((rest : List ℕ) (more : List Reg) → pops_within ends n rest ≡ Some more → PopsSeen ends rest more)
      → (if end then Some [] else After (pops_within ends n) bytes found) ≡ Some pops → PopsSeen ends bytes pops
  pops-step n bytes pops true end found popped next is =
      let none : [] ≡ pops = cc in subst (PopsSeen ends bytes) none (record { tail = bytes; spelled = refl; end = end })
  pops-step n bytes pops false end None popped next is = cc
  pops-step n bytes pops false end (Some (register, size)) popped next is =
      let split = splits register (pops_within ends n (drop size bytes)) pops is in
      let seen = next (drop size bytes) split.more split.left_is in
      subst (PopsSeen ends bytes) (sym split.all_is) (record {
        tail = seen.tail;
        spelled =
            sym (take-append-drop size bytes) ∙ ap (λ (l : List ℕ). l ++ drop size bytes) (pop-spelled bytes register size popped)
            ∙ ap (λ (l : List ℕ). pop_bytes register ++ l) seen.spelled ∙ sym (append_assoc (pop_bytes register) (flat_map pop_bytes split.more) seen.tail);
        end = seen.end;
      })

  none-left : (bytes : List ℕ) (pops : List Reg) (end : Bool) → ends bytes ≡ end → (if end then Some [] else None) ≡ Some pops → PopsSeen ends bytes pops
  none-left bytes pops true end is = let none : [] ≡ pops = cc in subst (PopsSeen ends bytes) none (record { tail = bytes; spelled = refl; end = end })
  none-left bytes pops false end is = cc

  pops-seen : (n : ℕ) (bytes : List ℕ) (pops : List Reg) → pops_within ends n bytes ≡ Some pops → PopsSeen ends bytes pops
  pops-seen zero bytes pops is = none-left bytes pops (ends bytes) refl is
  pops-seen (suc n) bytes pops is = pops-step n bytes pops (ends bytes) refl (pop_of bytes) refl (λ rest more. pops-seen n rest more) is

  all-seen : (bytes : List ℕ) (pops : List Reg) → pops_until ends bytes ≡ Some pops → PopsSeen ends bytes pops
  unfolding pops_until
  all-seen bytes pops is = pops-seen (length bytes) bytes pops is

record LeftSeen (ends : EpilogEnds) (found : Option (List Reg)) (adjustment : SpAdjustment) (left : EpilogLeft) : Type 0 where
  popped : found ≡ Some left.pops
  adjusted : adjustment ≡ left.adjustment

left-seen : (ends : EpilogEnds) (found : Option (List Reg)) (adjustment : SpAdjustment) (left : EpilogLeft)
    → option_map (λ pops. let l : EpilogLeft = record { adjustment = adjustment; pops = pops } in l) found ≡ Some left → LeftSeen ends found adjustment left
left-seen ends None adjustment left is = cc
left-seen ends (Some pops) adjustment left is =
    let value : EpilogLeft = record { adjustment = adjustment; pops = pops } in
    let same : value ≡ left = cc in
    record { popped = ap (λ (l : EpilogLeft). Some l.pops) same; adjusted = ap (λ (l : EpilogLeft). l.adjustment) same }

spelled-as : (ends : EpilogEnds) (frame_register : Option Reg) (left : EpilogLeft) (bytes : List ℕ) → epilog_of ends frame_register bytes ≡ Some left
    → IsSpelled ends frame_register left bytes
spelled-as ends frame_register left bytes is =
    let found = adjustment_of frame_register bytes in
    let read = left-seen ends (pops_until (is_end ends) (drop found.1 bytes)) found.0 left is in
    let front = adjust-seen frame_register bytes in
    let pops = all-seen (is_end ends) (drop found.1 bytes) left.pops read.popped in
    let last = end-seen ends pops.tail pops.end in
    record {
      adjust = front.adjust;
      end = last.end;
      rest = last.rest;
      spelled =
          front.spelled ∙ ap (λ (l : List ℕ). adjust_bytes front.adjust ++ l) (pops.spelled ∙ ap (λ (l : List ℕ). flat_map pop_bytes left.pops ++ l) last.spelled);
      adjusts = subst (Adjusts frame_register front.adjust) read.adjusted front.adjusts;
      ends_it = subst (λ (l : List ℕ). Ends ends l last.end) last.spelled last.ends_it;
    }

pub read-exactly : (ends : EpilogEnds) (frame_register : Option Reg) (left : EpilogLeft) (bytes : List ℕ)
    → (epilog_of ends frame_register bytes ≡ Some left) ↔ IsSpelled ends frame_register left bytes
read-exactly ends frame_register left bytes = (spelled-as ends frame_register left bytes, read-as ends frame_register left bytes)
