-- An instruction is told by its own bytes: what stands behind them isn't read.
use Rattle.std.proofs.Common.{◌≡◌, ◌∙◌, ℕ, suc, ◌<◌, ◌≤◌, ◌+◌, ◌-◌, Bool, true, false, cond, refl, sym, ap, subst, arith, List, [], ◌∷◌, length, take, take-take, drop, Option, Some, None, Result, Ok, Err}
use Rattle.std.specs.Prelude.{◌++◌, slice_index, ◌==◌, ◌%◌, nat_lt}
use Rattle.std.proofs.lemmas.Bool.Decides.{nat_tests}
use Rattle.std.proofs.lemmas.List.{get_or_append_left, length-append, length-take, length-take-le, take-append-drop, take-append-le}
use Rattle.std.proofs.Math.Seq.{take-append-add}
use Rattle.framehop_x86_instructions.specs.Instructions.{instruction_by, instruction_in, instruction_of, instruction_with, missing, refusal, refusal_by}
use Rattle.framehop_x86_instructions.specs.Layouts.{addressing_in, layout_behind, layout_of, layout_with, length_of, modrm_in}
use Rattle.framehop_x86_instructions.specs.ModRm.{addressing_size, displacement_size, has_sib, modrm_of}
use Rattle.framehop_x86_instructions.specs.OpcodeMaps.{one_byte_map}
use Rattle.framehop_x86_instructions.specs.Opcodes.{escaped, escaped_by, is_xop, legacy, one_byte, opcode_by, opcode_of}
use Rattle.framehop_x86_instructions.specs.Operands.{has_modrm, operands_of}
use Rattle.framehop_x86_instructions.specs.Prefixes.{is_prefix, prefix_count, prefixes_of}
use Rattle.framehop_x86_instructions.specs.Effects.{effect_of}
use Rattle.framehop_x86_instructions.specs.declared.instruction.DecodeError.{DecodeError}
use Rattle.framehop_x86_instructions.specs.declared.instruction.Instruction.{Instruction}
use Rattle.framehop_x86_instructions.specs.declared.layout.Layout.{Layout}
use Rattle.framehop_x86_instructions.specs.declared.modrm.ModRm.{ModRm}
use Rattle.framehop_x86_instructions.specs.declared.opcode.Encoding.TheVariants.{Legacy, Xop}
use Rattle.framehop_x86_instructions.specs.declared.opcode.Map.TheVariants.{ThreeByte38, ThreeByte3A, TwoByte}
use Rattle.framehop_x86_instructions.specs.declared.opcode.Opcode.{Opcode}
use Rattle.framehop_x86_instructions.specs.declared.prefixes.Prefixes.{Prefixes}

-- the same byte, whatever stands behind
same_byte : (own one other : List ℕ) (i : ℕ) → i < length own → slice_index (own ++ one) i ≡ slice_index (own ++ other) i
same_byte own one other i below = get_or_append_left own one 0 i below ∙ sym (get_or_append_left own other 0 i below)

same_taken : (own one other : List ℕ) (n : ℕ) → n ≤ length own → take n (own ++ one) ≡ take n (own ++ other)
same_taken own one other n few = take-append-le n own one few ∙ sym (take-append-le n own other few)

-- ---- prefixes: the byte behind them is the instruction's own

count_by : (b : Bool) (x y n : ℕ) → cond b (suc x) 0 < suc n → (x < n → y ≡ x) → cond b (suc y) 0 ≡ cond b (suc x) 0
count_by true x y n few same = ap suc (same (omega (arith, few)))
count_by false x y n few same = refl

same_count : (own one other : List ℕ) → prefix_count (own ++ one) < length own → prefix_count (own ++ other) ≡ prefix_count (own ++ one)
same_count [] one other few = omega (arith, few)
same_count (byte ∷ own) one other few =
    count_by (is_prefix byte) (prefix_count (own ++ one)) (prefix_count (own ++ other)) (length own) few (same_count own one other)

same_prefixes : (own one other : List ℕ) → prefix_count (own ++ one) < length own → prefixes_of (own ++ one) ≡ prefixes_of (own ++ other)
same_prefixes own one other few =
    let count = same_count own one other few in
    let bytes = same_taken own one other (prefix_count (own ++ one)) (omega (arith, few)) in
    let last = same_byte own one other (prefix_count (own ++ one) - 1) (omega (arith, few)) in
    rw count (rw bytes (rw last refl))

-- ---- the opcode

-- one of two opcodes is the same if each is whose bytes are the instruction's own
same_if : (b : Bool) (x y u v : Opcode) (at n : ℕ) → (b ≡ true → at + x.size ≤ n → x ≡ u) → (at + y.size ≤ n → y ≡ v)
    → at + (cond b x y).size ≤ n → cond b x y ≡ cond b u v
same_if true x y u v at n first second few = first refl few
same_if false x y u v at n first second few = second few

-- .. and has some bytes if each has
some_if : (b : Bool) (x y : Opcode) (n : ℕ) → n ≤ x.size → n ≤ y.size → n ≤ (cond b x y).size
some_if true x y n first second = first
some_if false x y n first second = second

two_escaped : (prefixes : Prefixes) (second third : ℕ) → 2 ≤ (escaped_by prefixes second third).size
two_escaped prefixes second third =
    some_if (second == 0x38) (legacy Legacy ThreeByte38 third 3 prefixes)
    (cond (second == 0x3a) (legacy Legacy ThreeByte3A third 3 prefixes) (legacy Legacy TwoByte second 2 prefixes)) 2 (omega arith)
    (some_if (second == 0x3a) (legacy Legacy ThreeByte3A third 3 prefixes) (legacy Legacy TwoByte second 2 prefixes) 2 (omega arith) (omega arith))

same_third : (prefixes : Prefixes) (second third other at n : ℕ) → (at + 3 ≤ n → third ≡ other)
    → at + (escaped_by prefixes second third).size ≤ n → escaped_by prefixes second third ≡ escaped_by prefixes second other
same_third prefixes second third other at n same =
    same_if (second == 0x38) (legacy Legacy ThreeByte38 third 3 prefixes)
    (cond (second == 0x3a) (legacy Legacy ThreeByte3A third 3 prefixes) (legacy Legacy TwoByte second 2 prefixes))
    (legacy Legacy ThreeByte38 other 3 prefixes)
    (cond (second == 0x3a) (legacy Legacy ThreeByte3A other 3 prefixes) (legacy Legacy TwoByte second 2 prefixes)) at n
    (λ is few. ap (λ byte. legacy Legacy ThreeByte38 byte 3 prefixes) (same few))
    (same_if (second == 0x3a) (legacy Legacy ThreeByte3A third 3 prefixes) (legacy Legacy TwoByte second 2 prefixes)
    (legacy Legacy ThreeByte3A other 3 prefixes) (legacy Legacy TwoByte second 2 prefixes) at n
    (λ is few. ap (λ byte. legacy Legacy ThreeByte3A byte 3 prefixes) (same few)) (λ few. refl))

same_escaped : (prefixes : Prefixes) (own one other : List ℕ) (at : ℕ) → at + (escaped prefixes (own ++ one) at).size ≤ length own
    → escaped prefixes (own ++ one) at ≡ escaped prefixes (own ++ other) at
same_escaped prefixes own one other at few =
    let second = slice_index (own ++ one) (at + 1) in
    let third = slice_index (own ++ one) (at + 2) in
    let two = two_escaped prefixes second third in
    same_third prefixes second third (slice_index (own ++ other) (at + 2)) at (length own)
    (λ three. same_byte own one other (at + 2) (omega (arith, three))) few
    ∙ ap (λ byte. escaped_by prefixes byte (slice_index (own ++ other) (at + 2))) (same_byte own one other (at + 1) (omega (arith, two, few)))

same_opcode : (prefixes : Prefixes) (own one other : List ℕ) (at first : ℕ) → ((first == 0x8f) ≡ true → at + 1 < length own)
    → at + (opcode_by prefixes (own ++ one) at first).size ≤ length own
    → opcode_by prefixes (own ++ one) at first ≡ opcode_by prefixes (own ++ other) at first
same_opcode prefixes own one other at first pop =
    same_if (first == 0x0f) _ _ _ _ at (length own) (λ is. same_escaped prefixes own one other at)
    (same_if (first == 0xc5) _ _ _ _ at (length own)
    (λ is few. rw (same_byte own one other (at + 1) (omega (arith, few))) (rw (same_byte own one other (at + 2) (omega (arith, few))) refl))
    (same_if (first == 0xc4) _ _ _ _ at (length own)
    (λ is few. rw (same_byte own one other (at + 1) (omega (arith, few))) (rw (same_byte own one other (at + 2) (omega (arith, few)))
    (rw (same_byte own one other (at + 3) (omega (arith, few))) refl)))
    (same_if (first == 0x62) _ _ _ _ at (length own)
    (λ is few. rw (same_byte own one other (at + 1) (omega (arith, few))) (rw (same_byte own one other (at + 2) (omega (arith, few)))
    (rw (same_byte own one other (at + 4) (omega (arith, few))) refl)))
    (same_if (first == 0x8f) _ _ _ _ at (length own)
    (λ is few. rw (same_byte own one other (at + 1) (pop is)) refl)
    (λ few. refl)))))

-- 8F begins POP, whose ModRM byte is its own, or XOP, which is refused
pop_is_own : (b : Bool) (prefixes : Prefixes) (code : List ℕ) (at n : ℕ) (modrm : Opcode → ModRm)
    → let opcode = cond b (one_byte Xop prefixes 0x8f) (one_byte Legacy prefixes 0x8f) in
    refusal_by opcode.encoding (operands_of prefixes opcode) ≡ None
    → at + opcode.size + addressing_in (operands_of prefixes opcode) (modrm opcode) code (at + opcode.size) ≤ n → at + 1 < n
unfolding one_byte_map
pop_is_own true prefixes code at n modrm allowed few = cc
pop_is_own false prefixes code at n modrm allowed few = omega (arith, few)

pop_of : (prefixes : Prefixes) (code : List ℕ) (at first n : ℕ) (modrm : Opcode → ModRm) → first ≡ 0x8f
    → refusal_by (opcode_by prefixes code at first).encoding (operands_of prefixes (opcode_by prefixes code at first)) ≡ None
    → at + (opcode_by prefixes code at first).size
    + addressing_in (operands_of prefixes (opcode_by prefixes code at first)) (modrm (opcode_by prefixes code at first)) code (at + (opcode_by prefixes code at first).size) ≤ n
    → at + 1 < n
pop_of prefixes code at first n modrm is =
    subst (λ byte. refusal_by (opcode_by prefixes code at byte).encoding (operands_of prefixes (opcode_by prefixes code at byte)) ≡ None
    → at + (opcode_by prefixes code at byte).size
    + addressing_in (operands_of prefixes (opcode_by prefixes code at byte)) (modrm (opcode_by prefixes code at byte)) code (at + (opcode_by prefixes code at byte).size) ≤ n
    → at + 1 < n) (sym is) (pop_is_own (is_xop code at) prefixes code at n modrm)

some_opcode : (prefixes : Prefixes) (code : List ℕ) (at first : ℕ) → 1 ≤ (opcode_by prefixes code at first).size
some_opcode prefixes code at first =
    some_if (first == 0x0f) _ _ 1 (let two = two_escaped prefixes (slice_index code (at + 1)) (slice_index code (at + 2)) in omega (arith, two))
    (some_if (first == 0xc5) _ _ 1 (omega arith) (some_if (first == 0xc4) _ _ 1 (omega arith) (some_if (first == 0x62) _ _ 1 (omega arith)
    (some_if (first == 0x8f) _ _ 1 (some_if (is_xop code at) _ _ 1 (omega arith) (omega arith)) (omega arith)))))

-- ---- the ModRM byte and what belongs to it

same_modrm : (b : Bool) (own one other : List ℕ) (at : ℕ) (modrm : ModRm)
    → at + cond b (addressing_size modrm (own ++ one) (at + 1)) 0 ≤ length own
    → modrm_of (cond b (slice_index (own ++ one) at) 0) ≡ modrm_of (cond b (slice_index (own ++ other) at) 0)
same_modrm true own one other at modrm few = ap modrm_of (same_byte own one other at (omega (arith, few)))
same_modrm false own one other at modrm few = refl

same_sib : (b : Bool) (own one other : List ℕ) (at size rm mode : ℕ) → at + cond b 1 0 + size ≤ length own
    → displacement_size mode (cond b (slice_index (own ++ one) at % 8) rm) ≡ displacement_size mode (cond b (slice_index (own ++ other) at % 8) rm)
same_sib true own one other at size rm mode few = ap (λ byte. displacement_size mode (byte % 8)) (same_byte own one other at (omega (arith, few)))
same_sib false own one other at size rm mode few = refl

same_addressing : (b : Bool) (own one other : List ℕ) (at : ℕ) (modrm : ModRm)
    → at + cond b (addressing_size modrm (own ++ one) (at + 1)) 0 ≤ length own
    → cond b (addressing_size modrm (own ++ one) (at + 1)) 0 ≡ cond b (addressing_size modrm (own ++ other) (at + 1)) 0
same_addressing true own one other at modrm few =
    let size = displacement_size modrm.mode (cond (has_sib modrm) (slice_index (own ++ one) (at + 1) % 8) modrm.rm) in
    ap (λ n. 1 + cond (has_sib modrm) 1 0 + n)
    (same_sib (has_sib modrm) own one other (at + 1) size modrm.rm modrm.mode (let it : at + (1 + cond (has_sib modrm) 1 0 + size) ≤ length own = few in omega (arith, it)))
same_addressing false own one other at modrm few = refl

-- ---- the parts

same_behind : (prefixes : Prefixes) (opcode : Opcode) (own one other : List ℕ)
    → prefixes.count + opcode.size + (layout_behind prefixes opcode (own ++ one)).addressing ≤ length own
    → layout_behind prefixes opcode (own ++ one) ≡ layout_behind prefixes opcode (own ++ other)
same_behind prefixes opcode own one other few =
    let operands = operands_of prefixes opcode in
    let at = prefixes.count + opcode.size in
    let modrm = modrm_in operands (own ++ one) at in
    let size = same_addressing (has_modrm operands) own one other at modrm few in
    let first : layout_with prefixes opcode operands modrm (own ++ one) at ≡ layout_with prefixes opcode operands modrm (own ++ other) at = rw size refl in
    first ∙ ap (λ (m : ModRm). layout_with prefixes opcode operands m (own ++ other) at) (same_modrm (has_modrm operands) own one other at modrm few)

same_layout : (own one other : List ℕ) → refusal (layout_of (own ++ one)) ≡ None → length_of (layout_of (own ++ one)) ≤ length own
    → layout_of (own ++ one) ≡ layout_of (own ++ other)
unfolding layout_of
same_layout own one other allowed few =
    let code = own ++ one in
    let prefixes = prefixes_of code in
    let opcode = opcode_of prefixes code in
    let first = slice_index code prefixes.count in
    let some : 1 ≤ opcode.size = some_opcode prefixes code prefixes.count first in
    let fewer : prefixes.count + opcode.size + (layout_behind prefixes opcode code).addressing ≤ length own = omega (arith, few) in
    let above : prefixes.count < length own = omega (arith, fewer, some) in
    let pop : (first == 0x8f) ≡ true → prefixes.count + 1 < length own =
    λ is. pop_of prefixes code prefixes.count first (length own) (λ o. modrm_in (operands_of prefixes o) code (prefixes.count + o.size)) (grind (arith, nat_tests, is)) allowed fewer in
    let same : opcode ≡ opcode_of prefixes (own ++ other) =
    same_opcode prefixes own one other prefixes.count first pop (omega (arith, fewer))
    ∙ ap (opcode_by prefixes (own ++ other) prefixes.count) (same_byte own one other prefixes.count above) in
    same_behind prefixes opcode own one other fewer
    ∙ ap (λ o. layout_behind prefixes o (own ++ other)) same
    ∙ ap (λ p. layout_behind p (opcode_of p (own ++ other)) (own ++ other)) (same_prefixes own one other above)

-- ---- the instruction

passes : (b : Bool) (error : DecodeError) (rest : Result Instruction DecodeError) (instruction : Instruction) → cond b (Err error) rest ≡ Ok instruction
    → (b ≡ false) × (rest ≡ Ok instruction)
passes true error rest instruction is = cc
passes false error rest instruction is = (refl, is)

allowed_by : (code : List ℕ) (layout : Layout) (why : Option DecodeError) (instruction : Instruction)
    → instruction_with code layout why ≡ Ok instruction → why ≡ None
allowed_by code layout (Some error) instruction is = cc
allowed_by code layout None instruction is = refl

-- the instruction with some parts, whose bytes are there
abbrev found_by : List ℕ → Layout → Instruction
found_by code layout = record { length = length_of layout; effect = effect_of (take (length_of layout) code) layout }

-- what is known of the parts of an instruction
record IsBy (code : List ℕ) (layout : Layout) (instruction : Instruction) : Type 0 where
  allowed : refusal layout ≡ None
  long : instruction.length ≡ length_of layout
  within : length_of layout ≤ length code
  is : found_by code layout ≡ instruction

is_by : (code : List ℕ) (layout : Layout) (instruction : Instruction) → instruction_by code layout ≡ Ok instruction → IsBy code layout instruction
is_by code layout instruction is =
    let first = passes (nat_lt (length code) (layout.prefixes.count + layout.opcode.size)) (missing code) (instruction_with code layout (refusal layout)) instruction is in
    let allowed = allowed_by code layout (refusal layout) instruction first.1 in
    let found = found_by code layout in
    let second = passes (nat_lt (length code) (length_of layout)) (missing code) (Ok found) instruction (subst (λ why. instruction_with code layout why ≡ Ok instruction) allowed first.1) in
    let same : found ≡ instruction = let it = second.1 in cc in
    record {
      allowed = allowed;
      long = ap (λ (i : Instruction). i.length) (sym same);
      within = let it = second.0 in grind (arith, nat_tests, it);
      is = same;
    }

same_instruction : (own one other : List ℕ) (instruction : Instruction) → length own ≡ instruction.length
    → instruction_in (own ++ one) ≡ Ok instruction → instruction_in (own ++ other) ≡ Ok instruction
same_instruction own one other instruction sized is =
    let layout = layout_of (own ++ one) in
    let by = is_by (own ++ one) layout instruction is in
    let whole : length_of layout ≤ length own = omega (arith, sized, by.long) in
    let sum = length-append own other in
    let far : nat_lt (length (own ++ other)) (layout.prefixes.count + layout.opcode.size) ≡ false = grind (arith, nat_tests, whole, sum) in
    let farther : nat_lt (length (own ++ other)) (length_of layout) ≡ false = grind (arith, nat_tests, whole, sum) in
    let bytes = same_taken own one other (length_of layout) whole in
    subst (λ l. instruction_by (own ++ other) l ≡ Ok instruction) (same_layout own one other by.allowed whole)
    (rw far (rw by.allowed (rw farther (rw (sym bytes) (ap (λ (i : Instruction). Ok i) by.is)))))

pub beginning : (code more : List ℕ) (instruction : Instruction) → instruction_of code ≡ Ok instruction
    → instruction_of (take instruction.length code ++ more) ≡ Ok instruction
beginning code more instruction is =
    let first = take 15 code in
    let by = is_by first (layout_of first) instruction is in
    let few : instruction.length ≤ length first = omega (arith, by.long, by.within) in
    let most : length first ≤ 15 = let it = length-take 15 code in omega (arith, it) in
    let long : instruction.length ≤ length code = let it = length-take 15 code in omega (arith, it, few) in
    let own = take instruction.length code in
    let sized : length own ≡ instruction.length = length-take-le instruction.length code long in
    let same : first ≡ own ++ drop instruction.length first =
    sym (take-append-drop instruction.length first) ∙ ap (λ bytes. bytes ++ drop instruction.length first) (take-take instruction.length 15 code (omega (arith, few, most))) in
    let room : 15 ≡ length own + (15 - instruction.length) = omega (arith, sized, few, most) in
    let behind : take 15 (own ++ more) ≡ own ++ take (15 - instruction.length) more =
    ap (λ n. take n (own ++ more)) room ∙ take-append-add own more (15 - instruction.length) in
    rw behind (same_instruction own (drop instruction.length first) (take (15 - instruction.length) more) instruction sized (subst (λ bytes. instruction_in bytes ≡ Ok instruction) same is))
