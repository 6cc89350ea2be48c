-- Pops at the start of some bytes can be read in one way.
use Rattle.std.proofs.Common.{◌≡◌, ◌≢◌, ◌∙◌, ℕ, zero, suc, ◌+◌, ◌-◌, ◌<◌, ◌≤◌, refl, sym, ap, subst, arith, ◌⊎◌, inl, inr, Bool, true, false, List, [], ◌∷◌, ◌++◌, length, append_assoc, append-nil, length-append, Option, Some, None}
use Rattle.std.specs.List.{AllByRecursion}
use Rattle.framehop_analysis.specs.Instructions.{RexPrefix, NoRex, Rex, RexB, Instruction, Push, Pop, SetFramePointer, Return, Jump, Fits, bytes_of, spelling, is_plain_rbp_pop}
use Rattle.std.specs.Option.{IfNone}
use Rattle.framehop_analysis.specs.Found.{IsFound}
use Rattle.framehop_analysis.specs.Epilogue.{IsEpilogue, IsEpilogueRule, ends_like_pop, LeavesFunction, is_pop_byte, last_rbp_pop, one_further, epilogue_rule, rule_of_pops}
use Rattle.framehop_analysis.specs.EpilogueViews.{after_rex, leaves_function, BeginsWithNoPop, IsPop, IsPopThen, IsPopRun}
use Rattle.std.proofs.lemmas.Bool.Decides.{nat_tests, Decides-eqb}
use Rattle.std.specs.Prelude.{◌==◌, ◌||◌, ◌&&◌, nat_lt, take, drop, if◌then◌else◌}
use Rattle.framehop_rules.specs.declared.x86_64.unwind_rule.UnwindRuleX86_64.{UnwindRuleX86_64}

-- ---- one pop

record IsSame (p q : RexPrefix) (l m : ℕ) (r t : List ℕ) : Type 0 where
  pub rex : p ≡ q
  pub low : l ≡ m
  pub suffix : r ≡ t

head_of : List ℕ → ℕ
head_of [] = 0
head_of (x ∷ xs) = x

pub heads : (x y : ℕ) (r t : List ℕ) → x ∷ r ≡ y ∷ t → x ≡ y
heads x y r t same = cc

tails : (x y : ℕ) (r t : List ℕ) → x ∷ r ≡ y ∷ t → r ≡ t
tails x y r t same = cc

one_pop : (p q : RexPrefix) (l m : ℕ) (r t : List ℕ) → l < 8 → m < 8
    → bytes_of (Pop p l) ++ r ≡ bytes_of (Pop q m) ++ t → IsSame p q l m r t
one_pop NoRex NoRex l m r t in_l in_m same = record { rex = refl; low = omega (arith, heads (88 + l) (88 + m) r t same); suffix = tails (88 + l) (88 + m) r t same }
one_pop NoRex Rex l m r t in_l in_m same = absurd (omega (arith, heads (88 + l) 64 r ((88 + m) ∷ t) same))
one_pop NoRex RexB l m r t in_l in_m same = absurd (omega (arith, heads (88 + l) 65 r ((88 + m) ∷ t) same))
one_pop Rex NoRex l m r t in_l in_m same = absurd (omega (arith, heads 64 (88 + m) ((88 + l) ∷ r) t same))
one_pop Rex Rex l m r t in_l in_m same =
    let more = tails 64 64 ((88 + l) ∷ r) ((88 + m) ∷ t) same in
    record { rex = refl; low = omega (arith, heads (88 + l) (88 + m) r t more); suffix = tails (88 + l) (88 + m) r t more }
one_pop Rex RexB l m r t in_l in_m same = absurd (omega (arith, heads 64 65 ((88 + l) ∷ r) ((88 + m) ∷ t) same))
one_pop RexB NoRex l m r t in_l in_m same = absurd (omega (arith, heads 65 (88 + m) ((88 + l) ∷ r) t same))
one_pop RexB Rex l m r t in_l in_m same = absurd (omega (arith, heads 65 64 ((88 + l) ∷ r) ((88 + m) ∷ t) same))
one_pop RexB RexB l m r t in_l in_m same =
    let more = tails 65 65 ((88 + l) ∷ r) ((88 + m) ∷ t) same in
    record { rex = refl; low = omega (arith, heads (88 + l) (88 + m) r t more); suffix = tails (88 + l) (88 + m) r t more }

-- a pop isn't a return or a jump
not_leave : (p : RexPrefix) (l first : ℕ) (r t : List ℕ) → l < 8 → 0xc3 < first + 1 → bytes_of (Pop p l) ++ r ≢ first ∷ t
not_leave NoRex l first r t in_l high same = omega (arith, heads (88 + l) first r t same)
not_leave Rex l first r t in_l high same = omega (arith, heads 64 first ((88 + l) ∷ r) t same)
not_leave RexB l first r t in_l high same = omega (arith, heads 65 first ((88 + l) ∷ r) t same)

-- ---- a run of pops, and then a way out of the function

-- a pop stands before what comes after these
abbrev pub after_pop : Bool → List Instruction → Bool
after_pop is_after_pop [] = is_after_pop
after_pop is_after_pop (pop ∷ more) = true

pub record HasLast (is_after_pop : Bool) (pops : List Instruction) (rest : List ℕ) (instructions : List Instruction) (suffix : List ℕ) : Type 0 where
  pub last : Instruction
  pub is : instructions ≡ pops ++ last ∷ []
  pub spelled : rest ≡ bytes_of last ++ suffix
  pub leaves : LeavesFunction (after_pop is_after_pop pops) (last ∷ [])
  pub fits : Fits last

pub last_of : (flag : Bool) (pops : List Instruction) (rest : List ℕ) (list : List Instruction) (suffix : List ℕ)
    → AllByRecursion IsPop pops → BeginsWithNoPop rest → AllByRecursion Fits list → LeavesFunction flag list
    → spelling pops ++ rest ≡ spelling list ++ suffix → HasLast flag pops rest list suffix
last_of flag pops rest [] suffix all none fit leaves same = absurd leaves
last_of flag [] rest (Pop q m ∷ more) suffix all none fit leaves same =
    absurd (none q m (spelling more ++ suffix) fit.0 (same ∙ append_assoc (bytes_of (Pop q m)) (spelling more) suffix))
last_of flag [] rest (Return ∷ []) suffix all none fit leaves same =
    record { last = Return; is = refl; spelled = same; leaves = tt; fits = tt }
last_of flag [] rest (Jump first ∷ []) suffix all none fit leaves same =
    record { last = Jump first; is = refl; spelled = same; leaves = leaves; fits = fit.0 }
last_of flag (Pop p l ∷ pops) rest (Pop q m ∷ more) suffix all none fit leaves same =
    let one = one_pop p q l m (spelling pops ++ rest) (spelling more ++ suffix) all.0 fit.0
    (sym (append_assoc (bytes_of (Pop p l)) (spelling pops) rest) ∙ same ∙ append_assoc (bytes_of (Pop q m)) (spelling more) suffix) in
    let next = last_of true pops rest more suffix all.1 none fit.1 leaves one.suffix in
    record {
      last = next.last;
      is = let e = next.is in let f = one.rex in let g = one.low in cc;
      spelled = next.spelled;
      leaves = over pops next.last next.leaves;
      fits = next.fits;
    }
  where
    over : (xs : List Instruction) (last : Instruction) → LeavesFunction (after_pop true xs) (last ∷ []) → LeavesFunction true (last ∷ [])
    over [] last h = h
    over (x ∷ xs) last h = h
last_of flag (Pop p l ∷ pops) rest (Return ∷ []) suffix all none fit leaves same =
    absurd (not_leave p l 0xc3 (spelling pops ++ rest) suffix all.0 (omega arith) (sym (append_assoc (bytes_of (Pop p l)) (spelling pops) rest) ∙ same))
last_of flag (Pop p l ∷ pops) rest (Jump first ∷ []) suffix all none fit leaves same =
    absurd (not_leave p l first (spelling pops ++ rest) suffix all.0 (omega (arith, fit.0)) (sym (append_assoc (bytes_of (Pop p l)) (spelling pops) rest) ∙ same))
last_of flag (Push p l ∷ pops) rest list suffix all none fit leaves same = absurd all.0
last_of flag (SetFramePointer ∷ pops) rest list suffix all none fit leaves same = absurd all.0
last_of flag (Return ∷ pops) rest list suffix all none fit leaves same = absurd all.0
last_of flag (Jump first ∷ pops) rest list suffix all none fit leaves same = absurd all.0
last_of flag pops rest list suffix all none fit leaves same = absurd leaves

-- ---- the offset of the last pop of RBP

pub last_of_one_more : (pops : List Instruction) (pop : Instruction) → last_rbp_pop (pops ++ pop ∷ []) ≡ (if is_plain_rbp_pop pop then Some (length pops) else last_rbp_pop pops)
last_of_one_more [] pop = by (is_plain_rbp_pop pop)
  where
    by : (test : Bool) → one_further None test ≡ (if test then Some zero else None)
    by true = refl
    by false = refl
last_of_one_more (first ∷ pops) pop =
    ap (λ bp_offset. one_further bp_offset (is_plain_rbp_pop first)) (last_of_one_more pops pop) ∙ by (is_plain_rbp_pop pop)
  where
    by : (test : Bool) → one_further (if test then Some (length pops) else last_rbp_pop pops) (is_plain_rbp_pop first)
        ≡ (if test then Some (suc (length pops)) else one_further (last_rbp_pop pops) (is_plain_rbp_pop first))
    by true = refl
    by false = refl

-- the rule of pops and a way out
pub rule_with_last : (flag : Bool) (pops : List Instruction) (last : Instruction) → LeavesFunction flag (last ∷ []) → epilogue_rule (pops ++ last ∷ []) ≡ rule_of_pops (length pops) (last_rbp_pop pops)
rule_with_last flag pops last leaves =
    let same = last_of_one_more pops last ∙ ap (λ test. if test then Some (length pops) else last_rbp_pop pops) (other last leaves) in
    let count : length (pops ++ last ∷ []) - 1 ≡ length pops = omega (arith, length-append pops (last ∷ [])) in
    ap (λ n. rule_of_pops n (last_rbp_pop (pops ++ last ∷ []))) count ∙ ap (λ bp_offset. rule_of_pops (length pops) bp_offset) same
  where
    other : (last : Instruction) → LeavesFunction flag (last ∷ []) → is_plain_rbp_pop last ≡ false
    other (Pop p l) h = absurd h
    other (Push p l) h = refl
    other SetFramePointer h = refl
    other Return h = refl
    other (Jump first) h = refl

-- a pop without a prefix, and with one, from its bytes
pub plain_pop : (bytes suffix : List ℕ) (byte : ℕ) → bytes ≡ byte ∷ suffix → is_pop_byte byte ≡ true → IsPopThen bytes (byte == 93) suffix
plain_pop bytes suffix byte is test =
    let low : 88 ≤ byte = grind (arith, nat_tests) in
    let high : byte < 96 = grind (arith, nat_tests) in
    let back : 88 + (byte - 88) ≡ byte = omega arith in
    record {
      rex = NoRex;
      low = byte - 88;
      fits = omega arith;
      spelled = is ∙ ap (λ x. x ∷ suffix) (sym back);
      is_bp = by (byte == 93) ((byte - 88) == 5) refl refl;
    }
  where
    by : (a b : Bool) → (byte == 93) ≡ a → ((byte - 88) == 5) ≡ b → (byte == 93) ≡ ((byte - 88) == 5)
    by a b is_a is_b = grind (arith, nat_tests)

pub pop_with_rex : (bytes more suffix : List ℕ) (first second : ℕ) → bytes ≡ first ∷ more → more ≡ second ∷ suffix → (first ≡ 64) ⊎ (first ≡ 65) → is_pop_byte second ≡ true → IsPopThen bytes false suffix
pop_with_rex bytes more suffix first second is is_more (inl rex) test =
    let low : 88 ≤ second = grind (arith, nat_tests) in
    let high : second < 96 = grind (arith, nat_tests) in
    let back : 88 + (second - 88) ≡ second = omega arith in
    record { rex = Rex; low = second - 88; fits = omega arith; spelled = let e = ap (λ x. 64 ∷ x ∷ suffix) (sym back) in cc; is_bp = refl }
pop_with_rex bytes more suffix first second is is_more (inr rex_b) test =
    let low : 88 ≤ second = grind (arith, nat_tests) in
    let high : second < 96 = grind (arith, nat_tests) in
    let back : 88 + (second - 88) ≡ second = omega arith in
    record { rex = RexB; low = second - 88; fits = omega arith; spelled = let e = ap (λ x. 65 ∷ x ∷ suffix) (sym back) in cc; is_bp = refl }

-- the pop that is read after a prefix or none
pub pop_read : (bytes rest suffix : List ℕ) (first byte : ℕ) → bytes ≡ first ∷ rest → after_rex bytes ≡ byte ∷ suffix → is_pop_byte byte ≡ true
    → IsPopThen bytes (first == 93) suffix
pop_read bytes rest suffix first byte is is_after test = by (first == 64) (first == 65) refl refl
  where
    read : after_rex (first ∷ rest) ≡ byte ∷ suffix
    read = sym (ap after_rex is) ∙ is_after

    with_rex : rest ≡ byte ∷ suffix → (first ≡ 64) ⊎ (first ≡ 65) → (first == 93) ≡ false → IsPopThen bytes (first == 93) suffix
    with_rex is_rest rex other = subst (λ (b : Bool). IsPopThen bytes b suffix) (sym other) (pop_with_rex bytes rest suffix first byte is is_rest rex test)

    by : (a b : Bool) → (first == 64) ≡ a → (first == 65) ≡ b → IsPopThen bytes (first == 93) suffix
    by true b is_a is_b =
        let same : first ≡ 64 = grind (arith, nat_tests) in
        with_rex (ap (λ (t : Bool). if t || (first == 65) then rest else first ∷ rest) (sym is_a) ∙ read) (inl same) (ap (λ n. n == 93) same)
    by false true is_a is_b =
        let same : first ≡ 65 = grind (arith, nat_tests) in
        with_rex (ap (λ (t : Bool). if t then rest else first ∷ rest) (sym (ap (λ (t : Bool). t || (first == 65)) is_a ∙ is_b)) ∙ read) (inr same) (ap (λ n. n == 93) same)
    by false false is_a is_b =
        let whole : first ∷ rest ≡ byte ∷ suffix = ap (λ (t : Bool). if t then rest else first ∷ rest) (sym (ap (λ (t : Bool). t || (first == 65)) is_a ∙ is_b)) ∙ read in
        subst (λ (n : ℕ). IsPopThen bytes (n == 93) suffix) (sym (heads first byte rest suffix whole)) (plain_pop bytes suffix byte (is ∙ whole) test)

-- what is said of none holds, if it holds anyway
pub if_none : {A B : Type 0} (o : Option A) → B → IfNone o B
if_none None is = is
if_none (Some x) is = tt

-- none is read
pub no_pop_read : (bytes : List ℕ) → ((byte : ℕ) (suffix : List ℕ) → after_rex bytes ≡ byte ∷ suffix → is_pop_byte byte ≡ true → ⊥) → BeginsWithNoPop bytes
no_pop_read bytes none rex low suffix fits is = by rex is
  where
    test : is_pop_byte (88 + low) ≡ true
    test = grind (arith, nat_tests, fits)

    by : (rex : RexPrefix) → bytes ≡ bytes_of (Pop rex low) ++ suffix → ⊥
    by Rex is = none (88 + low) suffix (ap after_rex is) test
    by RexB is = none (88 + low) suffix (ap after_rex is) test
    by NoRex is =
        let a : ((88 + low) == 64) ≡ false = grind (arith, nat_tests) in
        let b : ((88 + low) == 65) ≡ false = grind (arith, nat_tests) in
        none (88 + low) suffix (ap after_rex is ∙ ap (λ (t : Bool). if t then suffix else (88 + low) ∷ suffix) (ap (λ (t : Bool). t || ((88 + low) == 65)) a ∙ b)) test

-- a run of pops, and one more
pub run_and_one : (bytes suffix rest : List ℕ) (pops : List Instruction) (count : ℕ) (bp_offset_by_8 : Option ℕ) (is_plain_rbp : Bool) (new_offset : Option ℕ)
    → IsPopRun bytes pops count bp_offset_by_8 suffix → IsPopThen suffix is_plain_rbp rest
    → new_offset ≡ (if is_plain_rbp then Some count else bp_offset_by_8)
    → (more : List Instruction) × IsPopRun bytes more (count + 1) new_offset rest
run_and_one bytes suffix rest pops count bp_offset_by_8 is_plain_rbp new_offset run pop bp_offset =
    let one = Pop pop.rex pop.low in (
      pops ++ one ∷ [],
      record {
        all = all_more pops run.all;
        spelled = run.spelled ∙ ap (λ bs. spelling pops ++ bs) pop.spelled ∙ sym (append_assoc (spelling pops) (bytes_of one) rest) ∙ ap (λ bs. bs ++ rest) (sym (spelling_more pops one));
        counted = omega (arith, run.counted, length-append pops (one ∷ []));
        bp_offset = bp_offset ∙ sym (last_of_one_more pops one ∙ ap (λ test. if test then Some (length pops) else last_rbp_pop pops) (sym pop.is_bp) ∙ same is_plain_rbp);
        within = omega (arith, run.within, ap length pop.spelled, length-append (bytes_of one) rest, some pop.rex pop.low);
      },
    )
  where
    all_more : (xs : List Instruction) → AllByRecursion IsPop xs → AllByRecursion IsPop (xs ++ Pop pop.rex pop.low ∷ [])
    all_more [] h = (pop.fits, tt)
    all_more (x ∷ xs) h = (h.0, all_more xs h.1)

    spelling_more : (xs : List Instruction) (x : Instruction) → spelling (xs ++ x ∷ []) ≡ spelling xs ++ bytes_of x
    spelling_more [] x = append-nil (bytes_of x)
    spelling_more (y ∷ xs) x = ap (λ bs. bytes_of y ++ bs) (spelling_more xs x) ∙ sym (append_assoc (bytes_of y) (spelling xs) (bytes_of x))

    same : (test : Bool) → (if test then Some (length pops) else last_rbp_pop pops) ≡ (if test then Some count else bp_offset_by_8)
    same true = ap Some (sym run.counted)
    same false = sym run.bp_offset

    some : (p : RexPrefix) (l : ℕ) → 1 ≤ length (bytes_of (Pop p l))
    some NoRex l = omega arith
    some Rex l = omega arith
    some RexB l = omega arith

-- ---- the way out

-- a pop stands before it
flag_is : (flag : Bool) (pops : List Instruction) (count : ℕ) → count ≡ length pops → (nat_lt 0 count || flag) ≡ after_pop flag pops
flag_is flag [] count is = rw is refl
flag_is flag (pop ∷ pops) count is =
    let some : nat_lt 0 count ≡ true = grind (arith, nat_tests) in ap (λ test. test || flag) some

leaves_by : (flag : Bool) (last : Instruction) (suffix : List ℕ) → LeavesFunction flag (last ∷ []) → Fits last → leaves_function flag (bytes_of last ++ suffix) ≡ true
leaves_by flag Return suffix leaves fits = refl
leaves_by true (Jump first) suffix leaves (inl e) = rw e refl
leaves_by true (Jump first) suffix leaves (inr (inl e)) = rw e refl
leaves_by true (Jump first) suffix leaves (inr (inr e)) = rw e refl
leaves_by false (Jump first) suffix leaves fits = cc
leaves_by flag (Push p l) suffix leaves fits = absurd leaves
leaves_by flag (Pop p l) suffix leaves fits = absurd leaves
leaves_by flag SetFramePointer suffix leaves fits = absurd leaves

record IsLeft (flag : Bool) (rest : List ℕ) : Type 0 where
  pub last : Instruction
  pub suffix : List ℕ
  pub spelled : rest ≡ bytes_of last ++ suffix
  pub leaves : LeavesFunction flag (last ∷ [])
  pub fits : Fits last

left_by : (flag : Bool) (rest : List ℕ) → leaves_function flag rest ≡ true → IsLeft flag rest
left_by flag [] is = cc
left_by true (byte ∷ more) is = by (byte == 0xc3) (byte == 0xe9) (byte == 0xeb) (byte == 0xff) refl refl refl refl
  where
    by : (a b c d : Bool) → (byte == 0xc3) ≡ a → (byte == 0xe9) ≡ b → (byte == 0xeb) ≡ c → (byte == 0xff) ≡ d → IsLeft true (byte ∷ more)
    by true b c d h i j k = record { last = Return; suffix = more; spelled = ap (λ x. x ∷ more) ((Decides-eqb byte 0xc3).0 h); leaves = tt; fits = tt }
    by false true c d h i j k = record { last = Jump byte; suffix = more; spelled = refl; leaves = refl; fits = inl ((Decides-eqb byte 0xe9).0 i) }
    by false false true d h i j k = record { last = Jump byte; suffix = more; spelled = refl; leaves = refl; fits = inr (inl ((Decides-eqb byte 0xeb).0 j)) }
    by false false false true h i j k = record { last = Jump byte; suffix = more; spelled = refl; leaves = refl; fits = inr (inr ((Decides-eqb byte 0xff).0 k)) }
    by false false false false h i j k = absurd (let e = is in let t = ap (λ a. a || (((byte == 0xe9) || (byte == 0xeb) || (byte == 0xff)) && true)) h in cc)
left_by false (byte ∷ more) is = by (byte == 0xc3) ((byte == 0xe9) || (byte == 0xeb) || (byte == 0xff)) refl is
  where
    by : (a b : Bool) → (byte == 0xc3) ≡ a → (a || (b && false)) ≡ true → IsLeft false (byte ∷ more)
    by true b h i = record { last = Return; suffix = more; spelled = ap (λ x. x ∷ more) ((Decides-eqb byte 0xc3).0 h); leaves = tt; fits = tt }
    by false true h i = cc
    by false false h i = cc

pub record IsRead (text : List ℕ) (offset : ℕ) (list : List Instruction) (count : ℕ) (bp_offset : Option ℕ) (rest : List ℕ) : Type 0 where
  pub left : leaves_function (nat_lt 0 count || ends_like_pop (take offset text)) rest ≡ true
  pub rule : epilogue_rule list ≡ rule_of_pops count bp_offset

-- an epilogue at the offset is what was read
pub epilogue_is_read : (text : List ℕ) (offset : ℕ) (list pops : List Instruction) (count : ℕ) (bp_offset : Option ℕ) (rest : List ℕ)
    → IsPopRun (drop offset text) pops count bp_offset rest → BeginsWithNoPop rest → IsEpilogue text offset list → IsRead text offset list count bp_offset rest
epilogue_is_read text offset list pops count bp_offset rest run none there =
    let flag = ends_like_pop (take offset text) in
    let found = last_of flag pops rest list there.suffix run.all none there.fit there.leaves (sym run.spelled ∙ there.spelled) in
    record {
      left = ap (λ f. leaves_function f rest) (flag_is flag pops count run.counted)
          ∙ ap (λ bs. leaves_function (after_pop flag pops) bs) found.spelled
          ∙ leaves_by (after_pop flag pops) found.last there.suffix found.leaves found.fits;
      rule = ap epilogue_rule found.is ∙ rule_with_last (after_pop flag pops) pops found.last found.leaves
          ∙ ap (λ n. rule_of_pops n (last_rbp_pop pops)) (sym run.counted) ∙ ap (λ p. rule_of_pops count p) (sym run.bp_offset);
    }

-- what was read is an epilogue
pub read_is_epilogue : (text : List ℕ) (offset : ℕ) (pops : List Instruction) (count : ℕ) (bp_offset : Option ℕ) (rest : List ℕ)
    → IsPopRun (drop offset text) pops count bp_offset rest → leaves_function (nat_lt 0 count || ends_like_pop (take offset text)) rest ≡ true
    → (list : List Instruction) × IsEpilogue text offset list
read_is_epilogue text offset pops count bp_offset rest run left =
    let flag = ends_like_pop (take offset text) in
    let last = left_by (after_pop flag pops) rest (ap (λ f. leaves_function f rest) (sym (flag_is flag pops count run.counted)) ∙ left) in (
      pops ++ last.last ∷ [],
      record {
        fit = fit pops run.all last.last last.fits;
        suffix = last.suffix;
        spelled = run.spelled ∙ ap (λ bs. spelling pops ++ bs) last.spelled ∙ spelled pops last.last last.suffix;
        leaves = leaves flag pops run.all last.last last.leaves;
      },
    )
  where
    fit : (xs : List Instruction) → AllByRecursion IsPop xs → (last : Instruction) → Fits last → AllByRecursion Fits (xs ++ last ∷ [])
    fit [] h last f = (f, tt)
    fit (Pop p l ∷ xs) h last f = (h.0, fit xs h.1 last f)
    fit (other ∷ xs) h last f = absurd h.0

    spelled : (xs : List Instruction) (last : Instruction) (suffix : List ℕ) → spelling xs ++ (bytes_of last ++ suffix) ≡ spelling (xs ++ last ∷ []) ++ suffix
    spelled [] last suffix = ap (λ bs. bs ++ suffix) (sym (append-nil (bytes_of last)))
    spelled (x ∷ xs) last suffix = append_assoc (bytes_of x) (spelling xs) (bytes_of last ++ suffix) ∙ ap (λ bs. bytes_of x ++ bs) (spelled xs last suffix) ∙ sym (append_assoc (bytes_of x) (spelling (xs ++ last ∷ [])) suffix)

    leaves : (flag : Bool) (xs : List Instruction) → AllByRecursion IsPop xs → (last : Instruction) → LeavesFunction (after_pop flag xs) (last ∷ []) → LeavesFunction flag (xs ++ last ∷ [])
    leaves flag [] h last l = l
    leaves flag (Pop p m ∷ []) h last l = l
    leaves flag (Pop p m ∷ Pop q n ∷ xs) h last l = leaves true (Pop q n ∷ xs) h.1 last l
    leaves flag (Pop p m ∷ other ∷ xs) h last l = absurd h.1.0
    leaves flag (other ∷ xs) h last l = absurd h.0

-- the rule of the pops that were read
pub read_epilogue : (text : List ℕ) (offset : ℕ) (pops : List Instruction) (count : ℕ) (bp_offset : Option ℕ) (rest : List ℕ) (result : Option UnwindRuleX86_64)
    → IsPopRun (drop offset text) pops count bp_offset rest → BeginsWithNoPop rest → leaves_function (nat_lt 0 count || ends_like_pop (take offset text)) rest ≡ true
    → result ≡ rule_of_pops count bp_offset → IsFound (IsEpilogueRule text offset) result
read_epilogue text offset pops count bp_offset rest result run none left result_is = λ rule. (
  λ is.
      let (list, stands) = read_is_epilogue text offset pops count bp_offset rest run left in
      (list, stands, (epilogue_is_read text offset list pops count bp_offset rest run none stands).rule ∙ sym result_is ∙ is),
  λ wanted.
      let (list, stands, is) = wanted in
      result_is ∙ sym (epilogue_is_read text offset list pops count bp_offset rest run none stands).rule ∙ is,
)

-- no return comes after them
pub no_epilogue : (text : List ℕ) (offset : ℕ) (pops : List Instruction) (count : ℕ) (bp_offset : Option ℕ) (rest : List ℕ)
    → IsPopRun (drop offset text) pops count bp_offset rest → BeginsWithNoPop rest → leaves_function (nat_lt 0 count || ends_like_pop (take offset text)) rest ≡ false
    → IsFound (IsEpilogueRule text offset) None
no_epilogue text offset pops count bp_offset rest run none not_left = λ rule. (
  λ is. cc,
  λ wanted.
      let (list, stands, is) = wanted in
      let left = (epilogue_is_read text offset list pops count bp_offset rest run none stands).left in
      cc,
)
