-- Pushes at the end of some bytes: the longest run is the one that is read greedily.
use Rattle.std.proofs.Common.{◌≡◌, ◌≢◌, ◌∙◌, ℕ, ◌+◌, ◌-◌, ◌<◌, ◌≤◌, refl, sym, ap, subst, arith, ◌⊎◌, inl, inr, Bool, true, false, List, [], ◌∷◌, ◌++◌, length, append_assoc, append-nil, length-append, IsTrue, drop, Option, None}
use Rattle.std.specs.List.{AllByRecursion}
use Rattle.std.specs.Prelude.{take, if◌then◌else◌, ◌↔◌, ◌&&◌, ◌||◌, ◌==◌, nat_le}
use Rattle.std.proofs.lemmas.Bool.Decides.{nat_tests, Decides-eqb}
use Rattle.framehop_analysis.specs.Instructions.{RexPrefix, NoRex, Rex, RexB, Instruction, Push, Pop, SetFramePointer, Return, Jump, bytes_of, spelling}
use Rattle.framehop_analysis.specs.Prologue.{Next, NextPush, NextSubtract, NextSetFramePointer, NextFits, next_bytes, IsExpected, IsPush, IsLongestRun, IsPrologue, IsPrologueRule, EndsWith, frame_setup, prologue_rule, rule_of_pushes}
use Rattle.framehop_analysis.specs.PrologueViews.{is_rex_byte, is_expected, is_push_byte, EndsWithPush, EndsWithNoPush, IsGreedyRun}
use Rattle.framehop_analysis.specs.Found.{IsFound}
use Rattle.framehop_rules.specs.declared.x86_64.unwind_rule.UnwindRuleX86_64.{UnwindRuleX86_64}

-- ---- lists by their ends

record IsSnoc (a b : List ℕ) (x y : ℕ) : Type 0 where
  pub prefixes : a ≡ b
  pub lasts : x ≡ y

snoc_same : (a b : List ℕ) (x y : ℕ) → a ++ x ∷ [] ≡ b ++ y ∷ [] → IsSnoc a b x y
snoc_same [] [] x y same = record { prefixes = refl; lasts = cc }
snoc_same [] (b ∷ []) x y same = cc
snoc_same [] (b ∷ c ∷ ys) x y same = cc
snoc_same (a ∷ []) [] x y same = cc
snoc_same (a ∷ c ∷ xs) [] x y same = cc
snoc_same (a ∷ xs) (b ∷ ys) x y same =
    let rest : xs ++ x ∷ [] ≡ ys ++ y ∷ [] = cc in
    let next = snoc_same xs ys x y rest in
    let head : a ≡ b = cc in
    let tail = next.prefixes in
    record { prefixes = cc; lasts = next.lasts }

record IsEnded (xs : List Instruction) : Type 0 where
  pub init : List Instruction
  pub last : Instruction
  pub is : xs ≡ init ++ last ∷ []

by_end : (xs : List Instruction) → (xs ≡ []) ⊎ IsEnded xs
by_end [] = inl refl
by_end (x ∷ xs) = elim (by_end xs) [
  | inl empty ↦ inr (record { init = []; last = x; is = ap (λ rest. x ∷ rest) empty })
  | inr ended ↦ inr (record { init = x ∷ ended.init; last = ended.last; is = ap (λ rest. x ∷ rest) ended.is })
]

all_parts : (xs : List Instruction) (last : Instruction) → AllByRecursion IsPush (xs ++ last ∷ []) → AllByRecursion IsPush xs × IsPush last
all_parts [] last all = (tt, all.0)
all_parts (x ∷ xs) last all = let rest = all_parts xs last all.1 in ((all.0, rest.0), rest.1)

spelling_end : (xs : List Instruction) (last : Instruction) → spelling (xs ++ last ∷ []) ≡ spelling xs ++ bytes_of last
spelling_end [] last = append-nil (bytes_of last)
spelling_end (x ∷ xs) last = ap (λ bs. bytes_of x ++ bs) (spelling_end xs last) ∙ sym (append_assoc (bytes_of x) (spelling xs) (bytes_of last))

-- ---- one push

two : (f : List ℕ) (x y : ℕ) → f ++ (x ∷ y ∷ []) ≡ (f ++ x ∷ []) ++ y ∷ []
two f x y = sym (append_assoc f (x ∷ []) (y ∷ []))

pub plain_push : (bytes before : List ℕ) (byte : ℕ) → bytes ≡ before ++ byte ∷ [] → is_push_byte byte ≡ true
    → ((b : ℕ) (more : List ℕ) → (b ≡ 0x40) ⊎ (b ≡ 0x41) → before ≢ more ++ b ∷ []) → EndsWithPush bytes before
plain_push bytes before byte is test whole =
    let low : 80 ≤ byte = grind (arith, nat_tests) in
    let high : byte < 88 = grind (arith, nat_tests) in
    let back : 80 + (byte - 80) ≡ byte = omega arith in
    record { rex = NoRex; low = byte - 80; fits = omega arith; spelled = is ∙ ap (λ x. before ++ x ∷ []) (sym back); whole = λ e. whole }

pub push_with_rex : (bytes before prefix : List ℕ) (byte previous : ℕ) → bytes ≡ before ++ byte ∷ [] → before ≡ prefix ++ previous ∷ []
    → (previous ≡ 0x40) ⊎ (previous ≡ 0x41) → is_push_byte byte ≡ true → EndsWithPush bytes prefix
push_with_rex bytes before prefix byte previous is is_before (inl rex) test =
    let low : 80 ≤ byte = grind (arith, nat_tests) in
    let high : byte < 88 = grind (arith, nat_tests) in
    let back : 80 + (byte - 80) ≡ byte = omega arith in
    record {
      rex = Rex;
      low = byte - 80;
      fits = omega arith;
      spelled = is ∙ ap (λ bs. bs ++ byte ∷ []) is_before ∙ sym (two prefix previous byte) ∙ ap (λ x. prefix ++ (x ∷ byte ∷ [])) rex ∙ ap (λ x. prefix ++ (0x40 ∷ x ∷ [])) (sym back);
      whole = λ e. cc;
    }
push_with_rex bytes before prefix byte previous is is_before (inr rex_b) test =
    let low : 80 ≤ byte = grind (arith, nat_tests) in
    let high : byte < 88 = grind (arith, nat_tests) in
    let back : 80 + (byte - 80) ≡ byte = omega arith in
    record {
      rex = RexB;
      low = byte - 80;
      fits = omega arith;
      spelled = is ∙ ap (λ bs. bs ++ byte ∷ []) is_before ∙ sym (two prefix previous byte) ∙ ap (λ x. prefix ++ (x ∷ byte ∷ [])) rex_b ∙ ap (λ x. prefix ++ (0x41 ∷ x ∷ [])) (sym back);
      whole = λ e. cc;
    }

pub no_push : (bytes before : List ℕ) (byte : ℕ) → bytes ≡ before ++ byte ∷ [] → is_push_byte byte ≡ false → EndsWithNoPush bytes
no_push bytes before byte is fails rex low prefix fits same = by rex same
  where
    passes : is_push_byte (80 + low) ≡ true
    passes = grind (arith, nat_tests, fits)

    differs : (front : List ℕ) → bytes ≡ front ++ (80 + low) ∷ [] → ⊥
    differs front ends =
        let last = (snoc_same before front byte (80 + low) (sym is ∙ ends)).lasts in
        let no : false ≡ true = sym fails ∙ ap is_push_byte last ∙ passes in
        cc

    by : (rex : RexPrefix) → bytes ≡ prefix ++ bytes_of (Push rex low) → ⊥
    by NoRex ends = differs prefix ends
    by Rex ends = differs (prefix ++ 0x40 ∷ []) (ends ∙ two prefix 0x40 (80 + low))
    by RexB ends = differs (prefix ++ 0x41 ∷ []) (ends ∙ two prefix 0x41 (80 + low))

-- the push that is read, and another one that the bytes end with: the same, or without the prefix
abbrev NeedsPrefix : RexPrefix → List ℕ → Type 0
NeedsPrefix q f = q ≡ NoRex → (byte : ℕ) (more : List ℕ) → (byte ≡ 0x40) ⊎ (byte ≡ 0x41) → f ≢ more ++ byte ∷ []

abbrev IsBefore : List ℕ → List ℕ → Type 0
IsBefore g f = (g ≡ f) ⊎ ((byte : ℕ) × (byte < 80) × (g ≡ f ++ byte ∷ []))

other_push : (f g : List ℕ) (q p : RexPrefix) (m l : ℕ) → NeedsPrefix q f → g ++ bytes_of (Push p l) ≡ f ++ bytes_of (Push q m) → IsBefore g f
other_push f g NoRex NoRex m l whole same = inl (snoc_same g f (80 + l) (80 + m) same).prefixes
other_push f g NoRex Rex m l whole same =
    let one = snoc_same (g ++ 0x40 ∷ []) f (80 + l) (80 + m) (sym (two g 0x40 (80 + l)) ∙ same) in absurd (whole refl 0x40 g (inl refl) (sym one.prefixes))
other_push f g NoRex RexB m l whole same =
    let one = snoc_same (g ++ 0x41 ∷ []) f (80 + l) (80 + m) (sym (two g 0x41 (80 + l)) ∙ same) in absurd (whole refl 0x41 g (inr refl) (sym one.prefixes))
other_push f g Rex NoRex m l whole same = inr (0x40, omega arith, (snoc_same g (f ++ 0x40 ∷ []) (80 + l) (80 + m) (same ∙ two f 0x40 (80 + m))).prefixes)
other_push f g RexB NoRex m l whole same = inr (0x41, omega arith, (snoc_same g (f ++ 0x41 ∷ []) (80 + l) (80 + m) (same ∙ two f 0x41 (80 + m))).prefixes)
other_push f g Rex Rex m l whole same =
    inl (snoc_same g f 0x40 0x40 (snoc_same (g ++ 0x40 ∷ []) (f ++ 0x40 ∷ []) (80 + l) (80 + m) (sym (two g 0x40 (80 + l)) ∙ same ∙ two f 0x40 (80 + m))).prefixes).prefixes
other_push f g RexB RexB m l whole same =
    inl (snoc_same g f 0x41 0x41 (snoc_same (g ++ 0x41 ∷ []) (f ++ 0x41 ∷ []) (80 + l) (80 + m) (sym (two g 0x41 (80 + l)) ∙ same ∙ two f 0x41 (80 + m))).prefixes).prefixes
other_push f g Rex RexB m l whole same =
    absurd (omega (arith, (snoc_same g f 0x41 0x40 (snoc_same (g ++ 0x41 ∷ []) (f ++ 0x40 ∷ []) (80 + l) (80 + m) (sym (two g 0x41 (80 + l)) ∙ same ∙ two f 0x40 (80 + m))).prefixes).lasts))
other_push f g RexB Rex m l whole same =
    absurd (omega (arith, (snoc_same g f 0x40 0x41 (snoc_same (g ++ 0x40 ∷ []) (f ++ 0x41 ∷ []) (80 + l) (80 + m) (sym (two g 0x40 (80 + l)) ∙ same ∙ two f 0x41 (80 + m))).prefixes).lasts))

-- a run of pushes ends with the byte of one
push_end : (g f : List ℕ) (byte : ℕ) (p : RexPrefix) (l : ℕ) → byte < 80 → g ++ bytes_of (Push p l) ≢ f ++ byte ∷ []
push_end g f byte NoRex l low same = omega (arith, (snoc_same g f (80 + l) byte same).lasts)
push_end g f byte Rex l low same = omega (arith, (snoc_same (g ++ 0x40 ∷ []) f (80 + l) byte (sym (two g 0x40 (80 + l)) ∙ same)).lasts)
push_end g f byte RexB l low same = omega (arith, (snoc_same (g ++ 0x41 ∷ []) f (80 + l) byte (sym (two g 0x41 (80 + l)) ∙ same)).lasts)

-- ---- one more push before a run

abbrev GoesOn : List ℕ → List ℕ → Type 0
GoesOn prefix other_prefix = (length prefix ≤ length other_prefix) ⊎ ((more : List Instruction) × AllByRecursion IsPush more × (prefix ≡ other_prefix ++ spelling more))

shorter : (prefix prefix2 : List ℕ) (push : EndsWithPush prefix prefix2) → length prefix2 ≤ length prefix
shorter prefix prefix2 push = omega (arith, ap length push.spelled, length-append prefix2 (bytes_of (Push push.rex push.low)))

-- what a run of pushes that ends there is without its last one
without_last : (prefix prefix2 other_prefix : List ℕ) (more : List Instruction) → EndsWithPush prefix prefix2 → AllByRecursion IsPush more → prefix ≡ other_prefix ++ spelling more → GoesOn prefix2 other_prefix
without_last prefix prefix2 other_prefix more push all same = elim (by_end more) [
  | inl empty ↦ inl (omega (arith, shorter prefix prefix2 push, ap length (same ∙ ap (λ m. other_prefix ++ spelling m) empty ∙ append-nil other_prefix)))
  | inr ended ↦
      let parts = all_parts ended.init ended.last (subst (AllByRecursion IsPush) ended.is all) in
      by ended.init ended.last parts.0 parts.1 (same ∙ ap (λ m. other_prefix ++ spelling m) ended.is ∙ ap (λ bs. other_prefix ++ bs) (spelling_end ended.init ended.last) ∙ sym (append_assoc other_prefix (spelling ended.init) (bytes_of ended.last)))
]
  where
    left : (init : List Instruction) → AllByRecursion IsPush init → IsBefore (other_prefix ++ spelling init) prefix2 → GoesOn prefix2 other_prefix
    left init all_init (inl is) = inr (init, all_init, sym is)
    left init all_init (inr (byte, low, is)) = elim (by_end init) [
      | inl empty ↦ inl (omega (arith, length-append prefix2 (byte ∷ []), ap length (sym (append-nil other_prefix) ∙ ap (λ m. other_prefix ++ spelling m) (sym empty) ∙ is)))
      | inr ended ↦ absurd (ends ended.init ended.last (all_parts ended.init ended.last (subst (AllByRecursion IsPush) ended.is all_init)).1
          (append_assoc other_prefix (spelling ended.init) (bytes_of ended.last) ∙ ap (λ bs. other_prefix ++ bs) (sym (spelling_end ended.init ended.last)) ∙ ap (λ m. other_prefix ++ spelling m) (sym ended.is) ∙ is))
    ]
      where
        ends : (xs : List Instruction) (last : Instruction) → IsPush last → (other_prefix ++ spelling xs) ++ bytes_of last ≢ prefix2 ++ byte ∷ []
        ends xs (Push p l) is_push e = push_end (other_prefix ++ spelling xs) prefix2 byte p l low e
        ends xs (Pop p l) is_push e = is_push
        ends xs SetFramePointer is_push e = is_push
        ends xs Return is_push e = is_push
        ends xs (Jump first) is_push e = is_push

    by : (init : List Instruction) (last : Instruction) → AllByRecursion IsPush init → IsPush last → prefix ≡ (other_prefix ++ spelling init) ++ bytes_of last → GoesOn prefix2 other_prefix
    by init (Push p l) all_init is_push e =
        left init all_init (other_push prefix2 (other_prefix ++ spelling init) push.rex p push.low l push.whole (sym e ∙ push.spelled))
    by init (Pop p l) all_init is_push e = absurd is_push
    by init SetFramePointer all_init is_push e = absurd is_push
    by init Return all_init is_push e = absurd is_push
    by init (Jump first) all_init is_push e = absurd is_push

pub run_and_one : (bytes prefix prefix2 : List ℕ) (pushes : List Instruction) (count : ℕ) → IsGreedyRun bytes prefix pushes count → EndsWithPush prefix prefix2
    → (more : List Instruction) × IsGreedyRun bytes prefix2 more (count + 1)
run_and_one bytes prefix prefix2 pushes count run push =
    let one = Push push.rex push.low in (
      one ∷ pushes,
      record {
        all = (push.fits, run.all);
        spelled = run.spelled ∙ ap (λ bs. bs ++ spelling pushes) push.spelled ∙ append_assoc prefix2 (bytes_of one) (spelling pushes);
        counted = omega (arith, run.counted);
        within = omega (arith, run.within, ap length push.spelled, length-append prefix2 (bytes_of one), some push.rex push.low);
        greedy = λ other_prefix others all same. elim (run.greedy other_prefix others all same) [
          | inl far ↦ inl (omega (arith, far, shorter prefix prefix2 push))
          | inr (more, all_more, is) ↦ without_last prefix prefix2 other_prefix more push all_more is
        ];
      },
    )
  where
    some : (p : RexPrefix) (l : ℕ) → 1 ≤ length (bytes_of (Push p l))
    some NoRex l = omega arith
    some Rex l = omega arith
    some RexB l = omega arith

pub no_run : (bytes : List ℕ) → IsGreedyRun bytes bytes [] 0
no_run bytes = record {
  all = tt;
  spelled = sym (append-nil bytes);
  counted = refl;
  within = omega arith;
  greedy = λ other_prefix others all same. inr (others, all, same);
}

-- a run that can't go on is the longest
pub whole_run : (bytes prefix : List ℕ) (pushes : List Instruction) (count : ℕ) → IsGreedyRun bytes prefix pushes count → EndsWithNoPush prefix → IsLongestRun bytes prefix pushes
whole_run bytes prefix pushes count run none = record {
  all = run.all;
  spelled = run.spelled;
  longest = λ other_prefix others all same. elim (run.greedy other_prefix others all same) [
    | inl far ↦ far
    | inr (more, all_more, is) ↦ elim (by_end more) [
      | inl empty ↦ omega (arith, ap length (is ∙ ap (λ m. other_prefix ++ spelling m) empty ∙ append-nil other_prefix))
      | inr ended ↦ absurd (last other_prefix ended.init ended.last (all_parts ended.init ended.last (subst (AllByRecursion IsPush) ended.is all_more)).1
          (is ∙ ap (λ m. other_prefix ++ spelling m) ended.is ∙ ap (λ bs. other_prefix ++ bs) (spelling_end ended.init ended.last) ∙ sym (append_assoc other_prefix (spelling ended.init) (bytes_of ended.last))))
    ]
  ];
}
  where
    last : (other_prefix : List ℕ) (init : List Instruction) (push : Instruction) → IsPush push → prefix ≢ (other_prefix ++ spelling init) ++ bytes_of push
    last other_prefix init (Push p l) is_push e = none p l (other_prefix ++ spelling init) is_push e
    last other_prefix init (Pop p l) is_push e = is_push
    last other_prefix init SetFramePointer is_push e = is_push
    last other_prefix init Return is_push e = is_push
    last other_prefix init (Jump first) is_push e = is_push

-- ---- what is read is the prologue

record IsSplit (a b c d : List ℕ) : Type 0 where
  pub prefixes : a ≡ b
  pub rests : c ≡ d

split_same : (a b c d : List ℕ) → length a ≡ length b → a ++ c ≡ b ++ d → IsSplit a b c d
split_same [] [] c d size same = record { prefixes = refl; rests = same }
split_same [] (y ∷ b) c d size same = absurd (omega (arith, size))
split_same (x ∷ a) [] c d size same = absurd (omega (arith, size))
split_same (x ∷ a) (y ∷ b) c d size same =
    let rest : a ++ c ≡ b ++ d = cc in
    let next = split_same a b c d (omega (arith, size)) rest in
    let head : x ≡ y = cc in
    let tail = next.prefixes in
    record { prefixes = cc; rests = next.rests }

-- how many bytes of pushes there are
pushes_in : List ℕ → ℕ
pushes_in [] = 0
pushes_in (byte ∷ more) = (if is_push_byte byte then 1 else 0) + pushes_in more

counted : (pushes : List Instruction) → AllByRecursion IsPush pushes → pushes_in (spelling pushes) ≡ length pushes
unfolding pushes_in
counted [] all = refl
counted (Push NoRex l ∷ more) all =
    let test : is_push_byte (80 + l) ≡ true = push_test l all.0 in
    ap (λ t. (if t then 1 else 0) + pushes_in (spelling more)) test ∙ ap (λ n. 1 + n) (counted more all.1) ∙ omega arith
  where
    push_test : (l : ℕ) → l < 8 → is_push_byte (80 + l) ≡ true
    push_test l low = grind (arith, nat_tests)
counted (Push Rex l ∷ more) all =
    let test : is_push_byte (80 + l) ≡ true = push_test l all.0 in
    ap (λ t. 0 + ((if t then 1 else 0) + pushes_in (spelling more))) test ∙ ap (λ n. 0 + (1 + n)) (counted more all.1) ∙ omega arith
  where
    push_test : (l : ℕ) → l < 8 → is_push_byte (80 + l) ≡ true
    push_test l low = grind (arith, nat_tests)
counted (Push RexB l ∷ more) all =
    let test : is_push_byte (80 + l) ≡ true = push_test l all.0 in
    ap (λ t. 0 + ((if t then 1 else 0) + pushes_in (spelling more))) test ∙ ap (λ n. 0 + (1 + n)) (counted more all.1) ∙ omega arith
  where
    push_test : (l : ℕ) → l < 8 → is_push_byte (80 + l) ≡ true
    push_test l low = grind (arith, nat_tests)
counted (Pop p l ∷ more) all = absurd all.0
counted (SetFramePointer ∷ more) all = absurd all.0
counted (Return ∷ more) all = absurd all.0
counted (Jump first ∷ more) all = absurd all.0

-- two longest runs are as long
record IsAlike (prefix other_prefix : List ℕ) (pushes others : List Instruction) : Type 0 where
  pub prefixes : prefix ≡ other_prefix
  pub count : length pushes ≡ length others

alike : (bytes prefix other_prefix : List ℕ) (pushes others : List Instruction) → IsLongestRun bytes prefix pushes → IsLongestRun bytes other_prefix others → IsAlike prefix other_prefix pushes others
alike bytes prefix other_prefix pushes others run other =
    let far = run.longest other_prefix others other.all other.spelled in
    let near = other.longest prefix pushes run.all run.spelled in
    let split = split_same prefix other_prefix (spelling pushes) (spelling others) (omega (arith, far, near)) (sym run.spelled ∙ other.spelled) in
    record { prefixes = split.prefixes; count = sym (counted pushes run.all) ∙ ap pushes_in split.rests ∙ counted others other.all }

pub prologue_is_read : (text : List ℕ) (offset : ℕ) (has_setup : Bool) (pushes : List Instruction) (prefix : List ℕ) (found : List Instruction) (test : Bool)
    → IsPrologue text offset has_setup pushes → IsLongestRun (take offset text) prefix found
    → (IsTrue test → EndsWith prefix (spelling frame_setup)) → (EndsWith prefix (spelling frame_setup) → IsTrue test)
    → rule_of_pushes test (length found) ≡ prologue_rule has_setup pushes
prologue_is_read text offset has_setup pushes prefix found test there run when only =
    let same = alike (take offset text) prefix there.prefix found pushes run there.run in
    ap (λ n. rule_of_pushes test n) same.count ∙ ap (λ t. rule_of_pushes t (length pushes)) (tests test has_setup
    (λ t. there.setup.1 (subst (λ (f : List ℕ). EndsWith f (spelling frame_setup)) same.prefixes (when t)))
    (λ t. only (subst (λ (f : List ℕ). EndsWith f (spelling frame_setup)) (sym same.prefixes) (there.setup.0 t))))
  where
    tests : (a b : Bool) → (IsTrue a → IsTrue b) → (IsTrue b → IsTrue a) → a ≡ b
    tests true true f g = refl
    tests true false f g = sym (f refl)
    tests false true f g = g refl
    tests false false f g = refl

-- another byte than a prefix stands at the end
pub last_differs : (before prefix : List ℕ) (previous : ℕ) → before ≡ prefix ++ previous ∷ [] → previous ≢ 0x40 → previous ≢ 0x41
    → (b : ℕ) (more : List ℕ) → (b ≡ 0x40) ⊎ (b ≡ 0x41) → before ≢ more ++ b ∷ []
last_differs before prefix previous is not_rex not_rex_b b more (inl rex) same = not_rex ((snoc_same prefix more previous b (sym is ∙ same)).lasts ∙ rex)
last_differs before prefix previous is not_rex not_rex_b b more (inr rex_b) same = not_rex_b ((snoc_same prefix more previous b (sym is ∙ same)).lasts ∙ rex_b)

-- ---- what comes next

both : (a b : Bool) → (a && b) ≡ true → (a ≡ true) × (b ≡ true)
both true b is = (refl, is)
both false b is = cc

either : (a b : Bool) → (a || b) ≡ true → (a ≡ true) ⊎ (b ≡ true)
either true b is = inl refl
either false b is = inr is

equal : (a b : ℕ) → (a == b) ≡ true → a ≡ b
equal a b is = (Decides-eqb a b).0 is

-- the low bits of a push
low_push : (byte : ℕ) → is_push_byte byte ≡ true → (byte - 80 < 8) × (byte ≡ 80 + (byte - 80))
low_push byte test =
    let low : 80 ≤ byte = grind (arith, nat_tests) in
    let high : byte < 88 = grind (arith, nat_tests) in
    (omega arith, omega arith)

-- the first of five tests that holds
choose : (a b c d e : Bool) → (a || b || c || d || e) ≡ true → (a ≡ true) ⊎ ((b ≡ true) ⊎ ((c ≡ true) ⊎ ((d ≡ true) ⊎ (e ≡ true))))
choose true b c d e is = inl refl
choose false true c d e is = inr (inl refl)
choose false false true d e is = inr (inr (inl refl))
choose false false false true e is = inr (inr (inr (inl refl)))
choose false false false false e is = inr (inr (inr (inr is)))

expected : (bytes : List ℕ) → is_expected bytes ≡ true → IsExpected bytes
expected [] is = cc
expected (a ∷ []) is = cc
expected (a ∷ b ∷ []) is = cc
expected (a ∷ b ∷ c ∷ []) is = cc
expected (a ∷ b ∷ c ∷ d ∷ more) is =
    by (choose (is_push_byte a) (is_rex_byte a && is_push_byte b) (((a == 0x83) || (a == 0x81)) && (b == 0xec)) ((a == 0x48) && ((b == 0x83) || (b == 0x81)) && (c == 0xec))
    ((a == 0x48) && (b == 0x89) && (c == 0xe5)) (both (nat_le 4 (length (a ∷ b ∷ c ∷ d ∷ more))) _ is).1)
  where
    opcode : (x : ℕ) → ((x == 0x83) || (x == 0x81)) ≡ true → (x ≡ 0x83) ⊎ (x ≡ 0x81)
    opcode x is = elim (either (x == 0x83) (x == 0x81) is) [ inl short ↦ inl (equal x 0x83 short) | inr long ↦ inr (equal x 0x81 long) ]

    by : (is_push_byte a ≡ true) ⊎ (((is_rex_byte a && is_push_byte b) ≡ true) ⊎ (((((a == 0x83) || (a == 0x81)) && (b == 0xec)) ≡ true)
        ⊎ ((((a == 0x48) && ((b == 0x83) || (b == 0x81)) && (c == 0xec)) ≡ true) ⊎ (((a == 0x48) && (b == 0x89) && (c == 0xe5)) ≡ true)))) → IsExpected (a ∷ b ∷ c ∷ d ∷ more)
    by (inl push) =
        let low = low_push a push in
        record { next = NextPush NoRex (a - 80); fits = low.0; suffix = b ∷ c ∷ d ∷ more; spelled = ap (λ x. x ∷ b ∷ c ∷ d ∷ more) low.1; enough = omega arith }
    by (inr (inl rex)) =
        let tests = both (is_rex_byte a) (is_push_byte b) rex in
        let low = low_push b tests.1 in
        elim (either (a == 0x40) (a == 0x41) tests.0) [
          | inl plain ↦ record {
            next = NextPush Rex (b - 80);
            fits = low.0;
            suffix = c ∷ d ∷ more;
            spelled = ap (λ x. x ∷ b ∷ c ∷ d ∷ more) (equal a 0x40 plain) ∙ ap (λ x. 0x40 ∷ x ∷ c ∷ d ∷ more) low.1;
            enough = omega arith;
          }
          | inr high ↦ record {
            next = NextPush RexB (b - 80);
            fits = low.0;
            suffix = c ∷ d ∷ more;
            spelled = ap (λ x. x ∷ b ∷ c ∷ d ∷ more) (equal a 0x41 high) ∙ ap (λ x. 0x41 ∷ x ∷ c ∷ d ∷ more) low.1;
            enough = omega arith;
          }
        ]
    by (inr (inr (inl narrow))) =
        let tests = both ((a == 0x83) || (a == 0x81)) (b == 0xec) narrow in
        record {
          next = NextSubtract false a;
          fits = opcode a tests.0;
          suffix = c ∷ d ∷ more;
          spelled = ap (λ x. a ∷ x ∷ c ∷ d ∷ more) (equal b 0xec tests.1);
          enough = omega arith;
        }
    by (inr (inr (inr (inl wide)))) =
        let tests = both ((a == 0x48) && ((b == 0x83) || (b == 0x81))) (c == 0xec) wide in
        let first = both (a == 0x48) ((b == 0x83) || (b == 0x81)) tests.0 in
        record {
          next = NextSubtract true b;
          fits = opcode b first.1;
          suffix = d ∷ more;
          spelled = ap (λ x. x ∷ b ∷ c ∷ d ∷ more) (equal a 0x48 first.0) ∙ ap (λ x. 0x48 ∷ b ∷ x ∷ d ∷ more) (equal c 0xec tests.1);
          enough = omega arith;
        }
    by (inr (inr (inr (inr last)))) =
        let tests = both ((a == 0x48) && (b == 0x89)) (c == 0xe5) last in
        let first = both (a == 0x48) (b == 0x89) tests.0 in
        record {
          next = NextSetFramePointer;
          fits = tt;
          suffix = d ∷ more;
          spelled = ap (λ x. x ∷ b ∷ c ∷ d ∷ more) (equal a 0x48 first.0) ∙ ap (λ x. 0x48 ∷ x ∷ c ∷ d ∷ more) (equal b 0x89 first.1) ∙ ap (λ x. 0x48 ∷ 0x89 ∷ x ∷ d ∷ more) (equal c 0xe5 tests.1);
          enough = omega arith;
        }

tested : (bytes : List ℕ) → IsExpected bytes → is_expected bytes ≡ true
tested bytes there = by there.next there.fits there.spelled
  where
    enough : nat_le 4 (length bytes) ≡ true
    enough = let four : 4 ≤ length bytes = there.enough in grind (arith, nat_tests)

    push : (low : ℕ) → low < 8 → is_push_byte (80 + low) ≡ true
    push low fits = grind (arith, nat_tests)

    from : (spelled : List ℕ) → bytes ≡ spelled → is_expected spelled ≡ true → is_expected bytes ≡ true
    from spelled is test = ap is_expected is ∙ test

    long : (spelled : List ℕ) → bytes ≡ spelled → nat_le 4 (length spelled) ≡ true
    long spelled is = sym (ap (λ bs. nat_le 4 (length bs)) is) ∙ enough

    all : (a b : Bool) → a ≡ true → b ≡ true → (a && b) ≡ true
    all true b first second = second
    all false b first second = cc

    first_of : (a b : Bool) → a ≡ true → (a || b) ≡ true
    first_of true b is = refl
    first_of false b is = cc

    opcode : (x : ℕ) → (x ≡ 0x83) ⊎ (x ≡ 0x81) → ((x == 0x83) || (x == 0x81)) ≡ true
    opcode x (inl e) = rw e refl
    opcode x (inr e) = rw e refl

    narrow : (x : ℕ) → (x ≡ 0x83) ⊎ (x ≡ 0x81) → bytes ≡ x ∷ 0xec ∷ there.suffix → is_expected bytes ≡ true
    narrow x (inl e) is =
        let same : bytes ≡ 0x83 ∷ 0xec ∷ there.suffix = is ∙ ap (λ y. y ∷ 0xec ∷ there.suffix) e in
        from (0x83 ∷ 0xec ∷ there.suffix) same (all _ _ (long (0x83 ∷ 0xec ∷ there.suffix) same) refl)
    narrow x (inr e) is =
        let same : bytes ≡ 0x81 ∷ 0xec ∷ there.suffix = is ∙ ap (λ y. y ∷ 0xec ∷ there.suffix) e in
        from (0x81 ∷ 0xec ∷ there.suffix) same (all _ _ (long (0x81 ∷ 0xec ∷ there.suffix) same) refl)

    by : (next : Next) → NextFits next → bytes ≡ next_bytes next ++ there.suffix → is_expected bytes ≡ true
    by (NextPush NoRex low) fits is =
        from ((80 + low) ∷ there.suffix) is (all _ _ (long ((80 + low) ∷ there.suffix) is) (first_of _ _ (first_of _ _ (first_of _ _ (first_of _ _ (push low fits))))))
    by (NextPush Rex low) fits is =
        from (0x40 ∷ (80 + low) ∷ there.suffix) is (all _ _ (long (0x40 ∷ (80 + low) ∷ there.suffix) is) (first_of _ _ (first_of _ _ (first_of _ _ (push low fits)))))
    by (NextPush RexB low) fits is =
        from (0x41 ∷ (80 + low) ∷ there.suffix) is (all _ _ (long (0x41 ∷ (80 + low) ∷ there.suffix) is) (first_of _ _ (first_of _ _ (first_of _ _ (push low fits)))))
    by (NextSubtract true x) fits is =
        from (0x48 ∷ x ∷ 0xec ∷ there.suffix) is (all _ _ (long (0x48 ∷ x ∷ 0xec ∷ there.suffix) is) (first_of _ _ (all _ _ (opcode x fits) refl)))
    by (NextSubtract false x) fits is = narrow x fits is
    by NextSetFramePointer fits is = from (0x48 ∷ 0x89 ∷ 0xe5 ∷ there.suffix) is (all _ _ (long (0x48 ∷ 0x89 ∷ 0xe5 ∷ there.suffix) is) refl)

-- the rule of the pushes that were read
pub read_prologue : (text : List ℕ) (offset : ℕ) (prefix : List ℕ) (found : List Instruction) (test : Bool) (result : Option UnwindRuleX86_64) → is_expected (drop offset text) ≡ true
    → IsLongestRun (take offset text) prefix found → IsTrue test ↔ EndsWith prefix (spelling frame_setup) → result ≡ rule_of_pushes test (length found) → IsFound (IsPrologueRule text offset) result
read_prologue text offset prefix found test result next run setup result_is = λ rule. (
  λ is. (test, found, record { next = expected (drop offset text) next; prefix = prefix; run = run; setup = setup }, sym result_is ∙ is),
  λ wanted.
      let (has_setup, pushes, stands, is) = wanted in
      result_is ∙ prologue_is_read text offset has_setup pushes prefix found test stands run setup.0 setup.1 ∙ is,
)

-- no instruction of a prologue comes next
pub no_prologue : (text : List ℕ) (offset : ℕ) → is_expected (drop offset text) ≡ false → IsFound (IsPrologueRule text offset) None
no_prologue text offset unexpected = λ rule. (
  λ is. cc,
  λ wanted.
      let (has_setup, pushes, stands, is) = wanted in
      let next = tested (drop offset text) stands.next in
      cc,
)
