-- The rule of the machine code at an offset of aarch64 code, as a function of the bytes.
use Rattle.std.proofs.Common.{◌≡◌, ◌≢◌, ◌∙◌, ℕ, zero, suc, ◌+◌, ◌*◌, ◌<◌, ◌≤◌, ◌^◌, refl, sym, ap, subst, arith, ◌⊎◌, inl, inr, List, [], ◌∷◌, ◌++◌, length, append_assoc, length-append, take, drop, Option, Some, None}
use Rattle.std.specs.List.{AllByRecursion}
use Rattle.std.specs.Int.{to_le_bytes, w32}
use Rattle.std.specs.Prelude.{◌-◌, ℤ, pos, negsuc, ◌+ℤ◌, ◌*ℤ◌, ◌≤ℤ◌}
use Rattle.std.proofs.lemmas.Int.{ints}
use Rattle.framehop_analysis.specs.EpilogueAarch64.{FieldsFit, IsEnd, IsRuleFor, IsRuleOfEpilogue, last_load_offset, raise_of, raise_of_all}
use Rattle.framehop_analysis.specs.EpilogueInstructionsAarch64.{Add, EpilogueFits, EpilogueInstruction, Load, SetsFramePointer, epilogue_spelling, epilogue_word, immediate_word}
use Rattle.framehop_analysis.specs.Found.{IsFound, IsOfFirst}
use Rattle.framehop_analysis.specs.FunctionEndsAarch64.{AuthReturn, AuthTailCall, FunctionEnd, IsAuthBranch, IsBranch, IsEndOf, IsLeft, IsMoveToX16, IsRegisterBranch, IsTail, Return, TailCall, auth_tail_call, bytes_of_words}
use Rattle.framehop_analysis.specs.LookBackAarch64.{Back, BeginsWithBranch, EndsWithRaise, Forward, IsEpilogue, IsEpilogueRule, IsInAuthTailCall, IsInEnd, Raises}
use Rattle.framehop_analysis.specs.PairsAarch64.{PairFits}
use Rattle.framehop_analysis.specs.PrologueAarch64.{IsExpected, IsExpectedInstruction, IsLongestRun, IsPrologueRule, IsRuleOfPrologue}
use Rattle.framehop_analysis.specs.PrologueInstructionsAarch64.{PrologueFits, PrologueInstruction, Sign, Store, Sub, lowering_of_all, prologue_word}
use Rattle.framehop_analysis.specs.declared.aarch64.instruction_analysis.pair.AddressingMode.{AddressingMode}
use Rattle.framehop_analysis.specs.declared.aarch64.instruction_analysis.pair.AddressingMode.TheVariants.{PostIndex, PreIndex, SignedOffset}
use Rattle.framehop_analysis.specs.declared.aarch64.instruction_analysis.pair.Pair.{Pair}
use Rattle.framehop_analysis.proofs.Decisions.{Begins, BeginsThen, CanTry, Ends, Longest, decide_as, decide_begins, decide_begins_then, decide_below, decide_both, decide_either, decide_ends, decide_equal_int, decide_not, decide_some, longest}
use Rattle.framehop_analysis.proofs.Found.{either_found}
use Rattle.framehop_analysis.proofs.OneEpilogueAarch64.{one_epilogue, read_epilogue}
use Rattle.framehop_analysis.proofs.PrologueReadingAarch64.{read_prologue, same_run}
use Rattle.framehop_rules.specs.declared.aarch64.unwind_rule.UnwindRuleAarch64.{UnwindRuleAarch64}
use Rattle.framehop_rules.specs.declared.aarch64.unwind_rule.UnwindRuleAarch64.TheVariants.{NoOp, OffsetSp, OffsetSpAndRestoreFpAndLr, OffsetSpAndRestoreLr}

-- ---- pairs

-- a whole number from -(n + 1) to n
try_int : (n : ℕ) (P : ℤ → Type 0) → ((z : ℤ) → Dec (P z)) → Dec ((z : ℤ) × (negsuc n ≤ℤ z) × (z ≤ℤ pos n) × P z)
try_int n P each =
    decide_as to from (decide_either (decide_some (suc n) (λ k. P (pos k)) (λ k. each (pos k))) (decide_some (suc n) (λ k. P (negsuc k)) (λ k. each (negsuc k))))
  where
    to : ((k : ℕ) × (k < suc n) × P (pos k)) ⊎ ((k : ℕ) × (k < suc n) × P (negsuc k)) → (z : ℤ) × (negsuc n ≤ℤ z) × (z ≤ℤ pos n) × P z
    to (inl (k, fits, is)) = (pos k, omega (arith, ints, fits), omega (arith, ints, fits), is)
    to (inr (k, fits, is)) = (negsuc k, omega (arith, ints, fits), omega (arith, ints, fits), is)

    from : (z : ℤ) × (negsuc n ≤ℤ z) × (z ≤ℤ pos n) × P z → ((k : ℕ) × (k < suc n) × P (pos k)) ⊎ ((k : ℕ) × (k < suc n) × P (negsuc k))
    from (pos k, low, high, is) = inl (k, omega (arith, ints, high), is)
    from (negsuc k, low, high, is) = inr (k, omega (arith, ints, low), is)

try_mode : (P : AddressingMode → Type 0) → ((mode : AddressingMode) → Dec (P mode)) → Dec ((mode : AddressingMode) × P mode)
try_mode P each = decide_as to from (decide_either (each PostIndex) (decide_either (each SignedOffset) (each PreIndex)))
  where
    to : P PostIndex ⊎ (P SignedOffset ⊎ P PreIndex) → (mode : AddressingMode) × P mode
    to (inl is) = (PostIndex, is)
    to (inr (inl is)) = (SignedOffset, is)
    to (inr (inr is)) = (PreIndex, is)

    from : (mode : AddressingMode) × P mode → P PostIndex ⊎ (P SignedOffset ⊎ P PreIndex)
    from (PostIndex, is) = inl is
    from (SignedOffset, is) = inr (inl is)
    from (PreIndex, is) = inr (inr is)

abbrev pair_of : AddressingMode → ℤ → ℕ → ℕ → Pair
pair_of mode offset first second = record { mode = mode; offset_by_8 = offset; first = first; second = second }

module _ (P : Pair → Type 0) where
  abbrev OfFirst : AddressingMode → ℤ → ℕ → Type 0
  OfFirst mode offset first = (second : ℕ) × (second < 32) × P (pair_of mode offset first second)

  abbrev OfOffset : AddressingMode → ℤ → Type 0
  OfOffset mode offset = (first : ℕ) × (first < 32) × OfFirst mode offset first

  abbrev OfMode : AddressingMode → Type 0
  OfMode mode = (offset : ℤ) × (negsuc 63 ≤ℤ offset) × (offset ≤ℤ pos 63) × OfOffset mode offset

  pub try_one_pair : ((x : Pair) → Dec (P x)) → Dec ((pair : Pair) × PairFits pair × P pair)
  try_one_pair each =
      decide_as to from (try_mode OfMode (λ mode. try_int 63 (OfOffset mode) (λ offset. decide_some 32 (OfFirst mode offset)
      (λ first. decide_some 32 (λ second. P (pair_of mode offset first second)) (λ second. each (pair_of mode offset first second))))))
    where
      to : (mode : AddressingMode) × OfMode mode → (pair : Pair) × PairFits pair × P pair
      to (mode, (offset, low, high, (first, first_fits, (second, second_fits, is)))) =
          (pair_of mode offset first second, record { low = low; high = high; first = first_fits; second = second_fits }, is)

      from : (pair : Pair) × PairFits pair × P pair → (mode : AddressingMode) × OfMode mode
      from (pair, fits, is) = (pair.mode, (pair.offset_by_8, fits.low, fits.high, (pair.first, fits.first, (pair.second, fits.second, is))))

try_pair : CanTry PairFits
try_pair P each = try_one_pair P each

-- ---- instructions

-- two numbers, one below 2 and one below a bound
try_shifted : (n : ℕ) (P : ℕ → ℕ → Type 0) → ((shift number : ℕ) → Dec (P shift number)) → Dec ((shift : ℕ) × (shift < 2) × ((number : ℕ) × (number < n) × P shift number))
try_shifted n P each = decide_some 2 (λ shift. (number : ℕ) × (number < n) × P shift number) (λ shift. decide_some n (P shift) (each shift))

try_epilogue : CanTry EpilogueFits
try_epilogue P each =
    decide_as to from (decide_either
    (decide_some 2 (λ bit_30. (pair : Pair) × PairFits pair × P (Load bit_30 pair)) (λ bit_30. try_pair (λ pair. P (Load bit_30 pair)) (λ pair. each (Load bit_30 pair))))
    (try_shifted 4096 (λ shift number. P (Add shift number)) (λ shift number. each (Add shift number))))
  where
    to : ((bit_30 : ℕ) × (bit_30 < 2) × ((pair : Pair) × PairFits pair × P (Load bit_30 pair))) ⊎ ((shift : ℕ) × (shift < 2) × ((number : ℕ) × (number < 4096) × P (Add shift number)))
        → (x : EpilogueInstruction) × EpilogueFits x × P x
    to (inl (bit_30, fits, (pair, pair_fits, is))) = (Load bit_30 pair, (fits, pair_fits), is)
    to (inr (shift, fits, (number, number_fits, is))) = (Add shift number, (fits, number_fits), is)

    from : (x : EpilogueInstruction) × EpilogueFits x × P x
        → ((bit_30 : ℕ) × (bit_30 < 2) × ((pair : Pair) × PairFits pair × P (Load bit_30 pair))) ⊎ ((shift : ℕ) × (shift < 2) × ((number : ℕ) × (number < 4096) × P (Add shift number)))
    from (Load bit_30 pair, fits, is) = inl (bit_30, fits.0, (pair, fits.1, is))
    from (Add shift number, fits, is) = inr (shift, fits.0, (number, fits.1, is))

try_prologue : CanTry PrologueFits
try_prologue P each =
    decide_as to from (decide_either (each Sign) (decide_either
    (decide_some 2 (λ bit_30. (pair : Pair) × PairFits pair × P (Store bit_30 pair)) (λ bit_30. try_pair (λ pair. P (Store bit_30 pair)) (λ pair. each (Store bit_30 pair))))
    (try_shifted 4096 (λ shift number. P (Sub shift number)) (λ shift number. each (Sub shift number)))))
  where
    to : P Sign ⊎ (((bit_30 : ℕ) × (bit_30 < 2) × ((pair : Pair) × PairFits pair × P (Store bit_30 pair))) ⊎ ((shift : ℕ) × (shift < 2) × ((number : ℕ) × (number < 4096) × P (Sub shift number))))
        → (x : PrologueInstruction) × PrologueFits x × P x
    to (inl is) = (Sign, tt, is)
    to (inr (inl (bit_30, fits, (pair, pair_fits, is)))) = (Store bit_30 pair, (fits, pair_fits), is)
    to (inr (inr (shift, fits, (number, number_fits, is)))) = (Sub shift number, (fits, number_fits), is)

    from : (x : PrologueInstruction) × PrologueFits x × P x
        → P Sign ⊎ (((bit_30 : ℕ) × (bit_30 < 2) × ((pair : Pair) × PairFits pair × P (Store bit_30 pair))) ⊎ ((shift : ℕ) × (shift < 2) × ((number : ℕ) × (number < 4096) × P (Sub shift number))))
    from (Sign, fits, is) = inl is
    from (Store bit_30 pair, fits, is) = inr (inl (bit_30, fits.0, (pair, fits.1, is)))
    from (Sub shift number, fits, is) = inr (inr (shift, fits.0, (number, fits.1, is)))

-- ---- words that leave a function

try_branch : CanTry IsBranch
try_branch P each = decide_as to from (decide_some (2 ^ 26) (λ d. P (0x14000000 + d)) (λ d. each (0x14000000 + d)))
  where
    to : (d : ℕ) × (d < 2 ^ 26) × P (0x14000000 + d) → (word : ℕ) × IsBranch word × P word
    to (d, fits, is) = (0x14000000 + d, record { distance = d; fits = fits; is = refl }, is)

    from : (word : ℕ) × IsBranch word × P word → (d : ℕ) × (d < 2 ^ 26) × P (0x14000000 + d)
    from (word, branch, is) = (branch.distance, branch.fits, subst P branch.is is)

try_register_branch : CanTry IsRegisterBranch
try_register_branch P each = decide_as to from (decide_some 32 (λ r. P (0xd61f0000 + 2 ^ 5 * r)) (λ r. each (0xd61f0000 + 2 ^ 5 * r)))
  where
    to : (r : ℕ) × (r < 32) × P (0xd61f0000 + 2 ^ 5 * r) → (word : ℕ) × IsRegisterBranch word × P word
    to (r, fits, is) = (0xd61f0000 + 2 ^ 5 * r, record { register = r; fits = fits; is = refl }, is)

    from : (word : ℕ) × IsRegisterBranch word × P word → (r : ℕ) × (r < 32) × P (0xd61f0000 + 2 ^ 5 * r)
    from (word, branch, is) = (branch.register, branch.fits, subst P branch.is is)

try_auth_branch : CanTry IsAuthBranch
try_auth_branch P each = decide_as to from (decide_some 32 (λ r. P (0xd71f0800 + 2 ^ 5 * r + 16)) (λ r. each (0xd71f0800 + 2 ^ 5 * r + 16)))
  where
    to : (r : ℕ) × (r < 32) × P (0xd71f0800 + 2 ^ 5 * r + 16) → (word : ℕ) × IsAuthBranch word × P word
    to (r, fits, is) = (0xd71f0800 + 2 ^ 5 * r + 16, record { register = r; fits = fits; is = refl }, is)

    from : (word : ℕ) × IsAuthBranch word × P word → (r : ℕ) × (r < 32) × P (0xd71f0800 + 2 ^ 5 * r + 16)
    from (word, branch, is) = (branch.register, branch.fits, subst P branch.is is)

abbrev move_word : ℕ → ℕ → ℕ
move_word form number = 2 ^ 31 + 2 ^ 30 + 2 ^ 26 * form + 2 ^ 25 + 2 ^ 23 + 2 ^ 5 * number + 16

try_move : CanTry IsMoveToX16
try_move P each =
    decide_as to from (decide_some 8 (λ form. (number : ℕ) × (number < 2 ^ 18) × P (move_word form number))
    (λ form. decide_some (2 ^ 18) (λ number. P (move_word form number)) (λ number. each (move_word form number))))
  where
    to : (form : ℕ) × (form < 8) × ((number : ℕ) × (number < 2 ^ 18) × P (move_word form number)) → (word : ℕ) × IsMoveToX16 word × P word
    to (form, form_fits, (number, number_fits, is)) =
        (move_word form number, record { form = form; number = number; form_fits = form_fits; number_fits = number_fits; is = refl }, is)

    from : (word : ℕ) × IsMoveToX16 word × P word → (form : ℕ) × (form < 8) × ((number : ℕ) × (number < 2 ^ 18) × P (move_word form number))
    from (word, move, is) = (move.form, move.form_fits, (move.number, move.number_fits, subst P move.is is))

try_frame_pointer : CanTry SetsFramePointer
try_frame_pointer P each =
    decide_as to from (try_shifted 4096 (λ shift number. P (immediate_word 0x122 shift number 29)) (λ shift number. each (immediate_word 0x122 shift number 29)))
  where
    to : (shift : ℕ) × (shift < 2) × ((number : ℕ) × (number < 4096) × P (immediate_word 0x122 shift number 29)) → (word : ℕ) × SetsFramePointer word × P word
    to (shift, shift_fits, (number, number_fits, is)) =
        (immediate_word 0x122 shift number 29, record { shift = shift; number = number; shift_fits = shift_fits; number_fits = number_fits; is = refl }, is)

    from : (word : ℕ) × SetsFramePointer word × P word → (shift : ℕ) × (shift < 2) × ((number : ℕ) × (number < 4096) × P (immediate_word 0x122 shift number 29))
    from (word, sets, is) = (sets.shift, sets.shift_fits, (sets.number, sets.number_fits, subst P sets.is is))

try_tail : CanTry IsTail
try_tail P each =
    decide_as to from (decide_either (try_branch (λ word. P (word ∷ [])) (λ word. each (word ∷ [])))
    (try_move (λ word. (next : ℕ) × IsAuthBranch next × P (word ∷ next ∷ [])) (λ word. try_auth_branch (λ next. P (word ∷ next ∷ [])) (λ next. each (word ∷ next ∷ [])))))
  where
    to : ((word : ℕ) × IsBranch word × P (word ∷ [])) ⊎ ((word : ℕ) × IsMoveToX16 word × ((next : ℕ) × IsAuthBranch next × P (word ∷ next ∷ []))) → (tail : List ℕ) × IsTail tail × P tail
    to (inl (word, branch, is)) = (word ∷ [], branch, is)
    to (inr (word, move, (next, branch, is))) = (word ∷ next ∷ [], (move, branch), is)

    from : (tail : List ℕ) × IsTail tail × P tail → ((word : ℕ) × IsBranch word × P (word ∷ [])) ⊎ ((word : ℕ) × IsMoveToX16 word × ((next : ℕ) × IsAuthBranch next × P (word ∷ next ∷ [])))
    from ([], is_tail, is) = absurd is_tail
    from (word ∷ [], is_tail, is) = inl (word, is_tail, is)
    from (word ∷ next ∷ [], is_tail, is) = inr (word, is_tail.0, (next, is_tail.1, is))
    from (word ∷ next ∷ third ∷ more, is_tail, is) = absurd is_tail

-- ---- whether the function is left

abbrev BeginsWords : List ℕ → List ℕ → Type 0
BeginsWords bytes words = Begins bytes (bytes_of_words words)

decide_words : (bytes words : List ℕ) → Dec (BeginsWords bytes words)
decide_words bytes words = decide_begins bytes (bytes_of_words words)

abbrev Leaving : List ℕ → ℤ → Type 0
Leaving bytes raised =
    BeginsWords bytes (0xd65f03c0 ∷ []) ⊎ (BeginsWords bytes (0xd65f0fff ∷ []) ⊎ (((raised ≢ pos 0) × ((word : ℕ) × IsBranch word × BeginsWords bytes (word ∷ [])))
    ⊎ ((tail : List ℕ) × IsTail tail × BeginsWords bytes (auth_tail_call tail))))

decide_left : (bytes : List ℕ) (raised : ℤ) → Dec (IsLeft bytes raised)
decide_left bytes raised =
    decide_as to (λ left. from left.end left.words left.is (left.suffix, left.spelled))
    (decide_either (decide_words bytes (0xd65f03c0 ∷ [])) (decide_either (decide_words bytes (0xd65f0fff ∷ []))
    (decide_either (decide_both (decide_not (decide_equal_int raised (pos 0))) (try_branch (λ word. BeginsWords bytes (word ∷ [])) (λ word. decide_words bytes (word ∷ []))))
    (try_tail (λ tail. BeginsWords bytes (auth_tail_call tail)) (λ tail. decide_words bytes (auth_tail_call tail))))))
  where
    to : Leaving bytes raised → IsLeft bytes raised
    to (inl (suffix, is)) = record { end = Return; words = _; is = refl; suffix = suffix; spelled = is }
    to (inr (inl (suffix, is))) = record { end = AuthReturn; words = _; is = refl; suffix = suffix; spelled = is }
    to (inr (inr (inl (moved, (word, branch, (suffix, is)))))) =
        record { end = TailCall; words = word ∷ []; is = (moved, word, branch, refl); suffix = suffix; spelled = is }
    to (inr (inr (inr (tail, is_tail, (suffix, is))))) =
        record { end = AuthTailCall; words = auth_tail_call tail; is = (tail, is_tail, refl); suffix = suffix; spelled = is }

    from : (end : FunctionEnd) (words : List ℕ) → IsEndOf end raised words → BeginsWords bytes words → Leaving bytes raised
    from Return words is begins = inl (subst (BeginsWords bytes) is begins)
    from AuthReturn words is begins = inr (inl (subst (BeginsWords bytes) is begins))
    from TailCall words (moved, word, branch, is) begins = inr (inr (inl (moved, (word, branch, subst (BeginsWords bytes) is begins))))
    from AuthTailCall words (tail, is_tail, is) begins = inr (inr (inr (tail, is_tail, subst (BeginsWords bytes) is begins)))

-- ---- instructions up to where the function is left

abbrev spell : EpilogueInstruction → List ℕ
spell x = to_le_bytes w32 (epilogue_word x)

-- after instructions that raised the stack pointer by so much
abbrev HasEnd : ℤ → List ℕ → Type 0
HasEnd raised bytes =
    (list : List EpilogueInstruction) × AllByRecursion EpilogueFits list
    × ((rest : List ℕ) × (bytes ≡ epilogue_spelling list ++ rest) × IsLeft rest (raised +ℤ raise_of_all list))

plus_zero : (z : ℤ) → z ≡ z +ℤ pos 0
plus_zero z = omega (arith, ints)

regroup : (a b c : ℤ) → (a +ℤ b) +ℤ c ≡ a +ℤ (b +ℤ c)
regroup a b c = omega (arith, ints)

abbrev OneMore : ℤ → List ℕ → Type 0
OneMore raised bytes = (x : EpilogueInstruction) × EpilogueFits x × BeginsThen bytes (spell x) (HasEnd (raised +ℤ raise_of x))

one_more : (raised : ℤ) (bytes : List ℕ) → OneMore raised bytes → HasEnd raised bytes
one_more raised bytes (x, fits, (suffix, is, (more, all, (rest, spelled, left)))) = (
  x ∷ more,
  (fits, all),
  (
    rest,
    is ∙ ap (λ bs. spell x ++ bs) spelled ∙ sym (append_assoc (spell x) (epilogue_spelling more) rest),
    subst (IsLeft rest) (regroup raised (raise_of x) (raise_of_all more)) left,
  ),
)

first_of_more : (raised : ℤ) (bytes : List ℕ) → ¬ IsLeft bytes raised → HasEnd raised bytes → OneMore raised bytes
first_of_more raised bytes not_left ([], all, (rest, spelled, left)) =
    absurd (not_left (subst (λ (bs : List ℕ). IsLeft bs raised) (sym spelled) (subst (IsLeft rest) (sym (plus_zero raised)) left)))
first_of_more raised bytes not_left (x ∷ more, all, (rest, spelled, left)) = (
  x,
  all.0,
  (
    epilogue_spelling more ++ rest,
    spelled ∙ append_assoc (spell x) (epilogue_spelling more) rest,
    (more, all.1, (rest, refl, subst (IsLeft rest) (sym (regroup raised (raise_of x) (raise_of_all more))) left)),
  ),
)

end_of : (n : ℕ) (raised : ℤ) (bytes : List ℕ) → length bytes ≤ n → Dec (HasEnd raised bytes)
end_of zero raised bytes few = by (decide_left bytes raised)
  where
    by : Dec (IsLeft bytes raised) → Dec (HasEnd raised bytes)
    by (yes left) = yes ([], tt, (bytes, refl, subst (IsLeft bytes) (plus_zero raised) left))
    by (no not_left) = no (λ end. let (x, fits, (suffix, is, more)) = first_of_more raised bytes not_left end in
        omega (arith, few, ap length is, length-append (spell x) suffix))
end_of (suc n) raised bytes few =
    by (decide_left bytes raised) (try_epilogue (λ x. BeginsThen bytes (spell x) (HasEnd (raised +ℤ raise_of x)))
    (λ x. decide_begins_then bytes (spell x) (HasEnd (raised +ℤ raise_of x))
    (λ suffix is. end_of n (raised +ℤ raise_of x) suffix (omega (arith, few, ap length is, length-append (spell x) suffix)))))
  where
    by : Dec (IsLeft bytes raised) → Dec (OneMore raised bytes) → Dec (HasEnd raised bytes)
    by (yes left) more = yes ([], tt, (bytes, refl, subst (IsLeft bytes) (plus_zero raised) left))
    by (no not_left) more = decide_as (one_more raised bytes) (first_of_more raised bytes not_left) more

zero_plus : (z : ℤ) → pos 0 +ℤ z ≡ z
zero_plus z = omega (arith, ints)

decide_end : (bytes : List ℕ) → Dec ((list : List EpilogueInstruction) × IsEnd bytes list)
decide_end bytes = decide_as to from (end_of (length bytes) (pos 0) bytes (omega arith))
  where
    to : HasEnd (pos 0) bytes → (list : List EpilogueInstruction) × IsEnd bytes list
    to (list, fit, (rest, spelled, left)) =
        (list, record { fit = fit; rest = rest; spelled = spelled; left = subst (IsLeft rest) (zero_plus (raise_of_all list)) left })

    from : (list : List EpilogueInstruction) × IsEnd bytes list → HasEnd (pos 0) bytes
    from (list, end) = (list, end.fit, (end.rest, end.spelled, subst (IsLeft end.rest) (sym (zero_plus (raise_of_all list))) end.left))

-- ---- told by what stands before

decide_most : (m n : ℕ) → Dec (m ≤ n)
decide_most m n = decide_as (λ below. omega (arith, below)) (λ most. omega (arith, most)) (decide_below m (suc n))

abbrev CallWord : List ℕ → ℕ → ℕ → Type 0
CallWord text offset before =
    (4 * before ≤ offset) × ((tail : List ℕ) × IsTail tail
    × (BeginsWords (drop (offset - 4 * before) text) (auth_tail_call tail) × (before < length (auth_tail_call tail))))

decide_in_call : (text : List ℕ) (offset : ℕ) → Dec (IsInAuthTailCall text offset)
decide_in_call text offset =
    decide_as to from (decide_some (suc offset) (CallWord text offset) (λ before. decide_both (decide_most (4 * before) offset)
    (try_tail (λ tail. BeginsWords (drop (offset - 4 * before) text) (auth_tail_call tail) × (before < length (auth_tail_call tail)))
    (λ tail. decide_both (decide_words (drop (offset - 4 * before) text) (auth_tail_call tail)) (decide_below before (length (auth_tail_call tail)))))))
  where
    to : (before : ℕ) × (before < suc offset) × CallWord text offset before → IsInAuthTailCall text offset
    to (before, below, (enough, (tail, is_tail, ((suffix, spelled), within)))) = (
      before,
      record {
        words = length (auth_tail_call tail);
        enough = enough;
        begins = record { tail = tail; is = is_tail; suffix = suffix; spelled = spelled; counted = refl };
        within = within;
      },
    )

    from : IsInAuthTailCall text offset → (before : ℕ) × (before < suc offset) × CallWord text offset before
    from (before, there) = (
      before,
      omega (arith, there.enough),
      (there.enough, (there.begins.tail, there.begins.is, ((there.begins.suffix, there.begins.spelled), omega (arith, there.within, there.begins.counted)))),
    )

decide_mode : (one other : AddressingMode) → Dec (one ≡ other)
decide_mode PostIndex PostIndex = yes refl
decide_mode SignedOffset SignedOffset = yes refl
decide_mode PreIndex PreIndex = yes refl
decide_mode PostIndex SignedOffset = no (λ is. cc)
decide_mode PostIndex PreIndex = no (λ is. cc)
decide_mode SignedOffset PostIndex = no (λ is. cc)
decide_mode SignedOffset PreIndex = no (λ is. cc)
decide_mode PreIndex PostIndex = no (λ is. cc)
decide_mode PreIndex SignedOffset = no (λ is. cc)

decide_raises : (x : EpilogueInstruction) → Dec (Raises x)
decide_raises (Load bit_30 pair) = decide_mode pair.mode PostIndex
decide_raises (Add shift number) = yes tt

decide_ends_with_raise : (bytes : List ℕ) → Dec (EndsWithRaise bytes)
decide_ends_with_raise bytes =
    decide_as to from (try_epilogue (λ x. Raises x × Ends bytes (spell x)) (λ x. decide_both (decide_raises x) (decide_ends bytes (spell x))))
  where
    to : (x : EpilogueInstruction) × EpilogueFits x × (Raises x × Ends bytes (spell x)) → EndsWithRaise bytes
    to (x, fits, (raises, (prefix, is))) = (epilogue_word x, prefix, (x, fits, raises, refl), is)

    from : EndsWithRaise bytes → (x : EpilogueInstruction) × EpilogueFits x × (Raises x × Ends bytes (spell x))
    from (word, prefix, (x, fits, raises, word_is), is) = (x, fits, (raises, (prefix, is ∙ ap (λ w. prefix ++ to_le_bytes w32 w) word_is)))

abbrev BeginsWord : List ℕ → ℕ → Type 0
BeginsWord bytes word = Begins bytes (to_le_bytes w32 word)

decide_begins_with_branch : (bytes : List ℕ) → Dec (BeginsWithBranch bytes)
decide_begins_with_branch bytes =
    decide_as to from (decide_either (try_branch (BeginsWord bytes) (λ word. decide_begins bytes (to_le_bytes w32 word)))
    (try_register_branch (BeginsWord bytes) (λ word. decide_begins bytes (to_le_bytes w32 word))))
  where
    to : ((word : ℕ) × IsBranch word × BeginsWord bytes word) ⊎ ((word : ℕ) × IsRegisterBranch word × BeginsWord bytes word) → BeginsWithBranch bytes
    to (inl (word, branch, (suffix, is))) = (word, suffix, inl branch, is)
    to (inr (word, branch, (suffix, is))) = (word, suffix, inr branch, is)

    from : BeginsWithBranch bytes → ((word : ℕ) × IsBranch word × BeginsWord bytes word) ⊎ ((word : ℕ) × IsRegisterBranch word × BeginsWord bytes word)
    from (word, suffix, inl branch, is) = inl (word, branch, (suffix, is))
    from (word, suffix, inr branch, is) = inr (word, branch, (suffix, is))

decide_in_end : (text : List ℕ) (offset : ℕ) → Dec (IsInEnd text offset)
decide_in_end text offset =
    decide_either (decide_in_call text offset) (decide_both (decide_ends_with_raise (take offset text)) (decide_begins_with_branch (drop offset text)))

decide_epilogue : (text : List ℕ) (offset : ℕ) → Dec ((list : List EpilogueInstruction) × IsEpilogue text offset list)
decide_epilogue text offset = decide_as to from (decide_either (decide_end (drop offset text)) (decide_in_end text offset))
  where
    to : ((list : List EpilogueInstruction) × IsEnd (drop offset text) list) ⊎ IsInEnd text offset → (list : List EpilogueInstruction) × IsEpilogue text offset list
    to (inl (list, end)) = (list, Forward end)
    to (inr there) = ([], Back refl there)

    from : (list : List EpilogueInstruction) × IsEpilogue text offset list → ((list : List EpilogueInstruction) × IsEnd (drop offset text) list) ⊎ IsInEnd text offset
    from (list, Forward end) = inl (list, end)
    from (list, Back empty there) = inr there

-- ---- rules

decide_none : (o : Option ℤ) → Dec (o ≡ None)
decide_none None = yes refl
decide_none (Some z) = no (λ is. cc)

some_same : (y z : ℤ) → Some y ≡ Some z → y ≡ z
some_same y z same = cc

decide_offset : (o : Option ℤ) (z : ℤ) → Dec (o ≡ Some z)
decide_offset None z = no (λ is. cc)
decide_offset (Some y) z = decide_as (ap Some) (some_same y z) (decide_equal_int y z)

decide_three : {A B C : Type 0} → Dec A → Dec B → Dec C → Dec (A × B × C)
decide_three a b c = decide_as (λ all. (all.0, all.1.0, all.1.1)) (λ all. (all.0, (all.1, all.2))) (decide_both a (decide_both b c))

module _ (raised : ℤ) (fp lr : Option ℤ) where
  abbrev Is : UnwindRuleAarch64 → Type 0
  Is = IsRuleFor raised fp lr

  -- an offset in words, at which a register is stored
  abbrev AtOffset : (ℤ → UnwindRuleAarch64) → Type 0
  AtOffset rule = (y : ℤ) × (negsuc 32767 ≤ℤ y) × (y ≤ℤ pos 32767) × Is (rule y)

  -- two of them
  abbrev AtOffsets : (ℤ → ℤ → UnwindRuleAarch64) → Type 0
  AtOffsets rule = (y : ℤ) × (negsuc 32767 ≤ℤ y) × (y ≤ℤ pos 32767) × AtOffset (rule y)

  -- so many pairs of words, by which the stack pointer goes up
  abbrev ByPairs : (ℕ → Type 0) → Type 0
  ByPairs P = (x : ℕ) × (x < 2 ^ 16) × P x

  decide_pairs : (x : ℕ) → Dec (raised ≡ pos (16 * x))
  decide_pairs x = decide_equal_int raised (pos (16 * x))

  pub decide_rule : Dec ((rule : UnwindRuleAarch64) × FieldsFit rule × IsRuleFor raised fp lr rule)
  decide_rule =
      decide_as to from (decide_either (decide_three (decide_equal_int raised (pos 0)) (decide_none fp) (decide_none lr))
      (decide_either (decide_some (2 ^ 16) (λ x. (0 < x) × Is (OffsetSp x)) (λ x. decide_both (decide_below 0 x) (decide_three (decide_pairs x) (decide_none fp) (decide_none lr))))
      (decide_either (decide_some (2 ^ 16) (λ x. AtOffset (OffsetSpAndRestoreLr x))
      (λ x. try_int 32767 (λ y. Is (OffsetSpAndRestoreLr x y)) (λ y. decide_three (decide_pairs x) (decide_none fp) (decide_offset lr (pos 8 *ℤ y)))))
      (decide_some (2 ^ 16) (λ x. AtOffsets (OffsetSpAndRestoreFpAndLr x))
      (λ x. try_int 32767 (λ y. AtOffset (OffsetSpAndRestoreFpAndLr x y)) (λ y. try_int 32767 (λ z. Is (OffsetSpAndRestoreFpAndLr x y z))
      (λ z. decide_three (decide_pairs x) (decide_offset fp (pos 8 *ℤ y)) (decide_offset lr (pos 8 *ℤ z)))))))))
    where
      to : Is NoOp ⊎ (ByPairs (λ x. (0 < x) × Is (OffsetSp x)) ⊎ (ByPairs (λ x. AtOffset (OffsetSpAndRestoreLr x)) ⊎ ByPairs (λ x. AtOffsets (OffsetSpAndRestoreFpAndLr x))))
          → (rule : UnwindRuleAarch64) × FieldsFit rule × IsRuleFor raised fp lr rule
      to (inl is) = (NoOp, tt, is)
      to (inr (inl (x, fits, (some, is)))) = (OffsetSp x, (some, fits), is)
      to (inr (inr (inl (x, fits, (y, low, high, is))))) = (OffsetSpAndRestoreLr x y, (fits, record { low = low; high = high }), is)
      to (inr (inr (inr (x, fits, (y, low, high, (z, z_low, z_high, is)))))) =
          (OffsetSpAndRestoreFpAndLr x y z, (fits, record { low = low; high = high }, record { low = z_low; high = z_high }), is)

      from : (rule : UnwindRuleAarch64) × FieldsFit rule × IsRuleFor raised fp lr rule
          → Is NoOp ⊎ (ByPairs (λ x. (0 < x) × Is (OffsetSp x)) ⊎ (ByPairs (λ x. AtOffset (OffsetSpAndRestoreLr x)) ⊎ ByPairs (λ x. AtOffsets (OffsetSpAndRestoreFpAndLr x))))
      from (NoOp, fits, is) = inl is
      from (OffsetSp x, fits, is) = inr (inl (x, fits.1, (fits.0, is)))
      from (OffsetSpAndRestoreLr x y, fits, is) = inr (inr (inl (x, fits.0, (y, fits.1.low, fits.1.high, is))))
      from (OffsetSpAndRestoreFpAndLr x y z, fits, is) = inr (inr (inr (x, fits.0, (y, fits.1.low, fits.1.high, (z, fits.2.low, fits.2.high, is)))))
      from (rest, fits, is) = absurd is

-- ---- the epilogue

pub epilogue_at : (text : List ℕ) (offset : ℕ) → (found : Option UnwindRuleAarch64) × IsFound (IsEpilogueRule text offset) found
epilogue_at text offset = by (decide_epilogue text offset)
  where
    ruled : (list : List EpilogueInstruction) → IsEpilogue text offset list → Dec ((rule : UnwindRuleAarch64) × FieldsFit rule × IsRuleOfEpilogue list rule)
        → (found : Option UnwindRuleAarch64) × IsFound (IsEpilogueRule text offset) found
    ruled list there (yes (rule, fits, is)) = (Some rule, read_epilogue text offset (Some rule) (list, there, fits, is) tt)
    ruled list there (no none) = (
      None,
      read_epilogue text offset None tt (λ other rule other_there fits is.
          none (rule, fits, subst (λ (l : List EpilogueInstruction). IsRuleOfEpilogue l rule) (one_epilogue text offset other list other_there there) is)),
    )

    by : Dec ((list : List EpilogueInstruction) × IsEpilogue text offset list) → (found : Option UnwindRuleAarch64) × IsFound (IsEpilogueRule text offset) found
    by (no none) = (None, read_epilogue text offset None tt (λ list rule there fits is. none (list, there)))
    by (yes (list, there)) = ruled list there (decide_rule (raise_of_all list) (last_load_offset 29 list) (last_load_offset 30 list))

-- ---- the prologue

decide_expected_instruction : (x : PrologueInstruction) (lowered : ℤ) → Dec (IsExpectedInstruction x lowered)
decide_expected_instruction Sign lowered = yes tt
decide_expected_instruction (Sub shift number) lowered = yes tt
decide_expected_instruction (Store bit_30 pair) lowered = by (decide_mode pair.mode SignedOffset) (decide_equal_int lowered (pos 0))
  where
    by : Dec (pair.mode ≡ SignedOffset) → Dec (lowered ≡ pos 0) → Dec (pair.mode ≡ SignedOffset → lowered ≢ pos 0)
    by (yes is) (yes same) = no (λ other. other is same)
    by (yes is) (no other) = yes (λ signed. other)
    by (no other) lowers = yes (λ is. absurd (other is))

abbrev store : PrologueInstruction → List ℕ
store x = to_le_bytes w32 (prologue_word x)

decide_expected : (bytes : List ℕ) (lowered : ℤ) → Dec (IsExpected bytes lowered)
decide_expected bytes lowered =
    decide_as to from (decide_either
    (try_prologue (λ x. IsExpectedInstruction x lowered × Begins bytes (store x)) (λ x. decide_both (decide_expected_instruction x lowered) (decide_begins bytes (store x))))
    (try_frame_pointer (BeginsWord bytes) (λ word. decide_begins bytes (to_le_bytes w32 word))))
  where
    to : ((x : PrologueInstruction) × PrologueFits x × (IsExpectedInstruction x lowered × Begins bytes (store x))) ⊎ ((word : ℕ) × SetsFramePointer word × BeginsWord bytes word)
        → IsExpected bytes lowered
    to (inl (x, fits, (expected, (suffix, is)))) = (prologue_word x, suffix, inl (x, fits, expected, refl), is)
    to (inr (word, sets, (suffix, is))) = (word, suffix, inr sets, is)

    from : IsExpected bytes lowered
        → ((x : PrologueInstruction) × PrologueFits x × (IsExpectedInstruction x lowered × Begins bytes (store x))) ⊎ ((word : ℕ) × SetsFramePointer word × BeginsWord bytes word)
    from (word, suffix, inl (x, fits, expected, word_is), is) = inl (x, fits, (expected, (suffix, is ∙ ap (λ w. to_le_bytes w32 w ++ suffix) word_is)))
    from (word, suffix, inr sets, is) = inr (word, sets, (suffix, is))

prologue_between : (before from : List ℕ) → (found : Option UnwindRuleAarch64) × IsFound (IsPrologueRule before from) found
prologue_between before from = by (decide_expected from (lowering_of_all run.run)) (decide_rule (lowering_of_all run.run) None None)
  where
    run : Longest PrologueFits store try_prologue (λ x. omega arith) before
    run = longest PrologueFits store try_prologue (λ x. omega arith) before

    longest_run : IsLongestRun before run.prefix run.run
    longest_run = record { all = run.all; spelled = run.spelled; longest = run.longest }

    by : Dec (IsExpected from (lowering_of_all run.run)) → Dec ((rule : UnwindRuleAarch64) × FieldsFit rule × IsRuleOfPrologue run.run rule)
        → (found : Option UnwindRuleAarch64) × IsFound (IsPrologueRule before from) found
    by (no none) ruled = (
      None,
      read_prologue before from None tt (λ list rule there fits is.
          none (subst (λ (l : List PrologueInstruction). IsExpected from (lowering_of_all l)) (same_run before there.prefix run.prefix list run.run there.run longest_run) there.next)),
    )
    by (yes next) (yes (rule, fits, is)) =
        (Some rule, read_prologue before from (Some rule) (run.run, record { prefix = run.prefix; run = longest_run; next = next }, fits, is) tt)
    by (yes next) (no none) = (
      None,
      read_prologue before from None tt (λ list rule there fits is.
          none (rule, fits, subst (λ (l : List PrologueInstruction). IsRuleOfPrologue l rule) (same_run before there.prefix run.prefix list run.run there.run longest_run) is)),
    )

pub prologue_at : (text : List ℕ) (offset : ℕ) → (found : Option UnwindRuleAarch64) × IsFound (IsPrologueRule (take offset text) (drop offset text)) found
prologue_at text offset = prologue_between (take offset text) (drop offset text)

-- ---- the prologue, or else the epilogue

pub rule_at : (text : List ℕ) (offset : ℕ)
    → (found : Option UnwindRuleAarch64) × IsFound (IsOfFirst (IsPrologueRule (take offset text) (drop offset text)) (IsEpilogueRule text offset)) found
rule_at text offset = either_found _ _ (prologue_at text offset) (epilogue_at text offset)
