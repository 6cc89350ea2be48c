-- Words that leave a function.
use Rattle.std.proofs.Common.{◌≡◌, ◌≢◌, ◌∙◌, ℕ, ◌+◌, ◌-◌, ◌<◌, ◌^◌, refl, sym, ap, subst, arith, ◌⊎◌, inl, inr, Bool, true, false, Option, Some, None, List, [], ◌∷◌, ◌++◌, length, take, drop, Bor, nat_eq}
use Rattle.std.specs.Prelude.{ℤ, pos, ◌/◌, ◌%◌, is_some, IfSome, IfNone}
use Rattle.std.specs.Cmp.Lexicographic.{pointwise}
use Rattle.std.proofs.lemmas.Bool.Decides.{Decides-eqb}
use Rattle.std.proofs.lemmas.Slice.Eq.{strip_prefix_is}
use Rattle.std.specs.Int.{to_le_bytes, w32}
use Rattle.framehop_analysis.specs.EpilogueInstructionsAarch64.{EpilogueInstruction, Load, Add, EpilogueFits, epilogue_word}
use Rattle.framehop_analysis.specs.FunctionEndsAarch64.{bytes_of_words, IsBranch, IsRegisterBranch, IsMoveToX16, IsAuthBranch, IsTail, auth_tail_call, FunctionEnd, Return, AuthReturn, TailCall, AuthTailCall, IsEndOf, IsEndWord, IsLeft, BeginsWithTail, BeginsWithAuthTailCall}
use Rattle.framehop_analysis.specs.LookBackAarch64.{IsRaise}
use Rattle.framehop_analysis.proofs.Words.{four}
use Rattle.framehop_analysis.proofs.DistinctWords.{mode_few, words_few}

-- ---- branches, by their bits

pub branch_is : (word : ℕ) → word / 2 ^ 26 ≡ 5 → IsBranch word
branch_is word top = record { distance = word - 0x14000000; fits = omega arith; is = omega arith }

pub branch_top : (word : ℕ) → IsBranch word → word / 2 ^ 26 ≡ 5
branch_top word branch = omega (arith, branch.fits, branch.is)

pub register_branch_is : (word : ℕ) → word / 2 ^ 10 ≡ 0x3587c0 → word % 2 ^ 5 ≡ 0 → IsRegisterBranch word
register_branch_is word top low = record { register = word / 2 ^ 5 % 32; fits = omega arith; is = omega arith }

pub move_is : (word : ℕ) → word / 2 ^ 29 ≡ 6 → word / 2 ^ 23 % 2 ^ 3 ≡ 5 → word % 2 ^ 5 ≡ 16 → IsMoveToX16 word
move_is word top middle low = record { form = word / 2 ^ 26 % 8; number = word / 2 ^ 5 % 2 ^ 18; form_fits = omega arith; number_fits = omega arith; is = omega arith }

pub record HasMove (word : ℕ) : Type 0 where
  pub top : word / 2 ^ 29 ≡ 6
  pub middle : word / 2 ^ 23 % 2 ^ 3 ≡ 5
  pub low : word % 2 ^ 5 ≡ 16

pub has_move : (word : ℕ) → IsMoveToX16 word → HasMove word
has_move word move =
    let form_fits = move.form_fits in
    let number_fits = move.number_fits in
    let is = move.is in
    record { top = omega (arith, form_fits, number_fits, is); middle = omega (arith, form_fits, number_fits, is); low = omega (arith, form_fits, number_fits, is) }

pub auth_branch_is : (word : ℕ) → word / 2 ^ 10 ≡ 0x35c7c2 → word % 2 ^ 5 ≡ 16 → IsAuthBranch word
auth_branch_is word top low = record { register = word / 2 ^ 5 % 32; fits = omega arith; is = omega arith }

branch_fits : (word : ℕ) → IsBranch word → word < 2 ^ 32
branch_fits word branch = omega (arith, branch.fits, branch.is)

move_fits : (word : ℕ) → IsMoveToX16 word → word < 2 ^ 32
move_fits word move = omega (arith, move.form_fits, move.number_fits, move.is)

-- ---- tails

pub one_word : (bytes more : List ℕ) (word : ℕ) → bytes ≡ to_le_bytes w32 word ++ more → IsBranch word → BeginsWithTail bytes 1
one_word bytes more word is branch = record { tail = word ∷ []; is = branch; suffix = more; spelled = is; counted = refl }

pub two_words : (bytes more rest : List ℕ) (word next : ℕ) → bytes ≡ to_le_bytes w32 word ++ more → more ≡ to_le_bytes w32 next ++ rest → IsMoveToX16 word → IsAuthBranch next → BeginsWithTail bytes 2
two_words bytes more rest word next is more_is move branch =
    record { tail = word ∷ next ∷ []; is = (move, branch); suffix = rest; spelled = is ∙ ap (λ bs. to_le_bytes w32 word ++ bs) more_is; counted = refl }

pub data Reading (word : ℕ) (more : List ℕ) (count : ℕ) : Type 0 where
  Near : IsBranch word → count ≡ 1 → Reading word more count
  Far : IsMoveToX16 word → (next : ℕ) → (rest : List ℕ) → IsAuthBranch next → more ≡ to_le_bytes w32 next ++ rest → count ≡ 2 → Reading word more count

pub tail_reads : (bytes more : List ℕ) (word count : ℕ) → bytes ≡ to_le_bytes w32 word ++ more → word < 2 ^ 32 → BeginsWithTail bytes count → Reading word more count
tail_reads bytes more word count is fits begins = by begins.tail begins.is begins.spelled begins.counted
  where
    by : (tail : List ℕ) → IsTail tail → bytes ≡ bytes_of_words tail ++ begins.suffix → count ≡ length tail → Reading word more count
    by [] is_tail spelled counted = absurd is_tail
    by (first ∷ []) is_tail spelled counted =
        let same = four word first more begins.suffix fits (branch_fits first is_tail) (sym is ∙ spelled) in
        Near (subst IsBranch (sym same.0) is_tail) counted
    by (first ∷ next ∷ []) is_tail spelled counted =
        let same = four word first more (to_le_bytes w32 next ++ begins.suffix) fits (move_fits first is_tail.0) (sym is ∙ spelled) in
        Far (subst IsMoveToX16 (sym same.0) is_tail.0) next begins.suffix is_tail.1 same.1 counted
    by (first ∷ next ∷ third ∷ more) is_tail spelled counted = absurd is_tail

auth_branch_fits : (word : ℕ) → IsAuthBranch word → word < 2 ^ 32
auth_branch_fits word branch = omega (arith, branch.fits, branch.is)

-- a move and another word
pub no_far : (bytes more rest : List ℕ) (word next count : ℕ) → bytes ≡ to_le_bytes w32 word ++ more → word < 2 ^ 32 → (IsBranch word → ⊥)
    → more ≡ to_le_bytes w32 next ++ rest → next < 2 ^ 32 → (IsAuthBranch next → ⊥) → ¬ BeginsWithTail bytes count
no_far bytes more rest word next count is fits no_branch more_is next_fits no_signed begins = elim (tail_reads bytes more word count is fits begins) [
  | Near branch counted ↦ no_branch branch
  | Far move other other_rest branch other_is counted ↦
      no_signed (subst IsAuthBranch (sym (four next other rest other_rest next_fits (auth_branch_fits other branch) (sym more_is ∙ other_is)).0) branch)
]

-- ---- authenticated tail calls

pub check : List ℕ
check = bytes_of_words (auth_tail_call [])

pub checked_is : (bytes suffix : List ℕ) (count : ℕ) → bytes ≡ check ++ suffix → BeginsWithTail suffix count → BeginsWithAuthTailCall bytes (4 + count)
unfolding check
checked_is bytes suffix count is begins =
    record { tail = begins.tail; is = begins.is; suffix = begins.suffix; spelled = is ∙ ap (λ bs. bytes_of_words (auth_tail_call []) ++ bs) begins.spelled; counted = omega (arith, begins.counted) }

-- what `strip_prefix` found
pub stripped : (bytes : List ℕ) (rest : Bor (List ℕ)) → (pointwise nat_eq (take 16 bytes) (bytes_of_words (auth_tail_call [])) ≡ true) × (rest.now ≡ drop 16 bytes) × (length rest.now + 16 ≡ length bytes) → bytes ≡ check ++ rest.now
unfolding check
stripped bytes rest found = strip_prefix_is Decides-eqb bytes (bytes_of_words (auth_tail_call [])) (Some rest) found

pub record Checked (bytes : List ℕ) (count : ℕ) : Type 0 where
  pub rest : List ℕ
  pub spelled : bytes ≡ check ++ rest
  pub fewer : ℕ
  pub begins : BeginsWithTail rest fewer
  pub counted : count ≡ 4 + fewer

pub checked_reads : (bytes : List ℕ) (count : ℕ) → BeginsWithAuthTailCall bytes count → Checked bytes count
unfolding check
checked_reads bytes count begins =
    record {
      rest = bytes_of_words begins.tail ++ begins.suffix;
      spelled = begins.spelled;
      fewer = length begins.tail;
      begins = record { tail = begins.tail; is = begins.is; suffix = begins.suffix; spelled = refl; counted = refl };
      counted = omega (arith, begins.counted);
    }

pub after_check : (a b : List ℕ) → check ++ a ≡ check ++ b → a ≡ b
unfolding check
after_check a b same = ap (drop 16) same

pub few_words : (bytes : List ℕ) (count : ℕ) → BeginsWithTail bytes count → count < 3
few_words bytes count begins = by begins.tail begins.is begins.counted
  where
    by : (tail : List ℕ) → IsTail tail → count ≡ length tail → count < 3
    by [] is_tail counted = absurd is_tail
    by (first ∷ []) is_tail counted = omega (arith, counted)
    by (first ∷ next ∷ []) is_tail counted = omega (arith, counted)
    by (first ∷ next ∷ third ∷ more) is_tail counted = absurd is_tail

pub no_checked : (bytes suffix : List ℕ) → bytes ≡ check ++ suffix → ((count : ℕ) → ¬ BeginsWithTail suffix count) → (count : ℕ) → ¬ BeginsWithAuthTailCall bytes count
no_checked bytes suffix is none count begins =
    let read = checked_reads bytes count begins in
    none read.fewer (subst (λ (bs : List ℕ). BeginsWithTail bs read.fewer) (after_check read.rest suffix (sym read.spelled ∙ is)) read.begins)

-- ---- whatever leaves

pub left_by_check : (bytes : List ℕ) (raised : ℤ) (count : ℕ) → BeginsWithAuthTailCall bytes count → IsLeft bytes raised
left_by_check bytes raised count begins = record { end = AuthTailCall; words = auth_tail_call begins.tail; is = (begins.tail, begins.is, refl); suffix = begins.suffix; spelled = begins.spelled }

pub left_by_word : (bytes more : List ℕ) (raised : ℤ) (word : ℕ) → bytes ≡ to_le_bytes w32 word ++ more → IsEndWord word raised → IsLeft bytes raised
left_by_word bytes more raised word is ends = record { end = ends.0; words = word ∷ []; is = ends.1; suffix = more; spelled = is }

pub data Leaving (bytes : List ℕ) (raised : ℤ) : Type 0 where
  ByCheck : (count : ℕ) → BeginsWithAuthTailCall bytes count → Leaving bytes raised
  ByWord : (word : ℕ) → (more : List ℕ) → IsEndWord word raised → word < 2 ^ 32 → bytes ≡ to_le_bytes w32 word ++ more → Leaving bytes raised

pub left_reads : (bytes : List ℕ) (raised : ℤ) → IsLeft bytes raised → Leaving bytes raised
left_reads bytes raised left = by left.end left.words left.is left.spelled
  where
    by : (end : FunctionEnd) (words : List ℕ) → IsEndOf end raised words → bytes ≡ bytes_of_words words ++ left.suffix → Leaving bytes raised
    by Return words is spelled = ByWord 0xd65f03c0 left.suffix (Return, refl) (omega arith) (spelled ∙ ap (λ ws. bytes_of_words ws ++ left.suffix) is)
    by AuthReturn words is spelled = ByWord 0xd65f0fff left.suffix (AuthReturn, refl) (omega arith) (spelled ∙ ap (λ ws. bytes_of_words ws ++ left.suffix) is)
    by TailCall words (raises, word, branch, is) spelled = ByWord word left.suffix (TailCall, (raises, word, branch, refl)) (branch_fits word branch) (spelled ∙ ap (λ ws. bytes_of_words ws ++ left.suffix) is)
    by AuthTailCall words (tail, is_tail, is) spelled =
        ByCheck (length (auth_tail_call tail)) (record { tail = tail; is = is_tail; suffix = left.suffix; spelled = spelled ∙ ap (λ ws. bytes_of_words ws ++ left.suffix) is; counted = refl })

-- the word of an end
pub end_word_reads : (word : ℕ) (raised : ℤ) → IsEndWord word raised → (word ≡ 0xd65f03c0) ⊎ ((word ≡ 0xd65f0fff) ⊎ ((raised ≢ pos 0) × IsBranch word))
end_word_reads word raised (Return, is) = inl cc
end_word_reads word raised (AuthReturn, is) = inr (inl cc)
end_word_reads word raised (TailCall, (raises, other, branch, is)) = let same : other ≡ word = cc in inr (inr (raises, subst IsBranch same branch))
end_word_reads word raised (AuthTailCall, (tail, is_tail, is)) = cc

-- is no load and no addition
pub no_step_word : (word : ℕ) (raised : ℤ) → IsEndWord word raised → (x : EpilogueInstruction) → EpilogueFits x → word ≢ epilogue_word x
no_step_word word raised ends x fits = elim (end_word_reads word raised ends) [
  | inl is ↦ other x fits (inl is)
  | inr more ↦ elim more [ inl is ↦ other x fits (inr (inl is)) | inr branch ↦ other x fits (inr (inr branch.1)) ]
]
  where
    other : (x : EpilogueInstruction) → EpilogueFits x → (word ≡ 0xd65f03c0) ⊎ ((word ≡ 0xd65f0fff) ⊎ IsBranch word) → word ≢ epilogue_word x
    other (Load bit_30 pair) fits (inl is) same = omega (arith, fits.0, fits.1.second, fits.1.first, mode_few pair.mode, words_few pair.offset_by_8 fits.1.low fits.1.high, is, same)
    other (Load bit_30 pair) fits (inr (inl is)) same = omega (arith, fits.0, fits.1.second, fits.1.first, mode_few pair.mode, words_few pair.offset_by_8 fits.1.low fits.1.high, is, same)
    other (Load bit_30 pair) fits (inr (inr branch)) same =
        omega (arith, fits.0, fits.1.second, fits.1.first, mode_few pair.mode, words_few pair.offset_by_8 fits.1.low fits.1.high, branch.fits, branch.is, same)
    other (Add shift number) fits (inl is) same = omega (arith, fits.0, fits.1, is, same)
    other (Add shift number) fits (inr (inl is)) same = omega (arith, fits.0, fits.1, is, same)
    other (Add shift number) fits (inr (inr branch)) same = omega (arith, fits.0, fits.1, branch.fits, branch.is, same)

pub word_fits : (x : EpilogueInstruction) → EpilogueFits x → epilogue_word x < 2 ^ 32
word_fits (Load bit_30 pair) fits = omega (arith, fits.0, fits.1.second, fits.1.first, mode_few pair.mode, words_few pair.offset_by_8 fits.1.low fits.1.high)
word_fits (Add shift number) fits = omega (arith, fits.0, fits.1)

autibsp : (x : EpilogueInstruction) → EpilogueFits x → 0xd50323ff ≢ epilogue_word x
autibsp (Load bit_30 pair) fits same = omega (arith, fits.0, fits.1.second, fits.1.first, mode_few pair.mode, words_few pair.offset_by_8 fits.1.low fits.1.high, same)
autibsp (Add shift number) fits same = omega (arith, fits.0, fits.1, same)

no_check : (x : EpilogueInstruction) → EpilogueFits x → (rest more : List ℕ) → check ++ rest ≢ to_le_bytes w32 (epilogue_word x) ++ more
unfolding check
no_check x fits rest more same = autibsp x fits (four 0xd50323ff (epilogue_word x) (drop 4 (check ++ rest)) more (omega arith) (word_fits x fits) same).0

pub no_step : (bytes more : List ℕ) (raised : ℤ) → IsLeft bytes raised → (x : EpilogueInstruction) → EpilogueFits x → bytes ≢ to_le_bytes w32 (epilogue_word x) ++ more
no_step bytes more raised left x fits same = elim (left_reads bytes raised left) [
  | ByCheck count begins ↦ let first = checked_reads bytes count begins in no_check x fits first.rest more (sym first.spelled ∙ same)
  | ByWord word rest ends word_small is ↦ no_step_word word raised ends x fits (four word (epilogue_word x) rest more word_small (word_fits x fits) (sym is ∙ same)).0
]

pub checked_left : (bytes : List ℕ) (raised : ℤ) (found : Option ℕ) (test : Bool) → test ≡ is_some found → test ≡ true → IfSome found (λ count. BeginsWithAuthTailCall bytes count) → IsLeft bytes raised
checked_left bytes raised (Some count) test is set begins = left_by_check bytes raised count begins
checked_left bytes raised None test is set begins = cc

pub left_in_word : (bytes more : List ℕ) (raised : ℤ) (word : ℕ) (found : Option ℕ) (test : Bool) → test ≡ is_some found → test ≡ false
    → IfNone found ((count : ℕ) → ¬ BeginsWithAuthTailCall bytes count) → bytes ≡ to_le_bytes w32 word ++ more → word < 2 ^ 32 → IsLeft bytes raised → IsEndWord word raised
left_in_word bytes more raised word (Some count) test is unset none bytes_is fits left = cc
left_in_word bytes more raised word None test is unset none bytes_is fits left = elim (left_reads bytes raised left) [
  | ByCheck count begins ↦ absurd (none count begins)
  | ByWord other rest ends other_fits other_is ↦ subst (λ (w : ℕ). IsEndWord w raised) (four other word rest more other_fits fits (sym other_is ∙ bytes_is)).0 ends
]

pub left_by_check_alone : (bytes more : List ℕ) (raised : ℤ) (word : ℕ) (found : Option ℕ) (test : Bool) → test ≡ is_some found → IfNone found ((count : ℕ) → ¬ BeginsWithAuthTailCall bytes count)
    → bytes ≡ to_le_bytes w32 word ++ more → word < 2 ^ 32 → (IsEndWord word raised → ⊥) → IsLeft bytes raised → test ≡ true
left_by_check_alone bytes more raised word (Some count) test is none bytes_is fits no_end left = is
left_by_check_alone bytes more raised word None test is none bytes_is fits no_end left = absurd (no_end (left_in_word bytes more raised word None test is is none bytes_is fits left))

pub checked_few : (bytes : List ℕ) (count : ℕ) → BeginsWithAuthTailCall bytes count → count < 7
checked_few bytes count begins =
    let read = checked_reads bytes count begins in
    omega (arith, read.counted, few_words read.rest read.fewer read.begins)

pub raise_fits : (word : ℕ) → IsRaise word → word < 2 ^ 32
raise_fits word (x, fits, raises, is) = omega (arith, is, word_fits x fits)
