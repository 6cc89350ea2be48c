-- The instructions up to a return, read one after the other.
use Rattle.std.proofs.Common.{◌≡◌, ◌∙◌, ℕ, ◌+◌, ◌*◌, ◌≤◌, ◌^◌, refl, sym, ap, subst, arith, Bool, true, false, List, [], ◌∷◌, ◌++◌, length, length-append, append_assoc, append-nil, drop, Option, Some, None}
use Rattle.std.specs.Prelude.{ℤ, pos, negsuc, ◌+ℤ◌, ◌≤ℤ◌, ◌==◌, if◌then◌else◌}
use Rattle.std.specs.List.{AllByRecursion}
use Rattle.std.specs.Int.{to_le_bytes, w32}
use Rattle.std.specs.Option.{option_map, IfNone}
use Rattle.framehop_rules.specs.declared.aarch64.unwind_rule.UnwindRuleAarch64.{UnwindRuleAarch64}
use Rattle.std.proofs.lemmas.Int.{ints}
use Rattle.framehop_analysis.specs.EpilogueInstructionsAarch64.{EpilogueInstruction, EpilogueFits, epilogue_word, epilogue_spelling}
use Rattle.framehop_analysis.specs.MachineAarch64.{access_offset}
use Rattle.framehop_analysis.specs.EpilogueAarch64.{raise_of, raise_of_all, load_offset, later, last_load_offset, FieldsFit, IsRuleFor, IsRuleOfEpilogue, IsEnd}
use Rattle.framehop_analysis.specs.EpilogueViewsAarch64.{IsTypeOf, BeginsWithNone, raise_of_type, load_offset_after, carried, Restores, HasNoRule}
use Rattle.framehop_analysis.specs.FunctionEndsAarch64.{IsLeft}
use Rattle.framehop_analysis.specs.LookBackAarch64.{IsInEnd, IsEpilogue, Forward, Back}
use Rattle.framehop_analysis.specs.declared.aarch64.instruction_analysis.epilogue.Restored.{Restored}
use Rattle.framehop_analysis.specs.declared.aarch64.instruction_analysis.epilogue.EpilogueInstructionType.{EpilogueInstructionType}
use Rattle.framehop_analysis.specs.declared.aarch64.instruction_analysis.epilogue.EpilogueInstructionType.TheVariants.{LoadPair, AddToSp}
use Rattle.framehop_analysis.proofs.DistinctWords.{same_instruction}
use Rattle.framehop_analysis.proofs.Words.{four}
use Rattle.framehop_analysis.proofs.EndWords.{word_fits, no_step}

-- ---- one more instruction after others

pub zero_plus : (z : ℤ) → pos 0 +ℤ z ≡ z
zero_plus z = omega (arith, ints)

regroup : (a b c : ℤ) → a +ℤ (b +ℤ c) ≡ (a +ℤ b) +ℤ c
regroup a b c = omega (arith, ints)

raise_one_more : (done : List EpilogueInstruction) (x : EpilogueInstruction) → raise_of_all (done ++ x ∷ []) ≡ raise_of_all done +ℤ raise_of x
raise_one_more [] x = omega (arith, ints)
raise_one_more (y ∷ done) x = ap (λ z. raise_of y +ℤ z) (raise_one_more done x) ∙ regroup (raise_of y) (raise_of_all done) (raise_of x)

offset_one_more : (number : ℕ) (done : List EpilogueInstruction) (x : EpilogueInstruction) → last_load_offset number (done ++ x ∷ []) ≡ carried (raise_of_all done) (last_load_offset number done) (load_offset number x)
offset_one_more number [] x = by (load_offset number x)
  where
    by : (o : Option ℤ) → later None o ≡ carried (pos 0) None o
    by None = refl
    by (Some z) = ap Some (sym (zero_plus z))
offset_one_more number (y ∷ done) x =
    ap (λ o. later (option_map (λ bytes. raise_of y +ℤ bytes) o) (load_offset number y)) (offset_one_more number done x) ∙ by (load_offset number x)
  where
    by : (o : Option ℤ) → later (option_map (λ bytes. raise_of y +ℤ bytes) (carried (raise_of_all done) (last_load_offset number done) o)) (load_offset number y)
        ≡ carried (raise_of y +ℤ raise_of_all done) (later (option_map (λ bytes. raise_of y +ℤ bytes) (last_load_offset number done)) (load_offset number y)) o
    by None = refl
    by (Some z) = ap Some (regroup (raise_of y) (raise_of_all done) z)

seen_raise : (kind : EpilogueInstructionType) (x : EpilogueInstruction) → IsTypeOf kind x → raise_of_type kind ≡ raise_of x
seen_raise (LoadPair pair) x (bit_30, is) = ap raise_of (sym is)
seen_raise (AddToSp bytes) x (shift, number, is, bytes_is) = ap pos bytes_is ∙ ap raise_of (sym is)

seen_offset : (number : ℕ) (kind : EpilogueInstructionType) (x : EpilogueInstruction) (raised : ℤ) (before : Option ℤ) → IsTypeOf kind x → load_offset_after number kind raised before ≡ carried raised before (load_offset number x)
seen_offset number (LoadPair pair) x raised before (bit_30, is) =
    by (pair.second == number) (pair.first == number) ∙ ap (λ i. carried raised before (load_offset number i)) (sym is)
  where
    by : (a b : Bool) → (if a then Some ((raised +ℤ access_offset pair) +ℤ pos 8) else if b then Some (raised +ℤ access_offset pair) else before)
        ≡ carried raised before (if a then Some (access_offset pair +ℤ pos 8) else if b then Some (access_offset pair) else None)
    by true b = ap Some (sym (regroup raised (access_offset pair) (pos 8)))
    by false true = refl
    by false false = refl
seen_offset number (AddToSp bytes) x raised before (shift, amount, is, bytes_is) = ap (λ i. carried raised before (load_offset number i)) (sym is)

-- one instruction after others, by what it does alone
pub offset_carried : (number : ℕ) (kind : EpilogueInstructionType) (raised : ℤ) (before : Option ℤ) → load_offset_after number kind raised before ≡ carried raised before (load_offset_after number kind (pos 0) None)
offset_carried number (LoadPair pair) raised before = by (pair.second == number) (pair.first == number)
  where
    by : (a b : Bool) → (if a then Some ((raised +ℤ access_offset pair) +ℤ pos 8) else if b then Some (raised +ℤ access_offset pair) else before)
        ≡ carried raised before (if a then Some ((pos 0 +ℤ access_offset pair) +ℤ pos 8) else if b then Some (pos 0 +ℤ access_offset pair) else None)
    by true b = ap Some (sym (ap (λ z. raised +ℤ (z +ℤ pos 8)) (zero_plus (access_offset pair)) ∙ regroup raised (access_offset pair) (pos 8)))
    by false true = ap Some (sym (ap (λ z. raised +ℤ z) (zero_plus (access_offset pair))))
    by false false = refl
offset_carried number (AddToSp bytes) raised before = refl

-- ---- what has been read

pub record IsPrefix (bytes : List ℕ) (done : List EpilogueInstruction) (rest : List ℕ) (restored : Restored) : Type 0 where
  pub all : AllByRecursion EpilogueFits done
  pub spelled : bytes ≡ epilogue_spelling done ++ rest
  pub restores : Restores done restored
  pub low : negsuc (2 ^ 34 * length done) ≤ℤ restored.raise
  pub high : restored.raise ≤ℤ pos (2 ^ 34 * length done)
  pub within : 4 * length done + length rest ≤ length bytes

spelling_one_more : (done : List EpilogueInstruction) (x : EpilogueInstruction) → epilogue_spelling (done ++ x ∷ []) ≡ epilogue_spelling done ++ to_le_bytes w32 (epilogue_word x)
spelling_one_more [] x = refl
spelling_one_more (y ∷ done) x = ap (λ bs. to_le_bytes w32 (epilogue_word y) ++ bs) (spelling_one_more done x)

all_one_more : (done : List EpilogueInstruction) (x : EpilogueInstruction) → AllByRecursion EpilogueFits done → EpilogueFits x → AllByRecursion EpilogueFits (done ++ x ∷ [])
all_one_more [] x all is = (is, tt)
all_one_more (y ∷ done) x all is = (all.0, all_one_more done x all.1 is)

pub prefix_and_one : (bytes rest more : List ℕ) (done : List EpilogueInstruction) (x : EpilogueInstruction) (kind : EpilogueInstructionType) (restored after : Restored)
    → IsPrefix bytes done rest restored → rest ≡ to_le_bytes w32 (epilogue_word x) ++ more → EpilogueFits x → IsTypeOf kind x
    → after.raise ≡ restored.raise +ℤ raise_of_type kind → after.fp ≡ load_offset_after 29 kind restored.raise restored.fp → after.lr ≡ load_offset_after 30 kind restored.raise restored.lr
    → (restored.raise +ℤ negsuc (2 ^ 33)) ≤ℤ after.raise → after.raise ≤ℤ (restored.raise +ℤ pos (2 ^ 33))
    → IsPrefix bytes (done ++ x ∷ []) more after
prefix_and_one bytes rest more done x kind restored after prefix rest_is fits seen raise_is fp_is lr_is above below =
    record {
      all = all_one_more done x prefix.all fits;
      spelled = prefix.spelled ∙ ap (λ bs. epilogue_spelling done ++ bs) rest_is
          ∙ sym (append_assoc (epilogue_spelling done) (to_le_bytes w32 (epilogue_word x)) more) ∙ ap (λ bs. bs ++ more) (sym (spelling_one_more done x));
      restores = record {
        raise = raise_is ∙ ap (λ z. restored.raise +ℤ z) (seen_raise kind x seen) ∙ ap (λ z. z +ℤ raise_of x) prefix.restores.raise ∙ sym (raise_one_more done x);
        fp = fp_is ∙ seen_offset 29 kind x restored.raise restored.fp seen ∙ ap (λ z. carried z restored.fp (load_offset 29 x)) prefix.restores.raise
            ∙ ap (λ o. carried (raise_of_all done) o (load_offset 29 x)) prefix.restores.fp ∙ sym (offset_one_more 29 done x);
        lr = lr_is ∙ seen_offset 30 kind x restored.raise restored.lr seen ∙ ap (λ z. carried z restored.lr (load_offset 30 x)) prefix.restores.raise
            ∙ ap (λ o. carried (raise_of_all done) o (load_offset 30 x)) prefix.restores.lr ∙ sym (offset_one_more 30 done x);
      };
      low = omega (arith, ints, prefix.low, above, length-append done (x ∷ []));
      high = omega (arith, ints, prefix.high, below, length-append done (x ∷ []));
      within = omega (arith, prefix.within, ap length rest_is, length-append done (x ∷ []));
    }

-- ---- another reading is the same

pub record GoesOn (done list : List EpilogueInstruction) (rest after_all : List ℕ) : Type 0 where
  pub more : List EpilogueInstruction
  pub fit : AllByRecursion EpilogueFits more
  pub is : list ≡ done ++ more
  pub spelled : rest ≡ epilogue_spelling more ++ after_all

-- no instruction stands there
abbrev NoStep : List ℕ → Type 0
NoStep bytes = (more : List ℕ) (x : EpilogueInstruction) → EpilogueFits x → bytes ≡ to_le_bytes w32 (epilogue_word x) ++ more → ⊥

goes_on : (done list : List EpilogueInstruction) (rest after_all : List ℕ) → AllByRecursion EpilogueFits done → AllByRecursion EpilogueFits list → NoStep after_all
    → epilogue_spelling done ++ rest ≡ epilogue_spelling list ++ after_all → GoesOn done list rest after_all
goes_on [] list rest after_all all fit none same = record { more = list; fit = fit; is = refl; spelled = same }
goes_on (x ∷ done) [] rest after_all all fit none same =
    absurd (none (epilogue_spelling done ++ rest) x all.0 (sym same ∙ append_assoc (to_le_bytes w32 (epilogue_word x)) (epilogue_spelling done) rest))
goes_on (x ∷ done) (y ∷ list) rest after_all all fit none same =
    let heads = four (epilogue_word x) (epilogue_word y) (epilogue_spelling done ++ rest) (epilogue_spelling list ++ after_all) (word_fits x all.0) (word_fits y fit.0)
    (sym (append_assoc (to_le_bytes w32 (epilogue_word x)) (epilogue_spelling done) rest) ∙ same ∙ append_assoc (to_le_bytes w32 (epilogue_word y)) (epilogue_spelling list) after_all) in
    let equal = same_instruction x y all.0 fit.0 heads.0 in
    let on = goes_on done list rest after_all all.1 fit.1 none heads.1 in
    record { more = on.more; fit = on.fit; is = ap (λ i. i ∷ list) (sym equal) ∙ ap (λ is. x ∷ is) on.is; spelled = on.spelled }

-- what stands after what has been read is an instruction, where the function isn't left
record Next (rest : List ℕ) : Type 0 where
  pub next : EpilogueInstruction
  pub fits : EpilogueFits next
  pub more : List ℕ
  pub spelled : rest ≡ to_le_bytes w32 (epilogue_word next) ++ more

next_of : (bytes rest : List ℕ) (done list : List EpilogueInstruction) (restored : Restored) → IsPrefix bytes done rest restored → IsEnd bytes list → (IsLeft rest restored.raise → ⊥) → Next rest
next_of bytes rest done list restored prefix end not_left =
    let on = goes_on done list rest end.rest prefix.all end.fit (λ more x. no_step end.rest more (raise_of_all list) end.left x) (sym prefix.spelled ∙ end.spelled) in
    by on.more on.fit on.is on.spelled
  where
    by : (more : List EpilogueInstruction) → AllByRecursion EpilogueFits more → list ≡ done ++ more → rest ≡ epilogue_spelling more ++ end.rest → Next rest
    by [] fit is spelled =
        absurd (not_left (subst (λ (bs : List ℕ). IsLeft bs restored.raise) (sym spelled)
        (subst (λ (z : ℤ). IsLeft end.rest z) (ap raise_of_all (is ∙ append-nil done) ∙ sym prefix.restores.raise) end.left)))
    by (x ∷ more) fit is spelled =
        record { next = x; fits = fit.0; more = epilogue_spelling more ++ end.rest; spelled = spelled ∙ append_assoc (to_le_bytes w32 (epilogue_word x)) (epilogue_spelling more) end.rest }

-- and so it is left if none stands there
pub no_end : (bytes rest : List ℕ) (done list : List EpilogueInstruction) (restored : Restored) → IsPrefix bytes done rest restored → BeginsWithNone rest → (IsLeft rest restored.raise → ⊥) → IsEnd bytes list → ⊥
no_end bytes rest done list restored prefix none not_left end =
    let there = next_of bytes rest done list restored prefix end not_left in
    none there.more there.next there.fits there.spelled

-- ---- the end

pub returned : (bytes rest : List ℕ) (done : List EpilogueInstruction) (restored : Restored) → IsPrefix bytes done rest restored → IsLeft rest restored.raise
    → (list : List EpilogueInstruction) × IsEnd bytes list × Restores list restored
returned bytes rest done restored prefix left = (
  done,
  record { fit = prefix.all; rest = rest; spelled = prefix.spelled; left = subst (λ (z : ℤ). IsLeft rest z) prefix.restores.raise left },
  prefix.restores,
)

pub nothing : {X : Type 0} (o : Option X) (P : Type 0) → P → IfNone o P
nothing None P p = p
nothing (Some x) P p = tt

-- ---- one list, and its rule

same_list : (a b : List EpilogueInstruction) (r t : List ℕ) → AllByRecursion EpilogueFits a → AllByRecursion EpilogueFits b → NoStep r → NoStep t → epilogue_spelling a ++ r ≡ epilogue_spelling b ++ t → a ≡ b
same_list [] [] r t fit_a fit_b none_r none_t same = refl
same_list [] (y ∷ b) r t fit_a fit_b none_r none_t same = absurd (none_r (epilogue_spelling b ++ t) y fit_b.0 (same ∙ append_assoc (to_le_bytes w32 (epilogue_word y)) (epilogue_spelling b) t))
same_list (x ∷ a) [] r t fit_a fit_b none_r none_t same = absurd (none_t (epilogue_spelling a ++ r) x fit_a.0 (sym same ∙ append_assoc (to_le_bytes w32 (epilogue_word x)) (epilogue_spelling a) r))
same_list (x ∷ a) (y ∷ b) r t fit_a fit_b none_r none_t same =
    let heads = four (epilogue_word x) (epilogue_word y) (epilogue_spelling a ++ r) (epilogue_spelling b ++ t) (word_fits x fit_a.0) (word_fits y fit_b.0)
    (sym (append_assoc (to_le_bytes w32 (epilogue_word x)) (epilogue_spelling a) r) ∙ same ∙ append_assoc (to_le_bytes w32 (epilogue_word y)) (epilogue_spelling b) t) in
    let equal = same_instruction x y fit_a.0 fit_b.0 heads.0 in
    ap (λ is. x ∷ is) (same_list a b r t fit_a.1 fit_b.1 none_r none_t heads.1) ∙ ap (λ i. i ∷ b) equal

pub same_end : (bytes : List ℕ) (a b : List EpilogueInstruction) → IsEnd bytes a → IsEnd bytes b → a ≡ b
same_end bytes a b one other = same_list a b one.rest other.rest one.fit other.fit (λ more x. no_step one.rest more (raise_of_all a) one.left x) (λ more x. no_step other.rest more (raise_of_all b) other.left x) (sym one.spelled ∙ other.spelled)

pub rule_restores : (list : List EpilogueInstruction) (restored : Restored) (rule : UnwindRuleAarch64) → Restores list restored → IsRuleOfEpilogue list rule → IsRuleFor restored.raise restored.fp restored.lr rule
rule_restores list restored rule restores is =
    subst (λ (z : ℤ). IsRuleFor z restored.fp restored.lr rule) (sym restores.raise)
    (subst (λ (o : Option ℤ). IsRuleFor (raise_of_all list) o restored.lr rule) (sym restores.fp)
    (subst (λ (o : Option ℤ). IsRuleFor (raise_of_all list) (last_load_offset 29 list) o rule) (sym restores.lr) is))

pub restores_rule : (list : List EpilogueInstruction) (restored : Restored) (rule : UnwindRuleAarch64) → Restores list restored → IsRuleFor restored.raise restored.fp restored.lr rule → IsRuleOfEpilogue list rule
restores_rule list restored rule restores is =
    subst (λ (z : ℤ). IsRuleFor z (last_load_offset 29 list) (last_load_offset 30 list) rule) restores.raise
    (subst (λ (o : Option ℤ). IsRuleFor restored.raise o (last_load_offset 30 list) rule) restores.fp
    (subst (λ (o : Option ℤ). IsRuleFor restored.raise restored.fp o rule) restores.lr is))

-- ---- none, where no rule says so

-- no rule says so of the one list that there is
pub no_rule_of : (bytes : List ℕ) (found : List EpilogueInstruction) (restored : Restored) → IsEnd bytes found → Restores found restored
    → ((rule : UnwindRuleAarch64) → FieldsFit rule → IsRuleFor restored.raise restored.fp restored.lr rule → ⊥) → HasNoRule bytes
no_rule_of bytes found restored end restores none list rule there fits is =
    none rule fits (rule_restores found restored rule restores (subst (λ (l : List EpilogueInstruction). IsRuleOfEpilogue l rule) (same_end bytes list found there end) is))

pub never_rule : {X : Type 0} (bytes : List ℕ) (o : Option X) → IfNone o ((list : List EpilogueInstruction) → IsEnd bytes list → ⊥) → IfNone o (HasNoRule bytes)
never_rule bytes (Some x) none = tt
never_rule bytes None none = λ list rule end fits is. none list end

pub no_rule_kept : {X : Type 0} (bytes : List ℕ) (found : List EpilogueInstruction) (restored : Restored) (o : Option X) → IsEnd bytes found → Restores found restored
    → IfNone o ((rule : UnwindRuleAarch64) → FieldsFit rule → IsRuleFor restored.raise restored.fp restored.lr rule → ⊥) → IfNone o (HasNoRule bytes)
no_rule_kept bytes found restored (Some x) end restores none = tt
no_rule_kept bytes found restored None end restores none = no_rule_of bytes found restored end restores none

-- ---- forward, where the offset isn't in an end

pub not_recognised : (text : List ℕ) (offset : ℕ) (test : Bool) → (IsInEnd text offset → test ≡ true) → test ≡ false → HasNoRule (drop offset text)
    → (list : List EpilogueInstruction) (rule : UnwindRuleAarch64) → IsEpilogue text offset list → FieldsFit rule → IsRuleOfEpilogue list rule → ⊥
not_recognised text offset test tells unset none list rule (Forward end) fits is = none list rule end fits is
not_recognised text offset test tells unset none list rule (Back empty there) fits is = let set = tells there in cc
