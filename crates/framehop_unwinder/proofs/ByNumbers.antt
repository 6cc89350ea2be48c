-- Values by their numbers after a value is put in, changed or let go.
use Rattle.std.proofs.Common.{◌≡◌, ◌≢◌, ◌∙◌, ℕ, zero, suc, ◌+◌, ◌<◌, Bool, true, false, List, [], ◌∷◌, ◌++◌, length, get_or, Option, Some, None, ap, sym, refl, arith, subst, ◌⊎◌, inl, inr}
use Rattle.std.specs.Prelude.{◌==◌, if◌then◌else◌, slice_set, slice_index_or}
use Rattle.std.specs.List.{All}
use Rattle.std.proofs.lemmas.Bool.{cases_lt, cases_eq, eqb-true, eqb-false, eq-eqb, ne_eqb}
use Rattle.std.proofs.lemmas.List.{ext_get_or, get_or-set_same, get_or-set_other, length-set, length-append, get_or_append_left, get_or_default, get_or_past, get_or_push}
use Rattle.std.proofs.lemmas.List.Elements.{All-push, All-set, All-get_or, All-weaker, recursion_from_All}
use Rattle.framehop_unwinder.specs.ByNumber.{held, in_slot_of, for_each_below, by_number_of, AreApart, AreNumbered}

by-test : {X : Type 0} (n m : ℕ) (x y z : X) → (n ≡ m → x ≡ z) → (n ≢ m → y ≡ z) → (test : Bool) → (n == m) ≡ test → (if n == m then x else y) ≡ z
by-test n m x y z same other true is = rw is (same (eqb-true n m is))
by-test n m x y z same other false is = rw is (other (eqb-false n m is))

-- a choice by a comparison, by its cases
by-cases : {X : Type 0} (n m : ℕ) (x y z : X) → (n ≡ m → x ≡ z) → (n ≢ m → y ≡ z) → (if n == m then x else y) ≡ z
by-cases n m x y z same other = by-test n m x y z same other (n == m) refl

if-same : {X : Type 0} (n m : ℕ) (x y : X) → n ≡ m → (if n == m then x else y) ≡ x
if-same n m x y is = rw (eq-eqb n m is) refl

if-other : {X : Type 0} (n m : ℕ) (x y : X) → n ≢ m → (if n == m then x else y) ≡ y
if-other n m x y differ = rw (ne_eqb n m differ) refl

apart-tail : (n : ℕ) (ns : List ℕ) → AreApart (n ∷ ns) → AreApart ns
apart-tail n ns apart = λ i j h k same. omega (arith, apart (suc i) (suc j) (omega arith) (omega arith) same)

-- the first number is none of the others
first-apart : (n : ℕ) (ns : List ℕ) → AreApart (n ∷ ns) → (i : ℕ) → i < length ns → n ≢ get_or ns i 0
first-apart n ns apart i h = λ same. absurd (let no : 0 ≡ suc i = apart 0 (suc i) (omega arith) (omega arith) same in omega (arith, no))

module _ {X : Type 0} where
  -- what the slot at an index has
  pub slot-at : (ns : List ℕ) (vs : List (Option X)) (s : ℕ) → AreApart ns → length ns ≡ length vs → s < length ns → in_slot_of ns vs (get_or ns s 0) ≡ get_or vs s None
  slot-at [] vs s apart each h = absurd (omega arith)
  slot-at (n ∷ ns) [] s apart each h = absurd (omega (arith, each))
  slot-at (n ∷ ns) (v ∷ vs) zero apart each h = if-same n n v (in_slot_of ns vs n) refl
  slot-at (n ∷ ns) (v ∷ vs) (suc s) apart each h =
      if-other n (get_or ns s 0) v (in_slot_of ns vs (get_or ns s 0)) (first-apart n ns apart s (omega arith))
      ∙ slot-at ns vs s (apart-tail n ns apart) (omega (arith, each)) (omega arith)

  -- a number that no slot has
  pub slot-of-none : (ns : List ℕ) (vs : List (Option X)) (m : ℕ) → All (λ n. n ≢ m) ns → in_slot_of ns vs m ≡ None
  slot-of-none [] vs m none = refl
  slot-of-none (n ∷ ns) [] m none = refl
  slot-of-none (n ∷ ns) (v ∷ vs) m none =
      let parts = recursion_from_All (λ n. n ≢ m) (n ∷ ns) none in
      if-other n m v (in_slot_of ns vs m) (none 0 n (omega arith)) ∙ slot-of-none ns vs m (λ k d h. none (suc k) d (omega arith))

  -- other values in a slot change what is there under its number alone
  slot-set : (ns : List ℕ) (vs : List (Option X)) (s : ℕ) (v : Option X) (m : ℕ) → AreApart ns → length ns ≡ length vs → s < length ns
      → in_slot_of ns (slice_set vs s v) m ≡ (if get_or ns s 0 == m then v else in_slot_of ns vs m)
  slot-set [] vs s v m apart each h = absurd (omega arith)
  slot-set (n ∷ ns) [] s v m apart each h = absurd (omega (arith, each))
  slot-set (n ∷ ns) (w ∷ vs) zero v m apart each h =
      by-cases n m v (in_slot_of ns vs m) _ (λ same. sym (if-same n m v _ same)) (λ other. sym (if-other n m v _ other ∙ if-other n m w _ other))
  slot-set (n ∷ ns) (w ∷ vs) (suc s) v m apart each h =
      let k = get_or ns s 0 in
      let others = slot-set ns vs s v m (apart-tail n ns apart) (omega (arith, each)) (omega arith) in
      by-cases n m w (in_slot_of ns (slice_set vs s v) m) _
      (λ same. sym (if-other k m v _ (λ also. first-apart n ns apart s (omega arith) (same ∙ sym also)) ∙ if-same n m w _ same))
      (λ other. others ∙ by-cases k m v (in_slot_of ns vs m) _ (λ same. sym (if-same k m v _ same)) (λ differ. sym (if-other k m v _ differ ∙ if-other n m w _ other)))

  -- a slot with another number
  slot-renumbered : (ns : List ℕ) (vs : List (Option X)) (s : ℕ) (number : ℕ) (v : Option X) (m : ℕ) → AreApart ns → length ns ≡ length vs → s < length ns → All (λ n. n < number) ns
      → get_or vs s None ≡ None → m ≢ number → in_slot_of (slice_set ns s number) (slice_set vs s v) m ≡ in_slot_of ns vs m
  slot-renumbered [] vs s number v m apart each h given none differ = absurd (omega arith)
  slot-renumbered (n ∷ ns) [] s number v m apart each h given none differ = absurd (omega (arith, each))
  slot-renumbered (n ∷ ns) (w ∷ vs) zero number v m apart each h given none differ =
      if-other number m v _ (λ same. differ (sym same))
      ∙ sym (by-cases n m w (in_slot_of ns vs m) (in_slot_of ns vs m)
      (λ same. none ∙ sym (slot-of-none ns vs m (λ k d less. λ also. first-apart n ns apart k less (same ∙ sym also ∙ get_or_default ns k d 0 less)))) (λ other. refl))
  slot-renumbered (n ∷ ns) (w ∷ vs) (suc s) number v m apart each h given none differ =
      let others = slot-renumbered ns vs s number v m (apart-tail n ns apart) (omega (arith, each)) (omega arith) (λ k d h. given (suc k) d (omega arith)) none differ in
      ap (λ (x : Option X). if n == m then w else x) others

  -- a slot more, with another number
  slot-pushed : (ns : List ℕ) (vs : List (Option X)) (number : ℕ) (v : Option X) (m : ℕ) → length ns ≡ length vs → m ≢ number
      → in_slot_of (ns ++ number ∷ []) (vs ++ v ∷ []) m ≡ in_slot_of ns vs m
  slot-pushed [] [] number v m each differ = if-other number m v None (λ same. differ (sym same))
  slot-pushed [] (w ∷ vs) number v m each differ = absurd (omega (arith, each))
  slot-pushed (n ∷ ns) [] number v m each differ = absurd (omega (arith, each))
  slot-pushed (n ∷ ns) (w ∷ vs) number v m each differ = ap (λ (x : Option X). if n == m then w else x) (slot-pushed ns vs number v m (omega (arith, each)) differ)

  each-length : (n : ℕ) (f : ℕ → X) → length (for_each_below n f) ≡ n
  each-length zero f = refl
  each-length (suc n) f = omega (arith, length-append (for_each_below n f) (f n ∷ []), each-length n f)

  each-at : (n : ℕ) (f : ℕ → X) (i : ℕ) (d : X) → i < n → get_or (for_each_below n f) i d ≡ f i
  each-at zero f i d less = absurd (omega arith)
  each-at (suc n) f i d less = elim (cases_lt i n) [
    | inl under ↦ get_or_append_left (for_each_below n f) (f n ∷ []) d i (omega (arith, each-length n f)) ∙ each-at n f i d under
    | inr over ↦ let last : i ≡ n = omega arith in get_or_push (for_each_below n f) (f n) d i (each-length n f ∙ sym last) ∙ ap f (sym last)
  ]

  each-same : (n : ℕ) (f g : ℕ → X) → ((i : ℕ) → i < n → f i ≡ g i) → for_each_below n f ≡ for_each_below n g
  each-same zero f g same = refl
  each-same (suc n) f g same =
      ap (λ (xs : List X). xs ++ f n ∷ []) (each-same n f g (λ i less. same i (omega arith)))
      ∙ ap (λ (x : X). for_each_below n g ++ x ∷ []) (same n (omega arith))

  each-set : (n : ℕ) (f g : ℕ → X) (k : ℕ) (v : X) → k < n → g k ≡ v → ((i : ℕ) → i < n → i ≢ k → g i ≡ f i) → for_each_below n g ≡ slice_set (for_each_below n f) k v
  each-set n f g k v less here others =
      let fs = for_each_below n f in
      ext_get_or v (for_each_below n g) (slice_set fs k v) (each-length n g ∙ sym (each-length n f) ∙ sym (length-set fs k v))
      (λ i below.
      let under : i < n = omega (arith, each-length n g) in
      each-at n g i v under ∙ elim (cases_eq i k) [
        | inl same ↦ ap g same ∙ here ∙ sym (get_or-set_same fs k v v (omega (arith, each-length n f))) ∙ ap (λ (j : ℕ). get_or (slice_set fs k v) j v) (sym same)
        | inr differ ↦ others i under differ ∙ sym (each-at n f i v under) ∙ sym (get_or-set_other fs k i v v differ)
      ])

pub held-is : {X : Type 0} (xs : List (Option X)) (i : ℕ) → held xs i ≡ get_or xs i None
held-is [] i = refl
held-is (x ∷ xs) zero = refl
held-is (x ∷ xs) (suc i) = held-is xs i

apart-set : (ns : List ℕ) (s number : ℕ) → All (λ n. n < number) ns → AreApart ns → AreApart (slice_set ns s number)
apart-set ns s number given apart = λ i j h k same.
    let less : i < length ns = omega (arith, length-set ns s number) in
    let also : j < length ns = omega (arith, length-set ns s number) in
    elim (cases_eq i s) [
      | inl here ↦ elim (cases_eq j s) [
        | inl there ↦ here ∙ sym there
        | inr other ↦ absurd (
            let one : get_or (slice_set ns s number) i 0 ≡ number = ap (λ (x : ℕ). get_or (slice_set ns s number) x 0) here ∙ get_or-set_same ns s number 0 (omega (arith, here)) in
            let two = get_or-set_other ns s j number 0 other in
            omega (arith, one, two, same, given j 0 also))
      ]
      | inr differ ↦ elim (cases_eq j s) [
        | inl there ↦ absurd (
            let one : get_or (slice_set ns s number) j 0 ≡ number = ap (λ (x : ℕ). get_or (slice_set ns s number) x 0) there ∙ get_or-set_same ns s number 0 (omega (arith, there)) in
            let two = get_or-set_other ns s i number 0 differ in
            omega (arith, one, two, same, given i 0 less))
        | inr other ↦ apart i j less also (sym (get_or-set_other ns s i number 0 differ) ∙ same ∙ get_or-set_other ns s j number 0 other)
      ]
    ]

apart-push : (ns : List ℕ) (number : ℕ) → All (λ n. n < number) ns → AreApart ns → AreApart (ns ++ number ∷ [])
apart-push ns number given apart = λ i j h k same.
    let all = length-append ns (number ∷ []) in
    elim (cases_lt i (length ns)) [
      | inl less ↦ elim (cases_lt j (length ns)) [
        | inl also ↦ apart i j less also (sym (get_or_append_left ns (number ∷ []) 0 i less) ∙ same ∙ get_or_append_left ns (number ∷ []) 0 j also)
        | inr last ↦ absurd (omega (arith, all, get_or_push ns number 0 j (omega (arith, all)), get_or_append_left ns (number ∷ []) 0 i less, given i 0 less, same))
      ]
      | inr here ↦ elim (cases_lt j (length ns)) [
        | inl also ↦ absurd (omega (arith, all, get_or_push ns number 0 i (omega (arith, all)), get_or_append_left ns (number ∷ []) 0 j also, given j 0 also, same))
        | inr last ↦ omega (arith, all)
      ]
    ]

pub by-number-length : {X : Type 0} (ns : List ℕ) (vs : List (Option X)) (next : ℕ) → length (by_number_of ns vs next) ≡ next
by-number-length ns vs next = each-length next (in_slot_of ns vs)

module _ {X : Type 0} (ns : List ℕ) (vs : List (Option X)) (next : ℕ) (is : AreNumbered ns vs next) where
  -- a value in a slot without one
  pub numbered-reused : (s after : ℕ) (v : Option X) → s < length vs → after ≡ suc next → AreNumbered (slice_set ns s next) (slice_set vs s v) after
  numbered-reused s after v less more = record {
    each = length-set ns s next ∙ is.each ∙ sym (length-set vs s v);
    given = rw more (All-set (λ n. n < suc next) ns s next (omega arith) (All-weaker (λ n. n < next) (λ n. n < suc next) (λ n h. omega arith) ns is.given));
    apart = apart-set ns s next is.given is.apart;
  }

  pub by-number-reused : (s after : ℕ) (v : Option X) → s < length vs → after ≡ suc next → get_or vs s None ≡ None
      → by_number_of (slice_set ns s next) (slice_set vs s v) after ≡ by_number_of ns vs next ++ v ∷ []
  by-number-reused s after v less more none =
      let there : s < length ns = omega (arith, is.each) in
      let fresh = numbered-reused s after v less more in
      let f = in_slot_of ns vs in
      let g = in_slot_of (slice_set ns s next) (slice_set vs s v) in
      let number = get_or-set_same ns s next 0 there in
      let last : g next ≡ v = ap g (sym number) ∙ slot-at (slice_set ns s next) (slice_set vs s v) s fresh.apart fresh.each (omega (arith, length-set ns s next)) ∙ get_or-set_same vs s v None less in
      ap (λ (n : ℕ). for_each_below n g) more
      ∙ ap (λ (xs : List (Option X)). xs ++ g next ∷ []) (each-same next g f (λ m below. slot-renumbered ns vs s next v m is.apart is.each there is.given none (omega arith)))
      ∙ ap (λ (x : Option X). for_each_below next f ++ x ∷ []) last

  -- a value in one more slot
  pub numbered-pushed : (after : ℕ) (v : Option X) → after ≡ suc next → AreNumbered (ns ++ next ∷ []) (vs ++ v ∷ []) after
  numbered-pushed after v more = record {
    each = omega (arith, is.each, length-append ns (next ∷ []), length-append vs (v ∷ []));
    given = rw more (All-push (λ n. n < suc next) ns next (All-weaker (λ n. n < next) (λ n. n < suc next) (λ n h. omega arith) ns is.given) (omega arith));
    apart = apart-push ns next is.given is.apart;
  }

  pub by-number-pushed : (after : ℕ) (v : Option X) → after ≡ suc next
      → by_number_of (ns ++ next ∷ []) (vs ++ v ∷ []) after ≡ by_number_of ns vs next ++ v ∷ []
  by-number-pushed after v more =
      let fresh = numbered-pushed after v more in
      let f = in_slot_of ns vs in
      let g = in_slot_of (ns ++ next ∷ []) (vs ++ v ∷ []) in
      let number : get_or (ns ++ next ∷ []) (length ns) 0 ≡ next = get_or_push ns next 0 (length ns) refl in
      let last : g next ≡ v = ap g (sym number) ∙ slot-at (ns ++ next ∷ []) (vs ++ v ∷ []) (length ns) fresh.apart fresh.each (omega (arith, length-append ns (next ∷ []))) ∙ get_or_push vs v None (length ns) (sym is.each) in
      ap (λ (n : ℕ). for_each_below n g) more
      ∙ ap (λ (xs : List (Option X)). xs ++ g next ∷ []) (each-same next g f (λ m below. slot-pushed ns vs next v m is.each (omega arith)))
      ∙ ap (λ (x : Option X). for_each_below next f ++ x ∷ []) last

  -- another value in the slot of a number, or none
  pub numbered-set : (s : ℕ) (v : Option X) → AreNumbered ns (slice_set vs s v) next
  numbered-set s v = record { each = is.each ∙ sym (length-set vs s v); given = is.given; apart = is.apart }

  pub by-number-set : (s number : ℕ) (v : Option X) → s < length ns → get_or ns s 0 ≡ number
      → by_number_of ns (slice_set vs s v) next ≡ slice_set (by_number_of ns vs next) number v
  by-number-set s number v less at =
      let f = in_slot_of ns vs in
      let g = in_slot_of ns (slice_set vs s v) in
      let set = slot-set ns vs s v in
      each-set next f g number v (subst (λ n. n < next) at (is.given s 0 less))
      (set number is.apart is.each less ∙ if-same (get_or ns s 0) number v _ at)
      (λ i under differ. set i is.apart is.each less ∙ if-other (get_or ns s 0) i v _ (λ same. differ (sym same ∙ at)))

  -- what is held under the number of a slot
  pub by-number-held : (s number : ℕ) → s < length ns → get_or ns s 0 ≡ number → held (by_number_of ns vs next) number ≡ get_or vs s None
  by-number-held s number less at =
      held-is (by_number_of ns vs next) number
      ∙ each-at next (in_slot_of ns vs) number None (subst (λ n. n < next) at (is.given s 0 less))
      ∙ ap (in_slot_of ns vs) (sym at) ∙ slot-at ns vs s is.apart is.each less

  -- the same, of what was read there
  pub by-number-read : (s number : ℕ) (read : Option X) → s < length ns → get_or ns s 0 ≡ number → read ≡ get_or vs s read → held (by_number_of ns vs next) number ≡ read
  by-number-read s number read less at is_read =
      by-number-held s number less at ∙ get_or_default vs s None read (omega (arith, is.each)) ∙ sym is_read

  -- nothing is held under a number that no slot has
  pub by-number-none : (number : ℕ) → All (λ n. n ≢ number) ns → held (by_number_of ns vs next) number ≡ None
  by-number-none number none = held-is (by_number_of ns vs next) number ∙ elim (cases_lt number next) [
    | inl less ↦ each-at next (in_slot_of ns vs) number None less ∙ slot-of-none ns vs number none
    | inr past ↦ get_or_past (by_number_of ns vs next) number None (omega (arith, each-length next (in_slot_of ns vs)))
  ]
