-- The list at a place among all arrangements, by its first element and the place of the others.
use Rattle.std.proofs.Common.{◌≡◌, ◌∙◌, ℕ, zero, suc, ◌+◌, ◌-◌, ◌*◌, ◌<◌, ◌≤◌, refl, sym, ap, arith, inl, inr, List, [], ◌∷◌, ◌++◌, length, length-append, append_assoc, append-nil, Option, Some, None}
use Rattle.std.specs.Prelude.{◌/◌, ◌%◌, map, slice_index_or}
use Rattle.std.specs.List.{flat_map, slice_get, remove, AllByRecursion}
use Rattle.std.specs.Option.{option_map}
use Rattle.std.proofs.lemmas.Bool.{cases_lt}
use Rattle.std.proofs.lemmas.List.Edits.{length-remove}
use Rattle.std.proofs.lemmas.Nat.{div-add-mod', div-mul-add, mod-mul-add}
use Rattle.std.proofs.Math.Nat.{div-eq_of_lt, mod-eq_of_lt, mod-lt}
use Rattle.framehop_compact.specs.SavedRegisters.{choices, arrangements, arrangement_count, saved_register_names, registers_of}
use Rattle.framehop_compact.specs.declared.x86_64.saved_registers.RegisterNameX86_64.{RegisterNameX86_64}

-- ---- a place among pieces of one length

get_left : {A : Type 0} (xs ys : List A) (i : ℕ) → i < length xs → slice_get (xs ++ ys) i ≡ slice_get xs i
get_left [] ys i below = absurd (omega arith)
get_left (x ∷ xs) ys zero below = refl
get_left (x ∷ xs) ys (suc i) below = get_left xs ys i (omega arith)

get_right : {A : Type 0} (xs ys : List A) (i : ℕ) → slice_get (xs ++ ys) (length xs + i) ≡ slice_get ys i
get_right [] ys i = let e : 0 + i ≡ i = omega arith in ap (slice_get ys) e
get_right (x ∷ xs) ys i =
    let e : suc (length xs) + i ≡ suc (length xs + i) = omega arith in ap (slice_get (x ∷ (xs ++ ys))) e ∙ get_right xs ys i

abbrev pub in_piece : {A B : Type 0} → Option A → (A → Option B) → Option B
in_piece None f = None
in_piece (Some x) f = f x

pub get_piece : {A B : Type 0} (f : A → List B) (k : ℕ) (xs : List A) (n : ℕ) → 0 < k → AllByRecursion (λ x. length (f x) ≡ k) xs
    → slice_get (flat_map f xs) n ≡ in_piece (slice_get xs (n / k)) (λ x. slice_get (f x) (n % k))
get_piece f k [] n some all = refl
get_piece f k (x ∷ xs) n some all = elim (cases_lt n k) [
  | inl within ↦
      let none : n / k ≡ 0 = quotient_below n k within in
      let same : n % k ≡ n = rest_below n k within in
      get_left (f x) (flat_map f xs) n (omega (arith, all.0)) ∙ ap (slice_get (f x)) (sym same)
      ∙ ap (λ q. in_piece (slice_get (x ∷ xs) q) (λ y. slice_get (f y) (n % k))) (sym none)
  | inr past ↦
      let m : ℕ = n - k in
      let back : n ≡ k + m = omega arith in
      let up : n / k ≡ suc (m / k) = ap (λ i. i / k) back ∙ quotient_past k m some in
      let same : n % k ≡ m % k = ap (λ i. i % k) back ∙ rest_past k m some in
      let place : n ≡ length (f x) + m = omega (arith, all.0) in
      ap (slice_get (f x ++ flat_map f xs)) place ∙ get_right (f x) (flat_map f xs) m
      ∙ get_piece f k xs m some all.1
      ∙ ap (λ q. in_piece (slice_get xs (m / k)) (λ y. slice_get (f y) q)) (sym same)
      ∙ ap (λ q. in_piece (slice_get (x ∷ xs) q) (λ y. slice_get (f y) (n % k))) (sym up)
]
  where
    quotient_below : (n k : ℕ) → n < k → n / k ≡ 0
    quotient_below n k below = div-eq_of_lt below

    rest_below : (n k : ℕ) → n < k → n % k ≡ n
    rest_below n k below = mod-eq_of_lt below

    again : (k m : ℕ) → k + m ≡ suc (m / k) * k + m % k
    again k m = omega (arith, div-add-mod' m k)

    quotient_past : (k m : ℕ) → 0 < k → (k + m) / k ≡ suc (m / k)
    quotient_past k m some = ap (λ i. i / k) (again k m) ∙ div-mul-add (suc (m / k)) k (m % k) (mod-lt m some)

    rest_past : (k m : ℕ) → 0 < k → (k + m) % k ≡ m % k
    rest_past k m some = ap (λ i. i % k) (again k m) ∙ mod-mul-add (suc (m / k)) k (m % k) (mod-lt m some)

-- ---- choices

get_mapped : {A B : Type 0} (f : A → B) (xs : List A) (i : ℕ) → slice_get (map f xs) i ≡ option_map f (slice_get xs i)
get_mapped f [] i = refl
get_mapped f (x ∷ xs) zero = refl
get_mapped f (x ∷ xs) (suc i) = get_mapped f xs i

pub choice_at : {A : Type 0} (xs : List A) (i : ℕ) (d : A) → i < length xs → slice_get (choices xs) i ≡ Some (slice_index_or xs i d, remove xs i)
choice_at [] i d below = absurd (omega arith)
choice_at (x ∷ xs) zero d below = refl
choice_at (x ∷ xs) (suc i) d below = get_mapped (λ choice. (choice.0, x ∷ choice.1)) (choices xs) i ∙ ap (option_map (λ choice. (choice.0, x ∷ choice.1))) (choice_at xs i d (omega arith))

pub no_choice_at : {A : Type 0} (xs : List A) (i : ℕ) → length xs ≤ i → slice_get (choices xs) i ≡ None
no_choice_at [] i past = refl
no_choice_at (x ∷ xs) zero past = absurd (omega arith)
no_choice_at (x ∷ xs) (suc i) past = get_mapped (λ choice. (choice.0, x ∷ choice.1)) (choices xs) i ∙ ap (option_map (λ choice. (choice.0, x ∷ choice.1))) (no_choice_at xs i (omega arith))

pub all_mapped : {A B : Type 0} (P : B → Type 0) (f : A → B) (xs : List A) → AllByRecursion (λ x. P (f x)) xs → AllByRecursion P (map f xs)
all_mapped P f [] all = tt
all_mapped P f (x ∷ xs) all = (all.0, all_mapped P f xs all.1)

length_mapped : {A B : Type 0} (f : A → B) (xs : List A) → length (map f xs) ≡ length xs
length_mapped f [] = refl
length_mapped f (x ∷ xs) = ap suc (length_mapped f xs)

pub all_weaker : {A : Type 0} (P Q : A → Type 0) (xs : List A) → ((x : A) → P x → Q x) → AllByRecursion P xs → AllByRecursion Q xs
all_weaker P Q [] weaker all = tt
all_weaker P Q (x ∷ xs) weaker all = (weaker x all.0, all_weaker P Q xs weaker all.1)

choice_sizes : {A : Type 0} (xs : List A) → AllByRecursion (λ (c : A × List A). suc (length c.1) ≡ length xs) (choices xs)
choice_sizes [] = tt
choice_sizes {A} (x ∷ xs) = (
  refl,
  all_mapped (λ (c : A × List A). suc (length c.1) ≡ suc (length xs)) (λ (c : A × List A). (c.0, x ∷ c.1)) (choices xs)
      (all_weaker (λ (c : A × List A). suc (length c.1) ≡ length xs) (λ (c : A × List A). suc (suc (length c.1)) ≡ suc (length xs)) (choices xs) (λ c e. ap suc e) (choice_sizes xs)),
)

length_choices : {A : Type 0} (xs : List A) → length (choices xs) ≡ length xs
length_choices [] = refl
length_choices {A} (x ∷ xs) =
    let grow : A × List A → A × List A = λ c. (c.0, x ∷ c.1) in ap suc (length_mapped grow (choices xs) ∙ length_choices xs)

-- ---- how many arrangements there are

length_pieces : {A B : Type 0} (f : A → List B) (k : ℕ) (xs : List A) → AllByRecursion (λ x. length (f x) ≡ k) xs → length (flat_map f xs) ≡ length xs * k
length_pieces f k [] all = omega arith
length_pieces f k (x ∷ xs) all = omega (arith, length-append (f x) (flat_map f xs), all.0, length_pieces f k xs all.1)

abbrev with_first : {A : Type 0} → ℕ → (A × List A) → List (List A)
with_first count c = map (λ list. c.0 ∷ list) (arrangements count c.1)

abbrev Sized : (A : Type 0) → ℕ → Type 0
Sized A count = (left : List A) → length (arrangements count left) ≡ arrangement_count count (length left)

sizes_from : {A : Type 0} (count size : ℕ) → Sized A count → (cs : List (A × List A)) → AllByRecursion (λ (c : A × List A). suc (length c.1) ≡ suc size) cs
    → AllByRecursion (λ c. length (with_first count c) ≡ arrangement_count count size) cs
sizes_from count size sized [] all = tt
sizes_from {A} count size sized (c ∷ cs) all =
    let same : length c.1 ≡ size = omega (arith, all.0) in
    let first : List A → List A = λ list. c.0 ∷ list in
    (length_mapped first (arrangements count c.1) ∙ sized c.1 ∙ ap (arrangement_count count) same, sizes_from count size sized cs all.1)

pub length_arrangements : {A : Type 0} (count : ℕ) (left : List A) → length (arrangements count left) ≡ arrangement_count count (length left)
unfolding arrangements
length_arrangements zero left = refl
length_arrangements (suc count) [] = refl
length_arrangements {A} (suc count) (x ∷ xs) =
    length_pieces (with_first count) (arrangement_count count (length xs)) (choices (x ∷ xs))
    (sizes_from {A = A} count (length xs) (λ left. length_arrangements count left) (choices (x ∷ xs)) (choice_sizes (x ∷ xs)))
    ∙ ap (λ n. n * arrangement_count count (length xs)) (length_choices (x ∷ xs))

-- ---- the list at a place

piece_at : {A : Type 0} (count m : ℕ) (left : List A) (n : ℕ) → length left ≡ suc m → 0 < arrangement_count count m
    → slice_get (arrangements (suc count) left) n
    ≡ in_piece (slice_get (choices left) (n / arrangement_count count m)) (λ c. slice_get (with_first count c) (n % arrangement_count count m))
unfolding arrangements
piece_at {A} count m left n size some =
    get_piece (with_first count) (arrangement_count count m) (choices left) n some
    (sizes_from {A = A} count m (λ more. length_arrangements count more) (choices left)
    (all_weaker (λ (c : A × List A). suc (length c.1) ≡ length left) (λ (c : A × List A). suc (length c.1) ≡ suc m) (choices left) (λ c e. e ∙ size) (choice_sizes left)))

pub arrangement_at : {A : Type 0} (count m : ℕ) (left : List A) (d : A) (n : ℕ) → length left ≡ suc m → 0 < arrangement_count count m
    → n / arrangement_count count m < length left
    → slice_get (arrangements (suc count) left) n
    ≡ option_map (λ list. slice_index_or left (n / arrangement_count count m) d ∷ list)
    (slice_get (arrangements count (remove left (n / arrangement_count count m))) (n % arrangement_count count m))
arrangement_at {A} count m left d n size some below =
    let k : ℕ = arrangement_count count m in
    let first : List A → List A = λ list. slice_index_or left (n / k) d ∷ list in
    piece_at count m left n size some ∙ ap (λ o. in_piece o (λ c. slice_get (with_first count c) (n % k))) (choice_at left (n / k) d below)
    ∙ get_mapped first (arrangements count (remove left (n / k))) (n % k)

pub no_arrangement_at : {A : Type 0} (count m : ℕ) (left : List A) (n : ℕ) → length left ≡ suc m → 0 < arrangement_count count m
    → length left ≤ n / arrangement_count count m → slice_get (arrangements (suc count) left) n ≡ None
no_arrangement_at count m left n size some past =
    let k : ℕ = arrangement_count count m in
    piece_at count m left n size some ∙ ap (λ o. in_piece o (λ c. slice_get (with_first count c) (n % k))) (no_choice_at left (n / k) past)

-- ---- numbers of arrangements of six

pub some_arrangements : (count left : ℕ) → count ≤ left → 0 < arrangement_count count left
some_arrangements zero left fits = omega arith
some_arrangements (suc count) zero fits = absurd (omega arith)
some_arrangements (suc count) (suc left) fits = let some = some_arrangements count left (omega arith) in positive left (arrangement_count count left) some
  where
    positive : (a b : ℕ) → 0 < b → 0 < suc a * b
    positive a b some = grind arith

get_past : {A : Type 0} (xs : List A) (i : ℕ) → length xs ≤ i → slice_get xs i ≡ None
get_past [] i past = refl
get_past (x ∷ xs) zero past = absurd (omega arith)
get_past (x ∷ xs) (suc i) past = get_past xs i (omega arith)

-- more registers than there are
pub too_many : (count number : ℕ) → 6 < count → registers_of count number ≡ None
too_many zero number many = absurd (omega arith)
too_many (suc count) number many =
    get_past (arrangements (suc count) saved_register_names) number (omega (arith, length_arrangements (suc count) saved_register_names, none (suc count) many))
  where
    none : (count : ℕ) → 6 < count → arrangement_count count 6 ≡ 0
    none (suc (suc (suc (suc (suc (suc (suc c))))))) many = omega arith
    none zero many = absurd (omega arith)
    none (suc zero) many = absurd (omega arith)
    none (suc (suc zero)) many = absurd (omega arith)
    none (suc (suc (suc zero))) many = absurd (omega arith)
    none (suc (suc (suc (suc zero)))) many = absurd (omega arith)
    none (suc (suc (suc (suc (suc zero))))) many = absurd (omega arith)
    none (suc (suc (suc (suc (suc (suc zero)))))) many = absurd (omega arith)

-- ---- the loop

pub record IsTaken (count start taken : ℕ) (registers left : List RegisterNameX86_64) (number : ℕ) : Type 0 where
  pub rest : 0 < count → option_map (λ list. registers ++ list) (slice_get (arrangements (count - taken) left) number) ≡ slice_get (arrangements count saved_register_names) start
  pub within : 0 < taken → number < arrangement_count (count - taken) (length left)
  pub of_six : length left + taken ≡ 6
  pub so_many : length registers ≡ taken

append_first : {A : Type 0} (registers : List A) (x : A) (found : Option (List A))
    → option_map (λ list. registers ++ list) (option_map (λ list. x ∷ list) found) ≡ option_map (λ list. (registers ++ x ∷ []) ++ list) found
append_first registers x None = refl
append_first registers x (Some list) = ap Some (sym (append_assoc registers (x ∷ []) list))

nothing_mapped : {A : Type 0} (registers : List A) (found : Option (List A)) → found ≡ None → option_map (λ list. registers ++ list) found ≡ None
nothing_mapped registers found is = ap (option_map (λ list. registers ++ list)) is

same_place : (c c2 s n k weight place : ℕ) (x : RegisterNameX86_64) (left : List RegisterNameX86_64) → c2 ≡ c → s ≡ suc c → weight ≡ k → place ≡ n / weight → x ≡ slice_index_or left place x
    → slice_get (arrangements (suc c) left) n ≡ option_map (λ list. slice_index_or left (n / k) x ∷ list) (slice_get (arrangements c (remove left (n / k))) (n % k))
    → slice_get (arrangements s left) n ≡ option_map (λ list. x ∷ list) (slice_get (arrangements c2 (remove left place)) (n % weight))
same_place c c2 s n k weight place x left c_is s_is behind_is place_is x_is here =
    ap (λ t. slice_get (arrangements t left) n) s_is ∙ here
    ∙ ap (λ b. option_map (λ list. slice_index_or left (n / b) x ∷ list) (slice_get (arrangements c (remove left (n / b))) (n % b))) (sym behind_is)
    ∙ ap (λ p. option_map (λ list. slice_index_or left p x ∷ list) (slice_get (arrangements c (remove left p)) (n % weight))) (sym place_is)
    ∙ ap (λ y. option_map (λ list. y ∷ list) (slice_get (arrangements c (remove left place)) (n % weight))) (sym x_is)
    ∙ ap (λ t. option_map (λ list. x ∷ list) (slice_get (arrangements t (remove left place)) (n % weight))) (sym c_is)

pub take_one : (count start taken : ℕ) (registers left : List RegisterNameX86_64) (number weight place : ℕ) (x : RegisterNameX86_64)
    → IsTaken count start taken registers left number → taken < count → count ≤ 6
    → weight ≡ arrangement_count (count - 1 - taken) (length left - 1) → place ≡ number / weight → place < length left
    → x ≡ slice_index_or left place x
    → IsTaken count start (taken + 1) (registers ++ x ∷ []) (remove left place) (number % weight)
take_one count start taken registers left number weight place x is more fits behind_is place_is below x_is =
    let c : ℕ = count - 1 - taken in
    let m : ℕ = length left - 1 in
    let k : ℕ = arrangement_count c m in
    let size : length left ≡ suc m = omega (arith, below) in
    let some : 0 < k = some_arrangements c m (omega (arith, is.of_six, more, fits)) in
    let one_more : count - taken ≡ suc c = omega (arith, more) in
    let one_less : count - (taken + 1) ≡ c = omega arith in
    let at : number / k ≡ place = ap (λ b. number / b) (sym behind_is) ∙ sym place_is in
    let here = arrangement_at c m left x number size some (omega (arith, below, at)) in
    let shorter : length (remove left place) ≡ m = omega (arith, length-remove left place below) in
    let bound : number % weight < weight = mod-lt number (omega (arith, some, behind_is)) in
    let room : arrangement_count (count - (taken + 1)) (length (remove left place)) ≡ weight =
    ap (λ t. arrangement_count t (length (remove left place))) one_less ∙ ap (arrangement_count c) shorter ∙ sym behind_is in
    record {
      rest = λ some_count. sym (append_first registers x (slice_get (arrangements (count - (taken + 1)) (remove left place)) (number % weight)))
          ∙ ap (λ o. option_map (λ list. registers ++ list) o) (sym (same_place c (count - (taken + 1)) (count - taken) number k weight place x left one_less one_more behind_is place_is x_is here))
          ∙ is.rest some_count;
      within = λ taken_some. omega (arith, bound, room);
      of_six = omega (arith, shorter, is.of_six, size);
      so_many = omega (arith, is.so_many, length-append registers (x ∷ []));
    }

pub none_taken : (count start taken : ℕ) (registers left : List RegisterNameX86_64) (number weight place : ℕ)
    → IsTaken count start taken registers left number → taken < count → count ≤ 6
    → weight ≡ arrangement_count (count - 1 - taken) (length left - 1) → place ≡ number / weight → length left ≤ place
    → registers_of count start ≡ None
none_taken zero start taken registers left number weight place is more fits behind_is place_is past = absurd (omega arith)
none_taken (suc count) start taken registers left number weight place is more fits behind_is place_is past =
    let c : ℕ = suc count - 1 - taken in
    let m : ℕ = length left - 1 in
    let k : ℕ = arrangement_count c m in
    let size : length left ≡ suc m = omega (arith, is.of_six, more, fits) in
    let some : 0 < k = some_arrangements c m (omega (arith, is.of_six, more, fits)) in
    let one_more : suc count - taken ≡ suc c = omega (arith, more) in
    let at : number / k ≡ place = ap (λ b. number / b) (sym behind_is) ∙ sym place_is in
    sym (is.rest (omega arith))
    ∙ nothing_mapped registers (slice_get (arrangements (suc count - taken) left) number)
    (ap (λ t. slice_get (arrangements t left) number) one_more ∙ no_arrangement_at c m left number size some (omega (arith, past, at)))

pub all_taken : (count start : ℕ) (registers left : List RegisterNameX86_64) (number : ℕ) → IsTaken count start count registers left number → Some registers ≡ registers_of count start
unfolding arrangements
all_taken zero start [] left number is = refl
all_taken zero start (x ∷ xs) left number is = absurd (omega (arith, is.so_many))
all_taken (suc count) start registers left number is =
    let done : suc count - suc count ≡ 0 = omega arith in
    let low : number ≡ 0 = omega (arith, is.within (omega arith), ap (λ t. arrangement_count t (length left)) done) in
    let one : slice_get (arrangements (suc count - suc count) left) number ≡ Some [] =
    ap (λ t. slice_get (arrangements t left) number) done ∙ ap (slice_get ([] ∷ [])) low in
    ap Some (sym (append-nil registers)) ∙ sym (ap (option_map (λ list. registers ++ list)) one) ∙ is.rest (omega arith)
