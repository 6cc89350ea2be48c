-- Steps of the readings of offsets and of tables.
use Rattle.std.proofs.Common.{◌≡◌, ℕ, zero, suc, ◌+◌, ◌-◌, ◌%◌, ◌^◌, ◌<◌, List, [], ◌∷◌, ◌++◌, sum_by, take, drop, get_or, length, Result, Ok, Err, refl, ap, ◌∙◌, arith}
use Rattle.std.proofs.Math.Seq.{split_at}
use Rattle.std.proofs.lemmas.List.{take_more}
use Rattle.std.proofs.lemmas.List.Sums.{sum_by_push}
use Rattle.dwarf_constants.specs.declared.error.Error.{Error}
use Rattle.dwarf_read_core.specs.AbbreviationTable.{Declaration, table_in}
use Rattle.dwarf_readers.specs.Stretch.{Stretch, ◌>>=◌, number_at}
use Rattle.cases_unwinding.specs.Codes.{declared_in, declared_up_to, tables_at_offsets, words_at}

words_refused_here : (i : ℕ) (e : Error) (seen : List ℕ) (s t : Stretch) → words_at i s ≡ Ok (seen, t) → number_at 4 t ≡ Err e → words_at (suc i) s ≡ Err e
words_refused_here i e seen s t before read = rw (before, read) refl

words_refused_later : (k i : ℕ) (e : Error) (s : Stretch) → words_at i s ≡ Err e → words_at (k + i) s ≡ Err e
words_refused_later zero i e s refused = let same : zero + i ≡ i = omega arith in rw same refused
words_refused_later (suc k) i e s refused =
    let more : suc k + i ≡ suc (k + i) = omega arith in
    rw (more, words_refused_later k i e s refused) refl

-- the next number is refused, and so are all
pub words_refused : (i n : ℕ) (e : Error) (seen : List ℕ) (s t : Stretch) → i < n → words_at i s ≡ Ok (seen, t) → number_at 4 t ≡ Err e → words_at n s ≡ Err e
words_refused i n e seen s t inside before read =
    let rest : (n - suc i) + suc i ≡ n = omega arith in
    rw rest at (words_refused_later (n - suc i) (suc i) e s (words_refused_here i e seen s t before read))

joined : {A : Type 0} → (first : Result A Error) (before after : Result (List A) Error) → (first >>= λ x. (before >>= λ xs. after >>= λ ys. Ok (xs ++ ys)) >>= λ zs. Ok (x ∷ zs)) ≡ ((first >>= λ x. before >>= λ xs. Ok (x ∷ xs)) >>= λ xs. after >>= λ ys. Ok (xs ++ ys))
joined (Err e) before after = refl
joined (Ok x) (Err e) after = refl
joined (Ok x) (Ok xs) (Err e) = refl
joined (Ok x) (Ok xs) (Ok ys) = refl

same_list : {A : Type 0} → (read : Result (List A) Error) → read ≡ (read >>= λ xs. Ok xs)
same_list (Ok xs) = refl
same_list (Err e) = refl

-- some tables are read, and then more
tables_append : (offsets more : List ℕ) (section : Stretch) → tables_at_offsets (offsets ++ more) section ≡ (tables_at_offsets offsets section >>= λ before. tables_at_offsets more section >>= λ after. Ok (before ++ after))
tables_append [] more section = same_list (tables_at_offsets more section)
tables_append (offset ∷ offsets) more section =
    rw (tables_append offsets more section) (joined (table_in offset section) (tables_at_offsets offsets section) (tables_at_offsets more section))

one_more : {A : Type 0} → (f : A → ℕ) (before : Result (List A) Error) (x : A) (found : ℕ) → (before >>= λ xs. Ok (sum_by f xs % 2 ^ 64)) ≡ Ok found → ((before >>= λ xs. Ok (xs ++ x ∷ [])) >>= λ xs. Ok (sum_by f xs % 2 ^ 64)) ≡ Ok ((found + f x) % 2 ^ 64)
one_more f (Err e) x found counted = cc
one_more f (Ok xs) x found counted =
    let is : sum_by f xs % 2 ^ 64 ≡ found = cc in
    let same : sum_by f (xs ++ x ∷ []) % 2 ^ 64 ≡ (found + f x) % 2 ^ 64 = omega (arith, sum_by_push f xs x) in
    ap Ok same

-- the next table is read
pub declared_more : (i codes found : ℕ) (offsets : List ℕ) (table : List Declaration) (section : Stretch) → i < length offsets → declared_in (take i offsets) codes section ≡ Ok found → table_in (get_or offsets i 0) section ≡ Ok table → declared_in (take (i + 1) offsets) codes section ≡ Ok ((found + declared_up_to codes table) % 2 ^ 64)
declared_more i codes found offsets table section inside before here =
    rw (take_more offsets i 0 inside, tables_append (take i offsets) (get_or offsets i 0 ∷ []) section, here)
    (one_more (declared_up_to codes) (tables_at_offsets (take i offsets) section) table found before)

none_more : {A : Type 0} → (f : List A → ℕ) (before : Result (List A) Error) (found : ℕ) (e : Error) → (before >>= λ xs. Ok (f xs)) ≡ Ok found → ((before >>= λ xs. Err e) >>= λ xs. Ok (f xs)) ≡ Err e
none_more f (Err e') found e counted = cc
none_more f (Ok xs) found e counted = refl

refused_behind : (before more : List ℕ) (offset codes found : ℕ) (e : Error) (section : Stretch) → declared_in before codes section ≡ Ok found → table_in offset section ≡ Err e → declared_in (before ++ offset ∷ more) codes section ≡ Err e
refused_behind before more offset codes found e section counted here =
    rw (tables_append before (offset ∷ more) section, here)
    (none_more (λ (tables : List (List Declaration)). sum_by (declared_up_to codes) tables % 2 ^ 64) (tables_at_offsets before section) found e counted)

-- the next table is refused, and so are all
pub declared_refused : (i codes found : ℕ) (offsets : List ℕ) (e : Error) (section : Stretch) → i < length offsets → declared_in (take i offsets) codes section ≡ Ok found → table_in (get_or offsets i 0) section ≡ Err e → declared_in offsets codes section ≡ Err e
declared_refused i codes found offsets e section inside before here =
    ap (λ parts. declared_in parts codes section) (split_at offsets i 0 inside)
    ∙ refused_behind (take i offsets) (drop (suc i) offsets) (get_or offsets i 0) codes found e section before here
