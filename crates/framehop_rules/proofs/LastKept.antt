-- In each set of a cache stands the last of what was kept for it.
use Rattle.std.proofs.Common.{◌≡◌, ◌∙◌, ℕ, zero, suc, ◌+◌, ◌<◌, ap, sym, subst, refl, arith, Bool, true, false, List, [], ◌∷◌, ◌++◌, length, get_or, take, replicate, reverse, map, Option, Some, None}
use Rattle.std.specs.Prelude.{◌==◌, ◌&&◌, option_map, if◌then◌else◌}
use Rattle.std.specs.Bool.{beq}
use Rattle.std.specs.List.{filter, Contains}
use Rattle.std.proofs.lemmas.Bool.Decides.{Decides-eqb}
use Rattle.std.proofs.lemmas.List.{get_or-set_same, get_or-set_other, length-set, length-replicate, append-nil, reverse-append, map_push, take-map}
use Rattle.std.proofs.lemmas.List.Elements.{filter-append}
use Rattle.framehop_rules.specs.Slots.{Key, KeptRule, Layout, Finding, Hits, EmptySlot, OtherModules, OtherAddress, key_in, kept_under, sets_in, set_of, slots_of, empty_set, empty_sets, with_newest, with_kept, finding_for, finding_among, or_else_finding, counts_after}
use Rattle.framehop_rules.specs.LastKept.{newest, last_entries, last_keys, HasLast}
use Rattle.framehop_rules.specs.declared.rule_cache.CacheStats.{CacheStats}
use Rattle.framehop_rules.proofs.Parts.{differ}

-- all that is read of n is none where all are none
same_in : {A : Type 0} (count set : ℕ) (x : A) → get_or (replicate count x) set x ≡ x
same_in zero set x = refl
same_in (suc count) zero x = refl
same_in (suc count) (suc set) x = same_in count set x

take-replicate : {A : Type 0} (n : ℕ) (x : A) → take n (replicate n x) ≡ replicate n x
take-replicate zero x = refl
take-replicate (suc n) x = ap (λ ys. x ∷ ys) (take-replicate n x)

-- the newest of a list and one more, at the front of the newest of the list
take-longer : {A : Type 0} (n : ℕ) (xs : List A) → take n (take (suc n) xs) ≡ take n xs
take-longer zero xs = refl
take-longer (suc n) [] = refl
take-longer (suc n) (x ∷ xs) = ap (λ ys. x ∷ ys) (take-longer n xs)

take-front : {A : Type 0} (n : ℕ) (x : A) (xs : List A) → take n (x ∷ take n xs) ≡ take n (x ∷ xs)
take-front zero x xs = refl
take-front (suc n) x xs = ap (λ ys. x ∷ ys) (take-longer n xs)

keys-nothing : (Rule : Type 0) (n : ℕ) → replicate n None ≡ map (key_in {Rule = Rule}) (replicate n None)
keys-nothing Rule zero = refl
keys-nothing Rule (suc n) = ap (λ slots. None ∷ slots) (keys-nothing Rule n)

map-reverse : {A B : Type 0} (f : A → B) (xs : List A) → reverse (map f xs) ≡ map f (reverse xs)
map-reverse f [] = refl
map-reverse f (x ∷ xs) =
    reverse-append (f x ∷ []) (map f xs) ∙ ap (λ ys. ys ++ f x ∷ []) (map-reverse f xs) ∙ sym (map_push f (reverse xs) x) ∙ ap (map f) (sym (reverse-append (x ∷ []) xs))

module _ {A : Type 0} (layout : Layout) where
  -- nothing was kept
  pub newest-none : newest {A = A} layout [] ≡ empty_set layout
  newest-none = take-replicate layout.ways None

  -- one more is the newest, and the oldest falls out
  pub newest-more : (kept : List A) (entry : A) → newest layout (kept ++ entry ∷ []) ≡ with_newest layout entry (newest layout kept)
  newest-more kept entry =
      ap (λ es. take layout.ways (map Some es ++ empty_set layout)) (reverse-append kept (entry ∷ []))
      ∙ sym (take-front layout.ways (Some entry) (map Some (reverse kept) ++ empty_set layout))

  -- one more of a set, or of another
  pub newest-of : (address : A → ℕ) (kept : List A) (entry : A) (set : ℕ)
      → newest layout (filter (λ e. set_of layout (address e) == set) (kept ++ entry ∷ []))
      ≡ (if set_of layout (address entry) == set then with_newest layout entry (newest layout (filter (λ e. set_of layout (address e) == set) kept))
      else newest layout (filter (λ e. set_of layout (address e) == set) kept))
  newest-of address kept entry set =
      let here : A → Bool = λ e. set_of layout (address e) == set in
      ap (newest layout) (filter-append here kept (entry ∷ [])) ∙ by (filter here kept) (set_of layout (address entry) == set)
    where
      by : (before : List A) (is_here : Bool)
          → newest layout (before ++ (if is_here then entry ∷ [] else [])) ≡ (if is_here then with_newest layout entry (newest layout before) else newest layout before)
      by before true = newest-more before entry
      by before false = ap (newest layout) (append-nil before)

module _ {Rule : Type 0} (layout : Layout) where
  pub new_last : HasLast {Rule = Rule} layout [] (empty_sets layout)
  new_last = record {
    count = length-replicate (sets_in layout) (empty_set layout);
    each = λ set. same_in (sets_in layout) set (empty_set layout) ∙ sym (newest-none layout);
  }

  in-set : (sets : List (List (Option (KeptRule Rule)))) (key : Key) (rule : Rule) (set : ℕ) (test : Bool) → length sets ≡ sets_in layout
      → (set_of layout key.address == set) ≡ test
      → slots_of layout (with_kept layout sets key rule) set ≡ (if test then with_newest layout (kept_under key rule) (slots_of layout sets set) else slots_of layout sets set)
  in-set sets key rule set true count is =
      let place = set_of layout key.address in
      let put = with_newest layout (kept_under key rule) (slots_of layout sets place) in
      let same : place ≡ set = (Decides-eqb place set).0 is in
      let there : place < length sets = omega arith in
      subst (λ s. slots_of layout (with_kept layout sets key rule) s ≡ with_newest layout (kept_under key rule) (slots_of layout sets s)) same
      (get_or-set_same sets place put (empty_set layout) there)
  in-set sets key rule set false count is =
      let place = set_of layout key.address in
      let put = with_newest layout (kept_under key rule) (slots_of layout sets place) in
      get_or-set_other sets place set put (empty_set layout) (λ same. differ place set is (sym same))

  -- what is kept is the newest of its set, and no other set changes
  pub kept_last : (kept : List (KeptRule Rule)) (sets : List (List (Option (KeptRule Rule)))) (key : Key) (rule : Rule) → HasLast layout kept sets
      → HasLast layout (kept ++ kept_under key rule ∷ []) (with_kept layout sets key rule)
  kept_last kept sets key rule has = record {
    count = length-set sets (set_of layout key.address) (with_newest layout (kept_under key rule) (slots_of layout sets (set_of layout key.address))) ∙ has.count;
    each = λ set.
        in-set sets key rule set (set_of layout key.address == set) has.count refl
        ∙ ap (λ slots. if set_of layout key.address == set then with_newest layout (kept_under key rule) slots else slots) (has.each set)
        ∙ sym (newest-of layout (λ e. e.key.address) kept (kept_under key rule) set);
  }

  -- the keys of what is kept in a set
  keys-filter : (set : ℕ) (kept : List (KeptRule Rule))
      → filter (λ key. set_of layout key.address == set) (map (λ e. e.key) kept) ≡ map (λ e. e.key) (filter (λ e. set_of layout e.key.address == set) kept)
  keys-filter set [] = refl
  keys-filter set (e ∷ es) = by (set_of layout e.key.address == set) _ _ (keys-filter set es)
    where
      by : (test : Bool) (keys : List Key) (entries : List (KeptRule Rule)) → keys ≡ map (λ e. e.key) entries
          → (if test then e.key ∷ keys else keys) ≡ map (λ e. e.key) (if test then e ∷ entries else entries)
      by true keys entries same = ap (λ keys. e.key ∷ keys) same
      by false keys entries same = same

  keys-all : (es : List (KeptRule Rule)) → map Some (map (λ e. e.key) es) ++ empty_set layout ≡ map key_in (map Some es ++ empty_set layout)
  keys-all [] = keys-nothing Rule layout.ways
  keys-all (e ∷ es) = ap (λ slots. Some e.key ∷ slots) (keys-all es)

  keys-newest : (es : List (KeptRule Rule)) → newest layout (map (λ e. e.key) es) ≡ map key_in (newest layout es)
  keys-newest es =
      ap (λ keys. take layout.ways (map Some keys ++ empty_set layout)) (map-reverse (λ (e : KeptRule Rule). e.key) es)
      ∙ ap (take layout.ways) (keys-all (reverse es))
      ∙ take-map key_in layout.ways (map Some (reverse es) ++ empty_set layout)

  -- the keys of the last are the last of the keys
  pub last_keys_are : (kept : List (KeptRule Rule)) (set : ℕ) → last_keys layout (map (λ e. e.key) kept) set ≡ map key_in (last_entries layout kept set)
  last_keys_are kept set = ap (newest layout) (keys-filter set kept) ∙ keys-newest (filter (λ e. set_of layout e.key.address == set) kept)

module _ {Rule : Type 0} where
  -- what a look-up counts in one slot doesn't ask which rule it finds
  data Alike : Finding Rule → Finding Rule → Type 0 where
    hits : (one other : Rule) → Alike (Hits one) (Hits other)
    empty : Alike EmptySlot EmptySlot
    others : Alike OtherModules OtherModules
    elsewhere : Alike OtherAddress OtherAddress

  by-tests : (same_generation same_key : Bool) (one other : Rule)
      → Alike (if same_generation then (if same_key then Hits one else OtherAddress) else OtherModules) (if same_generation then (if same_key then Hits other else OtherAddress) else OtherModules)
  by-tests true true one other = hits one other
  by-tests true false one other = elsewhere
  by-tests false same_key one other = others

  slot-alike : (key : Key) (one other : Option (KeptRule Rule)) → key_in one ≡ key_in other → Alike (finding_for key one) (finding_for key other)
  slot-alike key None None same = empty
  slot-alike key None (Some other) same = absurd cc
  slot-alike key (Some one) None same = absurd cc
  slot-alike key (Some one) (Some other) same =
      let keys : one.key ≡ other.key = cc in
      let P : Key → Type 0 = λ k. Alike (finding_for key (Some one)) (finding_for key (Some (record { key = k; rule = other.rule }))) in
      subst P keys (by-tests (one.key.generation == key.generation) (one.key.address == key.address && beq one.key.is_first key.is_first) one.rule other.rule)

  or-alike : (one other next following : Finding Rule) → Alike one other → Alike next following → Alike (or_else_finding one next) (or_else_finding other following)
  or-alike one other next following (hits a b) later = hits a b
  or-alike one other next following empty later = later
  or-alike one other next following others later = later
  or-alike one other next following elsewhere later = later

  among-alike : (key : Key) (a b : List (Option (KeptRule Rule))) → map key_in a ≡ map key_in b → Alike (finding_among key a) (finding_among key b)
  among-alike key [] [] same = empty
  among-alike key [] (y ∷ ys) same = absurd cc
  among-alike key (x ∷ xs) [] same = absurd cc
  among-alike key (x ∷ []) (y ∷ []) same = slot-alike key x y cc
  among-alike key (x ∷ []) (y ∷ z ∷ ys) same = absurd (let e : [] ≡ map key_in (z ∷ ys) = cc in cc)
  among-alike key (x ∷ w ∷ xs) (y ∷ []) same = absurd (let e : map key_in (w ∷ xs) ≡ [] = cc in cc)
  among-alike key (x ∷ w ∷ xs) (y ∷ z ∷ ys) same =
      or-alike (finding_for key x) (finding_for key y) (finding_among key (w ∷ xs)) (finding_among key (z ∷ ys)) (slot-alike key x y cc) (among-alike key (w ∷ xs) (z ∷ ys) cc)

  same-counts : (one other : Finding Rule) (counts : CacheStats) → Alike one other → counts_after one counts ≡ counts_after other counts
  same-counts one other counts (hits a b) = refl
  same-counts one other counts empty = refl
  same-counts one other counts others = refl
  same-counts one other counts elsewhere = refl

  -- what a look-up counts is decided by the keys that it finds
  pub counted_by_keys : (key : Key) (a b : List (Option (KeptRule Rule))) (counts : CacheStats)
      → map key_in a ≡ map key_in b → counts_after (finding_among key a) counts ≡ counts_after (finding_among key b) counts
  counted_by_keys key a b counts same = same-counts (finding_among key a) (finding_among key b) counts (among-alike key a b same)

same_kind : (a b : Bool) → beq a b ≡ true → a ≡ b
same_kind true true is = refl
same_kind true false is = sym is
same_kind false true is = is
same_kind false false is = refl

same_key : (a b : Key) → a.address ≡ b.address → a.is_first ≡ b.is_first → a.generation ≡ b.generation → a ≡ b
same_key a b addresses kinds generations =
    let with_address : ℕ → Key = λ x. record { address = x; is_first = a.is_first; generation = a.generation } in
    let with_kind : Bool → Key = λ x. record { address = b.address; is_first = x; generation = a.generation } in
    let with_generation : ℕ → Key = λ x. record { address = b.address; is_first = b.is_first; generation = x } in
    ap with_address addresses ∙ ap with_kind kinds ∙ ap with_generation generations

module _ {Rule : Type 0} (key : Key) (rule : Rule) where
  same_entry : (e : KeptRule Rule) → e.key ≡ key → e.rule ≡ rule → e ≡ kept_under key rule
  same_entry e keys rules =
      let with_key : Key → KeptRule Rule = λ x. record { key = x; rule = e.rule } in
      let with_rule : Rule → KeptRule Rule = λ x. record { key = key; rule = x } in
      ap with_key keys ∙ ap with_rule rules

  hit-is : (e : KeptRule Rule) (g a k : Bool) → (e.key.generation == key.generation) ≡ g → (e.key.address == key.address) ≡ a
      → beq e.key.is_first key.is_first ≡ k → (if g then (if a && k then Hits e.rule else OtherAddress) else OtherModules) ≡ Hits rule
      → e ≡ kept_under key rule
  hit-is e true true true generation address kind is =
      let rules : e.rule ≡ rule = cc in
      same_entry e
      (same_key e.key key ((Decides-eqb e.key.address key.address).0 address) (same_kind e.key.is_first key.is_first kind)
      ((Decides-eqb e.key.generation key.generation).0 generation)) rules
  hit-is e true true false generation address kind is = cc
  hit-is e true false k generation address kind is = cc
  hit-is e false a k generation address kind is = cc

  -- a rule that is found in a slot stands there under this very key
  hit-there : (there : Option (KeptRule Rule)) → finding_for key there ≡ Hits rule → there ≡ Some (kept_under key rule)
  hit-there None is = cc
  hit-there (Some e) is =
      ap Some (hit-is e (e.key.generation == key.generation) (e.key.address == key.address) (beq e.key.is_first key.is_first) refl refl refl is)

  further : (slot : Option (KeptRule Rule)) (slots : List (Option (KeptRule Rule))) → Contains slots (Some (kept_under key rule)) → Contains (slot ∷ slots) (Some (kept_under key rule))
  further slot slots there = (suc there.0, omega (arith, there.1), there.2)

  by-parts : (slot : Option (KeptRule Rule)) (slots : List (Option (KeptRule Rule))) (here later : Finding Rule) → (here ≡ Hits rule → slot ≡ Some (kept_under key rule))
      → (later ≡ Hits rule → Contains slots (Some (kept_under key rule))) → or_else_finding here later ≡ Hits rule → Contains (slot ∷ slots) (Some (kept_under key rule))
  by-parts slot slots (Hits found) later one other is = (0, omega arith, one is)
  by-parts slot slots EmptySlot later one other is = further slot slots (other is)
  by-parts slot slots OtherModules later one other is = further slot slots (other is)
  by-parts slot slots OtherAddress later one other is = further slot slots (other is)

  -- a rule that is found in a set stands in one of its slots under this very key
  pub hit_there : (slots : List (Option (KeptRule Rule))) → finding_among key slots ≡ Hits rule → Contains slots (Some (kept_under key rule))
  hit_there [] is = absurd cc
  hit_there (slot ∷ []) is = (0, omega arith, hit-there slot is)
  hit_there (slot ∷ next ∷ slots) is =
      by-parts slot (next ∷ slots) (finding_for key slot) (finding_among key (next ∷ slots)) (hit-there slot) (hit_there (next ∷ slots)) is
