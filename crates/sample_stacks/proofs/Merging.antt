-- The ranges of mappings are apart, and each address is of the last mapping that has it.
use Rattle.std.proofs.Common.{◌≡◌, ℕ, ◌+◌, ◌-◌, ◌^◌, ◌<◌, ◌≤◌, min, max, true, false, List, [], ◌∷◌, ◌++◌, Some, None, Option, refl, sym, ◌∙◌, arith}
use Rattle.std.specs.Prelude.{◌&&◌, nat_le, nat_lt, if◌then◌else◌}
use Rattle.std.specs.List.{filter}
use Rattle.std.specs.Option.{option_or}
use Rattle.std.proofs.lemmas.Bool.Decides.{nat_tests}
use Rattle.list_laws.specs.Last.{last_of}
use Rattle.list_laws.proofs.Laws.{by_case}
use Rattle.perf_processes.specs.declared.change.MappedFile.{MappedFile}
use Rattle.sample_stacks.specs.declared.ranges.CodeRange.{CodeRange}
use Rattle.sample_stacks.specs.Merging.{end_of, filled, part, ranges_of}
use Rattle.sample_stacks.specs.Ranges.{AreApart, AreOfLastMappings, has_address, is_mapped, mapping_in}

-- ---- apart

pub apart-filled : (mapping : MappedFile) (end start low : ℕ) (ranges : List CodeRange) → low ≤ start → AreApart low ranges
    → AreApart low (filled mapping end start ranges)
apart-filled mapping end start low [] above apart =
    by_case (nat_lt start end)
    (λ some. let less : start < end = grind (arith, nat_tests) in rw some (above, less, tt))
    (λ none. rw none tt)
apart-filled mapping end start low (range ∷ ranges) above (from, some, apart) =
    let rest : AreApart range.end (filled mapping end (max start range.end) ranges) =
    apart-filled mapping end (max start range.end) range.end ranges (omega arith) apart in
    by_case (nat_lt start (min end range.start))
    (λ is. let less : start < min end range.start = grind (arith, nat_tests) in
    let before : min end range.start ≤ range.start = omega arith in
    rw is (above, less, (before, some, rest)))
    (λ none. rw none (from, some, rest))

pub apart-ranges : (mappings : List MappedFile) → AreApart 0 (ranges_of mappings)
apart-ranges [] = tt
apart-ranges (mapping ∷ mappings) =
    apart-filled mapping (end_of mapping) mapping.address 0 (ranges_of mappings) (omega arith) (apart-ranges mappings)

-- ---- an address

none-below : (address low : ℕ) (ranges : List CodeRange) → AreApart low ranges → address < low → mapping_in address ranges ≡ None
none-below address low [] apart below = refl
none-below address low (range ∷ ranges) (from, some, apart) below =
    let misses : has_address address range ≡ false = grind (arith, nat_tests) in
    rw misses (none-below address range.end ranges apart (omega arith))

in-part : (address : ℕ) (mapping : MappedFile) (start end : ℕ) (rest : List CodeRange)
    → mapping_in address (part mapping start end ++ rest)
    ≡ (if nat_le start address && nat_lt address end then Some mapping else mapping_in address rest)
in-part address mapping start end rest =
    by_case (nat_lt start end)
    (λ some. by_case (nat_le start address && nat_lt address end) (λ is. rw (some, is) refl) (λ is. rw (some, is) refl))
    (λ none. let misses : (nat_le start address && nat_lt address end) ≡ false = grind (arith, nat_tests) in rw (none, misses) refl)

pub in-filled : (address : ℕ) (mapping : MappedFile) (end start low : ℕ) (ranges : List CodeRange) → AreApart low ranges
    → mapping_in address (filled mapping end start ranges)
    ≡ option_or (mapping_in address ranges) (if nat_le start address && nat_lt address end then Some mapping else None)
in-filled address mapping end start low [] apart =
    by_case (nat_lt start end)
    (λ some. by_case (nat_le start address && nat_lt address end) (λ is. rw (some, is) refl) (λ is. rw (some, is) refl))
    (λ none. let misses : (nat_le start address && nat_lt address end) ≡ false = grind (arith, nat_tests) in rw (none, misses) refl)
in-filled address mapping end start low (range ∷ ranges) (from, some, apart) =
    in-part address mapping start (min end range.start) (range ∷ filled mapping end (max start range.end) ranges)
    ∙ by_case (nat_le start address && nat_lt address (min end range.start))
    (λ is. let there : (nat_le start address && nat_lt address end) ≡ true = grind (arith, nat_tests) in
    let before : address < range.start = grind (arith, nat_tests) in
    let free : mapping_in address (range ∷ ranges) ≡ None = none-below address range.start (range ∷ ranges) (omega arith, some, apart) before in
    rw (is, there, free) refl)
    (λ isnt. by_case (has_address address range)
    (λ has. rw (isnt, has) refl)
    (λ misses. let same : (nat_le (max start range.end) address && nat_lt address end) ≡ (nat_le start address && nat_lt address end) = grind (arith, nat_tests) in
    let later = in-filled address mapping end (max start range.end) range.end ranges apart in
    rw (isnt, misses, later, same) refl))

or-twice : {A : Type 0} (found : Option A) (x y : A) → option_or found (Some y) ≡ option_or (option_or found (Some y)) (Some x)
or-twice None x y = refl
or-twice (Some z) x y = refl

last-front : {A : Type 0} (x : A) (xs : List A) → last_of (x ∷ xs) ≡ option_or (last_of xs) (Some x)
last-front x [] = refl
last-front x (y ∷ ys) = rw (last-front y ys) (or-twice (last_of ys) x y)

or-none : {A : Type 0} (found : Option A) → option_or found None ≡ found
or-none None = refl
or-none (Some x) = refl

in-bounds : (address start end most : ℕ) → address < most
    → (nat_le start address && nat_lt address (min end most)) ≡ (nat_le start address && nat_lt address end)
in-bounds address start end most below = grind (arith, nat_tests)

pub of-last : (mappings : List MappedFile) → AreOfLastMappings (ranges_of mappings) mappings
of-last [] address below = refl
of-last (mapping ∷ mappings) address below =
    let found = in-filled address mapping (end_of mapping) mapping.address 0 (ranges_of mappings) (apart-ranges mappings) in
    let same = in-bounds address mapping.address (mapping.address + mapping.size) (2 ^ 64 - 1) (omega arith) in
    found ∙ rw (same, of-last mappings address below)
    (by_case (is_mapped address mapping)
    (λ is. rw is (sym (last-front mapping (filter (is_mapped address) mappings))))
    (λ isnt. rw isnt (or-none (last_of (filter (is_mapped address) mappings)))))
