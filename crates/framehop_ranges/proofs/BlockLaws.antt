-- What a block more says, and which entries a block leaves.
use Rattle.std.proofs.Common.{◌≡◌, ℕ, true, false, zero, suc, ◌+◌, ◌-◌, ◌*◌, ◌<◌, ◌≤◌, ◌^◌, List, [], ◌∷◌, ◌++◌, length, get_or, refl, ap, subst, ◌∙◌, arith, length-append}
use Rattle.std.specs.Prelude.{nat_lt, slice_index}
use Rattle.std.specs.List.{AllWithin}
use Rattle.std.specs.List.Sorted.{IsNonDecreasingBy}
use Rattle.std.proofs.lemmas.Bool.Decides.{nat_tests}
use Rattle.std.proofs.lemmas.List.{get_or_push, get_or_append_left, get_or_default}
use Rattle.std.proofs.Math.Nat.{mul-le-mul_right}
use Rattle.list_laws.proofs.Laws.{by_case}
use Rattle.framehop_ranges.specs.declared.entry.RangeEntry.{RangeEntry}
use Rattle.framehop_ranges.specs.Rises.{Rises}
use Rattle.framehop_ranges.specs.Blocks.{Passes, AreBlocksOf, IsPart}

-- entries that rise are in order
pub rises-in-order : {V : Type 0} (entries : List (RangeEntry V)) → Rises entries → IsNonDecreasingBy (λ entry. entry.start) entries
rises-in-order entries up i j d le within =
    by_case (nat_lt i j)
    (λ is. let less : i < j = grind (arith, nat_tests) in let lt = up i j d less within in omega arith)
    (λ is.
    let not : j ≤ i = grind (arith, nat_tests) in
    let same : i ≡ j = omega arith in
    let e : (get_or entries i d).start ≡ (get_or entries j d).start = ap (λ (k : ℕ). (get_or entries k d).start) same in
    omega arith)

-- if one starts at or above a limit, all after it do
pub from-on : {V : Type 0} (entries : List (RangeEntry V)) (limit place : ℕ) (e : RangeEntry V) → IsNonDecreasingBy (λ entry. entry.start) entries → place < length entries → limit ≤ (get_or entries place e).start
    → AllWithin (λ entry. limit ≤ entry.start) entries place (length entries)
from-on {V} entries limit place e ordered within high k d f t =
    let up = ordered place k d f t in
    let same : (get_or entries place d).start ≡ (get_or entries place e).start = ap (λ (x : RangeEntry V). x.start) (get_or_default entries place d e within) in
    omega arith

-- ---- blocks

-- each of these blocks is as said
abbrev pub Each : {V : Type 0} (size : ℕ) (entries : List (RangeEntry V)) (blocks : List ℕ) → Type 0
Each size entries blocks = (block : ℕ) → block < length blocks → Passes (block * size) entries (slice_index blocks block)

-- a block more
pub more-blocks : {V : Type 0} (size limit : ℕ) (entries : List (RangeEntry V)) (blocks new : List ℕ) (kept : ℕ) → limit ≡ length blocks * size → Each size entries blocks → Passes limit entries kept
    → new ≡ blocks ++ kept ∷ [] → Each size entries new
more-blocks size limit entries blocks new kept at known passes is block within =
    by_case (nat_lt block (length blocks))
    (λ less.
    let low : block < length blocks = grind (arith, nat_tests) in
    rw (is, get_or_append_left blocks (kept ∷ []) 0 block low) (known block low))
    (λ not.
    let here : length blocks ≡ block = let high : length blocks ≤ block = grind (arith, nat_tests) in omega (arith, ap length is, length-append blocks (kept ∷ [])) in
    rw (is, get_or_push blocks kept 0 block here) (subst (λ (n : ℕ). Passes n entries kept) (at ∙ ap (λ (n : ℕ). n * size) here) passes))

-- if not all are passed, the limit has 32 bits
pub limit-fits : {V : Type 0} (limit passed : ℕ) (entries : List (RangeEntry V)) (d : RangeEntry V) → passed < length entries → Passes limit entries passed → (get_or entries passed d).start < 2 ^ 32 → limit < 2 ^ 32
limit-fits limit passed entries d less passes fits = let above = passes.above passed d (omega arith) less in omega arith

-- the limit after one block more
pub next-limit : (limit size blocks more : ℕ) → limit ≡ blocks * size → more ≡ blocks + 1 → limit + size ≡ more * size
next-limit limit size blocks more at is = rw is (omega arith)

-- starts that rise are as far apart as their places, at least
pub apart : {V : Type 0} (entries : List (RangeEntry V)) (d : RangeEntry V) → Rises entries → (n i : ℕ) → i + n < length entries → (get_or entries i d).start + n ≤ (get_or entries (i + n) d).start
apart entries d up zero i within = let e : (get_or entries (i + 0) d).start ≡ (get_or entries i d).start = ap (λ (k : ℕ). (get_or entries k d).start) (omega arith) in omega arith
apart entries d up (suc n) i within =
    let before = apart entries d up n i (omega arith) in
    let next = up (i + n) (i + suc n) d (omega arith) within in
    omega arith

-- .. so that none has a higher place than its number
pub place-fits : {V : Type 0} (entries : List (RangeEntry V)) (d : RangeEntry V) → Rises entries → (i : ℕ) → i < length entries → i ≤ (get_or entries i d).start
place-fits entries d up i within =
    let far = apart entries d up i 0 (omega arith) in
    let e : (get_or entries (0 + i) d).start ≡ (get_or entries i d).start = ap (λ (k : ℕ). (get_or entries k d).start) (omega arith) in
    omega arith

-- a limit above one that all starts are below
pub passes-higher : {V : Type 0} (low high : ℕ) (entries : List (RangeEntry V)) → low ≤ high → Passes low entries (length entries) → Passes high entries (length entries)
passes-higher low high entries le passes = record {
  bound = passes.bound;
  below = λ k d f t. let below = passes.below k d f t in omega arith;
  above = λ k d f t. absurd (omega arith);
}

-- what is kept of a block is how many start below it
pub block-kept : {V : Type 0} (size : ℕ) (entries : List (RangeEntry V)) (blocks : List ℕ) (block passed : ℕ) → AreBlocksOf size entries blocks → true ≡ nat_lt block (length blocks)
    → passed ≡ get_or blocks block passed → Passes (block * size) entries passed
block-kept size entries blocks block passed known is at =
    let within : block < length blocks = grind (arith, nat_tests) in
    let same : passed ≡ slice_index blocks block = at ∙ get_or_default blocks block passed 0 within in
    rw same (known.each block within)

-- all start below a block for which nothing is kept
pub block-after : {V : Type 0} (size : ℕ) (entries : List (RangeEntry V)) (blocks : List ℕ) (block : ℕ) → AreBlocksOf size entries blocks → false ≡ nat_lt block (length blocks)
    → Passes (block * size) entries (length entries)
block-after size entries blocks block known is =
    let past : length blocks ≤ block = grind (arith, nat_tests) in
    passes-higher (length blocks * size) (block * size) entries (mul-le-mul_right size past) known.all

-- ---- a block

module _ {V : Type 0} (entries : List (RangeEntry V)) (up : Rises entries) (size address block first end : ℕ) (low : block * size ≤ address) (high : address < (block + 1) * size) (from : Passes (block * size) entries first)
    (to : Passes ((block + 1) * size) entries end) where
  before-block : AllWithin (λ entry. entry.start ≤ address) entries 0 first
  before-block k d f t = let below = from.below k d f t in omega arith

  after-block : AllWithin (λ entry. address < entry.start) entries end (length entries)
  after-block k d f t = let above = to.above k d f t in omega arith

  -- .. with an entry to name where there is none
  ordered-by : RangeEntry V → first ≤ end
  ordered-by d =
      by_case (nat_lt end first)
      (λ is.
      let less : end < first = grind (arith, nat_tests) in
      let bound = from.bound in
      let below = before-block end d (omega arith) less in
      let above = after-block end d (omega arith) (omega arith) in
      absurd (omega arith))
      (λ is. grind (arith, nat_tests))

  block-order : first ≤ end
  block-order = by entries refl
    where
      by : (all : List (RangeEntry V)) → entries ≡ all → first ≤ end
      by [] is = let none = ap length is in let bound = from.bound in omega arith
      by (d ∷ all) is = ordered-by d

  -- the entries of a block are those to search for its addresses
  pub block-part : IsPart entries address first end
  block-part = record { order = block-order; bound = to.bound; before = before-block; after = after-block }

  few-by : RangeEntry V → end - first ≤ size
  few-by d = by (end - first) refl
    where
      by : (m : ℕ) → end - first ≡ m → m ≤ size
      by zero is = omega arith
      by (suc m) is =
          let last = from.above first d (omega arith) (omega (arith, to.bound)) in
          let next = to.below (first + m) d (omega arith) (omega arith) in
          let gap = apart entries d up m first (omega (arith, to.bound)) in
          omega (arith, last, next, gap)

  -- a block has no more entries than addresses
  pub few-in-block : end - first ≤ size
  few-in-block = by entries refl
    where
      by : (all : List (RangeEntry V)) → entries ≡ all → end - first ≤ size
      by [] is = let none = ap length is in let bound = to.bound in omega arith
      by (d ∷ all) is = few-by d
