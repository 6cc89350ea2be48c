-- The last row that starts at or below an address, by a pass from the end and by halving.
use Rattle.std.proofs.Common.{◌≡◌, ℕ, zero, suc, ◌+◌, ◌^◌, ◌<◌, ◌≤◌, true, false, refl, sym, ◌∙◌, arith}
use Rattle.std.specs.Prelude.{nat_le, nat_lt, Option, Some, None, IfSome}
use Rattle.std.proofs.lemmas.Bool.Decides.{nat_tests}
use Rattle.framehop_compact_tables.specs.Rows.{AreFewMore, IsLastRow, last_row}
use Rattle.sorted_starts.specs.Starts.{Parts}

-- the last of a row more
pub last-here : (rows left : ℕ) (start : ℕ → ℕ) (address : ℕ) → rows ≡ left + 1 → start left ≤ address → last_row rows start address ≡ Some left
unfolding last_row
last-here rows left start address one reached =
    let more : rows ≡ suc left = omega arith in
    let test : nat_le (start left) address ≡ true = grind (arith, nat_tests) in
    rw (more, test) refl

pub last-before : (rows left : ℕ) (start : ℕ → ℕ) (address : ℕ) → rows ≡ left + 1 → address < start left → last_row rows start address ≡ last_row left start address
unfolding last_row
last-before rows left start address one missed =
    let more : rows ≡ suc left = omega arith in
    let test : nat_le (start left) address ≡ false = grind (arith, nat_tests) in
    rw (more, test) refl

pub last-of-none : (start : ℕ → ℕ) (address : ℕ) → last_row 0 start address ≡ None
unfolding last_row
last-of-none start address = refl

pub last-missed : (rows : ℕ) (start : ℕ → ℕ) (address : ℕ) → ((row : ℕ) → row < rows → address < start row) → last_row rows start address ≡ None
last-missed zero start address missed = last-of-none start address
last-missed (suc rows) start address missed =
    last-before (suc rows) rows start address (omega arith) (missed rows (omega arith))
    ∙ last-missed rows start address (λ row within. missed row (omega arith))

pub last-found : (rows row : ℕ) (start : ℕ → ℕ) (address : ℕ) → IsLastRow rows start address row → last_row rows start address ≡ Some row
last-found zero row start address is = absurd (omega (arith, is.within))
last-found (suc rows) row start address is = elim (nat_lt row rows) as (λ b. nat_lt row rows ≡ b → last_row (suc rows) start address ≡ Some row) [
  | true ↦ λ earlier.
      let below : row < rows = grind (arith, nat_tests) in
      last-before (suc rows) rows start address (omega arith) (is.after rows below (omega arith))
      ∙ last-found rows row start address (record { within = below; reached = is.reached; after = λ next past inside. is.after next past (omega arith) })
  | false ↦ λ later.
      let same : row ≡ rows = let within = is.within in grind (arith, nat_tests) in
      last-here (suc rows) row start address (omega arith) is.reached
] refl

-- and so is the one that is found
pub found-last : (rows row : ℕ) (start : ℕ → ℕ) (address : ℕ) → last_row rows start address ≡ Some row → IsLastRow rows start address row
found-last zero row start address found = let none = last-of-none start address in cc
found-last (suc rows) row start address found = elim (nat_le (start rows) address) as (λ b. nat_le (start rows) address ≡ b → IsLastRow (suc rows) start address row) [
  | true ↦ λ reached.
      let low : start rows ≤ address = grind (arith, nat_tests) in
      let here = last-here (suc rows) rows start address (omega arith) low in
      let same : row ≡ rows = cc in
      record { within = omega arith; reached = rw same low; after = λ next past inside. absurd (omega arith) }
  | false ↦ λ missed.
      let high : address < start rows = grind (arith, nat_tests) in
      let before = last-before (suc rows) rows start address (omega arith) high in
      let is = found-last rows row start address (sym before ∙ found) in
      record {
        within = omega (arith, is.within);
        reached = is.reached;
        after = λ next past inside. elim (nat_lt next rows) as (λ b. nat_lt next rows ≡ b → address < start next) [
          | true ↦ λ earlier. is.after next past (grind (arith, nat_tests))
          | false ↦ λ later. let same : next ≡ rows = grind (arith, nat_tests) in rw same high
        ] refl;
      }
] refl

-- ---- halving

-- what is parted by an address has its last row before the part above
pub parted-last : (rows : ℕ) (start : ℕ → ℕ) (address parted row : ℕ) → parted ≡ row + 1 → Parts rows start address parted → Some row ≡ last_row rows start address
parted-last rows start address parted row one parts = sym (last-found rows row start address (record {
  within = omega (arith, parts.bound);
  reached = parts.below row (omega arith);
  after = λ next past inside. parts.above next (omega arith) inside;
}))

pub parted-none : (rows : ℕ) (start : ℕ → ℕ) (address parted : ℕ) → parted ≡ 0 → Parts rows start address parted → None ≡ last_row rows start address
parted-none rows start address parted none parts = sym (last-missed rows start address (λ row inside. parts.above row (omega arith) inside))

-- at most ceil(log2(n)) + 1 steps of n rows, and none of none
pub few-more : (rows before after : ℕ) → ((k : ℕ) → rows ≤ 2 ^ k → after ≤ before + (k + 1)) → (rows ≡ 0 → after ≡ before) → AreFewMore rows before after
few-more zero before after few none k h = let same = none refl in omega arith
few-more (suc rows) before after few none k h = few k h

pub found-if-some : (rows : ℕ) (start : ℕ → ℕ) (address : ℕ) (found : Option ℕ) → found ≡ last_row rows start address → IfSome found (λ row. IsLastRow rows start address row)
found-if-some rows start address None is = tt
found-if-some rows start address (Some row) is = found-last rows row start address (sym is)
