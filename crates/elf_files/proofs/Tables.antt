-- The entries of a table, by the first.
use Rattle.std.proofs.Common.{◌≡◌, ℕ, suc, ◌+◌, ◌-◌, ◌*◌, ◌<◌, ◌≤◌, List, [], ◌∷◌, refl, sym, ap, ◌∙◌, arith}
use Rattle.std.specs.Prelude.{Option, Some, None, Ok, Err}
use Rattle.elf_files.specs.declared.error.ElfError.{ElfError}
use Rattle.elf_files.specs.Bytes.{ElfResult}
use Rattle.elf_files.specs.Tables.{entries, first_found}

pub entries-more : {A : Type 0} (entry : ℕ → A) (index count : ℕ) → index < count → entries entry index (count - index) ≡ entry index ∷ entries entry (index + 1) (count - (index + 1))
entries-more entry index count below = let more : count - index ≡ suc (count - (index + 1)) = omega arith in rw more refl

pub entries-end : {A : Type 0} (entry : ℕ → A) (index count : ℕ) → count ≤ index → entries entry index (count - index) ≡ []
entries-end entry index count end = let none : count - index ≡ 0 = omega arith in rw none refl

-- .. and by one more in front of those after it
pub entries-back : {A : Type 0} (entry : ℕ → A) (left count : ℕ) → 0 < left → left ≤ count → entries entry (left - 1) (count - (left - 1)) ≡ entry (left - 1) ∷ entries entry left (count - left)
entries-back entry left count some within =
    let next : left - 1 + 1 ≡ left = omega arith in
    entries-more entry (left - 1) count (omega arith) ∙ ap (λ (index : ℕ). entry (left - 1) ∷ entries entry index (count - index)) next

-- the entries of equal tables
pub entries-equal : {A : Type 0} (entry : List ℕ → ℕ → A) (size : ℕ) (bytes file : List ℕ) (offset place count number : ℕ) → bytes ≡ file → offset ≡ place → count ≡ number
    → entries (λ index. entry bytes (offset + size * index)) 0 count ≡ entries (λ index. entry file (place + size * index)) 0 number
entries-equal entry size bytes file offset place count number same at many = rw (same, at, many) refl

-- an attempt at the entry with an index: it found nothing, it found something, or it failed
pub passed : {A B : Type 0} (attempt : A → ElfResult (Option B)) (entry : ℕ → A) (index count : ℕ) (all : ElfResult (Option B)) → index < count → attempt (entry index) ≡ Ok None
    → first_found attempt (entries entry index (count - index)) ≡ all → first_found attempt (entries entry (index + 1) (count - (index + 1))) ≡ all
passed attempt entry index count all below none before = let here = rw (entries-more entry index count below) at before in rw none at here

pub found : {A B : Type 0} (attempt : A → ElfResult (Option B)) (entry : ℕ → A) (index count : ℕ) (all : ElfResult (Option B)) (value : B) → index < count
    → attempt (entry index) ≡ Ok (Some value) → first_found attempt (entries entry index (count - index)) ≡ all → all ≡ Ok (Some value)
found attempt entry index count all value below some before =
    let here = rw (entries-more entry index count below) at before in
    sym (rw some at here)

pub failed : {A B : Type 0} (attempt : A → ElfResult (Option B)) (entry : ℕ → A) (index count : ℕ) (all : ElfResult (Option B)) (error : ElfError) → index < count
    → attempt (entry index) ≡ Err error → first_found attempt (entries entry index (count - index)) ≡ all → all ≡ Err error
failed attempt entry index count all error below err before =
    let here = rw (entries-more entry index count below) at before in
    sym (rw err at here)
