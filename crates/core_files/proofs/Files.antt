-- The files of NT_FILE one by one.
use Rattle.std.proofs.Common.{◌≡◌, ℕ, suc, ◌+◌, ◌-◌, ◌<◌, ◌≤◌, true, false, List, ◌∷◌, length, take, drop, refl, ap, arith}
use Rattle.std.specs.Prelude.{nat_lt, Some, Ok, Err}
use Rattle.std.proofs.lemmas.Bool.Decides.{nat_tests}
use Rattle.core_files.specs.declared.error.DescriptorError.TheVariants.{FileTableTruncated}
use Rattle.core_files.specs.MappedFiles.{FileMapping, file_count, row_at, name_length, file_named, files_from, mapped_files}
use Rattle.core_files.specs.Refusals.{result_and_then}

-- a descriptor without a header, one without all rows, and one with them
pub files-short : (d : List ℕ) → length d < 16 → mapped_files d ≡ Err FileTableTruncated
unfolding mapped_files
files-short d short = let is : nat_lt (length d) 16 ≡ true = grind (arith, nat_tests) in rw is refl

pub files-cut : (d : List ℕ) (count : ℕ) → count ≡ file_count d → 16 ≤ length d → length d < row_at count → mapped_files d ≡ Err FileTableTruncated
unfolding mapped_files
files-cut d count at header short =
    let is : nat_lt (length d) 16 ≡ false = grind (arith, nat_tests) in
    let cut : nat_lt (length d) (row_at (file_count d)) ≡ true = rw (← at) (let t : nat_lt (length d) (row_at count) ≡ true = grind (arith, nat_tests) in t) in
    rw (is, cut) refl

pub files-whole : (d : List ℕ) (count : ℕ) (names : List ℕ) → count ≡ file_count d → 16 ≤ length d → row_at count ≤ length d → names ≡ drop (row_at count) d
    → files_from d (count - 0) 0 names ≡ mapped_files d
unfolding mapped_files
files-whole d count names at header rows is =
    let long : nat_lt (length d) 16 ≡ false = grind (arith, nat_tests) in
    let all : nat_lt (length d) (row_at (file_count d)) ≡ false = rw (← at) (let t : nat_lt (length d) (row_at count) ≡ false = grind (arith, nat_tests) in t) in
    rw (long, all, is, ← at) (ap (λ (n : ℕ). files_from d n 0 (drop (row_at count) d)) (omega arith))

-- one file more
pub files-next : (d : List ℕ) (all left number size : ℕ) (names rest : List ℕ) (file : FileMapping) → all ≡ suc left → name_length names ≡ Some size → file_named d number (take size names) ≡ Ok file
    → rest ≡ drop (size + 1) names → files_from d all number names ≡ result_and_then (files_from d left (number + 1) rest) (λ files. Ok (file ∷ files))
files-next d all left number size names rest file one named is at = rw (one, named, is, at) refl
