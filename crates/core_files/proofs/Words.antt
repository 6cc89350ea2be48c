-- Words byte by byte, and in one range.
use Rattle.std.proofs.Common.{◌≡◌, ℕ, zero, suc, ◌+◌, ◌-◌, ◌^◌, ◌<◌, ◌≤◌, true, false, List, [], ◌∷◌, length, get_or, take, drop, replicate, refl, ap, sym, ◌∙◌, arith, length-drop, length-append}
use Rattle.std.proofs.Math.Seq.{drop-append-add}
use Rattle.std.specs.Prelude.{◌==◌, nat_le, slice_get, slice_index_or, Option, Some, None}
use Rattle.std.specs.Option.{option_map, option_and_then}
use Rattle.std.proofs.lemmas.Bool.Decides.{nat_tests}
use Rattle.std.proofs.lemmas.List.{take_all, get_or-drop, get_or-replicate, get_or-take, get_or_append_left, length-replicate, length-take-le}
use Rattle.std.proofs.lemmas.Option.{slice_get-get_or}
use Rattle.dwarf_endianity.specs.ByteOrder.{little_endian}
use Rattle.elf_files.specs.Bytes.{number_at}
use Rattle.core_files.specs.Bytes.{u64_at}
use Rattle.core_files.specs.Memory.{byte_among, byte_at, byte_left_out, bytes_from, executable_at, is_lost, word_at}
use Rattle.core_files.specs.Ranges.{KnownRange, after_zeros, byte_in, contains, file_in, loses, range_at, IsIncreasing}
use Rattle.core_files.proofs.RangeLaws.{found-again}

-- ---- bytes after zeros

module _ (zeros : ℕ) (bytes : List ℕ) where
  pub length-after-zeros : length (after_zeros zeros bytes) ≡ zeros + length bytes
  length-after-zeros = simp (length-append, length-replicate)

  pub byte-in-zeros : (place : ℕ) → place < zeros → slice_index_or (after_zeros zeros bytes) place 0 ≡ 0
  byte-in-zeros place within = get_or_append_left (replicate zeros 0) bytes 0 place (omega (arith, length-replicate {A = ℕ} zeros 0)) ∙ get_or-replicate zeros place 0 0 within

  module _ (place at : ℕ) (is : place ≡ zeros + at) where
    pub zeros-dropped : drop place (after_zeros zeros bytes) ≡ drop at bytes
    zeros-dropped =
        let after : place ≡ length (replicate zeros 0) + at = omega (arith, is, length-replicate {A = ℕ} zeros 0) in
        ap (λ (n : ℕ). drop n (after_zeros zeros bytes)) after ∙ drop-append-add (replicate zeros 0) bytes at

    -- a byte after them, and one of them
    pub byte-after-zeros : slice_index_or (after_zeros zeros bytes) place 0 ≡ slice_index_or bytes at 0
    byte-after-zeros =
        sym (get_or-drop place (after_zeros zeros bytes) 0 0 ∙ ap (λ (n : ℕ). get_or (after_zeros zeros bytes) n 0) (let same : place + 0 ≡ place = omega arith in same))
        ∙ ap (λ (xs : List ℕ). get_or xs 0 0) zeros-dropped ∙ get_or-drop at bytes 0 0 ∙ ap (λ (n : ℕ). get_or bytes n 0) (let same : at + 0 ≡ at = omega arith in same)

    pub word-after-zeros : u64_at (after_zeros zeros bytes) place ≡ u64_at bytes at
    unfolding number_at
    word-after-zeros = ap (λ (xs : List ℕ). little_endian (take 8 xs)) zeros-dropped

-- ---- a file that begins in a range

pub file-here : (range : KnownRange) (address : ℕ) (found : List ℕ) → contains address range ≡ true → slice_index_or range.bytes (address - range.address) 0 ≡ 0x7f
    → found ≡ drop (address - range.address) range.bytes → Some found ≡ file_in address range
file-here range address found here magic is =
    let first : (slice_index_or range.bytes (address - range.address) 0 == 0x7f) ≡ true = grind (arith, nat_tests) in
    rw (here, first, is) refl

-- ---- a byte

pub among-none : (ranges : List KnownRange) (address : ℕ) → None ≡ range_at ranges address → None ≡ byte_among ranges address
among-none ranges address none = rw (← none) refl

pub among-here : (ranges : List KnownRange) (address : ℕ) (range : KnownRange) → Some range ≡ range_at ranges address → byte_in address range ≡ byte_among ranges address
among-here ranges address range at = rw (← at) refl

pub byte-here : (segments files : List KnownRange) (address byte : ℕ) → Some byte ≡ byte_among segments address → Some byte ≡ byte_at segments files address
unfolding byte_at
byte-here segments files address byte here = rw (← here) refl

pub lost-none : (ranges : List KnownRange) (address : ℕ) → None ≡ range_at ranges address → false ≡ is_lost ranges address
lost-none ranges address none = rw (← none, is_lost) refl

pub lost-here : (ranges : List KnownRange) (address : ℕ) (range : KnownRange) → Some range ≡ range_at ranges address → loses address range ≡ is_lost ranges address
lost-here ranges address range at = rw (← at, is_lost) refl

pub executable-none : (ranges : List KnownRange) (address : ℕ) → None ≡ range_at ranges address → None ≡ executable_at ranges address
executable-none ranges address none = rw (← none) refl

pub executable-here : (ranges : List KnownRange) (address : ℕ) (range : KnownRange) → Some range ≡ range_at ranges address → Some range.executable ≡ executable_at ranges address
executable-here ranges address range at = rw (← at) refl

pub byte-left-out : (segments files : List KnownRange) (address : ℕ) → None ≡ byte_among segments address → byte_left_out segments files address ≡ byte_at segments files address
unfolding byte_at
byte-left-out segments files address none = rw (← none) refl

-- ---- bytes

then-none : (o : Option ℕ) (rest : Option (List ℕ)) → rest ≡ None → option_and_then (λ (first : ℕ). option_map (λ (bytes : List ℕ). first ∷ bytes) rest) o ≡ None
then-none None rest none = refl
then-none (Some first) rest none = rw none refl

bytes-missing : (byte : ℕ → Option ℕ) (count address k : ℕ) → k < count → byte (address + k) ≡ None → bytes_from byte address count ≡ None
unfolding bytes_from
bytes-missing byte zero address k less none = absurd (omega arith)
bytes-missing byte (suc count) address zero less none = let here : byte address ≡ None = ap byte (omega arith) ∙ none in rw here refl
bytes-missing byte (suc count) address (suc k) less none =
    then-none (byte address) (bytes_from byte (address + 1) count) (bytes-missing byte count (address + 1) k (omega arith) (ap byte (omega arith) ∙ none))

bytes-known : (byte : ℕ → Option ℕ) (bytes : List ℕ) (address : ℕ) → ((k : ℕ) → k < length bytes → byte (address + k) ≡ Some (get_or bytes k 0)) → bytes_from byte address (length bytes) ≡ Some bytes
unfolding bytes_from
bytes-known byte [] address known = refl
bytes-known byte (x ∷ xs) address known =
    let here : byte address ≡ Some x = ap byte (omega arith) ∙ known 0 (omega arith) in
    let rest : bytes_from byte (address + 1) (length xs) ≡ Some xs = bytes-known byte xs (address + 1) (λ k h. ap byte (omega arith) ∙ known (suc k) (omega arith)) in
    rw (here, rest) refl

-- ---- a word

module _ (segments files : List KnownRange) (address : ℕ) where
  pub word-high : 2 ^ 64 < address + 8 → word_at segments files address ≡ None
  unfolding word_at
  word-high high = let is : nat_le (address + 8) (2 ^ 64) ≡ false = grind (arith, nat_tests) in rw is refl

  pub word-missing : (k : ℕ) → address + 8 ≤ 2 ^ 64 → k < 8 → byte_at segments files (address + k) ≡ None → word_at segments files address ≡ None
  unfolding word_at
  word-missing k fits less none =
      let is : nat_le (address + 8) (2 ^ 64) ≡ true = grind (arith, nat_tests) in
      rw (is, bytes-missing (byte_at segments files) 8 address k less none) refl

  word-known : (bytes : List ℕ) → address + 8 ≤ 2 ^ 64 → length bytes ≡ 8 → ((k : ℕ) → k < 8 → byte_at segments files (address + k) ≡ Some (get_or bytes k 0)) → word_at segments files address ≡ Some (little_endian bytes)
  unfolding word_at
  word-known bytes fits size known =
      let is : nat_le (address + 8) (2 ^ 64) ≡ true = grind (arith, nat_tests) in
      let all : bytes_from (byte_at segments files) address 8 ≡ Some bytes =
      ap (λ (n : ℕ). bytes_from (byte_at segments files) address n) (sym size) ∙ bytes-known (byte_at segments files) bytes address (λ k h. known k (omega arith)) in
      rw (is, all) refl

  -- by its bytes
  pub word-by-bytes : (bytes : List ℕ) → address + 8 ≤ 2 ^ 64 → length bytes ≡ 8 → ((k : ℕ) → k < 8 → byte_at segments files (address + k) ≡ Some (get_or bytes k 0)) → word_at segments files address ≡ Some (u64_at bytes 0)
  unfolding number_at
  word-by-bytes bytes fits size known = word-known bytes fits size known ∙ ap (λ (xs : List ℕ). Some (little_endian xs)) (sym (take_all 8 bytes (omega arith)))

  -- in one of the segments
  module _ (up : IsIncreasing segments) (range : KnownRange) (found : range_at segments address ≡ Some range) (low : range.address ≤ address) where
    byte-in-range : (k : ℕ) → address - range.address + k < range.size → address - range.address + k < length range.bytes
        → byte_at segments files (address + k) ≡ Some (get_or range.bytes (address - range.address + k) 0)
    byte-in-range k size within =
        sym (byte-here segments files (address + k) (get_or range.bytes (address - range.address + k) 0)
        (sym (ap (slice_get range.bytes) (omega arith) ∙ slice_get-get_or range.bytes (address - range.address + k) 0 within)
        ∙ among-here segments (address + k) range (sym (found-again segments up range address (address + k) found (omega arith) (omega arith)))))

    pub word-in-range : address + 8 ≤ 2 ^ 64 → address - range.address + 7 < range.size → address - range.address + 7 < length range.bytes
        → word_at segments files address ≡ Some (u64_at range.bytes (address - range.address))
    unfolding number_at
    word-in-range fits size within =
        let at : ℕ = address - range.address in
        let bytes : List ℕ = take 8 (drop at range.bytes) in
        word-known bytes fits (length-take-le 8 (drop at range.bytes) (simp length-drop (omega arith)))
        (λ k h. byte-in-range k (omega arith) (omega arith) ∙ ap Some (sym (get_or-take 8 (drop at range.bytes) k 0 h ∙ get_or-drop at range.bytes k 0)))
