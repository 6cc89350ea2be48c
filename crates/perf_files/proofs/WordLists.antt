-- Numbers in some bytes, by their places.
use Rattle.std.proofs.Common.{◌≡◌, ℕ, ◌*◌, ◌/◌, ◌<◌, ◌≤◌, List, length, Some, None, ap, ◌∙◌, arith}
use Rattle.std.specs.Prelude.{slice_get}
use Rattle.std.proofs.lemmas.List.FromFn.{length-map-range_with_len, get_or-map-range_with_len}
use Rattle.std.proofs.lemmas.Option.{slice_get-get_or, slice_get_past}
use Rattle.perf_files.specs.Bytes.{number_at}
use Rattle.perf_files.specs.Words.{words_in}

pub words_length : (bytes : List ℕ) → length (words_in bytes) ≡ length bytes / 8
unfolding words_in
words_length bytes = length-map-range_with_len (λ index. number_at 8 bytes (8 * index)) 0 (length bytes / 8)

words_at : (bytes : List ℕ) (index : ℕ) → index < length bytes / 8 → slice_get (words_in bytes) index ≡ Some (number_at 8 bytes (8 * index))
unfolding words_in
words_at bytes index within =
    slice_get-get_or (words_in bytes) index 0 (rw words_length within)
    ∙ ap Some (get_or-map-range_with_len (λ place. number_at 8 bytes (8 * place)) 0 (length bytes / 8) index index 0 within (omega arith))

pub words_get : (bytes : List ℕ) (index : ℕ) → index < length bytes / 8 → slice_get (words_in bytes) index ≡ Some (number_at 8 bytes (8 * index))
words_get bytes index within = words_at bytes index within

pub words_past : (bytes : List ℕ) (index : ℕ) → length bytes / 8 ≤ index → slice_get (words_in bytes) index ≡ None
words_past bytes index past = slice_get_past (words_in bytes) index (rw words_length past)
