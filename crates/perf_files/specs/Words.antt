-- Lists of numbers of 64 bits.
use Rattle.std.specs.Prelude.{ℕ, ◌*◌, ◌/◌, List, length, map}
use Rattle.std.specs.List.{range_with_len}
use Rattle.perf_files.specs.Bytes.{number_at}

-- The numbers in some bytes; fewer than 8 bytes at the end are none.
unfoldable pub words_in : List ℕ → List ℕ
words_in bytes = map (λ index. number_at 8 bytes (8 * index)) (range_with_len 0 (length bytes / 8))
