-- Numbers of symbols by hash tables (System V gABI, "Hash Table"; GNU's as binutils writes it and glibc reads it: bfd/elflink.c,
-- elf/dl-lookup.c).
use Rattle.std.specs.Prelude.{ℕ, ◌+◌, ◌-◌, ◌*◌, ◌/◌, ◌%◌, ◌==◌, Bool, max, nat_lt, if◌then◌else◌, List, length, drop, Option, Some, None, option_and_then, fold}
use Rattle.std.specs.List.{position_from}
use Rattle.std.specs.Option.{option_map}
use Rattle.elf_files.specs.Bytes.{is_within, number_at}
use Rattle.elf_files.specs.Tables.{entries}
use Rattle.elf_segments.specs.Bytes.{first_bytes}

-- the words of 4 bytes that some bytes have
abbrev pub words : List ℕ → List ℕ
words bytes = entries (λ index. number_at 4 bytes (4 * index)) 0 (length bytes / 4)

-- by DT_HASH: the words are nbucket, nchain, and then as many; there is a chain for each symbol
abbrev pub count_by_hash : List ℕ → Option ℕ
count_by_hash table = if is_within table 0 8 then Some (number_at 4 table 4) else None

-- What counts of a DT_GNU_HASH: the index of the first symbol that it has, the bytes of its buckets, the indices with which chains begin, and
-- those of its hashes, one for each symbol from the first on, and what follows.
pub record GnuTable : Type 0 where
  pub first : ℕ
  pub buckets : List ℕ
  pub hashes : List ℕ

-- where buckets begin: after four words, the counts of buckets, the first index, the size of the filter and its shift, and the filter's words
-- of 8 bytes
abbrev pub buckets_start : List ℕ → ℕ
buckets_start table = 16 + 8 * number_at 4 table 8

-- how many bytes they have
abbrev pub buckets_size : List ℕ → ℕ
buckets_size table = 4 * number_at 4 table 0

-- a DT_GNU_HASH with these buckets
abbrev pub with_buckets : List ℕ → List ℕ → GnuTable
with_buckets table buckets = record {
  first = number_at 4 table 4;
  buckets = buckets;
  hashes = drop (buckets_start table + buckets_size table) table;
}

-- a DT_GNU_HASH whose buckets are all there
abbrev pub gnu_table : List ℕ → Option GnuTable
gnu_table table =
    if is_within table 0 16
    then option_map (with_buckets table) (first_bytes (buckets_size table) (drop (buckets_start table) table)) else None

-- a hash ends its chain, by its lowest bit
abbrev pub ends_chain : ℕ → Bool
ends_chain hash = hash % 2 == 1

-- the index of the symbol that ends the chain of one, whose hash is the first of these
abbrev pub chain_end : ℕ → List ℕ → Option ℕ
chain_end symbol hashes = position_from ends_chain symbol (words hashes)

-- the index with which the last chain begins, or 0 if there are none
abbrev pub last_chain : GnuTable → ℕ
last_chain table = fold max 0 (words table.buckets)

-- the symbols up to the end of the chain that begins with one
abbrev pub count_up_to : GnuTable → ℕ → Option ℕ
count_up_to table symbol =
    if nat_lt symbol table.first then None
    else option_map (λ last. last + 1) (chain_end symbol (drop (4 * (symbol - table.first)) table.hashes))

-- by a DT_GNU_HASH: those up to the end of the last chain, or without chains those before the first that it would have
abbrev pub count_by_table : GnuTable → Option ℕ
count_by_table table = if last_chain table == 0 then Some table.first else count_up_to table (last_chain table)

-- .. with these bytes
abbrev pub count_by_gnu_hash : List ℕ → Option ℕ
count_by_gnu_hash bytes = option_and_then count_by_table (gnu_table bytes)
