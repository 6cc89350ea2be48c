use Rattle.std.proofs.Common.{◌≡◌, ◌+◌, ◌-◌, ◌*◌, ◌/◌, length}
use Rattle.std.specs.List.{position_from}
use Rattle.elf_files.specs.Bytes.{number_at}
use Rattle.elf_files.specs.Tables.{entries}
use Rattle.elf_segments.specs.HashTables.{chain_end, ends_chain}
use Rattle.elf_segments.proofs.hash_tables.chain_end.Given as goal

-- the end among those that are left is that among all
abbrev pub invariant-loop-index : goal.invariant-loop-index
invariant-loop-index l =
    position_from ends_chain (l.symbol + l.index) (entries (λ index. number_at 4 l.hashes (4 * index)) l.index (length l.hashes / 4 - l.index))
    ≡ chain_end l.symbol l.hashes
