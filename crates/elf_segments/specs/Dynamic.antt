-- Dynamic sections (System V gABI, "Dynamic Section": Elf64_Dyn), found by its segment (PT_DYNAMIC).
use Rattle.std.specs.Prelude.{ℕ, ◌+◌, ◌-◌, ◌*◌, ◌/◌, ◌==◌, Bool, true, false, nat_le, if◌then◌else◌, List, [], ◌∷◌, length, Option, Some, None, option_and_then}
use Rattle.std.specs.Option.{option_map}
use Rattle.std.specs.Result.{result_ok}
use Rattle.elf_files.specs.Bytes.{number_at}
use Rattle.elf_files.specs.Segments.{segment_bytes}
use Rattle.elf_files.specs.Tables.{entries}
use Rattle.elf_files.specs.declared.header.Header.{Header}
use Rattle.elf_files.specs.declared.segment.SegmentKind.{SegmentKind}
use Rattle.elf_files.specs.declared.segment.SegmentKind.TheVariants.{Dynamic}
use Rattle.elf_segments.specs.Segments.{first_segment, placed_at}
use Rattle.elf_segments.specs.declared.dynamic.DynamicEntry.{DynamicEntry}
use Rattle.elf_segments.specs.declared.dynamic.Tag.{Tag}
use Rattle.elf_segments.specs.declared.dynamic.Tag.TheVariants.{Hash, Strings, Symbols, StringsSize, SymbolSize, GnuHash}

-- the number of a tag: DT_HASH, DT_STRTAB, DT_SYMTAB, DT_STRSZ, DT_SYMENT, and GNU's DT_GNU_HASH
abbrev pub tag_number : Tag → ℕ
tag_number Hash = 4
tag_number Strings = 5
tag_number Symbols = 6
tag_number StringsSize = 10
tag_number SymbolSize = 11
tag_number GnuHash = 0x6ffffef5

-- the entry at an offset: its tag, and its value, a number or an address
abbrev pub entry_from : List ℕ → ℕ → DynamicEntry
entry_from bytes at = record { tag = number_at 8 bytes at; value = number_at 8 bytes (at + 8) }

-- all entries
abbrev pub all_entries : List ℕ → List DynamicEntry
all_entries bytes = entries (λ index. entry_from bytes (16 * index)) 0 (length bytes / 16)

-- the value of the first entry with a tag, before the one that ends the list (DT_NULL)
abbrev pub value_among : ℕ → List DynamicEntry → Option ℕ
value_among tag [] = None
value_among tag (entry ∷ others) =
    if entry.tag == 0 then None else if entry.tag == tag then Some entry.value else value_among tag others

-- A dynamic section: the bytes and the header of its file, its own bytes, and by how much the addresses in it are above those that the file
-- states, as the dynamic linker of glibc writes them into memory.
pub record DynamicTable : Type 0 where
  pub file : List ℕ
  pub header : Header
  pub bytes : List ℕ
  pub moved : ℕ

-- a segment is that of the dynamic section
abbrev pub is_dynamic : SegmentKind → Bool
is_dynamic Dynamic = true
is_dynamic _ = false

-- the bytes of the dynamic section, if they are all there
abbrev pub dynamic_bytes : List ℕ → Header → Option (List ℕ)
dynamic_bytes bytes header =
    option_and_then (λ segment. result_ok (segment_bytes bytes segment)) (first_segment (λ segment. is_dynamic segment.kind) bytes header)

-- the value that it has for a tag
abbrev pub value_of : DynamicTable → Tag → Option ℕ
value_of dynamic tag = value_among (tag_number tag) (all_entries dynamic.bytes)

-- the bytes at an address that it has, up to the end of their segment in the file
abbrev pub loaded_at : DynamicTable → ℕ → Option (List ℕ)
loaded_at dynamic address =
    if nat_le dynamic.moved address
    then option_map (λ placed. placed.bytes) (placed_at dynamic.file dynamic.header (address - dynamic.moved)) else None

-- those at the address that it has for a tag
abbrev pub bytes_of : DynamicTable → Tag → Option (List ℕ)
bytes_of dynamic tag = option_and_then (loaded_at dynamic) (value_of dynamic tag)
