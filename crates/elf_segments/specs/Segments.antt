-- Segments, and the bytes of those that are loaded, by the addresses that their file states (System V gABI, "Program Header").
use Rattle.std.specs.Prelude.{◌≡◌, ℕ, ◌+◌, ◌-◌, ◌*◌, ◌==◌, ◌&&◌, Bool, true, false, not, is_ok, nat_le, nat_lt, if◌then◌else◌, List, [], drop, Option, None, option_and_then}
use Rattle.std.specs.Borrow.{Bor}
use Rattle.std.specs.List.{find}
use Rattle.std.specs.Option.{option_map}
use Rattle.std.specs.Result.{result_ok}
use Rattle.elf_files.specs.Bytes.{is_within}
use Rattle.elf_files.specs.Sections.{section_named}
use Rattle.elf_files.specs.Segments.{all_segments, segment_bytes}
use Rattle.elf_files.specs.declared.header.Header.{Header}
use Rattle.elf_files.specs.declared.segment.Segment.{Segment}
use Rattle.elf_files.specs.declared.segment.SegmentKind.{SegmentKind}
use Rattle.elf_files.specs.declared.segment.SegmentKind.TheVariants.{Load}

-- a file has sections that can be looked up by their names
abbrev pub has_named_sections : List ℕ → Header → Bool
has_named_sections bytes header = not (header.section_count == 0) && is_ok (section_named bytes header [])

-- each call of a test answers what holds says of its segment
abbrev pub Computes : (Bor Segment → Bool → Type 0) → (Segment → Bool) → Type 0
Computes post holds = (segment : Bor Segment) (answer : Bool) → post segment answer → answer ≡ holds segment.now

-- the first segment of a file for which a test holds, if their table is there
abbrev pub first_segment : (Segment → Bool) → List ℕ → Header → Option Segment
first_segment test bytes header =
    if is_within bytes header.segment_table (56 * header.segment_count) then find test (all_segments bytes header) else None

-- a segment is loaded (PT_LOAD)
abbrev pub is_load : SegmentKind → Bool
is_load Load = true
is_load _ = false

-- Bytes that are loaded, with the address of the first, as the file states it.
pub record Placed : Type 0 where
  pub address : ℕ
  pub bytes : List ℕ

-- a loaded segment has the byte at an address in the file
abbrev pub has_byte_at : ℕ → Segment → Bool
has_byte_at address segment =
    is_load segment.kind && nat_le segment.address address && nat_lt address (segment.address + segment.file_size)

-- the bytes that a segment has in the file from an address on, if its bytes are all there
abbrev pub placed_from : ℕ → List ℕ → Segment → Option Placed
placed_from address bytes segment =
    option_map (λ found. record { address = address; bytes = drop (address - segment.address) found }) (result_ok (segment_bytes bytes segment))

-- the bytes at an address, up to the end of the first segment that has it in the file
abbrev pub placed_at : List ℕ → Header → ℕ → Option Placed
placed_at bytes header address = option_and_then (placed_from address bytes) (first_segment (has_byte_at address) bytes header)
