-- Call frames by segments, of a file whose sections have no names that can be read, as an unwinder of the running process finds them
-- (LSB 5.0, "Program Header": PT_GNU_EH_FRAME; 10.6.2, `.eh_frame_hdr`).
use Rattle.std.specs.Prelude.{ℕ, ◌+◌, ◌-◌, ◌^◌, Bool, true, false, min, bytes_eq, codes, if◌then◌else◌, List, length, Option, Some, None, option_and_then}
use Rattle.std.specs.Option.{option_map}
use Rattle.std.specs.Result.{result_ok}
use Rattle.std.specs.declared.ops.Range.{Range}
use Rattle.dwarf_readers.specs.Stretch.{whole}
use Rattle.dwarf_frame_rows.specs.EncodedPointer.{direct_address}
use Rattle.dwarf_frame_rows.specs.declared.base_addresses.SectionBaseAddresses.{SectionBaseAddresses}
use Rattle.dwarf_call_frames.specs.Header.{Header as FrameHeader, header_at}
use Rattle.elf_files.specs.declared.header.Header.{Header}
use Rattle.elf_files.specs.declared.segment.SegmentKind.{SegmentKind}
use Rattle.elf_files.specs.declared.segment.SegmentKind.TheVariants.{EhFrameHeader}
use Rattle.elf_segments.specs.Segments.{Placed, first_segment, placed_at, placed_from}

-- a segment is that of `.eh_frame_hdr`
abbrev pub is_frame_header : SegmentKind → Bool
is_frame_header EhFrameHeader = true
is_frame_header _ = false

-- `.eh_frame_hdr`: the first segment of its kind
abbrev pub frame_header : List ℕ → Header → Option Placed
frame_header bytes header =
    option_and_then (λ segment. placed_from segment.address bytes segment)
    (first_segment (λ segment. is_frame_header segment.kind) bytes header)

-- what the pointers of an `.eh_frame_hdr` at this address may be relative to
abbrev pub bases_at : ℕ → SectionBaseAddresses
bases_at address = record { section = Some address; text = None; data_base = Some address }

-- what an `.eh_frame_hdr` with these bytes says, if it can be read: its numbers are little-endian, and its addresses have 8 bytes
abbrev pub parsed_header : SectionBaseAddresses → List ℕ → Option FrameHeader
parsed_header bases bytes = result_ok (header_at bases 8 (whole false bytes))

-- where `.eh_frame` begins, as an `.eh_frame_hdr` says
abbrev pub frames_start : Placed → Option ℕ
frames_start placed =
    option_and_then (λ header. result_ok (direct_address header.eh_frame_ptr)) (parsed_header (bases_at placed.address) placed.bytes)

-- `.eh_frame`, and what follows it in its segment
abbrev pub frames : List ℕ → Header → Option Placed
frames bytes header = option_and_then (placed_at bytes header) (option_and_then frames_start (frame_header bytes header))

-- either of both, by its name
abbrev pub placed_named : List ℕ → Header → List ℕ → Option Placed
placed_named bytes header name =
    if bytes_eq name (codes ".eh_frame") then frames bytes header else
    if bytes_eq name (codes ".eh_frame_hdr") then frame_header bytes header else None

-- the addresses of loaded bytes, which end in 64 bits
abbrev pub range_of_placed : Placed → Range ℕ
range_of_placed placed = record { start = placed.address; end = min (placed.address + length placed.bytes) (2 ^ 64 - 1) }

-- the addresses of either
abbrev pub range_by_segments : List ℕ → Header → List ℕ → Option (Range ℕ)
range_by_segments bytes header name = option_map range_of_placed (placed_named bytes header name)

-- the bytes of either
abbrev pub data_by_segments : List ℕ → Header → List ℕ → Option (List ℕ)
data_by_segments bytes header name = option_map (λ placed. placed.bytes) (placed_named bytes header name)
