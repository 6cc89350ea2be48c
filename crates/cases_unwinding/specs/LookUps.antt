-- Look-ups of addresses in steps of one size.
use Rattle.std.specs.Prelude.{ℕ, zero, suc, ◌+◌, ◌*◌, ◌%◌, ◌^◌, is_some, if◌then◌else◌}
use Rattle.dwarf_frame_rows.specs.FrameSection.{FrameSection}
use Rattle.framehop_index.specs.EntryFor.{indexed_entry}

-- how many of so many addresses have an entry: they count from 0 on, modulo 2^32
abbrev pub found_among : ℕ → ℕ → ℕ → FrameSection → ℕ
found_among zero apart base section = 0
found_among (suc n) apart base section = found_among n apart base section + (if is_some (indexed_entry base ((n * apart) % 2 ^ 32) section) then 1 else 0)
