-- Instructions whose bytes are at their end.
use Rattle.std.proofs.Common.{◌≡◌, true, length, [], None, Ok, refl, ap}
use Rattle.std.specs.Prelude.{◌==◌}
use Rattle.list_laws.specs.Items.{items_from, items_within}
use Rattle.dwarf_readers.specs.Remainder.{item_at, size_of}
use Rattle.dwarf_readers.specs.Stretch.{Stretch}
use Rattle.dwarf_frame_instructions.specs.Instructions.{Conventions, instruction_at, instructions_of}

-- there is no item there
none-there : (conventions : Conventions) (s : Stretch) → (length s.bytes == 0) ≡ true → item_at (instruction_at conventions) s ≡ Ok None
none-there conventions s none = rw none refl

-- so that no instruction is left
pub none-left : (conventions : Conventions) (s : Stretch) → (length s.bytes == 0) ≡ true → instructions_of conventions s ≡ []
unfolding instructions_of
none-left conventions s none =
    ap (items_from (items_within (size_of s) (item_at (instruction_at conventions)))) (none-there conventions s none)
