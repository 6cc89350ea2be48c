-- FDEs by maps and sets of offsets.
use Rattle.std.specs.Prelude.{◌≡◌, ℕ, ◌+◌, ◌==◌, ◌||◌, if◌then◌else◌, List, [], ◌∷◌, Option, Some, None}
use Rattle.std.specs.BTreeMap as tree_map
use Rattle.std.specs.BTreeSet as tree_set
use Rattle.std.specs.List.{filter_map}
use Rattle.std.specs.Option.{option_or}
use Rattle.std.specs.Ordering.{nat_cmp}
use Rattle.backtrace_lint.specs.HeaderTables.{start_at}
use Rattle.backtrace_lint.specs.declared.header_tables.HeaderRow.{HeaderRow}
use Rattle.backtrace_lint.specs.declared.header_tables.LocatedFde.{LocatedFde}

-- A map has a start at an FDE's offset, its old one or else the FDE's, and elsewhere what it had.
abbrev pub AddsStart : LocatedFde → (old new : tree_map.BTreeMap ℕ ℕ) → Type 0
AddsStart fde old new =
    (offset : ℕ) → tree_map.get nat_cmp new offset ≡ option_or (tree_map.get nat_cmp old offset) (start_at (fde ∷ []) offset)

-- A set has its old offsets, and that of what a row names, in a section that starts at an address.
abbrev pub AddsNamed : (section : ℕ) → HeaderRow → (old new : tree_set.BTreeSet ℕ) → Type 0
AddsNamed section row old new =
    (offset : ℕ) → tree_set.contains nat_cmp new offset ≡ (tree_set.contains nat_cmp old offset || (row.fde == section + offset))

-- an FDE, unless the set has its offset
unfoldable pub rowless_in : tree_set.BTreeSet ℕ → LocatedFde → Option LocatedFde
rowless_in named fde = if tree_set.contains nat_cmp named fde.offset then None else Some fde

-- the FDEs whose offsets the set doesn't have
abbrev pub rowless_among : tree_set.BTreeSet ℕ → List LocatedFde → List LocatedFde
rowless_among named fdes = filter_map (rowless_in named) fdes
