-- A slice of a section, as the stretch that it is for a reader.
use Rattle.std.specs.Prelude.{◌≡◌, ℕ, Bool, List}
use Rattle.dwarf_readers.specs.declared.endian_slice.EndianSlice.{EndianSlice}
use Rattle.dwarf_readers.specs.Stretch.{AreAlike, Stretch}

-- the stretch of a slice
abbrev pub stretch_of : {E : Type 0} → (E → Bool) → EndianSlice E → Stretch
stretch_of is_big s = record { bytes = s.slice.now; offset = s.first; big = is_big s.endian }

-- the bytes of a slice
abbrev pub slice_bytes : {E : Type 0} → EndianSlice E → List ℕ
slice_bytes s = s.slice.now

-- Two slices have the same bytes and the same byte order, at any offsets.
abbrev pub SlicesAreAlike : {E : Type 0} → (E → Bool) → EndianSlice E → EndianSlice E → Type 0
SlicesAreAlike is_big a b = AreAlike (stretch_of is_big a) (stretch_of is_big b)

-- A function gives the same for slices that are alike.
abbrev pub SameWhereAlike : {E X : Type 0} → (E → Bool) → (EndianSlice E → X) → Type 0
SameWhereAlike {E} is_big f = (a b : EndianSlice E) → SlicesAreAlike is_big a b → f a ≡ f b

-- the byte order of a slice, by the value that is its order
abbrev pub endian_of : {E : Type 0} → EndianSlice E → E
endian_of s = s.endian
