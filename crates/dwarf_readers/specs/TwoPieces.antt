-- Two pieces of a section, as the stretch that they are for a reader.
use Rattle.std.specs.Prelude.{◌≡◌, ℕ, ◌+◌, ◌<◌, Bool, List, ◌++◌, length, Result}
use Rattle.dwarf_constants.specs.declared.error.Error.{Error}
use Rattle.dwarf_readers.specs.declared.two_pieces.TwoPieces.{TwoPieces}
use Rattle.dwarf_readers.specs.Stretch.{ReadsAs, Stretch, split_at}

-- the bytes of the first piece and then those of the second
abbrev pub joined_bytes : {E : Type 0} → TwoPieces E → List ℕ
joined_bytes s = s.first.now ++ s.second.now

-- the stretch of two pieces
abbrev pub joined_stretch : {E : Type 0} → (E → Bool) → TwoPieces E → Stretch
joined_stretch is_big s = record { bytes = joined_bytes s; offset = s.offset; big = is_big s.endian }

-- A call took the first n bytes of two pieces, and its result is a reader of them.
abbrev pub SplitsPieces : {E : Type 0} → (E → Bool) → ℕ → TwoPieces E → TwoPieces E → Result (TwoPieces E) Error → Type 0
SplitsPieces is_big n old new result =
    ReadsAs (joined_stretch is_big) result (split_at n (joined_stretch is_big old)) (joined_stretch is_big new)

-- the joint: the offset at which the first piece ends and the second begins
abbrev pub joint_of : {E : Type 0} → TwoPieces E → ℕ
joint_of s = s.offset + length s.first.now

-- There are bytes on both sides of the joint.
abbrev pub CrossesJoint : {E : Type 0} → TwoPieces E → Type 0
CrossesJoint s = (0 < length s.first.now) × (0 < length s.second.now)

-- A part with bytes on both sides of a joint has the joint of the whole.
abbrev pub KeepsJoint : {E : Type 0} → TwoPieces E → TwoPieces E → Type 0
KeepsJoint whole part = CrossesJoint part → joint_of part ≡ joint_of whole
