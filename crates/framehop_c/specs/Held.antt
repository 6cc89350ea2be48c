-- What a handle owns: a value in a block of its own, or nothing.
use Rattle.std.specs.Prelude.{Option, Some, None}
use base.Fml.{Fml, ftrue, ffalse}
use mir.Syntax.{Ty}
use denote.RattleType.{RattleType}
use denote.RawPtr.{Ptr, block_ptr, null_ptr}
use Rattle.std.specs.contracts.impls.GlobalAllocator.TheImpl.{ghosts}
use Rattle.std_alloc.specs.Box.Ownership.{box_owns}

-- the right to free a block of the heap, which is one by whatever handle to the heap
abbrev pub token : Ty → Ptr → Fml
token = ghosts.dealloc_token (record { memory = record { seal = tt } })

-- the value at the pointer, with the right to free its block; at null there is none
abbrev pub held : (R : RattleType) → Ptr → Option R.Denot → Fml
held R null_ptr None = ftrue
held R null_ptr (Some x) = ffalse
held R (block_ptr b o) None = ffalse
held R (block_ptr b o) (Some x) = box_owns token R (block_ptr b o) x
