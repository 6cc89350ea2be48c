-- What the code keeps after instructions.
use Rattle.std.specs.Prelude.{Bool, if◌then◌else◌, List, Option, Some, None}
use Rattle.framehop_x86_ways.specs.declared.values.Held.{Held}
use Rattle.framehop_x86_ways.specs.declared.values.Saved.{Saved}
use Rattle.framehop_x86_ways.specs.declared.values.Values.{Values}

-- What is stored, if there is something to be said.
abbrev pub saved_if : Bool → Held → Option (List Saved)
saved_if is_known held = if is_known then Some held.saved.items else None

-- What is held.
abbrev pub held_in : Held → Values × List Saved
held_in held = (held.values, held.saved.items)

-- What is held, if there is something to be said.
abbrev pub held_if : Bool → Held → Option (Values × List Saved)
held_if is_known held = if is_known then Some (held_in held) else None
