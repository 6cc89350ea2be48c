-- What the code keeps after instructions.
use Rattle.std.specs.Prelude.{Bool, if◌then◌else◌, List, Option, Some, None}
use Rattle.framehop_ways.specs.declared.values.Held.{Held}
use Rattle.framehop_ways.specs.declared.values.Saved.{Saved}
use Rattle.framehop_ways.specs.declared.values.Values.{Values}

-- What is saved, if there is something to be said.
abbrev pub saved_if : Bool → Held → Option (List Saved)
saved_if is_known held = if is_known then Some held.saved.items else None

-- What is held, if there is.
abbrev pub held_if : Bool → Held → Option (Values × List Saved)
held_if is_known held = if is_known then Some (held.values, held.saved.items) else None
