-- Which way comes first: a branch is followed once all is tried that comes if it isn't taken, and each place is tried once.
use Rattle.std.specs.List.{list_any}
use Rattle.std.specs.Prelude.{ℕ, zero, suc, ◌==◌, if◌then◌else◌, List, [], ◌∷◌, ◌++◌, Option, Some, None}
use Rattle.framehop_ways.specs.declared.executed.Bounds.{Bounds}
use Rattle.framehop_x86_instructions.specs.declared.instruction.Instruction.{Instruction}
use Rattle.framehop_x86_ways.specs.Places.{instruction_at, place_after, place_branched_to}
use Rattle.framehop_x86_ways.specs.Ways.{leaves}
use Rattle.framehop_x86_ways.specs.declared.executed.Executed.{Executed}

-- A place that is still to be tried, and what was executed before it.
pub record Trail : Type 0 where
  pub place : ℕ
  pub before : List Executed

-- One more trail, if there is a place for it.
abbrev pub with_trail : List Executed → Option ℕ → List Trail → List Trail
with_trail before None more = more
with_trail before (Some place) more = (record { place = place; before = before }) ∷ more

-- The instruction at a place that wasn't tried.
abbrev pub untried : List ℕ → List ℕ → ℕ → Option Instruction
untried text seen place = if list_any (λ other. other == place) seen then None else instruction_at text place

-- What comes of one turn: a way, or the places that were tried by now and what is left.
pub data Turn : Type 0 where
  Found : List Executed → Turn
  Left : List ℕ → List Trail → Turn

abbrev pub turn_at : List ℕ → Bounds → List ℕ → Trail → List Trail → Option Instruction → Turn
turn_at text bounds seen trail more None = Left seen more
turn_at text bounds seen trail more (Some instruction) =
    let one : Executed = record { place = trail.place; instruction = instruction } in
    let before : List Executed = trail.before ++ one ∷ [] in
    if leaves text trail.before one then Found before else
    Left (seen ++ trail.place ∷ []) (with_trail before (place_after bounds one) (with_trail before (place_branched_to one) more))

-- A turn tries the latest trail.
abbrev pub turn : List ℕ → Bounds → List ℕ → List Trail → Turn
turn text bounds seen [] = Left seen []
turn text bounds seen (trail ∷ more) = turn_at text bounds seen trail more (untried text seen trail.place)

-- A turn, and then the search goes on.
abbrev pub or_go_on : (List ℕ → List Trail → Option (List Executed)) → Turn → Option (List Executed)
or_go_on search (Found way) = Some way
or_go_on search (Left seen trails) = search seen trails

-- The way that is found in so many turns.
unfoldable pub searched : ℕ → List ℕ → Bounds → List ℕ → List Trail → Option (List Executed)
searched zero text bounds seen trails = None
searched (suc turns) text bounds seen trails = or_go_on (searched turns text bounds) (turn text bounds seen trails)

-- The first way from a place, in so many turns.
abbrev pub way_in : ℕ → List ℕ → Bounds → ℕ → Option (List Executed)
way_in turns text bounds at = searched turns text bounds [] ((record { place = at; before = [] }) ∷ [])
