-- What the code keeps of a search.
use Rattle.std.specs.List.{AllByRecursion}
use Rattle.std.specs.Prelude.{ℕ, ◌+◌, ◌<◌, ◌≤◌, Bool, if◌then◌else◌, List, [], ◌∷◌, ◌++◌, length, take, map, reverse}
use Rattle.framehop_ways.specs.declared.executed.Bounds.{Bounds}
use Rattle.framehop_x86_ways.specs.Places.{place_after, place_branched_to}
use Rattle.framehop_x86_ways.specs.FirstWay.{Trail, with_trail, Turn, Found, Left}
use Rattle.framehop_x86_ways.specs.declared.executed.Executed.{Executed}
use Rattle.framehop_x86_ways.specs.declared.search.Pending.{Pending}
use Rattle.framehop_x86_ways.specs.declared.search.Search.{Search}

-- The trail of a place that is pending: so many of what was executed come before it.
abbrev pub trail_of : List Executed → Pending → Trail
trail_of path pending = record { place = pending.place; before = take pending.executed path }

-- The trails, the latest first.
abbrev pub trails_of : List Executed → List Pending → List Trail
trails_of path pending = reverse (map (trail_of path) pending)

-- What is pending later has as many before it, or more, and none more than there are.
abbrev pub IsRising : List Pending → ℕ → Type 0
IsRising [] most = Unit {0}
IsRising (one ∷ more) most = (one.executed ≤ most) × AllByRecursion (λ other. one.executed ≤ other.executed) more × IsRising more most

-- The trails of a search.
abbrev pub trails_in : Search → List Trail
trails_in search = trails_of search.path.items search.pending.items

-- A trail behind all that was executed, and the others.
abbrev pub trails_with : ℕ → List Executed → List Pending → List Trail
trails_with place path pending = (record { place = place; before = path }) ∷ trails_of path pending

-- The trails at the start.
abbrev pub starting_trail : ℕ → List Trail
starting_trail at = (record { place = at; before = [] }) ∷ []

-- The trails once one more instruction is executed: those that it leads to come first.
abbrev pub trails_after : Bounds → Executed → List Executed → List Pending → List Trail
trails_after bounds one path pending =
    with_trail (path ++ one ∷ []) (place_after bounds one)
    (with_trail (path ++ one ∷ []) (place_branched_to one) (trails_of path pending))

-- A turn by its result: what is executed is a way, or the search goes on.
abbrev pub turned : Bool → Search → Turn
turned is_found search = if is_found then Found search.path.items else Left search.seen.items (trails_in search)

-- There is room for one more instruction, and for what it leads to.
pub record HasRoom (seen : List ℕ) (path : List Executed) (pending : List Pending) : Type 0 where
  pub for_seen : length seen < 128
  pub for_path : length path < 128
  pub for_pending : length pending + 1 < 129

-- Two more are pending, or fewer, each with as many before it or more.
abbrev pub IsGrown : Search → Search → Type 0
IsGrown old new = IsRising new.pending.items (length new.path.items) × (length new.pending.items ≤ length old.pending.items + 2)

-- What is kept fits.
pub record IsSound (seen : List ℕ) (path : List Executed) (pending : List Pending) : Type 0 where
  pub rising : IsRising pending (length path)
  pub few_executed : length path ≤ length seen
  pub few_pending : length pending ≤ length seen + 1
