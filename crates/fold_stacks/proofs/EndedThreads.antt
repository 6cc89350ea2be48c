-- What threads were called that ended, as entries of a map.
use Rattle.std.proofs.Common.{◌≡◌, ℕ, Bool, true, false, cond, List, [], ◌∷◌, map, refl, Option, Some, arith}
use Rattle.std.specs.Prelude.{◌==◌, ◌&&◌}
use Rattle.std.specs.Map.{lookup}
use Rattle.std.proofs.lemmas.Bool.Decides.{nat_tests}
use Rattle.perf_files.specs.declared.fields.ThreadId.{ThreadId}
use Rattle.perf_processes.specs.declared.change.ThreadName.{ThreadName}
use Rattle.perf_processes.specs.Changes.{is_of_thread}
use Rattle.perf_processes.specs.Processes.{name_of, named_as}
use Rattle.fold_stacks.specs.declared.comms.ThreadKey.{ThreadKey}

-- an entry as a name
abbrev pub name_in : ThreadKey × ℕ → ThreadName
name_in entry = record { thread = record { pid = entry.0.pid; tid = entry.0.tid }; name = Some entry.1 }

-- a key is that of a thread
abbrev pub is_key : ThreadKey → ThreadKey → Bool
is_key key other = (key.pid == other.pid) && (key.tid == other.tid)

-- the key of a thread
abbrev pub key : ThreadId → ThreadKey
key thread = record { pid = thread.pid; tid = thread.tid }

same-test : (thread : ThreadId) (entry : ThreadKey × ℕ) → is_of_thread thread (name_in entry) ≡ is_key (key thread) entry.0
same-test thread entry = grind (arith, nat_tests)

first : (b : Bool) (name : ThreadName) (others : Option ThreadName) → named_as (cond b (Some name) others) ≡ cond b name.name (named_as others)
first true name others = refl
first false name others = refl

-- what a thread was called is what the entry with its key says
pub name-looked-up : (thread : ThreadId) (entries : List (ThreadKey × ℕ)) → name_of thread (map name_in entries) ≡ lookup (is_key (key thread)) entries
name-looked-up thread [] = refl
name-looked-up thread (entry ∷ entries) =
    rw (first (is_of_thread thread (name_in entry)), same-test thread entry, name-looked-up thread entries) refl
