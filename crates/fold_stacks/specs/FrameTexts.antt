-- The names of frames and of processes.
use Rattle.std.specs.Prelude.{ℕ, ◌==◌, if◌then◌else◌, List, [], ◌∷◌, ◌++◌, map, codes, decimal, Option, Some, None, unwrap_or}
use Rattle.folded_stacks.specs.Names.{process_name, shown_byte}
use Rattle.perf_files.specs.declared.fields.ThreadId.{ThreadId}
use Rattle.symbol_names.specs.Names.{text_of}

-- the part of a path after its last slash (47), if this is the part of what was read so far
abbrev pub base_from : List ℕ → List ℕ → List ℕ
base_from base [] = base
base_from base (byte ∷ bytes) = base_from (if byte == 47 then [] else base ++ byte ∷ []) bytes

-- the part of a path after its last slash
abbrev pub base_name : List ℕ → List ℕ
base_name path = base_from [] path

-- the name of a function, by its symbol: as it is written in programs, if it is known
abbrev pub function_text : List ℕ → List ℕ
function_text symbol = map shown_byte (unwrap_or (text_of symbol) symbol)

-- the name of a function that isn't known, in a file of this name
abbrev pub unknown_text : List ℕ → List ℕ
unknown_text file = codes "[" ++ map shown_byte (base_name file) ++ codes "]"

-- the name of a thread, or the number of its process behind a colon; process 0 is the one that idles
abbrev pub comm_text : Option (List ℕ) → ℕ → List ℕ
comm_text (Some comm) pid = comm
comm_text None pid = if pid == 0 then codes "swapper" else codes ":" ++ decimal pid

-- a thread behind the name of its process
abbrev pub thread_text : Option ThreadId → List ℕ
thread_text (Some thread) = codes "-" ++ decimal thread.pid ++ codes "/" ++ decimal thread.tid
thread_text None = []

-- what a stack begins with: the name of the process, and the thread if each has stacks of its own
abbrev pub process_text : List ℕ → Option ThreadId → List ℕ
process_text comm thread = process_name comm ++ thread_text thread
