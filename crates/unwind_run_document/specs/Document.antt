-- What the bytes of a document say: its policy and its commands, or its first fault.
use Rattle.std.specs.Prelude.{ℕ, ◌+◌, ◌&&◌, ◌||◌, Bool, false, nat_lt, nat_le, is_some, if◌then◌else◌, List, [], ◌∷◌, length, codes, bytes_eq, option_and_then, ok_or, Result, Ok, Err, Option, Some, None}
use Rattle.serde_json.specs.Data.{Data, null, boolean, number, string, array, object, Items, no_items, item, Members, no_members, member}
use Rattle.serde_json.specs.Find.{as_str, get, as_array, is_float}
use Rattle.serde_json.specs.Events.{items_len}
use Rattle.serde_json.specs.Written.{has_float}
use Rattle.json_program.specs.declared.fault.FaultName.TheVariants.{TooLong, NotJson, FloatNumber, BadDocument, BadNumber}
use Rattle.json_program.specs.declared.fault.Fault.{Fault}
use Rattle.json_program.specs.declared.transfer.TheConstants.{DOCUMENT_LIMIT}
use Rattle.unwind_run_document.specs.declared.document.TheConstants.{COMMAND_LIMIT}
use Rattle.unwind_run_document.specs.declared.document.Architecture.{Architecture}
use Rattle.unwind_run_document.specs.declared.document.Architecture.TheVariants.{X86_64, Aarch64}
use Rattle.unwind_run_document.specs.declared.document.Policy.{Policy}
use Rattle.unwind_run_document.specs.declared.document.Policy.TheVariants.{May, Must}
use Rattle.json_program.specs.Faults.{Checked, ◌>>=◌, both, in_unit}
use Rattle.json_program.specs.Json.{has_only, is_text, json_of, spelled_address}
use Rattle.unwind_run_document.specs.Commands.{command_in}
use Rattle.unwind_run_document.specs.Made.{Made, made_after}
use Rattle.unwind_run_document.specs.Tasks.{Task}

-- a member has a float that is the document's: the elements of the list of commands are units of their own
abbrev pub has_own_float : List ℕ → Data → Bool
has_own_float name d = if bytes_eq name (codes "commands") && is_some (as_array d) then false else has_float d

-- some member has one
abbrev pub have_own_float : Members → Bool
have_own_float no_members = false
have_own_float (member name d ms) = has_own_float name d || have_own_float ms

-- a number outside the commands is a float
unfoldable pub has_float_outside : Data → Bool
has_float_outside null = false
has_float_outside (boolean b) = false
has_float_outside (number n) = is_float n
has_float_outside (string s) = false
has_float_outside (array ds) = has_float (array ds)
has_float_outside (object ms) = have_own_float ms

-- the fields of a document
abbrev pub document_names : List (List ℕ)
document_names = codes "arch" ∷ codes "policy" ∷ codes "commands" ∷ codes "generation" ∷ []

-- a document has no other field, and its architecture and policy are ones that there are
unfoldable pub is_supported : Data → Bool
is_supported d =
    has_only document_names d
    && (is_text (codes "x86_64") (codes "arch") d || is_text (codes "aarch64") (codes "arch") d)
    && (is_text (codes "may") (codes "policy") d || is_text (codes "must") (codes "policy") d)

-- the architecture of a document whose fields are supported
abbrev pub arch_of : Data → Architecture
arch_of d = if is_text (codes "aarch64") (codes "arch") d then Aarch64 else X86_64

-- the policy of a document whose fields are supported
abbrev pub policy_of : Data → Policy
policy_of d = if is_text (codes "must") (codes "policy") d then Must else May

-- the commands, of which there may be COMMAND_LIMIT
unfoldable pub few_commands : Items → Checked Items
few_commands ds = if nat_le (items_len ds) COMMAND_LIMIT then Ok ds else Err BadDocument

-- the commands that are still to be decoded
abbrev pub items_in : Data → Checked Items
items_in d = do
  items ← ok_or (option_and_then as_array (get (codes "commands") d)) BadDocument
  few_commands items

-- the first generation: that of an address's text, or 0 if none is stated
abbrev pub generation_at : Option Data → Checked ℕ
generation_at None = Ok 0
generation_at (Some d) = do
  text ← ok_or (as_str d) BadDocument
  ok_or (spelled_address text) BadNumber

-- the first generation of a document
abbrev pub generation_in : Data → Checked ℕ
generation_in d = generation_at (get (codes "generation") d)

-- the first generation, and the commands that are still to be decoded
unfoldable pub document_in : Data → Checked (ℕ × Items)
document_in d =
    if has_float_outside d then Err FloatNumber
    else if is_supported d then both (generation_in d) (items_in d) else Err BadDocument

-- a command before the others
abbrev pub with_task : Task → Result (List Task) Fault → Result (List Task) Fault
with_task task (Ok tasks) = Ok (task ∷ tasks)
with_task task (Err fault) = Err fault

-- the commands from the one of this number on, or their first fault
abbrev pub commands_from : Architecture → ℕ → Made → Items → Result (List Task) Fault
commands_from machine n made no_items = Ok []
commands_from machine n made (item d ds) = do
  task ← in_unit n (command_in machine made d)
  with_task task (commands_from machine (n + 1) (made_after made task) ds)

-- before the first command
abbrev pub nothing_made : Made
nothing_made = record { unwinders = 0; caches = 0 }

-- what a document asks for: commands, the architecture and the policy under which they run, and the first generation
pub record Content : Type 0 where
  pub arch : Architecture
  pub policy : Policy
  pub generation : ℕ
  pub tasks : List Task

-- commands on an architecture under a policy, from a generation on
abbrev pub under : Architecture → Policy → ℕ → Result (List Task) Fault → Result Content Fault
under machine policy generation (Ok tasks) = Ok (record { arch = machine; policy = policy; generation = generation; tasks = tasks })
under machine policy generation (Err fault) = Err fault

-- what a document asks for, or its first fault: unit 0 is the document itself, and the commands are units from 1 on
abbrev pub content_in : Data → Result Content Fault
content_in d = do
  own ← in_unit 0 (document_in d)
  under (arch_of d) (policy_of d) own.0 (commands_from (arch_of d) 1 nothing_made own.1)

-- what a document's bytes ask for, or their first fault
abbrev pub content_of : List ℕ → Result Content Fault
content_of bytes =
    if nat_lt DOCUMENT_LIMIT (length bytes) then Err (record { name = TooLong; number = 0 })
    else in_unit 0 (ok_or (json_of bytes) NotJson) >>= content_in
