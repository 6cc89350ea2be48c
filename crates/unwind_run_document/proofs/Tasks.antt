-- Commands, one after the other.
use Rattle.std.proofs.Common.{◌≡◌, ℕ, ◌+◌, List, [], ◌∷◌, ◌++◌, length, true, false, cond, Option, Some, None, Result, Ok, Err, refl, sym, ap, ◌∙◌, append_assoc}
use Rattle.std.specs.Prelude.{nat_lt, ok_or}
use Rattle.json_program.specs.declared.fault.FaultName.TheVariants.{TooLong, NotJson}
use Rattle.serde_json.specs.Data.{Data, Items, item}
use Rattle.json_program.specs.declared.fault.FaultName.{FaultName}
use Rattle.json_program.specs.declared.fault.Fault.{Fault}
use Rattle.json_program.specs.declared.fault.DecodeError.{DecodeError}
use Rattle.json_program.specs.declared.fault.DecodeError.TheVariants as decode_error
use Rattle.json_program.specs.Decoded.{Decodes}
use Rattle.json_program.specs.Faults.{Checked, ◌>>=◌}
use Rattle.unwind_run_document.specs.declared.document.Architecture.{Architecture}
use Rattle.unwind_run_document.specs.Commands.{command_in}
use Rattle.unwind_run_document.specs.Made.{Made, made_after}
use Rattle.unwind_run_document.specs.Tasks.{Task}
use Rattle.unwind_run_document.specs.Document.{Content, arch_of, commands_from, content_in, content_of, document_in, nothing_made, policy_of, under, with_task}
use Rattle.json_program.specs.Faults.{in_unit}
use Rattle.json_program.specs.Json.{json_of}
use Rattle.json_program.specs.declared.transfer.TheConstants.{DOCUMENT_LIMIT}

-- commands that are decoded, and what the rest gives
abbrev pub behind : List Task → Result (List Task) Fault → Result (List Task) Fault
behind tasks (Ok more) = Ok (tasks ++ more)
behind tasks (Err fault) = Err fault

behind-with_task : (tasks : List Task) (task : Task) (rest : Result (List Task) Fault) → behind tasks (with_task task rest) ≡ behind (tasks ++ task ∷ []) rest
behind-with_task tasks task (Ok more) = ap (λ ts. Ok ts) (sym (append_assoc tasks (task ∷ []) more))
behind-with_task tasks task (Err fault) = refl

-- what one command and those after it give
abbrev go_on : Architecture → ℕ → Made → Items → Checked Task → Result (List Task) Fault
go_on machine n made ds checked = in_unit n checked >>= λ task. with_task task (commands_from machine (n + 1) (made_after made task) ds)

-- one more command is decoded
pub behind-more : (machine : Architecture) (tasks : List Task) (n : ℕ) (made : Made) (d : Data) (ds : Items) (task : Task) → command_in machine made d ≡ Ok task
    → behind tasks (commands_from machine n made (item d ds)) ≡ behind (tasks ++ task ∷ []) (commands_from machine (n + 1) (made_after made task) ds)
behind-more machine tasks n made d ds task good =
    ap (λ r. behind tasks (go_on machine n made ds r)) good ∙ behind-with_task tasks task (commands_from machine (n + 1) (made_after made task) ds)

-- a command before the others, by equations for what is made and what is done
pub behind-step : (machine : Architecture) (all : Result (List Task) Fault) (done later : List Task) (n : ℕ) (made next : Made) (d : Data) (ds : Items) (task : Task)
    → all ≡ behind done (commands_from machine n made (item d ds)) → command_in machine made d ≡ Ok task → next ≡ made_after made task → later ≡ done ++ task ∷ []
    → all ≡ behind later (commands_from machine (n + 1) next ds)
behind-step machine all done later n made next d ds task is good makes more =
    is ∙ behind-more machine done n made d ds task good
    ∙ ap (λ m. behind (done ++ task ∷ []) (commands_from machine (n + 1) m ds)) (sym makes)
    ∙ ap (λ ts. behind ts (commands_from machine (n + 1) next ds)) (sym more)

-- one command has a fault
pub behind-fault : (machine : Architecture) (tasks : List Task) (n : ℕ) (made : Made) (d : Data) (ds : Items) (name : FaultName) → command_in machine made d ≡ Err name
    → behind tasks (commands_from machine n made (item d ds)) ≡ Err (record { name = name; number = n })
behind-fault machine tasks n made d ds name bad = ap (λ r. behind tasks (go_on machine n made ds r)) bad

-- a command with a fault
pub behind-refused : {A B : Type 0} (machine : Architecture) (seen : A → Task) (view : B → List Task) (all : Result (List Task) Fault) (tasks : List Task) (n : ℕ) (made : Made) (d : Data) (ds : Items) (why : DecodeError Fault)
    → all ≡ behind tasks (commands_from machine n made (item d ds)) → Decodes seen (Err why) (in_unit n (command_in machine made d)) → Decodes view (Err why) all
behind-refused machine seen view all tasks n made d ds (decode_error.Fault fault) is bad =
    is ∙ ap (λ r. behind tasks (r >>= λ task. with_task task (commands_from machine (n + 1) (made_after made task) ds))) bad
behind-refused machine seen view all tasks n made d ds decode_error.OutOfMemory is bad = tt

-- ---- the whole document

-- what a document of a good length gives
abbrev of_json : Option Data → Result Content Fault
of_json d = in_unit 0 (ok_or d NotJson) >>= content_in

pub content_of-long : (bytes : List ℕ) → nat_lt DOCUMENT_LIMIT (length bytes) ≡ true → content_of bytes ≡ Err (record { name = TooLong; number = 0 })
content_of-long bytes long = ap (λ b. cond b (Err (record { name = TooLong; number = 0 })) (of_json (json_of bytes))) long

pub content_of-short : (bytes : List ℕ) (d : Option Data) → nat_lt DOCUMENT_LIMIT (length bytes) ≡ false → json_of bytes ≡ d → content_of bytes ≡ of_json d
content_of-short bytes d short is =
    ap (λ b. cond b (Err (record { name = TooLong; number = 0 })) (of_json (json_of bytes))) short ∙ ap of_json is

pub content_of-no-json : (bytes : List ℕ) → nat_lt DOCUMENT_LIMIT (length bytes) ≡ false → json_of bytes ≡ None
    → content_of bytes ≡ Err (record { name = NotJson; number = 0 })
content_of-no-json bytes short none = content_of-short bytes None short none

pub content_of-bad : (bytes : List ℕ) (d : Data) (name : FaultName) → nat_lt DOCUMENT_LIMIT (length bytes) ≡ false → json_of bytes ≡ Some d → document_in d ≡ Err name
    → content_of bytes ≡ Err (record { name = name; number = 0 })
content_of-bad bytes d name short is bad =
    content_of-short bytes (Some d) short is ∙ ap (λ r. in_unit 0 r >>= λ own. under (arch_of d) (policy_of d) own.0 (commands_from (arch_of d) 1 nothing_made own.1)) bad

pub content_of-good : (bytes : List ℕ) (d : Data) (own : ℕ × Items) → nat_lt DOCUMENT_LIMIT (length bytes) ≡ false → json_of bytes ≡ Some d → document_in d ≡ Ok own
    → content_of bytes ≡ under (arch_of d) (policy_of d) own.0 (commands_from (arch_of d) 1 nothing_made own.1)
content_of-good bytes d own short is good =
    content_of-short bytes (Some d) short is ∙ ap (λ r. in_unit 0 r >>= λ own. under (arch_of d) (policy_of d) own.0 (commands_from (arch_of d) 1 nothing_made own.1)) good
