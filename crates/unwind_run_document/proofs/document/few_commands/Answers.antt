use Rattle.std.proofs.Common.{◌≡◌, ◌≤◌, ◌<◌, List, Ok, Err, cond, length, true, false, sym, ap, ◌∙◌, arith}
use Rattle.std.specs.Prelude.{nat_le}
use Rattle.std.proofs.lemmas.Bool.{le-leb, lt-leb}
use Rattle.serde_json.proofs.Views.{items_len-items_view}
use Rattle.serde_json.specs.Events.{items_len}
use Rattle.serde_json.specs.View.{items_view}
use Rattle.serde_json.specs.declared.value.Value.{Value}
use Rattle.json_program.specs.declared.fault.FaultName.TheVariants.{BadDocument}
use Rattle.unwind_run_document.specs.Document.{few_commands}
use Rattle.unwind_run_document.specs.declared.document.TheConstants.{COMMAND_LIMIT}
use Rattle.unwind_run_document.proofs.document.few_commands.Goals as goal

many : (vs : List Value) → COMMAND_LIMIT < length vs → Err BadDocument ≡ few_commands (items_view vs)
unfolding few_commands
many vs h =
    let not_few : nat_le (items_len (items_view vs)) COMMAND_LIMIT ≡ false = ap (λ n. nat_le n COMMAND_LIMIT) (items_len-items_view vs) ∙ lt-leb _ _ h in
    ap (λ b. cond b (Ok (items_view vs)) (Err BadDocument)) (sym not_few)

few : (vs : List Value) → length vs ≤ COMMAND_LIMIT → Ok (items_view vs) ≡ few_commands (items_view vs)
unfolding few_commands
few vs h =
    let is_few : nat_le (items_len (items_view vs)) COMMAND_LIMIT ≡ true = ap (λ n. nat_le n COMMAND_LIMIT) (items_len-items_view vs) ∙ le-leb _ _ h in
    ap (λ b. cond b (Ok (items_view vs)) (Err BadDocument)) (sym is_few)

pub returns-then-len-gt-COMMAND_LIMIT : goal.returns-then-len-gt-COMMAND_LIMIT
returns-then-len-gt-COMMAND_LIMIT c = many c.args.items.now.items (omega (arith, c.args.items.now.ok.0))

pub returns : goal.returns
returns c = few c.args.items.now.items (omega (arith, c.args.items.now.ok.0))
