-- From what a command is answered: states that differ in generations and in what caches keep alone.
use Rattle.std.specs.Prelude.{◌≡◌, map, Option, option_map}
use Rattle.framehop_unwinder.specs.Attempt.{Meanings}
use Rattle.framehop_unwinder.specs.ByNumber.{marks}
use Rattle.framehop_histories.specs.Commands.{Act, CommandState, Reply, reply_to}
use Rattle.framehop_histories.specs.StateAfter.{state_after}

-- Two states with the same modules, numbers of caches, next number and walks. Generations and what caches keep may differ.
pub record AreAlike {Data Registers : Type 0} (one other : CommandState Data Registers) : Type 0 where
  pub modules : map (option_map (λ loads. loads.modules)) one.model.unwinders ≡ map (option_map (λ loads. loads.modules)) other.model.unwinders
  pub caches : marks one.model.histories ≡ marks other.model.histories
  pub next : one.model.next ≡ other.model.next
  pub walks : one.walks ≡ other.walks

-- each command has the same reply from both
abbrev pub HaveSameReplies : {Data Rule Registers : Type 0} → Meanings Data Rule Registers → CommandState Data Registers
    → CommandState Data Registers → Type 0
HaveSameReplies {Data} {Rule} {Registers} m one other = (act : Act Data Registers) → reply_to m act one ≡ reply_to m act other

-- after each command with the same reply they are alike still
abbrev pub StayAlike : {Data Rule Registers : Type 0} → Meanings Data Rule Registers → CommandState Data Registers
    → CommandState Data Registers → Type 0
StayAlike {Data} {Rule} {Registers} m one other =
    (act : Act Data Registers) (reply : Option (Reply Registers)) → AreAlike (state_after m act one reply) (state_after m act other reply)
