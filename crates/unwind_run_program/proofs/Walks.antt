-- Walks, move by move: what is written so far, and what the moves that are left write.
use Rattle.std.proofs.Common.{◌≡◌, ℕ, zero, suc, List, [], ◌++◌, Bool, true, false, cond, Option, Some, None, refl, sym, ap, subst, ◌∙◌, append_assoc}
use Rattle.std.proofs.lemmas.List.{append-nil}
use Rattle.std.specs.Prelude.{codes}
use Rattle.json_program.specs.Lines.{line}
use Rattle.framehop_registers.specs.Callback.{Words}
use Rattle.framehop_unwinder.specs.Attempt.{Meanings}
use Rattle.framehop_unwinder.specs.History.{HaveHistories}
use Rattle.framehop_unwinder.specs.Progress.{SessionModel, IsAt}
use Rattle.framehop_unwinder.specs.State.{SessionState}
use Rattle.framehop_unwinder.specs.Walk.{Walk}
use Rattle.framehop_histories.specs.Commands.{Act, NewWalk, NextFrame, CommandState, Reply}
use Rattle.framehop_histories.specs.Performs.{IsIn, IsObeyed}
use Rattle.framehop_histories.specs.StateAfter.{state_after}
use Rattle.unwind_run_program.specs.Outputs.{IsAppendedFor, IsOutput, gives_frame, line_for, move_lines, moves_after, next_state, output_of_walk, without_walks}
use Rattle.unwind_run_program.proofs.Texts.{is-in}

-- What is written so far, and what the moves that are left write and leave, make what the whole walk writes and leaves.
pub record SoFar {D R Regs : Type 0} (m : Meanings D R Regs) (act : Act D Regs) (limit : ℕ) (first : CommandState D Regs) (left : ℕ) (session : SessionState D R) (walks : List (Walk Regs)) (text : List ℕ) : Type 0 where
  pub state : CommandState D Regs
  pub is : IsIn state session walks
  pub have : HaveHistories state.model.histories session.caches
  pub lines : text ++ move_lines m act left state ≡ move_lines m act limit first
  pub after : moves_after m act left state ≡ moves_after m act limit first

-- What is written after a move, with what follows if it gave a frame, is what the whole walk writes; and so with the state.
pub record AfterMove {D R Regs : Type 0} (m : Meanings D R Regs) (act : Act D Regs) (limit : ℕ) (first : CommandState D Regs) (left : ℕ) (given : Bool) (session : SessionState D R) (walks : List (Walk Regs)) (text : List ℕ) : Type 0 where
  pub state : CommandState D Regs
  pub is : IsIn state session walks
  pub have : HaveHistories state.model.histories session.caches
  pub lines : text ++ cond given (move_lines m act left state) [] ≡ move_lines m act limit first
  pub after : cond given (moves_after m act left state) state ≡ moves_after m act limit first

module _ {D R Regs : Type 0} (takes : Bool) (asks : D → ℕ → Bool → Type 0) (m : Meanings D R Regs) (act : Act D Regs) (limit : ℕ) where
  -- nothing is written yet
  pub begins : (first : CommandState D Regs) (session : SessionState D R) (walks : List (Walk Regs)) (text : List ℕ)
      → IsIn first session walks → HaveHistories first.model.histories session.caches → text ≡ [] → SoFar m act limit first limit session walks text
  begins first session walks text is have none = record {
    state = first;
    is = is;
    have = have;
    lines = ap (λ (xs : List ℕ). xs ++ move_lines m act limit first) none;
    after = refl;
  }

  -- a move more, whose line is written
  pub after_move : (first : CommandState D Regs) (before left : ℕ) (old new : SessionState D R) (walks moved : List (Walk Regs)) (reply : Option (Reply Regs)) (given : Bool) (text more : List ℕ)
      → before ≡ suc left → SoFar m act limit first before old walks text
      → ((state : CommandState D Regs) → IsIn state old walks → IsObeyed takes asks m act state old reply new moved)
      → IsAppendedFor reply given text more
      → AfterMove m act limit first left given new moved more
  after_move first before left old new walks moved None given text more one_more so_far obeys appended = absurd appended
  after_move first before left old new walks moved (Some reply) given text more one_more so_far_before obeys appended =
      let so_far = subst (λ (n : ℕ). SoFar m act limit first n old walks text) one_more so_far_before in
      let here = so_far.state in
      let o = obeys here so_far.is in
      let there = state_after m act here (Some reply) in
      let written : Reply Regs → List ℕ = λ r. text ++ (line_for r ++ cond (gives_frame r) (move_lines m act left (state_after m act here (Some r))) []) in
      let left_after : Reply Regs → CommandState D Regs = λ r. cond (gives_frame r) (moves_after m act left (state_after m act here (Some r))) (state_after m act here (Some r)) in
      let rest = move_lines m act left there in
      record {
        state = there;
        is = o.state;
        have = o.histories so_far.have;
        lines =
            ap (λ (xs : List ℕ). xs ++ cond given rest []) appended.1
            ∙ ap (λ (b : Bool). (text ++ line_for reply) ++ cond b rest []) appended.0
            ∙ append_assoc text (line_for reply) (cond (gives_frame reply) rest [])
            ∙ ap written o.reply
            ∙ so_far.lines;
        after = ap (λ (b : Bool). cond b (moves_after m act left there) there) appended.0 ∙ ap left_after o.reply ∙ so_far.after;
      }

  -- a frame more
  pub goes_on : (first : CommandState D Regs) (left : ℕ) (given : Bool) (session : SessionState D R) (walks : List (Walk Regs)) (text : List ℕ)
      → AfterMove m act limit first left given session walks text → given ≡ true → SoFar m act limit first left session walks text
  goes_on first left given session walks text moved gave =
      let so_far = subst (λ (b : Bool). AfterMove m act limit first left b session walks text) gave moved in
      record { state = so_far.state; is = so_far.is; have = so_far.have; lines = so_far.lines; after = so_far.after }

  at-state : (state last : CommandState D Regs) (session : SessionState D R) (walks : List (Walk Regs)) → IsIn state session walks → HaveHistories state.model.histories session.caches → state ≡ last → IsAt last.model session
  at-state state last session walks is have same =
      subst (λ (s : CommandState D Regs). IsAt s.model session) same (record { unwinders = is.unwinders; next = is.next; histories = have })

-- the state of a new walk
pub walk-begun : {D R Regs : Type 0} (takes : Bool) (asks : D → ℕ → Bool → Type 0) (m : Meanings D R Regs) (pc : ℕ) (regs : Regs) (model : SessionModel D) (session : SessionState D R) (walks : List (Walk Regs)) (reply : Reply Regs)
    → ((state : CommandState D Regs) → IsIn state session [] → IsObeyed takes asks m (NewWalk pc regs) state session (Some reply) session walks)
    → IsAt model session → IsIn (next_state m (NewWalk pc regs) (without_walks model)) session walks
walk-begun {D} {R} {Regs} takes asks m pc regs model session walks reply obeys at =
    let o = obeys (without_walks model) (is-in model session at) in
    subst (λ (r : Reply Regs). IsIn (state_after m (NewWalk pc regs) (without_walks model) (Some r)) session walks) o.reply o.state

module _ {D R Regs : Type 0} (m : Meanings D R Regs) (words : Words) (limit unwinder cache pc : ℕ) (regs : Regs) (model : SessionModel D) where
  -- a move that gives no frame ends the walk
  pub stops : (left : ℕ) (given : Bool) (session : SessionState D R) (walks : List (Walk Regs)) (text more : List ℕ) (refused : Bool)
      → AfterMove m (NextFrame unwinder cache 0 words) limit (next_state m (NewWalk pc regs) (without_walks model)) left given session walks text → given ≡ false
      → more ≡ text → refused ≡ false
      → IsOutput (output_of_walk m words limit unwinder cache pc regs model) more refused session
  stops left given session walks text more refused moved gave same carried =
      let act = NextFrame unwinder cache 0 words in
      let first = next_state m (NewWalk pc regs) (without_walks model) in
      let so_far = subst (λ (b : Bool). AfterMove m act limit first left b session walks text) gave moved in
      record {
        text = same ∙ sym (append-nil text) ∙ so_far.lines;
        is_refused = carried;
        model = at-state false (λ given_ relative kind. ⊥) m act limit so_far.state (moves_after m act limit first) session walks so_far.is so_far.have so_far.after;
      }

  -- no move is left
  pub reaches_limit : (session : SessionState D R) (walks : List (Walk Regs)) (text more : List ℕ) (refused : Bool)
      → SoFar m (NextFrame unwinder cache 0 words) limit (next_state m (NewWalk pc regs) (without_walks model)) zero session walks text
      → more ≡ text ++ line (codes "limit") → refused ≡ false
      → IsOutput (output_of_walk m words limit unwinder cache pc regs model) more refused session
  reaches_limit session walks text more refused so_far added carried = record {
    text = added ∙ so_far.lines;
    is_refused = carried;
    model = at-state false (λ given_ relative kind. ⊥) m (NextFrame unwinder cache 0 words) limit so_far.state (moves_after m (NextFrame unwinder cache 0 words) limit (next_state m (NewWalk pc regs) (without_walks model))) session walks so_far.is so_far.have so_far.after;
  }
