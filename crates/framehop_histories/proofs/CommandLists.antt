-- A list of commands while some of it is left: what those are answered completes the answers of the whole list.
use Rattle.std.proofs.Common.{◌≡◌, ◌∙◌, ℕ, ◌++◌, Bool, List, [], ◌∷◌, Option, ap, sym, subst, refl, map}
use Rattle.std.specs.List.{All}
use Rattle.std.proofs.lemmas.List.{append-nil, map_push}
use Rattle.std.proofs.lemmas.List.Elements.{recursion_from_All, All-from_recursion}
use Rattle.framehop_registers.specs.Callback.{Words}
use Rattle.framehop_unwinder.specs.Attempt.{Meanings}
use Rattle.framehop_unwinder.specs.History.{HaveHistories}
use Rattle.framehop_unwinder.specs.State.{SessionState}
use Rattle.framehop_unwinder.specs.Walk.{Walk}
use Rattle.framehop_histories.specs.Commands.{Act, CommandState, Reply}
use Rattle.framehop_histories.specs.StateAfter.{state_after}
use Rattle.framehop_histories.specs.Replies.{AreReplies, state_after_all}
use Rattle.framehop_histories.specs.CommandViews.{OfCallback, act_of, reply_of}
use Rattle.framehop_histories.specs.Performs.{IsIn, IsObeyed, PerformsFrom}
use Rattle.framehop_histories.specs.declared.commands.Answer.{Answer}
use Rattle.framehop_histories.specs.declared.commands.Command.{Command}

push-append : {X : Type 0} (xs ys : List X) (y : X) → (xs ++ y ∷ []) ++ ys ≡ xs ++ y ∷ ys
push-append [] ys y = refl
push-append (x ∷ xs) ys y = ap (λ zs. x ∷ zs) (push-append xs ys y)

pub all-parts : {X : Type 0} (P : X → Type 0) (xs ys : List X) (x : X) → ys ≡ x ∷ xs → All P ys → P x × All P xs
all-parts P xs ys x is all =
    let parts = recursion_from_All P (x ∷ xs) (subst (All P) is all) in (parts.0, All-from_recursion P xs parts.1)

-- A list that has come to a session and walks from a state: the replies to what is left complete those of the whole list, and so
-- with the state.
pub record SoFar {D R Regs : Type 0} (takes : Bool) (asks : D → ℕ → Bool → Type 0) (m : Meanings D R Regs) (first : CommandState D Regs) (begun now : SessionState D R) (walks : List (Walk Regs))
    (all left : List (Act D Regs)) (replies : List (Option (Reply Regs))) : Type 0 where
  pub state : CommandState D Regs
  pub is : IsIn state now walks
  pub histories : HaveHistories first.model.histories begun.caches → HaveHistories state.model.histories now.caches
  pub told : (rest : List (Option (Reply Regs))) → AreReplies takes asks m state left rest → AreReplies takes asks m first all (replies ++ rest)
  pub after : (rest : List (Option (Reply Regs))) → state_after_all m first all (replies ++ rest) ≡ state_after_all m state left rest

module _ {D R Regs : Type 0} (takes : Bool) (asks : D → ℕ → Bool → Type 0) (m : Meanings D R Regs) where
  -- after one command more
  one-more : (first : CommandState D Regs) (begun now next : SessionState D R) (walks after : List (Walk Regs)) (all left rest : List (Act D Regs)) (act : Act D Regs) (reply : Option (Reply Regs)) (replies more : List (Option (Reply Regs)))
      → left ≡ act ∷ rest → more ≡ replies ++ reply ∷ [] → ((state : CommandState D Regs) → IsIn state now walks → IsObeyed takes asks m act state now reply next after)
      → SoFar takes asks m first begun now walks all left replies → SoFar takes asks m first begun next after all rest more
  one-more first begun now next walks after all left rest act reply replies more is pushed obeys so_far =
      let here = so_far.state in
      let obeyed = obeys here so_far.is in
      let there = state_after m act here reply in
      record {
        state = there;
        is = obeyed.state;
        histories = λ have. obeyed.histories (so_far.histories have);
        told = λ others right.
            let right_here : AreReplies takes asks m here left (reply ∷ others) = rw is (obeyed.reply, right) in
            rw (pushed, push-append replies others reply) (so_far.told (reply ∷ others) right_here);
        after = λ others.
            let on : state_after_all m here left (reply ∷ others) ≡ state_after_all m there rest others = rw is refl in
            rw (pushed, push-append replies others reply) (so_far.after (reply ∷ others) ∙ on);
      }

-- A list that has come so far, by whatever words its callbacks answer: those of what is left answer by them still.
pub record IsUnderWay {D R Regs C F : Type 0} (takes : Bool) (asks : D → ℕ → Bool → Type 0) (m : Meanings D R Regs) (answers_by : F → Words → Type 0) (begun now : SessionState D R) (walks : List (Walk Regs))
    (all left : List (Command D C Regs F)) (answers : List (Answer Regs)) : Type 0 where
  pub said : (words : F → Words) → All (OfCallback (λ callback. answers_by callback (words callback))) all → All (OfCallback (λ callback. answers_by callback (words callback))) left
  pub come : (words : F → Words) → All (OfCallback (λ callback. answers_by callback (words callback))) all → (state : CommandState D Regs) → IsIn state begun []
      → SoFar takes asks m state begun now walks (map (act_of words) all) (map (act_of words) left) (map reply_of answers)

module _ {D R Regs C F : Type 0} (takes : Bool) (asks : D → ℕ → Bool → Type 0) (m : Meanings D R Regs) (answers_by : F → Words → Type 0) (begun : SessionState D R) (all : List (Command D C Regs F)) where
  -- before the first command
  pub starts-out : (walks : List (Walk Regs)) (answers : List (Answer Regs)) → walks ≡ [] → answers ≡ [] → IsUnderWay takes asks m answers_by begun begun walks all all answers
  starts-out walks answers no_walks no_answers = rw (no_walks, no_answers) (record {
    said = λ words said. said;
    come = λ words said state is. record { state = state; is = is; histories = λ have. have; told = λ rest right. right; after = λ rest. refl };
  })

  -- after one command more
  pub goes-on : (now next : SessionState D R) (walks after : List (Walk Regs)) (command : Command D C Regs F) (left rest : List (Command D C Regs F)) (answer : Answer Regs) (answers more : List (Answer Regs))
      → left ≡ command ∷ rest → more ≡ answers ++ answer ∷ []
      → ((words : F → Words) → OfCallback (λ callback. answers_by callback (words callback)) command → (state : CommandState D Regs) → IsIn state now walks → IsObeyed takes asks m (act_of words command) state now (reply_of answer) next after)
      → IsUnderWay takes asks m answers_by begun now walks all left answers → IsUnderWay takes asks m answers_by begun next after all rest more
  goes-on now next walks after command left rest answer answers more is pushed obeys u = record {
    said = λ words said. (all-parts (OfCallback (λ callback. answers_by callback (words callback))) rest left command is (u.said words said)).1;
    come = λ words said state in_state.
        one-more takes asks m state begun now next walks after (map (act_of words) all) (map (act_of words) left) (map (act_of words) rest) (act_of words command) (reply_of answer) (map reply_of answers) (map reply_of more)
        (ap (map (act_of words)) is) (ap (map reply_of) pushed ∙ map_push reply_of answers answer)
        (obeys words (all-parts (OfCallback (λ callback. answers_by callback (words callback))) rest left command is (u.said words said)).0)
        (u.come words said state in_state);
  }

  -- after the last
  pub is-performed : (now : SessionState D R) (walks : List (Walk Regs)) (left : List (Command D C Regs F)) (answers : List (Answer Regs)) → left ≡ [] → IsUnderWay takes asks m answers_by begun now walks all left answers
      → (words : F → Words) → All (OfCallback (λ callback. answers_by callback (words callback))) all → (state : CommandState D Regs) → IsIn state begun []
      → PerformsFrom takes asks m state begun (map (act_of words) all) now (map reply_of answers)
  is-performed now walks left answers none u words said state is =
      let so_far = u.come words said state is in
      let here = so_far.state in
      let replies = map reply_of answers in
      let acts = map (act_of words) all in
      let right : AreReplies takes asks m here (map (act_of words) left) [] = rw none tt in
      let over : state_after_all m here (map (act_of words) left) [] ≡ here = rw none refl in
      let last : state_after_all m state acts replies ≡ here = rw (append-nil replies) at (so_far.after [] ∙ over) in
      record {
        replies = rw (append-nil replies) at (so_far.told [] right);
        state = subst (λ (st : CommandState D Regs). IsIn st now st.walks) (sym last) (record { unwinders = so_far.is.unwinders; next = so_far.is.next; caches = so_far.is.caches; walks = refl });
        histories = λ have. subst (λ (st : CommandState D Regs). HaveHistories st.model.histories now.caches) (sym last) (so_far.histories have);
      }
