use Rattle.std.proofs.Common.{◌≡◌, ◌∙◌, ap, refl, subst}
use Rattle.framehop_registers.specs.Callback.{read_answer}
use Rattle.framehop_calls.specs.Samples.{words_of}
use Rattle.framehop_calls.proofs.Calls.{both_if_done, if_ok}
use Rattle.framehop_calls.proofs.Notes.{notes_reads, on_ok}
use Rattle.framehop_calls.proofs.StillCallback.{answers_while}
use Rattle.framehop_calls.proofs.sample_steps.step_by_asked.Goals as goal

pub returns-clause-step : goal.returns-clause-step
returns-clause-step g c =
    both_if_done c.step.result _ _ _ (λ answer step stays. record { step = step; stays = stays })
    (c.step.ensures.step.said (words_of c.args.asked.now.sample.now)
    (answers_while _ _ _ (λ state. state.0.now.sample ≡ c.args.asked.now.sample) refl (λ state next at r fits holds read. read.met.1.1.0 ∙ holds)
    (λ state next at r fits holds read. subst (λ s. r ≡ read_answer (words_of s.now at)) holds read.met.1.0)))
    c.step.ensures.stays

pub returns-clause-memory : goal.returns-clause-memory
returns-clause-memory g c = if_ok c.step.result _ _ (λ answer wants never. wants.never never) c.step.ensures.memory

pub returns-clause-noted : goal.returns-clause-noted
returns-clause-noted g c =
    let answers = answers_while _ _ (words_of c.args.asked.now.sample.now) (λ state. state.0.now.sample ≡ c.args.asked.now.sample) refl
    (λ state next at r fits holds read. read.met.1.1.0 ∙ holds)
    (λ state next at r fits holds read. subst (λ s. r ≡ read_answer (words_of s.now at)) holds read.met.1.0) in
    on_ok c.step.result _ _
    (λ order none. notes_reads _ c.args.asked.now.sample.now (λ state. state.0.now.sample.now) (λ state. state.0.now.wanted) (λ state. state.0.ghost_name)
    (λ state next at r read. ap (λ s. s.now) read.met.1.1.0) (λ state next at r read. read.met.1.1.1.0) (λ state next at r read. read.met.1.1.1.1)
    _ _ _ _ refl answers order none (λ named. ap (λ a. a.wanted) (c.asked-1.given.1 named)))
    c.step.ensures.order
