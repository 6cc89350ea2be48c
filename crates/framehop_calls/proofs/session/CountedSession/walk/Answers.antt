use Rattle.std.proofs.Common.{rules, ℕ, take, subst}
use Rattle.framehop_unwinder.specs.IdViews.{cache_number, unwinder_number}
use Rattle.framehop_unwinder.specs.State.{SessionState}
use Rattle.framehop_calls.specs.Samples.{words_of}
use Rattle.framehop_calls.specs.SampleSteps.{KeepsModules}
use Rattle.framehop_calls.specs.SampleWalks.{WalksOver, walk_in, walk_of}
use Rattle.framehop_calls.proofs.session.CountedSession.walk.Goals as goal

pub returns : goal.returns
returns g c =
    let walked = c.walk_in_sample-walked in
    let call = c.args.call.now in
    let State = SessionState g.row.A-UnwindData.Denot g.row.A-UnwindRule.Denot in
    let Goes : ℕ → ℕ → State → Type 0 = λ unwinder cache session.
    WalksOver (record { meanings = g.A.ModuleUnwinding.meanings; words = words_of c.args.sample.now; unwinder = unwinder; cache = cache })
    (walk_in call.walk session) (take walked.result.count walked.new.frames) walked.result.end (walk_in walked.new.walk walked.new.session) in
    record {
      made = λ there. record {
        made = walked.result;
        told = c.tell.ensures.told;
        written = λ j. record {
          unwinder = call.unwinder;
          cache = call.cache;
          walk = walk_of walked.new.walk;
          count = walked.result.count;
          word_address = c.tell.ensures.word j;
        };
        walk = subst (λ (n : ℕ). Goes n call.cache c.args.self.now) c.numbered-unwinder.ensures
            (subst (λ (n : ℕ). Goes (unwinder_number c.numbered-unwinder.result) n c.args.self.now) c.numbered-cache.ensures
            (subst (λ (session : State). Goes (unwinder_number c.numbered-unwinder.result) (cache_number c.numbered-cache.result) session)
            c.self.view_is walked.ensures.walked));
        frames = walked.ensures.written;
        needs = walked.ensures.needs;
        session = subst (λ (session : State). KeepsModules session walked.new.session) c.self.view_is walked.ensures.session;
      };
      told = search rules;
      session = search rules;
      call = search rules;
    }
