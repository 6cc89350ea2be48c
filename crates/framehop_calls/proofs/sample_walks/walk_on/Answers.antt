use Rattle.std.proofs.Common.{◌≡◌, ◌∙◌, ap, refl, subst, sym, take}
use Rattle.framehop_registers.specs.Callback.{read_answer}
use Rattle.framehop_calls.specs.Samples.{words_of}
use Rattle.framehop_calls.specs.SampleWalks.{WalksOver, through, walk_at, walk_end, walk_in}
use Rattle.framehop_calls.specs.declared.sample_walks.WalkEnd.{WalkEnd}
use Rattle.framehop_calls.specs.declared.sample_walks.WalkPlace.{WalkPlace}
use Rattle.framehop_calls.proofs.Calls.{is_done}
use Rattle.framehop_calls.proofs.RunWalks.{run_keeps, run_made, walks}
use Rattle.framehop_calls.proofs.StillCallback.{answers_while}
use Rattle.framehop_calls.proofs.sample_walks.walk_on.Goals as goal

pub unwrap-run-requires : goal.unwrap-run-requires
unwrap-run-requires g c = is_done _ c.run_steps-made.result _ _ c.requires c.run_steps-made.ensures.found

-- its steps are the judge's over the words that are known
pub returns-clause-walked : goal.returns-clause-walked
returns-clause-walked g c =
    let t = through g.A.ModuleUnwinding.meanings c.args.unwinder c.args.cache c.args.sample.now in
    let run = c.unwrap-run.result in
    let made = c.run_steps-made.new in
    let old = walk_in (walk_at c.args.at c.args.walk.now.regs) c.args.session.now in
    let frames = take run.count made.frames in
    let ran = run_made _ _ _ c.run_steps-made.result run c.run_steps-made.new.frames c.unwrap-run.ensures c.run_steps-made.ensures.runs in
    subst (λ (end : WalkEnd). WalksOver t old frames end (walk_in (record { place = c.place_after-walk.result; regs = made.regs }) made.self)) (sym c.end_of.ensures)
    (subst (λ (place : WalkPlace). WalksOver t old frames (walk_end run.end) (walk_in (record { place = place; regs = made.regs }) made.self)) (sym c.place_after-walk.ensures)
    (walks _ _ g.A.ModuleUnwinding.meanings c.args.unwinder c.args.cache c.args.sample.now c.args.at c.args.walk.now.regs _ c.args.session.now frames run.end made.at made.regs _ made.self ran
    (answers_while _ _ _ (λ state. state.0.now ≡ c.args.sample.now) refl (λ state next at r fits holds read. ap (λ s. s.0.now) read.met.1 ∙ holds)
    (λ state next at r fits holds read. subst (λ s. r ≡ read_answer (words_of s at)) holds read.met.0))))

pub returns-clause-session : goal.returns-clause-session
returns-clause-session g c =
    let run = c.unwrap-run.result in
    run_keeps _ _ g.A.ModuleUnwinding.meanings c.args.unwinder c.args.cache _ (take run.count c.run_steps-made.new.frames) run.end _
    (run_made _ _ _ c.run_steps-made.result run c.run_steps-made.new.frames c.unwrap-run.ensures c.run_steps-made.ensures.runs)
