use Rattle.std.proofs.Common.{rules, ◌≡◌, ◌<◌, ◌≤◌, ◌+◌, ℕ, List, ◌∷◌, length, take, ap, refl, subst, sym, arith}
use Rattle.framehop_unwinder.specs.IdViews.{modules_by}
use Rattle.framehop_unwinder.specs.Judge.{judge}
use Rattle.framehop_calls.specs.Samples.{words_of}
use Rattle.framehop_calls.specs.SampleWalks.{WalksAs, WalksOver, through, walk_at, walk_in, walk_of}
use Rattle.framehop_calls.specs.declared.sample_walks.WalkPlace.{WalkPlace}
use Rattle.framehop_calls.specs.declared.sample_walks.Walked.{Walked}
use Rattle.framehop_calls.proofs.Moves.{begins, counts-start}
use Rattle.framehop_calls.proofs.RunWalks.{first-then, stays-over}
use Rattle.framehop_calls.proofs.sample_walks.walk_by_known.Goals as goal

pub returns-then-is_empty-clause-walked : goal.returns-then-is_empty-clause-walked
returns-then-is_empty-clause-walked g c =
    let t = through g.A.ModuleUnwinding.meanings c.args.unwinder c.args.cache c.args.sample.now in
    let walk = c.args.walk.now in
    let session = c.args.session.now in
    subst (λ (made : Walked). WalksAs t walk session made c.args.frames.now walk session) (sym c.nothing_walked.ensures) (walk_in walk session, refl, (refl, refl))

pub returns-in-Over-clause-walked : goal.returns-in-Over-clause-walked
returns-in-Over-clause-walked g c =
    let t = through g.A.ModuleUnwinding.meanings c.args.unwinder c.args.cache c.args.sample.now in
    let walk = c.args.walk.now in
    let session = c.args.session.now in
    subst (λ (made : Walked). WalksAs t walk session made c.args.frames.now walk session) (sym c.nothing_walked-in-Over.ensures)
    (walk_in walk session, refl, stays-over t walk.place walk.regs session c.in-Over.is)

pub returns-in-At-clause-walked : goal.returns-in-At-clause-walked
returns-in-At-clause-walked g c =
    let t = through g.A.ModuleUnwinding.meanings c.args.unwinder c.args.cache c.args.sample.now in
    let made = c.walk_on.new in
    subst (λ (at : WalkPlace). WalksAs t (record { place = at; regs = c.args.walk.now.regs }) c.args.session.now c.walk_on.result made.frames made.walk made.session)
    (sym c.in-At.is) c.walk_on.ensures.walked

-- the first frame is the instruction pointer
pub returns-in-Starts-clause-walked : goal.returns-in-Starts-clause-walked
returns-in-Starts-clause-walked g c =
    let m = g.A.ModuleUnwinding.meanings in
    let t = through m c.args.unwinder c.args.cache c.args.sample.now in
    let walk = c.args.walk.now in
    let session = c.args.session.now in
    let pc = c.in-Starts.pc in
    let first = c.from_instruction_pointer-first.result in
    let walked = c.walk_on-walked in
    let start = walk_at first walk.regs in
    let some : 0 < length c.args.frames.now = search rules in
    let fits : walked.result.count ≤ length walked.new.frames = let room = walked.ensures.written.room in let same = walked.auto.frames in omega (arith, room, same) in
    subst (λ (frames : List ℕ). WalksOver t (walk_in walk session) frames walked.result.end (walk_in walked.new.walk walked.new.session))
    (sym (first-then c.args.frames.now walked.new.frames _ pc walked.result.count some fits)) (
      walked.ensures.walked.0,
      (
        walk_in start session,
        (
          begins (judge m (modules_by session c.args.unwinder)) (words_of c.args.sample.now) walk.place walk.regs pc first c.in-Starts.is c.from_instruction_pointer-first.ensures,
          counts-start t walk.place walk.regs session (walk_of start) pc c.in-Starts.is,
        ),
        walked.ensures.walked.1,
      ),
      walked.ensures.walked.2,
    )
