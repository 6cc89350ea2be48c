use Rattle.std.proofs.Common.{◌≡◌, ◌∙◌, ℕ, suc, ◌+◌, ◌-◌, List, [], ◌∷◌, ◌++◌, map, Bool, ap, sym, arith}
use Rattle.std.specs.Prelude.{◌&&◌, Option}
use Rattle.std.proofs.lemmas.List.{map-append}
use Rattle.framehop_loads.specs.UnwindData.{UnwindData}
use Rattle.framehop_registers.specs.declared.code_address.FrameAddress.{FrameAddress}
use Rattle.framehop_unwinder.specs.ByNumber.{is_held}
use Rattle.framehop_unwinder.specs.Frames.{Frame, frame_of}
use Rattle.framehop_unwinder.specs.IdViews.{cache_number, modules_by, unwinder_number}
use Rattle.framehop_unwinder.specs.Modules.{Loaded, Loads}
use Rattle.framehop_unwinder.specs.State.{unwinder_at}
use Rattle.framehop_unwinder.specs.WalkViews.{walk_of}
use Rattle.sample_stacks.specs.SampleFrames.{behind, frames_from, frames_of}
use Rattle.sample_stacks.specs.SampleWalks.{advanced_by, advanced_in}
use Rattle.sample_stacks.specs.WalkViews.{next_seen}
use Rattle.sample_stacks.specs.declared.frames.TheConstants.{MOST_FRAMES}
use Rattle.sample_stacks.proofs.FrameLaws.{ends, gives-up, goes-on, held-still}
use Rattle.sample_stacks.proofs.frames.push_frames.Goals as goal

pub next_frame-requires : goal.next_frame-requires
next_frame-requires g c =
    let old = c.args.session.now in
    let l = c.loop in
    ap (λ (us : List (Option (Loads (Loaded UnwindData)))). is_held us (unwinder_number c.args.unwinder) && is_held l.session.caches (cache_number c.args.cache)) l.invariant.unwinders
    ∙ ap (λ (b : Bool). is_held old.unwinders (unwinder_number c.args.unwinder) && b) (held-still l.session.caches old.caches (cache_number c.args.cache) l.invariant.caches)
    ∙ c.requires

pub loop-preserved : goal.loop-preserved
loop-preserved g c =
    let samples = g.A.SampleArch.samples in
    let copy = c.args.copy.now in
    let l = c.loop in
    let modules = modules_by c.args.session.now c.args.unwinder in
    let code = g.C.ProcessCode.code c.args.code.now in
    let moved = advanced_by samples modules copy code in
    let made = advanced_in samples l.session c.args.unwinder copy code l.walk in
    let is : made ≡ moved (walk_of l.walk) =
    ap (λ (us : List (Option (Loads (Loaded UnwindData)))). advanced_by samples (unwinder_at us (unwinder_number c.args.unwinder)).modules copy code (walk_of l.walk)) l.invariant.unwinders in
    let one-more : MOST_FRAMES - l.counter ≡ suc (MOST_FRAMES - (l.counter + 1)) = omega (arith, c.loop-test.true) in
    let all = behind (map frame_of c.args.frames.now.items) (frames_of samples modules copy code c.args.start.now) in
    let left = MOST_FRAMES - (l.counter + 1) in
    let next = walk_of c.next_frame.new.walk in
    record {
      unwinders = c.next_frame.ensures.session.unwinders ∙ l.invariant.unwinders;
      caches = c.next_frame.ensures.session.caches ∙ l.invariant.caches;
      passed = ap (λ (frames : List Frame). behind frames (frames_from copy.start moved left next))
          (ap (λ (addresses : List FrameAddress). map frame_of addresses) c.in_ok-push-in-Frame.ensures.items ∙ map-append frame_of l.frames.items (c.in-Frame.address ∷ []))
          ∙ goes-on copy.start moved all (map frame_of l.frames.items) (MOST_FRAMES - l.counter) (walk_of l.walk) l.invariant.passed
          left (frame_of c.in-Frame.address) next made one-more is (sym (ap next_seen c.in-Frame.is) ∙ c.next_frame.ensures.next.next_is) c.next_frame.ensures.next.walk_is;
    }

pub returns-in-End : goal.returns-in-End
returns-in-End g c =
    let samples = g.A.SampleArch.samples in
    let copy = c.args.copy.now in
    let l = c.loop in
    let modules = modules_by c.args.session.now c.args.unwinder in
    let code = g.C.ProcessCode.code c.args.code.now in
    let moved = advanced_by samples modules copy code in
    let made = advanced_in samples l.session c.args.unwinder copy code l.walk in
    let is : made ≡ moved (walk_of l.walk) =
    ap (λ (us : List (Option (Loads (Loaded UnwindData)))). advanced_by samples (unwinder_at us (unwinder_number c.args.unwinder)).modules copy code (walk_of l.walk)) l.invariant.unwinders in
    let one-more : MOST_FRAMES - l.counter ≡ suc (MOST_FRAMES - (l.counter + 1)) = omega (arith, c.loop-test.true) in
    let all = behind (map frame_of c.args.frames.now.items) (frames_of samples modules copy code c.args.start.now) in
    record {
      frames = ends copy.start moved all (map frame_of l.frames.items) (MOST_FRAMES - l.counter) (walk_of l.walk) l.invariant.passed
          (MOST_FRAMES - (l.counter + 1)) c.in-End.end made one-more is (sym (ap next_seen c.in-End.is) ∙ c.next_frame.ensures.next.next_is);
      session = record {
        unwinders = c.next_frame.ensures.session.unwinders ∙ l.invariant.unwinders;
        caches = c.next_frame.ensures.session.caches ∙ l.invariant.caches;
      };
    }

pub returns : goal.returns
returns g c =
    let samples = g.A.SampleArch.samples in
    let copy = c.args.copy.now in
    let l = c.loop in
    let modules = modules_by c.args.session.now c.args.unwinder in
    let code = g.C.ProcessCode.code c.args.code.now in
    let moved = advanced_by samples modules copy code in
    let all = behind (map frame_of c.args.frames.now.items) (frames_of samples modules copy code c.args.start.now) in
    let over : MOST_FRAMES - l.counter ≡ 0 = omega (arith, c.loop-test.false) in
    record {
      frames = gives-up copy.start moved all (map frame_of l.frames.items) (MOST_FRAMES - l.counter) (walk_of l.walk) l.invariant.passed over;
      session = record { unwinders = l.invariant.unwinders; caches = l.invariant.caches };
    }
