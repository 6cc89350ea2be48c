-- The frames of a walk, move by move.
use Rattle.std.proofs.Common.{◌≡◌, ◌∙◌, ℕ, zero, suc, List, [], ◌∷◌, ◌++◌, map, Bool, true, refl, sym, ap, append_assoc}
use Rattle.std.specs.Prelude.{◌&&◌, Option, Some, None, is_some, option_map}
use Rattle.std.proofs.lemmas.List.{append-nil}
use Rattle.framehop_loads.specs.UnwindData.{UnwindData}
use Rattle.framehop_unwinder.specs.ByNumber.{held, is_held, marks}
use Rattle.framehop_unwinder.specs.Frames.{Frame}
use Rattle.framehop_unwinder.specs.Walk.{Move, Walk}
use Rattle.sample_stacks.specs.SampleFrames.{SampleFrames, behind, frames_by, frames_from}
use Rattle.sample_stacks.specs.SampleWalks.{Ends, Next, Reaches, next_of}
use Rattle.sample_stacks.specs.declared.walks.WalkEnd.{WalkEnd}
use Rattle.sample_stacks.specs.declared.walks.WalkEnd.TheVariants.{Broken}

-- what is held under a number is so by the marks alone
marked : {X : Type 0} (values : List (Option X)) (number : ℕ) → is_held (marks values) number ≡ is_held values number
marked [] number = refl
marked (None ∷ values) zero = refl
marked (Some value ∷ values) zero = refl
marked (value ∷ values) (suc number) = marked values number

-- what was held is held still
pub held-still : {X : Type 0} (now before : List (Option X)) (number : ℕ) → marks now ≡ marks before → is_held now number ≡ is_held before number
held-still now before number same =
    sym (marked now number) ∙ ap (λ (ms : List (Option (Unit {0}))). is_held ms number) same ∙ marked before number

module _ {Registers : Type 0} (start : ℕ) (moved : Walk Registers → Move Registers) where
  more : (left : ℕ) (walk : Walk Registers) → frames_from start moved (suc left) walk
      ≡ frames_by (next_of start (moved walk).answer) (frames_from start moved left (moved walk).walk)
  unfolding frames_from
  more left walk = refl

  none : (walk : Walk Registers) → frames_from start moved 0 walk ≡ record { frames = []; end = Broken }
  unfolding frames_from
  none walk = refl

  module _ (all : SampleFrames) (passed : List Frame) (before : ℕ) (walk : Walk Registers) (so-far : behind passed (frames_from start moved before walk) ≡ all) where
    -- a frame, and those that are left
    pub goes-on : (left : ℕ) (frame : Frame) (next : Walk Registers) (made : Move Registers) → before ≡ suc left → made ≡ moved walk
        → Reaches frame ≡ next_of start made.answer → next ≡ made.walk → behind (passed ++ frame ∷ []) (frames_from start moved left next) ≡ all
    goes-on left frame next made one-more is reaches at =
        let rest = frames_from start moved left next in
        ap (λ (frames : List Frame). record { frames = frames; end = rest.end }) (append_assoc passed (frame ∷ []) rest.frames)
        ∙ ap (λ (n : Next). behind passed (frames_by n (frames_from start moved left next))) reaches
        ∙ ap (λ (w : Walk Registers). behind passed (frames_by (next_of start made.answer) (frames_from start moved left w))) at
        ∙ ap (λ (m : Move Registers). behind passed (frames_by (next_of start m.answer) (frames_from start moved left m.walk))) is
        ∙ ap (behind passed) (sym (more left walk)) ∙ ap (λ (n : ℕ). behind passed (frames_from start moved n walk)) (sym one-more) ∙ so-far

    -- the end
    pub ends : (left : ℕ) (end : WalkEnd) (made : Move Registers) → before ≡ suc left → made ≡ moved walk → Ends end ≡ next_of start made.answer
        → record { frames = passed; end = end } ≡ all
    ends left end made one-more is at-end =
        let rest = λ (m : Move Registers). frames_from start moved left m.walk in
        ap (λ (frames : List Frame). record { frames = frames; end = end }) (sym (append-nil passed))
        ∙ ap (λ (n : Next). behind passed (frames_by n (rest made))) at-end
        ∙ ap (λ (m : Move Registers). behind passed (frames_by (next_of start m.answer) (rest m))) is
        ∙ ap (behind passed) (sym (more left walk)) ∙ ap (λ (n : ℕ). behind passed (frames_from start moved n walk)) (sym one-more) ∙ so-far

    -- too many frames
    pub gives-up : before ≡ 0 → record { frames = passed; end = Broken } ≡ all
    gives-up over =
        ap (λ (frames : List Frame). record { frames = frames; end = Broken }) (sym (append-nil passed))
        ∙ ap (behind passed) (sym (none walk)) ∙ ap (λ (n : ℕ). behind passed (frames_from start moved n walk)) (sym over) ∙ so-far
