-- The text of a walk that is left, move by move.
use Rattle.std.proofs.Common.{◌≡◌, ℕ, zero, suc, ◌+◌, List, [], ◌++◌, map, sym, ap, ◌∙◌, append_assoc}
use Rattle.std.proofs.lemmas.List.{append-nil}
use Rattle.backtrace_json.specs.Forms.{end_part, frame_part, frames_part}
use Rattle.backtrace_json.specs.declared.forms.TextForm.{TextForm}
use Rattle.backtrace_text.specs.Frames as seen
use Rattle.backtrace_text.specs.declared.ends.WalkEnd.{WalkEnd}
use Rattle.backtrace_text.specs.declared.ends.WalkEnd.TheVariants.{LimitReached}
use Rattle.backtrace_walks.specs.StackTexts.{stack_text}
use Rattle.backtrace_walks.specs.Walks.{Course, CourseMove, Ends, FrameWith, Reaches, frames_by, stack_from}

module _ {R : Type 0} (form : TextForm) (moved : Course R → CourseMove R) (shown : FrameWith R → seen.Frame) where
  -- the text from a frame of this number on, with so many moves left
  abbrev pub lines_left : ℕ → ℕ → Course R → List ℕ
  lines_left number left course = stack_text form shown number (stack_from moved left course)

  -- that from what a move gave on
  abbrev lines_from : ℕ → ℕ → CourseMove R → List ℕ
  lines_from number left made = stack_text form shown number (frames_by made.next (stack_from moved left made.course))

  -- nothing is written yet
  pub begins : (left limit : ℕ) (course first : Course R) → left ≡ limit → course ≡ first → lines_left 0 left course ≡ lines_left 0 limit first
  begins left limit course first all begun = ap (λ (n : ℕ). lines_left 0 n course) all ∙ ap (lines_left 0 limit) begun

  -- a move that gives a frame, which is shown so
  pub goes_on : (number now left : ℕ) (course later : Course R) (frame : FrameWith R) (line : seen.Frame) → now ≡ suc left
      → record { next = Reaches frame; course = later } ≡ moved course → line ≡ shown frame
      → lines_left number now course ≡ frame_part form number line ++ lines_left (number + 1) left later
  goes_on number now left course later frame line one_more is same =
      let others = stack_from moved left later in
      ap (λ (n : ℕ). lines_left number n course) one_more
      ∙ ap (lines_from number left) (sym is)
      ∙ append_assoc (frame_part form number (shown frame)) (frames_part form (number + 1) (map shown others.frames)) (end_part form others.end)
      ∙ ap (λ (f : seen.Frame). frame_part form number f ++ lines_left (number + 1) left later) (sym same)

  -- a move that gives the end
  pub ends : (number now left : ℕ) (course later : Course R) (end : WalkEnd) → now ≡ suc left
      → record { next = Ends end; course = later } ≡ moved course → lines_left number now course ≡ end_part form end ++ []
  ends number now left course later end one_more is =
      ap (λ (n : ℕ). lines_left number n course) one_more ∙ ap (lines_from number left) (sym is) ∙ sym (append-nil (end_part form end))

  -- no move is left
  pub reaches_limit : (number now : ℕ) (course : Course R) → now ≡ zero → lines_left number now course ≡ end_part form LimitReached ++ []
  reaches_limit number now course none = ap (λ (n : ℕ). lines_left number n course) none ∙ sym (append-nil (end_part form LimitReached))
