-- The text of a walk over a stack of a process that is left, move by move.
use Rattle.std.proofs.Common.{◌≡◌, ℕ, zero, suc, ◌+◌, ◌-◌, ◌<◌, ◌≤◌, List, [], ◌++◌, refl, sym, ap, ◌∙◌, arith}
use Rattle.backtrace_json.specs.Forms.{end_part}
use Rattle.backtrace_text.specs.declared.ends.WalkEnd.{WalkEnd}
use Rattle.backtrace_text.specs.declared.ends.WalkEnd.TheVariants.{LimitReached}
use Rattle.backtrace_walks.specs.Backtraces.{course_move, shown_frame}
use Rattle.backtrace_walks.specs.CourseViews.{IsCourseMove, course_of}
use Rattle.backtrace_walks.specs.ProcessViews.{process_seen, walked_text}
use Rattle.backtrace_walks.specs.StackMeanings.{StackMeanings}
use Rattle.backtrace_walks.specs.StackTexts.{walk_text}
use Rattle.backtrace_walks.specs.WalkedViews.{frame_seen, next_seen}
use Rattle.backtrace_walks.specs.Walks.{Course, course_from}
use Rattle.backtrace_walks.specs.declared.backtraces.BacktraceOptions.{BacktraceOptions}
use Rattle.backtrace_walks.specs.declared.backtraces.CoreProcess.{CoreProcess}
use Rattle.backtrace_walks.specs.declared.courses.ThreadWalk.{ThreadWalk}
use Rattle.backtrace_walks.specs.declared.registers.ThreadStart.{ThreadStart}
use Rattle.backtrace_walks.specs.declared.walks.NextFrame.{NextFrame}
use Rattle.backtrace_walks.specs.declared.walks.NextFrame.TheVariants.{Frame, End}
use Rattle.backtrace_walks.specs.declared.walks.WalkedFrame.{WalkedFrame}
use Rattle.backtrace_walks.proofs.WalkLaws.{begins, ends, goes_on, lines_left, reaches_limit}

module _ {Rule R : Type 0} (stacks : StackMeanings Rule R) (process : CoreProcess) (options : BacktraceOptions) where
  -- the text from a frame of this number on
  abbrev pub text_left : ℕ → Course R → List ℕ
  text_left number course =
      let seen = process_seen process in
      lines_left options.form (course_move stacks seen) (shown_frame stacks seen options.frames) number (options.limit - number) course

  -- a course that begins here is where a move left it, and the move gave this
  abbrev pub IsMoved : NextFrame R → ThreadWalk R → ThreadWalk R → Type 0
  IsMoved next old new = IsCourseMove next new (course_move stacks (process_seen process) (course_of old))

  -- nothing is written yet
  pub begins_at : (course : ThreadWalk R) (start : ThreadStart R) → course_of course ≡ course_from start
      → text_left 0 (course_of course) ≡ walk_text stacks (process_seen process) options start
  begins_at course start begun =
      let seen = process_seen process in
      begins options.form (course_move stacks seen) (shown_frame stacks seen options.frames) (options.limit - 0) options.limit (course_of course) (course_from start) (omega arith) begun

  -- a move that gives a frame
  pub frame_next : (number : ℕ) (old new : ThreadWalk R) (next : NextFrame R) (frame : WalkedFrame R) → number < options.limit → next ≡ Frame frame → IsMoved next old new
      → text_left number (course_of old) ≡ walked_text stacks process options number frame ++ text_left (number + 1) (course_of new)
  frame_next number old new next frame within is moved =
      let seen = process_seen process in
      let one_more : options.limit - number ≡ suc (options.limit - (number + 1)) = omega arith in
      goes_on options.form (course_move stacks seen) (shown_frame stacks seen options.frames) number _ _ (course_of old) (course_of new) (frame_seen frame)
      (shown_frame stacks seen options.frames (frame_seen frame)) one_more (ap (λ (n : NextFrame R). record { next = next_seen n; course = course_of new }) (sym is) ∙ moved) refl

  -- a move that gives the end
  pub end_next : (number : ℕ) (old new : ThreadWalk R) (next : NextFrame R) (end : WalkEnd) → number < options.limit → next ≡ End end → IsMoved next old new
      → text_left number (course_of old) ≡ end_part options.form end ++ []
  end_next number old new next end within is moved =
      let seen = process_seen process in
      let one_more : options.limit - number ≡ suc (options.limit - (number + 1)) = omega arith in
      ends options.form (course_move stacks seen) (shown_frame stacks seen options.frames) number _ _ (course_of old) (course_of new) end one_more
      (ap (λ (n : NextFrame R). record { next = next_seen n; course = course_of new }) (sym is) ∙ moved)

  -- no move is left
  pub limit_next : (number : ℕ) (course : ThreadWalk R) → options.limit ≤ number → text_left number (course_of course) ≡ end_part options.form LimitReached ++ []
  limit_next number course over =
      let seen = process_seen process in
      let none : options.limit - number ≡ zero = omega arith in
      reaches_limit options.form (course_move stacks seen) (shown_frame stacks seen options.frames) number (options.limit - number) (course_of course) none
