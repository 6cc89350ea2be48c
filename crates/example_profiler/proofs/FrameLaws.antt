-- The frames of a walk, one after the other.
use Rattle.std.proofs.Common.{◌≡◌, ◌∙◌, ℕ, suc, List, [], ◌∷◌, ◌++◌, Bool, true, false, Some, None, Ok, Err, refl, sym, ap, append_assoc}
use Rattle.std.proofs.lemmas.List.{append-nil}
use Rattle.framehop_registers.specs.Callback.{Words}
use Rattle.framehop_registers.specs.declared.error.Error.{Error}
use Rattle.framehop_unwinder.specs.Frames.{Frame}
use Rattle.framehop_unwinder.specs.Walk.{Judgment, Move, Walk, move}
use Rattle.example_profiler.specs.Stacks.{FrameList, frames_by, frames_from, no_frames}

-- frames with these addresses before them
abbrev pub behind : List ℕ → FrameList → FrameList
behind addresses frames = record { addresses = addresses ++ frames.addresses; is_complete = frames.is_complete }

-- no frame but those that were passed
alone : (addresses : List ℕ) (is_complete : Bool) → record { addresses = addresses; is_complete = is_complete } ≡ behind addresses (no_frames is_complete)
alone addresses is_complete = ap (λ (xs : List ℕ). record { addresses = xs; is_complete = is_complete }) (sym (append-nil addresses))

module _ {Registers : Type 0} (judgment : Judgment Registers) (words : Words) (walk : Walk Registers) where
  -- the frames of a walk begin with what its next move gives
  more : (left : ℕ) → frames_from judgment words (suc left) walk
      ≡ frames_by (move judgment words walk).answer (frames_from judgment words left (move judgment words walk).walk)
  unfolding frames_from
  more left = refl

  none : frames_from judgment words 0 walk ≡ no_frames false
  unfolding frames_from
  none = refl

module _ {Registers : Type 0} (judgment : Judgment Registers) (words : Words) (all : FrameList) (addresses : List ℕ) (before left : ℕ) (walk : Walk Registers)
    (one-more : before ≡ suc left) (passed : behind addresses (frames_from judgment words before walk) ≡ all) where
  -- what is left, by the next move
  by-move : (made : Move Registers) → made ≡ move judgment words walk → behind addresses (frames_by made.answer (frames_from judgment words left made.walk)) ≡ all
  by-move made is =
      ap (λ (m : Move Registers). behind addresses (frames_by m.answer (frames_from judgment words left m.walk))) is
      ∙ ap (behind addresses) (sym (more judgment words walk left))
      ∙ ap (λ (n : ℕ). behind addresses (frames_from judgment words n walk)) (sym one-more) ∙ passed

  -- one frame more is passed
  pub goes-on : (frame : Frame) (next : Walk Registers) (more : List ℕ) → record { answer = Ok (Some frame); walk = next } ≡ move judgment words walk
      → more ≡ addresses ++ frame.address ∷ [] → behind more (frames_from judgment words left next) ≡ all
  goes-on frame next more is added =
      let rest = frames_from judgment words left next in
      ap (λ (xs : List ℕ). behind xs rest) added
      ∙ ap (λ (xs : List ℕ). record { addresses = xs; is_complete = rest.is_complete }) (append_assoc addresses (frame.address ∷ []) rest.addresses)
      ∙ by-move (record { answer = Ok (Some frame); walk = next }) is

  -- the stack ends
  pub ends : (next : Walk Registers) → record { answer = Ok None; walk = next } ≡ move judgment words walk → record { addresses = addresses; is_complete = true } ≡ all
  ends next is = alone addresses true ∙ by-move (record { answer = Ok None; walk = next }) is

  -- no step is known
  pub breaks : (error : Error) (next : Walk Registers) → record { answer = Err error; walk = next } ≡ move judgment words walk
      → record { addresses = addresses; is_complete = false } ≡ all
  breaks error next is = alone addresses false ∙ by-move (record { answer = Err error; walk = next }) is

-- there are as many as are looked for
pub gives-up : {Registers : Type 0} (judgment : Judgment Registers) (words : Words) (all : FrameList) (addresses : List ℕ) (left : ℕ) (walk : Walk Registers)
    → left ≡ 0 → behind addresses (frames_from judgment words left walk) ≡ all → record { addresses = addresses; is_complete = false } ≡ all
gives-up judgment words all addresses left walk is passed =
    alone addresses false ∙ ap (behind addresses) (sym (none judgment words walk))
    ∙ ap (λ (n : ℕ). behind addresses (frames_from judgment words n walk)) (sym is) ∙ passed

-- none is passed yet
pub begins : (frames : FrameList) (addresses : List ℕ) → addresses ≡ [] → behind addresses frames ≡ frames
begins frames addresses is = ap (λ (xs : List ℕ). behind xs frames) is
