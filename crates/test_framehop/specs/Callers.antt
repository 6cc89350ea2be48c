-- What a caller of a list of commands begins with, and what a caller of an iterator gets.
use Rattle.std.specs.Prelude.{ℕ, zero, suc, List, [], ◌∷◌, Option, Some, None, Result, Ok, Err}
use Rattle.framehop_histories.specs.Commands.{CommandState}
use Rattle.framehop_registers.specs.Callback.{Words}
use Rattle.framehop_registers.specs.declared.error.Error.{Error}
use Rattle.framehop_unwinder.specs.Frames.{Frame}
use Rattle.framehop_unwinder.specs.Walk.{Judgment, Walk, move}

-- nothing was made, and no number was taken
abbrev pub nothing : {Data Registers : Type 0} → CommandState Data Registers
nothing = record { model = record { unwinders = []; next = 0; histories = [] }; walks = [] }

-- the code address of the frame that a move gives, and then the others; none if it gives no frame
abbrev pub addresses_by : Result (Option Frame) Error → List ℕ → List ℕ
addresses_by (Ok (Some frame)) others = frame.address ∷ others
addresses_by (Ok None) others = []
addresses_by (Err error) others = []

-- the code addresses of the frames of a walk, up to so many
unfoldable pub addresses_from : {Registers : Type 0} → Judgment Registers → Words → ℕ → Walk Registers → List ℕ
addresses_from judgment words zero walk = []
addresses_from judgment words (suc left) walk =
    let moved = move judgment words walk in
    addresses_by moved.answer (addresses_from judgment words left moved.walk)
