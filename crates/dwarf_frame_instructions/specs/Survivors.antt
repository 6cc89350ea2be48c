-- What of a program still counts after some of its effects (DWARF 5, 6.4.2.4). A list of effects has the latest first.
--
-- A state that is remembered is open until it is restored. Each restore is matched with the latest remember that is open, and
-- what is between the two no longer counts.
use Rattle.std.specs.Prelude.{ℕ, zero, suc, ◌-◌, List, [], ◌∷◌}
use Rattle.dwarf_frame_rows.specs.declared.effect.Effect.{Effect}
use Rattle.dwarf_frame_rows.specs.declared.effect.Effect.TheVariants.{Remember, Restore}

-- what an effect does to the states that are open
pub data Mark : Type 0 where
  Opens : Mark
  Closes : Mark
  Writes : Mark

-- a remember opens one, a restore closes the latest, and all else writes to the row
abbrev pub mark_of : {T : Type 0} → Effect T → Mark
mark_of Remember = Opens
mark_of Restore = Closes
mark_of _ = Writes

-- how many states are open
abbrev pub open_states : {T : Type 0} → List (Effect T) → ℕ
open_states [] = 0
open_states (e ∷ executed) = elim (mark_of e) [
  | Opens ↦ suc (open_states executed)
  | Closes ↦ open_states executed - 1
  | Writes ↦ open_states executed
]

-- what survives of the effects before the nth latest remember that is open, and of all for 0: reading back, a restore takes out
-- all up to the remember that it is matched with
abbrev pub survivors : {T : Type 0} → ℕ → List (Effect T) → List (Effect T)
survivors n [] = []
survivors n (e ∷ executed) = elim (mark_of e) [
  | Opens ↦ elim n [ zero ↦ survivors zero executed | suc m ↦ survivors m executed ]
  | Closes ↦ survivors (suc n) executed
  | Writes ↦ elim n [ zero ↦ e ∷ survivors zero executed | suc m ↦ survivors (suc m) executed ]
]
