-- Slots, and what goes by numbers, as contracts see them.
use Rattle.std.specs.Prelude.{ℕ, List, Option}
use Rattle.framehop_unwinder.specs.ByNumber.{AreNumbered, by_number_of}
use Rattle.framehop_unwinder.specs.declared.numbered.Numbered.{Numbered}

-- the values by their numbers
abbrev pub by_number : {X : Type 0} → Numbered X → List (Option X)
by_number slots = by_number_of slots.numbers.items slots.values.items slots.next

-- each slot has a number of its own, which was given already
abbrev pub IsNumbered : {X : Type 0} → Numbered X → Type 0
IsNumbered slots = AreNumbered slots.numbers.items slots.values.items slots.next
