-- Lists of sets and of addresses, by their first.
use Rattle.std.proofs.Common.{◌≡◌, ℕ, ◌+◌, ◌-◌, [], length, ◌==◌, true, Option, None, Result, Ok, refl, ap, arith}
use Rattle.dwarf_constants.specs.declared.error.Error.{Error}
use Rattle.dwarf_read_core.specs.AddressSets.{AddressSet, addresses_at, next_address, set_at, next_set, set_behind, set_step, sets_left}
use Rattle.dwarf_readers.specs.InitialLength.{address_at}
use Rattle.dwarf_readers.specs.Stretch.{Stretch}
use Rattle.dwarf_readers.specs.Remainder.{Takes, size_of}
use Rattle.dwarf_readers.proofs.Laws.{address_takes_one, initial_length_takes, item_takes, items_shrink, leaves_from, leaves_none, leaves_ok, leaves_then, split_takes}
use Rattle.list_laws.specs.Items.{GivesNext, LeavesNone, Shrinks, step_taken}
use Rattle.list_laws.proofs.Laws.{gives-next}

-- a set takes a byte at least
set_takes : (limit offset : ℕ) (s : Stretch) → Takes 1 s (set_at limit offset s)
set_takes limit offset s =
    leaves_then (initial_length_takes limit s) (λ length le.
    leaves_then {n = 1} (leaves_from (split_takes length.0.0 length.1) (omega arith)) (λ part less.
    leaves_then {n = 0} (leaves_none (set_behind offset length.0.0 length.0.1 part.0)) (λ set _. leaves_ok less)))

sets_shrink : (limit size : ℕ) → Shrinks size_of (set_step limit size)
sets_shrink limit size =
    items_shrink (set_step limit size) (λ s. item_takes 1 (set_at limit (size - length s.bytes)) s (set_takes limit (size - length s.bytes) s))

addresses_shrink : (size : ℕ) → Shrinks size_of (next_address size)
addresses_shrink size = items_shrink (next_address size) (λ s. item_takes 1 (address_at size) s (address_takes_one size s))

-- the next set is the first of those that are left
pub sets-next : {X : Type 0} (limit size : ℕ) (view : X → AddressSet) (result : Result (Option X) Error) (s rest : Stretch)
    → set_step limit size s ≡ step_taken view result rest → LeavesNone result (set_step limit size rest)
    → GivesNext view result (sets_left limit size s) (sets_left limit size rest)
unfolding sets_left
sets-next limit size view result s rest is none = gives-next size_of (set_step limit size) (sets_shrink limit size) view result s rest is none

-- where no bytes are left no set is
pub sets-none : (limit size : ℕ) (s : Stretch) → (length s.bytes == 0) ≡ true → sets_left limit size s ≡ []
sets-none limit size s empty =
    let none : set_step limit size s ≡ Ok None = rw empty refl in
    (sets-next limit size (λ (set : AddressSet). set) (Ok None) s s none none).0

-- the step where the next set is at this offset
pub set_step-here : (limit offset : ℕ) (s : Stretch) → set_step limit (offset + length s.bytes) s ≡ next_set limit offset s
set_step-here limit offset s =
    let start : (offset + length s.bytes) - length s.bytes ≡ offset = omega arith in
    ap (λ (o : ℕ). next_set limit o s) start

-- the next address likewise
pub addresses-next : (size : ℕ) (result : Result (Option ℕ) Error) (s rest : Stretch)
    → next_address size s ≡ step_taken (λ a. a) result rest → LeavesNone result (next_address size rest)
    → GivesNext (λ a. a) result (addresses_at size s) (addresses_at size rest)
unfolding addresses_at
addresses-next size result s rest is none = gives-next size_of (next_address size) (addresses_shrink size) (λ a. a) result s rest is none
