-- The entry that a list of FDEs has for an address.
use Rattle.std.proofs.Common.{◌≡◌, ℕ, refl, cond, subst, Option, Some, None, Bool, List, [], ◌∷◌}
use Rattle.std.specs.Prelude.{nat_le}
use Rattle.std.specs.List.{All, filter, find}
use Rattle.std.proofs.lemmas.List.Elements.{All-head, All-tail}
use Rattle.list_laws.specs.Greatest.{greater_of}
use Rattle.list_laws.proofs.Laws.{by_case, first_greatest-cons}
use Rattle.dwarf_frame_entries.specs.Entries.{Fde}
use Rattle.dwarf_frame_entries.specs.SectionFdes.{nearest_fde}

-- what is found has what all have
pub find-has : {X : Type 0} (P : X → Type 0) (p : X → Bool) (xs : List X) (x : X) → All P xs → find p xs ≡ Some x → P x
find-has P p [] x all h = cc
find-has P p (y ∷ ys) x all h =
    by_case (p y)
    (λ is. let same : Some y ≡ Some x = rw is at h in let it : y ≡ x = cc in subst P it (All-head P y ys all))
    (λ is. find-has P p ys x (All-tail P y ys all) (rw is at h))

-- of two FDEs that stand for an address the one with the greater start, or the first
abbrev pub later_of : Option Fde → Option Fde → Option Fde
later_of first second = greater_of (λ fde. fde.initial_address) first second

-- the entry for an address among a list with one more at its front
pub indexed-cons : (address : ℕ) (f : Fde) (fs : List Fde)
    → nearest_fde address (f ∷ fs) ≡ later_of (cond (nat_le f.initial_address address) (Some f) None) (nearest_fde address fs)
indexed-cons address f fs =
    by_case (nat_le f.initial_address address)
    (λ is. rw is (first_greatest-cons (λ fde. fde.initial_address) f (filter (λ fde. nat_le fde.initial_address address) fs)))
    (λ is. rw is refl)
