-- What overlaps are, not how they are found.
use Rattle.std.specs.Prelude.{◌≡◌, ℕ, ◌<◌, ◌≤◌, min, max, nat_lt, if◌then◌else◌, Bool, List, [], ◌∷◌, ◌++◌, All, Contains, filter_map}
use Rattle.std.specs.List.{list_any}
use Rattle.backtrace_lint.specs.Overlaps.{in_order, spanned}
use Rattle.backtrace_lint.specs.declared.fdes.ListedFde.{ListedFde}
use Rattle.backtrace_lint.specs.declared.overlaps.Overlap.{Overlap}
use Rattle.backtrace_lint.specs.declared.overlaps.SpannedFde.{SpannedFde}

-- an address is one of an FDE's code
abbrev pub HasAddress : SpannedFde → (address : ℕ) → Type 0
HasAddress fde address = (fde.start ≤ address) × (address < fde.end)

-- there is an address that two FDEs have in common
abbrev pub Share : SpannedFde → SpannedFde → Type 0
Share fde other = (address : ℕ) × HasAddress fde address × HasAddress other address

-- whether there is one: the later of their starts is below the earlier of their ends
abbrev pub shares : SpannedFde → SpannedFde → Bool
shares fde other = nat_lt (max fde.start other.start) (min fde.end other.end)

-- the FDEs of a section whose code has an address, in the order of their starts
abbrev pub ordered : List ListedFde → List SpannedFde
ordered fdes = in_order (filter_map spanned fdes)

-- each FDE of a list that shares an address with one before it, where some FDEs are before the list
abbrev pub sharing_after : (before fdes : List SpannedFde) → List SpannedFde
sharing_after before [] = []
sharing_after before (fde ∷ fdes) = (if list_any (shares fde) before then fde ∷ [] else []) ++ sharing_after (before ++ fde ∷ []) fdes

-- .. where none are
abbrev pub sharing : List SpannedFde → List SpannedFde
sharing fdes = sharing_after [] fdes

-- An overlap's second is an FDE of a list, and its first is one of those before it, of which none ends further. The two share an address.
pub record IsOverlapIn (fdes : List SpannedFde) (overlap : Overlap) : Type 0 where
  pub before : List SpannedFde
  pub after : List SpannedFde
  pub second : fdes ≡ before ++ overlap.second ∷ after
  pub first : Contains before overlap.first
  pub furthest : All (λ fde. fde.end ≤ overlap.first.end) before
  pub common : Share overlap.first overlap.second
