-- FDEs that overlap: there is an address that the code of both contains.
use Rattle.std.specs.Prelude.{ℕ, nat_le, nat_lt, if◌then◌else◌, List, [], ◌∷◌, Option, Some, None, Result, Ok, Err}
use Rattle.std.specs.List.{cons_option, filter_map}
use Rattle.dwarf_constants.specs.declared.error.Error.{Error}
use Rattle.backtrace_lint.specs.declared.fdes.Code.{Code}
use Rattle.backtrace_lint.specs.declared.fdes.ListedFde.{ListedFde}
use Rattle.backtrace_lint.specs.declared.overlaps.Overlap.{Overlap}
use Rattle.backtrace_lint.specs.declared.overlaps.SpannedFde.{SpannedFde}

-- an FDE at an offset that can be read, if its code has an address
abbrev pub spanned_at : (offset : ℕ) → Result Code Error → Option SpannedFde
spanned_at offset (Ok code) =
    if nat_lt code.start code.end then Some (record { offset = offset; start = code.start; end = code.end }) else None
spanned_at offset (Err error) = None

-- an FDE of the list likewise
abbrev pub spanned : ListedFde → Option SpannedFde
spanned fde = spanned_at fde.offset fde.read

-- an FDE among others that are in the order of their starts: before those that start alike
abbrev pub among : SpannedFde → List SpannedFde → List SpannedFde
among fde [] = fde ∷ []
among fde (other ∷ others) = if nat_le fde.start other.start then fde ∷ other ∷ others else other ∷ among fde others

-- FDEs in the order of their starts, and of equal starts in their own order
abbrev pub in_order : List SpannedFde → List SpannedFde
in_order [] = []
in_order (fde ∷ fdes) = among fde (in_order fdes)

-- of two FDEs the one that ends further, or the first if both end alike
abbrev pub further : SpannedFde → SpannedFde → SpannedFde
further fde other = if nat_lt fde.end other.end then other else fde

-- the overlap of two FDEs of which the first doesn't start later, if there is one
abbrev pub overlap_if : SpannedFde → SpannedFde → Option Overlap
overlap_if first second = if nat_lt second.start first.end then Some (record { first = first; second = second }) else None

-- each FDE that overlaps one before it, with the one that ends furthest of those before it; of those before the first this one does
abbrev pub overlaps_from : SpannedFde → List SpannedFde → List Overlap
overlaps_from furthest [] = []
overlaps_from furthest (fde ∷ fdes) = cons_option (overlap_if furthest fde) (overlaps_from (further furthest fde) fdes)

-- .. of FDEs in the order of their starts
abbrev pub overlaps_in : List SpannedFde → List Overlap
overlaps_in [] = []
overlaps_in (fde ∷ fdes) = overlaps_from fde fdes

-- the FDEs of a section that overlap one before them in the order of their starts
abbrev pub overlaps_of : List ListedFde → List Overlap
overlaps_of fdes = overlaps_in (in_order (filter_map spanned fdes))
