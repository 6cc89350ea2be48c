-- Listings, entry by entry.
use Rattle.std.proofs.Common.{◌≡◌, ℕ, List, ◌∷◌, Result, Ok, ap}
use Rattle.dwarf_constants.specs.declared.error.Error.{Error}
use Rattle.dwarf_frame_entries.specs.Entries.{AnyEntry}
use Rattle.frame_table.specs.Entries.{Setting, listed_part}
use Rattle.frame_table.specs.Listing.{after_part, listing_from}

-- an entry and those after it
pub goes_on : (s : Setting) (offset : ℕ) (entries rest : List (Result AnyEntry Error)) (entry : AnyEntry) → entries ≡ Ok entry ∷ rest
    → listing_from s offset entries ≡ after_part (listed_part s entry) (listing_from s (listed_part s entry).end rest)
goes_on s offset entries rest entry list = ap (listing_from s offset) list
