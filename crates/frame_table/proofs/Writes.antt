-- Listings that are written: to their ends, or up to an error.
use Rattle.std.proofs.Common.{◌≡◌, ℕ, List, Bool, Option, Result, Ok, Err}
use Rattle.std.specs.Prelude.{IsErr}
use Rattle.std.specs.Io.KnownBytes.{Appends}
use Rattle.json_program.specs.Stream.{AppendsPrefix}
use Rattle.json_program.specs.declared.status.RunError.{RunError}
use Rattle.frame_table.specs.EntryWrites.{WritesListing}
use Rattle.frame_table.specs.Listing.{Listing}

-- a call that fails after it wrote a prefix of a listing's text
pub stops_after : (result : Result Bool RunError) (old new : Option (List ℕ)) (listing : Listing) → IsErr result → AppendsPrefix old new listing.text
    → WritesListing listing old new result
stops_after (Ok is_whole) old new listing failed begun = absurd cc
stops_after (Err error) old new listing failed begun = record { text = record { whole = tt; prefix = begun }; is_whole = tt }

-- a call that wrote a listing's text, and returns whether it has the whole section
pub ends_as : (is_whole : Bool) (old new : Option (List ℕ)) (listing : Listing) → Appends old new listing.text → is_whole ≡ listing.is_whole
    → WritesListing {E = RunError} listing old new (Ok is_whole)
ends_as is_whole old new listing written same = record { text = record { whole = written; prefix = tt }; is_whole = same }
