-- The listing of a section.
use Rattle.std.specs.Prelude.{ℕ, ◌&&◌, Bool, true, false, List, [], ◌∷◌, ◌++◌, Result, Ok, Err}
use Rattle.dwarf_constants.specs.declared.error.Error.{Error}
use Rattle.dwarf_frame_entries.specs.Entries.{AnyEntry}
use Rattle.dwarf_frame_entries.specs.EntryLists.{entries_of}
use Rattle.frame_table.specs.Entries.{Part, Setting, fault_text, listed_part}

-- a text, and whether it has all of a section, without a fault
pub record Listing : Type 0 where
  pub text : List ℕ
  pub is_whole : Bool

-- the text of an entry, and after it the listing of the others
abbrev pub after_part : Part → Listing → Listing
after_part part others = record { text = part.text ++ others.text; is_whole = part.is_whole && others.is_whole }

-- the listing of entries, of which the first is at an offset; only an error in place of an entry, which is the last, ends it
abbrev pub listing_from : Setting → ℕ → List (Result AnyEntry Error) → Listing
listing_from s offset [] = record { text = []; is_whole = true }
listing_from s offset (Err e ∷ rest) = record { text = fault_text e offset; is_whole = false }
listing_from s offset (Ok entry ∷ rest) = after_part (listed_part s entry) (listing_from s (listed_part s entry).end rest)

-- the listing of a section
abbrev pub listing_of : Setting → Listing
listing_of s = listing_from s s.section.within.bytes.offset (entries_of s.section)
