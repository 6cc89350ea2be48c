-- What a run writes for a document: the listing of its section, or the line of its fault.
use Rattle.std.specs.Prelude.{ℕ, List, Bool, false, Result, Ok, Err, if◌then◌else◌}
use Rattle.json_program.specs.Faults.{fault_line}
use Rattle.json_program.specs.Lines.{line}
use Rattle.json_program.specs.declared.fault.Fault.{Fault}
use Rattle.frame_table.specs.Document.{Stated, stated_in}
use Rattle.frame_table.specs.Listing.{Listing, listing_of}
use Rattle.frame_table.specs.Located.{located_in, setting_of}
use Rattle.frame_table.specs.declared.program.Ending.{Ending}
use Rattle.frame_table.specs.declared.program.Ending.TheVariants.{Listed, Faulty}

-- the listing of a section that is stated, or the line of the document's fault
abbrev pub answer_to : Result Stated Fault → Listing
answer_to (Ok stated) = listing_of (setting_of (located_in stated))
answer_to (Err fault) = record { text = line (fault_line fault); is_whole = false }

-- what is written for the bytes of a document
abbrev pub text_of : List ℕ → List ℕ
text_of bytes = (answer_to (stated_in bytes)).text

-- how a run ends
abbrev pub ending_by : Bool → Ending
ending_by is_whole = if is_whole then Listed else Faulty

-- how the run of a document ends
abbrev pub ending_of : List ℕ → Ending
ending_of bytes = ending_by (answer_to (stated_in bytes)).is_whole
