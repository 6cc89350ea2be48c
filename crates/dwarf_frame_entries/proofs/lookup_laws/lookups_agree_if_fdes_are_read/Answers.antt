use Rattle.dwarf_frame_entries.proofs.LookupLaws.{lookups_agree}
use Rattle.dwarf_frame_entries.proofs.lookup_laws.lookups_agree_if_fdes_are_read.Goals as goal

pub returns : goal.returns
returns c section address all = lookups_agree section address all
