use Rattle.std.specs.Bool.{one_answer}
use Rattle.std.proofs.lemmas.Bool.Decides.{Decides-eqb}
use Rattle.std.proofs.lemmas.Map.Made.{is_member-Decides}
use Rattle.dwarf_constants.specs.Pointer.{valid_encodings}
use Rattle.dwarf_frame_rows.specs.EncodedPointer.{is_encoding}
use Rattle.dwarf_frame_rows.proofs.pointer.is_known.Goals as goal

pub returns : goal.returns
unfolding is_encoding
returns c = one_answer _ _ c.is_valid_encoding.ensures (is_member-Decides Decides-eqb valid_encodings c.args.encoding.0)
