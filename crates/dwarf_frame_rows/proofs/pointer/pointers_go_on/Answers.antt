use Rattle.dwarf_frame_rows.proofs.Onward.{encoding_on, plain_value_on, pointer_on, value_on}
use Rattle.dwarf_frame_rows.proofs.pointer.pointers_go_on.Goals as goal

pub returns : goal.returns
returns c = record {
  encoding = encoding_on;
  value = value_on;
  pointer = pointer_on;
  plain_value = plain_value_on;
}
