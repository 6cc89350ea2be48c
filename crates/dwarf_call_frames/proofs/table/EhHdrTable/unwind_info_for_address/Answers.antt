use Rattle.std.proofs.Common.{false}
use Rattle.std.proofs.lemmas.Result.{err_from_is_err_and}
use Rattle.dwarf_frame_entries.proofs.Laws.{found-with-memory}
use Rattle.dwarf_call_frames.specs.HeaderEntries.{eh_frame_in}
use Rattle.dwarf_call_frames.proofs.HeaderMemory.{header_lookup_memory}
use Rattle.dwarf_call_frames.proofs.NamedEntries.{row-of-fde, row-refused}
use Rattle.dwarf_call_frames.proofs.table.EhHdrTable.unwind_info_for_address.Goals as goal

pub returns-in_err-fde : goal.returns-in_err-fde
returns-in_err-fde g c =
    let section = eh_frame_in g.R.Reader.stretch g.R.Offset.ReaderOffset.limit c.args.frame.now c.args.bases.now in
    let from = err_from_is_err_and c.from_residual.result c.from_residual.ensures.1 in
    record {
      row = λ may_allocate same. rw (from.1, from.2) (row-refused _ section c.args.frame.now.vendor c.args.bases.now c.args.self.now c.args.address _ may_allocate c.in_err-fde.field-0.0 (c.in_err-fde.ensures may_allocate same));
      memory = λ fixed same. rw (from.1, from.2) (found-with-memory (header_lookup_memory section c.args.bases.now c.args.self.now c.args.address) c.in_err-fde.field-0.0 (c.in_err-fde.ensures false same));
    }

pub returns : goal.returns
returns g c =
    let section = eh_frame_in g.R.Reader.stretch g.R.Offset.ReaderOffset.limit c.args.frame.now c.args.bases.now in
    record {
      row = λ may_allocate same. row-of-fde _ section c.args.frame.now.vendor c.args.bases.now c.args.self.now c.args.address g.R.Offset.ReaderOffset.value _ may_allocate c.in_ok-fde.fde
          c.unwind_info_for_address.result (c.in_ok-fde.ensures may_allocate same) c.unwind_info_for_address.ensures.row;
      memory = λ fixed same. c.unwind_info_for_address.ensures.memory fixed;
    }
