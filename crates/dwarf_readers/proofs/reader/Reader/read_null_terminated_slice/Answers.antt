use Rattle.dwarf_readers.proofs.Places.{split_found, skip_found}
use Rattle.dwarf_readers.proofs.reader.Reader.read_null_terminated_slice.Goals as goal

pub returns-in_err-string-clause-read : goal.returns-in_err-string-clause-read
returns-in_err-string-clause-read g c = absurd (split_found _ _ _ c.in_ok-len.ensures c.in_err-string.ensures.read)

pub returns-in_err-skip-clause-read : goal.returns-in_err-skip-clause-read
returns-in_err-skip-clause-read g c = absurd (skip_found _ _ _ _ _ _ c.in_ok-len.ensures c.in_ok-string.ensures.read c.from_u8.ensures c.in_err-skip.ensures.moved)

pub returns-in_err-skip-clause-unchanged : goal.returns-in_err-skip-clause-unchanged
returns-in_err-skip-clause-unchanged g c = absurd (skip_found _ _ _ _ _ _ c.in_ok-len.ensures c.in_ok-string.ensures.read c.from_u8.ensures c.in_err-skip.ensures.moved)
