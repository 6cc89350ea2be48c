use Rattle.std.proofs.Common.{rules}
use Rattle.dwarf_frame_entries.proofs.section.UnwindSection.partial_fde_from_offset.Goals as goal

pub returns-in_err-parse_entry : goal.returns-in_err-parse_entry
returns-in_err-parse_entry g c = rw (g.met.Self._UnwindSectionPrivate.framed c.args.self.now c.args.bases.now) (search rules)

pub returns-in-Some-Cie : goal.returns-in-Some-Cie
returns-in-Some-Cie g c = rw (g.met.Self._UnwindSectionPrivate.framed c.args.self.now c.args.bases.now) (search rules)

pub returns-in-Some-Fde : goal.returns-in-Some-Fde
returns-in-Some-Fde g c = rw (g.met.Self._UnwindSectionPrivate.framed c.args.self.now c.args.bases.now) (search rules)

pub returns-in-None : goal.returns-in-None
returns-in-None g c = rw (g.met.Self._UnwindSectionPrivate.framed c.args.self.now c.args.bases.now) (search rules)
