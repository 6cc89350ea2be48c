use Rattle.std.proofs.Common.{rules}
use Rattle.dwarf_frame_entries.proofs.section.UnwindSection.cie_from_offset.Goals as goal

pub returns-in_err-cie : goal.returns-in_err-cie
returns-in_err-cie g c = rw (g.met.Self._UnwindSectionPrivate.framed c.args.self.now c.args.bases.now) (search rules)

pub returns-in-Some-Cie : goal.returns-in-Some-Cie
returns-in-Some-Cie g c = rw (g.met.Self._UnwindSectionPrivate.framed c.args.self.now c.args.bases.now) (search rules)

pub returns-in-Some-Fde : goal.returns-in-Some-Fde
returns-in-Some-Fde g c = rw (g.met.Self._UnwindSectionPrivate.framed c.args.self.now c.args.bases.now) (search rules)

pub returns-in-None : goal.returns-in-None
returns-in-None g c = rw (g.met.Self._UnwindSectionPrivate.framed c.args.self.now c.args.bases.now) (search rules)
