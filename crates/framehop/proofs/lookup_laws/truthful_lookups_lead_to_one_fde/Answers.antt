use Rattle.framehop.proofs.TruthfulLookups.{fits-64, lead-to-one}
use Rattle.framehop.proofs.lookup_laws.truthful_lookups_lead_to_one_fde.Goals as goal

pub returns : goal.returns
returns c a fits = lead-to-one a.h a.truthful.truthful a.relative a.fde (fits-64 fits) a.found.listed a.found.contained
