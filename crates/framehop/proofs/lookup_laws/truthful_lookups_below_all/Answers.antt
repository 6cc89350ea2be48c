use Rattle.framehop.proofs.TruthfulLookups.{fits-64, header-above, index-none, scan-none}
use Rattle.framehop.proofs.lookup_laws.truthful_lookups_below_all.Goals as goal

pub returns : goal.returns
returns c a = record {
  by_header = header-above a.h a.truthful.truthful a.relative (fits-64 a.fits) a.below;
  by_index = index-none a.h a.truthful.truthful a.relative (fits-64 a.fits) a.below;
  by_scan = scan-none a.h a.truthful.truthful a.relative (fits-64 a.fits) a.below;
}
