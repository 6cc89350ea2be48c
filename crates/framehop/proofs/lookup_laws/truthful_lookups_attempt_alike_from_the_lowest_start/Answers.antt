use Rattle.framehop.proofs.TruthfulLookups.{index-alike, scan-from}
use Rattle.framehop.proofs.lookup_laws.truthful_lookups_attempt_alike_from_the_lowest_start.Goals as goal

pub returns : goal.returns
returns g c limits a = record {
  by_index = λ first. index-alike a.h a.truthful.truthful a.relative g.A.DwarfUnwinding.rows limits a.bases a.truthful.same first a.fde a.nearest;
  by_scan = λ within first. scan-from a.h a.truthful.truthful a.relative g.A.DwarfUnwinding.rows limits a.bases a.truthful.same first a.fde a.nearest within;
}
