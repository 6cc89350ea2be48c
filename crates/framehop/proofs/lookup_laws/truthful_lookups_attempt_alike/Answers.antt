use Rattle.framehop.proofs.TruthfulLookups.{index-alike-contained, scan-alike}
use Rattle.framehop.proofs.lookup_laws.truthful_lookups_attempt_alike.Goals as goal

pub returns : goal.returns
returns g c limits a = record {
  by_index = λ first. index-alike-contained a.h a.truthful.truthful a.relative g.A.DwarfUnwinding.rows limits a.bases a.truthful.same first a.fde a.found.listed a.found.contained;
  by_scan = λ first. scan-alike a.h a.truthful.truthful a.relative g.A.DwarfUnwinding.rows limits a.bases a.truthful.same first a.fde a.found.listed a.found.contained;
}
