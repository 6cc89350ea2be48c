use Rattle.framehop_rows.specs.RowAttemptAarch64 as aarch64
use Rattle.framehop_rows.specs.RowAttemptX86_64 as x86_64
use Rattle.std.proofs.Common.{refl}
use Rattle.framehop.specs.StepMeanings.{formats_aarch64, formats_x86_64, meanings_aarch64, meanings_x86_64}
use Rattle.framehop.specs.TruthfulLookups.{headed_data, indexed_data, scanned_data}
use Rattle.framehop.proofs.SameSteps.{steps-follow}
use Rattle.framehop.proofs.TruthfulLookups.{index-alike-contained, scan-alike}
use Rattle.framehop.proofs.WithoutWays.{by-tables}
use Rattle.framehop.proofs.lookup_laws.truthful_lookups_step_alike.Goals as goal

pub returns-clause-x86_64 : goal.returns-clause-x86_64
returns-clause-x86_64 c limits a = record {
  by_index = steps-follow (meanings_x86_64 limits) a.relative (indexed_data a.bases a.h) (headed_data a.h)
      (by-tables formats_x86_64 limits a.relative (indexed_data a.bases a.h) (headed_data a.h) refl refl
      (λ first. index-alike-contained a.h a.truthful.truthful a.relative x86_64.rows limits a.bases a.truthful.same first a.fde a.found.listed a.found.contained));
  by_scan = steps-follow (meanings_x86_64 limits) a.relative (scanned_data a.bases a.h) (headed_data a.h)
      (by-tables formats_x86_64 limits a.relative (scanned_data a.bases a.h) (headed_data a.h) refl refl
      (λ first. scan-alike a.h a.truthful.truthful a.relative x86_64.rows limits a.bases a.truthful.same first a.fde a.found.listed a.found.contained));
}

pub returns-clause-aarch64 : goal.returns-clause-aarch64
returns-clause-aarch64 c limits a = record {
  by_index = steps-follow (meanings_aarch64 limits) a.relative (indexed_data a.bases a.h) (headed_data a.h)
      (by-tables formats_aarch64 limits a.relative (indexed_data a.bases a.h) (headed_data a.h) refl refl
      (λ first. index-alike-contained a.h a.truthful.truthful a.relative aarch64.rows limits a.bases a.truthful.same first a.fde a.found.listed a.found.contained));
  by_scan = steps-follow (meanings_aarch64 limits) a.relative (scanned_data a.bases a.h) (headed_data a.h)
      (by-tables formats_aarch64 limits a.relative (scanned_data a.bases a.h) (headed_data a.h) refl refl
      (λ first. scan-alike a.h a.truthful.truthful a.relative aarch64.rows limits a.bases a.truthful.same first a.fde a.found.listed a.found.contained));
}
