use Rattle.std.proofs.Common.{true}
use Rattle.framehop.proofs.TruthfulLookups.{fits-64, header-below, index-below, left-uncovered, scan-below}
use Rattle.framehop.proofs.lookup_laws.truthful_lookups_attempt_below_all.Goals as goal

pub returns : goal.returns
returns g c limits a =
    let m = g.A.DwarfUnwinding.rows in
    let t = a.truthful.truthful in
    let fits = fits-64 a.fits in
    record {
      uncovered = left-uncovered a.h t a.relative m limits a.bases a.truthful.same true fits a.below;
      by_header = λ rows first. header-below a.h t a.relative m limits a.bases a.truthful.same first fits a.below rows;
      by_index = λ first. index-below a.h t a.relative m limits a.bases a.truthful.same first fits a.below;
      by_scan = λ first. scan-below a.h t a.relative m limits a.bases a.truthful.same first fits a.below;
    }
