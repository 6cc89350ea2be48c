use Rattle.std.proofs.Common.{refl}
use Rattle.serde_json.specs.View.{view}
use Rattle.json_program.proofs.Laws.{drop-element, joined-end, kept-more}
use Rattle.json_program.proofs.decoding.elements_by_index.Goals as goal

pub returns : goal.returns
returns g c = record {
  element = λ vs i v is. drop-element vs i v is.0 is.1;
  next = λ l s v next. kept-more l s v (l.value_in (view v)) next refl;
  end = joined-end;
}
