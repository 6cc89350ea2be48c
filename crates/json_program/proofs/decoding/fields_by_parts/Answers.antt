use Rattle.std.proofs.Common.{refl}
use Rattle.json_program.proofs.Laws.{and-field, as_it_is, first-field}
use Rattle.json_program.proofs.decoding.fields_by_parts.Goals as goal

pub returns : goal.returns
returns g c = record {
  first = λ f seen x. first-field f seen x _ refl;
  next = λ fields last. and-field fields.view last.view fields.checked last.checked _ _ _ refl refl refl;
  plain = λ x. as_it_is x x refl;
}
