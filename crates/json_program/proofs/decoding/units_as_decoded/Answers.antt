use Rattle.std.proofs.Common.{◌≡◌, Ok}
use Rattle.json_program.specs.Faults.{unit_answer}
use Rattle.json_program.proofs.Laws.{fails_alike, if_ok, unit_answer-decoded, unit_answer-good}
use Rattle.json_program.proofs.decoding.units_as_decoded.Goals as goal

pub returns : goal.returns
returns g c = record {
  error = λ d answer alike. fails_alike d.view answer d.answer d.decoded alike d.decodes;
  unit = λ d n. unit_answer-decoded d.view n d.answer d.decoded d.decodes;
  good = λ d n. if_ok (unit_answer n d.answer) (λ value. d.decoded ≡ Ok (d.view value))
      (λ value is. unit_answer-good d.view n d.answer d.decoded value d.decodes is);
}
