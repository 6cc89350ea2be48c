use Rattle.std.proofs.Common.{◌≡◌, refl}
use Rattle.json_program.specs.Decoded.{result_map}
use Rattle.json_program.specs.Faults.{keep_fault}
use Rattle.json_program.proofs.Laws.{if_ok, keep_fault-decoded, passed_on, same_fault}
use Rattle.json_program.proofs.decoding.passed_on_as_decoded.Goals as goal

pub returns : goal.returns
returns g c = record {
  kept = λ d. if_ok (keep_fault d.answer) (λ kept. result_map d.view kept ≡ d.decoded)
      (λ kept is. keep_fault-decoded d.view d.answer kept d.decoded d.decodes is);
  fault = λ seen answer name given. passed_on seen answer name _ given refl;
  checked = λ answer name given. same_fault answer name _ given refl;
}
