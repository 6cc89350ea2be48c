-- The options of a load.
use Rattle.std.proofs.Common.{◌≡◌, Bool, Ok}
use Rattle.framehop_code_rules.specs.declared.CodeRules.{CodeRules}
use Rattle.json_program.specs.Decoded.{result_map}
use Rattle.json_program.specs.Faults.{Checked, ◌⊛◌, both}
use Rattle.json_program.proofs.Laws.{first-field, and-field, as_it_is}
use Rattle.unwind_run_document.specs.Options.{options_of}
use Rattle.unwind_run_document.specs.declared.command.StatedLookup.{StatedLookup}
use Rattle.unwind_run_document.specs.declared.command.StatedOptions.{StatedOptions}
use Rattle.unwind_run_document.specs.declared.command.StatedRows.{StatedRows}

abbrev pub One : Type 0
One = StatedLookup × Bool

abbrev pub Two : Type 0
Two = One × Bool

abbrev pub Three : Type 0
Three = Two × CodeRules

abbrev pub Four : Type 0
Four = Three × StatedRows

-- the options that the five fields make
abbrev pub options_made : Four → StatedOptions
options_made p = options_of p.0.0.0.0 p.0.0.0.1 p.0.0.1 p.0.1 p.1

pub option_fields : (l : Checked StatedLookup) (t b : Checked Bool) (r : Checked CodeRules) (w : Checked StatedRows)
    (one : Checked One) (two : Checked Two) (three : Checked Three) (four : Checked Four)
    (L : Checked StatedLookup) (T B : Checked Bool) (R : Checked CodeRules) (W : Checked StatedRows)
    → l ≡ L → t ≡ T → b ≡ B → r ≡ R → w ≡ W → one ≡ both l t → two ≡ both one b → three ≡ both two r → four ≡ both three w
    → result_map options_made four ≡ Ok options_of ⊛ L ⊛ T ⊛ B ⊛ R ⊛ W
option_fields l t b r w one two three four L T B R W l_is t_is b_is r_is w_is one_is two_is three_is four_is =
    and-field (λ p. options_of p.0.0.0 p.0.0.1 p.0.1 p.1) (λ v. v) three w four _ W
    (and-field (λ p. options_of p.0.0 p.0.1 p.1) (λ v. v) two r three _ R
    (and-field (λ p. options_of p.0 p.1) (λ v. v) one b two _ B
    (and-field options_of (λ v. v) l t one _ T (first-field options_of (λ v. v) l L (as_it_is l L l_is)) (as_it_is t T t_is) one_is)
    (as_it_is b B b_is) two_is)
    (as_it_is r R r_is) three_is)
    (as_it_is w W w_is) four_is
