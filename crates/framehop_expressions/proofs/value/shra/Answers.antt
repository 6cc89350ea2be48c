use Rattle.std.proofs.Common.{FitsSigned, ◌^◌, w64, of_z, ap, ◌∙◌}
use Rattle.std.specs.Int.Signed.{shr_z}
use Rattle.dwarf_expressions.specs.Values.{value_of}
use Rattle.framehop_expressions.proofs.Numbers.{shift_fits, sign_shifted, signed_word, word_value}
use Rattle.framehop_expressions.proofs.value.shra.Goals as goal

pub returns : goal.returns
returns c =
    let x = c.signed.result in
    let k = 2 ^ c.min-by.result in
    let fits : FitsSigned w64 x = record { sfits = c.signed.type_inv } in
    c.cast_unsigned.ensures
    ∙ ap (of_z w64) (signed_word x k fits)
    ∙ word_value (shr_z x k) (shift_fits x k fits)
    ∙ ap (λ by. value_of 8 (shr_z x (2 ^ by))) c.min-by.ensures
    ∙ ap (value_of 8) (sign_shifted x c.args.right fits)
    ∙ ap (λ z. value_of 8 (shr_z z (2 ^ c.args.right))) c.signed.ensures
