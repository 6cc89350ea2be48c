use Rattle.std.proofs.Common.{FitsSigned, ◌-◌, ◌*◌, ◌%◌, ◌^◌, w64, of_z, ap, ◌∙◌}
use Rattle.std.specs.Int.Signed.{shr_z}
use Rattle.dwarf_expressions.specs.Values.{modulus, value_of}
use Rattle.dwarf_expressions.proofs.Words.{shift_fits, sign_shifted, signed_word, unused, value_of_word}
use Rattle.dwarf_expressions.proofs.value.AddressSize.shra.Goals as goal

pub returns : goal.returns
returns c =
    let n = c.args.self.bytes in
    let x = c.signed.result in
    let k = 2 ^ c.min-by.result in
    let fits : FitsSigned w64 x = record { sfits = c.signed.type_inv } in
    c.wrap.ensures
    ∙ ap (λ word. word % modulus n) (c.cast_unsigned.ensures ∙ ap (of_z w64) (signed_word x k fits))
    ∙ value_of_word n (64 - 8 * n) (shr_z x k) (unused n c.args.self.is_size) (shift_fits x k fits)
    ∙ ap (λ by. value_of n (shr_z x (2 ^ by))) c.min-by.ensures
    ∙ ap (value_of n) (sign_shifted x c.args.right fits)
    ∙ ap (λ z. value_of n (shr_z z (2 ^ c.args.right))) c.signed.ensures
