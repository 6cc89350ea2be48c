use Rattle.std.proofs.Common.{FitsSigned, ◌-◌, ◌*◌, ◌%◌, ap, w64, of_z, to_z, ◌∙◌, int_div}
use Rattle.dwarf_expressions.specs.Values.{modulus, signed, value_of}
use Rattle.dwarf_expressions.proofs.Words.{quotient_word, quotient_fits, unused, value_of_word}
use Rattle.dwarf_expressions.proofs.value.AddressSize.div.Goals as goal

pub returns : goal.returns
returns c =
    let n = c.args.self.bytes in
    let first : FitsSigned w64 c.signed.result = record { sfits = c.signed.type_inv } in
    let second : FitsSigned w64 c.signed-2.result = record { sfits = c.signed-2.type_inv } in
    c.wrap.ensures
    ∙ ap (λ word. word % modulus n) (c.cast_unsigned.ensures ∙ ap (λ q. of_z w64 (to_z w64 (of_z w64 q))) c.wrapping_div-quotient.ensures ∙ quotient_word c.signed.result c.signed-2.result first second)
    ∙ value_of_word n (64 - 8 * n) (int_div c.signed.result c.signed-2.result) (unused n c.args.self.is_size) (quotient_fits c.signed.result c.signed-2.result first)
    ∙ ap (λ x. value_of n (int_div x c.signed-2.result)) c.signed.ensures
    ∙ ap (λ y. value_of n (int_div (signed n c.args.left) y)) c.signed-2.ensures
