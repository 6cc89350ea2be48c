use Rattle.std.proofs.Common.{◌^◌, ap, ◌∙◌}
use Rattle.std.specs.Int.Signed.{shr_z}
use Rattle.dwarf_expressions.proofs.Words.{signed_moved, signed_word}
use Rattle.dwarf_expressions.proofs.value.AddressSize.signed.Goals as goal

pub returns : goal.returns
returns c =
    signed_word c.cast_signed.result (2 ^ c.unused_bits-unused.result) (record { sfits = c.cast_signed.type_inv })
    ∙ ap (λ x. shr_z x (2 ^ c.unused_bits-unused.result)) c.cast_signed.ensures
    ∙ signed_moved c.args.self.bytes c.unused_bits-unused.result c.args.value c.unused_bits-unused.ensures c.requires
