use Rattle.std.proofs.Common.{◌∙◌, ◌/◌, ◌^◌, ◌-◌, ap}
use Rattle.std.specs.Prelude.{bit_and}
use Rattle.std.proofs.lemmas.Nat.{and_mask, one_shl}
use Rattle.framehop_ways.proofs.word.bits.Goals as goal

pub returns : goal.returns
returns c =
    ap (λ m. bit_and (c.args.word / 2 ^ c.args.low) (m - 1)) (one_shl c.args.width 32 c.requires.width) ∙ and_mask (c.args.word / 2 ^ c.args.low) c.args.width
