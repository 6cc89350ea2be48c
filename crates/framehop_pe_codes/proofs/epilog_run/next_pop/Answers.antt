use Rattle.std.proofs.Common.{◌≡◌, ◌∙◌, sym}
use Rattle.std.specs.Prelude.{Option, None, IsSome}
use Rattle.framehop_pe_codes.specs.Epilogs.{is_empty}
use Rattle.framehop_pe_codes.proofs.Pops.{pops-other}
use Rattle.framehop_pe_codes.proofs.epilog_run.next_pop.Goals as goal

no-some : {A : Type 0} (o : Option A) → o ≡ None → IsSome o → ⊥
no-some o none some = cc

pub returns-else-is_empty-clause-end : goal.returns-else-is_empty-clause-end
returns-else-is_empty-clause-end c = λ none.
    absurd (no-some _ (pops-other is_empty c.args.bytes.now (sym c.is_empty.ensures ∙ c.if-is_empty.false) (sym c.pop_of.ensures.pop ∙ none)) c.requires)
