use Rattle.std.proofs.Common.{◌≡◌, ◌∙◌, ℕ, List, ◌∷◌, map, ap, sym, refl}
use Rattle.std.specs.Prelude.{Option, Some, None, Result, Ok}
use Rattle.std.specs.Option.{option_map}
use Rattle.framehop_registers.specs.declared.x86_64.unwindregs.Reg.{Reg}
use Rattle.framehop_rules.specs.declared.x86_64.offset_or_pop.OffsetOrPop.{OffsetOrPop}
use Rattle.framehop_rules.specs.declared.x86_64.offset_or_pop.OffsetOrPop.TheVariants as part
use Rattle.framehop_errors.specs.declared.pe.PeUnwinderError.{PeUnwinderError}
use Rattle.framehop_errors.specs.declared.pe.PeUnwinderError.TheVariants.{UnwindInfoParseError}
use Rattle.framehop_pe_codes.specs.declared.epilog.SpAdjustment.TheVariants.{Stays}
use Rattle.framehop_pe.specs.RuleParts.{adjustment_parts}
use Rattle.framehop_pe_codes.specs.EpilogViews.{IsPoppedFirst}
use Rattle.framehop_pe_codes.specs.Epilogs.{pops_of}
use Rattle.framehop_pe_codes.specs.Refusals.{or_refusal}
use Rattle.framehop_pe_codes.specs.declared.epilog.SpAdjustment.{SpAdjustment}
use Rattle.framehop_pe.proofs.rules.EpilogPartsIterator.next.Goals as goal

abbrev parts : SpAdjustment → Option (List Reg) → Result (List OffsetOrPop) PeUnwinderError
parts front pops = or_refusal UnwindInfoParseError (option_map (λ pops. adjustment_parts front (map part.Pop pops)) pops)

record IsStep (front : SpAdjustment) (rest : List ℕ) (register : Reg) (all : List OffsetOrPop) : Type 0 where
  more : List OffsetOrPop
  left : parts front (pops_of rest) ≡ Ok more
  is : all ≡ part.Pop register ∷ more

-- the first pop, and the parts after it
step : (rest : List ℕ) (register : Reg) (all : List OffsetOrPop) (before : Option (List Reg))
    → ((registers : List Reg) → before ≡ Some registers → IsPoppedFirst registers register rest) → parts Stays before ≡ Ok all → IsStep Stays rest register all
step rest register all None first is = cc
step rest register all (Some registers) first is =
    let popped = first registers refl in
    let whole : map part.Pop registers ≡ all = cc in
    record {
      more = map part.Pop popped.more;
      left = ap (parts Stays) popped.left;
      is = sym whole ∙ ap (map part.Pop) popped.is;
    }

pub returns-in_ok-register-in-Stays-clause-steps : goal.returns-in_ok-register-in-Stays-clause-steps
returns-in_ok-register-in-Stays-clause-steps c = λ all is.
    let epilog = c.args.self.now.epilog in
    let nothing = ap (λ (f : SpAdjustment). parts f (pops_of epilog.rest.now)) c.in-Stays.is in
    let after = step c.in_ok-register-in-Stays.rest.now c.in_ok-register-in-Stays.register all (pops_of epilog.rest.now) c.in_ok-register-in-Stays.ensures.pop (sym nothing ∙ is) in
    (after.more, ap (λ (f : SpAdjustment). parts f (pops_of c.in_ok-register-in-Stays.rest.now)) c.in-Stays.is ∙ after.left, after.is)
