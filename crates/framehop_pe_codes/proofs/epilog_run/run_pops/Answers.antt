use Rattle.std.proofs.Common.{◌≡◌, ◌∙◌, ℕ, List, [], ◌∷◌, drop, ap, sym, refl}
use Rattle.std.specs.Prelude.{Option, Some, None, Ok, Err, IsSome}
use Rattle.std.specs.Option.{option_map}
use Rattle.std.proofs.lemmas.Result.{err_from_is_err_and}
use Rattle.framehop_registers.specs.Callback.{Words}
use Rattle.framehop_registers.specs.Registers.{sp_of}
use Rattle.framehop_registers.specs.declared.x86_64.unwindregs.Reg.{Reg}
use Rattle.framehop_registers.specs.declared.x86_64.unwindregs.UnwindRegsX86_64.{UnwindRegsX86_64}
use Rattle.framehop_registers.proofs.Laws.{over_both}
use Rattle.framehop_errors.specs.declared.pe.PeUnwinderError.TheVariants.{MissingStackData}
use Rattle.framehop_pe_codes.specs.EpilogRuns.{caller_by_pops}
use Rattle.framehop_pe_codes.specs.Epilogs.{is_empty, pops_of}
use Rattle.framehop_pe_codes.specs.Machine.{popped, returned}
use Rattle.framehop_pe_codes.specs.MachineViews.{registers_seen}
use Rattle.framehop_pe_codes.specs.Refusals.{PeResult, result_and_then}
use Rattle.framehop_pe_codes.proofs.Pops.{pops-end, pops-cons, splits}
use Rattle.framehop_pe_codes.proofs.epilog_run.run_pops.Goals as goal

left-some : (register : Reg) (bytes : List ℕ) (size : ℕ) → pops_of bytes ≡ option_map (λ registers. register ∷ registers) (pops_of (drop size bytes)) → IsSome (pops_of bytes) → IsSome (pops_of (drop size bytes))
left-some register bytes size is some = by (pops_of (drop size bytes)) is
  where
    by : (o : Option (List Reg)) → pops_of bytes ≡ option_map (λ registers. register ∷ registers) o → IsSome o
    by (Some more) is = refl
    by None is = cc

-- one pop, and the run after it
pop-run : (register : Reg) (more all : List Reg) (registers : UnwindRegsX86_64) (words : Words) (sp : ℕ) (answer : PeResult (Unit {0})) (after : UnwindRegsX86_64)
    → all ≡ register ∷ more → sp ≡ sp_of registers → registers_seen answer after ≡ popped (MissingStackData (Some sp)) register registers words
    → result_and_then (registers_seen answer after) (λ next. caller_by_pops more next words) ≡ caller_by_pops all registers words
pop-run register more all registers words sp answer after is at came =
    ap (λ (o : PeResult UnwindRegsX86_64). result_and_then o (λ next. caller_by_pops more next words))
    (came ∙ ap (λ (k : ℕ). popped (MissingStackData (Some k)) register registers words) at)
    ∙ ap (λ (l : List Reg). caller_by_pops l registers words) (sym is)

pub returns-in_err-pop-clause-run : goal.returns-in_err-pop-clause-run
returns-in_err-pop-clause-run g c =
    over_both c.pops.invariant.run c.in_err-pop.ensures.popped (λ words so_far came registers is.
    let (all, left, same) = so_far registers is in
    let cons = pops-cons is_empty c.pops.rest.now c.in-Some.register c.in-Some.size c.in-Some.ensures.more c.in-Some.ensures.next in
    let split = splits c.in-Some.register (pops_of (drop c.in-Some.size c.pops.rest.now)) all (sym cons ∙ left) in
    let from = err_from_is_err_and c.from_residual.result c.from_residual.ensures.1 in
    rw (from.1, from.2) (pop-run c.in-Some.register split.more all c.pops.regs words c.sp-sp.result (Err c.in_err-pop.field-0.0) c.pop.new.regs split.all_is c.sp-sp.ensures came ∙ same))

pub pops-preserved : goal.pops-preserved
pops-preserved g c =
    let cons = pops-cons is_empty c.pops.rest.now c.in-Some.register c.in-Some.size c.in-Some.ensures.more c.in-Some.ensures.next in
    rw c.bytes_after-rest.ensures (record {
      callable = c.in_ok-pop.ensures.callable;
      pops = left-some c.in-Some.register c.pops.rest.now c.in-Some.size cons c.pops.invariant.pops;
      run = over_both c.pops.invariant.run c.in_ok-pop.ensures.popped (λ words so_far came registers is.
          let (all, left, same) = so_far registers is in
          let split = splits c.in-Some.register (pops_of (drop c.in-Some.size c.pops.rest.now)) all (sym cons ∙ left) in
          (split.more, split.left_is, pop-run c.in-Some.register split.more all c.pops.regs words c.sp-sp.result (Ok tt) c.pop.new.regs split.all_is c.sp-sp.ensures came ∙ same));
    })

end-run : (bytes : List ℕ) (all : List Reg) (registers : UnwindRegsX86_64) (words : Words) → pops_of bytes ≡ Some [] → pops_of bytes ≡ Some all → returned registers words ≡ caller_by_pops all registers words
end-run bytes all registers words end is =
    let both : Some [] ≡ Some all = sym end ∙ is in
    let none : all ≡ [] = cc in
    ap (λ (l : List Reg). caller_by_pops l registers words) (sym none)

pub returns-clause-run : goal.returns-clause-run
returns-clause-run g c =
    over_both c.pops.invariant.run c.return_to_caller.ensures.returned (λ words so_far came registers is.
    let (all, left, same) = so_far registers is in
    came ∙ end-run c.pops.rest.now all c.pops.regs words (pops-end is_empty c.pops.rest.now (c.in_default.ensures.end refl)) left ∙ same)
