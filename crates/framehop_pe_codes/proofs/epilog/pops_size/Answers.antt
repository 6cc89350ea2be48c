use Rattle.std.proofs.Common.{◌≡◌, ◌∙◌, ◌≤◌, true, false, length, drop, sym}
use Rattle.std.specs.Prelude.{Some, None}
use Rattle.framehop_pe_codes.specs.EpilogEnds.{is_end}
use Rattle.framehop_pe_codes.specs.Epilogs.{pop_of}
use Rattle.framehop_pe_codes.proofs.PopRuns.{all-popped, none-popped, not-popped, one-more}
use Rattle.framehop_pe_codes.proofs.epilog.pops_size.Goals as goal

pub pops-init : goal.pops-init
pops-init c = none-popped c.args.ends c.args.bytes.now

pub returns-in_err-_register-clause-none : goal.returns-in_err-_register-clause-none
returns-in_err-_register-clause-none c = λ none.
    let test : is_end c.args.ends (drop c.pops.size c.args.bytes.now) ≡ false = rw (sym c.bytes_after.ensures) (sym c.are_at.ensures ∙ c.pops-test.true) in
    let found : pop_of (drop c.pops.size c.args.bytes.now) ≡ None = rw (sym c.bytes_after-in-pops.ensures) (sym c.in_err-_register.ensures.pop) in
    not-popped c.args.ends c.args.bytes.now c.pops.size c.pops.invariant test found

pub pops-preserved : goal.pops-preserved
pops-preserved c =
    let test : is_end c.args.ends (drop c.pops.size c.args.bytes.now) ≡ false = rw (sym c.bytes_after.ensures) (sym c.are_at.ensures ∙ c.pops-test.true) in
    let found : pop_of (drop c.pops.size c.args.bytes.now) ≡ Some (c.in_ok-_register._register, c.in_ok-_register.more) = rw (sym c.bytes_after-in-pops.ensures) (sym c.in_ok-_register.ensures.pop) in
    let fits : c.in_ok-_register.more ≤ length (drop c.pops.size c.args.bytes.now) = rw (sym c.bytes_after-in-pops.ensures) c.in_ok-_register.ensures.within in
    one-more c.args.ends c.args.bytes.now c.pops.size c.in_ok-_register._register c.in_ok-_register.more c.pops.invariant test found fits

pub returns-clause-some : goal.returns-clause-some
returns-clause-some c =
    let test : is_end c.args.ends (drop c.pops.size c.args.bytes.now) ≡ true = rw (sym c.bytes_after.ensures) (sym c.are_at.ensures ∙ c.pops-test.false) in
    all-popped c.args.ends c.args.bytes.now c.pops.size c.pops.invariant test
