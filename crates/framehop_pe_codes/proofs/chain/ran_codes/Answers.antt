use Rattle.std.proofs.Common.{◌≡◌, ◌<◌, ◌∙◌, false, true, length, sym, arith, length-drop}
use Rattle.std.specs.Prelude.{nat_lt}
use Rattle.std.proofs.lemmas.Bool.Decides.{nat_tests}
use Rattle.framehop_pe_codes.proofs.ChainCodes.{ran-none, ran-refused, ran-here, ran-later}
use Rattle.framehop_pe_codes.proofs.chain.ran_codes.Goals as goal

pub returns-in_default-clause-codes : goal.returns-in_default-clause-codes
returns-in_default-clause-codes c =
    let l = c.codes.rest.now in
    let some : 0 < length l = grind (arith, nat_tests) in
    ran-refused c.args.is_framed c.args.offset l some (sym c.read_code.ensures.code ∙ c.in_default.is) ∙ c.codes.invariant.same

pub returns-then-from-offset-clause-codes : goal.returns-then-from-offset-clause-codes
returns-then-from-offset-clause-codes c =
    let l = c.codes.rest.now in
    let some : 0 < length l = grind (arith, nat_tests) in
    let ran : nat_lt c.args.offset c.in-Some.code.prolog_offset ≡ false = grind (arith, nat_tests) in
    ran-here c.args.is_framed c.args.offset l c.in-Some.code c.in-Some.size some (sym c.read_code.ensures.code ∙ c.in-Some.is) ran ∙ c.codes.invariant.same

pub codes-preserved : goal.codes-preserved
codes-preserved c =
    let l = c.codes.rest.now in
    let some : 0 < length l = grind (arith, nat_tests) in
    let later : nat_lt c.args.offset c.in-Some.code.prolog_offset ≡ true = grind (arith, nat_tests) in
    let shorter = length-drop c.in-Some.size l in
    rw c.bytes_after-rest.ensures (record {
      same = ran-later c.args.is_framed c.args.offset l c.in-Some.code c.in-Some.size some (sym c.read_code.ensures.code ∙ c.in-Some.is) later ∙ c.codes.invariant.same;
      few = omega (arith, c.codes.invariant.few);
    })

pub returns-clause-codes : goal.returns-clause-codes
returns-clause-codes c =
    let l = c.codes.rest.now in
    let none : length l ≡ 0 = grind (arith, nat_tests) in
    ran-none c.args.is_framed c.args.offset l none ∙ c.codes.invariant.same
