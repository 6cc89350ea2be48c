use Rattle.std.proofs.Common.{◌≡◌, ◌<◌, ◌∙◌, refl, length, drop, sym, subst, arith}
use Rattle.std.specs.Prelude.{◌↔◌, Option, None, IsSome, List}
use Rattle.std.proofs.lemmas.Bool.Decides.{nat_tests}
use Rattle.framehop_pe_codes.specs.Codes.{codes_of}
use Rattle.framehop_pe_codes.specs.declared.operation.UnwindCode.{UnwindCode}
use Rattle.framehop_pe_codes.proofs.Codes.{codes-none, codes-refused, codes-cons, some-mapped}
use Rattle.framehop_pe_codes.proofs.info.are_codes.Goals as goal

no-some : {A : Type 0} (o : Option A) → o ≡ None → IsSome o → ⊥
no-some o none some = cc

pub returns-in_default : goal.returns-in_default
returns-in_default c =
    let left : 0 < length c.codes.rest.now = grind (arith, nat_tests) in
    let refused = codes-refused c.args.is_framed c.codes.rest.now left (sym c.read_code.ensures.code ∙ c.in_default.is) in
    (λ never. cc, λ all. absurd (no-some _ refused (c.codes.invariant.1 all)))

pub codes-preserved : goal.codes-preserved
codes-preserved c =
    let left : 0 < length c.codes.rest.now = grind (arith, nat_tests) in
    let at = codes-cons c.args.is_framed c.codes.rest.now c.in-Some._code c.in-Some.size left (sym c.read_code.ensures.code ∙ c.in-Some.is) in
    let both = subst (λ (o : Option (List UnwindCode)). IsSome o ↔ IsSome (codes_of c.args.is_framed (drop c.in-Some.size c.codes.rest.now))) (sym at) (some-mapped _ _) in
    rw c.bytes_after-rest.ensures (λ some. c.codes.invariant.0 (both.1 some), λ all. both.0 (c.codes.invariant.1 all))

pub returns : goal.returns
returns c =
    let none : length c.codes.rest.now ≡ 0 = grind (arith, nat_tests) in
    (λ yes. c.codes.invariant.0 (subst (λ (o : Option (List UnwindCode)). IsSome o) (sym (codes-none c.args.is_framed c.codes.rest.now none)) refl), λ all. refl)
