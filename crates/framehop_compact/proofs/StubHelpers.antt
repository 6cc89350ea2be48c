-- The words that the code in `__stub_helper` has pushed.
use Rattle.std.proofs.Common.{◌≡◌, ◌∙◌, ℕ, zero, suc, ◌+◌, ◌-◌, ◌%◌, ◌<◌, ◌≤◌, Bool, false, refl, ap, arith}
use Rattle.std.specs.Prelude.{nat_lt, if◌then◌else◌}
use Rattle.std.proofs.lemmas.Bool.Decides.{nat_tests}
use Rattle.framehop_code_rules.specs.declared.CodeRules.TheVariants.{Known}
use Rattle.framehop_rules.specs.declared.x86_64.unwind_rule.UnwindRuleX86_64.{UnwindRuleX86_64}
use Rattle.framehop_rules.specs.declared.x86_64.unwind_rule.UnwindRuleX86_64.TheVariants.{JustReturn, OffsetSp}
use Rattle.framehop_compact.specs.StubHelper.{pushed_at, rule_of_pushed, shared_code, stub_code}
use Rattle.framehop_compact.specs.Unwound.{stub_helper_rule}

pub in-shared : (offset : ℕ) → offset < 16 → stub_helper_rule Known offset ≡ rule_of_pushed (1 + pushed_at shared_code offset)
in-shared zero h = refl
in-shared (suc zero) h = refl
in-shared (suc (suc zero)) h = refl
in-shared (suc (suc (suc zero))) h = refl
in-shared (suc (suc (suc (suc zero)))) h = refl
in-shared (suc (suc (suc (suc (suc zero))))) h = refl
in-shared (suc (suc (suc (suc (suc (suc zero)))))) h = refl
in-shared (suc (suc (suc (suc (suc (suc (suc zero))))))) h = refl
in-shared (suc (suc (suc (suc (suc (suc (suc (suc zero)))))))) h = refl
in-shared (suc (suc (suc (suc (suc (suc (suc (suc (suc zero))))))))) h = refl
in-shared (suc (suc (suc (suc (suc (suc (suc (suc (suc (suc zero)))))))))) h = refl
in-shared (suc (suc (suc (suc (suc (suc (suc (suc (suc (suc (suc zero))))))))))) h = refl
in-shared (suc (suc (suc (suc (suc (suc (suc (suc (suc (suc (suc (suc zero)))))))))))) h = refl
in-shared (suc (suc (suc (suc (suc (suc (suc (suc (suc (suc (suc (suc (suc zero))))))))))))) h = refl
in-shared (suc (suc (suc (suc (suc (suc (suc (suc (suc (suc (suc (suc (suc (suc zero)))))))))))))) h = refl
in-shared (suc (suc (suc (suc (suc (suc (suc (suc (suc (suc (suc (suc (suc (suc (suc zero))))))))))))))) h = refl
in-shared (suc (suc (suc (suc (suc (suc (suc (suc (suc (suc (suc (suc (suc (suc (suc (suc n)))))))))))))))) h = absurd (omega arith)

abbrev by-tests : Bool → Bool → UnwindRuleX86_64 → UnwindRuleX86_64
by-tests one two other = if one then OffsetSp 2 else if two then OffsetSp 3 else other

-- in a stub
by-place : (place : ℕ) → place < 10 → (if nat_lt place 5 then JustReturn else OffsetSp 2) ≡ rule_of_pushed (pushed_at stub_code place)
by-place zero h = refl
by-place (suc zero) h = refl
by-place (suc (suc zero)) h = refl
by-place (suc (suc (suc zero))) h = refl
by-place (suc (suc (suc (suc zero)))) h = refl
by-place (suc (suc (suc (suc (suc zero))))) h = refl
by-place (suc (suc (suc (suc (suc (suc zero)))))) h = refl
by-place (suc (suc (suc (suc (suc (suc (suc zero))))))) h = refl
by-place (suc (suc (suc (suc (suc (suc (suc (suc zero)))))))) h = refl
by-place (suc (suc (suc (suc (suc (suc (suc (suc (suc zero))))))))) h = refl
by-place (suc (suc (suc (suc (suc (suc (suc (suc (suc (suc n)))))))))) h = absurd (omega arith)

pub in-stubs : (offset : ℕ) → 16 ≤ offset → stub_helper_rule Known offset ≡ rule_of_pushed (pushed_at stub_code ((offset - 16) % 10))
in-stubs offset h =
    let place = (offset - 16) % 10 in
    let one : nat_lt offset 9 ≡ false = grind (arith, nat_tests) in
    let two : nat_lt offset 16 ≡ false = grind (arith, nat_tests) in
    let other : UnwindRuleX86_64 = if nat_lt place 5 then JustReturn else OffsetSp 2 in
    ap (λ (b : Bool). by-tests b (nat_lt offset 16) other) one ∙ ap (λ (b : Bool). by-tests false b other) two ∙ by-place place (omega arith)
