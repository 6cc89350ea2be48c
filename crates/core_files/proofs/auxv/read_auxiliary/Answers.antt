use Rattle.std.proofs.Common.{◌≡◌, ◌-◌, ◌/◌, ◌+◌, ℕ, true, false, suc, length, arith, ap, sym, ◌∙◌}
use Rattle.std.specs.Prelude.{◌==◌}
use Rattle.std.proofs.lemmas.Bool.Decides.{nat_tests}
use Rattle.core_files.specs.Auxv.{entry_at}
use Rattle.core_files.proofs.Auxiliary.{value_from, value-is, value-none, value-end, value-here, value-later}
use Rattle.core_files.proofs.auxv.read_auxiliary.Goals as goal

pub loop-entry-init : goal.loop-entry-init
loop-entry-init c = value-is c.args.descriptor.now c.args.kind _ (omega arith)

pub returns-then-found-eq-AT_NULL : goal.returns-then-found-eq-AT_NULL
returns-then-found-eq-AT_NULL c =
    let d = c.args.descriptor.now in
    let first = c.loop-entry.entry in
    let is : ((entry_at d first).0 == 0) ≡ true = grind (arith, nat_tests, c.u64_at-found.ensures, c.if-found-eq-AT_NULL.true) in
    let next : length d / 16 - first ≡ suc (length d / 16 - (first + 1)) = omega (arith, c.loop-entry-test.true) in
    sym (c.loop-entry.invariant ∙ ap (λ (n : ℕ). value_from d c.args.kind first n) next ∙ value-end d c.args.kind first _ is)

pub returns-then-found-kind : goal.returns-then-found-kind
returns-then-found-kind c =
    let d = c.args.descriptor.now in
    let first = c.loop-entry.entry in
    let is : ((entry_at d first).0 == 0) ≡ false = grind (arith, nat_tests, c.u64_at-found.ensures, c.if-found-eq-AT_NULL.false) in
    let found : ((entry_at d first).0 == c.args.kind) ≡ true = grind (arith, nat_tests, c.u64_at-found.ensures, c.if-found-kind.true) in
    let next : length d / 16 - first ≡ suc (length d / 16 - (first + 1)) = omega (arith, c.loop-entry-test.true) in
    rw c.u64_at.ensures (sym (c.loop-entry.invariant ∙ ap (λ (n : ℕ). value_from d c.args.kind first n) next ∙ value-here d c.args.kind first _ is found))

pub loop-entry-preserved : goal.loop-entry-preserved
loop-entry-preserved c =
    let d = c.args.descriptor.now in
    let first = c.loop-entry.entry in
    let is : ((entry_at d first).0 == 0) ≡ false = grind (arith, nat_tests, c.u64_at-found.ensures, c.if-found-eq-AT_NULL.false) in
    let other : ((entry_at d first).0 == c.args.kind) ≡ false = grind (arith, nat_tests, c.u64_at-found.ensures, c.if-found-kind.false) in
    let next : length d / 16 - first ≡ suc (length d / 16 - (first + 1)) = omega (arith, c.loop-entry-test.true) in
    c.loop-entry.invariant ∙ ap (λ (n : ℕ). value_from d c.args.kind first n) next ∙ value-later d c.args.kind first _ is other

pub returns : goal.returns
returns c =
    let d = c.args.descriptor.now in
    let first = c.loop-entry.entry in
    let none : length d / 16 - first ≡ 0 = omega (arith, c.loop-entry-test.false) in
    sym (c.loop-entry.invariant ∙ ap (λ (n : ℕ). value_from d c.args.kind first n) none ∙ value-none d c.args.kind first)
