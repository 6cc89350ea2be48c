use Rattle.std.proofs.Common.{◌∙◌, ap, w32, SFits, rules}
use Rattle.std.specs.Prelude.{ℤ, pos, ◌+ℤ◌}
use Rattle.std.proofs.lemmas.Int.{ints, to_z-of_z}
use Rattle.framehop_ways.specs.Values.{value_of, loaded, with_raised, with_register}
use Rattle.framehop_ways.specs.declared.values.Value.{Value}
use Rattle.framehop_ways.specs.declared.values.Values.{Values}
use Rattle.framehop_ways.proofs.values.Values.after_load.Goals as goal

pub returns : goal.returns
returns c =
    let saved = c.args.saved.now in
    let access = c.args.access in
    let first_fits : SFits w32 c.first_bytes.result = search (rules, ints) in
    let second_fits : SFits w32 c.second_bytes.result = search (rules, ints) in
    let first =
    c.loaded-first.ensures ∙ ap (λ (z : ℤ). loaded saved c.of-base.result z) (to_z-of_z w32 c.first_bytes.result first_fits ∙ c.first_bytes.ensures)
    ∙ ap (λ (b : Value). loaded saved b access.offset) c.of-base.ensures in
    let second =
    c.loaded-second.ensures ∙ ap (λ (z : ℤ). loaded saved c.of-base.result z) (to_z-of_z w32 c.second_bytes.result second_fits ∙ c.second_bytes.ensures)
    ∙ ap (λ (b : Value). loaded saved b (access.offset +ℤ pos 8)) c.of-base.ensures in
    let raised = with_raised c.args.self access in
    let one =
    c.with_register.ensures ∙ ap (λ (v : Values). with_register v access.first c.loaded-first.result) c.with_raised.ensures
    ∙ ap (λ (x : Value). with_register raised access.first x) first in
    c.with_register-2.ensures ∙ ap (λ (v : Values). with_register v access.second c.loaded-second.result) one
    ∙ ap (λ (x : Value). with_register (with_register raised access.first (loaded saved (value_of c.args.self access.base) access.offset)) access.second x) second
