use Rattle.std.proofs.Common.{◌≡◌, ℕ, ◌+◌, ◌-◌, ◌<◌, length, get_or, take, sym, ap, ◌∙◌, arith}
use Rattle.function_index.specs.Functions.{last_at}
use Rattle.function_index.specs.declared.entries.Binding.TheVariants.{Local}
use Rattle.function_index.specs.declared.functions.RankedFunction.{RankedFunction}
use Rattle.function_index.proofs.LastAt.{ends-before, last-here, last-none}
use Rattle.function_index.proofs.Reaches.{reaches-above}
use Rattle.function_index.proofs.functions.last_among.Goals as goal

pub returns-then-reaches-at : goal.returns-then-reaches-at
returns-then-reaches-at c =
    let functions = c.args.functions.now in
    let known = c.functions.invariant in
    let below = rw c.requires.reaches at c.if-reaches-at.true in
    sym
    (sym known.same
    ∙ last-none c.args.address functions c.functions.left
    (λ k d before within.
    let up = reaches-above 0 functions k (c.functions.left - 1) d (omega arith) (omega arith) in
    ends-before c.args.address (get_or functions k d) (omega arith)))

abbrev nothing : RankedFunction
nothing = record { entry = record { first = 0; last = 0; name_offset = 0; binding = Local }; preference = 0 }

pub returns-then-has_address : goal.returns-then-has_address
returns-then-has_address c =
    let functions = c.args.functions.now in
    let next : c.functions.left - 1 + 1 ≡ c.functions.left = omega arith in
    let within : c.functions.left - 1 < length functions = omega arith in
    let is = sym c.has_address.ensures ∙ c.if-has_address.true in
    sym
    (sym c.functions.invariant.same
    ∙ ap (λ (count : ℕ). last_at c.args.address (take count functions)) (sym next)
    ∙ last-here c.args.address functions (c.functions.left - 1) nothing within is)
