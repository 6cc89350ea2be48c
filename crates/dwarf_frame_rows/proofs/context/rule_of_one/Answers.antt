use Rattle.std.proofs.Common.{Some, None, if◌then◌else◌, sym, ap, ◌∙◌}
use Rattle.dwarf_frame_rows.proofs.OnlyRule.{get-none, get-only}
use Rattle.dwarf_frame_rows.proofs.context.rule_of_one.Goals as goal
use Rattle.dwarf_frame_rows.proofs.context.rule_of_one.Goals.{in_default-via-in-Some+else-eq, in_default-via-in_default}

pub returns-in-Some : goal.returns-in-Some
returns-in-Some g c =
    sym (get-only c.args.pair c.in-Some.only c.args.register.0 c.in-Some.is
    ∙ ap (λ b. if b then Some c.in-Some.only.rule else None) (sym c.eq.ensures ∙ c.if-eq.true))

pub returns-in_default : goal.returns-in_default
returns-in_default g c = elim c.in_default.branch [
  | in_default-via-in-Some+else-eq w ↦
      sym (get-only c.args.pair w.in-Some.only c.args.register.0 w.in-Some.is
      ∙ ap (λ b. if b then Some w.in-Some.only.rule else None) (sym w.eq.ensures ∙ w.if-eq.false))
  | in_default-via-in_default w ↦ sym (get-none c.args.pair c.args.register.0 w.in_default.is)
]
