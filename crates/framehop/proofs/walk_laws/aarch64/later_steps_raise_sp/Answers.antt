use Rattle.framehop.proofs.LaterSteps.{RulesRaise, step-raised}
use Rattle.framehop.proofs.walk_laws.aarch64.later_steps_raise_sp.Goals as goal

pub returns : goal.returns
returns c limits modules words return_address registers caller is =
    let law = c.later_frames_raise_sp.ensures in
    let rules : RulesRaise = λ rule registers words caller h. record { higher = law.higher rule registers words caller h; fits = law.fits rule registers words caller h } in
    step-raised rules limits registers words caller modules return_address is
