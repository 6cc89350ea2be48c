use Rattle.std.proofs.Common.{None, refl}
use Rattle.dwarf_frame_parts.proofs.PartsSteps.{follows-none}
use Rattle.dwarf_frame_parts.proofs.parts_state.PartsState.new.Goals as goal

pub returns : goal.returns
returns c = λ columns limits factors instructions left apart.
    follows-none columns apart limits factors instructions (record { initial = c.args.left; current = c.args.left; remembered = None }) c.args.left left refl refl refl
