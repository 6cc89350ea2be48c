use Rattle.std.proofs.Common.{sym, subst}
use Rattle.dwarf_frame_instructions.specs.InstructionViews.{instructions_by}
use Rattle.dwarf_frame_instructions.specs.Programs.{Instructions}
use Rattle.std.specs.Prelude.{ℕ}
use Rattle.dwarf_frame_parts.proofs.PartsSteps.{Reached, reached-none}
use Rattle.dwarf_frame_parts.proofs.left.left_by_cie.Goals as goal

pub instructions-init : goal.instructions-init
instructions-init g c = λ limits room.
    let all = instructions_by g.R.Reader.stretch g.R.Offset.ReaderOffset.limit c.into_parts-coding.result.0 c.into_parts-coding.result.1 in
    subst (λ (a : Instructions ℕ). Reached c.args.columns limits c.args.factors.now a all c.new-row.result) (sym c.into_parts-coding.ensures)
    (reached-none c.args.columns limits c.args.factors.now all c.new-row.result (c.new-row.ensures c.args.columns))
