-- What the crates above cite. Each statement is the contract of a function of the crate, `offsets_have_one_answer` of each architecture.
use Rattle.std.specs.Prelude.{ℕ, List, take, drop}
use Rattle.framehop_analysis.specs.Epilogue.{IsEpilogueRule}
use Rattle.framehop_analysis.specs.Found.{HasAnswer}
use Rattle.framehop_analysis.specs.LookBackAarch64 as aarch64
use Rattle.framehop_analysis.specs.Prologue.{IsPrologueRule}
use Rattle.framehop_analysis.specs.PrologueAarch64 as aarch64_prologue
use Rattle.framehop_analysis.proofs.DecidedAarch64 as decided_aarch64
use Rattle.framehop_analysis.proofs.DecidedX86_64 as decided_x86_64

-- the rule of the machine code at each offset of some bytes: of the prologue there, or else of the epilogue, or that there is none
pub rule_at_x86_64 : (text : List ℕ) (offset : ℕ) → HasAnswer (IsPrologueRule text offset) (IsEpilogueRule text offset)
rule_at_x86_64 = decided_x86_64.rule_at

pub rule_at_aarch64 : (text : List ℕ) (offset : ℕ)
    → HasAnswer (aarch64_prologue.IsPrologueRule (take offset text) (drop offset text)) (aarch64.IsEpilogueRule text offset)
rule_at_aarch64 = decided_aarch64.rule_at
