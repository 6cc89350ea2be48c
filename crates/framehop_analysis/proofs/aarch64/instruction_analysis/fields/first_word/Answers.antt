use Rattle.std.proofs.Common.{◌≡◌, ◌∙◌, ◌<◌, ◌++◌, ℕ, sym, ap, subst, arith, List, length, get_or, drop}
use Rattle.std.specs.Int.{to_le_bytes, w32}
use Rattle.std.proofs.lemmas.List.{take-append-drop}
use Rattle.std.proofs.lemmas.Nat.{le_bytes_4}
use Rattle.std.proofs.lemmas.Grind.{common_steps}
use Rattle.framehop_analysis.proofs.WordBytes.{small_take}
use Rattle.framehop_analysis.proofs.aarch64.instruction_analysis.fields.first_word.Goals as goal

pub returns-clause-bytes : goal.returns-clause-bytes
returns-clause-bytes c =
    let bytes = c.args.bytes.now in
    let word = c.in_ok-word.word.now in
    let first = c.in_ok-word.ensures.cases.0 in
    let rest = c.in_ok-word.ensures.cases.1 in
    let size = c.in_ok-word.ensures.cases.2 in
    let four : length word ≡ 4 = grind (arith, common_steps) in
    let small : (i : ℕ) → get_or word i 0 < 256 =
    subst (λ (bs : List ℕ). (i : ℕ) → get_or bs i 0 < 256) (sym first) (small_take 4 bytes (λ i. (c.type_inv.bytes i).fits)) in
    let spelled : to_le_bytes w32 c.from_le_bytes.result ≡ word = le_bytes_4 word c.from_le_bytes.result four small c.from_le_bytes.ensures in
    sym (take-append-drop 4 bytes) ∙ ap (λ (bs : List ℕ). bs ++ drop 4 bytes) (sym first ∙ sym spelled) ∙ ap (λ (bs : List ℕ). to_le_bytes w32 c.from_le_bytes.result ++ bs) (sym rest)
