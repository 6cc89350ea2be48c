-- All documents that are too long have one text and one ending.
use Rattle.std.proofs.Common.{◌≡◌, ℕ, ◌<◌, List, length, Err, ◌∙◌, ap, sym}
use Rattle.std.proofs.lemmas.Bool.{lt-ltb}
use Rattle.json_program.specs.declared.fault.FaultName.TheVariants.{TooLong}
use Rattle.json_program.specs.declared.transfer.TheConstants.{DOCUMENT_LIMIT}
use Rattle.frame_table.specs.Document.{stated_in}
use Rattle.frame_table.specs.Text.{text_of, answer_to, ending_of, ending_by}

-- every document that is too long has the fault TooLong
is_refused : (bytes : List ℕ) → DOCUMENT_LIMIT < length bytes
    → stated_in bytes ≡ Err (record { name = TooLong; number = 0 })
is_refused bytes long = rw (lt-ltb DOCUMENT_LIMIT (length bytes) long)

-- so the text that is written for it, and how the run ends, are the same for each
pub too_long : (one other : List ℕ) → DOCUMENT_LIMIT < length one → DOCUMENT_LIMIT < length other
    → (text_of one ≡ text_of other) × (ending_of one ≡ ending_of other)
too_long one other long long_too =
    let same = is_refused one long ∙ sym (is_refused other long_too) in
    (ap (λ stated. (answer_to stated).text) same, ap (λ stated. ending_by (answer_to stated).is_whole) same)
