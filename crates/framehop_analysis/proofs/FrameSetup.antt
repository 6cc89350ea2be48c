-- The word that sets the frame pointer.
use Rattle.std.proofs.Common.{◌≡◌, ◌≢◌, ℕ, ◌*◌, ◌<◌, ◌^◌, Bool, true, Option, Some, None}
use Rattle.std.specs.Prelude.{is_some, IfSome, IfNone}
use Rattle.framehop_analysis.specs.EpilogueInstructionsAarch64.{immediate_word, SetsFramePointer}

pub sets_is : (word : ℕ) (found : Option ℕ) (test : Bool) → test ≡ is_some found
    → IfSome found (λ bytes. (shift : ℕ) × (number : ℕ) × (shift < 2) × (number < 4096) × (word ≡ immediate_word 0x122 shift number 29) × (bytes ≡ number * 4096 ^ shift))
    → IfNone found ((shift number : ℕ) → shift < 2 → number < 4096 → word ≢ immediate_word 0x122 shift number 29)
    → (test ≡ true → SetsFramePointer word) × (SetsFramePointer word → test ≡ true)
sets_is word (Some bytes) test is (shift, number, shift_fits, number_fits, word_is, bytes_is) none =
    (λ set. record { shift = shift; number = number; shift_fits = shift_fits; number_fits = number_fits; is = word_is }, λ sets. is)
sets_is word None test is found none = (λ set. cc, λ sets. absurd (none sets.shift sets.number sets.shift_fits sets.number_fits sets.is))
