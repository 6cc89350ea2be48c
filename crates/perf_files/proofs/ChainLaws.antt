-- Call chains word by word.
use Rattle.std.proofs.Common.{◌≡◌, ℕ, zero, suc, ◌≤◌, List, [], ◌∷◌, ◌++◌, length, drop, refl, append_assoc, arith, length-drop, Some, None}
use Rattle.std.specs.Prelude.{slice_get}
use Rattle.std.proofs.lemmas.List.{nil_from_length}
use Rattle.perf_files.specs.declared.chain.ChainFrame.{ChainFrame}
use Rattle.perf_files.specs.declared.chain.Context.{Context}
use Rattle.perf_files.specs.Chains.{chain_frames, context_of}
use Rattle.perf_files.specs.ChainViews.{GoesOn}

-- the words from a place on begin with the one that is there
pub word-next : (words : List ℕ) (place next word : ℕ) → next ≡ suc place → Some word ≡ slice_get words place → drop place words ≡ word ∷ drop next words
word-next [] place next word after is = cc
word-next (first ∷ words) zero next word after is = let same : word ≡ first = cc in rw (after, same) refl
word-next (first ∷ words) (suc place) next word after is = rw after (word-next words place (suc place) word refl is)

-- no word is left at the end
pub words-end : (words : List ℕ) (place : ℕ) → length words ≤ place → drop place words ≡ []
words-end words place past = nil_from_length (drop place words) (rw length-drop (omega arith))

pub no-frames : (context : Context) (words : List ℕ) → words ≡ [] → chain_frames context words ≡ []
unfolding chain_frames
no-frames context words none = rw none refl

-- a word that is a context, and one that is an address
pub context-next : (frames : List ChainFrame) (context next : Context) (word : ℕ) → context_of word ≡ Some next → GoesOn frames frames context next word
unfolding chain_frames
context-next frames context next word is words = rw is refl

pub address-next : (frames new : List ChainFrame) (context : Context) (word : ℕ) → context_of word ≡ None → new ≡ frames ++ record { context = context; address = word } ∷ []
    → GoesOn frames new context context word
unfolding chain_frames
address-next frames new context word is grown words =
    let frame : ChainFrame = record { context = context; address = word } in
    rw (is, grown) (append_assoc frames (frame ∷ []) (chain_frames context words))
