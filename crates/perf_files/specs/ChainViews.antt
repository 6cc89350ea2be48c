-- What contracts see of a call chain that is read word by word.
use Rattle.std.specs.Prelude.{◌≡◌, ℕ, List, ◌∷◌, ◌++◌}
use Rattle.perf_files.specs.declared.chain.ChainFrame.{ChainFrame}
use Rattle.perf_files.specs.declared.chain.Context.{Context}
use Rattle.perf_files.specs.Chains.{chain_frames}

-- After a word the frames so far and those of the words after it are the same as before.
abbrev pub GoesOn : List ChainFrame → List ChainFrame → Context → Context → ℕ → Type 0
GoesOn old new context next word = (words : List ℕ) → new ++ chain_frames next words ≡ old ++ chain_frames context (word ∷ words)
