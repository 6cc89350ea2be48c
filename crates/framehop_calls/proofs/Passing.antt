-- Frames that a walk passes, one after the other.
use Rattle.std.proofs.Common.{ℕ, List, [], ◌∷◌, ◌++◌, subst}
use Rattle.framehop_calls.specs.SampleWalks.{Passes, Through, WalkIn}

-- a walk that passes some frames, and from there others, passes all of them
pub passes_both : {Data Rule Registers : Type 0} (t : Through Data Rule Registers) (old mid new : WalkIn Data Rule Registers) (some others : List ℕ)
    → Passes t old some mid → Passes t mid others new → Passes t old (some ++ others) new
passes_both t old mid new [] others passed rest = subst (λ start. Passes t start others new) passed rest
passes_both t old mid new (address ∷ more) others (next, given, passed) rest =
    (next, given, passes_both t next mid new more others passed rest)
