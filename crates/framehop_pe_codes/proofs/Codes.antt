-- The codes of some bytes, one after the other.
use Rattle.std.proofs.Common.{◌≡◌, ◌∙◌, ℕ, zero, suc, ◌<◌, ◌≤◌, Bool, true, false, List, [], ◌∷◌, length, drop, refl, ap, arith, length-drop}
use Rattle.std.specs.Prelude.{◌/◌, ◌%◌, nat_lt, if◌then◌else◌, slice_index, Option, Some, None, IsSome, ◌↔◌}
use Rattle.std.specs.Option.{option_map, option_and_then}
use Rattle.framehop_pe_codes.specs.Codes.{SizedOperation, code_at, code_of, codes_of, codes_within, operation_of}
use Rattle.framehop_pe_codes.specs.declared.operation.UnwindCode.{UnwindCode}

-- what is after a code
abbrev pub After : (List ℕ → Option (List UnwindCode)) → List ℕ → Option (UnwindCode × ℕ) → Option (List UnwindCode)
After more bytes found = option_and_then (λ (f : UnwindCode × ℕ). option_map (λ codes. f.0 ∷ codes) (more (drop f.1 bytes))) found

sized-some : (at : ℕ) (found : Option SizedOperation) (code : UnwindCode) (size : ℕ) → option_map (code_at at) found ≡ Some (code, size) → 2 ≤ size
sized-some at (Some found) code size is =
    let e : code_at at found ≡ (code, size) = cc in
    let n = ap (λ (p : UnwindCode × ℕ). p.1) e in
    omega arith
sized-some at None code size is = cc

unless-short : (short : Bool) (found : Option (UnwindCode × ℕ)) (answer : UnwindCode × ℕ) → (if short then None else found) ≡ Some answer → found ≡ Some answer
unless-short true found answer is = cc
unless-short false found answer is = is

-- a code takes two bytes at least
pub code-some : (is_framed : Bool) (bytes : List ℕ) (code : UnwindCode) (size : ℕ) → code_of is_framed bytes ≡ Some (code, size) → 2 ≤ size
unfolding code_of
code-some is_framed bytes code size is =
    sized-some (slice_index bytes 0) (operation_of (slice_index bytes 1 % 16) (slice_index bytes 1 / 16) is_framed (drop 2 bytes)) code size
    (unless-short (nat_lt (length bytes) 2) _ (code, size) is)

after-same : (f g : List ℕ → Option (List UnwindCode)) (bytes : List ℕ) (found : Option (UnwindCode × ℕ))
    → ((code : UnwindCode) (size : ℕ) → found ≡ Some (code, size) → f (drop size bytes) ≡ g (drop size bytes)) → After f bytes found ≡ After g bytes found
after-same f g bytes None same = refl
after-same f g bytes (Some (code, size)) same = ap (option_map (λ codes. code ∷ codes)) (same code size refl)

shorter : (size n : ℕ) (byte : ℕ) (bytes : List ℕ) → 2 ≤ size → length (byte ∷ bytes) ≤ suc n → length (drop size (byte ∷ bytes)) ≤ n
shorter size n byte bytes some h = let len = length-drop size (byte ∷ bytes) in omega arith

-- more room than there are bytes changes nothing
enough : (n m : ℕ) (is_framed : Bool) (bytes : List ℕ) → length bytes ≤ n → length bytes ≤ m → codes_within n is_framed bytes ≡ codes_within m is_framed bytes
enough n m is_framed [] p q = refl
enough zero m is_framed (byte ∷ bytes) p q = absurd (omega arith)
enough (suc n) zero is_framed (byte ∷ bytes) p q = absurd (omega arith)
enough (suc n) (suc m) is_framed (byte ∷ bytes) p q =
    after-same (codes_within n is_framed) (codes_within m is_framed) (byte ∷ bytes) (code_of is_framed (byte ∷ bytes))
    (λ code size is. let some = code-some is_framed (byte ∷ bytes) code size is in
    enough n m is_framed (drop size (byte ∷ bytes)) (shorter size n byte bytes some p) (shorter size m byte bytes some q))

pub codes-none : (is_framed : Bool) (bytes : List ℕ) → length bytes ≡ 0 → codes_of is_framed bytes ≡ Some []
unfolding codes_of
codes-none is_framed [] none = refl
codes-none is_framed (byte ∷ bytes) none = absurd (omega arith)

-- the first code, and those after it
pub codes-next : (is_framed : Bool) (bytes : List ℕ) → 0 < length bytes → codes_of is_framed bytes ≡ After (codes_of is_framed) bytes (code_of is_framed bytes)
unfolding codes_of
codes-next is_framed [] some = absurd (omega arith)
codes-next is_framed (byte ∷ bytes) some =
    after-same (codes_within (length bytes) is_framed) (codes_of is_framed) (byte ∷ bytes) (code_of is_framed (byte ∷ bytes))
    (λ code size is. let two = code-some is_framed (byte ∷ bytes) code size is in
    enough (length bytes) (length (drop size (byte ∷ bytes))) is_framed (drop size (byte ∷ bytes)) (shorter size (length bytes) byte bytes two (omega arith)) (omega arith))

pub codes-refused : (is_framed : Bool) (bytes : List ℕ) → 0 < length bytes → code_of is_framed bytes ≡ None → codes_of is_framed bytes ≡ None
codes-refused is_framed bytes some none = codes-next is_framed bytes some ∙ ap (After (codes_of is_framed) bytes) none

pub codes-cons : (is_framed : Bool) (bytes : List ℕ) (code : UnwindCode) (size : ℕ) → 0 < length bytes → code_of is_framed bytes ≡ Some (code, size)
    → codes_of is_framed bytes ≡ option_map (λ codes. code ∷ codes) (codes_of is_framed (drop size bytes))
codes-cons is_framed bytes code size some found = codes-next is_framed bytes some ∙ ap (After (codes_of is_framed) bytes) found

pub some-mapped : {A B : Type 0} (f : A → B) (o : Option A) → IsSome (option_map f o) ↔ IsSome o
some-mapped f None = (λ h. h, λ h. h)
some-mapped f (Some x) = (λ h. refl, λ h. refl)
