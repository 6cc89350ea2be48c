-- What a length and an entry leave is what stands behind so many bytes.
use Rattle.std.proofs.Common.{◌≡◌, ℕ, ◌+◌, ◌≤◌, Bool, true, false, cond, List, length, drop, Result, Ok, Err, refl, sym, ap, subst, ◌∙◌, arith}
use Rattle.std.specs.Prelude.{◌==◌, nat_lt}
use Rattle.std.proofs.lemmas.Bool.Decides.{nat_tests}
use Rattle.std.proofs.lemmas.List.{drop-drop, length-drop}
use Rattle.dwarf_constants.specs.Format.{word_size}
use Rattle.dwarf_constants.specs.declared.common.Format.TheVariants.{Dwarf64}
use Rattle.dwarf_constants.specs.declared.error.Error.{Error}
use Rattle.dwarf_readers.specs.InitialLength.{as_offset, initial_length_at, length_behind, word_at}
use Rattle.dwarf_endianity.specs.Offset.{offset_below}
use Rattle.dwarf_readers.specs.Stretch.{Stretch, ◌>>=◌, behind, number_at, split_at}
use Rattle.dwarf_frame_entries.specs.Entries.{entry_at, entry_within, offset_in}
use Rattle.dwarf_frame_entries.specs.Parts.{IsPart}
use Rattle.dwarf_frame_rows.specs.FrameSection.{FrameSection}

-- a stretch is what stands behind so many bytes of another
pub record IsBehind (s t : Stretch) : Type 0 where
  pub count : ℕ
  pub within : count ≤ length s.bytes
  pub is : t ≡ behind count s

pub behind-none : (s : Stretch) → IsBehind s s
behind-none s = record { count = 0; within = omega arith; is = same s.bytes s.offset s.big (omega arith) }
  where
    same : (bytes : List ℕ) (place : ℕ) (big : Bool) → place ≡ place + 0 → ◌≡◌ {A = Stretch} (record { bytes = bytes; offset = place; big = big }) (record { bytes = bytes; offset = place + 0; big = big })
    same bytes place big e = cc

pub behind-both : (s t u : Stretch) → IsBehind s t → IsBehind t u → IsBehind s u
behind-both s t u h k = let count = ap (λ (x : Stretch). length x.bytes) h.is in record {
  count = h.count + k.count;
  within = let le = k.within in let first = h.within in omega (arith, length-drop h.count s.bytes);
  is = k.is ∙ ap (behind k.count) h.is ∙ together s.bytes s.offset s.big h.count k.count;
}
  where
    together : (bytes : List ℕ) (place : ℕ) (big : Bool) (m n : ℕ)
        → ◌≡◌ {A = Stretch} (record { bytes = drop n (drop m bytes); offset = place + m + n; big = big }) (record { bytes = drop (m + n) bytes; offset = place + (m + n); big = big })
    together bytes place big m n =
        let bytes_same : drop n (drop m bytes) ≡ drop (m + n) bytes = drop-drop n m bytes ∙ ap (λ (k : ℕ). drop k bytes) (omega arith) in
        let place_same : place + m + n ≡ place + (m + n) = omega arith in
        cc

-- it is a part of what the other is a part of
pub part-behind : (whole s t : Stretch) → IsPart whole s → IsBehind s t → IsPart whole t
part-behind whole s t part h =
    let P : Stretch → Type 0 = IsPart whole in
    let le = h.within in
    let from = part.from in
    let to = part.to in
    subst P (sym h.is) (record { from = omega arith; to = omega (arith, length-drop h.count s.bytes) })

-- ---- answers that leave what stands behind so many bytes

abbrev pub IsLeft : {A : Type 0} → Stretch → Result (A × Stretch) Error → Type 0
IsLeft s (Ok x) = IsBehind s x.1
IsLeft s (Err e) = Unit {0}

pub record Leaves {A : Type 0} (s : Stretch) (read : Result (A × Stretch) Error) : Type 0 where
  pub left : IsLeft s read

is_left-then : {A B : Type 0} (s : Stretch) (first : Result (A × Stretch) Error) (next : A × Stretch → Result (B × Stretch) Error)
    → IsLeft s first → ((x : A × Stretch) → IsBehind s x.1 → Leaves s (next x)) → IsLeft s (first >>= next)
is_left-then s (Ok x) next h others = (others x h).left
is_left-then s (Err e) next h others = tt

left-then : {A B : Type 0} {s : Stretch} {first : Result (A × Stretch) Error} {next : A × Stretch → Result (B × Stretch) Error}
    → Leaves s first → ((x : A × Stretch) → IsBehind s x.1 → Leaves s (next x)) → Leaves s (first >>= next)
left-then {s = s} {first = first} {next = next} h others = record { left = is_left-then s first next h.left others }

is_left-value : {X B : Type 0} (s : Stretch) (value : Result X Error) (next : X → Result (B × Stretch) Error) → ((x : X) → Leaves s (next x)) → IsLeft s (value >>= next)
is_left-value s (Ok x) next others = (others x).left
is_left-value s (Err e) next others = tt

left-value : {X B : Type 0} {s : Stretch} (value : Result X Error) {next : X → Result (B × Stretch) Error} → ((x : X) → Leaves s (next x)) → Leaves s (value >>= next)
left-value {s = s} value {next = next} others = record { left = is_left-value s value next others }

left-if : {A : Type 0} {s : Stretch} {a b : Result (A × Stretch) Error} (test : Bool) → Leaves s a → Leaves s b → Leaves s (cond test a b)
left-if true p q = p
left-if false p q = q

left-ok : {A : Type 0} {s : Stretch} {x : A × Stretch} → IsBehind s x.1 → Leaves s (Ok x)
left-ok h = record { left = h }

left-err : {A : Type 0} {s : Stretch} {e : Error} → Leaves {A = A} s (Err e)
left-err = record { left = tt }

is_left-from : {A : Type 0} (s t : Stretch) (read : Result (A × Stretch) Error) → IsBehind s t → IsLeft t read → IsLeft s read
is_left-from s t (Ok x) h k = behind-both s t x.1 h k
is_left-from s t (Err e) h k = tt

left-from : {A : Type 0} {s t : Stretch} {read : Result (A × Stretch) Error} → IsBehind s t → Leaves t read → Leaves s read
left-from {s = s} {t = t} {read = read} h k = record { left = is_left-from s t read h k.left }

-- .. where the answer is known
pub left-known : {A : Type 0} (s t : Stretch) (x : A) (read : Result (A × Stretch) Error) → Leaves s read → read ≡ Ok (x, t) → IsBehind s t
left-known {A = A} s t x read h is = let P : Result (A × Stretch) Error → Type 0 = IsLeft s in subst P is h.left

-- ---- reads

fixed-left : {A : Type 0} (n : ℕ) (s : Stretch) (e : Error) (x : A) → Leaves s (cond (nat_lt (length s.bytes) n) (Err e) (Ok (x, behind n s)))
fixed-left n s e x = by (nat_lt (length s.bytes) n) refl
  where
    by : (test : Bool) → nat_lt (length s.bytes) n ≡ test → Leaves s (cond test (Err e) (Ok (x, behind n s)))
    by true is = left-err
    by false is = left-ok (record { count = n; within = grind (arith, nat_tests); is = refl })

number-left : (n : ℕ) (s : Stretch) → Leaves s (number_at n s)
number-left n s = fixed-left n s _ _

split-left : (n : ℕ) (s : Stretch) → Leaves s (split_at n s)
split-left n s = fixed-left n s _ _

offset-left : (limit : ℕ) (s : Stretch) (n : ℕ × Stretch) → IsBehind s n.1 → Leaves s (as_offset limit n)
offset-left limit s n h = left-value (offset_below limit n.0) (λ offset. left-ok h)

word-left : (limit : ℕ) (s : Stretch) → Leaves s (word_at limit Dwarf64 s)
word-left limit s = left-then (number-left (word_size Dwarf64) s) (λ n h. offset-left limit s n h)

length-left : (limit : ℕ) (s : Stretch) (n : ℕ × Stretch) → IsBehind s n.1 → Leaves s (length_behind limit n)
length-left limit s n h =
    left-if _ (left-then (offset-left limit s n h) (λ length k. left-ok k))
    (left-if _ (left-then (left-from h (word-left limit n.1)) (λ length k. left-ok k))
    left-err)

pub initial_length-left : (limit : ℕ) (s : Stretch) → Leaves s (initial_length_at limit s)
initial_length-left limit s = left-then (number-left 4 s) (λ n h. length-left limit s n h)

pub entry-left : (section : FrameSection) (s : Stretch) → Leaves s (entry_at section s)
entry-left section s =
    left-then (initial_length-left section.limit s) (λ length h.
    left-if (length.0.0 == 0) (left-ok h)
    (left-then (left-from h (split-left length.0.0 length.1)) (λ parts k.
    left-value (entry_within section (record { offset = offset_in section s; length = length.0.0 }) length.0.1 parts.0) (λ entry. left-ok k))))
