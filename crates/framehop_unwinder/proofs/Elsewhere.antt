-- A module that is loaded elsewhere changes no look-up: it starts in no other module, and is not the one that is found.
use Rattle.std.proofs.Common.{◌≡◌, ◌≢◌, ◌∙◌, ℕ, suc, ◌<◌, ◌≤◌, ap, sym, refl, arith, Bool, true, false, List, [], ◌∷◌, Option, Some, None, ◌⊎◌, inl, inr}
use Rattle.std.specs.Prelude.{nat_le, nat_lt, ◌==◌, ◌&&◌, IfSome, option_and_then, if◌then◌else◌}
use Rattle.std.specs.List.{All, filter}
use Rattle.std.specs.List.Sorted.{IsNonDecreasingBy}
use Rattle.std.proofs.lemmas.Bool.{leb-true, leb-false, or_parts, or_from, ne_eqb, le-ltb, eqb-false, ltb-false, le-leb}
use Rattle.std.proofs.lemmas.List.Kept.{IsNonDecreasingBy-filter}
use Rattle.list_laws.specs.Last.{last_of}
use Rattle.list_laws.proofs.Laws.{last_of-cons, last_of-none, last_greatest-sorted}
use Rattle.framehop_unwinder.specs.Modules.{Loaded, nearest_module, is_inside, has_relative, if_inside, module_found, with_module}
use Rattle.framehop_unwinder.specs.ModulesApart.{StartsOutside}

module _ {X : Type 0} where
  by-last : (x : X) (ys zs : List X) → last_of zs ≡ last_of ys → (last : Option X) → last_of ys ≡ last → last_of (x ∷ zs) ≡ last_of (x ∷ ys)
  by-last x ys zs same None is = rw (last_of-none ys is, last_of-none zs (same ∙ is)) refl
  by-last x ys zs same (Some y) is = last_of-cons x y zs (same ∙ is) ∙ sym (last_of-cons x y ys is)

  -- the same last, with one more in front
  cons-same : (x : X) (ys zs : List X) → last_of zs ≡ last_of ys → last_of (x ∷ zs) ≡ last_of (x ∷ ys)
  cons-same x ys zs same = by-last x ys zs same (last_of ys) refl

module _ {Data : Type 0} (address : ℕ) (new : Loaded Data) where
  abbrev below : Loaded Data → Bool
  below m = nat_le m.start address

  abbrev more : List (Loaded Data) → List (Loaded Data)
  more ms = with_module (λ m. m.start) new ms

  -- a new module above the address is filtered out
  skipped-at : below new ≡ false → (m : Loaded Data) (ms : List (Loaded Data)) → filter below (more ms) ≡ filter below ms → (test : Bool)
      → filter below (if test then new ∷ m ∷ ms else m ∷ more ms) ≡ filter below (m ∷ ms)
  skipped-at above m ms others true = rw above refl
  skipped-at above m ms others false = rw others refl

  skipped : below new ≡ false → (ms : List (Loaded Data)) → filter below (more ms) ≡ filter below ms
  skipped above [] = rw above refl
  skipped above (m ∷ ms) = skipped-at above m ms (skipped above ms) (nat_le new.start m.start)

  -- an address past the start of a module that starts outside another is outside that other
  outside : (m : Loaded Data) → m.start ≤ new.start → new.start ≤ address → StartsOutside new m → is_inside address m ≡ false
  outside m le at apart =
      let parts = or_parts (new.start == m.start) (nat_lt new.start m.end) (apart le) in
      let differ : new.start ≢ m.start = eqb-false new.start m.start parts.0 in
      let past : m.end ≤ new.start = ltb-false new.start m.end parts.1 in
      or_from (address == m.start) (nat_lt address m.end) (ne_eqb address m.start (λ same. differ (omega arith))) (le-ltb address m.end (omega arith))

  -- the last at or below the address is the same with the new module, or it is the new one, and without it the address is in none
  abbrev IsSameOr : Option (Loaded Data) → Option (Loaded Data) → Type 0
  IsSameOr after before = (after ≡ before) ⊎ ((after ≡ Some new) × IfSome before (λ m. is_inside address m ≡ false))

  module _ (under : below new ≡ true) where
    -- it goes before the module in front
    in-front : (ms : List (Loaded Data)) (last : Option (Loaded Data)) → last_of ms ≡ last → IsSameOr (last_of (new ∷ ms)) (last_of ms)
    in-front ms (Some m) is = inl (last_of-cons new m ms is ∙ sym is)
    in-front ms None is = rw (last_of-none ms is) (inr (refl, tt))

    -- it goes behind the module in front
    behind : (m : Loaded Data) (ys zs : List (Loaded Data)) → m.start ≤ new.start → StartsOutside new m → IsSameOr (last_of zs) (last_of ys) → (last : Option (Loaded Data)) → last_of ys ≡ last → IsSameOr (last_of (m ∷ zs)) (last_of (m ∷ ys))
    behind m ys zs le apart (inl same) last is = inl (cons-same m ys zs same)
    behind m ys zs le apart (inr (new_last, out)) (Some x) is =
        inr (last_of-cons m new zs new_last, rw (last_of-cons m x ys is) (rw is at out))
    behind m ys zs le apart (inr (new_last, out)) None is =
        inr (last_of-cons m new zs new_last, rw (last_of-none ys is) (outside m le (leb-true new.start address under) apart))

    last-at : (m : Loaded Data) (ms : List (Loaded Data)) → StartsOutside new m → IsSameOr (last_of (filter below (more ms))) (last_of (filter below ms)) → (test : Bool) → nat_le new.start m.start ≡ test
        → IsSameOr (last_of (filter below (if test then new ∷ m ∷ ms else m ∷ more ms))) (last_of (filter below (m ∷ ms)))
    last-at m ms here others true is = rw under (in-front (filter below (m ∷ ms)) (last_of (filter below (m ∷ ms))) refl)
    last-at m ms here others false is =
        let lower : m.start < new.start = leb-false new.start m.start is in
        let passes : below m ≡ true = le-leb m.start address (omega (arith, leb-true new.start address under)) in
        rw passes (behind m (filter below ms) (filter below (more ms)) (omega arith) here others (last_of (filter below ms)) refl)

    last-is : (ms : List (Loaded Data)) → All (StartsOutside new) ms → IsSameOr (last_of (filter below (more ms))) (last_of (filter below ms))
    last-is [] apart = rw under (inr (refl, tt))
    last-is (m ∷ ms) apart = last-at m ms (apart 0 m (omega arith)) (last-is ms (λ k d h. apart (suc k) d (omega arith))) (nat_le new.start m.start) refl

  if-outside : (m : Loaded Data) → is_inside address m ≡ false → if_inside address m ≡ None
  if-outside m out = rw out refl

  new-not : (test : Bool) → (if test then Some new else None) ≢ Some new → (if test then Some new else None) ≡ None
  new-not true differs = absurd (differs refl)
  new-not false differs = refl

  none-inside : (before : Option (Loaded Data)) → IfSome before (λ m. is_inside address m ≡ false) → option_and_then (if_inside address) before ≡ None
  none-inside None out = refl
  none-inside (Some m) out = if-outside m out

  found-same : (after before : Option (Loaded Data)) → IsSameOr after before → option_and_then (if_inside address) after ≢ Some new → option_and_then (if_inside address) after ≡ option_and_then (if_inside address) before
  found-same after before (inl same) differs = ap (option_and_then (if_inside address)) same
  found-same after before (inr (is, out)) differs =
      let at : option_and_then (if_inside address) after ≡ if_inside address new = ap (option_and_then (if_inside address)) is in
      at ∙ new-not (is_inside address new && has_relative address new) (λ same. differs (at ∙ same)) ∙ sym (none-inside before out)

  same-nearest : (ms : List (Loaded Data)) → IsNonDecreasingBy (λ m. m.start) ms → nearest_module ms address ≡ last_of (filter below ms)
  same-nearest ms ordered = last_greatest-sorted (λ m. m.start) (filter below ms) (IsNonDecreasingBy-filter (λ m. m.start) below ms ordered)

  by-below : (ms : List (Loaded Data)) (test : Bool) → below new ≡ test → All (StartsOutside new) ms → IsSameOr (last_of (filter below (more ms))) (last_of (filter below ms))
  by-below ms true is apart = last-is is ms apart
  by-below ms false is apart = inl (ap last_of (skipped is ms))

  -- a module that is not found changes no look-up
  pub elsewhere : (ms : List (Loaded Data)) → IsNonDecreasingBy (λ m. m.start) ms → IsNonDecreasingBy (λ m. m.start) (more ms) → All (StartsOutside new) ms
      → module_found (more ms) address ≢ Some new → module_found (more ms) address ≡ module_found ms address
  elsewhere ms ordered also apart differs =
      let after = same-nearest (more ms) also in
      let before = same-nearest ms ordered in
      ap (option_and_then (if_inside address)) after
      ∙ found-same (last_of (filter below (more ms))) (last_of (filter below ms)) (by-below ms (below new) refl apart)
      (λ same. differs (ap (option_and_then (if_inside address)) after ∙ same))
      ∙ sym (ap (option_and_then (if_inside address)) before)
