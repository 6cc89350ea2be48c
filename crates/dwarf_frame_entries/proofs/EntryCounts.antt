-- How many entries a section has.
use Rattle.std.proofs.Common.{◌≡◌, ℕ, zero, suc, ◌≤◌, ◌<◌, List, [], ◌∷◌, length, Option, Some, None, Ok, Err, refl, sym, ◌∙◌, arith}
use Rattle.std.specs.List.{cons_option, filter_map}
use Rattle.list_laws.specs.Items.{Answer, Shrinks, items_from, items_of, items_within}
use Rattle.dwarf_readers.specs.Stretch.{Stretch}
use Rattle.dwarf_readers.specs.Remainder.{size_of}
use Rattle.dwarf_frame_rows.specs.FrameSection.{FrameSection}
use Rattle.dwarf_frame_entries.specs.EntryLists.{HasNoMoreThanBytes, entries_from, entry_there, next_length}
use Rattle.dwarf_frame_entries.proofs.EntryLists.{entries_shrink}

module _ {S A E : Type 0} (size : S → ℕ) (step : S → Answer S A E) (shrinks : Shrinks size step) (ends : (s : S) → size s ≡ 0 → step s ≡ Ok None) where
  -- an error takes something
  error-within : (s : S) (e : E) → step s ≡ Err e → (k : ℕ) → size s ≡ k → 1 ≤ size s
  error-within s e is zero none = let never : ◌≡◌ {A = Answer S A E} (Ok None) (Err e) = sym (ends s none) ∙ is in cc
  error-within s e is (suc k) some = omega arith

  -- the first item and the others
  first-within : (n : ℕ) (s : S) → ((rest : S) → length (items_within n step rest) ≤ size rest) → (answer : Answer S A E) → step s ≡ answer → length (items_from (items_within n step) answer) ≤ size s
  first-within n s others (Ok (Some (item, rest))) is = let less : size rest < size s = shrinks.smaller s rest item is in let more = others rest in omega arith
  first-within n s others (Ok None) is = omega arith
  first-within n s others (Err e) is = error-within s e is (size s) refl

  -- items that each make what is left smaller are no more than its size
  items-within : (n : ℕ) (s : S) → length (items_within n step s) ≤ size s
  items-within zero s = omega arith
  items-within (suc n) s = first-within n s (items-within n) (step s) refl

-- no more pass a filter than there are
length-cons_option : {Y : Type 0} (o : Option Y) (ys : List Y) (n : ℕ) → length ys ≤ n → length (cons_option o ys) ≤ suc n
length-cons_option (Some y) ys n le = omega arith
length-cons_option None ys n le = omega arith

length-filter_map : {X Y : Type 0} (f : X → Option Y) (xs : List X) → length (filter_map f xs) ≤ length xs
length-filter_map f [] = omega arith
length-filter_map f (x ∷ xs) = length-cons_option (f x) (filter_map f xs) (length xs) (length-filter_map f xs)

pub within_bytes : (section : FrameSection) → HasNoMoreThanBytes section
unfolding entries_from
within_bytes section =
    let s : Stretch = section.within.bytes in
    let items = items-within size_of (next_length section) (entries_shrink section) ended (suc (size_of s)) s in
    let kept = length-filter_map entry_there (items_of size_of (next_length section) s) in
    omega arith
  where
    ended : (s : Stretch) → size_of s ≡ 0 → next_length section s ≡ Ok None
    ended s none = rw none refl
