-- Values that a table of names does not list.
use Rattle.std.proofs.Common.{◌≡◌, ◌++◌, ◌==◌, if◌then◌else◌, Bool, true, false, ℕ, List, [], ◌∷◌, Option, Some, None, option_map, ◌∙◌, ap, refl, sym}
use Rattle.std.specs.Option.{option_or}
use Rattle.std.proofs.lemmas.Bool.{ne_eqb}
use Rattle.dwarf_constants.specs.Names.{name_in}

-- what is known where the test for each of a table's values failed, besides what was known before
abbrev pub IsUnlisted : Type 0 → List (ℕ × List ℕ) → ℕ → Type 0
IsUnlisted before [] value = before
IsUnlisted before (entry ∷ entries) value = IsUnlisted (before × (value ≡ entry.0 → ⊥)) entries value

-- then the value has no name there
name_in-IsUnlisted : (before : Type 0) (entries : List (ℕ × List ℕ)) (value : ℕ)
    → IsUnlisted before entries value → before × (name_in entries value ≡ None)
name_in-IsUnlisted before [] value h = (h, refl)
name_in-IsUnlisted before (entry ∷ entries) value h =
    let rest = name_in-IsUnlisted (before × (value ≡ entry.0 → ⊥)) entries value h in
    (rest.0.0, rw (ne_eqb value entry.0 rest.0.1) rest.1)

-- the same, where nothing was known before
pub no_name : (entries : List (ℕ × List ℕ)) (value : ℕ) → IsUnlisted Unit entries value
    → None ≡ name_in entries value
no_name entries value h = sym (name_in-IsUnlisted Unit entries value h).1

-- the name in two tables, one behind the other, is the first's if it has one
or_if : (b : Bool) (name : List ℕ) (whole front back : Option (List ℕ)) → whole ≡ option_or front back
    → (if b then Some name else whole) ≡ option_or (if b then Some name else front) back
or_if true name whole front back h = refl
or_if false name whole front back h = h

pub name_in-++ : (front back : List (ℕ × List ℕ)) (value : ℕ)
    → name_in (front ++ back) value ≡ option_or (name_in front value) (name_in back value)
name_in-++ [] back value = refl
name_in-++ (entry ∷ entries) back value =
    or_if (value == entry.0) entry.1 _ (name_in entries value) (name_in back value) (name_in-++ entries back value)

-- a function goes through to where the value is
map_or : {A B : Type 0} (f : A → B) (front back : Option A)
    → option_map f (option_or front back) ≡ option_or (option_map f front) (option_map f back)
map_or f None back = refl
map_or f (Some a) back = refl

-- so does what is found in the first, or else in the second, by other means
pub name_in_either : {A : Type 0} (text : A → List ℕ) (found front_name back_name : Option A)
    (front back : List (ℕ × List ℕ)) (value : ℕ) → found ≡ option_or front_name back_name
    → option_map text front_name ≡ name_in front value → option_map text back_name ≡ name_in back value
    → option_map text found ≡ name_in (front ++ back) value
name_in_either text found front_name back_name front back value is in_front in_back =
    ap (option_map text) is ∙ map_or text front_name back_name
    ∙ ap (λ o. option_or o (option_map text back_name)) in_front ∙ ap (option_or (name_in front value)) in_back
    ∙ sym (name_in-++ front back value)
