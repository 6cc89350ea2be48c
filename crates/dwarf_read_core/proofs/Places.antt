-- Where the declarations of codes stand.
use Rattle.std.proofs.Common.{◌≡◌, ℕ, suc, ◌+◌, ◌-◌, List, [], ◌∷◌, ◌++◌, length, ◌==◌, Bool, true, false, cond, Option, Some, None, is_some, option_map, refl, sym, ap, subst, ◌∙◌, ⊎_elim, arith}
use Rattle.std.specs.Prelude.{map, slice_get}
use Rattle.std.specs.Borrow.{Bor}
use Rattle.std.specs.Slice.{IsItemAt}
use Rattle.std.proofs.lemmas.Bool.{cases_eq}
use Rattle.std.proofs.lemmas.Bool.Decides.{nat_tests}
use Rattle.std.proofs.lemmas.Option.{slice_get-map, slice_get_past, slice_get_read}
use Rattle.dwarf_read_core.specs.Abbreviations.{declaration}
use Rattle.dwarf_read_core.specs.declared.abbrev.Abbreviation.{Abbreviation}
use Rattle.dwarf_read_core.specs.AbbreviationTable.{Declaration, declaration_for, has_code, is_among_first, place_among}

is_some_suc : (o : Option ℕ) → is_some (option_map suc o) ≡ is_some o
is_some_suc None = refl
is_some_suc (Some i) = refl

-- a code is there where it has a place
pub has_code_place_of : (code : ℕ) (ds : List Declaration) → is_some (place_among code ds) ≡ has_code code ds
has_code_place_of code [] = refl
has_code_place_of code (d ∷ ds) = elim (d.code == code) as (λ here. is_some (cond here (Some 0) (option_map suc (place_among code ds))) ≡ cond here true (has_code code ds)) [
  | true ↦ refl
  | false ↦ is_some_suc (place_among code ds) ∙ has_code_place_of code ds
]

none_from_test : (o : Option ℕ) → is_some o ≡ false → o ≡ None
none_from_test None absent = refl
none_from_test (Some i) absent = cc

-- a code that isn't there has no place
pub no_place : (code : ℕ) (ds : List Declaration) → has_code code ds ≡ false → place_among code ds ≡ None
no_place code ds absent = none_from_test (place_among code ds) (has_code_place_of code ds ∙ absent)

-- what stands at a place, if there is one
abbrev pub at_place : List Declaration → Option ℕ → Option Declaration
at_place ds None = None
at_place ds (Some i) = slice_get ds i

at_place_suc : (d : Declaration) (ds : List Declaration) (o : Option ℕ) → at_place (d ∷ ds) (option_map suc o) ≡ at_place ds o
at_place_suc d ds None = refl
at_place_suc d ds (Some i) = refl

-- the declaration of a code stands at its place
pub declared_place_of : (code : ℕ) (ds : List Declaration) → at_place ds (place_among code ds) ≡ declaration_for code ds
declared_place_of code [] = refl
declared_place_of code (d ∷ ds) = elim (d.code == code) as (λ here. at_place (d ∷ ds) (cond here (Some 0) (option_map suc (place_among code ds))) ≡ cond here (Some d) (declaration_for code ds)) [
  | true ↦ refl
  | false ↦ at_place_suc d ds (place_among code ds) ∙ declared_place_of code ds
]

-- what a look-up at a place lent
pub lent_at_place : (xs : List Abbreviation) (i : ℕ) (r : Option (Bor Abbreviation)) → IsItemAt xs i r → option_map (λ a. declaration a.now) r ≡ slice_get (map declaration xs) i
lent_at_place xs i None past = sym (slice_get-map declaration xs i ∙ ap (option_map declaration) (slice_get_past xs i past.3))
lent_at_place xs i (Some x) within = sym (slice_get-map declaration xs i ∙ ap (option_map declaration) (slice_get_read xs (length xs) i x.now refl within.3.0 within.1))

-- this place, or else the next one if the code stands there
abbrev or_next : Option ℕ → Bool → ℕ → Option ℕ
or_next None here next = cond here (Some next) None
or_next (Some i) here next = Some i

or_next_suc : (o : Option ℕ) (here : Bool) (next : ℕ) → option_map suc (or_next o here next) ≡ or_next (option_map suc o) here (suc next)
or_next_suc None true next = refl
or_next_suc None false next = refl
or_next_suc (Some i) here next = refl

or_next_elsewhere : (o : Option ℕ) (next : ℕ) → or_next o false next ≡ o
or_next_elsewhere None next = refl
or_next_elsewhere (Some i) next = refl

place_of_push : (code : ℕ) (ds : List Declaration) (d : Declaration) → place_among code (ds ++ d ∷ []) ≡ or_next (place_among code ds) (d.code == code) (length ds)
place_of_push code [] d = refl
place_of_push code (e ∷ ds) d = elim (e.code == code) as (λ here. cond here (Some 0) (option_map suc (place_among code (ds ++ d ∷ []))) ≡ or_next (cond here (Some 0) (option_map suc (place_among code ds))) (d.code == code) (suc (length ds))) [
  | true ↦ refl
  | false ↦ ap (option_map suc) (place_of_push code ds d) ∙ or_next_suc (place_among code ds) (d.code == code) (length ds)
]

place_elsewhere : (code : ℕ) (ds : List Declaration) (d : Declaration) → (d.code ≡ code → ⊥) → place_among code (ds ++ d ∷ []) ≡ place_among code ds
place_elsewhere code ds d apart =
    let other : (d.code == code) ≡ false = grind (arith, nat_tests) in
    place_of_push code ds d ∙ rw other (or_next_elsewhere (place_among code ds) (length ds))

place_there : (ds : List Declaration) (d : Declaration) → place_among d.code ds ≡ None → place_among d.code (ds ++ d ∷ []) ≡ Some (length ds)
place_there ds d fresh =
    let here : (d.code == d.code) ≡ true = grind (arith, nat_tests) in
    place_of_push d.code ds d ∙ rw (fresh, here) refl

-- so many first declarations have the codes 1, 2, .., and the others are at these places
abbrev pub StandAt : List Declaration → ℕ → (ℕ → Option ℕ) → Type 0
StandAt ds dense others = (code : ℕ) → place_among code ds ≡ cond (is_among_first code dense) (Some (code - 1)) (others code)

-- the next code in order, where all have been in order
pub stand_in_order : (ds : List Declaration) (d : Declaration) (dense : ℕ) (others : ℕ → Option ℕ) → StandAt ds dense others → place_among d.code ds ≡ None → dense ≡ length ds → d.code ≡ dense + 1 → StandAt (ds ++ d ∷ []) (dense + 1) others
stand_in_order ds d dense others stand fresh all next = λ code. ⊎_elim
    (λ same.
    let among : is_among_first code (dense + 1) ≡ true = grind (arith, nat_tests) in
    let number : code - 1 ≡ length ds = omega arith in
    rw (among, number) (subst (λ (q : ℕ). place_among q (ds ++ d ∷ []) ≡ Some (length ds)) same (place_there ds d fresh)))
    (λ apart.
    let among : is_among_first code (dense + 1) ≡ is_among_first code dense = grind (arith, nat_tests) in
    rw among (place_elsewhere code ds d apart ∙ stand code))
    (cases_eq d.code code)

not_first : (first : Bool) (i : ℕ) (other now : Option ℕ) → cond first (Some i) other ≡ None → cond first (Some i) now ≡ now
not_first true i other now fresh = cc
not_first false i other now fresh = refl

-- another code, put among the others
pub stand_apart : (ds : List Declaration) (d : Declaration) (dense : ℕ) (others now : ℕ → Option ℕ) → StandAt ds dense others → place_among d.code ds ≡ None → now d.code ≡ Some (length ds) → ((code : ℕ) → (d.code ≡ code → ⊥) → now code ≡ others code) → StandAt (ds ++ d ∷ []) dense now
stand_apart ds d dense others now stand fresh there others_same = λ code. ⊎_elim
    (λ same. subst (λ (q : ℕ). place_among q (ds ++ d ∷ []) ≡ cond (is_among_first q dense) (Some (q - 1)) (now q)) same
    (place_there ds d fresh ∙ sym there ∙ sym (not_first (is_among_first d.code dense) (d.code - 1) (others d.code) (now d.code) (sym (stand d.code) ∙ fresh))))
    (λ apart. rw (others_same code apart) (place_elsewhere code ds d apart ∙ stand code))
    (cases_eq d.code code)
