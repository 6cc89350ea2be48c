-- Names that are looked for among those before them.
use Rattle.std.proofs.Common.{Ordering, ◌≡◌, ℕ, ◌+◌, ◌<◌, List, ◌∷◌, ◌++◌, Bool, true, false, cond, ◌&&◌, ◌||◌, not, Bor, Option, length, get_or, drop, refl, sym, ap, ◌∙◌}
use Rattle.std.specs.Prelude.{bytes_eq, codes, option_to_list, option_and_then}
use Rattle.std.specs.List.{list_any}
use Rattle.std.specs.BTreeSet.{BTreeSet, contains, Updates}
use Rattle.std.specs.Ordering.{nat_cmp}
use Rattle.std.specs.Cmp.Lexicographic.{slice_cmp}
use Rattle.std.proofs.lemmas.Map.Text.{is_eq-slice_cmp}
use Rattle.serde_json.specs.Find.{get, as_str}
use Rattle.serde_json.specs.View.{view, items_view}
use Rattle.serde_json.specs.declared.value.Value.{Value}
use Rattle.unwind_run_document.specs.Sections.{are_new, names_of}
use Rattle.json_program.proofs.Laws.{drop-element}

abbrev pub text_cmp : Bor (List ℕ) → Bor (List ℕ) → Ordering
text_cmp x y = slice_cmp nat_cmp x.now y.now

-- the name of an element, if it has one, before the names of those after it
pub names_of-drop : (vs : List Value) (i : ℕ) (v : Value) (name : Option (List ℕ)) → i < length vs → v ≡ get_or vs i v
    → name ≡ option_and_then as_str (get (codes "name") (view v))
    → names_of (items_view (drop i vs)) ≡ option_to_list name ++ names_of (items_view (drop (i + 1) vs))
names_of-drop vs i v name within is named =
    ap (λ ws. names_of (items_view ws)) (drop-element vs i v within is)
    ∙ ap (λ o. option_to_list o ++ names_of (items_view (drop (i + 1) vs))) (sym named)

-- a name that is not among those before it is passed over
pub are_new-more : (before names : List (List ℕ)) (name : List ℕ) (found : Bool) → found ≡ list_any (λ other. bytes_eq other name) before → not found ≡ true
    → are_new before (name ∷ names) ≡ are_new (name ∷ before) names
are_new-more before names name found is new =
    ap (λ b. not b && are_new (name ∷ before) names) (sym is) ∙ ap (λ b. b && are_new (name ∷ before) names) new

-- one that is among them decides
pub are_new-again : (before names : List (List ℕ)) (name : List ℕ) (found : Bool) → found ≡ list_any (λ other. bytes_eq other name) before → not found ≡ false
    → are_new before (name ∷ names) ≡ false
are_new-again before names name found is old =
    ap (λ b. not b && are_new (name ∷ before) names) (sym is) ∙ ap (λ b. b && are_new (name ∷ before) names) old

or_else : (a b : Bool) → cond a true b ≡ (a || b)
or_else true b = refl
or_else false b = refl

-- the set has the names so far and one more
pub contains-more : (seen later : BTreeSet (Bor (List ℕ))) (name : Bor (List ℕ)) (before : List (List ℕ)) → Updates text_cmp seen later name true
    → ((q : Bor (List ℕ)) → contains text_cmp seen q ≡ list_any (λ other. bytes_eq other q.now) before)
    → (q : Bor (List ℕ)) → contains text_cmp later q ≡ list_any (λ other. bytes_eq other q.now) (name.now ∷ before)
contains-more seen later name before updates has q =
    updates.0 q ∙ ap (λ b. cond b true (contains text_cmp seen q)) (is_eq-slice_cmp name.now q.now)
    ∙ or_else (bytes_eq name.now q.now) (contains text_cmp seen q) ∙ ap (λ b. bytes_eq name.now q.now || b) (has q)
