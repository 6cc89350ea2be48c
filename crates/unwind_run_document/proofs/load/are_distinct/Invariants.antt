use Rattle.std.proofs.Common.{◌≡◌, drop, ℕ, List, Bor}
use Rattle.std.specs.Prelude.{bytes_eq}
use Rattle.std.specs.List.{list_any}
use Rattle.std.specs.BTreeSet.{contains}
use Rattle.std.specs.Ordering.{nat_cmp}
use Rattle.std.specs.Cmp.Lexicographic.{slice_cmp}
use Rattle.serde_json.specs.View.{items_view}
use Rattle.unwind_run_document.specs.Sections.{are_distinct, are_new, names_of}
use Rattle.unwind_run_document.proofs.load.are_distinct.Given as goal

abbrev pub invariant-loop-item : goal.invariant-loop-item
invariant-loop-item l =
    (shown : List (List ℕ))
    × (are_distinct (names_of (items_view l.item-items)) ≡ are_new shown (names_of (items_view (drop l.item-index l.item-items))))
    × ((q : Bor (List ℕ)) → contains (λ x y. slice_cmp nat_cmp x.now y.now) l.before q ≡ list_any (λ other. bytes_eq other q.now) shown)
