use Rattle.std.proofs.Common.{◌≡◌, ◌+◌, ℕ, List, Bor, Option, Some, None, drop, option_map, refl, sym, ap, ◌∙◌, ◌∷◌}
use Rattle.std.specs.BTreeSet.{contains}
use Rattle.serde_json.specs.View.{items_view}
use Rattle.unwind_run_document.specs.Sections.{are_new, names_of}
use Rattle.unwind_run_document.proofs.Names.{text_cmp, names_of-drop, are_new-more, contains-more}
use Rattle.unwind_run_document.proofs.load.are_distinct.Goals as goal
use Rattle.unwind_run_document.proofs.load.are_distinct.Goals.{in-Some+in_ok-insert+else-not-branch, in_default}

no_text : (o : Option (Bor (List ℕ))) → ((x : Bor (List ℕ)) → o ≡ Some x → ⊥) → option_map (λ s. s.now) o ≡ None
no_text None h = refl
no_text (Some x) h = absurd (h x refl)

pub loop-item-preserved : goal.loop-item-preserved
loop-item-preserved c =
    let vs = c.deref-item-items.result.now in
    let i = c.loop-item.item-index in
    let shown = c.loop-item.invariant.0 in
    let has = c.loop-item.invariant.2 in
    let rest = names_of (items_view (drop (i + 1) vs)) in
    elim c.match-name_of.branch [
      | in-Some+in_ok-insert+else-not-branch w ↦
          let name = w.in-Some.name in (
            name.now ∷ shown,
            c.loop-item.invariant.1
                ∙ ap (are_new shown) (names_of-drop vs i c.item-item.result (Some name.now) c.loop-item-test.true c.item-item.is
                (sym (ap (option_map (λ s. s.now)) w.in-Some.is) ∙ c.name_of.ensures))
                ∙ are_new-more shown rest name.now (contains text_cmp c.loop-item.before name) (has name) (sym w.in_ok-insert.ensures.added ∙ w.if-not-branch.false),
            λ q. ap (λ s. contains text_cmp s q) w.before-is ∙ contains-more c.loop-item.before w.insert.new.self name shown w.in_ok-insert.ensures.updates has q,
          )
      | in_default w ↦ (
        shown,
        c.loop-item.invariant.1
            ∙ ap (are_new shown) (names_of-drop vs i c.item-item.result None c.loop-item-test.true c.item-item.is
            (sym (no_text c.name_of.result w.in_default.not-Some) ∙ c.name_of.ensures)),
        λ q. ap (λ s. contains text_cmp s q) w.before-is ∙ has q,
      )
    ]
