use Rattle.std.proofs.Common.{◌≡◌, ℕ, ap, ◌∙◌}
use Rattle.std.proofs.lemmas.Result.{on_ok_weaker}
use Rattle.dwarf_frame_entries.specs.Entries.{Cie}
use Rattle.frame_table.specs.Entries.{fde_places}
use Rattle.frame_table.specs.EntryPrefixViews.{prefix_view}
use Rattle.frame_table.proofs.Appends.{as_part, then}
use Rattle.frame_table.proofs.Entries.{same_prefix}
use Rattle.frame_table.proofs.fdes.push_fde_line.Goals as goal

-- the same places, by equal numbers
same_places : (size size' cie start start' end end' : ℕ) → size ≡ size' → start ≡ start' → end ≡ end'
    → fde_places size cie start end ≡ fde_places size' cie start' end'
same_places size size' cie start start' end end' z s e =
    ap (λ (n : ℕ). fde_places n cie start end) z ∙ ap (λ (n : ℕ). fde_places size' cie n end) s ∙ ap (λ (n : ℕ). fde_places size' cie start' n) e

pub returns : goal.returns
returns g c =
    let size = c.address_size-size.ensures ∙ ap (λ (cie : Cie). cie.address_size) c.cie-cie.ensures in
    on_ok_weaker c.push_places.result
    (λ last. then _ _ _ _ _
    (as_part _ _ _ _ c.in_ok-push_prefix.ensures
    (same_prefix _ _ _ _ _ _ (prefix_view g.R.Reader.stretch c.args.prefix.now) size (c.into_u64-offset.ensures.value ∙ c.offset.ensures) (c.into_u64-length.ensures.value ∙ c.entry_len.ensures)))
    (as_part _ _ _ _ last (same_places _ _ _ _ _ _ _ size c.initial_address-start.ensures c.end_address-end.ensures)))
    c.push_places.ensures
