use Rattle.std.proofs.Common.{◌++◌, ◌∙◌}
use Rattle.std.specs.Prelude.{codes}
use Rattle.std.proofs.lemmas.Result.{on_ok_weaker}
use Rattle.dwarf_frame_entries.specs.EntryViews.{cie_view}
use Rattle.frame_table.specs.Entries.{cie_factors, cie_register, prefix_text}
use Rattle.frame_table.specs.EntryPrefixViews.{prefix_view}
use Rattle.frame_table.proofs.Appends.{as_part, then}
use Rattle.frame_table.proofs.Entries.{same_prefix}
use Rattle.frame_table.proofs.cies.push_cie_line.Goals as goal

pub returns : goal.returns
returns g c =
    let cie = cie_view g.R.Reader.stretch g.R.Offset.ReaderOffset.value c.args.cie.now in
    let prefix = prefix_view g.R.Reader.stretch c.args.prefix.now.entry in
    let start = prefix_text cie.address_size cie.head prefix in
    let name = codes " CIE \"" in
    let said = (g.R.Reader.stretch c.args.prefix.now.augmentation).bytes in
    let old = c.args.text.now.items in
    let first = c.push_prefix.new.text.items in
    let second = c.push_bytes.new.text.items in
    let third = c.push_reader.new.text.items in
    let fourth = c.push_factors.new.text.items in
    let fifth = c.push_register.new.text.items in
    on_ok_weaker c.push_register.result
    (λ last. then old fourth fifth (start ++ name ++ said ++ cie_factors cie) (cie_register cie)
    (then old third fourth (start ++ name ++ said) (cie_factors cie)
    (then old second third (start ++ name) said
    (then old first second start name
    (as_part old first _ start c.in_ok-push_prefix.ensures
    (same_prefix _ _ _ _ _ _ prefix c.address_size-size.ensures (c.into_u64-offset.ensures.value ∙ c.offset.ensures) (c.into_u64-length.ensures.value ∙ c.entry_len.ensures)))
    c.in_ok-push_bytes.ensures)
    c.in_ok-push_reader.ensures)
    c.in_ok-push_factors.ensures)
    last)
    c.push_register.ensures
