use Rattle.std.proofs.Common.{◌≡◌, ap, sym, ◌∙◌, inl, inr, Ok, Some, None, option_map}
use Rattle.std.proofs.lemmas.Result.{err_from_is_err_and}
use Rattle.dwarf_read_core.specs.AbbreviationTable.{next_declaration}
use Rattle.dwarf_read_core.specs.Abbreviations.{declaration}
use Rattle.dwarf_read_core.specs.DebugAbbrev.{declarations}
use Rattle.dwarf_read_core.proofs.Tables.{declarations_shrink, table_end, table_from, table_more, table_refused, table_start}
use Rattle.dwarf_readers.specs.Stretch.{◌>>=◌}
use Rattle.dwarf_read_core.proofs.abbrev.Abbreviations.parse.Goals as goal

pub table-init : goal.table-init
table-init g c = rw c.new-table.ensures (table_start (g.R.Reader.stretch c.args.input.now))

pub returns-in_err-abbreviation : goal.returns-in_err-abbreviation
returns-in_err-abbreviation g c =
    let seen = declarations c.table.table in
    let s = g.R.Reader.stretch c.table.input in
    let e = err_from_is_err_and c.from_residual.result c.from_residual.ensures.1 in
    rw (e.1, e.2) (elim c.in_err-abbreviation.ensures [
      | inl h ↦ inl (sym c.table.invariant ∙ table_refused seen s _ h)
      | inr memory ↦ inr memory
    ])

pub table-preserved : goal.table-preserved
table-preserved g c =
    let seen = declarations c.table.table in
    let s = g.R.Reader.stretch c.table.input in
    let t = g.R.Reader.stretch c.read_abbreviation.new.input in
    let read : next_declaration s ≡ Ok (Some (declaration c.in-Some.abbreviation, t)) =
    c.in_ok-abbreviation.ensures ∙ ap (λ a. Ok (option_map (λ a. (declaration a, t)) a)) c.in-Some.is in
    sym (table_more seen s t (declaration c.in-Some.abbreviation) read ∙ ap (λ table. table >>= λ now. table_from now t) c.in_ok-table-in-Some.ensures) ∙ c.table.invariant

pub returns-in_err-table-in-Some : goal.returns-in_err-table-in-Some
returns-in_err-table-in-Some g c =
    let seen = declarations c.table.table in
    let s = g.R.Reader.stretch c.table.input in
    let t = g.R.Reader.stretch c.read_abbreviation.new.input in
    let read : next_declaration s ≡ Ok (Some (declaration c.in-Some.abbreviation, t)) =
    c.in_ok-abbreviation.ensures ∙ ap (λ a. Ok (option_map (λ a. (declaration a, t)) a)) c.in-Some.is in
    let e = err_from_is_err_and c.from_residual-in_err-table-in-Some.result c.from_residual-in_err-table-in-Some.ensures.1 in
    rw (e.1, e.2) (elim c.in_err-table-in-Some.ensures [
      | inl twice ↦ inl (sym c.table.invariant ∙ table_more seen s t (declaration c.in-Some.abbreviation) read ∙ ap (λ table. table >>= λ now. table_from now t) twice)
      | inr memory ↦ inr memory
    ])

pub returns-in-None : goal.returns-in-None
returns-in-None g c =
    let seen = declarations c.table.table in
    let s = g.R.Reader.stretch c.table.input in
    let t = g.R.Reader.stretch c.read_abbreviation.new.input in
    let read : next_declaration s ≡ Ok None =
    c.in_ok-abbreviation.ensures ∙ ap (λ a. Ok (option_map (λ a. (declaration a, t)) a)) c.in-None.is in
    sym c.table.invariant ∙ table_end seen s read

pub table-smaller : goal.table-smaller
table-smaller g c =
    let s = g.R.Reader.stretch c.table.input in
    let t = g.R.Reader.stretch c.read_abbreviation.new.input in
    let read : next_declaration s ≡ Ok (Some (declaration c.in-Some.abbreviation, t)) =
    c.in_ok-abbreviation.ensures ∙ ap (λ a. Ok (option_map (λ a. (declaration a, t)) a)) c.in-Some.is in
    declarations_shrink.smaller s t (declaration c.in-Some.abbreviation) read
