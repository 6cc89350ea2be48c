use Rattle.std.proofs.Common.{◌≡◌, [], List, ℕ, refl, sym, ap, subst, ◌∙◌}
use Rattle.dwarf_readers.specs.Stretch.{Stretch}
use Rattle.dwarf_frame_instructions.specs.Instructions.{Conventions, instructions_of}
use Rattle.frame_table.proofs.cies.no_instructions.Goals as goal

-- where no bytes are, no instructions are
none_in : (conventions : Conventions) (s : Stretch) → s.bytes ≡ [] → instructions_of conventions s ≡ []
unfolding instructions_of
none_in conventions s none =
    let P : List ℕ → Type 0 = λ bytes. instructions_of conventions (record { bytes = bytes; offset = s.offset; big = s.big }) ≡ [] in
    subst P (sym none) refl

pub returns : goal.returns
returns g c = c.new.ensures ∙ none_in _ _ (ap (λ (s : Stretch). s.bytes) c.empty.ensures)
