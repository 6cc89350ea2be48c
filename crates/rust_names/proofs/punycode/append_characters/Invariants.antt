use Rattle.std.proofs.Common.{◌≡◌, drop}
use Rattle.rust_names.specs.Punycode.{characters_appended}
use Rattle.rust_names.proofs.punycode.append_characters.Given as goal

-- what is left, behind the text so far, gives what all give
abbrev pub invariant-loop-character : goal.invariant-loop-character
invariant-loop-character l =
    characters_appended (drop l.character-index l.characters) l.text.items ≡ characters_appended l.characters l.fn.text.items
