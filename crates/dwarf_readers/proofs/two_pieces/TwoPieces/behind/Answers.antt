use Rattle.std.proofs.Common.{◌-◌, refl}
use Rattle.std.proofs.lemmas.List.{take_rest}
use Rattle.dwarf_readers.proofs.Pieces.{drop_pieces}
use Rattle.dwarf_readers.proofs.two_pieces.TwoPieces.behind.Goals as goal

pub returns-clause-stretch : goal.returns-clause-stretch
returns-clause-stretch g c =
    let first = c.args.self.now.first.now in
    let second = c.args.self.now.second.now in
    let of_first = c.min-of_first.result in
    let rest = drop_pieces c.args.len of_first first second c.min-of_first.ensures in
    rw (take_rest first of_first, take_rest second (c.args.len - of_first), rest) refl
