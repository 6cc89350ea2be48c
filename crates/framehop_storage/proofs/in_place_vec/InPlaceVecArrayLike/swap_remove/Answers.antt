use Rattle.std.proofs.Common.{◌≡◌, ◌-◌, get_or, take, arith, rules}
use Rattle.framehop_storage.proofs.Lists.{removed}
use Rattle.framehop_storage.proofs.in_place_vec.InPlaceVecArrayLike.swap_remove.Goals as goal

pub returns-clause-rest : goal.returns-clause-rest
returns-clause-rest g c =
    let inside = c.self.inside in
    let xs = inside.places.items in
    let shown : c.args.self.now.items ≡ take inside.len xs = search rules in
    let last = c.index-places-self.result in
    let is : last ≡ get_or xs (inside.len - 1) last = search rules in
    rw (shown, c.put.ensures) (removed inside.len xs c.args.index c.index-places-index.result last (search rules) (omega arith) is)
