use borrow.Follows.Closed.{read_of}
use Rattle.std.proofs.Common.{◌<◌, take, arith, rules}
use Rattle.std.specs.Option.{ghost_name_of}
use Rattle.framehop_storage.proofs.Lists.{item_within, take-set_below}
use Rattle.framehop_storage.proofs.in_place_vec.InPlaceVecArrayLike.item_mut.Goals as goal

pub returns-then-index-self : goal.returns-then-index-self
returns-then-index-self g c =
    let inside = c.self.inside in
    let xs = inside.places.items in
    let below : c.args.index < inside.len = search rules in
    let written = λ (w : g.row.T.Denot). take-set_below inside.len xs c.args.index w below (omega arith) in (
      rw (← c.self.view_is)
          (λ i. read_of (ghost_name_of c.get_mut.result) (λ w. record { items = written w i }) (record { items = take inside.len xs })),
      record {
        writes_back = tt;
        item = rw (← c.self.view_is) (item_within inside.len xs c.args.index c.get_mut.result below (omega arith) c.get_mut.ensures.item);
      },
    )
