use Rattle.std.proofs.Common.{rules, subst}
use Rattle.frame_table.specs.EntryWrites.{WritesListing}
use Rattle.frame_table.specs.Listing.{Listing}
use Rattle.frame_table.proofs.located.list.Goals as goal

pub returns-in-EhFrame-clause-listing : goal.returns-in-EhFrame-clause-listing
returns-in-EhFrame-clause-listing g c =
    subst (λ (listing : Listing). WritesListing listing (g.W.Sink.contents c.args.writer.now) (g.W.Sink.contents c.write_listing.new.writer) c.write_listing.result)
    (search rules) c.write_listing.ensures.listing

pub returns-clause-listing : goal.returns-clause-listing
returns-clause-listing g c =
    subst (λ (listing : Listing). WritesListing listing (g.W.Sink.contents c.args.writer.now) (g.W.Sink.contents c.write_listing-in-DebugFrame.new.writer) c.write_listing-in-DebugFrame.result)
    (search rules) c.write_listing-in-DebugFrame.ensures.listing
