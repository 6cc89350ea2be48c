use Rattle.std.proofs.Common.{◌≡◌, length, arith, ap, sym, ◌∙◌}
use Rattle.core_images.specs.RunViews.{file_byte}
use Rattle.core_images.proofs.Known.{known-end}
use Rattle.core_images.proofs.image.known_bytes.Goals as goal

pub returns : goal.returns
returns c =
    let byte = file_byte c.args.segments.now c.args.mappings.now in
    let size : length c.loop-run.image.items ≡ c.len.result = sym c.loop-run.image.ok.0 ∙ sym c.len.ensures in
    known-end byte c.loop-run.image.items c.loop-run.invariant (ap byte size ∙ c.in_default.ensures.none) (omega (arith, size, c.len.type_inv))
