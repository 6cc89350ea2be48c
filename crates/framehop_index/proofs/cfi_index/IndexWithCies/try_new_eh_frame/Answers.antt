-- The section that is made of the bytes is that of the bytes.
use Rattle.std.proofs.Common.{◌≡◌, ap}
use Rattle.framehop_index.proofs.cfi_index.IndexWithCies.try_new_eh_frame.Goals as goal

pub returns : goal.returns
returns c =
    let size : c.new-section.result.address_size ≡ 8 = ap (λ d. d.address_size) c.new-section.ensures.others in
    rw (size, c.new-section.ensures.section) at c.try_new.ensures
