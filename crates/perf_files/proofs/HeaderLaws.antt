-- A header that is refused at its beginning.
use Rattle.std.proofs.Common.{◌≡◌, ℕ, Bool, true, false, not, List, length, ap, nat_eq, Ok, Err}
use Rattle.std.specs.Prelude.{nat_lt}
use Rattle.std.specs.List.{starts_with}
use Rattle.perf_files.specs.declared.error.HeaderError.{HeaderError}
use Rattle.perf_files.specs.declared.error.HeaderError.TheVariants.{NotPerfData, OtherByteOrder, Truncated}
use Rattle.perf_files.specs.Header.{HeaderResult, if_not, if_perf_data, magic, other_order}

-- the test that refuses does so whatever comes next
refused-whatever : {B : Type 0} (a b c : Bool) (x y z e : HeaderError) (next : HeaderResult B) → if_not {A = Unit {0}} a x (if_not b y (if_not c z (Ok tt))) ≡ Err e
    → if_not a x (if_not b y (if_not c z next)) ≡ Err e
refused-whatever true b c x y z e next is = let equal : x ≡ e = cc in ap Err equal
refused-whatever false true c x y z e next is = let equal : y ≡ e = cc in ap Err equal
refused-whatever false false true x y z e next is = let equal : z ≡ e = cc in ap Err equal
refused-whatever false false false x y z e next is = cc

pub magic-refused : {B : Type 0} (bytes : List ℕ) (e : HeaderError) (next : HeaderResult B) → if_perf_data {A = Unit {0}} bytes (Ok tt) ≡ Err e → if_perf_data bytes next ≡ Err e
magic-refused bytes e next is =
    refused-whatever (starts_with nat_eq bytes other_order) (not (starts_with nat_eq bytes magic)) (nat_lt (length bytes) 16) (OtherByteOrder 0) (NotPerfData 0) (Truncated 0) e next is
