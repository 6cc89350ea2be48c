use Rattle.std.proofs.Common.{◌≡◌, ◌+◌, ◌-◌, ◌*◌, ◌%◌, ◌^◌, ◌<◌, ℕ, arith}
use Rattle.std.proofs.lemmas.Result.{err_from_is_err_and}
use Rattle.std.proofs.Math.Nat.{pow-le-pow_right}
use Rattle.dwarf_readers.proofs.Values.{has_room, unsigned_done, unsigned_refused, unsigned_short, unsigned_total}
use Rattle.dwarf_readers.proofs.leb128.read.read_unsigned.Goals as goal

-- what the last byte of so many is below
abbrev limit : ℕ → ℕ → ℕ
limit most bits = (1 * 2 ^ (bits - 7 * (most - 1))) % 2 ^ 8

pub returns-in_err-groups-clause-read : goal.returns-in_err-groups-clause-read
returns-in_err-groups-clause-read g c =
    let e = err_from_is_err_and c.from_residual.result c.from_residual.ensures.1 in
    rw (e.1, e.2) (unsigned_short c.args.most c.args.bits (g.R.Reader.stretch c.args.r.now) _ _ c.in_err-groups.ensures.missing)

pub returns-then-groups-limit-clause-read : goal.returns-then-groups-limit-clause-read
returns-then-groups-limit-clause-read g c =
    let room = has_room c.args.most c.args.bits c.requires.some c.requires.word c.requires.enough c.requires.needed in
    unsigned_refused _ _ _ _ _ _ _ _ room c.in_ok-groups.ensures.groups c.if-groups-most.true c.if-groups-limit.true

pub overflow_add-result : goal.overflow_add-result
overflow_add-result g c =
    let groups = c.in_ok-groups.groups in
    let room = has_room c.args.most c.args.bits c.requires.some c.requires.word c.requires.enough c.requires.needed in
    let top : groups.count + 1 ≡ c.args.most → groups.last < limit c.args.most c.args.bits = λ h. omega (arith, c.else-groups-most.either) in
    let sum = (unsigned_total _ _ _ _ _ _ _ _ room c.in_ok-groups.ensures.groups top).1 in
    let word = pow-le-pow_right {n = 2} (omega arith) {i = c.args.bits} {j = 64} c.requires.word in
    rw (c.from.ensures, sum.shifted) (omega (arith, sum.fits, word))

pub returns-clause-read : goal.returns-clause-read
returns-clause-read g c =
    let groups = c.in_ok-groups.groups in
    let room = has_room c.args.most c.args.bits c.requires.some c.requires.word c.requires.enough c.requires.needed in
    let top : groups.count + 1 ≡ c.args.most → groups.last < limit c.args.most c.args.bits = λ h. omega (arith, c.else-groups-most.either) in
    rw c.from.ensures (unsigned_done _ _ _ _ _ _ _ _ room c.in_ok-groups.ensures.groups top)

pub returns-clause-below : goal.returns-clause-below
returns-clause-below g c =
    let groups = c.in_ok-groups.groups in
    let room = has_room c.args.most c.args.bits c.requires.some c.requires.word c.requires.enough c.requires.needed in
    let top : groups.count + 1 ≡ c.args.most → groups.last < limit c.args.most c.args.bits = λ h. omega (arith, c.else-groups-most.either) in
    let sum = (unsigned_total _ _ _ _ _ _ _ _ room c.in_ok-groups.ensures.groups top).1 in
    rw (c.from.ensures, sum.shifted) sum.fits
