use Rattle.std.proofs.Common.{◌≡◌, ℕ, ◌<◌, ◌≤◌, ◌+◌, length, drop}
use Rattle.framehop_ranges.specs.Ranges.{Sound, range_at}
use Rattle.framehop_tables.specs.ByParts.{Holds}
use Rattle.framehop_tables.specs.Covered.{covered_at, tabulated}
use Rattle.framehop_tables.specs.Tabulations.{room_within, start_at}
use Rattle.framehop_tables.proofs.fdes.ranges_of.Given as goal

abbrev pub invariant-loop-place : goal.invariant-loop-place
invariant-loop-place g l =
    let t = tabulated g.A.DwarfUnwinding.rows g.A.RowRules.rule_of g.S.UnwindContextStorage.limits (g.Section._UnwindSectionPrivate.extensions l.section) l.base_svma
    (g.Section._UnwindSectionPrivate.frame l.section l.bases) in
    record {
      sound : Sound l.ranges;
      cies : l.cies ≡ (g.Section._UnwindSectionPrivate.frame l.section l.bases).within;
      known : Holds g.A.DwarfUnwinding.fp g.A.DwarfUnwinding.ra g.S.UnwindContextStorage.limits (g.Section._UnwindSectionPrivate.frame l.section l.bases)
          (g.Section._UnwindSectionPrivate.extensions l.section) l.known;
      done : l.ranges.done ≡ start_at l.end l.fdes l.place;
      few : length l.ranges.entries.items + room_within t (drop l.place l.fdes) ≤ room_within t l.fdes;
      says : (relative : ℕ) → relative < l.ranges.done → range_at l.ranges relative ≡ covered_at t relative;
    }
