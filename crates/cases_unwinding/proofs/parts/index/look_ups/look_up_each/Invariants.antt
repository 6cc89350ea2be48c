use Rattle.std.proofs.Common.{◌≡◌, ◌≤◌, ◌^◌, ℕ, suc, length}
use Rattle.dwarf_frame_rows.specs.FrameSection.{FrameSection}
use Rattle.framehop_index.specs.CfiIndexView.{IsIndexOf}
use Rattle.framehop_index.specs.EntryFor.{indexed_fdes}
use Rattle.cases_unwinding.specs.LookUps.{found_among}
use Rattle.cases_unwinding.proofs.parts.index.look_ups.look_up_each.Given as goal

abbrev pub invariant-loop-i : goal.invariant-loop-i
invariant-loop-i l = record {
  fits : l.tally.found ≤ l.i;
  found : (base : ℕ) (section : FrameSection) → IsIndexOf l.index base section → l.tally.found ≡ found_among l.i l.fn.apart base section;
  few : (base : ℕ) (section : FrameSection) → IsIndexOf l.index base section → (k : ℕ) → length (indexed_fdes base section) ≤ 2 ^ k → l.tally.most_starts_read ≤ suc k;
  counted : (base : ℕ) (section : FrameSection) → IsIndexOf l.index base section → 1 ≤ l.i → (k : ℕ) → 2 ^ k ≤ suc (length (indexed_fdes base section)) → k ≤ l.tally.most_starts_read;
}
