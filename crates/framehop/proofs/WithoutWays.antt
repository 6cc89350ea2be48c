-- Modules whose frames go by no ways out of functions: their attempts are those by their tables.
use Rattle.std.proofs.Common.{◌≡◌, ◌∙◌, ℕ, Bool, true, false, Option, None, if◌then◌else◌, refl, sym}
use Rattle.framehop_loads.specs.StepLimits.{StepLimits}
use Rattle.framehop_loads.specs.UnwindData.{UnwindData}
use Rattle.framehop_unwinder.specs.Attempt.{Attempt}
use Rattle.framehop.specs.Attempts.{FormatMeanings, attempt_by_format, attempt_by_tables}
use Rattle.framehop.specs.WayAttempts.{goes_after, goes_before, or_way, way_at, way_or}

module _ {Rule Registers : Type 0} (m : FormatMeanings Rule Registers) (limits : StepLimits) (relative : ℕ) where
  no-rule : (before after : Bool) (rule : Option Rule) (said : Attempt Rule Registers) → rule ≡ None
      → way_or (if before then rule else None) (or_way said (if after then rule else None)) ≡ said
  no-rule true true rule said none = rw none refl
  no-rule true false rule said none = rw none refl
  no-rule false true rule said none = rw none refl
  no-rule false false rule said none = refl

  no-code : (given : UnwindData) → given.code ≡ None → (first : Bool) → attempt_by_format m limits given relative first ≡ attempt_by_tables m.rows m.tables limits given relative first
  no-code given none first =
      no-rule (goes_before given.format first) (goes_after given.format first) (way_at m.ways given relative first)
      (attempt_by_tables m.rows m.tables limits given relative first) (rw none refl)

  pub by-tables : (one other : UnwindData) → one.code ≡ None → other.code ≡ None
      → ((first : Bool) → attempt_by_tables m.rows m.tables limits one relative first ≡ attempt_by_tables m.rows m.tables limits other relative first)
      → (first : Bool) → attempt_by_format m limits one relative first ≡ attempt_by_format m limits other relative first
  by-tables one other none too alike first = no-code one none first ∙ alike first ∙ sym (no-code other too first)
