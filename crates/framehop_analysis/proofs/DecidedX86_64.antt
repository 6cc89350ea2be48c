-- The rule of the machine code at an offset of x86_64 code, as a function of the bytes.
use Rattle.std.proofs.Common.{◌≡◌, ℕ, ◌<◌, ◌≤◌, refl, ap, arith, ◌⊎◌, inl, inr, Bool, true, false, List, [], ◌∷◌, length, length-append, take, drop, Option, None}
use Rattle.std.specs.Prelude.{IsTrue, ◌↔◌, ◌||◌, nat_lt}
use Rattle.framehop_analysis.specs.Instructions.{RexPrefix, NoRex, Rex, RexB, Instruction, Push, Pop, SetFramePointer, Return, Jump, bytes_of, spelling}
use Rattle.framehop_analysis.specs.Found.{IsFound, IsOfFirst}
use Rattle.framehop_analysis.specs.Epilogue.{IsEpilogueRule, ends_like_pop, last_rbp_pop, rule_of_pops}
use Rattle.framehop_analysis.specs.EpilogueViews.{BeginsWithNoPop, IsPop, IsPopRun, leaves_function}
use Rattle.framehop_analysis.specs.Prologue.{IsPrologueRule, IsPush, EndsWith, frame_setup, rule_of_pushes}
use Rattle.framehop_analysis.specs.PrologueViews.{is_expected}
use Rattle.framehop_analysis.proofs.Decisions.{CanTry, Whole, decide_as, decide_either, decide_ends, decide_some, longest, whole}
use Rattle.framehop_analysis.proofs.EpilogueReading.{no_epilogue, read_epilogue}
use Rattle.framehop_analysis.proofs.Found.{either_found}
use Rattle.framehop_analysis.proofs.PrologueReading.{no_prologue, read_prologue}
use Rattle.framehop_rules.specs.declared.x86_64.unwind_rule.UnwindRuleX86_64.{UnwindRuleX86_64}

-- ---- pushes and pops

-- an instruction with a prefix and a register, of one kind
try_registers : (make : RexPrefix → ℕ → Instruction) (P : Instruction → Type 0) → ((x : Instruction) → Dec (P x))
    → Dec ((rex : RexPrefix) × ((low : ℕ) × (low < 8) × P (make rex low)))
try_registers make P each =
    decide_as to from (decide_either (some NoRex) (decide_either (some Rex) (some RexB)))
  where
    Low : RexPrefix → Type 0
    Low rex = (low : ℕ) × (low < 8) × P (make rex low)

    some : (rex : RexPrefix) → Dec ((low : ℕ) × (low < 8) × P (make rex low))
    some rex = decide_some 8 (λ low. P (make rex low)) (λ low. each (make rex low))

    to : ((low : ℕ) × (low < 8) × P (make NoRex low)) ⊎ (((low : ℕ) × (low < 8) × P (make Rex low)) ⊎ ((low : ℕ) × (low < 8) × P (make RexB low)))
        → (rex : RexPrefix) × ((low : ℕ) × (low < 8) × P (make rex low))
    to (inl found) = (NoRex, found)
    to (inr (inl found)) = (Rex, found)
    to (inr (inr found)) = (RexB, found)

    from : (rex : RexPrefix) × ((low : ℕ) × (low < 8) × P (make rex low))
        → ((low : ℕ) × (low < 8) × P (make NoRex low)) ⊎ (((low : ℕ) × (low < 8) × P (make Rex low)) ⊎ ((low : ℕ) × (low < 8) × P (make RexB low)))
    from (NoRex, found) = inl found
    from (Rex, found) = inr (inl found)
    from (RexB, found) = inr (inr found)

try_push : CanTry IsPush
try_push P each = decide_as to from (try_registers Push P each)
  where
    to : (rex : RexPrefix) × ((low : ℕ) × (low < 8) × P (Push rex low)) → (x : Instruction) × IsPush x × P x
    to (rex, (low, fits, is)) = (Push rex low, fits, is)

    from : (x : Instruction) × IsPush x × P x → (rex : RexPrefix) × ((low : ℕ) × (low < 8) × P (Push rex low))
    from (Push rex low, fits, is) = (rex, (low, fits, is))
    from (other, fits, is) = absurd fits

try_pop : CanTry IsPop
try_pop P each = decide_as to from (try_registers Pop P each)
  where
    to : (rex : RexPrefix) × ((low : ℕ) × (low < 8) × P (Pop rex low)) → (x : Instruction) × IsPop x × P x
    to (rex, (low, fits, is)) = (Pop rex low, fits, is)

    from : (x : Instruction) × IsPop x × P x → (rex : RexPrefix) × ((low : ℕ) × (low < 8) × P (Pop rex low))
    from (Pop rex low, fits, is) = (rex, (low, fits, is))
    from (other, fits, is) = absurd fits

-- an instruction has a byte or more
some_bytes : (x : Instruction) → 0 < length (bytes_of x)
some_bytes (Push NoRex low) = omega arith
some_bytes (Push Rex low) = omega arith
some_bytes (Push RexB low) = omega arith
some_bytes (Pop NoRex low) = omega arith
some_bytes (Pop Rex low) = omega arith
some_bytes (Pop RexB low) = omega arith
some_bytes SetFramePointer = omega arith
some_bytes Return = omega arith
some_bytes (Jump first) = omega arith

-- ---- the prologue

pub prologue_at : (text : List ℕ) (offset : ℕ) → (found : Option UnwindRuleX86_64) × IsFound (IsPrologueRule text offset) found
prologue_at text offset = by (is_expected (drop offset text)) refl
  where
    read : (prefix : List ℕ) (run : List Instruction) → Dec (EndsWith prefix (spelling frame_setup)) → Bool
    read prefix run (yes is) = true
    read prefix run (no none) = false

    known : (prefix : List ℕ) (run : List Instruction) (setup : Dec (EndsWith prefix (spelling frame_setup)))
        → IsTrue (read prefix run setup) ↔ EndsWith prefix (spelling frame_setup)
    known prefix run (yes is) = (λ test. is, λ ends. refl)
    known prefix run (no none) = (λ test. cc, λ ends. absurd (none ends))

    by : (next : Bool) → is_expected (drop offset text) ≡ next → (found : Option UnwindRuleX86_64) × IsFound (IsPrologueRule text offset) found
    by false is = (None, no_prologue text offset is)
    by true is =
        let run = longest IsPush bytes_of try_push some_bytes (take offset text) in
        let setup = decide_ends run.prefix (spelling frame_setup) in (
          rule_of_pushes (read run.prefix run.run setup) (length run.run),
          read_prologue text offset run.prefix run.run (read run.prefix run.run setup) _ is
              (record { all = run.all; spelled = run.spelled; longest = run.longest }) (known run.prefix run.run setup) refl,
        )

-- ---- the epilogue

counted : (xs : List Instruction) → length xs ≤ length (spelling xs)
counted [] = omega arith
counted (x ∷ xs) = omega (arith, counted xs, some_bytes x, length-append (bytes_of x) (spelling xs))

pub epilogue_at : (text : List ℕ) (offset : ℕ) → (found : Option UnwindRuleX86_64) × IsFound (IsEpilogueRule text offset) found
epilogue_at text offset = by (leaves_function (nat_lt 0 (length pops.run) || ends_like_pop (take offset text)) pops.suffix) refl
  where
    pops : Whole IsPop bytes_of try_pop some_bytes (drop offset text)
    pops = whole IsPop bytes_of try_pop some_bytes (drop offset text)

    run : IsPopRun (drop offset text) pops.run (length pops.run) (last_rbp_pop pops.run) pops.suffix
    run = record {
      all = pops.all;
      spelled = pops.spelled;
      counted = refl;
      bp_offset = refl;
      within = omega (arith, ap length pops.spelled, length-append (spelling pops.run) pops.suffix, counted pops.run);
    }

    none : BeginsWithNoPop pops.suffix
    none rex low suffix fits is = pops.ended (Pop rex low) suffix fits is

    by : (left : Bool) → leaves_function (nat_lt 0 (length pops.run) || ends_like_pop (take offset text)) pops.suffix ≡ left
        → (found : Option UnwindRuleX86_64) × IsFound (IsEpilogueRule text offset) found
    by true is = (rule_of_pops (length pops.run) (last_rbp_pop pops.run), read_epilogue text offset pops.run _ _ pops.suffix _ run none is refl)
    by false is = (None, no_epilogue text offset pops.run _ _ pops.suffix run none is)

-- ---- the prologue, or else the epilogue

pub rule_at : (text : List ℕ) (offset : ℕ)
    → (found : Option UnwindRuleX86_64) × IsFound (IsOfFirst (IsPrologueRule text offset) (IsEpilogueRule text offset)) found
rule_at text offset = either_found _ _ (prologue_at text offset) (epilogue_at text offset)
