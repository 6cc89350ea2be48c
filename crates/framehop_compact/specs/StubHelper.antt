-- The code in `__stub_helper` on x86_64, as linkers write it, and the words that it has pushed where a first frame stands.
use Rattle.std.specs.Prelude.{ℕ, ◌+◌, ◌-◌, ◌%◌, ◌<◌, ◌≤◌, ◌≡◌, nat_lt, if◌then◌else◌, List, [], ◌∷◌}
use Rattle.framehop_code_rules.specs.declared.CodeRules.TheVariants.{Known}
use Rattle.framehop_rules.specs.declared.x86_64.unwind_rule.UnwindRuleX86_64.{UnwindRuleX86_64}
use Rattle.framehop_rules.specs.declared.x86_64.unwind_rule.UnwindRuleX86_64.TheVariants.{JustReturn, OffsetSp}
use Rattle.framehop_compact.specs.Unwound.{stub_helper_rule}

-- An instruction: how many bytes it has, and how many words it pushes.
pub record Sized : Type 0 where
  pub size : ℕ
  pub pushes : ℕ

abbrev pub sized : ℕ → ℕ → Sized
sized size pushes = record { size = size; pushes = pushes }

-- The words that the instructions before an offset have pushed: those that end at it or before.
abbrev pub pushed_at : List Sized → ℕ → ℕ
pushed_at [] offset = 0
pushed_at (first ∷ more) offset = if nat_lt offset first.size then 0 else first.pushes + pushed_at more (offset - first.size)

-- What all stubs share: `lea r11, [rip + cached]`, `push r11`, `jmp [rip + binder]`, `nop`. A stub that came there has pushed a word.
abbrev pub shared_code : List Sized
shared_code = sized 7 0 ∷ sized 2 1 ∷ sized 6 0 ∷ sized 1 0 ∷ []

-- A stub: `push` with an immediate of four bytes, `jmp` to what they share.
abbrev pub stub_code : List Sized
stub_code = sized 5 1 ∷ sized 5 0 ∷ []

-- The rule of a frame that pushed so many words below its return address.
abbrev pub rule_of_pushed : ℕ → UnwindRuleX86_64
rule_of_pushed pushed = if nat_lt 0 pushed then OffsetSp (pushed + 1) else JustReturn

-- By what is known of the code a rule goes past all words that are pushed.
pub record PassesPushedWords : Type 0 where
  pub shared : (offset : ℕ) → offset < 16 → stub_helper_rule Known offset ≡ rule_of_pushed (1 + pushed_at shared_code offset)
  pub stubs : (offset : ℕ) → 16 ≤ offset → stub_helper_rule Known offset ≡ rule_of_pushed (pushed_at stub_code ((offset - 16) % 10))
