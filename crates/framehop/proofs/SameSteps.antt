-- Steps over modules that are alike at an address.
use Rattle.std.proofs.Common.{◌≡◌, ℕ, ◌-◌, ◌^◌, Bool, true, false, cond, List, [], ◌∷◌, ◌++◌, Option, Some, None, refl, sym, ap, ◌∙◌, arith}
use Rattle.std.specs.Prelude.{nat_le, nat_lt, option_and_then, ◌&&◌, ◌||◌, ◌==◌}
use Rattle.std.specs.List.{filter, list_all}
use Rattle.list_laws.specs.Greatest.{is_greatest}
use Rattle.list_laws.specs.Last.{last_of}
use Rattle.framehop_unwinder.specs.Attempt.{Attempt, Meanings, attempt_at, attempt_of}
use Rattle.framehop_unwinder.specs.Frames.{lookup_address}
use Rattle.framehop_unwinder.specs.Judge.{by_attempt}
use Rattle.framehop_unwinder.specs.Modules.{Loaded, has_relative, if_inside, is_inside, module_found, nearest_module}
use Rattle.framehop.specs.SameSteps.{StepsFollowAttempts, with_data}

module _ {Data Rule Registers : Type 0} (m : Meanings Data Rule Registers) (address : ℕ) where
  -- two modules at the same addresses, which say the same of one
  pub record Alike (one other : Loaded Data) : Type 0 where
    pub start : one.start ≡ other.start
    pub end : one.end ≡ other.end
    pub base : one.base ≡ other.base
    pub says : (first : Bool) → m.attempt one.unwind_data (address - one.base) first ≡ m.attempt other.unwind_data (address - other.base) first

  same : (module_ : Loaded Data) → Alike module_ module_
  same module_ = record { start = refl; end = refl; base = refl; says = λ first. refl }

  -- lists of such modules
  abbrev AllAlike : List (Loaded Data) → List (Loaded Data) → Type 0
  AllAlike [] [] = Unit {0}
  AllAlike [] (other ∷ others) = ⊥
  AllAlike (one ∷ ones) [] = ⊥
  AllAlike (one ∷ ones) (other ∷ others) = Alike one other × AllAlike ones others

  all-same : (modules : List (Loaded Data)) → AllAlike modules modules
  all-same [] = tt
  all-same (module_ ∷ modules) = (same module_, all-same modules)

  around : (before : List (Loaded Data)) (one other : Loaded Data) (after : List (Loaded Data)) → Alike one other → AllAlike (before ++ one ∷ after) (before ++ other ∷ after)
  around [] one other after alike = (alike, all-same after)
  around (module_ ∷ before) one other after alike = (same module_, around before one other after alike)

  -- what may be there
  abbrev MaybeAlike : Option (Loaded Data) → Option (Loaded Data) → Type 0
  MaybeAlike None None = Unit {0}
  MaybeAlike None (Some other) = ⊥
  MaybeAlike (Some one) None = ⊥
  MaybeAlike (Some one) (Some other) = Alike one other

  -- those that pass tests which agree
  filtered : (p q : Loaded Data → Bool) → ((one other : Loaded Data) → Alike one other → p one ≡ q other) → (ones others : List (Loaded Data)) → AllAlike ones others → AllAlike (filter p ones) (filter q others)
  filtered p q agree [] [] alike = tt
  filtered p q agree [] (other ∷ others) alike = elim alike [ ]
  filtered p q agree (one ∷ ones) [] alike = elim alike [ ]
  filtered p q agree (one ∷ ones) (other ∷ others) alike =
      by (p one) (q other) (agree one other alike.0) (filtered p q agree ones others alike.1)
    where
      by : (a b : Bool) → a ≡ b → AllAlike (filter p ones) (filter q others) → AllAlike (cond a (one ∷ filter p ones) (filter p ones)) (cond b (other ∷ filter q others) (filter q others))
      by true true is more = (alike.0, more)
      by false false is more = more
      by true false is more = cc
      by false true is more = cc

  -- tests of all
  all-pass : (p q : Loaded Data → Bool) → ((one other : Loaded Data) → Alike one other → p one ≡ q other) → (ones others : List (Loaded Data)) → AllAlike ones others → list_all p ones ≡ list_all q others
  all-pass p q agree [] [] alike = refl
  all-pass p q agree [] (other ∷ others) alike = elim alike [ ]
  all-pass p q agree (one ∷ ones) [] alike = elim alike [ ]
  all-pass p q agree (one ∷ ones) (other ∷ others) alike = let here = agree one other alike.0 in let more = all-pass p q agree ones others alike.1 in cc

  last-alike : (ones others : List (Loaded Data)) → AllAlike ones others → MaybeAlike (last_of ones) (last_of others)
  last-alike [] [] alike = tt
  last-alike [] (other ∷ others) alike = elim alike [ ]
  last-alike (one ∷ ones) [] alike = elim alike [ ]
  last-alike (one ∷ []) (other ∷ []) alike = alike.0
  last-alike (one ∷ []) (other ∷ another ∷ others) alike = elim alike.1 [ ]
  last-alike (one ∷ next ∷ ones) (other ∷ []) alike = elim alike.1 [ ]
  last-alike (one ∷ next ∷ ones) (other ∷ another ∷ others) alike = last-alike (next ∷ ones) (another ∷ others) alike.1

  -- the nearest by their starts
  greatest-alike : (ones others : List (Loaded Data)) → AllAlike ones others → (one other : Loaded Data) → Alike one other
      → is_greatest (λ m. m.start) ones one ≡ is_greatest (λ m. m.start) others other
  greatest-alike ones others all one other alike =
      all-pass (λ x. nat_le x.start one.start) (λ x. nat_le x.start other.start)
      (λ x y near. ap (λ (n : ℕ). nat_le n one.start) near.start ∙ ap (λ (n : ℕ). nat_le y.start n) alike.start) ones others all

  nearest-alike : (ones others : List (Loaded Data)) → AllAlike ones others → MaybeAlike (nearest_module ones address) (nearest_module others address)
  nearest-alike ones others all =
      let within = filtered (λ x. nat_le x.start address) (λ x. nat_le x.start address) (λ x y near. ap (λ (n : ℕ). nat_le n address) near.start) ones others all in
      let these : List (Loaded Data) = filter (λ x. nat_le x.start address) ones in
      let those : List (Loaded Data) = filter (λ x. nat_le x.start address) others in
      last-alike (filter (is_greatest (λ x. x.start) these) these) (filter (is_greatest (λ x. x.start) those) those)
      (filtered (is_greatest (λ x. x.start) these) (is_greatest (λ x. x.start) those) (greatest-alike these those within) these those within)

  -- and what is found
  inside-alike : (one other : Option (Loaded Data)) → MaybeAlike one other → MaybeAlike (option_and_then (if_inside address) one) (option_and_then (if_inside address) other)
  inside-alike None None alike = tt
  inside-alike None (Some other) alike = elim alike [ ]
  inside-alike (Some one) None alike = elim alike [ ]
  inside-alike (Some one) (Some other) alike =
      by (is_inside address one && has_relative address one) (is_inside address other && has_relative address other) agree
    where
      agree : (is_inside address one && has_relative address one) ≡ (is_inside address other && has_relative address other)
      agree =
          ap (λ (n : ℕ). (address == n || nat_lt address one.end) && has_relative address one) alike.start
          ∙ ap (λ (n : ℕ). (address == other.start || nat_lt address n) && has_relative address one) alike.end
          ∙ ap (λ (n : ℕ). is_inside address other && (nat_le n address && nat_lt (address - n) (2 ^ 32))) alike.base

      by : (a b : Bool) → a ≡ b → MaybeAlike (cond a (Some one) None) (cond b (Some other) None)
      by true true is = alike
      by false false is = tt
      by true false is = cc
      by false true is = cc

  said-alike : (first : Bool) (one other : Option (Loaded Data)) → MaybeAlike one other → attempt_of m first address one ≡ attempt_of m first address other
  said-alike first None None alike = refl
  said-alike first None (Some other) alike = elim alike [ ]
  said-alike first (Some one) None alike = elim alike [ ]
  said-alike first (Some one) (Some other) alike = alike.says first

  attempts-alike : (first : Bool) (ones others : List (Loaded Data)) → AllAlike ones others → attempt_at m ones first address ≡ attempt_at m others first address
  attempts-alike first ones others all =
      said-alike first (module_found ones address) (module_found others address)
      (inside-alike (nearest_module ones address) (nearest_module others address) (nearest-alike ones others all))

-- equal attempts make equal steps
pub steps-follow : {Data Rule Registers : Type 0} (m : Meanings Data Rule Registers) → StepsFollowAttempts m
steps-follow {Data} {Rule} {Registers} m relative one other says module_ before after frame there registers words =
    let address : ℕ = lookup_address frame in
    let away : address - module_.base ≡ relative = omega arith in
    let alike : Alike m address (with_data one module_) (with_data other module_) = record {
      start = refl;
      end = refl;
      base = refl;
      says = λ first. ap (λ (n : ℕ). m.attempt one n first) away ∙ says first ∙ ap (λ (n : ℕ). m.attempt other n first) (sym away);
    } in
    ap (λ (a : Attempt Rule Registers). by_attempt m frame.is_first registers words a)
    (attempts-alike m address frame.is_first (before ++ with_data one module_ ∷ after) (before ++ with_data other module_ ∷ after)
    (around m address before (with_data one module_) (with_data other module_) after alike))
