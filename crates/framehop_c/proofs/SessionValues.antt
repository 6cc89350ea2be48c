-- The machine value of a handle, and what a handle owns. Assumes `Logic`.
use Rattle.std.proofs.Common.{◌≡◌, ℕ, List, [], ◌∷◌, ◌++◌, refl, subst}
use seplogic.Ra.Ura.{Ura}
use mir.Raw.{raw as bare}
use mir.Syntax.{impl, tnil, dnil}
use mir.Val.{Val, vstruct, vcons, vnil, of_list}
use base.Logic.{ent, guard, guard_i, via, snd∗, never_e}
use base.Fml.{ftrue}
use types.Logic.{Logic, sem}
use types.Kit.{Item, Goal, Seq, Step, step, ‵, given, ◌$◌, drop, fsplit, fjoin, fpick, fpack, feq_i, feq_l, use1, learn}
use contract.Monad.{fact_use}
use denote.RattleType.{RattleType, Valss}
use denote.Builtin.{RawPtr}
use denote.Memory.{lone}
use denote.Param.Laws.{Laws}
use denote.RawPtr.{Ptr, block_ptr, null_ptr, ptr_val, lies_at, Testable}
use denote.Steps.{nothing}
use denote.Struct.Struct.{within}
use denote.Struct.Owning.{shape}
use base.Fraction.{full_share}
use Rattle.core.proofs.alloc.Calls.{Al}
use Rattle.std.specs.Prelude.{Option, Some, None}
use Rattle.std.specs.contracts.alloc.Global as heap
use Rattle.std.specs.declared.alloc.Global.{Global}
use Rattle.std.proofs.alloc.Global.TheLaws as heap_laws
use Rattle.std.specs.contracts.impls.GlobalAllocator.TheImpl.{ghosts}
use Rattle.std.proofs.GlobalToken.{dealloc_token-Testable}
use Rattle.framehop_c.specs.contracts.session.AnySession as session
use Rattle.framehop_c.specs.Held.{held}
use Rattle.framehop_c.specs.contracts.handle.SessionHandle as handle

abbrev pub Boxed : RattleType
Boxed = session.the_row

abbrev pub Handle : RattleType
Handle = handle.the_row

abbrev pub Heap : RattleType
Heap = heap.the_row

abbrev pub heap_lawful : Laws Heap
heap_lawful = heap_laws.the_row_laws

abbrev pub al : Al
al = record { row = Heap; laws = heap_lawful; g = ghosts; d = impl [] tnil dnil; drops = impl [] tnil dnil }

-- a struct of one field
abbrev pub one : Val → Val
one v = vstruct (vcons v vnil)

module _ {M : Type 1} {𝓤 : Ura M} (𝓛 : Logic 𝓤) (a : Global) (b o : ℕ) (x : Boxed.Denot) where
  -- a pointer that `Global` may free can be compared with null
  tested : ent 𝓤 (sem 𝓛 (held Boxed (block_ptr b o) (Some x))) (guard 𝓤 (Testable (block_ptr b o)) (sem 𝓛 (held Boxed (block_ptr b o) (Some x))))
  tested = let B = sem 𝓛 (held Boxed (block_ptr b o) (Some x)) in
      fact_use 𝓤 (Testable (block_ptr b o)) (via 𝓤 _ (snd∗ 𝓤 (sem 𝓛 (lies_at Boxed full_share (block_ptr b o) x)) (sem 𝓛 (ghosts.dealloc_token a (bare (lone Boxed.mir)) (block_ptr b o))))
      (dealloc_token-Testable 𝓛 a (bare (lone Boxed.mir)) (block_ptr b o))) (guard_i 𝓤 (Testable (block_ptr b o)) B)

module _ {M : Type 1} {𝓤 : Ura M} {𝓛 : Logic 𝓤} {K : Type 0} {Γ : List (Item 𝓤)} {G : Goal 𝓤 𝓛.H} where
  pub handle_out : K → (d : Handle.Denot) (vs : List Val) → (vs ≡ one (ptr_val d.at) ∷ [] → Seq K 𝓛 (‵ (held Boxed d.at d.value) ∷ Γ) G)
      → Seq K 𝓛 (‵ (Handle.own_val d vs) ∷ Γ) G
  handle_out t d vs k = fsplit t $ fpick t (λ vss. fsplit t $ feq_l t (λ ev. fsplit t $ feq_l t (λ ep. drop t $
      k (subst (λ (ps : List Val). vs ≡ vstruct (of_list (ps ++ [])) ∷ []) ep ev))))

  pub handle_in : K → (p : Ptr) (m : Option Boxed.Denot)
      → Step K 𝓛 (‵ (Handle.own_val (record { at = p; value = m }) (one (ptr_val p) ∷ [])) ∷ Γ) G (‵ (held Boxed p m) ∷ Γ) G
  handle_in t p m = step (λ s. nothing t $ feq_i t (List Val) (ptr_val p ∷ []) (ptr_val p ∷ []) refl $ fjoin t $
      feq_i t (List Val) (one (ptr_val p) ∷ []) (one (ptr_val p) ∷ []) refl $ fjoin t $
      fpack t (Valss (RawPtr ∷ [])) (within (shape handle.the_type) (p, tt) (one (ptr_val p) ∷ [])) (ptr_val p ∷ [], tt) $ fjoin t $ s)

  -- null owns nothing, and any other pointer a session
  pub either : K → (a : Global) (p : Ptr) (m : Option Boxed.Denot) → (p ≡ null_ptr → m ≡ None → Seq K 𝓛 Γ G)
      → ((b o : ℕ) (x : Boxed.Denot) → p ≡ block_ptr b o → m ≡ Some x → Testable (block_ptr b o) → Seq K 𝓛 (‵ (held Boxed (block_ptr b o) (Some x)) ∷ Γ) G)
      → Seq K 𝓛 (‵ (held Boxed p m) ∷ Γ) G
  either t a null_ptr None none some = drop t $ none refl refl
  either t a null_ptr (Some x) none some = use1 𝓛 (given ⊥ (‵ ftrue)) (never_e 𝓤 _) $ learn t (λ e. absurd e)
  either t a (block_ptr b o) None none some = use1 𝓛 (given ⊥ (‵ ftrue)) (never_e 𝓤 _) $ learn t (λ e. absurd e)
  either t a (block_ptr b o) (Some x) none some = use1 𝓛 (given (Testable (block_ptr b o)) (‵ (held Boxed (block_ptr b o) (Some x)))) (tested 𝓛 a b o x) $ learn t (λ may. some b o x refl refl may)
