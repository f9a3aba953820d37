-- The machine value of a handle, and what it owns, taken apart and put together. Assumes `Logic`.
use Rattle.std.proofs.Common.{◌≡◌, List, [], ◌∷◌, ◌++◌, refl, subst}
use seplogic.Ra.Ura.{Ura}
use mir.Val.{Val, vstruct, vcons, vnil, of_list}
use mir.Raw.{raw as bare}
use base.Logic.{ent, guard, guard_i, via, snd∗}
use types.Logic.{Logic, sem}
use contract.Monad.{fact_use}
use denote.Memory.{lone}
use Rattle.std.proofs.GlobalToken.{dealloc_token-Testable}
use Rattle.std.specs.Ptr.{points_to}
use types.Kit.{Item, Goal, Seq, Step, step, ‵, ◌$◌, drop, fsplit, fjoin, fpick, fpack, feq_i, feq_l}
use denote.RattleType.{RattleType, Valss}
use denote.RawPtr.{Ptr, RawPtr, ptr_val, Testable}
use denote.Steps.{nothing}
use denote.Struct.Struct.{within}
use denote.Struct.Owning.{shape}
use Rattle.std.specs.Prelude.{Option, Some}
use Rattle.marker_c.specs.Owned.{Content, frees, handle_owns, the_global}
use Rattle.std.proofs.BoxSteps.Form.{Bx}
use Rattle.std.specs.contracts.impls.GlobalAllocator.TheImpl.{ghosts, dict}
use mir.Syntax.{impl, tnil, dnil}
use Rattle.marker_c.specs.contracts.handle.Handle as handle
use Rattle.marker_c.specs.contracts.loose.Loose as loose
use Rattle.marker_session.specs.contracts.session.Session as session
use Rattle.marker_session.proofs.session.Session.TheLaws as session_laws
use Rattle.std.specs.contracts.alloc.Global as Heap
use Rattle.std.proofs.alloc.Global.TheLaws as heap

-- a box of a session
abbrev pub E : Bx
E = record { row = session.the_row; laws = session_laws.the_row_laws; al = record { row = Heap.the_row; laws = heap.the_row_laws; g = ghosts; d = dict; drops = impl [] tnil dnil } }

abbrev pub LooseSession : RattleType
LooseSession = loose.the_row session.the_row Heap.the_row ghosts

abbrev pub H : RattleType
H = handle.the_row

-- a pointer whose block may be freed may be compared with null
pub tested : {M : Type 1} {𝓤 : Ura M} (𝓛 : Logic 𝓤) (p : Ptr) (x : Content) → ent 𝓤 (sem 𝓛 (handle_owns p (Some x))) (guard 𝓤 (Testable p) (sem 𝓛 (handle_owns p (Some x))))
tested {𝓤 = 𝓤} 𝓛 p x =
    fact_use 𝓤 (Testable p)
    (via 𝓤 _ (snd∗ 𝓤 (sem 𝓛 (points_to session.the_row p x)) (sem 𝓛 (frees (bare (lone session.the_row.mir)) p)))
    (dealloc_token-Testable 𝓛 the_global (bare (lone session.the_row.mir)) p))
    (guard_i 𝓤 (Testable p) (sem 𝓛 (handle_owns p (Some x))))

abbrev pub single : Ptr → Val
single p = vstruct (vcons (ptr_val p) vnil)

module _ {M : Type 1} {𝓤 : Ura M} {𝓛 : Logic 𝓤} {K : Type 0} {Γ : List (Item 𝓤)} {G : Goal 𝓤 𝓛.H} where
  pub handle_out : K → (d : H.Denot) (vs : List Val) → (vs ≡ single d.at ∷ [] → Seq K 𝓛 (‵ (handle_owns d.at d.session) ∷ Γ) G) → Seq K 𝓛 (‵ (H.own_val d vs) ∷ Γ) G
  handle_out t d vs k =
      fsplit t $ fpick t (λ vss. fsplit t $ feq_l t (λ ev. fsplit t $ feq_l t (λ ep. drop t $
      k (subst (λ (ps : List Val). vs ≡ vstruct (of_list (ps ++ [])) ∷ []) ep ev))))

  pub handle_in : K → (p : Ptr) (content : Option Content)
      → Step K 𝓛 (‵ (H.own_val (record { at = p; session = content }) (single p ∷ [])) ∷ Γ) G (‵ (handle_owns p content) ∷ Γ) G
  handle_in t p content = step (λ s.
      nothing t $ feq_i t (List Val) (ptr_val p ∷ []) (ptr_val p ∷ []) refl $ fjoin t $
      feq_i t (List Val) (single p ∷ []) (single p ∷ []) refl $ fjoin t $
      fpack t (Valss (RawPtr ∷ [])) (within (shape handle.the_type) (p, tt) (single p ∷ [])) (ptr_val p ∷ [], tt) $ fjoin t $ s)
