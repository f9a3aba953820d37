-- `into_loose` gives the pointer back with what the handle owned, or nothing where it is null. Assumes `Logic`.
use Rattle.std.proofs.Common.{◌≡◌, ℕ, List, [], ◌∷◌, ◌++◌, refl, sym, subst, lit<}
use seplogic.Ra.Ura.{Ura}
use mir.Val.{Val, of_list}
use mir.Raw.{raw as bare}
use base.Logic.{SProp, ent, never, fst∗, id⊢}
use base.Fml.{feq, ftrue, fsep}
use prog.Wp.{WpFn}
use prog.Model.{Model}
use types.Logic.{Logic, sem}
use types.Kit.{Item, ⋆, ‵, ◌⊛◌, given, at_ret, ◌$◌, ◌∵◌, !, qed, by, move, drop, keep, split, join, fsplit, fjoin, feq_l, learn, suffices, use0, use1, done}
use types.Match.{live}
use types.Part.{agg, sub, whole}
use types.Run.{stop, fld, lit, bin, of_opd, no_more, and_then, first, branches, skips, exec, returns, returns_within, enter}
use types.ByLocal.{alloc_all, pass_all, free_all, look_at, get, get_in, sets, env}
use contract.Running.{Running, tables}
use denote.Exit.{yes}
use denote.Memory.{lone}
use denote.RawPtr.{Ptr, block_ptr, null_ptr, in_a_block, tests_null, Testable}
use denote.Signature.{plain}
use denote.Steps.{nothing}
use denote.Triple.Clauses.{Clauses}
use denote.Triple.Statement.{Contract}
use denote.Triple.Walked.{Stays, stay_dropped, walk_of, says, ends_at, Goes-dropped}
use Rattle.std.proofs.raw_atomic.Walks.{proved_at}
use Rattle.std.proofs.alloc.Calls.{Fits, handle_tells}
use Rattle.std.proofs.ResultValues.{and_tt}
use Rattle.std.proofs.option.Made.{Some-of, none_of}
use Rattle.std.specs.Prelude.{Option, Some, None}
use Rattle.std.specs.contracts.option.Option as option
use Rattle.std.proofs.BoxSteps.Form.{D, word, box_typed}
use Rattle.std.proofs.BoxSteps.Steps.{box_in}
use Rattle.std.specs.contracts.alloc.Global.{the_row as Heap}
use Rattle.marker_c.specs.Owned.{handle_owns, Content, frees}
use Rattle.marker_c.proofs.HandleSteps.{E, H, LooseSession, single, handle_out, tested}
use Rattle.marker_c.specs.contracts.handle.Handle.into_loose as f
use Rattle.marker_c.proofs.handle.Handle.into_loose.Statement.{statement}
use Rattle.marker_c.proofs.handle.Handle.into_loose.Code as code

abbrev stayed : Stays f.ended.signature.params f.ended.kept
stayed = (stay_dropped (plain (λ _. H)) yes, (stay_dropped (plain (λ _. Heap)) yes, tt))

module _ {M : Type 1} (𝓤 : Ura M) (𝓛 : Logic 𝓤) (𝓜 : Model 𝓤 𝓛.H) (𝓡 : Running 𝓤 𝓛.H 𝓜) where
  abbrev c : Clauses 𝓤 f.ended
  c = f.clauses 𝓛 𝓜.mem 𝓡.returns

  abbrev W : Contract 𝓤
  W = walk_of 𝓛 f.ended stayed c

  module _ (z : W.Ghost) (hv : Val) (fits : Fits E.al hv) where
    abbrev Run : Ptr → SProp 𝓤
    Run p = let 𝓣 = tables 𝓤 𝓛.H 𝓜 𝓡 𝓡.env in WpFn 𝓤 𝓛.H 𝓣.C 𝓣.Λ code.function (single p ∷ hv ∷ []) (W.post z)

    abbrev alloc : Item 𝓤
    alloc = ‵ (Heap.own_val z.0.3.1.0 (hv ∷ []))

    abbrev no_session : Val
    no_session = live 0 (of_list [])

    at_null : z.0.3.0.session ≡ None → ent 𝓤 (⋆ 𝓛 (alloc ∷ [])) (Run null_ptr)
    at_null eb =
        let 𝓣 = tables 𝓤 𝓛.H 𝓜 𝓡 𝓡.env in
        qed 𝓛 (alloc ∷ []) ∵ drop ! $ enter ! 𝓣.C 𝓣.Λ code.function (single null_ptr ∷ hv ∷ []) _ $
        alloc_all ! (λ l. pass_all ! refl ((tt, (record { fits = lit< tt }, tt)), (fits, tt)) $
        -- let Handle { at } = self;
        sets ! (of_opd ! (get_in ! (fld ! refl (stop !)) (sub ! 0 refl (whole !)))) refl (tt, record { fits = lit< tt }) $
        -- if at.is_null()
        sets ! (bin ! (get ! refl) (lit ! tt) (tests_null null_ptr (lit< tt))) refl (tt, tt) $
        first ! $ branches ! (get ! refl)
        (λ t. sets ! (agg ! (and_then ! (lit ! tt) (no_more !))) refl (tt, (record { fits = lit< tt }, tt)) $
        returns_within ! (W.post z) refl (look_at ! 0 refl) $ free_all ! refl $
        use0 𝓛 (‵ ((option.the_row LooseSession).own_val None (no_session ∷ []))) (none_of 𝓛 LooseSession) $
        suffices ! _ (ends_at 𝓛 f.ended stayed c z no_session None (tt, (tt, tt)) (tt, (tt, tt))) $ says ! (sym eb) $
        nothing ! $ nothing ! $ fjoin ! $ nothing ! $ fjoin ! $ join ! $ nothing ! $ join ! $ done !)
        (λ t. absurd t))

    at_block : (x : Content) (b o : ℕ) → z.0.3.0.session ≡ Some x → ent 𝓤 (⋆ 𝓛 (‵ (handle_owns (block_ptr b o) (Some x)) ∷ alloc ∷ [])) (Run (block_ptr b o))
    at_block x b o eb =
        let 𝓣 = tables 𝓤 𝓛.H 𝓜 𝓡 𝓡.env in let at = block_ptr b o in let v : D E = record { ptr = at; alloc = z.0.3.1.0; value = x } in
        let w = word E hv b o in let made : LooseSession.Denot = record { at = at; alloc = z.0.3.1.0; content = x } in
        qed 𝓛 (‵ (handle_owns at (Some x)) ∷ alloc ∷ []) ∵
        use1 𝓛 (given (Testable at) (‵ (handle_owns at (Some x)))) (tested 𝓛 at x) $ learn ! (λ may.
        enter ! 𝓣.C 𝓣.Λ code.function (single at ∷ hv ∷ []) _ $ alloc_all ! (λ l. pass_all ! refl ((tt, (tt, tt)), (fits, tt)) $
        -- let Handle { at } = self;
        sets ! (of_opd ! (get_in ! (fld ! refl (stop !)) (sub ! 0 refl (whole !)))) refl (tt, tt) $
        -- if at.is_null()
        sets ! (bin ! (get ! refl) (lit ! tt) (tests_null at may)) refl (tt, tt) $
        first ! $ branches ! (get ! refl)
        (λ t. absurd t)
        (λ t. skips ! $ exec ! 𝓣.C 𝓣.Λ (env code.Mir.locals l) code.Mir.t-4 (at_ret _ (W.post z)) $
        -- Some(Loose { at: at as *mut Session, alloc })
        sets ! (of_opd ! (get ! refl)) refl (tt, tt) $
        sets ! (agg ! (and_then ! (get ! refl) (and_then ! (get ! refl) (no_more !)))) refl (box_typed E hv b o fits) $
        sets ! (agg ! (and_then ! (lit ! tt) (and_then ! (get ! refl) (no_more !)))) refl (and_tt _ (box_typed E hv b o fits).0, (record { fits = lit< tt }, ((box_typed E hv b o fits).1, tt))) $
        returns ! (look_at ! 0 refl) $ free_all ! refl $
        fsplit ! $ box_in E ! v b o x refl refl $ use1 𝓛 (‵ (LooseSession.own_val made (w ∷ []))) (id⊢ 𝓤 _) $
        use1 𝓛 (‵ ((option.the_row LooseSession).own_val (Some made) (live 1 (of_list (w ∷ [])) ∷ []))) (Some-of 𝓛 LooseSession made w) $
        suffices ! _ (ends_at 𝓛 f.ended stayed c z (live 1 (of_list (w ∷ []))) (Some made) (tt, (tt, tt)) (tt, (tt, tt))) $ says ! (sym eb) $
        nothing ! $ nothing ! $ fjoin ! $ nothing ! $ fjoin ! $ join ! $ nothing ! $ join ! $ done !)))

    goes : (p : Ptr) (content : Option Content) → z.0.3.0.session ≡ content → ent 𝓤 (⋆ 𝓛 (‵ (handle_owns p content) ∷ alloc ∷ [])) (Run p)
    goes p None eb =
        qed 𝓛 (‵ (feq Ptr p null_ptr) ∷ alloc ∷ []) ∵ feq_l ! (λ e.
        by ! (subst (λ (q : Ptr). ent 𝓤 (⋆ 𝓛 (alloc ∷ [])) (Run q)) (sym e) (at_null eb)))
    goes p (Some x) eb =
        qed 𝓛 (‵ (handle_owns p (Some x)) ∷ alloc ∷ []) ∵
        in_a_block ! p (λ q. handle_owns q (Some x)) (fst∗ 𝓤 (never 𝓤) (sem 𝓛 (frees (bare (lone (E.row).mir)) null_ptr))) (λ b o e.
        by ! (subst (λ (q : Ptr). ent 𝓤 (⋆ 𝓛 (‵ (handle_owns (block_ptr b o) (Some x)) ∷ alloc ∷ [])) (Run q)) (sym e) (at_block x b o eb)))

pub into_loose_spec : {M : Type 1} → statement M
into_loose_spec 𝓤 𝓛 𝓜 𝓡 wired =
    let 𝓣 = tables 𝓤 𝓛.H 𝓜 𝓡 𝓡.env in
    proved_at 𝓛 f.ended stayed (c 𝓤 𝓛 𝓜 𝓡) 𝓜 𝓡 (Goes-dropped 𝓛 0 (plain (λ _. H)) yes (λ κs x w. refl), (Goes-dropped 𝓛 0 (plain (λ _. Heap)) yes (λ κs x w. refl), tt))
    f.Key.name code.function (code.unfolded 𝓤 𝓛.H 𝓜 𝓡 wired) (λ z are.
    let d = z.0.3.0 in
    qed 𝓛 ((‵ ftrue ⊛ ‵ (fsep (H.own_val d z.0.4.0) (fsep (Heap.own_val z.0.3.1.0 z.0.4.1.0) ftrue))) ∷ ‵ ftrue ∷ []) ∵ split ! $ drop ! $ fsplit ! $
    handle_out ! d z.0.4.0 (λ ws. move ! (1 ∷ []) $ fsplit ! $ handle_tells E.al ! z.0.3.1.0 z.0.4.1.0 (λ hv es fits. keep ! (2 ∷ 0 ∷ []) $
    by ! (subst (λ (us : List Val × List Val). ent 𝓤 (⋆ 𝓛 (‵ (handle_owns d.at d.session) ∷ ‵ (Heap.own_val z.0.3.1.0 (hv ∷ [])) ∷ [])) (WpFn 𝓤 𝓛.H 𝓣.C 𝓣.Λ code.function (us.0 ++ (us.1 ++ [])) ((W 𝓤 𝓛 𝓜 𝓡).post z)))
    (λ j. (sym ws j, sym es j)) (goes 𝓤 𝓛 𝓜 𝓡 z hv fits d.at d.session refl)))))
