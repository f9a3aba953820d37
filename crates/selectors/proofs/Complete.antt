-- What the grammar says is read, so there is one reading at most.
use Rattle.std.proofs.Common.{◌≡◌, ℕ, suc, List, [], ◌∷◌, Option, Some, None, length, ◌<◌, ◌⊎◌, inl, inr, refl, ap, ◌∙◌}
use Rattle.std.proofs.lemmas.Bool.{cases_Bool}
use Rattle.plain_types.specs.declared.selector.Compound.{Compound}
use Rattle.plain_types.specs.declared.selector.Selector.{Selector}
use Rattle.plain_types.specs.declared.selector.Simple.{Simple}
use Rattle.plain_types.specs.declared.selector_parts.Join.{Join}
use Rattle.plain_types.specs.declared.selector_parts.Join.TheVariants as join
use Rattle.plain_types.specs.declared.selector_parts.PseudoElement.{PseudoElement}
use Rattle.plain_types.specs.declared.selector_parts.PseudoElement.TheVariants as pseudo
use Rattle.reading.proofs.Runs.{Run, stop, more, run_is}
use Rattle.css_tokens.specs.declared.token.Token.{Token}
use Rattle.css_tokens.specs.TokenReading.{is_whitespace, function_at, held_at, past_delimiter, past_close, skip_whitespace}
use Rattle.selectors.specs.Parts.{spaced_at, after_comma_at, comma_list_at}
use Rattle.selectors.specs.declared.an_plus_b.AnPlusB.{AnPlusB}
use Rattle.selectors.specs.declared.pseudo_classes.Nesting.{Nesting}
use Rattle.selectors.specs.declared.pseudo_classes.Siblings.{Siblings}
use Rattle.selectors.specs.declared.selector_list.Sequence.{Sequence}
use Rattle.selectors.specs.AnPlusB.{an_plus_b_at}
use Rattle.selectors.specs.Simples.{type_at, id_at, class_at, attribute_at, nth_class, nth}
use Rattle.selectors.specs.Compounds.{plain_class_at, nesting_class, nested, class_function_at, compound, subclass_at, compound_at, choices_at}
use Rattle.selectors.specs.Selectors.{combinator_of, combinator_at, pseudo_element_at, lone_at, Step, step_to, step_at, outer_compound_at, sequence, no_compound, and_no_compound, with_pseudo, complex_end, selector_at, selector_list}
use Rattle.selectors.specs.Grammar.{IsSubclass, an_id, a_class, an_attribute, a_plain_class, an_nth_class, a_nesting_class, AreSubclasses, no_subclass, one_subclass, IsCompound, with_type, without_type, AreChoices, last_choice, next_choice, IsCombinator, written, descendant, AreSteps, no_step, one_step, IsSelector, of_elements, of_pseudo_elements, of_lone_ones, of_any_ones, AreSelectors, last_selector, next_selector}
use Rattle.selectors.proofs.Shortening.{subclass_shorter, after_choice_shorter, after_selector_shorter, step_shorter}
use Rattle.selectors.proofs.Words.{nesting_no_nth}
use Rattle.selectors.proofs.Heads.{sign_head, Halts, at_end, halt_no_pseudo, halt_no_subclass, colon_alone, pseudo_no_subclass, function_no_plain, blank_halts, spaced_halts, comma_halts, close_halts, combinator_halts, type_begins, id_begins, class_begins, attribute_begins, colon_begins, pseudo_begins, pseudo_no_combinator, close_no_comma}

-- ---- comma lists

module _ {X : Type 0} (item_at : List Token → Option (X × List Token)) where
  -- a first item, and a run of others after commas
  pub record Listed (ts : List Token) (all : List X) (end : List Token) : Type 0 where
    pub first : X
    pub others : List X
    pub mid : List Token
    pub spaced : spaced_at item_at ts ≡ Some (first, mid)
    pub run : Run (after_comma_at item_at) mid others end
    pub all_is : all ≡ first ∷ others

  pub spaced_is : (ts after : List Token) (x : X) → item_at (skip_whitespace ts) ≡ Some (x, after) → spaced_at item_at ts ≡ Some (x, skip_whitespace after)
  spaced_is ts after x e = rw e refl

  pub Listed-last : (ts after : List Token) (x : X) → item_at (skip_whitespace ts) ≡ Some (x, after) → past_delimiter 44 (skip_whitespace after) ≡ None → Listed ts (x ∷ []) (skip_whitespace after)
  unfolding after_comma_at
  Listed-last ts after x e n = record { first = x; others = []; mid = skip_whitespace after; spaced = spaced_is ts after x e; run = stop (rw n refl); all_is = refl }

  pub Listed-next : (ts after next : List Token) (x : X) (xs : List X) (end : List Token) → item_at (skip_whitespace ts) ≡ Some (x, after) → past_delimiter 44 (skip_whitespace after) ≡ Some next → Listed next xs end → Listed ts (x ∷ xs) end
  unfolding after_comma_at
  Listed-next ts after next x xs end e c l = record {
    first = x;
    others = l.first ∷ l.others;
    mid = skip_whitespace after;
    spaced = spaced_is ts after x e;
    run = more l.first l.mid (rw c l.spaced) l.run;
    all_is = ap (λ (t : List X). x ∷ t) l.all_is;
  }

  pub Listed-read : ((ts : List Token) (x : X × List Token) → after_comma_at item_at ts ≡ Some x → length x.1 < length ts) → (ts : List Token) (all : List X) (end : List Token) → Listed ts all end → comma_list_at item_at ts ≡ Some (all, end)
  Listed-read shorter ts all end l = let run = run_is (after_comma_at item_at) shorter l.run in rw (l.spaced, run, l.all_is) refl

no_comma : (ts rest : List Token) → past_close 41 ts ≡ Some rest → past_delimiter 44 ts ≡ None
no_comma [] rest e = refl
no_comma (t ∷ us) rest e = close_no_comma t us rest e

-- ---- simple and compound selectors

module _ (text : List ℕ) where
  abbrev subclass : ℕ → List Token → Option (Simple × List Token)
  subclass levels = subclass_at text (choices_at text levels)

  id_read : (levels : ℕ) (ts : List Token) (x : Simple × List Token) → id_at ts ≡ Some x → subclass levels ts ≡ Some x
  unfolding subclass_at
  id_read levels ts x e = rw e refl

  class_read : (levels : ℕ) (ts : List Token) (x : Simple × List Token) → class_at ts ≡ Some x → subclass levels ts ≡ Some x
  unfolding subclass_at
  class_read levels ts x e = let no = class_begins ts x e in rw (no.2, e) refl

  attribute_read : (levels : ℕ) (ts : List Token) (x : Simple × List Token) → attribute_at ts ≡ Some x → subclass levels ts ≡ Some x
  unfolding subclass_at
  attribute_read levels ts x e = let no = attribute_begins ts x e in rw (no.2, no.3, e) refl

  plain_read : (levels : ℕ) (ts after : List Token) (x : Simple × List Token) → past_delimiter 58 ts ≡ Some after → plain_class_at after ≡ Some x → subclass levels ts ≡ Some x
  plain_read levels ts after x e f = colon_alone text (choices_at text levels) ts after e ∙ rw f refl

  function_read : (levels : ℕ) (ts after : List Token) (name : List ℕ) (inside : List Token) → past_delimiter 58 ts ≡ Some after → function_at after ≡ Some (name, inside) → subclass levels ts ≡ class_function_at text (choices_at text levels) name inside
  function_read levels ts after name inside e f = let no = function_no_plain after (name, inside) f in colon_alone text (choices_at text levels) ts after e ∙ rw (no, f) refl

  nth_read : (levels : ℕ) (ts after : List Token) (name : List ℕ) (inside : List Token) (siblings : Siblings) (value : AnPlusB) (rest : List Token)
      → past_delimiter 58 ts ≡ Some after → function_at after ≡ Some (name, inside) → nth_class name ≡ Some siblings → an_plus_b_at text inside ≡ Some (value, rest) → subclass levels ts ≡ Some (nth siblings value, rest)
  unfolding class_function_at
  nth_read levels ts after name inside siblings value rest e f g h = function_read levels ts after name inside e f ∙ rw (g, h) refl

  nesting_read : (levels : ℕ) (ts after : List Token) (name : List ℕ) (inside : List Token) (nesting : Nesting) (choices : List Compound) (rest : List Token)
      → past_delimiter 58 ts ≡ Some after → function_at after ≡ Some (name, inside) → nesting_class name ≡ Some nesting → choices_at text levels inside ≡ Some (choices, rest) → subclass levels ts ≡ Some (nested nesting choices, rest)
  unfolding class_function_at
  nesting_read levels ts after name inside nesting choices rest e f g h = let no = nesting_no_nth name nesting g in function_read levels ts after name inside e f ∙ rw (no, g, h) refl

  choices_read : (levels : ℕ) (ts : List Token) (choices : List Compound) (end rest : List Token) → Listed (compound_at text (choices_at text levels)) ts choices end → past_close 41 end ≡ Some rest → choices_at text (suc levels) ts ≡ Some (choices, rest)
  unfolding choices_at
  choices_read levels ts choices end rest l e = let read = Listed-read (compound_at text (choices_at text levels)) (after_choice_shorter text levels) ts choices end l in rw (read, e) refl

  subclass_begins : {levels : ℕ} {ts : List Token} {s : Simple} {rest : List Token} → IsSubclass text levels ts s rest → (type_at ts ≡ None) × (held_at combinator_of ts ≡ None)
  subclass_begins (an_id levels ts s rest e) = id_begins ts (s, rest) e
  subclass_begins (a_class levels ts s rest e) = let no = class_begins ts (s, rest) e in (no.0, no.1)
  subclass_begins (an_attribute levels ts s rest e) = let no = attribute_begins ts (s, rest) e in (no.0, no.1)
  subclass_begins (a_plain_class levels ts after s rest e f) = colon_begins ts after e
  subclass_begins (an_nth_class levels ts after name inside siblings value rest e f g h) = colon_begins ts after e
  subclass_begins (a_nesting_class inner ts after name inside nesting choices rest e f g d) = colon_begins ts after e

  typed_read : (levels : ℕ) (ts : List Token) (type : Simple) (mid : List Token) (simples : List Simple) (rest : List Token) → type_at ts ≡ Some (type, mid) → Run (subclass levels) mid simples rest
      → compound_at text (choices_at text levels) ts ≡ Some (compound (type ∷ simples), rest)
  unfolding compound_at
  typed_read levels ts type mid simples rest t r = let run = run_is (subclass levels) (subclass_shorter text levels) r in rw (t, run) refl

  untyped_read : (levels : ℕ) (ts : List Token) (simple : Simple) (simples : List Simple) (rest : List Token) → type_at ts ≡ None → Run (subclass levels) ts (simple ∷ simples) rest
      → compound_at text (choices_at text levels) ts ≡ Some (compound (simple ∷ simples), rest)
  unfolding compound_at
  untyped_read levels ts simple simples rest t r = let run = run_is (subclass levels) (subclass_shorter text levels) r in rw (t, run) refl

  -- the choices before the end of the function
  record Chosen (levels : ℕ) (ts : List Token) (choices : List Compound) (rest : List Token) : Type 0 where
    end : List Token
    listed : Listed (compound_at text (choices_at text levels)) ts choices end
    close : past_close 41 end ≡ Some rest

  halts_here : (levels : ℕ) (ts : List Token) → Halts ts → subclass levels ts ≡ None
  halts_here levels ts h = halt_no_subclass text (choices_at text levels) h

  mutual
    subclass_complete : {levels : ℕ} {ts : List Token} {s : Simple} {rest : List Token} → IsSubclass text levels ts s rest → subclass levels ts ≡ Some (s, rest)
    subclass_complete (an_id levels ts s rest e) = id_read levels ts (s, rest) e
    subclass_complete (a_class levels ts s rest e) = class_read levels ts (s, rest) e
    subclass_complete (an_attribute levels ts s rest e) = attribute_read levels ts (s, rest) e
    subclass_complete (a_plain_class levels ts after s rest e f) = plain_read levels ts after (s, rest) e f
    subclass_complete (an_nth_class levels ts after name inside siblings value rest e f g h) = nth_read levels ts after name inside siblings value rest e f g h
    subclass_complete (a_nesting_class inner ts after name inside nesting choices rest e f g d) =
        let c = choices_complete d in
        nesting_read (suc inner) ts after name inside nesting choices rest e f g (choices_read inner inside choices c.end rest c.listed c.close)

    subclasses_complete : {levels : ℕ} {ts : List Token} {simples : List Simple} {rest : List Token} → AreSubclasses text levels ts simples rest → subclass levels rest ≡ None → Run (subclass levels) ts simples rest
    subclasses_complete (no_subclass levels ts) n = stop n
    subclasses_complete (one_subclass levels ts s mid others rest d ds) n = more s mid (subclass_complete d) (subclasses_complete ds n)

    compound_complete : {levels : ℕ} {ts : List Token} {c : Compound} {rest : List Token} → IsCompound text levels ts c rest → subclass levels rest ≡ None → compound_at text (choices_at text levels) ts ≡ Some (c, rest)
    compound_complete (with_type levels ts type mid simples rest t ds) n = typed_read levels ts type mid simples rest t (subclasses_complete ds n)
    compound_complete (without_type levels ts s mid simples rest d ds) n =
        untyped_read levels ts s simples rest (subclass_begins d).0 (more s mid (subclass_complete d) (subclasses_complete ds n))

    choices_complete : {levels : ℕ} {ts : List Token} {choices : List Compound} {rest : List Token} → AreChoices text levels ts choices rest → Chosen levels ts choices rest
    choices_complete (last_choice levels ts choice after rest d e) = record {
      end = skip_whitespace after;
      listed = Listed-last (compound_at text (choices_at text levels)) ts after choice
          (compound_complete d (halts_here levels after (spaced_halts after (close_halts (skip_whitespace after) rest e)))) (no_comma (skip_whitespace after) rest e);
      close = e;
    }
    choices_complete (next_choice levels ts choice after next others rest d e ds) = let c = choices_complete ds in record {
      end = c.end;
      listed = Listed-next (compound_at text (choices_at text levels)) ts after next choice others c.end
          (compound_complete d (halts_here levels after (spaced_halts after (comma_halts (skip_whitespace after) next e)))) e c.listed;
      close = c.close;
    }

  -- ---- complex selectors

  compound_begins : {levels : ℕ} {ts : List Token} {c : Compound} {rest : List Token} → IsCompound text levels ts c rest → held_at combinator_of ts ≡ None
  compound_begins (with_type levels ts type mid simples rest t ds) = (type_begins ts (type, mid) t).0
  compound_begins (without_type levels ts s mid simples rest d ds) = (subclass_begins d).1

  no_pseudo : (levels : ℕ) (ts : List Token) (x : Simple × List Token) → subclass levels ts ≡ Some x → (o : Option (PseudoElement × List Token)) → pseudo_element_at ts ≡ o → pseudo_element_at ts ≡ None
  no_pseudo levels ts x e (Some p) w = absurd (let no = pseudo_no_subclass text (choices_at text levels) ts p w in cc)
  no_pseudo levels ts x e None w = w

  compound_no_pseudo : {levels : ℕ} {ts : List Token} {c : Compound} {rest : List Token} → IsCompound text levels ts c rest → pseudo_element_at ts ≡ None
  compound_no_pseudo (with_type levels ts type mid simples rest t ds) = (type_begins ts (type, mid) t).1
  compound_no_pseudo (without_type levels ts s mid simples rest d ds) = no_pseudo levels ts (s, mid) (subclass_complete d) (pseudo_element_at ts) refl

  combinator_complete : {ts : List Token} {join : Join} {rest : List Token} → IsCombinator ts join rest → held_at combinator_of rest ≡ None → combinator_at ts ≡ Some (join, rest)
  combinator_complete (written ts join after e) n = rw e refl
  combinator_complete (descendant blank after e) n = rw (e, n) refl

  combinator_stops : {ts : List Token} {join : Join} {rest : List Token} → IsCombinator ts join rest → Halts ts
  combinator_stops (written ts join after e) = spaced_halts ts (combinator_halts (skip_whitespace ts) (join, after) e)
  combinator_stops (descendant blank after e) = blank_halts blank after e

  step_read : (ts : List Token) (join : Join) (after : List Token) (c : Compound) (mid : List Token) → combinator_at ts ≡ Some (join, after) → outer_compound_at text after ≡ Some (c, mid) → step_at text ts ≡ Some (step_to join c, mid)
  unfolding step_at
  step_read ts join after c mid e f = rw (e, f) refl

  steps_complete : {ts : List Token} {steps : List Step} {rest : List Token} → AreSteps text ts steps rest → subclass 16 rest ≡ None → step_at text rest ≡ None → Run (step_at text) ts steps rest × (subclass 16 ts ≡ None)
  steps_complete (no_step ts) s n = (stop n, s)
  steps_complete (one_step ts join after c mid others rest comb d ds) s n =
      let tail = steps_complete ds s n in
      let read = step_read ts join after c mid (combinator_complete comb (compound_begins d)) (compound_complete d tail.1) in
      (more (step_to join c) mid read tail.0, halts_here 16 ts (combinator_stops comb))

  -- no compound selector stands where neither a type nor a subclass does
  nothing_read : (ts : List Token) → type_at ts ≡ None → subclass 16 ts ≡ None → outer_compound_at text ts ≡ None
  unfolding compound_at
  nothing_read ts t s = let run = run_is (subclass 16) (subclass_shorter text 16) (stop s) in rw (t, run) refl

  no_step_read : (ts after : List Token) (join : Join) → combinator_at ts ≡ Some (join, after) → outer_compound_at text after ≡ None → step_at text ts ≡ None
  unfolding step_at
  no_step_read ts after join e f = rw (e, f) refl

  no_combinator_step : (ts : List Token) → combinator_at ts ≡ None → step_at text ts ≡ None
  unfolding step_at
  no_combinator_step ts e = rw e refl

  -- where a selector ends
  record Done (rest : List Token) : Type 0 where
    no_subclass_here : subclass 16 rest ≡ None
    no_step_here : step_at text rest ≡ None
    no_pseudo_here : pseudo_element_at rest ≡ None
    no_lone_here : lone_at rest ≡ None

  -- whitespace leads to nothing where nothing can stand behind it
  leads_nowhere : (rest : List Token) → held_at combinator_of (skip_whitespace rest) ≡ None → (combinator_at rest ≡ None) ⊎ (combinator_at rest ≡ Some (join.Descendant, skip_whitespace rest))
  leads_nowhere [] n = inl refl
  leads_nowhere (t ∷ us) n = elim (cases_Bool (is_whitespace t.kind)) [
    | inl holds ↦ inr (let behind : held_at combinator_of (skip_whitespace us) ≡ None = rw holds at n in rw (holds, behind) refl)
    | inr fails ↦ inl (let here : held_at combinator_of (t ∷ us) ≡ None = rw fails at n in rw (fails, here) refl)
  ]

  done : (rest : List Token) → held_at combinator_of (skip_whitespace rest) ≡ None → type_at (skip_whitespace rest) ≡ None → Halts (skip_whitespace rest) → Done rest
  done rest n t h =
      let w = skip_whitespace rest in
      let nothing = nothing_read w t (halts_here 16 w h) in
      record {
        no_subclass_here = halts_here 16 rest (spaced_halts rest h);
        no_step_here = elim (leads_nowhere rest n) [ inl none ↦ no_combinator_step rest none | inr some ↦ no_step_read rest w join.Descendant some nothing ];
        no_pseudo_here = halt_no_pseudo (spaced_halts rest h);
        no_lone_here = elim (leads_nowhere rest n) [ inl none ↦ rw none refl | inr some ↦ (let no = halt_no_pseudo h in rw (some, no) refl) ];
      }

  elements_read : (ts : List Token) (first : Compound) (mid : List Token) (steps : List Step) (rest : List Token) → pseudo_element_at ts ≡ None → outer_compound_at text ts ≡ Some (first, mid) → Run (step_at text) mid steps rest
      → selector_at text ts ≡ complex_end (sequence first steps) rest
  unfolding selector_at
  elements_read ts first mid steps rest n c r = let run = run_is (step_at text) (step_shorter text) r in rw (n, c, run) refl

  own_end : (s : Sequence) (rest : List Token) → pseudo_element_at rest ≡ None → lone_at rest ≡ None → complex_end s rest ≡ Some (with_pseudo s pseudo.Own, rest)
  unfolding complex_end
  own_end s rest p l = rw (p, l) refl

  pseudo_end : (s : Sequence) (end : List Token) (p : PseudoElement) (rest : List Token) → pseudo_element_at end ≡ Some (p, rest) → complex_end s end ≡ Some (with_pseudo s p, rest)
  unfolding complex_end
  pseudo_end s end p rest e = rw e refl

  lone_end : (s : Sequence) (end : List Token) (join : Join) (after : List Token) (p : PseudoElement) (rest : List Token) → pseudo_element_at end ≡ None → combinator_at end ≡ Some (join, after) → pseudo_element_at after ≡ Some (p, rest)
      → complex_end s end ≡ Some (with_pseudo (and_no_compound s join) p, rest)
  unfolding complex_end
  lone_end s end join after p rest n c e = rw (n, c, e) refl

  alone_read : (ts : List Token) (p : PseudoElement) (rest : List Token) → pseudo_element_at ts ≡ Some (p, rest) → selector_at text ts ≡ Some (with_pseudo (sequence no_compound []) p, rest)
  unfolding selector_at
  alone_read ts p rest e = rw e refl

  no_pseudo_step : (ts : List Token) (x : PseudoElement × List Token) → pseudo_element_at ts ≡ Some x → step_at text ts ≡ None
  no_pseudo_step ts x e = no_combinator_step ts (pseudo_no_combinator ts x e)

  selector_complete : {ts : List Token} {s : Selector} {rest : List Token} → IsSelector text ts s rest → Done rest → selector_at text ts ≡ Some (s, rest)
  selector_complete (of_elements ts first mid steps rest d ds) f =
      let run = steps_complete ds f.no_subclass_here f.no_step_here in
      elements_read ts first mid steps rest (compound_no_pseudo d) (compound_complete d run.1) run.0 ∙ own_end (sequence first steps) rest f.no_pseudo_here f.no_lone_here
  selector_complete (of_pseudo_elements ts first mid steps end p rest d ds e) f =
      let run = steps_complete ds (pseudo_no_subclass text (choices_at text 16) end (p, rest) e) (no_pseudo_step end (p, rest) e) in
      elements_read ts first mid steps end (compound_no_pseudo d) (compound_complete d run.1) run.0 ∙ pseudo_end (sequence first steps) end p rest e
  selector_complete (of_lone_ones ts first mid steps end join after p rest d ds comb e) f =
      let halts = combinator_stops comb in
      let begins = pseudo_begins after (p, rest) e in
      let combinator = combinator_complete comb begins.1 in
      let nothing = nothing_read after begins.0 (pseudo_no_subclass text (choices_at text 16) after (p, rest) e) in
      let run = steps_complete ds (halts_here 16 end halts) (no_step_read end after join combinator nothing) in
      elements_read ts first mid steps end (compound_no_pseudo d) (compound_complete d run.1) run.0 ∙ lone_end (sequence first steps) end join after p rest (halt_no_pseudo halts) combinator e
  selector_complete (of_any_ones ts p rest e) f = alone_read ts p rest e

  -- ---- lists of selectors

  done_at_end : (rest : List Token) → skip_whitespace rest ≡ [] → Done rest
  done_at_end rest e = done rest (rw e refl) (rw e refl) (rw e at_end)

  done_at_comma : (rest next : List Token) → past_delimiter 44 (skip_whitespace rest) ≡ Some next → Done rest
  done_at_comma rest next e = let h = sign_head 44 (skip_whitespace rest) next e in done rest (rw (h.1, h.2) refl) (rw (h.1, h.2) refl) (comma_halts (skip_whitespace rest) next e)

  list_complete : {ts : List Token} {selectors : List Selector} → AreSelectors text ts selectors → Listed (selector_at text) ts selectors []
  list_complete (last_selector ts s after d e) =
      let l = Listed-last (selector_at text) ts after s (selector_complete d (done_at_end after e)) (rw e refl) in
      rw e at l
  list_complete (next_selector ts s after next others d e ds) = Listed-next (selector_at text) ts after next s others [] (selector_complete d (done_at_comma after next e)) e (list_complete ds)

  -- what the grammar says of tokens is read from them
  pub selectors_complete : (ts : List Token) (selectors : List Selector) → AreSelectors text ts selectors → selector_list text ts ≡ Some selectors
  unfolding selector_list
  selectors_complete ts selectors d = let read = Listed-read (selector_at text) (after_selector_shorter text) ts selectors [] (list_complete d) in rw read refl

  pub one_reading : (ts : List Token) (selectors others : List Selector) → AreSelectors text ts selectors → AreSelectors text ts others → selectors ≡ others
  one_reading ts selectors others d e = let first = selectors_complete ts selectors d in let second = selectors_complete ts others e in cc
