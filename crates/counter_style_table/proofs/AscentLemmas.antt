-- The way up along `extends`.
use Rattle.std.proofs.Common.{◌≡◌, ◌∷◌, ◌==◌, ◌||◌, ◌<◌, ℕ, List, [], Bool, true, false, Option, Some, None, ◌++◌, reverse, length, get_or, set, unwrap_or, refl, sym, ap, subst, ◌∙◌, arith, inl, inr}
use Rattle.std.proofs.Math.ListN.{length-set}
use Rattle.std.proofs.lemmas.Bool.{cases_eq, or_cases, or_left, or_right, eq-eqb, ne_eqb}
use Rattle.std.proofs.lemmas.Grind.{get_or-set_at}
use Rattle.std.proofs.lemmas.List.{get_or-set_other, reverse-append}
use Rattle.std.specs.List.{slice_get}
use Rattle.std.specs.Option.{option_map_or}
use Rattle.std.specs.Prelude.{is_some}
use Rattle.plain_types.specs.declared.counter_style.CounterStyle.{CounterStyle}
use Rattle.plain_types.specs.declared.counter_style.StyleDef.{StyleDef}
use Rattle.plain_types.specs.Table.{decimal_style}
use Rattle.css_definitions.specs.CounterStyles.{over}
use Rattle.counter_style_table.specs.Extends.{AreBelow, AreReady, AreSettled, IsDescent, base, finished_at, is_covered, is_done, is_on_path, over_at, style_from}
use Rattle.counter_style_table.proofs.CycleLemmas.{none_some}
use Rattle.counter_style_table.proofs.PathLemmas.{turn_plain, turn_head, turn_cycle}
use Rattle.counter_style_table.proofs.SettledLemmas.{finished_on_cycle, finished_off_cycle}

module _ (rules : List StyleDef) where
  -- what the way up keeps, from `first` with the path `whole` on
  pub record Ascends (first : List (Option CounterStyle)) (whole : List ℕ) (styles : List (Option CounterStyle)) (cycle from : Option ℕ) (path : List ℕ) : Type 0 where
    pub room : length styles ≡ length rules
    pub right : (place : ℕ) (style : CounterStyle) → get_or styles place None ≡ Some style → style ≡ finished_at rules place
    pub below : AreBelow (length rules) path
    pub ready : AreReady (base rules) (over_at rules) (finished_at rules) cycle (style_from styles from) path
    pub decimal_first : (head : ℕ) → cycle ≡ Some head → from ≡ None
    pub covered : (p : ℕ) → is_covered styles path p ≡ is_covered first whole p

  pub sets_up : (first : List (Option CounterStyle)) (whole : List ℕ) (cycle from : Option ℕ) → AreSettled rules first → IsDescent rules first whole cycle from → Ascends first whole first cycle from whole
  sets_up first whole cycle from s d = record {
    room = s.room;
    right = s.right;
    below = d.below;
    ready = d.ready;
    decimal_first = d.decimal_first;
    covered = λ p. refl;
  }

  module _ (first : List (Option CounterStyle)) (whole : List ℕ) (styles : List (Option CounterStyle)) (cycle from : Option ℕ) (path rest : List ℕ) (place : ℕ) (style : CounterStyle) (popped : path ≡ place ∷ rest) (made : style ≡ over_at rules place (style_from styles from)) (up : Ascends first whole styles cycle from path) where
    now : List (Option CounterStyle)
    now = set styles place (Some style)

    below_now : AreBelow (length rules) (place ∷ rest)
    below_now = subst (AreBelow (length rules)) popped up.below

    pub place_below : place < length rules
    place_below = below_now.0

    inside : place < length styles
    inside = omega (arith, below_now.0, up.room)

    ready_now : AreReady (base rules) (over_at rules) (finished_at rules) cycle (style_from styles from) (place ∷ rest)
    ready_now = subst (AreReady (base rules) (over_at rules) (finished_at rules) cycle (style_from styles from)) popped up.ready

    room_now : length now ≡ length rules
    unfolding now
    room_now = length-set styles place (Some style) ∙ up.room

    here_now : get_or now place None ≡ Some style
    unfolding now
    here_now = get_or-set_at styles place place (Some style) None refl inside

    right_now : style ≡ finished_at rules place → (q : ℕ) (other : CounterStyle) → get_or now q None ≡ Some other → other ≡ finished_at rules q
    unfolding now
    right_now e q other f = elim (cases_eq q place) [
      | inl same ↦
          let both : Some other ≡ Some style = sym f ∙ get_or-set_at styles place q (Some style) None same inside in
          let own : other ≡ style = cc in
          own ∙ e ∙ ap (finished_at rules) (sym same)
      | inr away ↦ up.right q other (sym (get_or-set_other styles place q (Some style) None away) ∙ f)
    ]

    covered_now : (p : ℕ) → is_covered now rest p ≡ is_covered first whole p
    unfolding now
    covered_now p = elim (cases_eq p place) [
      | inl same ↦
          ap (λ found. is_some found || is_on_path p rest) (get_or-set_at styles place p (Some style) None same inside)
          ∙ sym (or_right (is_done styles p) (is_on_path p (place ∷ rest)) (or_left (place == p) (is_on_path p rest) (eq-eqb place p (sym same))))
          ∙ ap (λ places. is_covered styles places p) (sym popped) ∙ up.covered p
      | inr away ↦
          ap (λ found. is_some found || is_on_path p rest) (get_or-set_other styles place p (Some style) None away)
          ∙ ap (λ b. is_done styles p || (b || is_on_path p rest)) (sym (ne_eqb place p (λ same. away (sym same))))
          ∙ ap (λ places. is_covered styles places p) (sym popped) ∙ up.covered p
    ]

    -- the next style is over this one
    goes_up : (over_at rules place (style_from styles from) ≡ finished_at rules place) × AreReady (base rules) (over_at rules) (finished_at rules) None (over_at rules place (style_from styles from)) rest
        → Ascends first whole now None (Some place) rest
    goes_up turn = record {
      room = room_now;
      right = right_now (made ∙ turn.0);
      below = below_now.1;
      ready = subst (λ s. AreReady (base rules) (over_at rules) (finished_at rules) None s rest) (sym made ∙ sym (ap (λ found. unwrap_or found decimal_style) here_now)) turn.1;
      decimal_first = λ head e. absurd (none_some e);
      covered = covered_now;
    }

    pub goes_up_plain : cycle ≡ None → Ascends first whole (set styles place (Some style)) None (Some place) rest
    unfolding now
    goes_up_plain e =
        goes_up (turn_plain (base rules) (over_at rules) (finished_at rules) (length rules) (finished_on_cycle rules) (finished_off_cycle rules) place (style_from styles from) rest below_now
        (subst (λ c. AreReady (base rules) (over_at rules) (finished_at rules) c (style_from styles from) (place ∷ rest)) e ready_now))

    pub goes_up_head : (head : ℕ) → cycle ≡ Some head → (head == place) ≡ true → Ascends first whole (set styles place (Some style)) None (Some place) rest
    unfolding now
    goes_up_head head e h =
        goes_up (turn_head (base rules) (over_at rules) (finished_at rules) (length rules) (finished_on_cycle rules) (finished_off_cycle rules) head place (style_from styles from) rest h below_now
        (subst (λ c. AreReady (base rules) (over_at rules) (finished_at rules) c (style_from styles from) (place ∷ rest)) e ready_now))

    pub goes_up_cycle : (head : ℕ) → cycle ≡ Some head → (head == place) ≡ false → Ascends first whole (set styles place (Some style)) cycle from rest
    unfolding now
    goes_up_cycle head e h =
        let turn = turn_cycle (base rules) (over_at rules) (finished_at rules) (length rules) (finished_on_cycle rules) (finished_off_cycle rules) head place (style_from styles from) rest h
        (subst (λ c. AreReady (base rules) (over_at rules) (finished_at rules) c (style_from styles from) (place ∷ rest)) e ready_now) in
        let none : from ≡ None = up.decimal_first head e in
        record {
          room = room_now;
          right = right_now (made ∙ turn.1);
          below = below_now.1;
          ready =
              subst (λ c. AreReady (base rules) (over_at rules) (finished_at rules) c (style_from now from) rest) (sym e)
              (subst (λ s. AreReady (base rules) (over_at rules) (finished_at rules) (Some head) s rest) (ap (style_from styles) none ∙ sym (ap (style_from now) none)) turn.2);
          decimal_first = up.decimal_first;
          covered = covered_now;
        }

  -- at the end all of the path is finished
  module _ (first : List (Option CounterStyle)) (whole : List ℕ) (styles : List (Option CounterStyle)) (cycle from : Option ℕ) (path : List ℕ) (empty : path ≡ []) (up : Ascends first whole styles cycle from path) where
    pub done_at_end : (p : ℕ) → is_done styles p ≡ is_covered first whole p
    done_at_end p = sym (or_nothing (is_done styles p)) ∙ ap (λ places. is_covered styles places p) (sym empty) ∙ up.covered p where
      or_nothing : (b : Bool) → (b || false) ≡ b
      or_nothing true = refl
      or_nothing false = refl

    pub settled_at_end : (before before' : Option ℕ) → AreSettled rules first → IsDescent rules first whole before before' → AreSettled rules styles
    settled_at_end before before' s d = record {
      room = up.room;
      right = up.right;
      closed = λ place other h e.
          done_at_end other
          ∙ elim (or_cases (is_done first place) (is_on_path place whole) (sym (done_at_end place) ∙ h)) [
            | inl done ↦ or_left (is_done first other) (is_on_path other whole) (s.closed place other done e)
            | inr there ↦ d.covered place other there e
          ];
      plain = λ place h e. done_at_end place ∙ or_left (is_done first place) (is_on_path place whole) (s.plain place h e);
    }

pub over_by : (rules : List StyleDef) (place : ℕ) (rule : StyleDef) (style extended from : CounterStyle) → slice_get rules place ≡ Some rule → style ≡ over rule extended → extended ≡ from → style ≡ over_at rules place from
over_by rules place rule style extended from at e f = e ∙ ap (over rule) f ∙ sym (ap (λ found. option_map_or (λ r. over r from) found from) at)

-- the last place of a path is its first one from the end
pub popped_first : (path rest : List ℕ) (place : ℕ) → path ≡ rest ++ place ∷ [] → reverse path ≡ place ∷ reverse rest
popped_first path rest place e = ap reverse e ∙ reverse-append rest (place ∷ [])
