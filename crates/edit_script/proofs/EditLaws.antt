-- The edits of a run that is made up, one by one.
use Rattle.std.proofs.Common.{◌≡◌, ℕ, suc, ◌+◌, ◌-◌, ◌<◌, ◌≤◌, Bool, true, cond, eqb, List, [], ◌∷◌, ◌++◌, refl, sym, ap, ◌∙◌, append_assoc, append-nil, inl, inr, arith}
use Rattle.std.specs.Prelude.{Result, Ok, Err, OnOk}
use Rattle.std.proofs.lemmas.Bool.{cases_Bool, eqb-true}
use Rattle.plain_types.specs.declared.edit.Edit.{Edit}
use Rattle.edit_script.specs.Draws.{drawn, next_state, state_after}
use Rattle.edit_script.specs.Generator.{draws_of, edit_drawn, edit_of_kind, edits, kind_drawn}

-- Only a move has a target.
same_target : (kind section place target other : ℕ) → (kind ≡ 7 → target ≡ other) → edit_of_kind kind section place target ≡ edit_of_kind kind section place other
same_target kind section place target other same = elim (cases_Bool (eqb kind 7)) [
  | inl move ↦ ap (edit_of_kind kind section place) (same (eqb-true kind 7 move))
  | inr stays ↦ rw stays refl
]

-- An edit of these draws.
module _ (all state first second third last section kind place : ℕ) (one : first ≡ next_state state) (two : second ≡ next_state first) (three : third ≡ next_state second)
    (four : last ≡ cond (eqb kind 7) (next_state third) third) (section_is : section ≡ drawn all first) (kind_is : kind ≡ drawn 10 second) (place_is : place ≡ drawn 4 third) where
  first_is : first ≡ state_after 1 state
  unfolding state_after
  first_is = one

  second_is : second ≡ state_after 2 state
  unfolding state_after
  second_is = two ∙ ap next_state one

  third_is : third ≡ state_after 3 state
  unfolding state_after
  third_is = three ∙ ap next_state (two ∙ ap next_state one)

  fourth_is : next_state third ≡ state_after 4 state
  unfolding state_after
  fourth_is = ap next_state (three ∙ ap next_state (two ∙ ap next_state one))

  drawn_kind : kind ≡ kind_drawn state
  drawn_kind = kind_is ∙ ap (drawn 10) second_is

  at_move : eqb kind 7 ≡ true → last ≡ state_after 4 state
  at_move move = four ∙ ap (λ (b : Bool). cond b (next_state third) third) move ∙ fourth_is

  pub edit-is : (edit : Edit) (target : ℕ) → (kind ≡ 7 → target ≡ drawn all last) → edit ≡ edit_of_kind kind section place target → edit ≡ edit_drawn all state
  edit-is edit target aimed made =
      made
      ∙ same_target kind section place target (drawn all (state_after 4 state))
      (λ seven. aimed seven ∙ ap (drawn all) (at_move (ap (λ (k : ℕ). eqb k 7) seven)))
      ∙ ap (λ (k : ℕ). edit_of_kind k section place (drawn all (state_after 4 state))) drawn_kind
      ∙ ap (λ (s : ℕ). edit_of_kind (kind_drawn state) s place (drawn all (state_after 4 state))) (section_is ∙ ap (drawn all) first_is)
      ∙ ap (λ (p : ℕ). edit_of_kind (kind_drawn state) (drawn all (state_after 1 state)) p (drawn all (state_after 4 state))) (place_is ∙ ap (drawn 4) third_is)

  pub state-is : last ≡ state_after (draws_of (kind_drawn state)) state
  state-is = elim (cases_Bool (eqb kind 7)) [
    | inl move ↦ at_move move ∙ ap (λ (b : Bool). state_after (cond b 4 3) state) (sym move ∙ ap (λ (k : ℕ). eqb k 7) drawn_kind)
    | inr stays ↦
        four ∙ ap (λ (b : Bool). cond b (next_state third) third) stays ∙ third_is
        ∙ ap (λ (b : Bool). state_after (cond b 4 3) state) (sym stays ∙ ap (λ (k : ℕ). eqb k 7) drawn_kind)
  ]

-- a fact that holds in any case
pub always : {T E P : Type 0} (result : Result T E) → P → OnOk result P
always (Ok x) p = p
always (Err e) p = tt

-- One edit more.

left_over : (count number : ℕ) → number < count → count - number ≡ suc (count - (number + 1))
left_over count number below = omega arith

pub edits-more : (all count number state next : ℕ) (old new : List Edit) (edit : Edit) → number < count → edit ≡ edit_drawn all state
    → next ≡ state_after (draws_of (kind_drawn state)) state → new ≡ old ++ edit ∷ []
    → new ++ edits all (count - (number + 1)) next ≡ old ++ edits all (count - number) state
unfolding edits
edits-more all count number state next old new edit below made is pushed =
    ap (λ (list : List Edit). list ++ edits all (count - (number + 1)) next) pushed
    ∙ append_assoc old (edit ∷ []) (edits all (count - (number + 1)) next)
    ∙ ap (λ (e : Edit). old ++ (e ∷ edits all (count - (number + 1)) next)) made
    ∙ ap (λ (s : ℕ). old ++ (edit_drawn all state ∷ edits all (count - (number + 1)) s)) is
    ∙ ap (λ (n : ℕ). old ++ edits all n state) (sym (left_over count number below))

pub edits-end : (all count number state : ℕ) (list : List Edit) → count ≤ number → list ++ edits all (count - number) state ≡ list
unfolding edits
edits-end all count number state list end = rw (none_left count number end) (append-nil list)
  where
    none_left : (m n : ℕ) → m ≤ n → m - n ≡ 0
    none_left m n h = omega arith
