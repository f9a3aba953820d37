-- Exchanges, by what is taken out and what is put in.
use Rattle.std.proofs.Common.{◌≡◌, ◌==◌, ◌++◌, ◌∷◌, ◌||◌, ℕ, ℤ, Bool, true, false, List, [], Option, Some, None, cond, refl, ap, ◌∙◌, eqb-true}
use Rattle.std.specs.Prelude.{option_map, unwrap_or}
use Rattle.std.specs.List.{list_any}
use Rattle.std.specs.Option.{option_or}
use Rattle.plain_types.specs.declared.box_id.BoxId.{BoxId}
use Rattle.box_eval.specs.declared.inputs.Start.{Start}
use Rattle.merged_walk.specs.Entries.{last_at, put_over}
use Rattle.edit_work.specs.KeyedSources.{is_among}
use Rattle.counter_index.specs.declared.index.CounterIndex.{CounterIndex}
use Rattle.counter_index.specs.Exchanges.{after_exchange, puts_in, takes_out}
use Rattle.counter_index.specs.Indexes.{asked_at, with_values}
use Rattle.counter_index.specs.Laws.{ExchangesArePutOver, ToldAreExchanged}
use Rattle.counter_index.specs.Retold.{told_entries}
use Rattle.counter_index.proofs.ExchangeLemmas.{last-append}

module _ {T : Type 0} where
  put_step : (last : Option T) (here : Bool) (new : T) → option_or (option_map Some last) (cond here (Some (Some new)) None) ≡ option_map Some (option_or last (cond here (Some new) None))
  put_step (Some kept) here new = refl
  put_step None true new = refl
  put_step None false new = refl

  last-put : (puts : List (ℕ × T)) (key : ℕ) → last_at (puts_in puts) key ≡ option_map Some (last_at puts key)
  last-put [] key = refl
  last-put (put ∷ puts) key =
      ap (λ o. option_or o (cond (put.0 == key) (Some (Some put.1)) None)) (last-put puts key)
      ∙ put_step (last_at puts key) (put.0 == key) put.1

  taken_step : (empty : Option T) (any here : Bool) → option_or (cond any (Some empty) None) (cond here (Some empty) None) ≡ cond (here || any) (Some empty) None
  taken_step empty true true = refl
  taken_step empty true false = refl
  taken_step empty false true = refl
  taken_step empty false false = refl

  pub last-taken : (takes : List ℕ) (key : ℕ) → last_at (takes_out {T = T} takes) key ≡ cond (list_any (λ taken. taken == key) takes) (Some None) None
  last-taken [] key = refl
  last-taken (taken ∷ takes) key =
      ap (λ o. option_or o (cond (taken == key) (Some None) None)) (last-taken takes key)
      ∙ taken_step None (list_any (λ taken. taken == key) takes) (taken == key)

  over : (last : Option T) (empty : Option T) (any : Bool) (held : Option T)
      → unwrap_or (option_or (option_map Some last) (cond any (Some empty) None)) held ≡ option_or last (cond any empty held)
  over (Some kept) empty any held = refl
  over None empty true held = refl
  over None empty false held = refl

  put-over : (takes : List ℕ) (puts : List (ℕ × T)) (held : ℕ → Option T) (key : ℕ)
      → after_exchange (takes_out takes ++ puts_in puts) held key ≡ put_over puts takes held key
  put-over takes puts held key =
      let taken : Option (Option T) = last_at (takes_out {T = T} takes) key in
      ap (λ o. unwrap_or o (held key)) (last-append (takes_out takes) (puts_in puts) key)
      ∙ ap (λ o. unwrap_or (option_or o taken) (held key)) (last-put puts key)
      ∙ ap (λ o. unwrap_or (option_or (option_map Some (last_at puts key)) o) (held key)) (last-taken takes key)
      ∙ over (last_at puts key) None (list_any (λ taken. taken == key) takes) (held key)

pub exchanges_are_put_over : ExchangesArePutOver
exchanges_are_put_over takes puts held key = put-over takes puts held key

-- Starts that are told again.

module _ (told : BoxId → List ℕ → ℤ) (index : CounterIndex) where
  abbrev again : ℕ → Option (Option (List Start))
  again key = Some (Some (with_values told (asked_at index key)))

  again_step : (among here : Bool) (key other : ℕ) → (other == key) ≡ here
      → option_or (cond among (again key) None) (cond here (again other) None) ≡ cond (here || among) (again key) None
  again_step true true key other is = refl
  again_step true false key other is = refl
  again_step false true key other is = ap again (eqb-true other key is)
  again_step false false key other is = refl

  last-told : (keys : List ℕ) (key : ℕ) → last_at (told_entries told index keys) key ≡ cond (is_among keys key) (again key) None
  last-told [] key = refl
  last-told (other ∷ keys) key =
      ap (λ last. option_or last (cond (other == key) (again other) None)) (last-told keys key)
      ∙ again_step (is_among keys key) (other == key) key other refl

  told-exchanged : (among : Bool) (key : ℕ) (held : Option (List Start))
      → unwrap_or (cond among (again key) None) held ≡ cond among (Some (with_values told (asked_at index key))) held
  told-exchanged true key held = refl
  told-exchanged false key held = refl

pub told_are_exchanged : ToldAreExchanged
told_are_exchanged told index keys held key =
    ap (λ last. unwrap_or last (held key)) (last-told told index keys key) ∙ told-exchanged told index (is_among keys key) key (held key)
