-- Where nothing is kept of elements that do nothing to a counter, the same is read of it: what is read then is between what is read of
-- its scope and all that is kept, and these tell the same. Throughout, a is the box that creates the counter, n a node, c what is
-- under it, r what is after it, and g trees.
use Rattle.std.proofs.Common.{◌≡◌, ◌==◌, ◌++◌, ◌⊎◌, ℕ, Bool, true, false, cond, List, [], Option, Some, None, refl, sym, ap, subst, ◌∙◌, inl, inr}
use Rattle.std.specs.Prelude.{IfSome, option_and_then}
use Rattle.std.specs.Option.{option_map_or}
use Rattle.forest.specs.Forest.{Forest, Empty, Tree}
use Rattle.forest.specs.Keys.{Keyed}
use Rattle.forest.specs.Spots.{root_keys}
use Rattle.plain_types.specs.declared.box_id.BoxId.{BoxId}
use Rattle.plain_types.specs.declared.box_kind.BoxKind.{BoxKind}
use Rattle.plain_types.specs.declared.box_kind.BoxKind.TheVariants as kind
use Rattle.plain_types.specs.declared.counter.Counter.{Counter}
use Rattle.reversed_start.specs.declared.event.Event.{Event}
use Rattle.box_eval.specs.declared.change.Change.{Change}
use Rattle.edit_work.specs.KeyedSources.{is_among}
use Rattle.scope_reading.specs.ScopeChanges.{has_it}
use Rattle.scope_reading.proofs.RowLemmas.{its, its-split}
use Rattle.scope_deeds.specs.Counting.{Counting}
use Rattle.scope_deeds.specs.KeptScopes.{kept_after, kept_before, kept_changes, kept_from, kept_own, kept_row, kept_scope}
use Rattle.scope_deeds.proofs.Parts.{IsPart, part-before, part-behind, part-between, part-both, part-same}

module _ (a : BoxId) (name : List ℕ) where
  -- the events of the first changes are among those of the others
  abbrev IsRead : List Change → List Change → Type 0
  IsRead cs others = IsPart (its a name cs) (its a name others)

  read-same : (cs others : List Change) → its a name cs ≡ its a name others → IsRead cs others
  read-same cs others same = part-same (its a name cs) (its a name others) same

  read-self : (cs : List Change) → IsRead cs cs
  read-self cs = read-same cs cs refl

  read-behind : (cs more others : List Change) → IsRead cs others → IsRead cs (more ++ others)
  read-behind cs more others h = subst (IsPart (its a name cs)) (sym (its-split a name more others)) (part-behind (its a name cs) (its a name more) (its a name others) h)

  read-before : (cs others more : List Change) → IsRead cs others → IsRead cs (others ++ more)
  read-before cs others more h = subst (IsPart (its a name cs)) (sym (its-split a name others more)) (part-before (its a name cs) (its a name others) (its a name more) h)

  read-both : (cs others ds more : List Change) → IsRead cs others → IsRead ds more → IsRead (cs ++ ds) (others ++ more)
  read-both cs others ds more h i =
      subst (λ es. IsPart es (its a name (others ++ more))) (sym (its-split a name cs ds))
      (subst (IsPart (its a name cs ++ its a name ds)) (sym (its-split a name others more)) (part-both (its a name cs) (its a name others) (its a name ds) (its a name more) h i))

  read-if : (b : Bool) (cs others ds more : List Change) → IsRead cs others → IsRead ds more → IsRead (cond b cs ds) (cond b others more)
  read-if true cs others ds more h i = h
  read-if false cs others ds more h i = i

  last-among : (b : Bool) (cs : List Change) → IsRead (cond b cs []) cs
  last-among true cs = read-self cs
  last-among false cs = tt

  here-among : (b : Bool) (here rest all : List Change) → IsRead here all → IsRead rest all → IsRead (cond b here rest) all
  here-among true here rest all h i = h
  here-among false here rest all h i = i

  its-four : (bs cs ds es : List Change) → its a name (bs ++ (cs ++ (ds ++ es))) ≡ its a name bs ++ (its a name cs ++ (its a name ds ++ its a name es))
  its-four bs cs ds es =
      its-split a name bs (cs ++ (ds ++ es))
      ∙ ap (λ (all : List Event). its a name bs ++ all) (its-split a name cs (ds ++ es) ∙ ap (λ (all : List Event). its a name cs ++ all) (its-split a name ds es))

  module _ {L : Type 0} where
    -- what a node does, what is done under it, and this
    abbrev around : (ℕ → Option Counting) → ℕ → Forest (Keyed L) → List Change → List Change
    around kept key c more = kept_before kept key ++ (kept_changes kept c ++ (kept_after kept key ++ more))

    -- what is read of a sibling and behind it, where the counters of its own box are these
    abbrev row_by : (ℕ → Option Counting) → ℕ → (c r : Forest (Keyed L)) → Option (List Counter) → List Change
    row_by kept key c r own = option_map_or (λ (own : List Counter). cond (has_it a name own) (around kept key c (kept_row kept a name r)) []) own (kept_row kept a name r)

    -- What is read of the scope is among all that is kept.
    module _ (kept : ℕ → Option Counting) where
      around-among : (key : ℕ) (c : Forest (Keyed L)) (more others : List Change) → IsRead more others → IsRead (around kept key c more) (around kept key c others)
      around-among key c more others h =
          let before = kept_before kept key in
          let below = kept_changes kept c in
          let after = kept_after kept key in
          read-both before before (below ++ (after ++ more)) (below ++ (after ++ others)) (read-self before)
          (read-both below below (after ++ more) (after ++ others) (read-self below) (read-both after after more others (read-self after) h))

      past-it : (key : ℕ) (c : Forest (Keyed L)) (more others : List Change) → IsRead more others → IsRead more (around kept key c others)
      past-it key c more others h =
          let below = kept_changes kept c in
          let after = kept_after kept key in
          read-behind more (kept_before kept key) (below ++ (after ++ others)) (read-behind more below (after ++ others) (read-behind more after others h))

      row-own : (key : ℕ) (c r : Forest (Keyed L)) → IsRead (kept_row kept a name r) (kept_changes kept r) → (own : Option (List Counter))
          → IsRead (row_by kept key c r own) (around kept key c (kept_changes kept r))
      row-own key c r rest None = past-it key c (kept_row kept a name r) (kept_changes kept r) rest
      row-own key c r rest (Some own) = by-set (has_it a name own)
        where
          by-set : (b : Bool) → IsRead (cond b (around kept key c (kept_row kept a name r)) []) (around kept key c (kept_changes kept r))
          by-set true = around-among key c (kept_row kept a name r) (kept_changes kept r) rest
          by-set false = tt

      row-among : (g : Forest (Keyed L)) → IsRead (kept_row kept a name g) (kept_changes kept g)
      row-among Empty = tt
      row-among (Tree n c r) = row-own n.key c r (row-among r) (kept_own kept n.key)

      from-among : (which : BoxKind) (key : ℕ) (c r : Forest (Keyed L)) → IsRead (kept_from kept a name which key c r) (around kept key c (kept_changes kept r))
      from-among kind.Before key c r =
          let before = kept_before kept key in
          let after = kept_after kept key in
          let later = kept_changes kept r in
          read-both before before (kept_row kept a name c ++ after) (kept_changes kept c ++ (after ++ later)) (read-self before)
          (read-both (kept_row kept a name c) (kept_changes kept c) after (after ++ later) (row-among c) (read-before after after later (read-self after)))
      from-among kind.After key c r =
          let below = kept_changes kept c in
          let after = kept_after kept key in
          let later = kept_changes kept r in
          read-behind after (kept_before kept key) (below ++ (after ++ later)) (read-behind after below (after ++ later) (read-before after after later (read-self after)))
      from-among kind.Element key c r = around-among key c (kept_row kept a name r) (kept_changes kept r) (row-among r)
      from-among kind.Marker key c r = around-among key c (kept_row kept a name r) (kept_changes kept r) (row-among r)

      pub scope-among : (g : Forest (Keyed L)) → IsRead (kept_scope kept a name g) (kept_changes kept g)
      scope-among Empty = tt
      scope-among (Tree n c r) =
          let last = cond (is_among (root_keys c) a.key) (kept_after kept n.key) [] in
          let below = kept_scope kept a name c in
          let beside = kept_scope kept a name r in
          let after = kept_after kept n.key in
          let later = kept_changes kept r in
          here-among (n.key == a.key) (kept_from kept a name a.kind n.key c r) (below ++ (last ++ beside)) (around kept n.key c later) (from-among a.kind n.key c r)
          (read-behind (below ++ (last ++ beside)) (kept_before kept n.key) (kept_changes kept c ++ (after ++ later))
          (read-both below (kept_changes kept c) (last ++ beside) (after ++ later) (scope-among c)
          (read-both last after beside later (last-among (is_among (root_keys c) a.key) after) (scope-among r))))

  -- Of an element the second is kept where the first could be: it tells the same of the counter; or nothing is kept, and the element's own
  -- set lacks the counter.
  pub record IsFewer (whole fewer : Option Counting) : Type 0 where
    pub before : its a name (option_map_or (λ (it : Counting). it.deeds.before_children) fewer []) ≡ its a name (option_map_or (λ (it : Counting). it.deeds.before_children) whole [])
    pub after : its a name (option_map_or (λ (it : Counting). it.deeds.after_children) fewer []) ≡ its a name (option_map_or (λ (it : Counting). it.deeds.after_children) whole [])
    pub own :
        (option_and_then (λ (it : Counting). it.own) fewer ≡ option_and_then (λ (it : Counting). it.own) whole)
        ⊎ ((option_and_then (λ (it : Counting). it.own) fewer ≡ None) × IfSome (option_and_then (λ (it : Counting). it.own) whole) (λ own. has_it a name own ≡ false))

  module _ {L : Type 0} (kept fewer : ℕ → Option Counting) (each : (key : ℕ) → IsFewer (kept key) (fewer key)) where
    pub changes-fewer : (g : Forest (Keyed L)) → its a name (kept_changes fewer g) ≡ its a name (kept_changes kept g)
    changes-fewer Empty = refl
    changes-fewer (Tree n c r) =
        let here = each n.key in
        let below = changes-fewer c in
        let beside = changes-fewer r in
        its-four (kept_before fewer n.key) (kept_changes fewer c) (kept_after fewer n.key) (kept_changes fewer r)
        ∙ (λ i. here.before i ++ (below i ++ (here.after i ++ beside i)))
        ∙ sym (its-four (kept_before kept n.key) (kept_changes kept c) (kept_after kept n.key) (kept_changes kept r))

    around-fewer : (key : ℕ) (c : Forest (Keyed L)) (more others : List Change) → IsRead more others → IsRead (around kept key c more) (around fewer key c others)
    around-fewer key c more others h =
        let here = each key in
        read-both (kept_before kept key) (kept_before fewer key) (kept_changes kept c ++ (kept_after kept key ++ more)) (kept_changes fewer c ++ (kept_after fewer key ++ others))
        (read-same (kept_before kept key) (kept_before fewer key) (sym here.before))
        (read-both (kept_changes kept c) (kept_changes fewer c) (kept_after kept key ++ more) (kept_after fewer key ++ others) (read-same (kept_changes kept c) (kept_changes fewer c) (sym (changes-fewer c)))
        (read-both (kept_after kept key) (kept_after fewer key) more others (read-same (kept_after kept key) (kept_after fewer key) (sym here.after)) h))

    row-fewer : (g : Forest (Keyed L)) → IsRead (kept_row kept a name g) (kept_row fewer a name g)
    row-fewer Empty = tt
    row-fewer (Tree n c r) = by-own (kept_own kept n.key) (kept_own fewer n.key) (row-fewer r) (each n.key).own
      where
        same-own : (own : Option (List Counter)) → IsRead (kept_row kept a name r) (kept_row fewer a name r) → IsRead (row_by kept n.key c r own) (row_by fewer n.key c r own)
        same-own None rest = rest
        same-own (Some own) rest =
            read-if (has_it a name own) (around kept n.key c (kept_row kept a name r)) (around fewer n.key c (kept_row fewer a name r)) [] []
            (around-fewer n.key c (kept_row kept a name r) (kept_row fewer a name r) rest) tt

        lacks : (own : Option (List Counter)) → IsRead (kept_row kept a name r) (kept_row fewer a name r) → IfSome own (λ own. has_it a name own ≡ false)
            → IsRead (row_by kept n.key c r own) (kept_row fewer a name r)
        lacks None rest none = rest
        lacks (Some own) rest none = subst (λ b. IsRead (cond b (around kept n.key c (kept_row kept a name r)) []) (kept_row fewer a name r)) (sym none) tt

        by-own : (own other : Option (List Counter)) → IsRead (kept_row kept a name r) (kept_row fewer a name r)
            → (other ≡ own) ⊎ ((other ≡ None) × IfSome own (λ own. has_it a name own ≡ false)) → IsRead (row_by kept n.key c r own) (row_by fewer n.key c r other)
        by-own own other rest (inl same) = subst (λ other. IsRead (row_by kept n.key c r own) (row_by fewer n.key c r other)) (sym same) (same-own own rest)
        by-own own other rest (inr none) = subst (λ other. IsRead (row_by kept n.key c r own) (row_by fewer n.key c r other)) (sym none.0) (lacks own rest none.1)

    from-fewer : (which : BoxKind) (key : ℕ) (c r : Forest (Keyed L)) → IsRead (kept_from kept a name which key c r) (kept_from fewer a name which key c r)
    from-fewer kind.Before key c r =
        let here = each key in
        read-both (kept_before kept key) (kept_before fewer key) (kept_row kept a name c ++ kept_after kept key) (kept_row fewer a name c ++ kept_after fewer key)
        (read-same (kept_before kept key) (kept_before fewer key) (sym here.before))
        (read-both (kept_row kept a name c) (kept_row fewer a name c) (kept_after kept key) (kept_after fewer key) (row-fewer c) (read-same (kept_after kept key) (kept_after fewer key) (sym here.after)))
    from-fewer kind.After key c r = read-same (kept_after kept key) (kept_after fewer key) (sym (each key).after)
    from-fewer kind.Element key c r = around-fewer key c (kept_row kept a name r) (kept_row fewer a name r) (row-fewer r)
    from-fewer kind.Marker key c r = around-fewer key c (kept_row kept a name r) (kept_row fewer a name r) (row-fewer r)

    scope-fewer : (g : Forest (Keyed L)) → IsRead (kept_scope kept a name g) (kept_scope fewer a name g)
    scope-fewer Empty = tt
    scope-fewer (Tree n c r) =
        let among = is_among (root_keys c) a.key in
        let last = cond among (kept_after kept n.key) [] in
        let last_too = cond among (kept_after fewer n.key) [] in
        read-if (n.key == a.key) (kept_from kept a name a.kind n.key c r) (kept_from fewer a name a.kind n.key c r) (kept_scope kept a name c ++ (last ++ kept_scope kept a name r))
        (kept_scope fewer a name c ++ (last_too ++ kept_scope fewer a name r)) (from-fewer a.kind n.key c r)
        (read-both (kept_scope kept a name c) (kept_scope fewer a name c) (last ++ kept_scope kept a name r) (last_too ++ kept_scope fewer a name r) (scope-fewer c)
        (read-both last last_too (kept_scope kept a name r) (kept_scope fewer a name r)
        (read-if among (kept_after kept n.key) (kept_after fewer n.key) [] [] (read-same (kept_after kept n.key) (kept_after fewer n.key) (sym (each n.key).after)) tt) (scope-fewer r)))

    -- so the scope tells the same, where it tells all that is done to the counter
    pub fewer-enough : (g : Forest (Keyed L)) → its a name (kept_scope kept a name g) ≡ its a name (kept_changes kept g) → its a name (kept_scope fewer a name g) ≡ its a name (kept_scope kept a name g)
    fewer-enough g whole =
        part-between (its a name (kept_scope kept a name g)) (its a name (kept_scope fewer a name g)) (its a name (kept_changes fewer g)) (scope-fewer g) (scope-among fewer g)
        (whole ∙ sym (changes-fewer g))
