-- What is put, one after the other.
use Rattle.std.proofs.Common.{◌≡◌, ◌==◌, ◌<◌, ◌+◌, ◌∙◌, ◌++◌, ℕ, zero, suc, Bool, true, false, cond, List, [], ◌∷◌, Option, Some, None, get_or, length, option_map, take, refl, sym, ap, subst, arith, eqb-true}
use Rattle.std.specs.Prelude.{IfNone, IfSome, IsSome, option_and_then}
use Rattle.std.specs.List.{AllByRecursion}
use Rattle.std.specs.Option.{option_or}
use Rattle.std.proofs.lemmas.Bool.{false≢true}
use Rattle.std.proofs.lemmas.List.{take_more}
use Rattle.std.proofs.lemmas.Option.{none-some, same_Some}
use Rattle.forest.specs.Forest.{Forest}
use Rattle.forest.specs.Keys.{Keyed}
use Rattle.forest.specs.Spots.{IsLive, Spot, spot_of}
use Rattle.plain_types.specs.declared.node.Node.{Node}
use Rattle.node_arena.specs.Nodes.{node_name}
use Rattle.merged_walk.specs.Entries.{last_at}
use Rattle.kept_elements.specs.declared.kept_change.KeptChange.{KeptChange}
use Rattle.kept_elements.specs.Changes.{puts_of}
use Rattle.dirty_walk.specs.Plans.{AreOfElements}
use Rattle.planned_lines.specs.declared.span.Span.{Span}
use Rattle.planned_lines.specs.Spans.{AreWithin, IsWithin, ShowNoOthers}

-- the last that is put under a key, once one more comes
last_more : (puts : List (ℕ × KeptChange)) (put : ℕ × KeptChange) (key : ℕ) → last_at (puts ++ put ∷ []) key ≡ cond (put.0 == key) (Some put.1) (last_at puts key)
last_more [] put key = refl
last_more (first ∷ puts) put key =
    ap (λ o. option_or o (cond (first.0 == key) (Some first.1) None)) (last_more puts put key)
    ∙ chosen (put.0 == key) (last_at puts key) (cond (first.0 == key) (Some first.1) None)
  where
    chosen : (b : Bool) (before other : Option KeptChange) → option_or (cond b (Some put.1) before) other ≡ cond b (Some put.1) (option_or before other)
    chosen true before other = refl
    chosen false before other = refl

-- what holds of all that is put holds of the last under a key
pub last_has : (P : ℕ → KeptChange → Type 0) (puts : List (ℕ × KeptChange)) → AllByRecursion (λ (put : ℕ × KeptChange). P put.0 put.1) puts
    → (key : ℕ) (change : KeptChange) → last_at puts key ≡ Some change → P key change
last_has P [] all key change is = absurd (none-some change is)
last_has P (put ∷ puts) all key change is = by (last_at puts key) (λ h. last_has P puts all.1 key change h) (put.0 == key) refl is
  where
    by : (o : Option KeptChange) → (o ≡ Some change → P key change) → (b : Bool) → (put.0 == key) ≡ b → option_or o (cond b (Some put.1) None) ≡ Some change → P key change
    by (Some other) rest b same last = rest last
    by None rest true same last = subst (λ (k : ℕ). P k change) (eqb-true put.0 key same) (subst (P put.0) (same_Some put.1 change last) all.0)
    by None rest false same last = absurd (none-some change last)

-- the last that is put, as it is kept
pub last_kept : (puts : List (ℕ × KeptChange)) (key : ℕ) → last_at (puts_of puts) key ≡ option_map (λ (change : KeptChange). change.kept) (last_at puts key)
last_kept [] key = refl
last_kept (put ∷ puts) key =
    ap (λ o. option_or o (cond (put.0 == key) (Some put.1.kept) None)) (last_kept puts key)
    ∙ by (last_at puts key) (put.0 == key)
  where
    by : (o : Option KeptChange) (b : Bool)
        → option_or (option_map (λ (change : KeptChange). change.kept) o) (cond b (Some put.1.kept) None) ≡ option_map (λ (change : KeptChange). change.kept) (option_or o (cond b (Some put.1) None))
    by (Some change) b = refl
    by None true = refl
    by None false = refl

module _ (puts : List (ℕ × KeptChange)) (place : ℕ) (put : ℕ × KeptChange) (within : place < length puts) (is : put ≡ get_or puts place put) where
  one_more : take (place + 1) puts ≡ take place puts ++ put ∷ []
  one_more = take_more puts place put within ∙ ap (λ e. take place puts ++ e ∷ []) (sym is)

  pub last_next : (key : ℕ) → last_at (take (place + 1) puts) key ≡ cond (put.0 == key) (Some put.1) (last_at (take place puts) key)
  last_next key = ap (λ ps. last_at ps key) one_more ∙ last_more (take place puts) put key

  -- What holds of all that is put, once one more is.

  all_more : (P Q : ℕ × KeptChange → Type 0) (some : List (ℕ × KeptChange)) → AllByRecursion P some → ((one : ℕ × KeptChange) → P one → Q one) → Q put → AllByRecursion Q (some ++ put ∷ [])
  all_more P Q [] all stays it = (it, tt)
  all_more P Q (one ∷ some) all stays it = (stays one all.0, all_more P Q some all.1 stays it)

  more : (P Q : ℕ × KeptChange → Type 0) → AllByRecursion P (take place puts) → ((one : ℕ × KeptChange) → P one → Q one) → Q put → AllByRecursion Q (take (place + 1) puts)
  more P Q all stays it = subst (AllByRecursion Q) (sym one_more) (all_more P Q (take place puts) all stays it)

  module _ (tree : Forest (Keyed Node)) where
    -- a span, once it is made wider
    pub within_more : (span : Option Span) (new : Span) → IfSome span (λ one. AreWithin tree one (take place puts)) → IfNone span (ShowNoOthers (take place puts))
        → IsWithin tree new put.0 → IfSome span (λ one. (other : ℕ) → IsWithin tree one other → IsWithin tree new other) → AreWithin tree new (take (place + 1) puts)
    within_more None new are none it nodes =
        more (λ one. one.1.shows_other ≡ false) (λ one. one.1.shows_other ≡ true → IsWithin tree new one.0) none
        (λ one silent yes. absurd (false≢true (sym silent ∙ yes))) (λ yes. it)
    within_more (Some one) new are none it nodes =
        more (λ put. put.1.shows_other ≡ true → IsWithin tree one put.0) (λ put. put.1.shows_other ≡ true → IsWithin tree new put.0) are
        (λ put h yes. nodes put.0 (h yes)) (λ yes. it)

    -- and where it stays, since no other text is shown
    pub within_still : (span : Option Span) → put.1.shows_other ≡ false → IfSome span (λ one. AreWithin tree one (take place puts)) → IfSome span (λ one. AreWithin tree one (take (place + 1) puts))
    within_still None silent are = are
    within_still (Some one) silent are =
        more (λ put. put.1.shows_other ≡ true → IsWithin tree one put.0) (λ put. put.1.shows_other ≡ true → IsWithin tree one put.0) are
        (λ put h. h) (λ yes. absurd (false≢true (sym silent ∙ yes)))

  pub none_still : (span : Option Span) → put.1.shows_other ≡ false → IfNone span (ShowNoOthers (take place puts)) → IfNone span (ShowNoOthers (take (place + 1) puts))
  none_still None silent none = more (λ put. put.1.shows_other ≡ false) (λ put. put.1.shows_other ≡ false) none (λ put h. h) silent
  none_still (Some one) silent none = none

-- what is put is put of a node of the document
named_live : (spot : Option (Spot Node)) → IsSome (option_and_then node_name (option_map (λ (s : Spot Node). s.label) spot)) → IsSome spot
named_live None named = absurd (cc named)
named_live (Some spot) named = refl

pub put_live : (tree : Forest (Keyed Node)) (puts : List (ℕ × KeptChange)) (place : ℕ) (put : ℕ × KeptChange) → AreOfElements tree (puts_of puts) → place < length puts → put ≡ get_or puts place put → IsLive tree put.0
put_live tree [] place put all within is = absurd (omega arith)
put_live tree (first ∷ puts) zero put all within is = subst (λ (one : ℕ × KeptChange). IsLive tree one.0) (sym is) (named_live (spot_of tree first.0) all.0)
put_live tree (first ∷ puts) (suc place) put all within is = put_live tree puts place put all.1 (omega arith) is
