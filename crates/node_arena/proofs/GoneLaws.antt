-- Which nodes a change brings back.
use Rattle.std.proofs.Common.{◌≡◌, ◌==◌, ◌<◌, ◌≤◌, ◌+◌, ◌⊎◌, ℕ, zero, suc, cond, is_some, [], ◌∷◌, Some, None, refl, sym, ap, subst, ◌∙◌, inl, inr, arith, false, Result, Ok, Err, OnErr}
use Rattle.forest.specs.Forest.{Forest, Empty, Tree, weigh}
use Rattle.forest.specs.Keys.{Keyed, times, HasDistinctKeys}
use Rattle.forest.specs.Spots.{children_of, on_link, root_keys}
use Rattle.forest.proofs.SpotLaws.{live-counted, counted-live}
use Rattle.forest.proofs.ChangeLaws.{weigh-put_children, weigh-splice}
use Rattle.plain_types.specs.declared.node.Node.{Node}
use Rattle.node_arena.specs.declared.change.Change.{Change}
use Rattle.node_arena.specs.declared.change.Change.TheVariants.{Nothing, Relabel, PutIn, TakeOut, Move}
use Rattle.node_arena.specs.declared.change.ChildPlace.{ChildPlace}
use Rattle.node_arena.specs.AtPaths.{with_tree}
use Rattle.node_arena.specs.Changes.{hung, cut, aside, alone, changed, IsFreePlace, KeepsEntries, CanChange, IsChanged, IsKept, GivesUp, Prepares}
use Rattle.node_arena.specs.Document.{Document, IsKeyedDocument}
use Rattle.node_arena.specs.Reversals.{is_used, IsOnlyIn, FreesGone, Reserves}
use Rattle.node_arena.proofs.RelabelLaws.{times-put_label}
use Rattle.node_arena.proofs.SoundLaws.{element-spot}
use Rattle.node_arena.proofs.TakeLaws.{taken, weigh-taken, branch-is}
use Rattle.plain_types.specs.declared.edit.Edit.{Edit}

weigh-with_tree : (w : Keyed Node → ℕ) (i : ℕ) (t c : Forest (Keyed Node)) → weigh w (with_tree i t c) ≡ weigh w c + weigh w (alone t)
weigh-with_tree w i Empty c = omega arith
weigh-with_tree w i (Tree n d r) c = omega (arith, weigh-splice w i n d c)

-- how often a key is in a tree with one tree more
pub times-hung : (x : ℕ) (f t : Forest (Keyed Node)) (place : ChildPlace) → HasDistinctKeys f → IsFreePlace f place → times x (hung place t f) ≡ times x f + times x (alone t)
times-hung x f t place d free =
    let w : Keyed Node → ℕ = λ (n : Keyed Node). cond (n.key == x) 1 0 in
    let e = element-spot f place.parent free.element in
    let children : children_of f place.parent ≡ e.0.children = rw e.1 refl in
    let one = weigh-put_children w f None [] place.parent (with_tree place.index t e.0.children) e.0 d e.1 in
    let more = weigh-with_tree w place.index t e.0.children in
    rw children (omega arith)

alone-root : (t : Forest (Keyed Node)) (key : ℕ) → root_keys t ≡ key ∷ [] → alone t ≡ t
alone-root Empty key e = refl
alone-root (Tree n c Empty) key e = refl
alone-root (Tree n c (Tree m d r)) key e = absurd (let long : n.key ∷ (m.key ∷ root_keys r) ≡ key ∷ [] = e in cc)

gone-times : (before after : Forest (Keyed Node)) (x : ℕ) → IsOnlyIn before after x → (0 < times x before) × (times x after ≡ 0)
gone-times before after x h = (live-counted before x h.0, elim (some-or-none (times x after)) [ inl z ↦ z | inr more ↦ absurd (h.1 (counted-live after x more)) ])
  where
    some-or-none : (n : ℕ) → (n ≡ 0) ⊎ (0 < n)
    some-or-none zero = inl refl
    some-or-none (suc n) = inr (omega arith)

times-gone : (before after : Forest (Keyed Node)) (x : ℕ) → 0 < times x before → times x after ≡ 0 → IsOnlyIn before after x
times-gone before after x some none = (counted-live before x some, λ live. absurd (let more = live-counted after x live in omega arith))

none-gone : (before after : Forest (Keyed Node)) (x : ℕ) → times x before ≤ times x after → IsOnlyIn before after x → ⊥
none-gone before after x low h = absurd (let t = gone-times before after x h in omega arith)

-- a change brings back the nodes that are kept for it, and no others
pub kept-gone : (document : Document) (change : Change) (x : ℕ) → IsKeyedDocument document.tree → CanChange document change → IsKept document change x → IsOnlyIn (changed document change) document.tree x
kept-gone document Nothing x d can kept = absurd kept
kept-gone document (Relabel key node) x d can kept = absurd kept
kept-gone document (PutIn key keys place) x d can kept =
    let sum = times-hung x document.tree (aside document key) place d.distinct can.free in
    let one = ap (times x) (alone-root (aside document key) key can.kept.root) in
    let once = can.kept.apart x in
    times-gone (hung place (aside document key) document.tree) document.tree x (omega arith) (omega arith)
kept-gone document (TakeOut key keys place) x d can kept = absurd kept
kept-gone document (Move key from to) x d can kept = absurd kept

pub gone-kept : (document : Document) (change : Change) (x : ℕ) → IsKeyedDocument document.tree → CanChange document change → IsOnlyIn (changed document change) document.tree x → IsKept document change x
gone-kept document Nothing x d can gone = absurd (none-gone document.tree document.tree x (omega arith) gone)
gone-kept document (Relabel key node) x d can gone = absurd (none-gone _ document.tree x (omega (arith, times-put_label x document.tree key node)) gone)
gone-kept document (PutIn key keys place) x d can gone =
    let sum = times-hung x document.tree (aside document key) place d.distinct can.free in
    let one = ap (times x) (alone-root (aside document key) key can.kept.root) in
    let t = gone-times (hung place (aside document key) document.tree) document.tree x gone in
    omega arith
gone-kept document (TakeOut key keys place) x d can gone =
    let t = taken document.tree key place d can.stands in
    absurd (none-gone (cut place document.tree) document.tree x (omega (arith, weigh-taken (λ (n : Keyed Node). cond (n.key == x) 1 0) document.tree key place d.distinct t)) gone)
gone-kept document (Move key from to) x d can gone =
    let t = taken document.tree key from d can.stands in
    let less = weigh-taken (λ (n : Keyed Node). cond (n.key == x) 1 0) document.tree key from d.distinct t in
    let fewer : HasDistinctKeys (cut from document.tree) = λ y. omega (arith, weigh-taken (λ (n : Keyed Node). cond (n.key == y) 1 0) document.tree key from d.distinct t, d.distinct y) in
    let sum = times-hung x (cut from document.tree) (on_link document.tree (Some key)) to fewer can.free in
    let same = ap (times x) (branch-is document.tree key from t) in
    absurd (none-gone (hung to (on_link document.tree (Some key)) (cut from document.tree)) document.tree x (omega arith) gone)

-- what is given up
pub frees-gone : (old new : Document) (change : Change) → IsKeyedDocument old.tree → CanChange old change → GivesUp old new change → FreesGone (changed old change) old.tree old new
unfolding is_used
frees-gone old new change d can h = record {
  freed = λ key gone. ap (λ o. is_some o) (h.freed key (gone-kept old change key d can gone));
  others = λ key none. ap (λ o. is_some o) (h.others key (λ kept. none (kept-gone old change key d can kept)));
}

pub used-same : (old new : Document) → KeepsEntries old new → (key : ℕ) → is_used new key ≡ is_used old key
unfolding is_used
used-same old new same key = same key

-- a change, and then what is given up
pub frees-then : (old mid new : Document) (change back : Change) → IsKeyedDocument mid.tree → IsChanged old mid change back → GivesUp mid new back → FreesGone old.tree new.tree old new
frees-then old mid new change back d done h =
    let all : FreesGone (changed mid back) mid.tree mid new = frees-gone mid new back d done.can h in
    let there : FreesGone old.tree new.tree mid new = subst (λ t. FreesGone t new.tree mid new) done.before (subst (λ t. FreesGone (changed mid back) t mid new) (sym h.tree) all) in
    record {
      freed = there.freed;
      others = λ key none. there.others key none ∙ used-same old mid done.entries key;
    }

-- what an edit puts in has keys that weren't used
pub fresh-used : (edit : Edit) (old new : Document) (change : Change) → IsKeyedDocument new.tree → new.tree ≡ old.tree → Prepares edit old new change → (key : ℕ) → IsOnlyIn (changed new change) old.tree key → is_used old key ≡ false
unfolding is_used
fresh-used edit old new change d same h key gone = ap (λ o. is_some o) (h.fresh key (gone-kept new change key d h.can (subst (λ t. IsOnlyIn (changed new change) t key) (sym same) gone)))

-- and no other key is used more or less
pub reserves-used : (edit : Edit) (old new : Document) (change : Change) → IsKeyedDocument new.tree → new.tree ≡ old.tree → Prepares edit old new change → Reserves old.tree (changed new change) old new
unfolding is_used
reserves-used edit old new change d same h = record {
  reserved = λ key gone. h.reserved key (gone-kept new change key d h.can (subst (λ t. IsOnlyIn (changed new change) t key) (sym same) gone));
  others = λ key none. h.others key (λ kept. none (subst (λ t. IsOnlyIn (changed new change) t key) same (kept-gone new change key d h.can kept)));
}

pub on-error : {T E : Type 0} (r : Result T E) (P : Type 0) → P → OnErr r P
on-error (Ok x) P h = tt
on-error (Err e) P h = h
