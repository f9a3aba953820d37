-- How a tree stands in entries once a node has other children.
use Rattle.std.proofs.Common.{◌≡◌, ◌≢◌, ◌==◌, ◌<◌, ◌≤◌, ◌+◌, ℕ, zero, suc, true, false, cond, [], ◌∷◌, Option, Some, None, option_map, slice_get, refl, sym, ap, subst, ◌∙◌, inl, inr, arith, eqb-true, eq-eqb}
use Rattle.std.proofs.lemmas.Bool.{eqb-false, cases_lt}
use Rattle.std.proofs.lemmas.Option.{none-some, same_Some}
use Rattle.forest.specs.Forest.{Forest, Empty, Tree}
use Rattle.forest.specs.Keys.{Keyed, times, HasDistinctKeys}
use Rattle.forest.specs.Spots.{Spot, root_keys, spot_of}
use Rattle.forest.specs.Changes.{put_children}
use Rattle.forest.proofs.SpotLaws.{weigh-spot}
use Rattle.forest.proofs.ChangeLaws.{weigh-put_children}
use Rattle.slab.specs.Slab.{Slab}
use Rattle.plain_types.specs.declared.node.Node.{Node}
use Rattle.node_arena.specs.declared.entry.Entry.{Entry}
use Rattle.node_arena.specs.Changes.{HasBodies}
use Rattle.node_arena.specs.Children.{AreOnce, with_place, with_list, Hangs}
use Rattle.node_arena.specs.Entries.{Links, links_in, HasEntries, Holds}
use Rattle.node_arena.proofs.CountLaws.{entries-small}
use Rattle.node_arena.proofs.EntryLaws.{entries-frame}

-- A root is counted.
pub root-counted : {L : Type 0} (g : Forest (Keyed L)) (index key : ℕ) → slice_get (root_keys g) index ≡ Some key → 0 < times key g
root-counted Empty index key e = absurd (none-some key e)
root-counted (Tree n c r) zero key e = rw (eq-eqb n.key key (same_Some _ _ e)) (omega arith)
root-counted (Tree n c r) (suc index) key e = omega (arith, root-counted r index key e)

-- no root's key is there twice
pub roots-once : {L : Type 0} (g : Forest (Keyed L)) → HasDistinctKeys g → AreOnce (root_keys g)
roots-once Empty d i j key a b = absurd (none-some key a)
roots-once (Tree n c r) d zero zero key a b = refl
roots-once (Tree n c r) d zero (suc j) key a b = absurd (let more : 0 < times key r = root-counted r j key b in let own : (1 + (times key c + times key r)) ≤ 1 = subst (λ t. (cond t 1 0 + (times key c + times key r)) ≤ 1) (eq-eqb n.key key (same_Some _ _ a)) (d key) in omega arith)
roots-once (Tree n c r) d (suc i) zero key a b = absurd (let more : 0 < times key r = root-counted r i key a in let own : (1 + (times key c + times key r)) ≤ 1 = subst (λ t. (cond t 1 0 + (times key c + times key r)) ≤ 1) (eq-eqb n.key key (same_Some _ _ b)) (d key) in omega arith)
roots-once (Tree n c r) d (suc i) (suc j) key a b = ap (λ k. suc k) (roots-once r (λ q. omega (arith, d q)) i j key a b)

-- how often a key is below the roots
abbrev pub inner : {L : Type 0} → ℕ → Forest (Keyed L) → ℕ
inner key Empty = 0
inner key (Tree node children after) = times key children + inner key after

pub inner-counted : {L : Type 0} (key : ℕ) (g : Forest (Keyed L)) → inner key g ≤ times key g
inner-counted key Empty = omega arith
inner-counted key (Tree n c r) = omega (arith, inner-counted key r)

-- what is below a root is no root
pub inner-no-root : {L : Type 0} (g : Forest (Keyed L)) (index key : ℕ) → HasDistinctKeys g → 0 < inner key g → slice_get (root_keys g) index ≢ Some key
inner-no-root Empty index key d some e = absurd (omega arith)
inner-no-root (Tree n c r) zero key d some e = absurd (let own : (1 + (times key c + times key r)) ≤ 1 = subst (λ t. (cond t 1 0 + (times key c + times key r)) ≤ 1) (eq-eqb n.key key (same_Some _ _ e)) (d key) in let low = inner-counted key r in omega arith)
inner-no-root (Tree n c r) (suc index) key d some e = absurd (
    let there : 0 < times key r = root-counted r index key e in
    let once = d key in
    inner-no-root r index key (λ q. omega (arith, d q)) (omega arith) e
    )

pub roots-put_children : {L : Type 0} (f : Forest (Keyed L)) (q : ℕ) (g : Forest (Keyed L)) → root_keys (put_children q g f) ≡ root_keys f
roots-put_children Empty q g = refl
roots-put_children (Tree n c r) q g = ap (λ ks. n.key ∷ ks) (roots-put_children r q g)

module _ (at new : ℕ → Option Links) where
  -- the entries of children of a node, told from their bodies and their places
  pub children-hung : (g : Forest (Keyed Node)) (q i : ℕ) → HasBodies at g → ((index child : ℕ) → slice_get (root_keys g) index ≡ Some child → new child ≡ option_map (with_place q (i + index)) (at child)) → ((x : ℕ) → 0 < inner x g → new x ≡ at x) → HasEntries new (Some q) i g
  children-hung Empty q i bodies placed same = tt
  children-hung (Tree n c r) q i bodies placed same =
      let own = bodies.0 in (
        placed 0 n.key refl ∙ ap (option_map (with_place q (i + 0))) own.2 ∙ ap (λ k. Some (record { parent = Some q; position = k; children = root_keys c; node = n.label })) (omega arith),
        entries-frame new at c (Some n.key) 0 (λ x more. same x (omega arith)) bodies.1,
        children-hung r q (i + 1) bodies.2 (λ index child e. placed (suc index) child e ∙ ap (λ k. option_map (with_place q k) (at child)) (omega arith)) (λ x more. same x (omega arith)),
      )

  -- the rest of the tree stays
  pub around-hung : (f : Forest (Keyed Node)) (p : Option ℕ) (i q : ℕ) (g : Forest (Keyed Node))
      → ((links : Links) → at q ≡ Some links → new q ≡ Some (with_list (root_keys g) links))
      → ((x : ℕ) → 0 < times x (put_children q Empty f) → x ≢ q → new x ≡ at x) → HasEntries new (Some q) 0 g → HasEntries at p i f → HasEntries new p i (put_children q g f)
  around-hung Empty p i q g linked same hung h = tt
  around-hung (Tree n c r) p i q g linked same hung h =
      let behind : HasEntries new p (i + 1) (put_children q g r) = around-hung r p (i + 1) q g linked (λ x k. same x (omega arith)) hung h.2 in
      elim (n.key == q) as (λ b. (n.key == q) ≡ b → ((x : ℕ) → 0 < cond (n.key == x) 1 0 + (times x (cond b Empty (put_children q Empty c)) + times x (put_children q Empty r)) → x ≢ q → new x ≡ at x) → HasEntries new p i (Tree n (cond b g (put_children q g c)) (put_children q g r))) [
        | true ↦ λ is same.
            let key : n.key ≡ q = eqb-true n.key q is in (
              ap new key ∙ linked _ (ap at (sym key) ∙ h.0),
              subst (λ x. HasEntries new (Some x) 0 g) (sym key) hung,
              behind,
            )
        | false ↦ λ is same.
            let here : 0 < cond (n.key == n.key) 1 0 + (times n.key (put_children q Empty c) + times n.key (put_children q Empty r)) = rw (eq-eqb n.key n.key refl) (omega arith) in (
              same n.key here (eqb-false n.key q is) ∙ h.0 ∙ ap (λ ks. Some (record { parent = p; position = i; children = ks; node = n.label })) (sym (roots-put_children c q g)),
              around-hung c (Some n.key) 0 q g linked (λ x k. same x (omega arith)) hung h.1,
              behind,
            )
      ] refl same

-- a node has other children, whose bodies are there
pub holds-hung : (nodes new : Slab Entry) (root : ℕ) (f : Forest (Keyed Node)) (q : ℕ) (g : Forest (Keyed Node)) (from : ℕ) (s : Spot Node) → Holds nodes root f → spot_of f q ≡ Some s → HasBodies (links_in nodes) g
    → Hangs (links_in nodes) (links_in new) q (root_keys g) from
    → ((index child : ℕ) → index < from → slice_get (root_keys g) index ≡ Some child → option_map (with_place q index) (links_in nodes child) ≡ links_in nodes child)
    → HasDistinctKeys (put_children q g f) → Holds new root (put_children q g f)
holds-hung nodes new root f q g from s h is bodies hangs before distinct =
    let at : ℕ → Option Links = links_in nodes in
    let now : ℕ → Option Links = links_in new in
    let all : (x : ℕ) → times x (put_children q g f) ≡ times x (put_children q Empty f) + times x g = λ x.
    let w : Keyed Node → ℕ = λ (n : Keyed Node). cond (n.key == x) 1 0 in
    let full = weigh-put_children w f None [] q g s h.distinct is in
    let none = weigh-put_children w f None [] q Empty s h.distinct is in
    omega arith
    in
    let own : (1 + (times q s.children + times q s.after)) ≤ times q f = subst (λ b. (cond b 1 0 + (times q s.children + times q s.after)) ≤ times q f) (eq-eqb q q refl) (weigh-spot (λ (n : Keyed Node). cond (n.key == q) 1 0) f None [] q s is) in
    let without = weigh-put_children (λ (n : Keyed Node). cond (n.key == q) 1 0) f None [] q Empty s h.distinct is in
    let no_q : times q g ≡ 0 = omega (arith, all q, distinct q) in
    let not_q : (x : ℕ) → 0 < times x g → x ≢ q = λ x more e. absurd (let z : 0 < times q g = subst (λ y. 0 < times y g) e more in omega arith) in
    let distinct_g : HasDistinctKeys g = λ x. omega (arith, all x, distinct x) in
    let placed : (index child : ℕ) → slice_get (root_keys g) index ≡ Some child → now child ≡ option_map (with_place q (0 + index)) (at child) = λ index child e.
    let there : 0 < times child g = root-counted g index child e in
    let place : 0 + index ≡ index = omega arith in
    rw place (elim (cases_lt index from) [
      | inl low ↦
          hangs.others child (not_q child there) (λ other high again. absurd (let same : index ≡ other = roots-once g distinct_g index other child e again in omega arith))
          ∙ sym (before index child low e)
      | inr high ↦ hangs.placed index child high e
    ])
    in
    let below : (x : ℕ) → 0 < inner x g → now x ≡ at x = λ x more.
    let there : 0 < times x g = (let low = inner-counted x g in omega arith) in
    hangs.others x (not_q x there) (λ index high e. inner-no-root g index x distinct_g more e)
    in
    let around : (x : ℕ) → 0 < times x (put_children q Empty f) → x ≢ q → now x ≡ at x = λ x more differ.
    hangs.others x differ (λ index high e. absurd (let there : 0 < times x g = root-counted g index x e in let one = distinct x in let sum = all x in omega arith))
    in
    let entries : HasEntries now None 0 (put_children q g f) =
    around-hung at now f None 0 q g (λ links e. hangs.changed ∙ ap (option_map (with_list (root_keys g))) e) around (children-hung at now g q 0 bodies placed below) h.entries in
    record {
      entries = entries;
      roots = roots-put_children f q g ∙ h.roots;
      distinct = distinct;
      small = entries-small new (put_children q g f) None 0 entries distinct;
    }
