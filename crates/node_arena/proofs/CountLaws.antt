-- How many nodes a forest has that stands in a slab.
use Rattle.std.proofs.Common.{◌≡◌, ◌≢◌, ◌==◌, ◌<◌, ◌≤◌, ◌+◌, ℕ, true, false, cond, List, [], ◌∷◌, ◌++◌, length, get_or, set, Option, Some, None, is_some, sum_by, option_map, refl, sym, ap, subst, ◌∙◌, inl, inr, arith, eqb-true, eq-eqb}
use Rattle.std.proofs.lemmas.Bool.{cases_lt}
use Rattle.std.proofs.lemmas.List.{get_or_past, get_or-set_other}
use Rattle.std.proofs.lemmas.List.Sums.{sum_by-set}
use Rattle.forest.specs.Forest.{Forest, Empty, Tree, size}
use Rattle.forest.specs.Keys.{Keyed, keys, times, HasDistinctKeys}
use Rattle.forest.proofs.OrderLaws.{keys-tree, length-keys}
use Rattle.slab.specs.Slab.{Slab, get, slab_len}
use Rattle.plain_types.specs.declared.node.Node.{Node}
use Rattle.node_arena.specs.declared.entry.Entry.{Entry}
use Rattle.node_arena.specs.Entries.{Links, links_of, links_in, HasEntries}

-- how often a key is in a list
abbrev pub found : ℕ → List ℕ → ℕ
found key [] = 0
found key (other ∷ rest) = cond (other == key) 1 0 + found key rest

pub found-append : (key : ℕ) (xs ys : List ℕ) → found key (xs ++ ys) ≡ found key xs + found key ys
found-append key [] ys = omega arith
found-append key (x ∷ xs) ys = omega (arith, found-append key xs ys)

pub found-keys : {L : Type 0} (key : ℕ) (f : Forest (Keyed L)) → found key (keys f) ≡ times key f
found-keys key Empty = refl
found-keys key (Tree n c r) = ap (found key) (keys-tree n c r) ∙ omega (arith, found-append key (keys c) (keys r), found-keys key c, found-keys key r)

module _ {X : Type 0} where
  abbrev filled : Option X → ℕ
  filled slot = cond (is_some slot) 1 0

  -- so many different keys of values are at most so many as there are values
  pub at-most : (ks : List ℕ) (slots : List (Option X)) → ((key : ℕ) → found key ks ≤ 1) → ((key : ℕ) → 0 < found key ks → is_some (get_or slots key None) ≡ true) → length ks ≤ sum_by filled slots
  at-most [] slots once there = omega arith
  at-most (k ∷ ks) slots once there =
      let own : 1 + found k ks ≤ 1 = subst (λ b. (cond b 1 0 + found k ks) ≤ 1) (eq-eqb k k refl) (once k) in
      let some : is_some (get_or slots k None) ≡ true = there k (subst (λ b. 0 < cond b 1 0 + found k ks) (sym (eq-eqb k k refl)) (omega arith)) in
      let within : k < length slots = elim (cases_lt k (length slots)) [ inl low ↦ low | inr high ↦ absurd (let past : get_or slots k None ≡ None = get_or_past slots k None high in cc) ] in
      let left = set slots k None in
      let other : (key : ℕ) → 0 < found key ks → key ≢ k = λ key h e. absurd (let zero_times : 0 < found k ks = subst (λ x. 0 < found x ks) e h in omega arith) in
      let rest : length ks ≤ sum_by filled left =
      at-most ks left (λ key. omega (arith, once key)) (λ key h. ap (λ o. is_some o) (get_or-set_other slots k key None None (other key h)) ∙ there key (omega arith)) in
      let one : sum_by filled left + filled (get_or slots k None) ≡ sum_by filled slots + filled None = sum_by-set filled slots k None None within in
      let full : filled (get_or slots k None) ≡ 1 = rw some refl in
      omega arith

module _ (at : ℕ → Option Links) where
  -- a node of the forest has an entry
  pub node-there : (f : Forest (Keyed Node)) (p : Option ℕ) (i q : ℕ) → HasEntries at p i f → 0 < times q f → is_some (at q) ≡ true
  node-there Empty p i q h there = absurd (omega arith)
  node-there (Tree n c r) p i q h there =
      elim (n.key == q) as (λ b. (n.key == q) ≡ b → 0 < cond b 1 0 + (times q c + times q r) → is_some (at q) ≡ true) [
        | true ↦ λ is _. ap (λ k. is_some (at k)) (sym (eqb-true n.key q is)) ∙ ap (λ o. is_some o) h.0
        | false ↦ λ is more. elim (cases_lt 0 (times q c)) [
          | inl some ↦ node-there c (Some n.key) 0 q h.1 some
          | inr none ↦ node-there r p (i + 1) q h.2 (omega arith)
        ]
      ] refl there

some-entry : (o : Option Entry) → is_some (option_map links_of o) ≡ true → is_some o ≡ true
some-entry None e = absurd (cc)
some-entry (Some entry) e = refl

pub entry-used : (nodes : Slab Entry) (f : Forest (Keyed Node)) (p : Option ℕ) (i q : ℕ) → HasEntries (links_in nodes) p i f → 0 < times q f → is_some (get nodes q) ≡ true
entry-used nodes f p i q h more = some-entry (get nodes q) (node-there (links_in nodes) f p i q h more)

-- a forest whose nodes have entries has no more nodes than there are entries
pub there-small : (nodes : Slab Entry) (f : Forest (Keyed Node)) → ((key : ℕ) → 0 < times key f → is_some (links_in nodes key) ≡ true) → HasDistinctKeys f → size f ≤ slab_len nodes
there-small nodes f there d =
    omega (arith, sym (length-keys f), at-most (keys f) nodes.slots (λ key. omega (arith, found-keys key f, d key)) (λ key more. some-entry (get nodes key) (there key (omega (arith, found-keys key f)))))

pub entries-small : (nodes : Slab Entry) (f : Forest (Keyed Node)) (p : Option ℕ) (i : ℕ) → HasEntries (links_in nodes) p i f → HasDistinctKeys f → size f ≤ slab_len nodes
entries-small nodes f p i h d = there-small nodes f (λ key more. node-there (links_in nodes) f p i key h more) d
