-- What the entries say of the tree that they hold.
use Rattle.std.proofs.Common.{◌≡◌, ◌≢◌, ◌==◌, ◌<◌, ◌≤◌, ◌+◌, ℕ, suc, zero, true, false, cond, List, [], ◌∷◌, ◌++◌, length, Option, Some, None, IsSome, option_map, refl, sym, ap, subst, ◌∙◌, inl, inr, arith, eqb-true, eq-eqb, length-append}
use Rattle.std.proofs.lemmas.Bool.{eqb-false}
use Rattle.std.proofs.lemmas.Option.{none-some, same_Some}
use Rattle.forest.specs.Forest.{Forest, Empty, Tree, size, weigh, then_tree, IsOneTree}
use Rattle.forest.specs.Keys.{Keyed, times}
use Rattle.forest.specs.Spots.{Spot, keyed, first_key, root_keys, spot, spot_of, IsLive}
use Rattle.forest.specs.Changes.{put_children}
use Rattle.forest.proofs.SpotLaws.{chosen, first_found, live-spot, weigh-spot}
use Rattle.forest.proofs.ChangeLaws.{weigh-put_children, weigh-then_tree}
use Rattle.slab.specs.Slab.{Slab, get, slab_len}
use Rattle.plain_types.specs.declared.node.Node.{Node}
use Rattle.node_arena.specs.declared.entry.Entry.{Entry}
use Rattle.node_arena.specs.Document.{Document, IsKeyedDocument}
use Rattle.node_arena.specs.Entries.{Links, links_of, links_in, HasEntries, grown, tree_in, Holds, IsArena, IsEntryOf, Appends}

-- the links of a node that stands so
abbrev pub links_at : Spot Node → Links
links_at s = record { parent = s.parent; position = length s.earlier; children = root_keys s.children; node = s.label }

module _ (at : ℕ → Option Links) where
  -- a node of the forest has its entry
  pub entries-spot : (f : Forest (Keyed Node)) (p : Option ℕ) (e : List (Keyed Node)) (i q : ℕ) (s : Spot Node) → length e ≡ i → HasEntries at p i f → spot p e f q ≡ Some s → at q ≡ Some (links_at s)
  entries-spot Empty p e i q s long h is = absurd (none-some s is)
  entries-spot (Tree n c r) p e i q s long h is =
      elim (chosen (n.key == q) _ _ _ is) [
        | inl a ↦ ap at (sym (eqb-true n.key q a.0)) ∙ h.0 ∙ ap (λ k. Some (record { parent = p; position = k; children = root_keys c; node = n.label })) (sym long) ∙ ap (λ t. Some (links_at t)) (same_Some _ _ a.1)
        | inr a ↦ elim (first_found _ _ s a.1) [
          | inl b ↦ entries-spot c (Some n.key) [] 0 q s refl h.1 b
          | inr b ↦ entries-spot r p (e ++ n ∷ []) (i + 1) q s (omega (arith, length-append e (n ∷ []))) h.2 b.1
        ]
      ]

  -- so have its children
  pub entries-children : (f : Forest (Keyed Node)) (p : Option ℕ) (e : List (Keyed Node)) (i q : ℕ) (s : Spot Node) → HasEntries at p i f → spot p e f q ≡ Some s → HasEntries at (Some q) 0 s.children
  entries-children Empty p e i q s h is = absurd (none-some s is)
  entries-children (Tree n c r) p e i q s h is =
      elim (chosen (n.key == q) _ _ _ is) [
        | inl a ↦ subst (λ x. HasEntries at (Some x) 0 s.children) (eqb-true n.key q a.0) (subst (HasEntries at (Some n.key) 0) (ap (λ t. t.children) (same_Some _ _ a.1)) h.1)
        | inr a ↦ elim (first_found _ _ s a.1) [
          | inl b ↦ entries-children c (Some n.key) [] 0 q s h.1 b
          | inr b ↦ entries-children r p (e ++ n ∷ []) (i + 1) q s h.2 b.1
        ]
      ]

  -- a key without an entry is that of no node
  pub entries-absent : (f : Forest (Keyed Node)) (p : Option ℕ) (i q : ℕ) → HasEntries at p i f → at q ≡ None → times q f ≡ 0
  entries-absent Empty p i q h e = refl
  entries-absent (Tree n c r) p i q h e =
      elim (n.key == q) as (λ b. (n.key == q) ≡ b → cond b 1 0 + (times q c + times q r) ≡ 0) [
        | true ↦ λ is. absurd (none-some _ (sym e ∙ ap at (sym (eqb-true n.key q is)) ∙ h.0))
        | false ↦ λ is. omega (arith, entries-absent c (Some n.key) 0 q h.1 e, entries-absent r p (i + 1) q h.2 e)
      ] refl

  -- the links lead to the forest
  pub grown-is : (most : ℕ) (f : Forest (Keyed Node)) (p : Option ℕ) (i : ℕ) → HasEntries at p i f → size f ≤ most → grown most at (root_keys f) ≡ f
  grown-is zero Empty p i h small = refl
  grown-is zero (Tree n c r) p i h small = absurd (omega arith)
  grown-is (suc most) Empty p i h small = refl
  grown-is (suc most) (Tree n c r) p i h small = rw (h.0, grown-is most c (Some n.key) 0 h.1 (omega arith), grown-is most r p (i + 1) h.2 (omega arith)) refl

-- the tree that the entries hold is the one that the arena stands for
pub tree_in-is : (nodes : Slab Entry) (root : ℕ) (f : Forest (Keyed Node)) → Holds nodes root f → tree_in nodes root ≡ f
unfolding tree_in
tree_in-is nodes root f h = rw (← h.roots) (grown-is (links_in nodes) (slab_len nodes) f None 0 h.entries h.small)

-- in an open arena
pub opened : (nodes : Slab Entry) (root : ℕ) (document : Document) → IsArena nodes root → record { tree = tree_in nodes root; entries = nodes } ≡ document → Holds nodes root document.tree × IsKeyedDocument document.tree
opened nodes root document h e =
    subst (λ (d : Document). Holds nodes root d.tree × IsKeyedDocument d.tree) e (h.holds, h.document)

-- what closes it
pub closed : (nodes : Slab Entry) (root : ℕ) (f : Forest (Keyed Node)) → Holds nodes root f → IsKeyedDocument f → IsArena nodes root
closed nodes root f h d =
    let e : f ≡ tree_in nodes root = sym (tree_in-is nodes root f h) in
    record { holds = subst (Holds nodes root) e h; document = subst IsKeyedDocument e d }

found-links : (o : Option Entry) (l : Links) → option_map links_of o ≡ Some l → IsSome o
found-links None l e = absurd (none-some l e)
found-links (Some entry) l e = refl

pub entry-there : (nodes : Slab Entry) (root : ℕ) (f : Forest (Keyed Node)) (q : ℕ) → Holds nodes root f → IsLive f q → IsSome (get nodes q)
entry-there nodes root f q h live =
    let s = live-spot f q live in
    found-links (get nodes q) (links_at s.0) (entries-spot (links_in nodes) f None [] 0 q s.0 refl h.entries s.1)

pub entry-read : (nodes : Slab Entry) (root : ℕ) (f : Forest (Keyed Node)) (q : ℕ) (entry : Entry) → Holds nodes root f → IsLive f q → get nodes q ≡ Some entry → IsEntryOf f q entry
entry-read nodes root f q entry h live e =
    let s = live-spot f q live in
    let is : links_of entry ≡ links_at s.0 = same_Some _ _ (sym (ap (option_map links_of) e) ∙ entries-spot (links_in nodes) f None [] 0 q s.0 refl h.entries s.1) in
    record {
      parent = rw s.1 (ap (λ l. l.parent) is);
      position = rw s.1 (ap (λ l. l.position) is);
      children = rw s.1 (ap (λ l. l.children) is);
      node = rw s.1 (ap (λ l. Some l.node) is);
    }

pub root-first : (nodes : Slab Entry) (root : ℕ) (f : Forest (Keyed Node)) → Holds nodes root f → Some root ≡ first_key f
root-first nodes root Empty h = absurd (let e : [] ≡ root ∷ [] = h.roots in cc)
root-first nodes root (Tree n c r) h = let e : n.key ∷ root_keys r ≡ root ∷ [] = h.roots in cc

-- a document has one root
pub one-tree : (f : Forest (Keyed Node)) → IsKeyedDocument f → IsOneTree f
one-tree Empty d = d.is_tree.one
one-tree (Tree n c Empty) d = refl
one-tree (Tree n c (Tree m e r)) d = absurd (let is : Tree m.label _ _ ≡ Empty = d.is_tree.one in cc)

module _ (new : ℕ → Option Links) where
  -- entries of other nodes may change
  pub entries-frame : (at : ℕ → Option Links) (f : Forest (Keyed Node)) (p : Option ℕ) (i : ℕ) → ((x : ℕ) → 0 < times x f → new x ≡ at x) → HasEntries at p i f → HasEntries new p i f
  entries-frame at Empty p i same h = tt
  entries-frame at (Tree n c r) p i same h = (
    same n.key (rw (eq-eqb n.key n.key refl) (omega arith)) ∙ h.0,
    entries-frame at c (Some n.key) 0 (λ x k. same x (omega arith)) h.1,
    entries-frame at r p (i + 1) (λ x k. same x (omega arith)) h.2,
  )

  -- one root more
  entries-then_tree : (g : Forest (Keyed Node)) (p : Option ℕ) (i k : ℕ) (leaf : Keyed Node) → k ≡ i + length (root_keys g) → new leaf.key ≡ Some (record { parent = p; position = k; children = []; node = leaf.label }) → HasEntries new p i g → HasEntries new p i (then_tree g leaf Empty)
  entries-then_tree Empty p i k leaf is at h = (at ∙ ap (λ position. Some (record { parent = p; position = position; children = []; node = leaf.label })) (omega arith), tt, tt)
  entries-then_tree (Tree n c r) p i k leaf is at h = (h.0, h.1, entries-then_tree r p (i + 1) k leaf (omega arith) at h.2)

roots-put_children : (f : Forest (Keyed Node)) (q : ℕ) (g : Forest (Keyed Node)) → root_keys (put_children q g f) ≡ root_keys f
roots-put_children Empty q g = refl
roots-put_children (Tree n c r) q g = ap (λ ks. n.key ∷ ks) (roots-put_children r q g)

roots-then_tree : (g : Forest (Keyed Node)) (leaf : Keyed Node) (inside : Forest (Keyed Node)) → root_keys (then_tree g leaf inside) ≡ root_keys g ++ leaf.key ∷ []
roots-then_tree Empty leaf inside = refl
roots-then_tree (Tree n c r) leaf inside = ap (λ ks. n.key ∷ ks) (roots-then_tree r leaf inside)

-- other children of a node
pub entries-put_children : (at new : ℕ → Option Links) (f : Forest (Keyed Node)) (p : Option ℕ) (i q : ℕ) (g : Forest (Keyed Node))
    → ((links : Links) → at q ≡ Some links → new q ≡ Some (record links { children = root_keys g }))
    → ((x : ℕ) → 0 < times x f → x ≢ q → new x ≡ at x) → HasEntries new (Some q) 0 g → HasEntries at p i f → HasEntries new p i (put_children q g f)
entries-put_children at new Empty p i q g linked same hung h = tt
entries-put_children at new (Tree n c r) p i q g linked same hung h =
    let here : 0 < times n.key (Tree n c r) = rw (eq-eqb n.key n.key refl) (omega arith) in
    let below : HasEntries new (Some n.key) 0 (put_children q g c) = entries-put_children at new c (Some n.key) 0 q g linked (λ x k. same x (omega arith)) hung h.1 in
    let behind : HasEntries new p (i + 1) (put_children q g r) = entries-put_children at new r p (i + 1) q g linked (λ x k. same x (omega arith)) hung h.2 in
    elim (n.key == q) as (λ b. (n.key == q) ≡ b → HasEntries new p i (Tree n (cond b g (put_children q g c)) (put_children q g r))) [
      | true ↦ λ is.
          let key : n.key ≡ q = eqb-true n.key q is in (
            ap new key ∙ linked _ (ap at (sym key) ∙ h.0),
            subst (λ x. HasEntries new (Some x) 0 g) (sym key) hung,
            behind,
          )
      | false ↦ λ is. (same n.key here (eqb-false n.key q is) ∙ h.0 ∙ ap (λ ks. Some (record { parent = p; position = i; children = ks; node = n.label })) (sym (roots-put_children c q g)), below, behind)
    ] refl

-- a new node behind the children of a node
pub holds-appended : (nodes new : Slab Entry) (root : ℕ) (f : Forest (Keyed Node)) (q key : ℕ) (node : Node) (s : Spot Node) → Holds nodes root f → spot_of f q ≡ Some s → Appends (links_in nodes) (links_in new) q node key → slab_len new ≡ slab_len nodes + 1
    → Holds new root (put_children q (then_tree s.children (keyed key node) Empty) f)
holds-appended nodes new root f q key node s h is adds len =
    let old : ℕ → Option Links = links_in nodes in
    let now : ℕ → Option Links = links_in new in
    let c : Forest (Keyed Node) = s.children in
    let g : Forest (Keyed Node) = then_tree c (keyed key node) Empty in
    let at_q : old q ≡ Some (links_at s) = entries-spot old f None [] 0 q s refl h.entries is in
    let none : times key f ≡ 0 = entries-absent old f None 0 key h.entries adds.fresh in
    let parts : (w : Keyed Node → ℕ) → (w (keyed q s.label) + (weigh w c + weigh w s.after)) ≤ weigh w f = λ w. weigh-spot w f None [] q s is in
    let own : (1 + (times q c + times q s.after)) ≤ times q f = subst (λ b. (cond b 1 0 + (times q c + times q s.after)) ≤ times q f) (eq-eqb q q refl) (parts (λ (n : Keyed Node). cond (n.key == q) 1 0)) in
    let fresh : (x : ℕ) → 0 < times x f → x ≢ key = λ x k e. absurd (let z : times x f ≡ 0 = subst (λ y. times y f ≡ 0) (sym e) none in omega arith) in
    let same : (x : ℕ) → 0 < times x f → x ≢ q → now x ≡ old x = λ x k ne. adds.others x (fresh x k) ne in
    let in_c : (x : ℕ) → 0 < times x c → now x ≡ old x = λ x k. same x (omega (arith, parts (λ (n : Keyed Node). cond (n.key == x) 1 0))) (λ e. absurd (let z : 0 < times q c = subst (λ y. 0 < times y c) e k in omega (arith, own, h.distinct q))) in
    let hung : HasEntries now (Some q) 0 g =
    entries-then_tree now c (Some q) 0 (length (root_keys c)) (keyed key node) (omega arith) (adds.added (links_at s) at_q)
    (entries-frame now old c (Some q) 0 in_c (entries-children old f None [] 0 q s h.entries is)) in
    let weighs : (w : Keyed Node → ℕ) → weigh w (put_children q g f) + weigh w c ≡ weigh w f + weigh w g = λ w. weigh-put_children w f None [] q g s h.distinct is in
    let more : (w : Keyed Node → ℕ) → weigh w g ≡ weigh w c + (w (keyed key node) + 0) = λ w. weigh-then_tree w c (keyed key node) Empty in
    record {
      entries = entries-put_children old now f None 0 q g
          (λ links e. adds.changed links e ∙ ap (λ ks. Some (record links { children = ks })) (ap (λ l. l.children ++ key ∷ []) (same_Some _ _ (sym e ∙ at_q)) ∙ sym (roots-then_tree c (keyed key node) Empty)))
          same hung h.entries;
      roots = roots-put_children f q g ∙ h.roots;
      distinct = λ x. elim (key == x) as (λ b. (key == x) ≡ b → times x (put_children q g f) + times x c ≡ times x f + times x g → times x g ≡ times x c + (cond b 1 0 + 0) → times x (put_children q g f) ≤ 1) [
        | true ↦ λ e w m. let z : times x f ≡ 0 = subst (λ y. times y f ≡ 0) (eqb-true key x e) none in omega arith
        | false ↦ λ e w m. omega (arith, h.distinct x)
      ] refl (weighs (λ (n : Keyed Node). cond (n.key == x) 1 0)) (more (λ (n : Keyed Node). cond (n.key == x) 1 0));
      small = omega (arith, weighs (λ _. 1), more (λ _. 1), h.small, len);
    }
