-- Where reading stops is the place of the fault, and where it ends there is a tree.
use Rattle.std.proofs.Common.{◌≡◌, ◌≢◌, ℕ, ◌+◌, ◌≤◌, List, [], ◌∷◌, ◌++◌, length, take, drop, ◌⊎◌, inl, inr, Option, Some, None, refl, sym, ap, subst, ◌∙◌, append_assoc, append-nil, arith}
use Rattle.std.proofs.lemmas.List.{length-append, length-take-le, nil_from_length, take-append-drop, take_all, take_at}
use Rattle.forest.specs.Forest.{Forest}
use Rattle.plain_types.specs.declared.node.Node.{Node}
use Rattle.xml_definitions.specs.Documents.{no_content}
use Rattle.xml_definitions.specs.Faults.{IsSound, IsFaultPlace, FailsAt, last_line, line_feeds}
use Rattle.xml_definitions.specs.Items.{Item, ArePieces}
use Rattle.xml_definitions.specs.Normalized.{normalized}
use Rattle.xml_definitions.specs.Spelling.{Spells}
use Rattle.xml_definitions.specs.Texts.{HasTree, IsFragmentText}
use Rattle.xhtml_items.specs.FirstItem.{BeginsWith}
use Rattle.xhtml_items.proofs.ItemLaws.{item_filled, one_first, same_first}
use Rattle.xhtml_reader.specs.declared.kind.Kind.{Kind}
use Rattle.xhtml_reader.specs.declared.kind.Kind.TheVariants.{Document, Fragment}
use Rattle.xhtml_reader.specs.Machinery.States.{State, at_start, after_doctype, in_text, inside, at_end, some_state, IsFinal, allows, step, run}
use Rattle.xhtml_reader.specs.Machinery.Leading.{Leads, Stops}
use Rattle.xhtml_reader.proofs.Beginnings.{begins}
use Rattle.xhtml_reader.proofs.Holding.{Holds, outside, opened, deeper, steps, Top}
use Rattle.xhtml_reader.proofs.Lists.{ArePieces-append, ArePieces-one}
use Rattle.xhtml_reader.proofs.Machine.{run-append, survives}
use Rattle.xhtml_reader.proofs.Wholes.{whole_ends}

abbrev pub AreItems : List ℕ → List Item → Type 0
AreItems characters items = ArePieces Spells characters items

-- ---- a text has at most one list of items

not_spelled : (p : Item) (f x : List ℕ) → Spells f p → f ++ x ≡ [] → ⊥
not_spelled p f x a e = omega (arith, item_filled p f a, ap length e, length-append f x)

pub only_items : (xs ys : List Item) (characters : List ℕ) → AreItems characters xs → AreItems characters ys → xs ≡ ys
only_items [] [] characters p q = refl
only_items [] (y ∷ ys) characters p q = absurd (not_spelled y q.0 q.1 q.2 (sym q.4 ∙ p))
only_items (x ∷ xs) [] characters p q = absurd (not_spelled x p.0 p.1 p.2 (sym p.4 ∙ q))
only_items (x ∷ xs) (y ∷ ys) characters p q =
    let s = same_first x y p.0 p.1 q.0 q.1 p.2 q.2 (sym p.4 ∙ q.4) in
    let rest = only_items xs ys p.1 p.3 (rw s.1 q.3) in
    rw (s.0, rest) refl

-- ys are xs and then more, behind a; or b is no longer than a
abbrev Compared : List Item → List Item → List ℕ → List ℕ → List ℕ → List ℕ → Type 0
Compared xs ys a b c d = ((more : List Item) × (characters : List ℕ) × (ys ≡ xs ++ more) × AreItems characters more × (c ≡ characters ++ d)) ⊎ (length b ≤ length a)

compared : (xs ys : List Item) (a b c d : List ℕ) → AreItems a xs → AreItems b ys → a ++ c ≡ b ++ d → Compared xs ys a b c d
compared [] ys a b c d p q e = inl (ys, b, refl, q, ap (λ (t : List ℕ). t ++ c) (sym p) ∙ e)
compared (x ∷ xs) [] a b c d p q e = inr (omega (arith, ap length q))
compared (x ∷ xs) (y ∷ ys) a b c d p q e =
    let same : p.0 ++ (p.1 ++ c) ≡ q.0 ++ (q.1 ++ d) = sym (append_assoc p.0 p.1 c) ∙ ap (λ (t : List ℕ). t ++ c) (sym p.4) ∙ e ∙ ap (λ (t : List ℕ). t ++ d) q.4 ∙ append_assoc q.0 q.1 d in
    let s = same_first x y p.0 (p.1 ++ c) q.0 (q.1 ++ d) p.2 q.2 same in
    elim (compared xs ys p.1 q.1 c d p.3 q.3 s.1) [
      | inl w ↦ inl (w.0, w.1, rw (s.0, w.2) refl, w.3, w.4)
      | inr w ↦ inr (omega (arith, w, ap length same, ap length s.1, ap length p.4, ap length q.4, length-append {A = ℕ}))
    ]

-- ---- what is read so far

start_holds : (kind : Kind) → Holds kind [] at_start
start_holds Document = outside [] at_start refl
start_holds Fragment = outside [] at_start no_content

module _ (kind : Kind) where
  -- the items of the characters so far, and where they lead
  pub record Reached (front : List ℕ) (s : State) : Type 0 where
    pub items : List Item
    pub spelled : AreItems front items
    pub ran : run kind (Some at_start) items ≡ some_state s
    pub holds : Holds kind items s

  pub start_reached : Reached [] at_start
  start_reached = record { items = []; spelled = refl; ran = refl; holds = start_holds kind }

  reached_sound : (front : List ℕ) (s : State) → Reached front s → IsSound (allows kind) front
  reached_sound front s reached = (reached.items, reached.spelled, begins kind reached.holds front reached.spelled)

  holds_more : (more items : List Item) (s t : State) → Holds kind items s → run kind (Some s) more ≡ some_state t → Holds kind (items ++ more) t
  holds_more [] items s t h e = let same : s ≡ t = cc in rw (append-nil, ← same) h
  holds_more (item ∷ more) items s t h e = go (λ u k. holds_more more (items ++ item ∷ []) u t k) (step kind s item) refl e
    where
      go : ((u : State) → Holds kind (items ++ item ∷ []) u → run kind (Some u) more ≡ some_state t → Holds kind (items ++ item ∷ [] ++ more) t)
          → (o : Option State) → step kind s item ≡ o → run kind o more ≡ some_state t → Holds kind (items ++ item ∷ more) t
      go on None p e = absurd (let bad = survives kind None more t e in let is = bad.1 in cc)
      go on (Some u) p e = rw append_assoc at (on u (steps kind h item u p) e)

  pub Reached-more : (front rest after : List ℕ) (s t : State) → Reached front s → (leads : Leads kind rest s after t) → Reached (front ++ leads.front) t
  Reached-more front rest after s t reached leads = record {
    items = reached.items ++ leads.items;
    spelled = ArePieces-append Spells reached.items leads.items front leads.front reached.spelled leads.spelled;
    ran = run-append kind (Some at_start) reached.items leads.items ∙ ap (λ (o : Option State). run kind o leads.items) reached.ran ∙ leads.ran;
    holds = holds_more leads.items reached.items s t reached.holds leads.ran;
  }

  pub Leads-one : (rest : List ℕ) (s : State) (item : Item) (after : List ℕ) (t : State) → BeginsWith rest item after → step kind s item ≡ some_state t → Leads kind rest s after t
  Leads-one rest s item after t begins moves = record {
    items = item ∷ [];
    front = begins.front;
    spelled = ArePieces-one Spells item begins.front begins.spelled;
    parts = begins.parts;
    ran = moves;
  }

  -- other items of the text that lead anywhere are no more than were read
  no_longer : (front rest : List ℕ) (s : State) → Reached front s → Stops kind rest s → (a d : List ℕ) → front ++ rest ≡ a ++ d → (ys : List Item) → AreItems a ys → (t : State) → run kind (Some at_start) ys ≡ some_state t
      → length a ≤ length front
  no_longer front rest s reached stops a d both ys spelled t ran =
      elim (compared reached.items ys front a rest d reached.spelled spelled both) [
        | inl w ↦ at_more w.0 w.1 w.2 w.3 w.4
        | inr w ↦ w
      ]
    where
      stuck : (x : Item) (more : List Item) → step kind s x ≡ None → run kind (Some at_start) (reached.items ++ x ∷ more) ≡ some_state t → ⊥
      stuck x more none e =
          let k : run kind (step kind s x) more ≡ some_state t = sym (run-append kind (Some at_start) reached.items (x ∷ more) ∙ ap (λ (o : Option State). run kind o (x ∷ more)) reached.ran) ∙ e in
          let bad = survives kind None more t (sym (ap (λ (o : Option State). run kind o more) none) ∙ k) in
          let is = bad.1 in cc

      at_more : (more : List Item) (characters : List ℕ) → ys ≡ reached.items ++ more → AreItems characters more → rest ≡ characters ++ d → length a ≤ length front
      at_more [] characters is spelled parts = omega (arith, ap length both, ap length parts, ap length spelled, length-append {A = ℕ})
      at_more (x ∷ more) characters is spelled parts =
          let regroup : rest ≡ spelled.0 ++ (spelled.1 ++ d) = parts ∙ ap (λ (t : List ℕ). t ++ d) spelled.4 ∙ append_assoc spelled.0 spelled.1 d in
          let there : BeginsWith rest x (spelled.1 ++ d) = record { front = spelled.0; spelled = spelled.2; parts = regroup } in
          let ran_more : run kind (Some at_start) (reached.items ++ x ∷ more) ≡ some_state t = rw (← is) ran in
          elim stops [
            | inl none ↦ absurd (none x (spelled.1 ++ d) there)
            | inr found ↦ absurd (
                let same = (one_first rest found.0 x found.1 (spelled.1 ++ d) found.2 there).0 in
                let stop : step kind s x ≡ None = rw same at found.3 in
                stuck x more stop ran_more)
          ]

  -- items with which those of a text begin lead somewhere
  sound_runs : (characters : List ℕ) → (sound : IsSound (allows kind) characters) → (t : State) × (run kind (Some at_start) sound.0 ≡ some_state t)
  sound_runs characters sound =
      let whole = whole_ends kind (sound.0 ++ sound.2.more) sound.2.tree sound.2.allowed in
      survives kind (run kind (Some at_start) sound.0) sound.2.more whole.0 (sym (run-append kind (Some at_start) sound.0 sound.2.more) ∙ whole.1)

  abbrev pub NoTree : List ℕ → Type 0
  NoTree whole = (tree : Forest Node) → HasTree (allows kind) whole tree → ⊥

  -- where an item does not fit, or none comes
  pub stopped : (whole front rest : List ℕ) (s : State) (n : ℕ) → Reached front s → whole ≡ front ++ rest → rest ≢ [] → Stops kind rest s → n ≡ length front
      → NoTree whole × IsFaultPlace (allows kind) whole n
  stopped whole front rest s n reached e some stops n_is =
      let front_is : take n whole ≡ front = ap (take n) e ∙ take_at front rest n (sym n_is) in (
        λ tree d.
            let ends = whole_ends kind d.items tree d.allowed in
            let bound : length whole ≤ length front = no_longer front rest s reached stops whole [] (sym e ∙ sym (append-nil whole)) d.items d.spelled ends.0 ends.1 in
            some (nil_from_length rest (omega (arith, ap length e, length-append front rest))),
        record {
          within = omega (arith, ap length e, length-append front rest);
          sound = rw front_is (reached_sound front s reached);
          longest = λ other within sound.
              let runs = sound_runs (take other whole) sound in
              let bound : length (take other whole) ≤ length front =
              no_longer front rest s reached stops (take other whole) (drop other whole) (sym e ∙ sym (take-append-drop other whole)) sound.0 sound.1 runs.0 runs.1 in
              omega (arith, length-take-le other whole within);
        },
      )

  -- the state to which a whole text leads
  reached_final : (whole : List ℕ) (s : State) (tree : Forest Node) → Reached whole s → HasTree (allows kind) whole tree → IsFinal s tree
  reached_final whole s tree reached d =
      let same = only_items reached.items d.items whole reached.spelled d.spelled in
      let ends = whole_ends kind d.items tree d.allowed in
      let ran : some_state s ≡ some_state ends.0 = sym reached.ran ∙ ap (run kind (Some at_start)) same ∙ ends.1 in
      let is : s ≡ ends.0 = cc in
      subst (λ (t : State). IsFinal t tree) (sym is) ends.2

  -- at the end of the text, where it may not end
  pub unfinished : (whole : List ℕ) (s : State) (n : ℕ) → Reached whole s → ((tree : Forest Node) → IsFinal s tree → ⊥) → n ≡ length whole → NoTree whole × IsFaultPlace (allows kind) whole n
  unfinished whole s n reached fails n_is = (
    λ tree d. fails tree (reached_final whole s tree reached d),
    record {
      within = omega arith;
      sound = rw (n_is, take_all (length whole) whole (omega arith)) (reached_sound whole s reached);
      longest = λ other within sound. omega arith;
    },
  )

-- the place as a line and a column
pub fails_there : (kind : Kind) (whole : List ℕ) (n : ℕ) → NoTree kind whole × IsFaultPlace (allows kind) whole n
    → FailsAt (allows kind) whole (1 + line_feeds (take n whole)) (1 + length (last_line (take n whole)))
fails_there kind whole n fault = record { none = fault.0; place = n; fault = fault.1; line_is = refl; column_is = refl }

final_allows : (kind : Kind) {items : List Item} {s : State} → Holds kind items s → (tree : Forest Node) → IsFinal s tree → allows kind items tree
final_allows kind (opened before p name attrs d) tree final = absurd final
final_allows kind (deeper h name attrs d) tree final = absurd final
final_allows Document (outside items s h) tree final = document_final items s h tree final
  where
    document_final : (items : List Item) (s : State) → Top Document items s → (tree : Forest Node) → IsFinal s tree → allows Document items tree
    document_final items at_start h tree final = absurd final
    document_final items after_doctype h tree final = absurd final
    document_final items (in_text cs) h tree final = absurd h
    document_final items (inside f frames here) h tree final = absurd h
    document_final items (at_end root) d tree final = rw final d
final_allows Fragment (outside items s h) tree final = fragment_final items s h tree final
  where
    fragment_final : (items : List Item) (s : State) → Top Fragment items s → (tree : Forest Node) → IsFinal s tree → allows Fragment items tree
    fragment_final items at_start h tree final = absurd final
    fragment_final items after_doctype h tree final = absurd final
    fragment_final items (in_text cs) h tree final = rw final (record { content = h.0; one = refl })
    fragment_final items (inside f frames here) h tree final = absurd h
    fragment_final items (at_end root) h tree final = rw final (record { content = h.0; one = rw h.1.3 refl })

-- at the end of the text, where it may end
pub found : (kind : Kind) (whole : List ℕ) (s : State) (tree : Forest Node) → Reached kind whole s → IsFinal s tree → HasTree (allows kind) whole tree
found kind whole s tree reached final = record { items = reached.items; spelled = reached.spelled; allowed = final_allows kind reached.holds tree final }

pub only_tree : (kind : Kind) (whole : List ℕ) (tree other : Forest Node) → HasTree (allows kind) whole tree → HasTree (allows kind) whole other → tree ≡ other
only_tree kind whole tree other d e =
    let same = only_items d.items e.items whole d.spelled e.spelled in
    let first = whole_ends kind d.items tree d.allowed in
    let second = whole_ends kind e.items other e.allowed in
    let ran : some_state first.0 ≡ some_state second.0 = sym first.1 ∙ ap (run kind (Some at_start)) same ∙ second.1 in
    let is : first.0 ≡ second.0 = cc in
    one second.0 tree other (subst (λ (t : State). IsFinal t tree) is first.2) second.2
  where
    one : (s : State) (tree other : Forest Node) → IsFinal s tree → IsFinal s other → tree ≡ other
    one at_start tree other p q = absurd p
    one after_doctype tree other p q = absurd p
    one (in_text cs) tree other p q = p ∙ sym q
    one (inside f frames here) tree other p q = absurd p
    one (at_end root) tree other p q = p ∙ sym q

pub only_fragment : (text : List ℕ) (tree other : Forest Node) → IsFragmentText text tree → IsFragmentText text other → tree ≡ other
only_fragment text tree other first second = only_tree Fragment (normalized text) tree other first second
