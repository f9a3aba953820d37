-- Which keys are used.
use Rattle.std.proofs.Common.{◌≡◌, ℕ, true, false, Bool, ◌||◌, List, [], length, None, Contains, is_some, refl, sym, ap, ◌∙◌, arith, inl, inr}
use Rattle.forest.specs.Forest.{Forest}
use Rattle.forest.specs.Keys.{Keyed, times}
use Rattle.forest.proofs.SpotLaws.{some_or_none, spot-absent, counted-live}
use Rattle.slab.specs.Slab.{Slab, get}
use Rattle.std.proofs.lemmas.List.{get_or_past}
use Rattle.plain_types.specs.declared.node.Node.{Node}
use Rattle.node_arena.specs.declared.entry.Entry.{Entry}
use Rattle.node_arena.specs.declared.prepared.Prepared.{Prepared}
use Rattle.node_arena.specs.declared.reversal.Reversal.{Reversal}
use Rattle.node_arena.specs.Added.{IsAdded}
use Rattle.node_arena.specs.Document.{Document}
use Rattle.node_arena.specs.Entries.{tree_in}
use Rattle.node_arena.specs.Reversals.{is_used, is_live, tree_after, tree_before, Reserves, FreesGone, IsSettled, IsCommitted}
use Rattle.node_arena.proofs.CountLaws.{entry-used}
use Rattle.node_arena.proofs.EntryLaws.{tree_in-is}
use Rattle.node_arena.proofs.FreeLaws.{contains-listed}
use Rattle.node_arena.proofs.StepLaws.{seen}

-- the nodes of a tree got entries in a slab that had none
pub settled-first : (nodes new : Slab Entry) (root : ℕ) (tree : Forest Node) (all : List ℕ) → nodes.slots ≡ [] → IsAdded nodes new tree all root → IsSettled (seen new root)
unfolding is_used
settled-first nodes new root tree all empty h key =
    let f : Forest (Keyed Node) = h.added in
    let same : is_live (tree_in new root) key ≡ is_live f key = ap (λ t. is_live t key) (tree_in-is new root f h.holds) in
    elim (some_or_none (times key f)) [
      | inr more ↦ entry-used new f None 0 key h.holds.entries more ∙ sym (same ∙ counted-live f key more)
      | inl none ↦
          let nothing : get nodes key ≡ None = get_or_past nodes.slots key None (let short : length nodes.slots ≡ 0 = ap length empty in omega arith) in
          let outside : Contains all key → ⊥ = λ listed. absurd (let more = contains-listed all f key h.listed listed in omega arith) in
          ap (λ o. is_some o) (h.only.others key outside ∙ nothing) ∙ sym (same ∙ ap (λ o. is_some o) (spot-absent f None [] key none))
    ]

-- what is taken for the nodes of one tree, where those of another have their keys
taken : (one other before now : Bool) → before ≡ other → ((one ≡ true) × (other ≡ true → ⊥) → now ≡ true) → (((one ≡ true) × (other ≡ true → ⊥) → ⊥) → now ≡ before) → now ≡ (one || other)
taken true true before now is reserved same = same (λ h. h.1 refl) ∙ is
taken true false before now is reserved same = reserved (refl, λ e. absurd (cc))
taken false true before now is reserved same = same (λ h. absurd (let e = h.0 in cc)) ∙ is
taken false false before now is reserved same = same (λ h. absurd (let e = h.0 in cc)) ∙ is

-- what is left for the nodes of one tree, once those that are only in another are free
left : (other one before now : Bool) → before ≡ (one || other) → ((other ≡ true) × (one ≡ true → ⊥) → now ≡ false) → (((other ≡ true) × (one ≡ true → ⊥) → ⊥) → now ≡ before) → now ≡ one
left true true before now is freed same = same (λ h. h.1 refl) ∙ is
left true false before now is freed same = freed (refl, λ e. absurd (cc))
left false true before now is freed same = same (λ h. absurd (let e = h.0 in cc)) ∙ is
left false false before now is freed same = same (λ h. absurd (let e = h.0 in cc)) ∙ is

either : (a b : Bool) → (a || b) ≡ (b || a)
either true true = refl
either true false = refl
either false true = refl
either false false = refl

pub still_settled : (old new : Document) → IsSettled old → new.tree ≡ old.tree → ((key : ℕ) → is_used new key ≡ is_used old key) → IsSettled new
still_settled old new settled same used key = used key ∙ settled key ∙ sym (ap (λ t. is_live t key) same)

-- an edit is prepared and committed
pub committed : (old ready new : Document) (prepared : Prepared) (reversal : Reversal) → IsSettled old → ready.tree ≡ old.tree → Reserves old.tree (tree_after ready prepared) old ready → new.tree ≡ tree_after ready prepared → tree_before new reversal ≡ ready.tree
    → ((key : ℕ) → is_used new key ≡ is_used ready key) → IsCommitted new reversal
committed old ready new prepared reversal settled same reserves after before used key =
    let after_tree : Forest (Keyed Node) = tree_after ready prepared in
    used key
    ∙ taken (is_live after_tree key) (is_live old.tree key) (is_used old key) (is_used ready key) (settled key) (reserves.reserved key) (reserves.others key)
    ∙ sym (ap (λ t. is_live t key || is_live (tree_before new reversal) key) after ∙ ap (λ t. is_live after_tree key || is_live t key) (before ∙ same))

-- it is settled
pub settled : (old new : Document) (reversal : Reversal) → IsCommitted old reversal → new.tree ≡ old.tree → FreesGone (tree_before old reversal) old.tree old new → IsSettled new
settled old new reversal committed same frees key =
    left (is_live (tree_before old reversal) key) (is_live old.tree key) (is_used old key) (is_used new key) (committed key) (frees.freed key) (frees.others key) ∙ sym (ap (λ t. is_live t key) same)

-- it is taken back
pub reverted : (old new : Document) (reversal : Reversal) → IsCommitted old reversal → new.tree ≡ tree_before old reversal → FreesGone old.tree new.tree old new → IsSettled new
reverted old new reversal committed same frees key =
    let was : is_used old key ≡ (is_live new.tree key || is_live old.tree key) =
    committed key ∙ either (is_live old.tree key) (is_live (tree_before old reversal) key) ∙ sym (ap (λ t. is_live t key || is_live old.tree key) same) in
    left (is_live old.tree key) (is_live new.tree key) (is_used old key) (is_used new key) was (frees.freed key) (frees.others key)
