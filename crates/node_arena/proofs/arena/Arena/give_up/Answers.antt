use Rattle.std.proofs.Common.{◌≡◌, ℕ, Contains, None, subst}
use Rattle.slab.specs.Slab.{get}
use Rattle.node_arena.specs.Changes.{CanPutIn, CanChange}
use Rattle.node_arena.proofs.FreeLaws.{arena-free, tree-free, freed, others-stay}
use Rattle.node_arena.proofs.arena.Arena.give_up.Goals as goal

can : (c : goal.After-free) → CanPutIn c.args.self.now c.in-PutIn.key c.in-PutIn.keys.items c.in-PutIn.place
can c = subst (CanChange c.args.self.now) c.in-PutIn.is c.requires

gone : (c : goal.After-free) → (key : ℕ) → Contains c.in-PutIn.keys.items key → get c.free.new.nodes key ≡ None
gone c = subst (λ ks. (key : ℕ) → Contains ks key → get c.free.new.nodes key ≡ None) c.as_slice.ensures.value c.free.ensures.gone

others : (c : goal.After-free) → (key : ℕ) → (Contains c.in-PutIn.keys.items key → ⊥) → get c.free.new.nodes key ≡ get c.self.inside.nodes key
others c = subst (λ ks. (key : ℕ) → (Contains ks key → ⊥) → get c.free.new.nodes key ≡ get c.self.inside.nodes key) c.as_slice.ensures.value c.free.ensures.others

pub invariant_of-self : goal.invariant_of-self
invariant_of-self c = arena-free c.self.inside.nodes c.self.inside.root c.args.self.now c.self.invariant c.self.view_is c.in-PutIn.key c.in-PutIn.keys.items c.in-PutIn.place (can c) c.free.new.nodes (gone c) (others c)

pub returns-in-PutIn : goal.returns-in-PutIn
returns-in-PutIn c =
    let document = c.args.self.now in
    rw c.in-PutIn.is (record {
      tree = tree-free c.self.inside.nodes c.self.inside.root document c.self.invariant c.self.view_is c.in-PutIn.key c.in-PutIn.keys.items c.in-PutIn.place (can c) c.free.new.nodes (gone c) (others c);
      freed = freed c.self.inside.nodes c.self.inside.root document c.self.invariant c.self.view_is c.in-PutIn.key c.in-PutIn.keys.items c.in-PutIn.place (can c) c.free.new.nodes (gone c) (others c);
      others = others-stay c.self.inside.nodes c.self.inside.root document c.self.invariant c.self.view_is c.in-PutIn.key c.in-PutIn.keys.items c.in-PutIn.place (can c) c.free.new.nodes (gone c) (others c);
    })
