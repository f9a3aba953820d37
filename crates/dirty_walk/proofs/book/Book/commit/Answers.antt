use Rattle.std.proofs.Common.{◌≡◌, ◌∙◌, ◌≤◌, List, Option, Some, None, IfSome, ap, arith, length, refl, sym, subst, ℕ, true}
use Rattle.std.specs.Option.{is_none}
use Rattle.forest.specs.Forest.{Forest}
use Rattle.forest.specs.Keys.{HasDistinctKeys, Keyed}
use Rattle.plain_types.specs.declared.node.Node.{Node}
use Rattle.node_arena.specs.declared.reversal.Reversal.{Reversal}
use Rattle.node_arena.specs.Reversals.{IsCommitted, IsReversal}
use Rattle.node_arena.proofs.KeyLaws.{settled}
use Rattle.snapshot_board.specs.Records.{put_all, take_all}
use Rattle.kept_elements.specs.Changes.{puts_of}
use Rattle.dirty_walk.specs.Books.{StyledDocument, HasRoomFor, UsesItsKeys}
use Rattle.dirty_walk.specs.DocumentStyles.{document_styles}
use Rattle.dirty_walk.specs.Plans.{IsPlannedBy, settled_after}
use Rattle.dirty_walk.proofs.PlanLemmas.{counts_where, index_where, is_settled, kept_where, room_where}
use Rattle.dirty_walk.proofs.ReferenceLemmas.{refers_where}
use Rattle.dirty_walk.proofs.SettlingLemmas.{below_of}
use Rattle.dirty_walk.proofs.BookLemmas.{keeps_entries}
use Rattle.dirty_walk.proofs.book.Book.commit.Goals as goal

pub put_changes-requires : goal.put_changes-requires
unfolding IsPlannedBy
put_changes-requires g c = record {
  room = below_of c.args.self.now.tree c.self.inside.board.room c.take_entries.new.board.room c.args.plan.puts.items c.take_entries.ensures.room
      (subst (λ (tree : Forest (Keyed Node)). HasRoomFor c.self.inside.board.room tree) (ap (λ (styled : StyledDocument). styled.tree) c.self.view_is) c.self.invariant.room)
      c.requires.planned.2;
}

pub invariant_of-self : goal.invariant_of-self
unfolding IsPlannedBy settled_after
invariant_of-self g c =
    let plan = c.args.plan in
    let held =
    c.put_changes.ensures.held
    ∙ ap (put_all (puts_of plan.puts.items))
    (c.take_entries.ensures.held ∙ ap (λ (keys : List ℕ). take_all keys c.self.inside.board.held) c.as_slice.ensures.items ∙ ap (λ (styled : StyledDocument). take_all plan.takes styled.kept) c.self.view_is) in
    let same = c.settle.ensures.tree in
    record {
      agent_is = c.self.invariant.agent_is;
      styles_are = c.self.invariant.styles_are ∙ ap (λ (tree : Forest (Keyed Node)). document_styles c.self.inside.styles.sheet tree) (sym same);
      kept = λ _.
          kept_where c.args.self.now.tree c.settle.new.self.tree c.args.self.now.sheet c.self.inside.styles.sheet _ c.put_changes.new.board.held true (is_none c.take.new.self)
          (same ∙ ap (λ (styled : StyledDocument). styled.tree) c.self.view_is)
          (ap (λ (styled : StyledDocument). styled.sheet) c.self.view_is)
          held
          c.requires.planned.1;
      room =
          let grown : c.self.inside.board.room ≤ c.put_changes.new.board.room = omega (arith, c.put_changes.ensures.room, c.take_entries.ensures.room) in
          room_where c.self.inside.arena.tree c.settle.new.self.tree c.self.inside.board.room c.put_changes.new.board.room same grown c.self.invariant.room;
      indexed = index_where c.self.inside.arena.tree c.settle.new.self.tree c.self.inside.index c.self.inside.index same (λ id key. refl) c.self.invariant.indexed;
      refers = refers_where c.self.inside.arena.tree c.settle.new.self.tree c.self.inside.styles.sheet c.self.inside.index c.self.inside.index same (λ id key. refl) c.self.invariant.refers;
      counts = counts_where c.self.inside.arena.tree c.settle.new.self.tree c.self.inside.styles.sheet c.self.inside.counting same c.self.invariant.counts;
      back = subst (λ (planned : Option Reversal). IfSome planned (λ reversal. IsReversal c.settle.new.self reversal)) (sym c.take.ensures.after) tt;
      keys =
          let was : c.self.inside.planned ≡ Some c.in-Some.reversal = sym c.take.ensures.value ∙ c.in-Some.is in
          let committed : IsCommitted c.self.inside.arena c.in-Some.reversal = subst (λ (planned : Option Reversal). UsesItsKeys c.self.inside.arena planned) was c.self.invariant.keys in
          subst (λ (planned : Option Reversal). UsesItsKeys c.settle.new.self planned) (sym c.take.ensures.after)
          (settled c.self.inside.arena c.settle.new.self c.in-Some.reversal committed c.settle.ensures.tree c.settle.ensures.freed);
    }

pub invariant_of-self-in_default : goal.invariant_of-self-in_default
unfolding IsPlannedBy settled_after
invariant_of-self-in_default g c =
    let plan = c.args.plan in
    let held =
    c.put_changes.ensures.held
    ∙ ap (put_all (puts_of plan.puts.items))
    (c.take_entries.ensures.held ∙ ap (λ (keys : List ℕ). take_all keys c.self.inside.board.held) c.as_slice.ensures.items ∙ ap (λ (styled : StyledDocument). take_all plan.takes styled.kept) c.self.view_is) in
    record {
      agent_is = c.self.invariant.agent_is;
      styles_are = c.self.invariant.styles_are;
      kept = λ _.
          kept_where c.args.self.now.tree c.self.inside.arena.tree c.args.self.now.sheet c.self.inside.styles.sheet _ c.put_changes.new.board.held true (is_none c.take.new.self)
          (ap (λ (styled : StyledDocument). styled.tree) c.self.view_is)
          (ap (λ (styled : StyledDocument). styled.sheet) c.self.view_is)
          held
          c.requires.planned.1;
      room =
          let grown : c.self.inside.board.room ≤ c.put_changes.new.board.room = omega (arith, c.put_changes.ensures.room, c.take_entries.ensures.room) in
          room_where c.self.inside.arena.tree c.self.inside.arena.tree c.self.inside.board.room c.put_changes.new.board.room refl grown c.self.invariant.room;
      indexed = c.self.invariant.indexed;
      refers = c.self.invariant.refers;
      counts = c.self.invariant.counts;
      back = subst (λ (planned : Option Reversal). IfSome planned (λ reversal. IsReversal c.self.inside.arena reversal)) (sym c.take.ensures.after) tt;
      keys =
          let was : c.self.inside.planned ≡ None = sym c.take.ensures.value ∙ c.in_default.is in
          subst (λ (planned : Option Reversal). UsesItsKeys c.self.inside.arena planned) (was ∙ sym c.take.ensures.after) c.self.invariant.keys;
    }

pub returns-in-Some : goal.returns-in-Some
unfolding IsPlannedBy settled_after
returns-in-Some g c =
    let plan = c.args.plan in
    let held =
    c.put_changes.ensures.held
    ∙ ap (put_all (puts_of plan.puts.items))
    (c.take_entries.ensures.held ∙ ap (λ (keys : List ℕ). take_all keys c.self.inside.board.held) c.as_slice.ensures.items ∙ ap (λ (styled : StyledDocument). take_all plan.takes styled.kept) c.self.view_is) in
    let tree = c.settle.ensures.tree ∙ ap (λ (styled : StyledDocument). styled.tree) c.self.view_is in
    let distinct = subst (λ (document : Forest (Keyed Node)). HasDistinctKeys document) (sym c.settle.ensures.tree) c.arena_holds_document.ensures.document.distinct in
    let sheet = ap (λ (styled : StyledDocument). styled.sheet) c.self.view_is in
    record {
      settled = is_settled c.args.self.now.tree c.settle.new.self.tree c.args.self.now.sheet c.self.inside.styles.sheet _ c.put_changes.new.board.held c.take.new.self tree sheet held c.take.ensures.after;
      keeps = keeps_entries (record { tree = c.settle.new.self.tree; sheet = c.self.inside.styles.sheet; settled = is_none c.take.new.self; kept = c.put_changes.new.board.held }) distinct (kept_where c.args.self.now.tree c.settle.new.self.tree c.args.self.now.sheet c.self.inside.styles.sheet _ c.put_changes.new.board.held true (is_none c.take.new.self) tree sheet held c.requires.planned.1);
      steps = omega (arith, c.take_entries.ensures.steps, c.put_changes.ensures.steps, ap length c.as_slice.ensures.items);
    }

pub returns : goal.returns
unfolding IsPlannedBy settled_after
returns g c =
    let plan = c.args.plan in
    let held =
    c.put_changes.ensures.held
    ∙ ap (put_all (puts_of plan.puts.items))
    (c.take_entries.ensures.held ∙ ap (λ (keys : List ℕ). take_all keys c.self.inside.board.held) c.as_slice.ensures.items ∙ ap (λ (styled : StyledDocument). take_all plan.takes styled.kept) c.self.view_is) in
    let tree = ap (λ (styled : StyledDocument). styled.tree) c.self.view_is in
    let distinct = c.arena_holds_document.ensures.document.distinct in
    let sheet = ap (λ (styled : StyledDocument). styled.sheet) c.self.view_is in
    record {
      settled = is_settled c.args.self.now.tree c.self.inside.arena.tree c.args.self.now.sheet c.self.inside.styles.sheet _ c.put_changes.new.board.held c.take.new.self tree sheet held c.take.ensures.after;
      keeps = keeps_entries (record { tree = c.self.inside.arena.tree; sheet = c.self.inside.styles.sheet; settled = is_none c.take.new.self; kept = c.put_changes.new.board.held }) distinct (kept_where c.args.self.now.tree c.self.inside.arena.tree c.args.self.now.sheet c.self.inside.styles.sheet _ c.put_changes.new.board.held true (is_none c.take.new.self) tree sheet held c.requires.planned.1);
      steps = omega (arith, c.take_entries.ensures.steps, c.put_changes.ensures.steps, ap length c.as_slice.ensures.items);
    }
