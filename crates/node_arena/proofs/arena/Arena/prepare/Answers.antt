use Rattle.std.proofs.Common.{subst, sym}
use Rattle.node_arena.specs.Document.{IsKeyedDocument}
use Rattle.node_arena.specs.Reversals.{IsReady, tree_after}
use Rattle.node_arena.proofs.GoneLaws.{fresh-used, reserves-used, used-same, on-error}
use Rattle.node_arena.proofs.arena.Arena.prepare.Goals as goal

pub returns-in_err-change-clause-err : goal.returns-in_err-change-clause-err
returns-in_err-change-clause-err c = on-error c.from_residual.result _ (used-same c.args.self.now c.prepare_change.new.self c.in_err-change.ensures.err)

pub returns : goal.returns
unfolding IsReady tree_after
returns c =
    let old = c.args.self.now in
    let new = c.prepare_change.new.self in
    let h = c.in_ok-change.ensures in
    let document = subst IsKeyedDocument (sym h.tree) c.arena_holds_document.ensures.document in
    record {
      tree = h.tree;
      ready = h.prepares.can;
      edits = h.prepares.edits;
      fresh = fresh-used c.args.edit.now old new c.in_ok-change.change document h.tree h.prepares;
      reserves = reserves-used c.args.edit.now old new c.in_ok-change.change document h.tree h.prepares;
      err = tt;
    }
