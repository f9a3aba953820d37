use Rattle.std.proofs.Common.{◌≡◌, ◌++◌, ℕ, List, drop}
use Rattle.target_index.specs.declared.change.IndexChange.{IndexChange}
use Rattle.target_index.specs.Changes.{AreReserved, holds_after_all, refers_after_all}
use Rattle.target_index.specs.Holders.{is_holder, is_reference}
use Rattle.target_index.proofs.index.Index.commit.Given as goal

abbrev pub invariant-loop-change : goal.invariant-loop-change
invariant-loop-change l = record {
  holders : (id : List ℕ) (key : ℕ) → holds_after_all (drop l.change-index l.change-items) id key (is_holder l.self id key) ≡ holds_after_all l.change-items id key (is_holder l.fn.self id key);
  references : (id : List ℕ) (key : ℕ) → refers_after_all (drop l.change-index l.change-items) id key (is_reference l.self id key) ≡ refers_after_all l.change-items id key (is_reference l.fn.self id key);
  reserved : AreReserved l.self (drop l.change-index l.change-items);
  behind : (more : List IndexChange) → AreReserved l.fn.self (l.change-items ++ more) → AreReserved l.self (drop l.change-index l.change-items ++ more);
}
