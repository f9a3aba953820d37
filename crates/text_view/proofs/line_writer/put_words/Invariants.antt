use Rattle.std.proofs.Common.{◌≡◌, ◌++◌, ◌≤◌, List, ℕ, length}
use Rattle.ports.specs.Grown.{grown}
use Rattle.text_view.specs.Machinery.Writing.{behind_text, shown}
use Rattle.text_view.proofs.line_writer.put_words.Given as goal

abbrev pub invariant-words : goal.invariant-words
invariant-words g l = record {
  front : List ℕ;
  parts : front ++ l.rest ≡ l.text;
  state : l.state ≡ behind_text l.fn.before front;
  went_out : g.O.Sink.out l.out ≡ grown (g.O.Sink.out l.initial.out) (shown l.fn.before front);
  later : g.O.Sink.faults l.initial.out ≤ g.O.Sink.faults l.out;
}

abbrev pub decreases-words : goal.decreases-words
decreases-words g l = length l.rest
