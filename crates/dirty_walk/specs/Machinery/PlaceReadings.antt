-- What a walk reads of a document and its styles, where all starts are 0 (our own).
use Rattle.mini_cascade.specs.Styles.{element_style}
use Rattle.box_eval.specs.Starts.{no_starts}
use Rattle.document_walk.specs.Catching.{Reading}
use Rattle.dirty_walk.specs.declared.styled_arena.StyledArena.{StyledArena}

abbrev pub read_of : StyledArena → Reading
read_of document = record {
  table = document.styles.now.table;
  style = element_style document.arena.now.tree document.agent.now document.styles.now.author;
  start = no_starts;
  tree = document.arena.now.tree;
}
