use Rattle.std.proofs.Common.{◌≡◌, ◌≤◌, ◌+◌, length, take}
use Rattle.std.specs.Prelude.{filter}
use Rattle.kept_elements.specs.News.{is_news, passed_among}
use Rattle.kept_elements.proofs.news.news_among.Given as goal

abbrev pub invariant-loop-key : goal.invariant-loop-key
invariant-loop-key g l = record {
  news : l.news ≡ filter (is_news l.entered l.board.held) (take l.key-index l.told);
  steps : l.steps ≤ l.fn.steps + length (passed_among l.entered (take l.key-index l.told));
}
