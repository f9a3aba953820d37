use Rattle.started_work.proofs.LawLemmas.{started_changes_are_told, started_news_are_paid, turned_enter_points}
use Rattle.started_work.proofs.laws.work_pays_for_second_news.Goals as goal

pub returns : goal.returns
returns c = record { entered = turned_enter_points; told = started_changes_are_told; news = started_news_are_paid }
