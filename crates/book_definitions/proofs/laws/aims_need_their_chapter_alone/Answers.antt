use Rattle.book_definitions.proofs.AimLemmas.{aim_needs}
use Rattle.book_definitions.proofs.NameLemmas.{names_aim}
use Rattle.book_definitions.proofs.laws.aims_need_their_chapter_alone.Goals as goal

pub returns : goal.returns
returns c = record { aim = aim_needs; names = names_aim }
