use Rattle.bake_book.proofs.TagLaws.{document_dressed}
use Rattle.bake_book.proofs.laws.walks_give_the_tags.Goals as goal

pub returns : goal.returns
returns c = record { tags = document_dressed }
