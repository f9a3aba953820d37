use Rattle.book_definitions.proofs.BareEntries.{only_texts, others}
use Rattle.book_definitions.proofs.laws.only_texts_cross_chapters.Goals as goal

pub returns : goal.returns
returns c = record { document = only_texts; others = others }
