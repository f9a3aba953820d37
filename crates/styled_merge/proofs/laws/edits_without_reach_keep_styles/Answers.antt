use Rattle.styled_merge.proofs.LawLemmas.{own_keeps_styles, own_styles_documents, own_styles_merges}
use Rattle.styled_merge.proofs.laws.edits_without_reach_keep_styles.Goals as goal

pub returns : goal.returns
returns c = record { styles = own_keeps_styles; sheets = own_styles_merges; documents = own_styles_documents }
