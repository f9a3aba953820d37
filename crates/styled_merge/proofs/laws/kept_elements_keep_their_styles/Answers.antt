use Rattle.styled_merge.proofs.LawLemmas.{documents_style_merges, kept_have_same_styles, sheets_style_merges}
use Rattle.styled_merge.proofs.laws.kept_elements_keep_their_styles.Goals as goal

pub returns : goal.returns
returns c = record { styles = kept_have_same_styles; sheets = sheets_style_merges; documents = documents_style_merges }
