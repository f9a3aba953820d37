use Rattle.style_reach.proofs.AuthorLaws.{sheets-stay}
use Rattle.style_reach.proofs.UntouchedLaws.{document-styles-stay, styles-stay}
use Rattle.style_reach.proofs.laws.untouched_elements_keep_their_styles.Goals as goal

pub returns : goal.returns
returns c = record { styles = styles-stay; sheets = sheets-stay; document = document-styles-stay }
