use Rattle.surroundings.proofs.Fits.{fits_document}
use Rattle.surroundings.proofs.laws.documents_fit.Goals as goal

pub returns : goal.returns
returns c = record { fit = fits_document }
