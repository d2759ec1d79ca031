use Rattle.wiring.specs.Fits.{fits_is}
use Rattle.wiring.proofs.fits.Goals as goal

pub returns : goal.returns
returns c = search fits_is
