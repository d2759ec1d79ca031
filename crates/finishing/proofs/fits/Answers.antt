use Rattle.finishing.specs.Ways.{fits_by_bytes, fits_not}
use Rattle.finishing.proofs.fits.Goals as goal

pub returns-then-size-le4096 : goal.returns-then-size-le4096
returns-then-size-le4096 c = search fits_by_bytes

pub returns : goal.returns
returns c = search fits_not
