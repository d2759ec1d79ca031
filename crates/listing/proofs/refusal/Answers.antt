use Rattle.listing.specs.Nets.{refused_written}
use Rattle.listing.proofs.refusal.Goals as goal

pub returns : goal.returns
returns c = search refused_written
