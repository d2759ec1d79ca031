use Rattle.readers.specs.Places.{byte_after}
use Rattle.net_readers.proofs.aux_count.Goals as goal

pub returns : goal.returns
returns c = search byte_after
