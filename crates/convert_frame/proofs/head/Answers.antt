use Rattle.convert_frame.specs.Head.{head_written}
use Rattle.convert_frame.proofs.head.Goals as goal

pub returns : goal.returns
returns c = search head_written
