use Rattle.put.specs.Fields.{number}
use Rattle.put.proofs.put64.Goals as goal

pub returns : goal.returns
returns c = number 8 c.args.v c.to_be_bytes.ensures c.put_all.ensures
