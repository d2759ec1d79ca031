use Rattle.std.proofs.Common.{◌∙◌}
use Rattle.put.specs.Fields.{be_bytes}
use Rattle.field_writers.specs.Fields.{two_bytes}
use Rattle.field_writers.proofs.two.Goals as goal

pub returns : goal.returns
returns c = two_bytes c.args.at c.args.v _ _ _ _ _ _ (c.to_be_bytes-b.ensures ∙ be_bytes 2 c.args.v) c.byte-p.ensures c.byte.ensures
