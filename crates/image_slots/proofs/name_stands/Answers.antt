use Rattle.std.proofs.Common.{◌∙◌}
use Rattle.image_slots.specs.Ways.{name_told}
use Rattle.image_slots.proofs.name_stands.Goals as goal

pub returns : goal.returns
returns c = c.is_some.ensures ∙ search name_told
