use Rattle.repeats.specs.Steps.{size_path, size_name}
use Rattle.repeats.proofs.item_size.Goals as goal

pub returns-in-Path : goal.returns-in-Path
returns-in-Path c = search size_path

pub returns-in-Name : goal.returns-in-Name
returns-in-Name c = search size_name
