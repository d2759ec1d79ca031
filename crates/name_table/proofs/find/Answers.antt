use Rattle.name_table.specs.Steps.{find_there, find_none}
use Rattle.name_table.proofs.find.Goals as goal

pub returns-then-known : goal.returns-then-known
returns-then-known c = search find_there

pub returns : goal.returns
returns c = search find_none
