use Rattle.readers.specs.Places.{path_is, name_is, rule_is, net_is, node_is, list_is}
use Rattle.readers.proofs.part_end.Goals as goal

pub returns-in-Path : goal.returns-in-Path
returns-in-Path c = search path_is

pub returns-in-Name : goal.returns-in-Name
returns-in-Name c = search name_is

pub returns-in-Rule : goal.returns-in-Rule
returns-in-Rule c = search rule_is

pub returns-in-Net : goal.returns-in-Net
returns-in-Net c = search net_is

pub returns-in-Node : goal.returns-in-Node
returns-in-Node c = search node_is

pub returns-in-PathList : goal.returns-in-PathList
returns-in-PathList c = search list_is
