use Rattle.rule_sets.specs.Steps.{rule_graft, rule_annihilate, rule_erase, rule_commute, rule_eta}
use Rattle.rule_sets.proofs.add_rule.Goals as goal

pub returns-in-1 : goal.returns-in-1
returns-in-1 c = search rule_graft

pub returns-in-2 : goal.returns-in-2
returns-in-2 c = search rule_annihilate

pub returns-in-3 : goal.returns-in-3
returns-in-3 c = search rule_erase

pub returns-in-4 : goal.returns-in-4
returns-in-4 c = search rule_commute

pub returns-in_default : goal.returns-in_default
returns-in_default c = search rule_eta
