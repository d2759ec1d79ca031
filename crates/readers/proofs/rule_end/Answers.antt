use Rattle.readers.specs.Places.{rule_none, rule_graft, rule_one, rule_two, rule_three}
use Rattle.readers.proofs.rule_end.Goals as goal

pub returns-then-tag-eq0 : goal.returns-then-tag-eq0
returns-then-tag-eq0 c = search rule_none

pub returns-then-tag-eq1 : goal.returns-then-tag-eq1
returns-then-tag-eq1 c = search rule_graft

pub returns-then-tag-eq2 : goal.returns-then-tag-eq2
returns-then-tag-eq2 c = search rule_one

pub returns-then-tag-lt5 : goal.returns-then-tag-lt5
returns-then-tag-lt5 c = search rule_two

pub returns : goal.returns
returns c = search rule_three
