use Rattle.words.specs.Choose.{if_eq, pick_true, pick_false}
use Rattle.graph.specs.Graph.{link}
use Rattle.graph.proofs.link.Goals as goal

pub returns-then-eq : goal.returns-then-eq
unfolding link if_eq
returns-then-eq c = pick_true _ _ _ (cc) (cc)

pub returns : goal.returns
unfolding link if_eq
returns c = pick_false _ _ _ (cc) (cc)
