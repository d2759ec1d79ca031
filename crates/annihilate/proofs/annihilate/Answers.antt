use Rattle.words.specs.Left.{left}
use Rattle.annihilate.specs.Ways.{passes_names, passes_ports, annihilate_acts}
use Rattle.annihilate.specs.Annihilate.{annihilate}
use Rattle.annihilate.proofs.annihilate.Goals as goal

pub returns-then-k-arity : goal.returns-then-k-arity
returns-then-k-arity c = left {x = annihilate _ _ _ _} (search annihilate_acts)

pub returns-then-alike : goal.returns-then-alike
returns-then-alike c = left {x = annihilate _ _ _ _} (passes_ports _ _ _ _ _ _ _ c.alike.ensures c.if-alike.true c.arity-k.ensures c.arity.ensures c.if-k-arity.false)

pub returns : goal.returns
returns c = left {x = annihilate _ _ _ _} (search passes_names)
