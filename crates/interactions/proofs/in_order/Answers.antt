use Rattle.words.specs.Left.{left}
use Rattle.interactions.specs.Ways.{order_straight, order_flipped}
use Rattle.interactions.specs.Interactions.{in_order}
use Rattle.interactions.proofs.in_order.Goals as goal

pub returns-then-stands_first : goal.returns-then-stands_first
returns-then-stands_first c = left {x = in_order _ _ _ _} (search order_straight)

pub returns : goal.returns
returns c = left {x = in_order _ _ _ _} (search order_flipped)
