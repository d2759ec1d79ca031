use Rattle.std.proofs.Common.{refl, arith}
use Rattle.orders.specs.Orders.{pair_fits}
use Rattle.words.specs.Choose.{lt_yes, lt_no, pick_true, pick_false}
use Rattle.orders.proofs.pair_fits.Goals as goal

pub returns-then-a-last : goal.returns-then-a-last
unfolding pair_fits
returns-then-a-last c = lt_yes _ _ _ _ (omega arith) refl

pub returns-then-b-a : goal.returns-then-b-a
unfolding pair_fits
returns-then-b-a c = lt_no _ _ _ _ (omega arith) (lt_no _ _ _ _ (omega arith) refl)

pub returns-then-marked : goal.returns-then-marked
unfolding pair_fits
returns-then-marked c = lt_no _ _ _ _ (omega arith) (lt_yes _ _ _ _ (omega arith) (pick_true _ _ _ (cc) refl))

pub returns-then-marked-2 : goal.returns-then-marked-2
unfolding pair_fits
returns-then-marked-2 c = lt_no _ _ _ _ (omega arith) (lt_yes _ _ _ _ (omega arith) (pick_false _ _ _ (cc) (pick_true _ _ _ (cc) refl)))

pub returns : goal.returns
unfolding pair_fits
returns c = lt_no _ _ _ _ (omega arith) (lt_yes _ _ _ _ (omega arith) (pick_false _ _ _ (cc) (pick_false _ _ _ (cc) refl)))
