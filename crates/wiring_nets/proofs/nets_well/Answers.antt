use Rattle.wiring_nets.specs.Told.{nets_over, nets_all, nets_not, nets_left}
use Rattle.wiring_nets.proofs.nets_well.Goals as goal

pub returns-then-n-gt256 : goal.returns-then-n-gt256
returns-then-n-gt256 g c = nets_over _ _ _ _ c.if-n-gt256.true

pub returns-in-Well : goal.returns-in-Well
returns-in-Well g c = nets_all _ _ _ _ _ c.if-n-gt256.false c.nets_told_by.ensures c.in-Well.is

pub returns-in-Not : goal.returns-in-Not
returns-in-Not g c = nets_not _ _ _ _ _ c.if-n-gt256.false c.nets_told_by.ensures c.in-Not.is

pub returns-in-Wide : goal.returns-in-Wide
returns-in-Wide g c = nets_left _ _ _ _ _ c.if-n-gt256.false c.nets_told_by.ensures _ _ c.in-Wide.is c.nets_wide.ensures
