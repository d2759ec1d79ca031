use Rattle.wiring_nets.specs.Told.{wide_over, wide_well, wide_rest}
use Rattle.wiring_nets.proofs.nets_wide.Goals as goal

pub returns-then-n-gt256 : goal.returns-then-n-gt256
returns-then-n-gt256 g c = wide_over _ _ _ _ c.if-n-gt256.true

pub returns-in-Well : goal.returns-in-Well
returns-in-Well g c = wide_well _ _ _ _ _ c.if-n-gt256.false c.nets_told_by.ensures c.in-Well.is

pub returns-in_default : goal.returns-in_default
returns-in_default g c = wide_rest _ _ _ _ _ c.if-n-gt256.false c.nets_told_by.ensures c.in_default.not-Well
