use Rattle.std.proofs.Common.{sym, rules}
use Rattle.marks.specs.Marks.{mark}
use lib.Seq.{set_out}
use Rattle.marks.proofs.mark.Goals as goal

pub returns-then-i-marks : goal.returns-then-i-marks
unfolding mark
returns-then-i-marks c = search rules

pub returns-else-i-marks : goal.returns-else-i-marks
unfolding mark
returns-else-i-marks c = sym (set_out _ _ _ c.if-i-marks.false)
