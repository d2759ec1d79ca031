use Rattle.std.proofs.Common.{arith, rules}
use native.Mathlib.Nat.{sub-zero}
use Rattle.edits.specs.Edits.{finish_edit_words}
use Rattle.edits.specs.Ways.{remove_more, remove_done}
use Rattle.edits.proofs.finish_edit.Goals as goal

pub loop-i-init : goal.loop-i-init
unfolding finish_edit_words
loop-i-init c = (rw sub-zero (cc), search rules)

pub loop-i-preserved : goal.loop-i-preserved
loop-i-preserved c = (search remove_more, omega arith)

pub returns : goal.returns
returns c = search remove_done
