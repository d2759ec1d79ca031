use Rattle.std.proofs.Common.{◌∙◌, arith, refl}
use Rattle.words.specs.Choose.{lt_no}
use Rattle.repeats.specs.Repeats as spec
use Rattle.repeats.specs.Steps.{known_is}
use Rattle.repeats.proofs.known.Goals as goal

pub returns-then-m-p : goal.returns-then-m-p
unfolding spec.known
returns-then-m-p c = lt_no _ _ _ _ (omega arith) refl

pub returns : goal.returns
returns c = c.is_eq.ensures ∙ known_is _ _ _ _ _ _ _ _ c.if-m-p.false c.entry.ensures c.compare.ensures
