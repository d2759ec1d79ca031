use Rattle.resolve_walk.specs.Ways.{resume_own, resume_on, resume_deep}
use Rattle.resolve_walk.proofs.resume.Goals as goal

pub returns-then-led-eq0 : goal.returns-then-led-eq0
returns-then-led-eq0 c = search resume_own

pub returns : goal.returns
returns c = search (resume_on, c.in_ok-pen.was)

pub returns-in_err-pen : goal.returns-in_err-pen
returns-in_err-pen c = rw c.from_residual.ensures (search (resume_deep, c.in_err-pen.was))
