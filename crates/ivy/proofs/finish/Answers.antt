use Rattle.ivy.proofs.finish.Goals as goal

pub returns : goal.returns
returns c = c.finish.ensures
