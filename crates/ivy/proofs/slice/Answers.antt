use Rattle.ivy.proofs.slice.Goals as goal

pub returns : goal.returns
returns c = c.slice.ensures
