use Rattle.graft.specs.Graft.{copied_free}
use Rattle.graft.proofs.copied_free.Goals as goal

pub returns : goal.returns
unfolding copied_free
returns c = cc
