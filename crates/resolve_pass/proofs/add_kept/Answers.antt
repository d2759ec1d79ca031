use Rattle.resolve_pass.specs.Pass.{add_kept}
use Rattle.resolve_pass.proofs.add_kept.Goals as goal

pub returns : goal.returns
unfolding add_kept
returns c = (cc, cc)
