use Rattle.lists.specs.Lists.{tighten_dirty_words}
use Rattle.lists.proofs.tighten_dirty.Goals as goal

pub returns : goal.returns
unfolding tighten_dirty_words
returns c = cc
