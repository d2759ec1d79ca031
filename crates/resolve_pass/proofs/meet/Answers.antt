use Rattle.resolve_pass.specs.Ways.{meet_hangs, meet_links}
use Rattle.resolve_pass.specs.Pass.{meet}
use Rattle.words.specs.Left.{left}
use Rattle.resolve_pass.proofs.meet.Goals as goal

pub returns-then-u-eq0 : goal.returns-then-u-eq0
returns-then-u-eq0 c = left {x = meet _ _ _ _} (search meet_hangs)

pub returns : goal.returns
returns c = left {x = meet _ _ _ _} (search meet_links)
