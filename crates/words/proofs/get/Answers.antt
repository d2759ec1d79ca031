use lib.ListN.{get_or-eq_default}
use mathlib.Core.Path.{sym}
use Rattle.words.proofs.get.Goals as goal

pub returns-else-i-ws : goal.returns-else-i-ws
returns-else-i-ws c = rw (get_or-eq_default, c.if-i-ws.false)
