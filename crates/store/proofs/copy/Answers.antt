use Rattle.store.specs.Store.{copy_past, copy_none, copy_is}
use Rattle.store.proofs.copy.Goals as goal

pub returns-then-s-to : goal.returns-then-s-to
returns-then-s-to c = search copy_past

pub returns-then-to-from : goal.returns-then-to-from
returns-then-to-from c = search copy_none

pub returns : goal.returns
returns c = search copy_is
