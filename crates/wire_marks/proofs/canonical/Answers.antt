use Rattle.wire_marks.specs.Marks.{canon_marked, canon_plain}
use Rattle.wire_marks.proofs.canonical.Goals as goal

pub returns-then-v-stamp : goal.returns-then-v-stamp
returns-then-v-stamp c = search canon_marked

pub returns : goal.returns
returns c = search canon_plain
