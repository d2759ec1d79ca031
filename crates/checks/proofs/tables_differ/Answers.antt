use Rattle.checks.specs.Checks.{tables_on, tables_same}
use Rattle.checks.proofs.tables_differ.Goals as goal

pub returns-then-differ : goal.returns-then-differ
returns-then-differ c = search tables_on

pub returns : goal.returns
returns c = search tables_same
