use Rattle.tables.specs.Steps.{tables_rules, tables_all}
use Rattle.tables.proofs.tables.Goals as goal

pub returns-in_err-q : goal.returns-in_err-q
returns-in_err-q c =
    let paths = c.in_ok-m.was in
    let names = c.in_ok-r.was in
    let rules = c.in_err-q.was in
    rw c.from_residual-in_err-q.ensures (search tables_rules)

pub returns : goal.returns
returns c =
    let paths = c.in_ok-m.was in
    let names = c.in_ok-r.was in
    let rules = c.in_ok-q.was in
    search tables_all
