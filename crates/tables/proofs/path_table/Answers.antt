use Rattle.std.proofs.Common.{◌<◌, arith}
use Rattle.tables.specs.Tables.{path_table_many, path_table_on}
use Rattle.tables.proofs.path_table.Goals as goal

pub returns-then-others-gt255 : goal.returns-then-others-gt255
returns-then-others-gt255 c =
    let count : c.be16-n.result < 65536 = omega arith in
    let paths = c.in_ok-m.was in
    search path_table_many

pub returns : goal.returns
returns c =
    let count : c.be16-n.result < 65536 = omega arith in
    let paths = c.in_ok-m.was in
    search path_table_on
