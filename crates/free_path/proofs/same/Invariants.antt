use Rattle.std.proofs.Common.{length, ◌≡◌}
use Rattle.free_path.specs.FreePath.{same_from}
use Rattle.stored.specs.Stored.{bytes_at}
use Rattle.net_file.specs.Lists.{eqs}
use Rattle.free_path.proofs.same.Given as goal

abbrev pub invariant-loop-b : goal.invariant-loop-b
invariant-loop-b l = same_from l.s l.at l.t l.b-index ≡ eqs l.t (bytes_at l.s l.from (length l.t))
