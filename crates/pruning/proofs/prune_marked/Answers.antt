use Rattle.std.proofs.Common.{arith}
use Rattle.pruning.specs.Ways.{full_is, full_left, done_is, done_left}
use Rattle.pruning.proofs.prune_marked.Goals as goal

pub returns-then-out-length : goal.returns-then-out-length
returns-then-out-length c = (search full_is, search full_left)

pub returns : goal.returns
returns c = (
  done_is _ _ _ _ _ _ _ _ _ c.args.out.now c.net_count_at-q.ensures c.be16-n.ensures c.on.ensures c.count_kept-c.ensures c.write_result-length.ensures _ _ c.if-out-length.false (omega arith) c.write_result.ensures,
  done_left _ _ _ _ _ _ _ _ _ c.args.out.now c.net_count_at-q.ensures c.be16-n.ensures c.on.ensures c.count_kept-c.ensures c.write_result-length.ensures _ _ c.if-out-length.false (omega arith) c.write_result.ensures,
)
