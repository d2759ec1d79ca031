use Rattle.pruning.specs.Ways.{result_written}
use Rattle.pruning.proofs.write_result.Goals as goal

pub returns : goal.returns
returns c = search result_written
