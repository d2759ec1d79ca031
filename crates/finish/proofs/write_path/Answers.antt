use Rattle.finish.specs.Ways.{path_written}
use Rattle.finish.specs.Finish.{write_path_words}
use Rattle.finish.proofs.write_path.Goals as goal

pub returns : goal.returns
unfolding write_path_words
returns c = (cc, search path_written)
