use Rattle.std.proofs.Common.{ap, ◌∙◌}
use Rattle.std.specs.Prelude.{is_ok}
use Rattle.image.specs.Image.{file_holds}
use Rattle.image.proofs.file_holds.Goals as goal

pub returns : goal.returns
unfolding file_holds
returns c = c.is_ok.ensures.value ∙ ap is_ok c.check_flat.ensures.is
