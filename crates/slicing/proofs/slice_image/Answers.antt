use Rattle.lent.specs.Lent.{lent}
use Rattle.slicing.specs.Ways.{image_runs, image_steps, no_image}
use Rattle.slicing.specs.Slicing.{slice_image}
use Rattle.slicing.proofs.slice_image.Goals as goal

pub returns-then-steps_fit : goal.returns-then-steps_fit
returns-then-steps_fit c = lent {x = slice_image _ _ _ _} (search image_runs)

pub returns-then-resumable : goal.returns-then-resumable
returns-then-resumable c = lent {x = slice_image _ _ _ _} (search image_steps)

pub returns : goal.returns
returns c = lent {x = slice_image _ _ _ _} (search no_image)
