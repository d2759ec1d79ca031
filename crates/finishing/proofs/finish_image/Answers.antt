use Rattle.finishing.specs.Ways.{image_delivered, no_image}
use Rattle.finishing.specs.Finishing.{four}
use Rattle.finishing.specs.Finishing as Spec
use Rattle.finishing.proofs.finish_image.Goals as goal

pub returns-then-resumable : goal.returns-then-resumable
returns-then-resumable c = four {x = Spec.finish_image _ _ _ _} (search image_delivered)

pub returns : goal.returns
returns c = four {x = Spec.finish_image _ _ _ _} (search no_image)
