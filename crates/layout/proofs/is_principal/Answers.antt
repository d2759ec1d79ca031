use Rattle.std.proofs.Common.{rules}
use Rattle.layout.specs.Layout.{is_principal_words}
use Rattle.layout.proofs.is_principal.Goals as goal

pub returns : goal.returns
unfolding is_principal_words
returns c = search rules
