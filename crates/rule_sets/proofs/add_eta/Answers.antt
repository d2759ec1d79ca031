use Rattle.rule_sets.specs.Steps.{eta_is}
use Rattle.rule_sets.proofs.add_eta.Goals as goal

pub returns : goal.returns
returns c =
    eta_is _ _ _ _ _ _ _ _ _ _ _ c.list_end-values.ensures c.list_end-nils.ensures c.add_list.ensures c.add_list-2.ensures c.add_list-3.ensures
    c.add_list-4.ensures
