-- At rest every net is well wired, its free node's ports 0 and 1 are wired together, and it keeps its number of free ports.
use Rattle.std.proofs.Math.Path.{◌≡◌, ap}
use Rattle.std.specs.Prelude.{refl, ◌≢◌, ◌⊎◌, ℕ, zero, suc, ◌+◌, ◌<◌, Bool, true, false, eqb}
use Rattle.std.proofs.Common.{sym, ◌∙◌, subst, inl, inr, arith, true≢false}
use Rattle.std.proofs.Math.Option.{Option, none, some, some-injective}
use mathlib.Core.List.Memᴰ
use mathlib.Core.List.{List, [], ◌∷◌, Memᴰ}
use Rattle.net_file.specs.Values.{Name, Rule, graft, annihilate, erase, commute, eta}
use Rattle.definitions.specs.Lists.{or_else, is_some, nth, place}
use Rattle.definitions.specs.Nets.{Port, Graph, Home, port, at, filled, holds, name_of, arity, across}
use Rattle.definitions.specs.Scripts.{Script, apply_script}
use Rattle.definitions.specs.Rules.{graft_script, interact}
use Rattle.definitions.specs.Step.{rewrites, Fresh, NodesOf, Acts, interacts, reduces, grafts, Step}
use Rattle.join_laws.specs.Ports.{Frame, no_frame, in_net, frame, arity_same, name_same, name_frame, filled_frame, holds_same, holds_frame, across_real}
use Rattle.script_laws.specs.Tidy.{WellWired}
use Rattle.rule_laws.specs.Places.{one_of_two, not_fresh, Ported, Clean}
use Rattle.rule_laws.proofs.Annihilate.{annihilate_clean}
use Rattle.rule_laws.proofs.Erase.{erase_clean}
use Rattle.rule_laws.proofs.Commute.{commute_clean}
use Rattle.rule_laws.specs.Eta.{eta_clean}
use Rattle.rule_laws.proofs.Graft.{graft_clean}
use Rattle.graph_laws.specs.Dead.{interact_dead, Goes, eta_dead}
use Rattle.graph_laws.specs.Rest.{Rest, Unnamed, FreeKept, acts_rest}

-- `wired`: a step leaves every net well wired, its free node's ports 0 and 1 wired together
pub step_wired : (rules : List Rule) (homes : List Home) (path : ℕ) → Unnamed path rules → (g h : Graph) → Rest path homes g → Step rules homes g h → Rest path homes h
step_wired rules homes path u g h r s = subst (Rest path homes) (sym s.done) (acts_rest rules homes path u g r s.fresh s.is_fresh s.copied s.script s.acts).0

-- `free-kept`: and with as many free ports as it had
pub step_free_kept : (rules : List Rule) (homes : List Home) (path : ℕ) → Unnamed path rules → (g h : Graph) → Rest path homes g → Step rules homes g h → FreeKept homes g h
step_free_kept rules homes path u g h r s = subst (FreeKept homes g) (sym s.done) (acts_rest rules homes path u g r s.fresh s.is_fresh s.copied s.script s.acts).1
