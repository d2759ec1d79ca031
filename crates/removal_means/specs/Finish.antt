-- `finish_edit`: the nodes of the dead list go, in order. The list (`Dead` of crates/script_means) is no part of an engine.
use Rattle.std.specs.Prelude.{ℕ, suc, ◌+◌, ◌<◌, ◌≤◌, ◌≡◌, List, [], ◌∷◌, length, get_or, set}
use Rattle.std.proofs.Common.{sym, ◌∙◌, subst, get_or-set_same}
use Rattle.std.proofs.Math.Option.{Option}
use native.Mathlib.Omega.{arith}
use Rattle.edits.specs.Edits.{remove, remove_dead, remove_all, finish_edit_words}
use Rattle.net_file.specs.Values.{Name}
use Rattle.definitions.specs.State.{Engine, graph_of}
use Rattle.definitions.specs.Books.{remove_node, finish_edit}
use Rattle.good_laws.specs.Owners.{owners}
use Rattle.good_laws.specs.Good.{Good}
use Rattle.good_laws.specs.Removed.{remove_good, remove_owners, AllThere}
use Rattle.means.specs.Means.{Means}
use Rattle.means.specs.Frame.{rest_set}
use Rattle.script_means.specs.Dead.{OutDead, Dead, dead_keep, dead_none, means_dead}
use Rattle.removal_means.specs.Room.{can_remove}
use Rattle.removal_means.specs.Kept.{Kept, remove_kept}

-- what keeps the words keeps the list
pub dead_kept : (ws w dead : List ℕ) → Kept ws w → Dead ws dead → Dead w dead
dead_kept ws w dead r d = dead_keep (λ i h. r.same i (omega arith)) d
