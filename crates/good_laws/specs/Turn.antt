-- A turn keeps the books.
use Rattle.std.specs.Prelude.{ℕ, ◌-◌, ◌≡◌, Bool, true, false, List, [], ◌∷◌, ◌++◌, get_or}
use Rattle.std.proofs.Math.Path.{refl}
use Rattle.std.proofs.Common.{sym, subst, arith}
use Rattle.std.proofs.Math.Option.{Option, none, some}
use Rattle.net_file.specs.Lists.{Result, ok}
use Rattle.definitions.specs.Lists.{◌>>=◌, is_some}
use Rattle.definitions.specs.Nets.{at}
use Rattle.definitions.specs.State.{Engine, graph_of, with_slots, with_dirty, with_mark, with_stale, net_at}
use Rattle.definitions.specs.Books.{is_dirty}
use Rattle.definitions.specs.Visit.{Visited, passed, visit}
use Rattle.definitions.specs.Run.{leave, turn, with_items}
use Rattle.engine_laws.specs.Frame.{body}
use Rattle.good_laws.specs.Owners.{owners, net_of}
use Rattle.good_laws.specs.Good.{Good, bump, rest}
use Rattle.good_laws.specs.Idle.{Idle}
use Rattle.good_laws.specs.Scripts.{Visits}
use Rattle.good_laws.specs.Turned.{taken_good, dropped_good}
use Rattle.good_laws.specs.Sound.{Condition, Sound, Kept, visiting, visit_fine}

pub is_some_lem : {A : Type 0} (o : Option A) → is_some o ≡ true → (a : A) × (o ≡ some a)
is_some_lem none h = absurd (let z : ◌≡◌ {A = ℕ} 0 1 = cc in omega arith)
is_some_lem (some a) h = (a, refl)
