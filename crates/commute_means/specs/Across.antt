-- Commute's second half on the words: the copies of a come one by one, each linked with an aux port of b and with its column of the grid.
use Prim.Native.Nat.{ℕ, zero, suc, ◌+◌, ◌-◌, ◌<◌, ◌≤◌}
use Rattle.std.specs.Prelude.{◌≡◌, List, ◌++◌, map, length, get_or}
use Rattle.std.proofs.Math.Path.{refl}
use Rattle.std.proofs.Common.{sym, subst}
use native.Mathlib.Omega.{arith}
use Rattle.words.specs.Left.{Left}
use Rattle.layout.specs.Layout.{next, principal}
use Rattle.graph.specs.Graph as Words
use Rattle.edits.specs.declared.Placed.{Placed}
use Rattle.edits.specs.Edits.{on_placed, insert_node}
use Rattle.tried.specs.declared.Tried.{Tried}
use Rattle.tried.specs.declared.Tried.TheVariants.{Refused}
use Rattle.layout.specs.declared.Port as Numbers
use Rattle.commute.specs.declared.Side.{Side}
use Rattle.commute.specs.Commute.{link_column, copy_across}
use Rattle.net_file.specs.Lists.{Result, ok, refuse, concat_map}
use Rattle.net_file.specs.Values.{Name}
use Rattle.definitions.specs.Lists.{◌>>=◌, each, from, up_to}
use Rattle.definitions.specs.Nets.{Port, Node, Graph, port}
use Rattle.definitions.specs.Scripts.{Edit, Insert, Join, fill, join, apply}
use Rattle.definitions.specs.State.{Engine}
use Rattle.definitions.specs.Books.{link, edit}
use Rattle.script_laws.specs.Safe.{With, Safe}
use Rattle.rule_laws.specs.Columns.{column}
use Rattle.means.specs.Means.{number}
use Rattle.script_means.specs.Stage.{Stage, number_aux, number_first, number_principal, stage_join}
use Rattle.script_means.specs.Inserts.{Inserts, stage_insert}
use Rattle.script_means.specs.Tries.{Came}
use Rattle.commute_means.specs.Grid.{Rows}

module _ (Named : ℕ → Name → Type 0) (x : ℕ → ℕ) (small : (k : ℕ) → x k ≤ 4294900000) (M : ℕ) (chain : List ℕ) (default : ℕ → ℕ) (l : List ℕ) (F Z : Port → Type 0)
    (b m c : ℕ) (low_b : b < 4096) (few_m : m ≤ 15) (few_c : c ≤ 15) (grid : List (List ℕ)) (rows : Rows (λ k. get_or chain k (default k)) grid m) where
  -- the number of the k-th new node
  abbrev pub N : ℕ → ℕ
  N k = get_or chain k (default k)

  -- the j-th copy of a
  abbrev pub cols : ℕ → ℕ
  cols j = N (m + j)

  -- its aux port i, with that of the i-th copy of b
  abbrev pub J : ℕ → ℕ → Edit
  J j i = Join (port (cols j) (1 + i)) (port (N i) (1 + j))

  -- n aux ports from i on are linked, then what follows
  pub column_came : (n i j k : ℕ) → i + n ≤ m → j < 15 → cols j < 4096 → (g : Graph) (ws : List ℕ) (e : Engine) (U : Port → Type 0) (ds : List Edit) (f : List ℕ → Left Tried)
      → Stage Named x M chain l k g ws e → Safe F g U (map (J j) (from i n) ++ ds) Z
      → ((g' : Graph) (ws' : List ℕ) (e' : Engine) (U' : Port → Type 0) → Stage Named x M chain l k g' ws' e' → Safe F g' U' ds Z → Came Named l (f ws') (each edit ds e'))
      → Came Named l (f (link_column ws grid (number (port (cols j) (1 + i))) j i n)) (each edit (map (J j) (from i n) ++ ds) e)
  unfolding link_column edit apply
  column_came zero i j k h hj low g ws e U ds f s t then = then g ws e U s t
  column_came (suc n) i j k h hj low g ws e U ds f s t then =
      let next_i : i + 1 ≡ suc i = omega arith in
      rw (rows.at i j (omega arith) hj, number_aux (cols j) i low (omega arith), next_i)
      (column_came n (suc i) j k (omega arith) hj low (join g (port (cols j) (1 + i)) (port (N i) (1 + j))) (Words.link ws (number (port (cols j) (1 + i))) (number (port (N i) (1 + j))))
      (link (port (cols j) (1 + i)) (port (N i) (1 + j)) e) (With U (port (cols j) (1 + i)) (port (N i) (1 + j))) ds f
      (stage_join Named x small M chain default l k g ws e s U (port (cols j) (1 + i)) (port (N i) (1 + j)) t.0) t.1 then)

  module _ (y : Node) (name : ℕ) (aux : Numbers.Port) (size_is : next m ≡ length y.ports) (below : y.net < M) (named : Named name y.name) (most : length y.ports ≤ 16) where
    -- what is copied
    abbrev pub side : Side
    side = record { net = record { 0 = y.net + 1 }; name = name; aux = aux; count = m }
