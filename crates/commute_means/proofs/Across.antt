-- Commute's second half on the words: the copies of a come one by one, each linked with an aux port of b and with its column of the grid.
use Prim.Native.Nat.{ℕ, zero, suc, ◌+◌, ◌-◌, ◌<◌, ◌≤◌}
use Rattle.std.specs.Prelude.{◌≡◌, List, ◌++◌, map, length, get_or}
use Rattle.std.proofs.Math.Path.{refl}
use Rattle.std.proofs.Common.{sym, subst}
use native.Mathlib.Omega.{arith}
use Rattle.words.specs.Left.{Left}
use Rattle.layout.specs.Layout.{next, principal}
use Rattle.graph.specs.Graph as Words
use Rattle.edits.specs.declared.Placed.{Placed}
use Rattle.edits.specs.Edits.{on_placed, insert_node}
use Rattle.tried.specs.declared.Tried.{Tried}
use Rattle.tried.specs.declared.Tried.TheVariants.{Refused}
use Rattle.layout.specs.declared.Port as Numbers
use Rattle.commute.specs.declared.Side.{Side}
use Rattle.commute.specs.Commute.{link_column, copy_across}
use Rattle.net_file.specs.Lists.{Result, ok, refuse, concat_map}
use Rattle.net_file.specs.Values.{Name}
use Rattle.definitions.specs.Lists.{◌>>=◌, each, from, up_to}
use Rattle.definitions.specs.Nets.{Port, Node, Graph, port}
use Rattle.definitions.specs.Scripts.{Edit, Insert, Join, fill, join, apply}
use Rattle.definitions.specs.State.{Engine}
use Rattle.definitions.specs.Books.{link, edit}
use Rattle.script_laws.specs.Safe.{With, Safe}
use Rattle.rule_laws.specs.Columns.{column}
use Rattle.means.specs.Means.{number}
use Rattle.script_means.specs.Stage.{Stage, number_aux, number_first, number_principal, stage_join}
use Rattle.script_means.specs.Inserts.{Inserts, stage_insert}
use Rattle.script_means.specs.Tries.{Came}
use Rattle.commute_means.specs.Grid.{Rows}
use Rattle.commute_means.specs.Across.{N, cols, J, column_came, side}

module _ (Named : ℕ → Name → Type 0) (x : ℕ → ℕ) (small : (k : ℕ) → x k ≤ 4294900000) (M : ℕ) (chain : List ℕ) (default : ℕ → ℕ) (l : List ℕ) (F Z : Port → Type 0)
    (b m c : ℕ) (low_b : b < 4096) (few_m : m ≤ 15) (few_c : c ≤ 15) (grid : List (List ℕ)) (rows : Rows (λ k. get_or chain k (default k)) grid m) where
  module _ (y : Node) (name : ℕ) (aux : Numbers.Port) (size_is : next m ≡ length y.ports) (below : y.net < M) (named : Named name y.name) (most : length y.ports ≤ 16) where
    -- copies of a for n aux ports of b from the j-th on
    pub copy_across_came : (n j : ℕ) → j + n ≤ c → (g : Graph) (ws : List ℕ) (e : Engine) (U : Port → Type 0) → Stage Named x M chain l (m + j) g ws e
        → Safe F g U (concat_map (column b m c (N Named x small M chain default l F Z b m c low_b few_m few_c grid rows) (cols Named x small M chain default l F Z b m c low_b few_m few_c grid rows) y) (from j n)) Z
        → Came Named l (copy_across ws (side Named x small M chain default l F Z b m c low_b few_m few_c grid rows y name aux size_is below named most) grid (number (port b (1 + j))) j n) (each edit (concat_map (column b m c (N Named x small M chain default l F Z b m c low_b few_m few_c grid rows) (cols Named x small M chain default l F Z b m c low_b few_m few_c grid rows) y) (from j n)) e)
    unfolding copy_across edit apply on_placed
    copy_across_came zero j h g ws e U s t = (refl, s.means, s.dead)
    copy_across_came (suc n) j h g ws e U s t =
        go (edit (Insert ((cols Named x small M chain default l F Z b m c low_b few_m few_c grid rows) j) y) e) (subst (λ (k : ℕ). Inserts Named x M chain l (m + j) g ((cols Named x small M chain default l F Z b m c low_b few_m few_c grid rows) j) y (insert_node ws (y.net + 1) name k) (edit (Insert ((cols Named x small M chain default l F Z b m c low_b few_m few_c grid rows) j) y) e)) (sym size_is)
        (stage_insert Named x small M chain default l (m + j) g ws e s F ((cols Named x small M chain default l F Z b m c low_b few_m few_c grid rows) j) y name t.0 refl below named most))
        (λ g' ws' e' U' s' t'. copy_across_came n (suc j) (omega arith) g' ws' e' U' s' t')
      where
        new : Left Placed
        new = insert_node ws (y.net + 1) name (next m)

        rest : List Edit
        rest = concat_map (column b m c (N Named x small M chain default l F Z b m c low_b few_m few_c grid rows) (cols Named x small M chain default l F Z b m c low_b few_m few_c grid rows) y) (from (suc j) n)

        go : (r : Result Engine) → Inserts Named x M chain l (m + j) g ((cols Named x small M chain default l F Z b m c low_b few_m few_c grid rows) j) y new r
            → ((g' : Graph) (ws' : List ℕ) (e' : Engine) (U' : Port → Type 0) → Stage Named x M chain l (m + suc j) g' ws' e' → Safe F g' U' rest Z
            → Came Named l (copy_across ws' (side Named x small M chain default l F Z b m c low_b few_m few_c grid rows y name aux size_is below named most) grid (number (port b (1 + suc j))) (suc j) n) (each edit rest e'))
            → Came Named l (on_placed {A = Left Tried} new.is
            (λ i. copy_across (link_column (Words.link new.ws (number (port b (1 + j))) (principal i)) grid (next (principal i)) j 0 m) (side Named x small M chain default l F Z b m c low_b few_m few_c grid rows y name aux size_is below named most) grid (next (number (port b (1 + j)))) (j + 1) n)
            (λ r. record { is = Refused r; ws = new.ws }))
            (r >>= λ e'. each edit (map ((J Named x small M chain default l F Z b m c low_b few_m few_c grid rows) j) (up_to m) ++ rest) (link (port b (1 + j)) (port ((cols Named x small M chain default l F Z b m c low_b few_m few_c grid rows) j) 0) e'))
        go (ok e') d ih =
            let p = port b (1 + j) in
            let q = port ((cols Named x small M chain default l F Z b m c low_b few_m few_c grid rows) j) 0 in
            let next_j : j + 1 ≡ suc j = omega arith in
            rw (d.0, number_first ((cols Named x small M chain default l F Z b m c low_b few_m few_c grid rows) j) d.2, number_principal ((cols Named x small M chain default l F Z b m c low_b few_m few_c grid rows) j) d.2, number_aux b j low_b (omega arith), next_j)
            ((column_came Named x small M chain default l F Z b m c low_b few_m few_c grid rows) m 0 j (suc (m + j)) (omega arith) (omega arith) d.2 (join (fill g ((cols Named x small M chain default l F Z b m c low_b few_m few_c grid rows) j) y) p q) (Words.link new.ws (number p) (number q)) (link p q e') (With U p q) rest
            (λ (w : List ℕ). copy_across w (side Named x small M chain default l F Z b m c low_b few_m few_c grid rows y name aux size_is below named most) grid (number (port b (1 + suc j))) (suc j) n)
            (stage_join Named x small M chain default l (suc (m + j)) (fill g ((cols Named x small M chain default l F Z b m c low_b few_m few_c grid rows) j) y) new.ws e' d.1 U p q t.1.0) t.1.1
            (λ g' ws' e'' U' s' t'. ih g' ws' e'' U' (subst (λ (k : ℕ). Stage Named x M chain l k g' ws' e'') (omega arith) s') t'))
        go (refuse c) d ih = rw d refl
