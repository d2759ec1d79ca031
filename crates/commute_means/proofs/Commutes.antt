-- `commute` on words that mean an engine: the copies of both nodes come and are linked crosswise, in the order of the script.
use Prim.Native.Nat.{ℕ, zero, suc, ◌+◌, ◌-◌, ◌<◌, ◌≤◌}
use Rattle.std.specs.Prelude.{◌≡◌, true, List, [], ◌∷◌, ◌++◌, get_or, set}
use Rattle.std.proofs.Math.Path.{refl, sym}
use Rattle.std.proofs.Common.{◌∙◌, subst, arith}
use Rattle.std.proofs.Math.Option.{Option, none, some}
use Rattle.std.proofs.Math.ListN.{length, length-replicate}
use Rattle.words.specs.Choose.{lt_no}
use Rattle.words.specs.Left.{Left}
use Rattle.layout.specs.Layout.{next, less, principal}
use Rattle.layout.specs.declared.Port as Numbers
use Rattle.graph.specs.Graph as Words
use Rattle.edits.specs.declared.Placed.{Placed}
use Rattle.edits.specs.Edits.{on_placed, insert_node}
use Rattle.tried.specs.declared.Tried.{Tried}
use Rattle.tried.specs.declared.Tried.TheVariants.{Refused}
use Rattle.tried.specs.Tries as Word
use Rattle.erase.specs.Erase.{part}
use Rattle.commute.specs.declared.Side.{Side}
use Rattle.commute.specs.Commute.{row, blank, copy_both, aux_count, side_of, commute}
use Rattle.net_file.specs.Lists.{Result, ok, refuse, concat_map}
use Rattle.net_file.specs.Values.{Name}
use Rattle.definitions.specs.Lists.{◌>>=◌, each, from, up_to}
use Rattle.definitions.specs.Nets.{Port, Node, Graph, port, at, name_of, arity, across, filled}
use Rattle.definitions.specs.Scripts.{Edit, Insert, fill, join, cut, apply}
use Rattle.definitions.specs.Rules.{new, hang, commute_script}
use Rattle.definitions.specs.State.{Engine, graph_of, with_graph}
use Rattle.definitions.specs.Books.{link, fresh, edit}
use Rattle.script_laws.specs.Safe.{With, Safe}
use Rattle.script_laws.specs.Loops.{hung}
use Rattle.rule_laws.specs.Columns.{column}
use Rattle.rule_laws.specs.Commute as Law
use Rattle.rule_laws.proofs.Commute as LawProofs
use Rattle.means.specs.Means.{number}
use Rattle.good_means.specs.Room.{net_inside_lem}
use Rattle.script_means.specs.Stage.{Stage, number_aux, number_first, number_principal, stage_join}
use Rattle.script_means.specs.Inserts.{Inserts, stage_insert}
use Rattle.script_means.specs.Tries.{Came, Tries, Between, name_read, arity_read, unless_spent}
use Rattle.erase_means.specs.Part.{good_fresh, pair, low_a, low_b, part_stage}
use Rattle.commute_means.specs.Grid.{Rows, rows_none, rows_more}
use Rattle.commute_means.proofs.Across.{copy_across_came}
use Rattle.commute_means.specs.Commutes.{N, P, side_a, side_b, columns, aux_count_is, g}

module _ (Named : ℕ → Name → Type 0) (x : ℕ → ℕ) (small : (k : ℕ) → x k ≤ 4294900000) (M : ℕ) (chain : List ℕ) (default : ℕ → ℕ) (l : List ℕ) (F Z : Port → Type 0)
    (a b m c : ℕ) (low_a : a < 4096) (low_b : b < 4096) (few_m : m ≤ 15) (few_c : c ≤ 15)
    (y z : Node) (name_a name_b : ℕ) (aux_a : Numbers.Port) (size_y : next m ≡ length y.ports) (size_z : next c ≡ length z.ports) (below_y : y.net < M) (below_z : z.net < M)
    (named_y : Named name_a y.name) (named_z : Named name_b z.name) (most_y : length y.ports ≤ 16) (most_z : length z.ports ≤ 16) where
  -- copies of b for n aux ports of a from the i-th on, then the copies of a
  copy_both_came : (n i : ℕ) → i + n ≡ m → (grid : List (List ℕ)) → Rows (N Named x small M chain default l F Z a b m c low_a low_b few_m few_c y z name_a name_b aux_a size_y size_z below_y below_z named_y named_z most_y most_z) grid i → (g : Graph) (ws : List ℕ) (e : Engine) (U : Port → Type 0) → Stage Named x M chain l i g ws e
      → Safe F g U (concat_map (hung (P Named x small M chain default l F Z a b m c low_a low_b few_m few_c y z name_a name_b aux_a size_y size_z below_y below_z named_y named_z most_y most_z) (N Named x small M chain default l F Z a b m c low_a low_b few_m few_c y z name_a name_b aux_a size_y size_z below_y below_z named_y named_z most_y most_z) z) (from i n) ++ (columns Named x small M chain default l F Z a b m c low_a low_b few_m few_c y z name_a name_b aux_a size_y size_z below_y below_z named_y named_z most_y most_z)) Z
      → Came Named l (copy_both ws (side_a Named x small M chain default l F Z a b m c low_a low_b few_m few_c y z name_a name_b aux_a size_y size_z below_y below_z named_y named_z most_y most_z) (side_b Named x small M chain default l F Z a b m c low_a low_b few_m few_c y z name_a name_b aux_a size_y size_z below_y below_z named_y named_z most_y most_z) grid (number ((P Named x small M chain default l F Z a b m c low_a low_b few_m few_c y z name_a name_b aux_a size_y size_z below_y below_z named_y named_z most_y most_z) i)) i n) (each edit (concat_map (hung (P Named x small M chain default l F Z a b m c low_a low_b few_m few_c y z name_a name_b aux_a size_y size_z below_y below_z named_y named_z most_y most_z) (N Named x small M chain default l F Z a b m c low_a low_b few_m few_c y z name_a name_b aux_a size_y size_z below_y below_z named_y named_z most_y most_z) z) (from i n) ++ (columns Named x small M chain default l F Z a b m c low_a low_b few_m few_c y z name_a name_b aux_a size_y size_z below_y below_z named_y named_z most_y most_z)) e)
  unfolding copy_both edit apply on_placed
  copy_both_came zero i h grid rows g ws e U s t =
      copy_across_came Named x small M chain default l F Z b m c low_b few_m few_c grid (subst (Rows (N Named x small M chain default l F Z a b m c low_a low_b few_m few_c y z name_a name_b aux_a size_y size_z below_y below_z named_y named_z most_y most_z) grid) (omega arith) rows) y name_a aux_a size_y below_y named_y most_y c 0 (omega arith) g ws e U
      (subst (λ (k : ℕ). Stage Named x M chain l k g ws e) (omega arith) s) t
  copy_both_came (suc n) i h grid rows g ws e U s t =
      go (edit (Insert ((N Named x small M chain default l F Z a b m c low_a low_b few_m few_c y z name_a name_b aux_a size_y size_z below_y below_z named_y named_z most_y most_z) i) z) e) (subst (λ (k : ℕ). Inserts Named x M chain l i g ((N Named x small M chain default l F Z a b m c low_a low_b few_m few_c y z name_a name_b aux_a size_y size_z below_y below_z named_y named_z most_y most_z) i) z (insert_node ws (z.net + 1) name_b k) (edit (Insert ((N Named x small M chain default l F Z a b m c low_a low_b few_m few_c y z name_a name_b aux_a size_y size_z below_y below_z named_y named_z most_y most_z) i) z) e)) (sym size_z)
      (stage_insert Named x small M chain default l i g ws e s F ((N Named x small M chain default l F Z a b m c low_a low_b few_m few_c y z name_a name_b aux_a size_y size_z below_y below_z named_y named_z most_y most_z) i) z name_b t.0 refl below_z named_z most_z))
      (λ grid' r' ws' e' s'. copy_both_came n (suc i) (omega arith) grid' r' (join (fill g ((N Named x small M chain default l F Z a b m c low_a low_b few_m few_c y z name_a name_b aux_a size_y size_z below_y below_z named_y named_z most_y most_z) i) z) ((P Named x small M chain default l F Z a b m c low_a low_b few_m few_c y z name_a name_b aux_a size_y size_z below_y below_z named_y named_z most_y most_z) i) (port ((N Named x small M chain default l F Z a b m c low_a low_b few_m few_c y z name_a name_b aux_a size_y size_z below_y below_z named_y named_z most_y most_z) i) 0)) ws' e' (With U ((P Named x small M chain default l F Z a b m c low_a low_b few_m few_c y z name_a name_b aux_a size_y size_z below_y below_z named_y named_z most_y most_z) i) (port ((N Named x small M chain default l F Z a b m c low_a low_b few_m few_c y z name_a name_b aux_a size_y size_z below_y below_z named_y named_z most_y most_z) i) 0)) s' t.1.1)
    where
      made : Left Placed
      made = insert_node ws (z.net + 1) name_b (next c)

      rest : List Edit
      rest = concat_map (hung (P Named x small M chain default l F Z a b m c low_a low_b few_m few_c y z name_a name_b aux_a size_y size_z below_y below_z named_y named_z most_y most_z) (N Named x small M chain default l F Z a b m c low_a low_b few_m few_c y z name_a name_b aux_a size_y size_z below_y below_z named_y named_z most_y most_z) z) (from (suc i) n) ++ (columns Named x small M chain default l F Z a b m c low_a low_b few_m few_c y z name_a name_b aux_a size_y size_z below_y below_z named_y named_z most_y most_z)

      go : (r : Result Engine) → Inserts Named x M chain l i g ((N Named x small M chain default l F Z a b m c low_a low_b few_m few_c y z name_a name_b aux_a size_y size_z below_y below_z named_y named_z most_y most_z) i) z made r
          → ((grid' : List (List ℕ)) → Rows (N Named x small M chain default l F Z a b m c low_a low_b few_m few_c y z name_a name_b aux_a size_y size_z below_y below_z named_y named_z most_y most_z) grid' (suc i) → (ws' : List ℕ) (e' : Engine) → Stage Named x M chain l (suc i) (join (fill g ((N Named x small M chain default l F Z a b m c low_a low_b few_m few_c y z name_a name_b aux_a size_y size_z below_y below_z named_y named_z most_y most_z) i) z) ((P Named x small M chain default l F Z a b m c low_a low_b few_m few_c y z name_a name_b aux_a size_y size_z below_y below_z named_y named_z most_y most_z) i) (port ((N Named x small M chain default l F Z a b m c low_a low_b few_m few_c y z name_a name_b aux_a size_y size_z below_y below_z named_y named_z most_y most_z) i) 0)) ws' e'
          → Came Named l (copy_both ws' (side_a Named x small M chain default l F Z a b m c low_a low_b few_m few_c y z name_a name_b aux_a size_y size_z below_y below_z named_y named_z most_y most_z) (side_b Named x small M chain default l F Z a b m c low_a low_b few_m few_c y z name_a name_b aux_a size_y size_z below_y below_z named_y named_z most_y most_z) grid' (number ((P Named x small M chain default l F Z a b m c low_a low_b few_m few_c y z name_a name_b aux_a size_y size_z below_y below_z named_y named_z most_y most_z) (suc i))) (suc i) n) (each edit rest e'))
          → Came Named l (on_placed {A = Left Tried} made.is
          (λ j. copy_both (Words.link made.ws (number ((P Named x small M chain default l F Z a b m c low_a low_b few_m few_c y z name_a name_b aux_a size_y size_z below_y below_z named_y named_z most_y most_z) i)) (principal j)) (side_a Named x small M chain default l F Z a b m c low_a low_b few_m few_c y z name_a name_b aux_a size_y size_z below_y below_z named_y named_z most_y most_z) (side_b Named x small M chain default l F Z a b m c low_a low_b few_m few_c y z name_a name_b aux_a size_y size_z below_y below_z named_y named_z most_y most_z) (set grid i (row (next (principal j)))) (next (number ((P Named x small M chain default l F Z a b m c low_a low_b few_m few_c y z name_a name_b aux_a size_y size_z below_y below_z named_y named_z most_y most_z) i))) (i + 1) n)
          (λ r. record { is = Refused r; ws = made.ws }))
          (r >>= λ e'. each edit rest (link ((P Named x small M chain default l F Z a b m c low_a low_b few_m few_c y z name_a name_b aux_a size_y size_z below_y below_z named_y named_z most_y most_z) i) (port ((N Named x small M chain default l F Z a b m c low_a low_b few_m few_c y z name_a name_b aux_a size_y size_z below_y below_z named_y named_z most_y most_z) i) 0) e'))
      go (ok e') d ih =
          let next_i : i + 1 ≡ suc i = omega arith in
          let more : Rows (N Named x small M chain default l F Z a b m c low_a low_b few_m few_c y z name_a name_b aux_a size_y size_z below_y below_z named_y named_z most_y most_z) (set grid i (row (next (number (port ((N Named x small M chain default l F Z a b m c low_a low_b few_m few_c y z name_a name_b aux_a size_y size_z below_y below_z named_y named_z most_y most_z) i) 0))))) (suc i)
          = subst (λ (q : ℕ). Rows (N Named x small M chain default l F Z a b m c low_a low_b few_m few_c y z name_a name_b aux_a size_y size_z below_y below_z named_y named_z most_y most_z) (set grid i (row (next q))) (suc i)) (number_principal ((N Named x small M chain default l F Z a b m c low_a low_b few_m few_c y z name_a name_b aux_a size_y size_z below_y below_z named_y named_z most_y most_z) i) d.2) (rows_more (N Named x small M chain default l F Z a b m c low_a low_b few_m few_c y z name_a name_b aux_a size_y size_z below_y below_z named_y named_z most_y most_z) grid i (omega arith) d.2 rows) in
          rw (d.0, number_principal ((N Named x small M chain default l F Z a b m c low_a low_b few_m few_c y z name_a name_b aux_a size_y size_z below_y below_z named_y named_z most_y most_z) i) d.2, number_aux a i low_a (omega arith), next_i)
          (ih (set grid i (row (next (number (port ((N Named x small M chain default l F Z a b m c low_a low_b few_m few_c y z name_a name_b aux_a size_y size_z below_y below_z named_y named_z most_y most_z) i) 0))))) more (Words.link made.ws (number ((P Named x small M chain default l F Z a b m c low_a low_b few_m few_c y z name_a name_b aux_a size_y size_z below_y below_z named_y named_z most_y most_z) i)) (number (port ((N Named x small M chain default l F Z a b m c low_a low_b few_m few_c y z name_a name_b aux_a size_y size_z below_y below_z named_y named_z most_y most_z) i) 0))) (link ((P Named x small M chain default l F Z a b m c low_a low_b few_m few_c y z name_a name_b aux_a size_y size_z below_y below_z named_y named_z most_y most_z) i) (port ((N Named x small M chain default l F Z a b m c low_a low_b few_m few_c y z name_a name_b aux_a size_y size_z below_y below_z named_y named_z most_y most_z) i) 0) e')
          (stage_join Named x small M chain default l (suc i) (fill g ((N Named x small M chain default l F Z a b m c low_a low_b few_m few_c y z name_a name_b aux_a size_y size_z below_y below_z named_y named_z most_y most_z) i) z) made.ws e' d.1 U ((P Named x small M chain default l F Z a b m c low_a low_b few_m few_c y z name_a name_b aux_a size_y size_z below_y below_z named_y named_z most_y most_z) i) (port ((N Named x small M chain default l F Z a b m c low_a low_b few_m few_c y z name_a name_b aux_a size_y size_z below_y below_z named_y named_z most_y most_z) i) 0) t.1.0))
      go (refuse c) d ih = rw d refl

module _ (Named : ℕ → Name → Type 0) (x : ℕ → ℕ) (small : (k : ℕ) → x k ≤ 4294900000) (ws : List ℕ) (e : Engine) (t : Between Named x ws e) where
  module _ (a b : ℕ) (met : across (graph_of e) (port a 0) ≡ some (port b 0)) where
    -- commute does on the words what its script does; the copies' net is the pair's
    pub commute_means : (net : ℕ) → net ≡ (at (graph_of e) a).net + 1 → Tries Named ws e (commute ws net a b) (commute_script (fresh e) (graph_of e) a b)
    unfolding commute side_of commute_script hang fresh edit apply new
    commute_means net is =
        let p = pair Named x small ws e t a b met in
        let la = low_a Named x small ws e t a b met in
        let lb = low_b Named x small ws e t a b met in
        let f = good_fresh x e t.good in
        let few_a = t.means.nodes.few a in
        let few_b = t.means.nodes.few b in
        let pa = p.ports_a in
        let pb = p.ports_b in
        let F = Law.Ends (fresh e) (g Named x small ws e t a b met) t.wired f a b met in
        let net_a = net_inside_lem Named ws e t.means x t.good a p.filled_a in
        let size_y = length-replicate {A = Option Port} (arity (g Named x small ws e t a b met) a) none in
        let size_z = length-replicate {A = Option Port} (arity (g Named x small ws e t a b met) b) none in
        rw (is, (aux_count_is Named x small ws e t) a p.filled_a pa, (aux_count_is Named x small ws e t) b p.filled_b pb, number_first b lb, number_first a la)
        (unless_spent Named ws e t.means t.good.stepped (a ∷ b ∷ []) _ _
        (copy_both_came Named x small (length e.nets) e.slots.chain (λ i. length (g Named x small ws e t a b met) + i) (a ∷ b ∷ []) F F a b (arity (g Named x small ws e t a b met) a - 1) (arity (g Named x small ws e t a b met) b - 1) la lb (omega arith) (omega arith)
        (new (at (g Named x small ws e t a b met) a).net (name_of (g Named x small ws e t a b met) a) (arity (g Named x small ws e t a b met) a)) (new (at (g Named x small ws e t a b met) a).net (name_of (g Named x small ws e t a b met) b) (arity (g Named x small ws e t a b met) b)) (Word.name ws a) (Word.name ws b) (record { 0 = number (port a (1 + 0)) })
        (omega arith) (omega arith) net_a net_a
        (name_read Named ws e t.means a p.filled_a) (name_read Named ws e t.means b p.filled_b) (omega arith) (omega arith)
        (arity (g Named x small ws e t a b met) a - 1) 0 (omega arith) blank (rows_none _) (cut (g Named x small ws e t a b met) (port a 0) (port b 0)) (part ws a b) (with_graph (cut (g Named x small ws e t a b met) (port a 0) (port b 0)) e) (With (λ _. ⊥) (port a 0) (port b 0))
        (part_stage Named x small ws e t a b met) (LawProofs.commuted_tidy (fresh e) (g Named x small ws e t a b met) t.wired f a b met).safe.1))
