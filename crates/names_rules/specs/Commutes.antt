-- `commute` writes no net's name: the copies are of the pair's net.
use Prim.Native.Nat.{ℕ, zero, suc, ◌+◌, ◌-◌, ◌<◌, ◌≤◌}
use Rattle.std.specs.Prelude.{◌≡◌, true, List, [], ◌∷◌, ◌++◌, get_or, set}
use Rattle.std.proofs.Math.Path.{refl, sym}
use Rattle.std.proofs.Common.{◌∙◌, subst, arith}
use Rattle.std.proofs.Math.Option.{Option, none, some}
use Rattle.std.proofs.Math.ListN.{length, length-replicate}
use Rattle.words.specs.Choose.{lt_no}
use Rattle.words.specs.Left.{Left}
use Rattle.layout.specs.Layout.{next, less, principal}
use Rattle.layout.specs.declared.Port as Numbers
use Rattle.graph.specs.Graph as Words
use Rattle.edits.specs.declared.Placed.{Placed}
use Rattle.edits.specs.Edits.{on_placed, insert_node}
use Rattle.tried.specs.declared.Tried.{Tried}
use Rattle.tried.specs.declared.Tried.TheVariants.{Refused}
use Rattle.tried.specs.Tries as Word
use Rattle.erase.specs.Erase.{part}
use Rattle.commute.specs.declared.Side.{Side}
use Rattle.commute.specs.Commute.{row, blank, copy_both, aux_count, side_of, commute}
use Rattle.net_file.specs.Lists.{Result, ok, refuse, concat_map}
use Rattle.net_file.specs.Values.{Name}
use Rattle.definitions.specs.Lists.{from, up_to}
use Rattle.definitions.specs.Nets.{Port, Node, Graph, port, at, name_of, arity, across, filled}
use Rattle.definitions.specs.Scripts.{Edit, Insert, fill, join, cut, apply}
use Rattle.definitions.specs.Rules.{new}
use Rattle.definitions.specs.State.{Engine, graph_of, with_graph}
use Rattle.definitions.specs.Books.{link, fresh, edit}
use Rattle.script_laws.specs.Safe.{With, Safe}
use Rattle.script_laws.specs.Loops.{hung}
use Rattle.rule_laws.specs.Columns.{column}
use Rattle.rule_laws.specs.Commute as Law
use Rattle.rule_laws.proofs.Commute as LawProofs
use Rattle.means.specs.Means.{number}
use Rattle.means.specs.Frame.{rest_trans}
use Rattle.good_means.specs.Room.{net_inside_lem}
use Rattle.script_means.specs.Stage.{Stage, number_aux, number_first, number_principal, stage_join}
use Rattle.script_means.specs.Inserts.{Inserts, stage_insert}
use Rattle.script_means.specs.Tries.{Between, name_read, arity_read}
use Rattle.erase_means.specs.Part.{good_fresh, pair, low_a, low_b, part_stage}
use Rattle.commute_means.specs.Grid.{Rows, rows_none, rows_more}
use Rattle.names_means.specs.Kept.{Kept, kept_all}
use Rattle.names_means.specs.Links.{stage_link_names}
use Rattle.names_rules.specs.Steps.{pick_names, part_names, inserts_names}
use Rattle.names_rules.specs.Across.{copy_across_names}

module _ (Named : ℕ → Name → Type 0) (x : ℕ → ℕ) (small : (k : ℕ) → x k ≤ 4294900000) (M : ℕ) (chain : List ℕ) (default : ℕ → ℕ) (l : List ℕ) (F Z : Port → Type 0)
    (a b m c : ℕ) (low_a : a < 4096) (low_b : b < 4096) (few_m : m ≤ 15) (few_c : c ≤ 15)
    (y z : Node) (name_a name_b : ℕ) (aux_a : Numbers.Port) (size_y : next m ≡ length y.ports) (size_z : next c ≡ length z.ports) (below_y : y.net < M) (below_z : z.net < M)
    (named_y : Named name_a y.name) (named_z : Named name_b z.name) (most_y : length y.ports ≤ 16) (most_z : length z.ports ≤ 16) where
  -- the number of the k-th new node
  abbrev N : ℕ → ℕ
  N k = get_or chain k (default k)

  abbrev P : ℕ → Port
  P i = port a (1 + i)

  -- y copies a, z copies b
  abbrev side_a : Side
  side_a = record { net = record { 0 = y.net + 1 }; name = name_a; aux = aux_a; count = m }

  abbrev side_b : Side
  side_b = record { net = record { 0 = z.net + 1 }; name = name_b; aux = record { 0 = number (port b (1 + 0)) }; count = c }

  -- the copies of a, after those of b
  abbrev columns : List Edit
  columns = concat_map (column b m c N (λ j. N (m + j)) y) (up_to c)

  copy_both_names : (n i : ℕ) → i + n ≡ m → (grid : List (List ℕ)) → Rows N grid i → (g : Graph) (ws : List ℕ) (e : Engine) (U : Port → Type 0) → Stage Named x M chain l i g ws e
      → Safe F g U (concat_map (hung P N z) (from i n) ++ columns) Z → Kept ws (copy_both ws side_a side_b grid (number (P i)) i n).ws
  unfolding copy_both apply on_placed
  copy_both_names zero i h grid rows g ws e U s t =
      copy_across_names Named x small M chain default l F Z b m c low_b few_m few_c grid (subst (Rows N grid) (omega arith) rows) y name_a aux_a size_y below_y named_y most_y c 0 (omega arith) g ws e U
      (subst (λ (k : ℕ). Stage Named x M chain l k g ws e) (omega arith) s) t
  copy_both_names (suc n) i h grid rows g ws e U s t =
      go (edit (Insert (N i) z) e) (subst (λ (k : ℕ). Inserts Named x M chain l i g (N i) z (insert_node ws (z.net + 1) name_b k) (edit (Insert (N i) z) e)) (sym size_z)
      (stage_insert Named x small M chain default l i g ws e s F (N i) z name_b t.0 refl below_z named_z most_z))
      (λ grid' r' ws' e' s'. copy_both_names n (suc i) (omega arith) grid' r' (join (fill g (N i) z) (P i) (port (N i) 0)) ws' e' (With U (P i) (port (N i) 0)) s' t.1.1)
    where
      made : Left Placed
      made = insert_node ws (z.net + 1) name_b (next c)

      go : (r : Result Engine) → Inserts Named x M chain l i g (N i) z made r
          → ((grid' : List (List ℕ)) → Rows N grid' (suc i) → (ws' : List ℕ) (e' : Engine) → Stage Named x M chain l (suc i) (join (fill g (N i) z) (P i) (port (N i) 0)) ws' e'
          → Kept ws' (copy_both ws' side_a side_b grid' (number (P (suc i))) (suc i) n).ws)
          → Kept ws (on_placed {A = Left Tried} made.is
          (λ j. copy_both (Words.link made.ws (number (P i)) (principal j)) side_a side_b (set grid i (row (next (principal j)))) (next (number (P i))) (i + 1) n)
          (λ r. record { is = Refused r; ws = made.ws })).ws
      go (ok e') d ih =
          let next_i : i + 1 ≡ suc i = omega arith in
          let more : Rows N (set grid i (row (next (number (port (N i) 0))))) (suc i)
          = subst (λ (q : ℕ). Rows N (set grid i (row (next q))) (suc i)) (number_principal (N i) d.2) (rows_more N grid i (omega arith) d.2 rows) in
          rw (d.0, number_principal (N i) d.2, number_aux a i low_a (omega arith), next_i)
          (rest_trans (rest_trans (inserts_names Named x M chain l i g (N i) z ws (z.net + 1) name_b (next c) (omega arith) (ok e') d)
          (stage_link_names Named x M chain l (suc i) (fill g (N i) z) made.ws e' d.1 U (P i) (port (N i) 0) t.1.0))
          (ih (set grid i (row (next (number (port (N i) 0))))) more (Words.link made.ws (number (P i)) (number (port (N i) 0))) (link (P i) (port (N i) 0) e')
          (stage_join Named x small M chain default l (suc i) (fill g (N i) z) made.ws e' d.1 U (P i) (port (N i) 0) t.1.0)))
      go (refuse r) d ih = rw d (inserts_names Named x M chain l i g (N i) z ws (z.net + 1) name_b (next c) (omega arith) (refuse r) d)

module _ (Named : ℕ → Name → Type 0) (x : ℕ → ℕ) (small : (k : ℕ) → x k ≤ 4294900000) (ws : List ℕ) (e : Engine) (t : Between Named x ws e) where
  -- a node's aux ports are at most fifteen
  aux_count_is : (n : ℕ) → filled (graph_of e) n ≡ true → 0 < arity (graph_of e) n → aux_count ws n ≡ arity (graph_of e) n - 1
  unfolding aux_count
  aux_count_is n h p =
      let r = arity_read Named ws e t.means n h in
      let few = t.means.nodes.few n in
      sym (lt_no 15 (less (Word.arity ws n)) 15 (less (Word.arity ws n)) (omega arith) refl) ∙ (omega arith)

  module _ (a b : ℕ) (met : across (graph_of e) (port a 0) ≡ some (port b 0)) where
    abbrev g : Graph
    g = graph_of e

    pub commute_names : (net : ℕ) → net ≡ (at (graph_of e) a).net + 1 → Kept ws (commute ws net a b).ws
    unfolding commute side_of fresh apply new
    commute_names net is =
        let p = pair Named x small ws e t a b met in
        let la = low_a Named x small ws e t a b met in
        let lb = low_b Named x small ws e t a b met in
        let f = good_fresh x e t.good in
        let few_a = t.means.nodes.few a in
        let few_b = t.means.nodes.few b in
        let pa = p.ports_a in
        let pb = p.ports_b in
        let F = Law.Ends (fresh e) g t.wired f a b met in
        let net_a = net_inside_lem Named ws e t.means x t.good a p.filled_a in
        let size_y = length-replicate {A = Option Port} (arity g a) none in
        let size_z = length-replicate {A = Option Port} (arity g b) none in
        pick_names ws (Word.spent ws) (record { is = Refused 14; ws = ws }) _ (kept_all ws)
        (rest_trans (part_names Named x ws e t a b) (rw (is, aux_count_is a p.filled_a pa, aux_count_is b p.filled_b pb, number_first b lb, number_first a la)
        (copy_both_names Named x small (length e.nets) e.slots.chain (λ i. length g + i) (a ∷ b ∷ []) F F a b (arity g a - 1) (arity g b - 1) la lb (omega arith) (omega arith)
        (new (at g a).net (name_of g a) (arity g a)) (new (at g a).net (name_of g b) (arity g b)) (Word.name ws a) (Word.name ws b) (record { 0 = number (port a (1 + 0)) })
        (omega arith) (omega arith) net_a net_a
        (name_read Named ws e t.means a p.filled_a) (name_read Named ws e t.means b p.filled_b) (omega arith) (omega arith)
        (arity g a - 1) 0 (omega arith) blank (rows_none _) (cut g (port a 0) (port b 0)) (part ws a b) (with_graph (cut g (port a 0) (port b 0)) e) (With (λ _. ⊥) (port a 0) (port b 0))
        (part_stage Named x small ws e t a b met) (LawProofs.commuted_tidy (fresh e) g t.wired f a b met).safe.1)))
