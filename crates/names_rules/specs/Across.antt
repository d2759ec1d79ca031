-- Commute's second half writes no net's name.
use Prim.Native.Nat.{ℕ, zero, suc, ◌+◌, ◌-◌, ◌<◌, ◌≤◌}
use Rattle.std.specs.Prelude.{◌≡◌, List, ◌++◌, map, length, get_or}
use Rattle.std.proofs.Math.Path.{refl}
use Rattle.std.proofs.Common.{sym, subst}
use native.Mathlib.Omega.{arith}
use Rattle.words.specs.Left.{Left}
use Rattle.layout.specs.Layout.{next, principal}
use Rattle.layout.specs.declared.Port as Numbers
use Rattle.graph.specs.Graph as Words
use Rattle.edits.specs.declared.Placed.{Placed}
use Rattle.edits.specs.Edits.{on_placed, insert_node}
use Rattle.tried.specs.declared.Tried.{Tried}
use Rattle.tried.specs.declared.Tried.TheVariants.{Refused}
use Rattle.commute.specs.declared.Side.{Side}
use Rattle.commute.specs.Commute.{link_column, copy_across}
use Rattle.net_file.specs.Lists.{Result, ok, refuse, concat_map}
use Rattle.net_file.specs.Values.{Name}
use Rattle.definitions.specs.Lists.{from}
use Rattle.definitions.specs.Nets.{Port, Node, Graph, port, at}
use Rattle.definitions.specs.Scripts.{Edit, Insert, Join, fill, join, apply}
use Rattle.definitions.specs.Rules.{new}
use Rattle.definitions.specs.State.{Engine}
use Rattle.definitions.specs.Books.{link, edit}
use Rattle.script_laws.specs.Safe.{With, Safe}
use Rattle.rule_laws.specs.Columns.{column}
use Rattle.means.specs.Means.{number}
use Rattle.means.specs.Frame.{rest_trans}
use Rattle.script_means.specs.Stage.{Stage, number_aux, number_first, number_principal, stage_join}
use Rattle.script_means.specs.Inserts.{Inserts, stage_insert}
use Rattle.commute_means.specs.Grid.{Rows}
use Rattle.names_means.specs.Kept.{Kept, kept_all}
use Rattle.names_means.specs.Links.{stage_link_names}
use Rattle.names_rules.specs.Steps.{inserts_names}

module _ (Named : ℕ → Name → Type 0) (x : ℕ → ℕ) (small : (k : ℕ) → x k ≤ 4294900000) (M : ℕ) (chain : List ℕ) (default : ℕ → ℕ) (l : List ℕ) (F Z : Port → Type 0)
    (b m c : ℕ) (low_b : b < 4096) (few_m : m ≤ 15) (few_c : c ≤ 15) (grid : List (List ℕ)) (rows : Rows (λ k. get_or chain k (default k)) grid m) where
  -- the number of the k-th new node
  abbrev N : ℕ → ℕ
  N k = get_or chain k (default k)

  -- the j-th copy of a
  abbrev cols : ℕ → ℕ
  cols j = N (m + j)

  -- its aux port i, with that of the i-th copy of b
  abbrev J : ℕ → ℕ → Edit
  J j i = Join (port (cols j) (1 + i)) (port (N i) (1 + j))

  -- n aux ports from i on are linked, then what follows
  column_names : (n i j k : ℕ) → i + n ≤ m → j < 15 → cols j < 4096 → (g : Graph) (ws : List ℕ) (e : Engine) (U : Port → Type 0) (ds : List Edit) (f : List ℕ → Left Tried)
      → Stage Named x M chain l k g ws e → Safe F g U (map (J j) (from i n) ++ ds) Z
      → ((g' : Graph) (ws' : List ℕ) (e' : Engine) (U' : Port → Type 0) → Stage Named x M chain l k g' ws' e' → Safe F g' U' ds Z → Kept ws' (f ws').ws)
      → Kept ws (f (link_column ws grid (number (port (cols j) (1 + i))) j i n)).ws
  unfolding link_column apply
  column_names zero i j k h hj low g ws e U ds f s t then = then g ws e U s t
  column_names (suc n) i j k h hj low g ws e U ds f s t then =
      let next_i : i + 1 ≡ suc i = omega arith in
      let p = port (cols j) (1 + i) in
      let q = port (N i) (1 + j) in
      rw (rows.at i j (omega arith) hj, number_aux (cols j) i low (omega arith), next_i)
      (rest_trans (stage_link_names Named x M chain l k g ws e s U p q t.0)
      (column_names n (suc i) j k (omega arith) hj low (join g p q) (Words.link ws (number p) (number q)) (link p q e) (With U p q) ds f
      (stage_join Named x small M chain default l k g ws e s U p q t.0) t.1 then))

  module _ (y : Node) (name : ℕ) (aux : Numbers.Port) (size_is : next m ≡ length y.ports) (below : y.net < M) (named : Named name y.name) (most : length y.ports ≤ 16) where
    -- what is copied
    abbrev side : Side
    side = record { net = record { 0 = y.net + 1 }; name = name; aux = aux; count = m }

    pub copy_across_names : (n j : ℕ) → j + n ≤ c → (g : Graph) (ws : List ℕ) (e : Engine) (U : Port → Type 0) → Stage Named x M chain l (m + j) g ws e
        → Safe F g U (concat_map (column b m c N cols y) (from j n)) Z → Kept ws (copy_across ws side grid (number (port b (1 + j))) j n).ws
    unfolding copy_across apply on_placed
    copy_across_names zero j h g ws e U s t = kept_all ws
    copy_across_names (suc n) j h g ws e U s t =
        go (edit (Insert (cols j) y) e) (subst (λ (k : ℕ). Inserts Named x M chain l (m + j) g (cols j) y (insert_node ws (y.net + 1) name k) (edit (Insert (cols j) y) e)) (sym size_is)
        (stage_insert Named x small M chain default l (m + j) g ws e s F (cols j) y name t.0 refl below named most))
        (λ g' ws' e' U' s' t'. copy_across_names n (suc j) (omega arith) g' ws' e' U' s' t')
      where
        new : Left Placed
        new = insert_node ws (y.net + 1) name (next m)

        rest : List Edit
        rest = concat_map (column b m c N cols y) (from (suc j) n)

        go : (r : Result Engine) → Inserts Named x M chain l (m + j) g (cols j) y new r
            → ((g' : Graph) (ws' : List ℕ) (e' : Engine) (U' : Port → Type 0) → Stage Named x M chain l (m + suc j) g' ws' e' → Safe F g' U' rest Z
            → Kept ws' (copy_across ws' side grid (number (port b (1 + suc j))) (suc j) n).ws)
            → Kept ws (on_placed {A = Left Tried} new.is
            (λ i. copy_across (link_column (Words.link new.ws (number (port b (1 + j))) (principal i)) grid (next (principal i)) j 0 m) side grid (next (number (port b (1 + j)))) (j + 1) n)
            (λ r. record { is = Refused r; ws = new.ws })).ws
        go (ok e') d ih =
            let p = port b (1 + j) in
            let q = port (cols j) 0 in
            let next_j : j + 1 ≡ suc j = omega arith in
            rw (d.0, number_first (cols j) d.2, number_principal (cols j) d.2, number_aux b j low_b (omega arith), next_j)
            (rest_trans (rest_trans (inserts_names Named x M chain l (m + j) g (cols j) y ws (y.net + 1) name (next m) (omega arith) (ok e') d)
            (stage_link_names Named x M chain l (suc (m + j)) (fill g (cols j) y) new.ws e' d.1 U p q t.1.0))
            (column_names m 0 j (suc (m + j)) (omega arith) (omega arith) d.2 (join (fill g (cols j) y) p q) (Words.link new.ws (number p) (number q)) (link p q e') (With U p q) rest
            (λ (w : List ℕ). copy_across w side grid (number (port b (1 + suc j))) (suc j) n)
            (stage_join Named x small M chain default l (suc (m + j)) (fill g (cols j) y) new.ws e' d.1 U p q t.1.0) t.1.1
            (λ g' ws' e'' U' s' t'. ih g' ws' e'' U' (subst (λ (k : ℕ). Stage Named x M chain l k g' ws' e'') (omega arith) s') t')))
        go (refuse r) d ih = rw d (inserts_names Named x M chain l (m + j) g (cols j) y ws (y.net + 1) name (next m) (omega arith) (refuse r) d)
