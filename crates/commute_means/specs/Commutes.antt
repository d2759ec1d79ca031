-- `commute` on words that mean an engine: the copies of both nodes come and are linked crosswise, in the order of the script.
use Prim.Native.Nat.{ℕ, zero, suc, ◌+◌, ◌-◌, ◌<◌, ◌≤◌}
use Rattle.std.specs.Prelude.{◌≡◌, true, List, [], ◌∷◌, ◌++◌, get_or, set}
use Rattle.std.proofs.Math.Path.{refl, sym}
use Rattle.std.proofs.Common.{◌∙◌, subst, arith}
use Rattle.std.proofs.Math.Option.{Option, none, some}
use Rattle.std.proofs.Math.ListN.{length, length-replicate}
use Rattle.words.specs.Choose.{lt_no}
use Rattle.words.specs.Left.{Left}
use Rattle.layout.specs.Layout.{next, less, principal}
use Rattle.layout.specs.declared.Port as Numbers
use Rattle.graph.specs.Graph as Words
use Rattle.edits.specs.declared.Placed.{Placed}
use Rattle.edits.specs.Edits.{on_placed, insert_node}
use Rattle.tried.specs.declared.Tried.{Tried}
use Rattle.tried.specs.declared.Tried.TheVariants.{Refused}
use Rattle.tried.specs.Tries as Word
use Rattle.erase.specs.Erase.{part}
use Rattle.commute.specs.declared.Side.{Side}
use Rattle.commute.specs.Commute.{row, blank, copy_both, aux_count, side_of, commute}
use Rattle.net_file.specs.Lists.{Result, ok, refuse, concat_map}
use Rattle.net_file.specs.Values.{Name}
use Rattle.definitions.specs.Lists.{◌>>=◌, each, from, up_to}
use Rattle.definitions.specs.Nets.{Port, Node, Graph, port, at, name_of, arity, across, filled}
use Rattle.definitions.specs.Scripts.{Edit, Insert, fill, join, cut, apply}
use Rattle.definitions.specs.Rules.{new, hang, commute_script}
use Rattle.definitions.specs.State.{Engine, graph_of, with_graph}
use Rattle.definitions.specs.Books.{link, fresh, edit}
use Rattle.script_laws.specs.Safe.{With, Safe}
use Rattle.script_laws.specs.Loops.{hung}
use Rattle.rule_laws.specs.Columns.{column}
use Rattle.rule_laws.specs.Commute as Law
use Rattle.rule_laws.proofs.Commute as LawProofs
use Rattle.means.specs.Means.{number}
use Rattle.good_means.specs.Room.{net_inside_lem}
use Rattle.script_means.specs.Stage.{Stage, number_aux, number_first, number_principal, stage_join}
use Rattle.script_means.specs.Inserts.{Inserts, stage_insert}
use Rattle.script_means.specs.Tries.{Came, Tries, Between, name_read, arity_read, unless_spent}
use Rattle.erase_means.specs.Part.{good_fresh, pair, low_a, low_b, part_stage}
use Rattle.commute_means.specs.Grid.{Rows, rows_none, rows_more}

module _ (Named : ℕ → Name → Type 0) (x : ℕ → ℕ) (small : (k : ℕ) → x k ≤ 4294900000) (M : ℕ) (chain : List ℕ) (default : ℕ → ℕ) (l : List ℕ) (F Z : Port → Type 0)
    (a b m c : ℕ) (low_a : a < 4096) (low_b : b < 4096) (few_m : m ≤ 15) (few_c : c ≤ 15)
    (y z : Node) (name_a name_b : ℕ) (aux_a : Numbers.Port) (size_y : next m ≡ length y.ports) (size_z : next c ≡ length z.ports) (below_y : y.net < M) (below_z : z.net < M)
    (named_y : Named name_a y.name) (named_z : Named name_b z.name) (most_y : length y.ports ≤ 16) (most_z : length z.ports ≤ 16) where
  -- the number of the k-th new node
  abbrev pub N : ℕ → ℕ
  N k = get_or chain k (default k)

  abbrev pub P : ℕ → Port
  P i = port a (1 + i)

  -- y copies a, z copies b
  abbrev pub side_a : Side
  side_a = record { net = record { 0 = y.net + 1 }; name = name_a; aux = aux_a; count = m }

  abbrev pub side_b : Side
  side_b = record { net = record { 0 = z.net + 1 }; name = name_b; aux = record { 0 = number (port b (1 + 0)) }; count = c }

  -- the copies of a, after those of b
  abbrev pub columns : List Edit
  columns = concat_map (column b m c N (λ j. N (m + j)) y) (up_to c)

module _ (Named : ℕ → Name → Type 0) (x : ℕ → ℕ) (small : (k : ℕ) → x k ≤ 4294900000) (ws : List ℕ) (e : Engine) (t : Between Named x ws e) where
  -- a node's aux ports are at most fifteen
  pub aux_count_is : (n : ℕ) → filled (graph_of e) n ≡ true → 0 < arity (graph_of e) n → aux_count ws n ≡ arity (graph_of e) n - 1
  unfolding aux_count
  aux_count_is n h p =
      let r = arity_read Named ws e t.means n h in
      let few = t.means.nodes.few n in
      sym (lt_no 15 (less (Word.arity ws n)) 15 (less (Word.arity ws n)) (omega arith) refl) ∙ (omega arith)

  module _ (a b : ℕ) (met : across (graph_of e) (port a 0) ≡ some (port b 0)) where
    abbrev pub g : Graph
    g = graph_of e
