-- What of a flat net fits and is therefore read back. Document 01, "A flat net".
use Rattle.std.specs.Prelude.{ℕ, ◌<◌, ◌≤◌, refl, [], length}
use Rattle.std.proofs.Common.{arith, append_assoc, append-nil}
use Rattle.std.proofs.Math.Path.{ap}
use Rattle.net_file.specs.Values.{FlatNode, FlatNet}
use Rattle.net_file.specs.Read.{read_node, read_pair, read_flat_net}
use Rattle.net_file.specs.Write.{write_node, write_pair, write_head, write_flat_net}
use Rattle.net_file_laws.specs.Exact.{Exact, exact_as, exact_step, exact_give, exact_below, Each, exact_many}
use Rattle.net_file_laws.specs.Parts.{NameFits, exact_name, exact_bit}

abbrev pub PairFits : ℕ → ℕ × ℕ → Type 0
PairFits wires p = (p.0 < wires) × (p.1 < wires)

pub record NodeFits (paths names wires : ℕ) (n : FlatNode) : Type 0 where
  pub name : NameFits paths names n.name
  pub pri : n.pri < wires
  pub few : length n.aux ≤ 15
  pub aux : Each (λ w. w < wires) n.aux

pub record FlatNetFits (paths names : ℕ) (n : FlatNet) : Type 0 where
  pub name : n.name < names
  pub wires : n.wires ≤ 65536
  pub few_free : length n.free ≤ 14
  pub free : Each (λ w. w < n.wires) n.free
  pub few_pairs : length n.pairs ≤ 65535
  pub pairs : Each (PairFits n.wires) n.pairs
  pub few_nodes : length n.nodes ≤ 4096
  pub nodes : Each (NodeFits paths names n.wires) n.nodes

pub exact_pair : (wires : ℕ) → wires ≤ 65536 → Exact (read_pair wires) write_pair (PairFits wires)
unfolding read_pair write_pair
exact_pair wires hw =
    exact_as (λ p h. simp append-nil) (λ p h. (h.0, (h.1, refl))) (λ p g. (g.0, g.1.0))
    (exact_step (exact_below 2 wires hw) (λ (p : ℕ × ℕ). p.0)
    (λ a h. exact_step (exact_below 2 wires hw) (λ (p : ℕ × ℕ). p.1)
    (λ b h. exact_give (a, b))
    (λ b h p g. ap (λ (q : ℕ × ℕ). q.1) g))
    (λ a h p g. ap (λ (q : ℕ × ℕ). q.0) g.1))

module _ (paths names : ℕ) (hp : paths ≤ 65536) (hn : names ≤ 65536) where
  pub exact_node : (wires : ℕ) → wires ≤ 65536 → Exact (read_node paths names wires) write_node (NodeFits paths names wires)
  unfolding read_node write_node
  exact_node wires hw =
      exact_as (λ n h. simp (append_assoc, append-nil))
      (λ n h. (h.name, (h.pri, ((h.few, h.aux), refl))))
      (λ n g. record { name = g.0; pri = g.1.0; few = g.1.1.0.0; aux = g.1.1.0.1 })
      (exact_step (exact_name paths names hp hn) (λ (n : FlatNode). n.name)
      (λ m h. exact_step (exact_below 2 wires hw) (λ (n : FlatNode). n.pri)
      (λ p h. exact_step (exact_many (exact_below 2 wires hw) 1 15 (omega arith)) (λ (n : FlatNode). n.aux)
      (λ ws h. exact_give (record { name = m; pri = p; aux = ws }))
      (λ ws h n g. ap (λ (k : FlatNode). k.aux) g))
      (λ p h n g. ap (λ (k : FlatNode). k.pri) g.1))
      (λ m h n g. ap (λ (k : FlatNode). k.name) g.1.1))

  pub exact_flat_net : Exact (read_flat_net paths names) write_flat_net (FlatNetFits paths names)
  unfolding read_flat_net write_flat_net write_head
  exact_flat_net =
      exact_as (λ n h. simp (append_assoc, append-nil))
      (λ n h. (h.name, (tt, (omega (arith, h.wires), ((h.few_free, h.free), ((h.few_pairs, h.pairs), ((h.few_nodes, h.nodes), refl)))))))
      (λ n g. let w : n.wires ≤ 65536 = omega (arith, g.1.1.0) in record {
        name = g.0;
        wires = w;
        few_free = g.1.1.1.0.0;
        free = g.1.1.1.0.1;
        few_pairs = g.1.1.1.1.0.0;
        pairs = g.1.1.1.1.0.1;
        few_nodes = g.1.1.1.1.1.0.0;
        nodes = g.1.1.1.1.1.0.1;
      })
      (exact_step (exact_below 2 names hn) (λ (n : FlatNet). n.name)
      (λ m h. exact_step exact_bit (λ (n : FlatNet). n.included)
      (λ i h. exact_step (exact_below 4 65537 (omega arith)) (λ (n : FlatNet). n.wires)
      (λ ws hw. exact_step (exact_many (exact_below 2 ws (omega arith)) 1 14 (omega arith)) (λ (n : FlatNet). n.free)
      (λ fs h. exact_step (exact_many (exact_pair ws (omega arith)) 2 65535 (omega arith)) (λ (n : FlatNet). n.pairs)
      (λ ps h. exact_step (exact_many (exact_node ws (omega arith)) 2 4096 (omega arith)) (λ (n : FlatNet). n.nodes)
      (λ ns h. exact_give (record { name = m; included = i; wires = ws; free = fs; pairs = ps; nodes = ns }))
      (λ ns h n g. ap (λ (k : FlatNet). k.nodes) g))
      (λ ps h n g. ap (λ (k : FlatNet). k.pairs) g.1))
      (λ fs h n g. ap (λ (k : FlatNet). k.free) g.1.1))
      (λ ws h n g. ap (λ (k : FlatNet). k.wires) g.1.1.1))
      (λ i h n g. ap (λ (k : FlatNet). k.included) g.1.1.1.1))
      (λ m h n g. ap (λ (k : FlatNet). k.name) g.1.1.1.1.1))
