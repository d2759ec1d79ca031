-- Each way out of the walks over flat nets.
use Rattle.std.specs.Prelude.{ℕ, ◌+◌, ◌*◌, ◌-◌, ◌<◌, ◌≤◌, ◌≡◌, Bool, List, length, Option, Some, None}
use Rattle.std.proofs.Math.Path.{sym}
use Rattle.std.proofs.Common.{◌∙◌, arith}
use Rattle.net_file.specs.Values.{Name, FlatNode, FlatNet}
use Rattle.net_file.specs.Read.{Parser, ◌>>=◌, give, below, times, many, read_name, read_node, read_pair, read_flat_net}
use Rattle.fields.specs.Fields.{be16, be32}
use Rattle.stored.specs.Laws.{stands_below, stands_2, stands_many, stands_numbers}
use Rattle.stored.specs.Stored.{pair_at, list_at}
use Rattle.stored.specs.Parts.{stands_name, stands_node, stands_pair, stands_net}
use Rattle.walk.specs.After.{after, after_past, after_bind, after_stop, after_go, after_bad, after_map, after_same, same_map, same_bind, went}
use Rattle.walk.specs.Room.{needs_next, needs_many, after_short}
use Rattle.walk.specs.Loops.{times_turn, times_bad, times_done, pairs_same}
use Rattle.walk.specs.Walk.{below_2, below_2_high, many_2_short, many_2_high, many_2_on}
use Rattle.walk_head.specs.Head.{read_head, stands_head, head_bad, head_go}

-- a node's wires
unfoldable pub read_ports : ℕ → Parser (List ℕ)
read_ports wires = below 2 wires >>= λ p. many 1 15 (below 2 wires)

-- all that follows a net's head
unfoldable pub read_parts : ℕ → ℕ → ℕ → Parser (List FlatNode)
read_parts paths names wires = many 1 14 (below 2 wires) >>= λ fs. many 2 65535 (read_pair wires) >>= λ ps. many 2 4096 (read_node paths names wires)

-- ---- a node

module _ (s : List ℕ) (wires at : ℕ) where
  pub ports_short : length s < at + 3 → None ≡ after at (read_ports wires) s
  unfolding read_ports
  ports_short h = after_short s at (needs_next 2 _ (λ a. stands_below s 2 wires a _ _ (stands_2 s a)) (λ p. needs_many 1 15 (below 2 wires))) h

  pub ports_high : (p : ℕ) → 3 ≤ length s → at ≤ length s - 3 → p ≡ be16 s at → wires ≤ p → None ≡ after at (read_ports wires) s
  unfolding read_ports
  ports_high p i h e l = after_stop (below 2 wires) (λ x. many 1 15 (below 2 wires)) s at (omega arith) (below_2_high s wires at (omega arith) (omega arith))

  pub ports_on : (p : ℕ) (w : Option ℕ) → 3 ≤ length s → at ≤ length s - 3 → p ≡ be16 s at → p < wires → w ≡ after (at + 2) (many 1 15 (below 2 wires)) s → w ≡ after at (read_ports wires) s
  unfolding read_ports
  ports_on p w i h e l ew =
      ew ∙ sym (after_bind (below 2 wires) (λ x. many 1 15 (below 2 wires)) s at (be16 s at) (at + 2) (omega arith) (below_2 s wires at (omega arith) (omega arith)) (omega arith))

module _ (s : List ℕ) (paths names wires at : ℕ) (m : Option ℕ) (em : m ≡ after at (read_name paths names) s) where
  -- a node's wires after its name
  abbrev wired : Name → Parser FlatNode
  wired n = below 2 wires >>= λ p. many 1 15 (below 2 wires) >>= λ ws. give (record { name = n; pri = p; aux = ws })

  pub node_bad : m ≡ None → None ≡ after at (read_node paths names wires) s
  unfolding read_node
  node_bad eb = after_bad (read_name paths names) wired s at m em eb

  pub node_on : (e : ℕ) (w : Option ℕ) → m ≡ Some e → w ≡ after e (read_ports wires) s → w ≡ after at (read_node paths names wires) s
  unfolding read_node read_ports
  node_on e w ea ew =
      ew ∙ sym (after_go (read_name paths names) wired s at _ _ e m (stands_name s paths names at) em ea
      ∙ after_same s _ _ e (same_bind s (below 2 wires) _ (λ x. many 1 15 (below 2 wires)) (λ p. same_map s (many 1 15 (below 2 wires)) _)))

pub nodes_more : (s : List ℕ) (paths names wires at at' n i : ℕ) (r x : Option ℕ) → after at (times (n - i) (read_node paths names wires)) s ≡ x → i < n
    → r ≡ after at (read_node paths names wires) s → r ≡ Some at' → after at' (times (n - (i + 1)) (read_node paths names wires)) s ≡ x
nodes_more s paths names wires at at' n i r x g h er ea = times_turn (read_node paths names wires) s at at' n i _ _ r x (stands_node s paths names wires at) g h er ea

-- ---- pairs

pub pairs_on : (s : List ℕ) (wires at k : ℕ) (w : Option ℕ) → 2 ≤ length s → at ≤ length s - 2 → k ≡ be16 s at → k < 65536
    → w ≡ after (at + 2) (times (2 * k) (below 2 wires)) s → w ≡ after at (many 2 65535 (read_pair wires)) s
unfolding read_pair
pairs_on s wires at k w i h e l ew =
    many_2_on s (read_pair wires) at 65535 k w i h e (omega arith) (ew ∙ sym (after_same s _ _ (at + 2) (pairs_same (below 2 wires) s k)))

-- ---- all that follows the head

module _ (s : List ℕ) (paths names wires at : ℕ) (f : Option ℕ) (ef : f ≡ after at (many 1 14 (below 2 wires)) s) where
  abbrev after_free : List ℕ → Parser (List FlatNode)
  after_free fs = many 2 65535 (read_pair wires) >>= λ ps. many 2 4096 (read_node paths names wires)

  pub parts_free : f ≡ None → None ≡ after at (read_parts paths names wires) s
  unfolding read_parts
  parts_free eb = after_bad (many 1 14 (below 2 wires)) after_free s at f ef eb

  module _ (e : ℕ) (ea : f ≡ Some e) (p : Option ℕ) (ep : p ≡ after e (many 2 65535 (read_pair wires)) s) where
    past_free : after at (read_parts paths names wires) s ≡ after e (after_free (list_at s at)) s
    unfolding read_parts
    past_free = after_go (many 1 14 (below 2 wires)) after_free s at _ _ e f (stands_numbers s 14 wires at) ef ea

    pub parts_pairs : p ≡ None → None ≡ after at (read_parts paths names wires) s
    parts_pairs eb = after_bad (many 2 65535 (read_pair wires)) (λ ps. many 2 4096 (read_node paths names wires)) s e p ep eb ∙ sym past_free

    pub parts_on : (q : ℕ) (w : Option ℕ) → p ≡ Some q → w ≡ after q (many 2 4096 (read_node paths names wires)) s → w ≡ after at (read_parts paths names wires) s
    parts_on q w eq ew =
        ew ∙ sym (past_free ∙ after_go (many 2 65535 (read_pair wires)) (λ ps. many 2 4096 (read_node paths names wires)) s e _ _ q p
        (stands_many s 2 65535 (read_pair wires) (pair_at s) (λ a. a + 4) e _ _ (stands_2 s e) (stands_pair s wires)) ep eq)

-- ---- a net

module _ (s : List ℕ) (paths names at : ℕ) (h : Option ℕ) (eh : h ≡ after at (read_head names) s) where
  -- a net's value from its parts
  abbrev rest : ℕ → Bool → ℕ → Parser FlatNet
  rest m i ws =
      many 1 14 (below 2 ws) >>= λ fs. many 2 65535 (read_pair ws) >>= λ ps. many 2 4096 (read_node paths names ws) >>= λ ns.
      give (record { name = m; included = i; wires = ws; free = fs; pairs = ps; nodes = ns })

  pub net_bad : h ≡ None → None ≡ after at (read_flat_net paths names) s
  unfolding read_flat_net
  net_bad eb = head_bad names rest s at h eh eb

  -- the head's seven bytes are there
  pub net_room : (e : ℕ) → h ≡ Some e → at + 7 ≤ length s
  net_room e ea = let y = went h e (stands_head s names at) eh ea in y.within

  pub net_on : (e ws : ℕ) (w : Option ℕ) → h ≡ Some e → ws ≡ be32 s (at + 3) → w ≡ after e (read_parts paths names ws) s → w ≡ after at (read_flat_net paths names) s
  unfolding read_flat_net read_parts
  net_on e ws w ea ews ew =
      let k = be32 s (at + 3) in
      rw ews at ew ∙ sym (head_go names rest s at h e eh ea
      ∙ after_same s _ _ e (same_bind s (many 1 14 (below 2 k)) _ _ (λ fs. same_bind s (many 2 65535 (read_pair k)) _ _ (λ ps. same_map s (many 2 4096 (read_node paths names k)) _))))

pub nets_more : (s : List ℕ) (paths names at at' n i : ℕ) (r x : Option ℕ) → after at (times (n - i) (read_flat_net paths names)) s ≡ x → i < n
    → r ≡ after at (read_flat_net paths names) s → r ≡ Some at' → after at' (times (n - (i + 1)) (read_flat_net paths names)) s ≡ x
nets_more s paths names at at' n i r x g h er ea = times_turn (read_flat_net paths names) s at at' n i _ _ r x (stands_net s paths names at) g h er ea

-- every way out, for the checks of the walks
pub ruleset ways = (ports_short, ports_high, ports_on, node_bad, many_2_short, many_2_high, many_2_on, pairs_on, parts_free, parts_pairs, net_bad, after_past, times_bad, times_done)
