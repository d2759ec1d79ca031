-- The slots measured: each node but the free ones, once, whatever its net.
use Prim.Native.Nat.{ℕ, zero, suc, ◌+◌, ◌*◌, ◌%◌, ◌≤◌, ◌<◌}
use Rattle.std.specs.Prelude.{◌≡◌, ◌≢◌, Bool, cond, List, length, eqb}
use Rattle.std.proofs.Math.Path.{refl, sym, ap}
use Rattle.std.proofs.Common.{◌∙◌}
use Rattle.std.proofs.Math.Decide.{ℕ_discrete}
use native.Mathlib.Omega.{arith}
use Rattle.std.proofs.Math.Bool.{true}
use Rattle.std.proofs.Math.Option.{Option, none, some}
use Rattle.std.proofs.Math.ListN.{get_or}
use borrow.Author.Tests.{eq-eqb, ne_eqb}
use Rattle.words.specs.Choose.{if_eq, eq_yes, eq_no}
use Rattle.layout.specs.Layout.{next, node_word}
use Rattle.node_names.specs.Names.{child_count}
use Rattle.net_file.specs.Values.{Name}
use Rattle.definitions.specs.Lists.{or_else}
use Rattle.definitions.specs.Nets.{Graph, holds, name_of, arity}
use Rattle.definitions.specs.State.{Net, Engine, graph_of, net_at}
use Rattle.join_laws.specs.Ports.{Frame, no_frame, in_net, frame, arity_frame, holds_frame}
use Rattle.means.specs.Means.{SlotIs, Header, Nodes, Vacant, Means}
use Rattle.measure.specs.Measure.{plus, node_size, with_slot, with_slots, slots_size}
use Rattle.measure.specs.declared.Size.{Size}
use Rattle.measure_means.specs.Sums.{total, only, total_none, total_swap, total_past, total_one, only_no}

-- so many nodes and bytes, as far as 64 bits say
pub record Counts (size : Size) (nodes bytes : ℕ) : Type 0 where
  pub nodes_are : size.nodes ≡ nodes % 18446744073709551616
  pub bytes_are : size.bytes ≡ bytes % 18446744073709551616

pub counts_plus : {size : Size} {a b : ℕ} (x y : ℕ) → Counts size a b → Counts (plus size x y) (x + a) (y + b)
unfolding plus
counts_plus x y c = record { nodes_are = let e = c.nodes_are in omega arith; bytes_are = let e = c.bytes_are in omega arith }

counts_none : {size : Size} {a b : ℕ} → Counts size a b → Counts size (0 + a) (0 + b)
counts_none c = record { nodes_are = let e = c.nodes_are in omega arith; bytes_are = let e = c.bytes_are in omega arith }

-- a node's bytes: name, principal wire, the number of aux wires, these
abbrev pub node_length : Graph → ℕ → ℕ
node_length g n = 12 + 2 * length (name_of g n).children + 2 * arity g n

-- v of node n, where it is a node of net k and not its free node
abbrev pub net_weight : Engine → (ℕ → ℕ) → ℕ → ℕ → ℕ
net_weight e v k n = only (holds (graph_of e) k) (λ m. cond (eqb m (net_at e k).home.free) 0 (v m)) n

-- v of all nodes of net k but its free node
abbrev pub net_total : Engine → (ℕ → ℕ) → ℕ → ℕ
net_total e v k = total (net_weight e v k) e.pools.nodes

-- whatever its net
abbrev pub slot_weight : Engine → (ℕ → ℕ) → ℕ → ℕ
slot_weight e v n = total (λ k. net_weight e v k n) (length e.nets)

-- the place 0 names the free nodes and no other; other places tell how many children there are; slots never taken are vacant
pub record Marked (ws file : List ℕ) (e : Engine) : Type 0 where
  pub net : (k n : ℕ) → holds (graph_of e) k n ≡ true → k < length e.nets
  pub free : (k n : ℕ) → holds (graph_of e) k n ≡ true → n ≡ (net_at e k).home.free → node_word ws n 1 ≡ 0
  pub other : (k n : ℕ) → holds (graph_of e) k n ≡ true → n ≢ (net_at e k).home.free
      → (node_word ws n 1 ≢ 0) × (child_count file (node_word ws n 1) ≡ length (name_of (graph_of e) n).children)
  pub vacant : (n : ℕ) → get_or ws 9 0 ≤ n → n < e.pools.nodes → frame (graph_of e) n ≡ none

module _ (e : Engine) (v : ℕ → ℕ) (n : ℕ) where
  weight_vacant : frame (graph_of e) n ≡ none → slot_weight e v n ≡ 0
  weight_vacant h =
      total_none (λ k. net_weight e v k n) (length e.nets) (λ k i. only_no (λ m. cond (eqb m (net_at e k).home.free) 0 (v m)) (holds (graph_of e) k) n (holds_frame (graph_of e) n k ∙ ap (in_net k) h))

  weight_node : (f : Frame) → frame (graph_of e) n ≡ some f → f.net < length e.nets → slot_weight e v n ≡ cond (eqb n (net_at e f.net).home.free) 0 (v n)
  weight_node f h i =
      total_one (λ k. net_weight e v k n) f.net (length e.nets) i
      (λ k j d. only_no (λ m. cond (eqb m (net_at e k).home.free) 0 (v m)) (holds (graph_of e) k) n (holds_frame (graph_of e) n k ∙ ap (in_net k) h ∙ ne_eqb f.net k (λ z. d (sym z))))
      ∙ ap (λ (t : Bool). cond t (cond (eqb n (net_at e f.net).home.free) 0 (v n)) 0) (holds_frame (graph_of e) n f.net ∙ ap (in_net f.net) h ∙ eq-eqb f.net f.net refl)

module _ (Named : ℕ → Name → Type 0) (ws file : List ℕ) (e : Engine) (m : Means Named ws e) (mark : Marked ws file e) where
  -- a vacant slot
  slot_vacant_is : (n : ℕ) (size : Size) (a b : ℕ) → node_word ws n 0 ≡ 0 → frame (graph_of e) n ≡ none → Counts size a b
      → Counts (with_slot ws file n size) (slot_weight e (λ _. 1) n + a) (slot_weight e (node_length (graph_of e)) n + b)
  unfolding with_slot
  slot_vacant_is n size a b w i c =
      rw (weight_vacant e (λ _. 1) n i, weight_vacant e (node_length (graph_of e)) n i, ← eq_yes (node_word ws n 0) 0 size _ w refl)
      (counts_none c)

  -- a node
  slot_node_is : (n : ℕ) (f : Frame) (size : Size) (a b : ℕ) → node_word ws n 0 ≡ f.net + 1 → node_word ws n 3 ≡ f.size → frame (graph_of e) n ≡ some f → Counts size a b
      → Counts (with_slot ws file n size) (slot_weight e (λ _. 1) n + a) (slot_weight e (node_length (graph_of e)) n + b)
  unfolding with_slot node_size
  slot_node_is n f size a b w u i c =
      let g = graph_of e in
      let k = f.net in
      let held : holds g k n ≡ true = holds_frame g n k ∙ ap (in_net k) i ∙ eq-eqb k k refl in
      let low = mark.net k n held in
      let first : if_eq (node_word ws n 1) 0 size (plus size 1 (12 + 2 * child_count file (node_word ws n 1) + 2 * node_word ws n 3)) ≡ with_slot ws file n size
      = eq_no (node_word ws n 0) 0 size _ (omega arith) refl in
      rw (weight_node e (λ _. 1) n f i low, weight_node e (node_length g) n f i low, ← first) (go held (ℕ_discrete n (net_at e k).home.free))
    where
      go : holds (graph_of e) f.net n ≡ true → Dec (n ≡ (net_at e f.net).home.free)
          → Counts (if_eq (node_word ws n 1) 0 size (plus size 1 (12 + 2 * child_count file (node_word ws n 1) + 2 * node_word ws n 3)))
          (cond (eqb n (net_at e f.net).home.free) 0 1 + a) (cond (eqb n (net_at e f.net).home.free) 0 (node_length (graph_of e) n) + b)
      go held (yes d) =
          let z = mark.free f.net n held d in
          rw (eq-eqb n (net_at e f.net).home.free d, ← eq_yes (node_word ws n 1) 0 size _ z refl) (counts_none c)
      go held (no d) =
          let z = mark.other f.net n held d in
          let size_is : arity (graph_of e) n ≡ f.size = arity_frame (graph_of e) n ∙ ap (λ (o : Option Frame). (or_else o no_frame).size) i in
          rw (ne_eqb n (net_at e f.net).home.free d, ← eq_no (node_word ws n 1) 0 size _ z.0 refl, z.1, u, ← size_is) (counts_plus 1 (node_length (graph_of e) n) c)

  with_slot_is : (n : ℕ) (size : Size) (a b : ℕ) → n < e.pools.nodes → Counts size a b
      → Counts (with_slot ws file n size) (slot_weight e (λ _. 1) n + a) (slot_weight e (node_length (graph_of e)) n + b)
  with_slot_is n size a b h c = go (frame (graph_of e) n) refl (m.nodes.slot n h)
    where
      go : (o : Option Frame) → frame (graph_of e) n ≡ o → SlotIs Named ws n o → Counts (with_slot ws file n size) (slot_weight e (λ _. 1) n + a) (slot_weight e (node_length (graph_of e)) n + b)
      go none i s = slot_vacant_is n size a b s i c
      go (some f) i s = slot_node_is n f size a b s.0 s.2 i c

  -- k slots from slot n on
  with_slots_is : (k n : ℕ) (size : Size) → n + k ≤ e.pools.nodes → Counts size (total (slot_weight e (λ _. 1)) n) (total (slot_weight e (node_length (graph_of e))) n)
      → Counts (with_slots ws file n k size) (total (slot_weight e (λ _. 1)) (n + k)) (total (slot_weight e (node_length (graph_of e))) (n + k))
  unfolding with_slots
  with_slots_is zero n size h c = let z : n + 0 ≡ n = omega arith in rw z c
  with_slots_is (suc k) n size h c =
      let few = m.header.few_nodes in
      let step : next n ≡ suc n = omega arith in
      let z : n + suc k ≡ suc n + k = omega arith in
      rw (step, z) (with_slots_is k (suc n) (with_slot ws file n size) (omega arith) (with_slot_is n size _ _ (omega arith) c))

  -- all that were ever used: the nodes of all nets
  pub slots_size_is : Counts (slots_size ws file) (total (net_total e (λ _. 1)) (length e.nets)) (total (net_total e (node_length (graph_of e))) (length e.nets))
  unfolding slots_size
  slots_size_is =
      let U = get_or ws 9 0 in
      let all = m.vacant.all in
      let N = e.pools.nodes in
      let past : (v : ℕ → ℕ) → total (slot_weight e v) U ≡ total (net_total e v) (length e.nets)
      = λ v. sym (total_past (slot_weight e v) U N (omega arith) (λ n i j. weight_vacant e v n (mark.vacant n i j))) ∙ total_swap (net_weight e v) (length e.nets) N in
      let c = with_slots_is U 0 (record { nodes = 0; bytes = 0 }) (omega arith) (record { nodes_are = refl; bytes_are = refl }) in
      let z : 0 + U ≡ U = omega arith in
      rw (← past (λ _. 1), ← past (node_length (graph_of e))) (rw z at c)
