-- Graft writes no word below 5.
use Prim.Native.Nat.{ℕ, zero, suc, ◌+◌}
use Rattle.std.specs.Prelude.{Bool, List}
use Rattle.std.proofs.Common.{arith}
use Rattle.words.specs.Choose.{eq_split, lt_split}
use Rattle.layout.specs.Layout.{next, net_by_name, net_word_words, node_at, entry_word, across, principal, is_principal_words}
use Rattle.lists.specs.Lists.{tighten_net_words}
use Rattle.waits.specs.declared.Awaited.{Awaited}
use Rattle.waits.specs.declared.Awaited.TheVariants.{Ready, Waiting, Full}
use Rattle.waits.specs.Waits.{await_net_words}
use Rattle.edits.specs.Edits.{place_node}
use Rattle.node_names.specs.Names.{child_count, first_child}
use Rattle.tried.specs.Tries.{spent, arity, name}
use Rattle.graft.specs.Graft.{copy_node, copy_entries, copy_nodes, copy_of, copied_port, wire_ports, wire_copy, wire_entries, wire_copies, give_way, join_ports, copied_free, graft_net_words, on_awaited, graft_ready, graft_named_words, graft_child_words, graft}
use Rattle.head_kept.specs.Words.{First, Leaves, put, pick_split, across_first, link_first, link_all_first, remove_node_first}
use Rattle.head_kept.specs.Lists.{placed_split, tighten_net_first, place_node_first}
use Rattle.head_kept.specs.Waits.{await_net_first}

-- by what awaiting a net answered
awaited_split : {A : Type 0} (s : Awaited) (a b c : A) (P : A → Type 0) → P a → P b → P c → P (on_awaited s a b c)
unfolding on_awaited
awaited_split Ready a b c P x y z = x
awaited_split Waiting a b c P x y z = y
awaited_split Full a b c P x y z = z

module _ {u : List ℕ} where
  -- ---- copies

  copy_node_first : {ws : List ℕ} → First u ws → (t n : ℕ) → First u (copy_node ws t n).ws
  unfolding copy_node
  copy_node_first {ws} f t n =
      let s = place_node_first f t (name ws n) (arity ws n) in
      placed_split (place_node ws t (name ws n) (arity ws n)).is _ _ (Leaves u) (λ m. put s (node_at n 5) m (omega arith)) (λ r. s)

  copy_entries_first : (k : ℕ) {ws : List ℕ} → First u ws → (t c : ℕ) → First u (copy_entries ws t c k).ws
  unfolding copy_entries
  copy_entries_first zero f t c = f
  copy_entries_first (suc k) {ws} f t c =
      let s = copy_node_first f t (entry_word ws c 0) in
      lt_split 0 (copy_node ws t (entry_word ws c 0)).is _ _ (Leaves u) (λ h. s) (λ h. copy_entries_first k s t _)

  wire_ports_first : (k : ℕ) {ws : List ℕ} → First u ws → (x y : ℕ) → First u (wire_ports ws x y k)
  unfolding wire_ports
  wire_ports_first zero f x y = f
  wire_ports_first (suc k) {ws} f x y = wire_ports_first k (across_first f y (copied_port ws (across ws x))) (next x) (next y)

  wire_entries_first : (k : ℕ) {ws : List ℕ} → First u ws → (c : ℕ) → First u (wire_entries ws c k)
  unfolding wire_entries wire_copy
  wire_entries_first zero f c = f
  wire_entries_first (suc k) {ws} f c =
      let n = entry_word ws c 0 in
      wire_entries_first k (wire_ports_first (arity ws n) f (principal n) (principal (copy_of ws n))) _

  -- ---- the graft

  give_way_first : {ws : List ℕ} → First u ws → (f n k : ℕ) → First u (give_way ws f n k)
  unfolding give_way
  give_way_first s f n k =
      let p = principal f in
      link_all_first k (remove_node_first (link_first (remove_node_first s f) p (next p)) n) (next (next p)) (principal n)

  join_ports_first : {ws : List ℕ} → First u ws → (f n : ℕ) → First u (join_ports ws f n).ws
  unfolding join_ports
  join_ports_first {ws} s f n = eq_split (arity ws f) (arity ws n + 2) _ _ (Leaves u) (λ h. give_way_first s f n (arity ws n)) (λ h. s)

  graft_net_first : {ws : List ℕ} → First u ws → (m t n : ℕ) → First u (graft_net_words ws m t n).ws
  unfolding graft_net_words copy_nodes wire_copies
  graft_net_first {ws} f m t n =
      let w = tighten_net_words ws m in
      let a = copy_nodes w m t in
      let s : First u a.ws = copy_entries_first (net_word_words w m 4) (tighten_net_first f m) t (net_word_words w m 2) in
      let v = wire_copies a.ws m in
      lt_split 0 a.is _ _ (Leaves u) (λ h. s) (λ h. join_ports_first (wire_entries_first (net_word_words a.ws m 4) s (net_word_words a.ws m 2)) (copied_free v m) n)

  graft_named_first : {ws : List ℕ} → First u ws → (m t n : ℕ) → First u (graft_named_words ws m t n).ws
  unfolding graft_named_words graft_ready
  graft_named_first {ws} f m t n =
      let s = await_net_first f m n in
      awaited_split (await_net_words ws m n).is _ _ _ (Leaves u) (pick_split (spent (await_net_words ws m n).ws) _ _ (Leaves u) s (graft_net_first s m t n)) s s

  graft_child_first : {ws : List ℕ} → First u ws → (file : List ℕ) (t n : ℕ) → First u (graft_child_words ws file t n).ws
  unfolding graft_child_words
  graft_child_first {ws} f file t n =
      let m = net_by_name ws (first_child file (name ws n)) in
      eq_split (child_count file (name ws n)) 0 _ _ (Leaves u) (λ h. f) (λ h. eq_split m 0 _ _ (Leaves u) (λ h. f) (λ h. graft_named_first f m t n))

  pub graft_first : {ws : List ℕ} → First u ws → (file : List ℕ) (lazy : Bool) (t n : ℕ) → First u (graft ws file lazy t n).ws
  unfolding graft
  graft_first {ws} f file lazy t n =
      let s = graft_child_first f file t n in
      pick_split lazy _ _ (Leaves u) (pick_split (is_principal_words (across ws (principal n))) _ _ (Leaves u) s f) s
