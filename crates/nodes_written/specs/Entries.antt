-- One entry of a net's list written: a stale one is passed over, a live node is written at its first place and is of no net from then on.
use Prim.Native.Nat.{ℕ, suc, ◌+◌, ◌*◌, ◌-◌, ◌<◌, ◌≤◌}
use Rattle.std.specs.Prelude.{◌≡◌, ◌≢◌, ◌⊎◌, Bool, drop, eqb}
use Rattle.std.proofs.Math.Path.{refl, sym, ap, subst}
use Rattle.std.proofs.Common.{◌∙◌, inr, get_or-set_same, eq-eqb, ne_eqb}
use Rattle.std.proofs.Math.Bool.{true, false}
use mathlib.Core.List.{List, [], ◌++◌, map, append-nil}
use Rattle.std.proofs.Math.ListN.{length, length-set, length-append}
use Rattle.std.proofs.Math.Seq.{get_or-set_other}
use native.Mathlib.Omega.{arith}
use Rattle.std.proofs.Math.Decide.{ℕ_discrete}
use Rattle.words.specs.Choose.{pick, pick_true, pick_false, eq_yes, eq_no}
use Rattle.layout.specs.Layout.{net_word_words, node_at, node_word, set_node_word}
use Rattle.net_file.specs.Write.{write_node}
use Rattle.store.specs.Store.{store}
use Rattle.dirty_laws.specs.Tally.{off, off_same, off_other, off_true}
use Rattle.definitions.specs.Lists.{from}
use Rattle.definitions.specs.Nets.{Port, Graph, port, name_of, arity, ports, follow}
use Rattle.definitions.specs.Finish.{flat_node}
use Rattle.join_laws.specs.Ports.{Real}
use Rattle.means.specs.Means.{number}
use Rattle.means.specs.Frame.{Rest, rest_set, rest_trans}
use Rattle.write_nodes.specs.Wrote.{Wrote}
use Rattle.write_nodes.specs.Nodes.{write_free, write_node_words, write_live, write_entry}
use Rattle.write_nodes.specs.declared.Pen.{Pen}
use Rattle.write_nodes.specs.declared.Page.{Page}
use Rattle.wires_means.specs.Met.{Front}
use Rattle.wires_means.specs.Stores.{length_store, store_then, store_apart}
use Rattle.wires_means.specs.Wires.{Region, Numbered, OutPorts}
use Rattle.wires_means.specs.Rows.{Ready, Drew, wire_bytes, length_row}
use Rattle.nodes_written.specs.Nodes.{with_node, Spelt, write_free_is, write_node_is}

-- all words but the nets and ports of the nodes D
abbrev pub OutRegion : (ℕ → Type 0) → ℕ → Type 0
OutRegion D i = (n : ℕ) → D n → (i ≢ node_at n 0) × ((j : ℕ) → j < 16 → i ≢ 5184 + (32 * n + (8 + j)))

-- a slot's word says that it is of net t, or not
abbrev pub Says : Bool → ℕ → ℕ → Type 0
Says true t v = v ≡ t
Says false t v = v ≢ t

-- what the words say of the nodes D, of which `free` is the free node of net t, before one is written
pub record Sheet (g : Graph) (D : ℕ → Type 0) (file ws : List ℕ) (t free : ℕ) : Type 0 where
  pub free_is : net_word_words ws t 1 ≡ free
  pub size : (n : ℕ) → D n → node_word ws n 3 ≡ arity g n
  pub spelt : (n : ℕ) → D n → n ≢ free → Spelt file (node_word ws n 1) (name_of g n)
  pub ported : (n : ℕ) → D n → 0 < arity g n
  pub two : 2 ≤ arity g free
  pub own : follow g (port free 0) ≡ port free 1
  pub net : 0 < t
  pub few : t ≤ 256

-- the bytes of node n: none of the free node
unfoldable pub node_bytes : Graph → List Port → ℕ → ℕ → List ℕ
node_bytes g whole free n = pick (eqb n free) [] (write_node (flat_node g whole n))

pub bytes_free : (g : Graph) (whole : List Port) (free n : ℕ) → n ≡ free → node_bytes g whole free n ≡ []
unfolding node_bytes
bytes_free g whole free n e = sym (pick_true _ _ _ (eq-eqb n free e) refl)

pub bytes_node : (g : Graph) (whole : List Port) (free n : ℕ) → n ≢ free → node_bytes g whole free n ≡ write_node (flat_node g whole n)
unfolding node_bytes
bytes_node g whole free n e = sym (pick_false _ _ _ (ne_eqb n free e) refl)

-- the free node's wires
abbrev pub free_bytes : Graph → List Port → ℕ → List ℕ
free_bytes g whole free = wire_bytes g whole (drop 2 (ports g free))

free_long : (g : Graph) (whole : List Port) (free k : ℕ) → arity g free ≡ suc (suc k) → length (free_bytes g whole free) ≡ 2 * k
unfolding ports
free_long g whole free k e = ap (λ (a : ℕ). length (wire_bytes g whole (drop 2 (map (port free) (from 0 a))))) e ∙ length_row g whole free 2 k

-- the output with the free wires, once the free node was met
unfoldable pub with_free : Bool → ℕ → List ℕ → List ℕ → List ℕ
with_free b at bytes out = pick b out (store at bytes out)

module _ (at : ℕ) (bytes out : List ℕ) where
  pub free_due : (b : Bool) → b ≡ true → with_free b at bytes out ≡ out
  unfolding with_free
  free_due b e = sym (pick_true _ _ _ e refl)

  pub free_done : (b : Bool) → b ≡ false → with_free b at bytes out ≡ store at bytes out
  unfolding with_free
  free_done b e = sym (pick_false _ _ _ e refl)

  pub length_free : (b : Bool) → at + length bytes ≤ length out → length (with_free b at bytes out) ≡ length out
  unfolding with_free pick
  length_free true h = refl
  length_free false h = length_store out at bytes h

module _ {g : Graph} {N : ℕ} {D : ℕ → Type 0} (r : Region g N D) (whole : List Port) (few : length whole < 2147483648)
    (file ws₀ out₀ : List ℕ) (page : Page) (free at : ℕ) (sheet : Sheet g D file ws₀ page.net.0 free) where
  -- the nodes that pass b are still to be written, the wires d are met, these bytes are written
  pub record Pass (b : ℕ → Bool) (d : List Port) (bytes : List ℕ) (x : Wrote Pen) : Type 0 where
    pub ready : Ready g N D d x.ws x.is
    pub rest : Rest (OutRegion D) ws₀ x.ws
    pub slot : (n : ℕ) → n < N → Says (b n) page.net.0 (node_word x.ws n 0)
    pub net : (n : ℕ) → n < N → (node_word x.ws n 0 ≡ node_word ws₀ n 0) ⊎ (node_word x.ws n 0 ≡ 0)
    pub mine : (n : ℕ) → b n ≡ true → D n
    pub at_is : x.is.at ≡ at + length bytes
    pub out_is : x.out ≡ store at bytes (with_free (b free) page.free (free_bytes g whole free) out₀)

  -- a stale entry
  pub entry_stale_is : (b : ℕ → Bool) (d : List Port) (bytes : List ℕ) (x : Wrote Pen) (n : ℕ) → Pass b d bytes x → n < N → b n ≡ false
      → write_entry x.ws file x.out page n x.is ≡ x
  unfolding write_entry
  entry_stale_is b d bytes x n p h e =
      let s : Says false page.net.0 (node_word x.ws n 0) = subst (λ (c : Bool). Says c page.net.0 (node_word x.ws n 0)) e (p.slot n h) in
      sym (eq_no _ _ _ _ s refl)

  module _ (b : ℕ → Bool) (d : List Port) (bytes : List ℕ) (x : Wrote Pen) (n : ℕ) (p : Pass b d bytes x) (live : b n ≡ true) where
    cleared : List ℕ
    cleared = set_node_word x.ws n 0 0

    here : n < N
    here = r.inside n (p.mine n live)

    -- the words, where node n is of no net
    ready_cleared : Ready g N D d cleared x.is
    unfolding cleared
    ready_cleared = record {
      long = let l = p.ready.long in let k = length-set x.ws (node_at n 0) 0 in omega arith;
      ports = λ q m real. let low = r.few q.node in get_or-set_other x.ws (node_at n 0) (5184 + number q) 0 0 (omega arith) ∙ p.ready.ports q m real;
      wire = p.ready.wire;
    }

    rest_cleared : Rest (OutRegion D) ws₀ cleared
    unfolding cleared
    rest_cleared = rest_trans p.rest (rest_set (OutRegion D) x.ws (node_at n 0) 0 (λ i o. (o n (p.mine n live)).0))

    -- words 1 and 3 of a node are as they were
    size_cleared : node_word cleared n 3 ≡ arity g n
    size_cleared = rest_cleared.same (node_at n 3) (λ m o. (omega arith, λ j h. omega arith)) ∙ sheet.size n (p.mine n live)

    name_cleared : n ≢ free → Spelt file (node_word cleared n 1) (name_of g n)
    name_cleared e = rw (rest_cleared.same (node_at n 1) (λ m o. (omega arith, λ j h. omega arith))) (sheet.spelt n (p.mine n live) e)

    free_cleared : net_word_words cleared page.net.0 1 ≡ free
    free_cleared = let t = sheet.few in rest_cleared.same _ (λ m o. (omega arith, λ j h. omega arith)) ∙ sheet.free_is

    -- what is left of the pass is as it was, where only ports are written
    slot_after : (y : List ℕ) → Rest (OutPorts D) cleared y → (m : ℕ) → m < N → Says (off b n m) page.net.0 (node_word y m 0)
    unfolding cleared
    slot_after y e m h = go (ℕ_discrete m n)
      where
        word : node_word y m 0 ≡ node_word (set_node_word x.ws n 0 0) m 0
        word = e.same (node_at m 0) (λ q j o l. omega arith)

        go : Dec (m ≡ n) → Says (off b n m) page.net.0 (node_word y m 0)
        go (yes s) =
            let l = p.ready.long in
            let t = sheet.net in
            let i = here in
            let v : node_word y n 0 ≡ 0 = rw (← s) (word ∙ rw s (get_or-set_same x.ws (node_at n 0) 0 0 (omega arith))) in
            rw (s, off_same b n) (λ (z : node_word y n 0 ≡ page.net.0). absurd (omega arith))
        go (no s) = rw (off_other b n m s, word, get_or-set_other x.ws (node_at n 0) (node_at m 0) 0 0 (omega arith)) (p.slot m h)

    net_after : (y : List ℕ) → Rest (OutPorts D) cleared y → (m : ℕ) → m < N → (node_word y m 0 ≡ node_word ws₀ m 0) ⊎ (node_word y m 0 ≡ 0)
    unfolding cleared
    net_after y e m h = go (ℕ_discrete m n)
      where
        word : node_word y m 0 ≡ node_word (set_node_word x.ws n 0 0) m 0
        word = e.same (node_at m 0) (λ q j o l. omega arith)

        go : Dec (m ≡ n) → (node_word y m 0 ≡ node_word ws₀ m 0) ⊎ (node_word y m 0 ≡ 0)
        go (yes s) = let l = p.ready.long in let i = here in inr (word ∙ rw s (get_or-set_same x.ws (node_at n 0) 0 0 (omega arith)))
        go (no s) = rw (word, get_or-set_other x.ws (node_at n 0) (node_at m 0) 0 0 (omega arith)) (p.net m h)

    -- a node's entry, as its net has it
    entry_is : write_entry x.ws file x.out page n x.is ≡ write_live x.ws file x.out page n x.is
    unfolding write_entry
    entry_is =
        let s : Says true page.net.0 (node_word x.ws n 0) = subst (λ (c : Bool). Says c page.net.0 (node_word x.ws n 0)) live (p.slot n here) in
        sym (eq_yes _ _ _ _ s refl)

    module _ (front : Front (with_node g d n) whole) (apart : page.free + length (free_bytes g whole free) ≤ at)
        (room : at + length (bytes ++ node_bytes g whole free n) ≤ length out₀) (size : length out₀ < 18446744073709551616) where
      -- what is written of a node, once it was written at its place
      passed : (y : Wrote Pen) (place : ℕ) (more : List ℕ) → Drew g N D cleared x.out place (at + length (bytes ++ node_bytes g whole free n)) (with_node g d n) more y
          → store place more x.out ≡ store at (bytes ++ node_bytes g whole free n) (with_free (off b n free) page.free (free_bytes g whole free) out₀)
          → Pass (off b n) (with_node g d n) (bytes ++ node_bytes g whole free n) y
      passed y place more w e = record {
        ready = w.ready;
        rest = rest_trans rest_cleared (record { long = w.rest.long; same = λ i o. w.rest.same i (λ m j k l. (o m k).1 j l) });
        slot = slot_after y.ws w.rest;
        net = net_after y.ws w.rest;
        mine = λ m h. p.mine m (off_true b n m h).0;
        at_is = w.end_is;
        out_is = w.out_is ∙ e;
      }

      -- the free node
      live_free_is : n ≡ free → Pass (off b n) (with_node g d n) (bytes ++ node_bytes g whole free n) (write_live x.ws file x.out page n x.is)
      unfolding write_live cleared
      live_free_is e =
          let none = bytes_free g whole free n e in
          let all : bytes ++ node_bytes g whole free n ≡ bytes = ap (λ (l : List ℕ). bytes ++ l) none ∙ append-nil bytes in
          let a = sheet.two in
          let f = free_bytes g whole free in
          let size_is : arity g n ≡ suc (suc (arity g free - 2)) = rw e (omega arith) in
          let long_f : length f ≡ 2 * (arity g free - 2) = free_long g whole free (arity g free - 2) (omega arith) in
          let due : with_free (b free) page.free f out₀ ≡ out₀ = free_due page.free f out₀ (b free) (rw (← e) live) in
          let out_is : x.out ≡ store at bytes out₀ = p.out_is ∙ ap (store at bytes) due in
          let long : length x.out ≡ length out₀ = rw out_is (length_store out₀ at bytes (rw all at room)) in
          let w = write_free_is r whole few cleared x.out d n (arity g free - 2) page.free x.is ready_cleared (p.mine n live) size_is size_cleared (rw e sheet.own) front
          (omega arith) (omega arith) in
          let done : with_free (off b n free) page.free f out₀ ≡ store page.free f out₀ = free_done page.free f out₀ (off b n free) (rw (← e) (off_same b n)) in
          rw (← eq_yes n (net_word_words cleared page.net.0 1) (write_free cleared x.out n page.free x.is) (write_node_words cleared file x.out n x.is) (e ∙ sym free_cleared) refl)
          (passed _ page.free f (rw (all, ← p.at_is) (subst (λ (m : ℕ). Drew g N D cleared x.out page.free x.is.at (with_node g d n) (wire_bytes g whole (drop 2 (ports g m)))
          (write_free cleared x.out n page.free x.is)) e w)) (rw (all, done, out_is) (store_apart out₀ at page.free bytes f apart (rw all at room))))

      -- another node
      live_node_is : n ≢ free → Pass (off b n) (with_node g d n) (bytes ++ node_bytes g whole free n) (write_live x.ws file x.out page n x.is)
      unfolding write_live cleared
      live_node_is e =
          let node = write_node (flat_node g whole n) in
          let one : node_bytes g whole free n ≡ node = bytes_node g whole free n e in
          let f = free_bytes g whole free in
          let before = with_free (b free) page.free f out₀ in
          let l = length-append bytes node in
          let room' : at + length (bytes ++ node) ≤ length out₀ = rw one at room in
          let base : length before ≡ length out₀ = length_free page.free f out₀ (b free) (omega arith) in
          let long : length x.out ≡ length out₀ = rw p.out_is (length_store before at bytes (omega arith) ∙ base) in
          let a = sheet.ported n (p.mine n live) in
          let size_is : arity g n ≡ suc (arity g n - 1) = omega arith in
          let k = p.at_is in
          let w = write_node_is r whole few cleared file x.out d n (arity g n - 1) x.is ready_cleared (p.mine n live) size_is size_cleared (name_cleared e) front
          (omega arith) (omega arith) in
          let end : x.is.at + length node ≡ at + length (bytes ++ node) = omega arith in
          rw (← eq_no n (net_word_words cleared page.net.0 1) (write_free cleared x.out n page.free x.is) (write_node_words cleared file x.out n x.is) (λ h. e (h ∙ free_cleared)) refl)
          (passed _ x.is.at node (rw (one, ← end) w) (rw (one, off_other b n free (λ h. e (sym h)), k, p.out_is) (store_then before at bytes node (omega arith))))

      pub entry_live_is : Pass (off b n) (with_node g d n) (bytes ++ node_bytes g whole free n) (write_entry x.ws file x.out page n x.is)
      entry_live_is = rw entry_is (elim (ℕ_discrete n free) [ yes e ↦ live_free_is e | no e ↦ live_node_is e ])
