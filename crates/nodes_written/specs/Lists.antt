-- A net's list written, entry by entry along its chain: each live node at its first place, in order.
use Rattle.std.specs.Prelude.{ℕ, suc, ◌+◌, ◌*◌, ◌<◌, ◌≤◌, ◌≡◌, refl, ◌⊎◌, Bool, true, false, length, get_or}
use Rattle.std.proofs.Common.{sym, ap, ◌∙◌, subst, length-append, arith}
use Rattle.std.proofs.Math.Logic.{inl, inr}
use mathlib.Core.List.Memᴰ
use mathlib.Core.List.{List, [], ◌∷◌, ◌++◌, map, append_assoc, append-nil, Memᴰ}
use Rattle.std.proofs.Math.Decide.{ℕ_discrete}
use Rattle.layout.specs.Layout.{node_word, entry_word}
use Rattle.store.specs.Store.{store}
use Rattle.net_file.specs.Lists.{concat_map}
use Rattle.dirty_laws.specs.Tally.{off, off_same, off_other}
use Rattle.definitions.specs.Nets.{Port, Graph, ports}
use Rattle.definitions.specs.Finish.{wire_at}
use Rattle.chains.specs.Seg.{Seg, All}
use Rattle.chains.specs.Pools.{View}
use Rattle.means.specs.Means.{entries_in}
use Rattle.means.specs.Frame.{Rest}
use Rattle.tighten_means.specs.Sieve.{sieve}
use Rattle.write_nodes.specs.Wrote.{Wrote}
use Rattle.write_nodes.specs.Nodes.{write_entry, write_entries}
use Rattle.write_nodes.specs.declared.Pen.{Pen}
use Rattle.write_nodes.specs.declared.Page.{Page}
use Rattle.wires_means.specs.Met.{meets, meets_append, Front, front_back}
use Rattle.wires_means.specs.Wires.{Region}
use Rattle.wires_means.specs.Rows.{Ready}
use Rattle.nodes_written.specs.Nodes.{with_node}
use Rattle.nodes_written.specs.Entries.{OutRegion, Sheet, node_bytes, free_bytes, with_free, free_done, Pass, entry_stale_is, entry_live_is}

-- the wires at the ports of nodes
abbrev pub wires_at : Graph → List ℕ → List Port
wires_at g ids = map (wire_at g) (concat_map (ports g) ids)

-- the bytes of nodes
abbrev pub nodes_bytes : Graph → List Port → ℕ → List ℕ → List ℕ
nodes_bytes g whole free ids = concat_map (node_bytes g whole free) ids

map_join : {A B : Type 0} (f : A → B) (xs ys : List A) → map f (xs ++ ys) ≡ map f xs ++ map f ys
map_join f [] ys = refl
map_join {A} {B} f (x ∷ xs) ys = ap {B = List B} (λ l. f x ∷ l) (map_join f xs ys)

-- first one node's wires, then the others'
meets_node : (g : Graph) (d : List Port) (n : ℕ) (ids : List ℕ) → meets d (wires_at g (n ∷ ids)) ≡ meets (with_node g d n) (wires_at g ids)
meets_node g d n ids = ap (meets d) (map_join (wire_at g) (ports g n) (concat_map (ports g) ids)) ∙ meets_append d (map (wire_at g) (ports g n)) (wires_at g ids)

-- the first entry, then the others
entries_cons : (ws file out : List ℕ) (page : Page) (c n d k : ℕ) (pen : Pen) → entry_word ws c 0 ≡ n → entry_word (write_entry ws file out page n pen).ws c 1 ≡ d
    → write_entries ws file out page c (suc k) pen
    ≡ write_entries (write_entry ws file out page n pen).ws file (write_entry ws file out page n pen).out page d k (write_entry ws file out page n pen).is
unfolding write_entries
entries_cons ws file out page c n d k pen e f = rw (e, f)

module _ {g : Graph} {N : ℕ} {D : ℕ → Type 0} (r : Region g N D) (whole : List Port) (few : length whole < 2147483648)
    (file ws₀ out₀ : List ℕ) (page : Page) (free at : ℕ) (sheet : Sheet g D file ws₀ page.net.0 free)
    (apart : page.free + length (free_bytes g whole free) ≤ at) (size : length out₀ < 18446744073709551616) where
  -- where the pass stands
  abbrev Stands : (ℕ → Bool) → List Port → List ℕ → Wrote Pen → Type 0
  Stands b d bytes x = Pass r whole few file ws₀ out₀ page free at sheet b d bytes x

  -- one entry n was written, of which and of ns the nodes `ids` are live
  record Step (b : ℕ → Bool) (d : List Port) (bytes : List ℕ) (n : ℕ) (ns ids : List ℕ) (y : Wrote Pen) : Type 0 where
    left : ℕ → Bool
    met : List Port
    written : List ℕ
    pass : Stands left met written y
    met_same : meets met (wires_at g (sieve left ns)) ≡ meets d (wires_at g ids)
    bytes_same : written ++ nodes_bytes g whole free (sieve left ns) ≡ bytes ++ nodes_bytes g whole free ids
    gone : free ≡ n → left free ≡ false
    fewer : b free ≡ false → left free ≡ false

  step : (b : ℕ → Bool) (d : List Port) (bytes : List ℕ) (x : Wrote Pen) (n : ℕ) (ns : List ℕ) → Stands b d bytes x → n < N
      → Front (meets d (wires_at g (sieve b (n ∷ ns)))) whole → at + length (bytes ++ nodes_bytes g whole free (sieve b (n ∷ ns))) ≤ length out₀
      → Step b d bytes n ns (sieve b (n ∷ ns)) (write_entry x.ws file x.out page n x.is)
  step b d bytes x n ns p h f room = go (b n) refl f room
    where
      go : (t : Bool) → b n ≡ t → Front (meets d (wires_at g (elim t as (λ _. List ℕ) [ true ↦ n ∷ sieve (off b n) ns | false ↦ sieve b ns ]))) whole
          → at + length (bytes ++ nodes_bytes g whole free (elim t as (λ _. List ℕ) [ true ↦ n ∷ sieve (off b n) ns | false ↦ sieve b ns ])) ≤ length out₀
          → Step b d bytes n ns (elim t as (λ _. List ℕ) [ true ↦ n ∷ sieve (off b n) ns | false ↦ sieve b ns ]) (write_entry x.ws file x.out page n x.is)
      go false e f' room' = rw (entry_stale_is r whole few file ws₀ out₀ page free at sheet b d bytes x n p h e) (record {
        left = b;
        met = d;
        written = bytes;
        pass = p;
        met_same = refl;
        bytes_same = refl;
        gone = λ i. rw i e;
        fewer = λ i. i;
      })
      go true e f' room' =
          let ids = sieve (off b n) ns in
          let one = node_bytes g whole free n in
          let more = nodes_bytes g whole free ids in
          let l = length-append bytes (one ++ more) in
          let l1 = length-append one more in
          let l2 = length-append bytes one in
          record {
            left = off b n;
            met = with_node g d n;
            written = bytes ++ one;
            pass = entry_live_is r whole few file ws₀ out₀ page free at sheet b d bytes x n p e (front_back (wires_at g ids) (subst (λ (c : List Port). Front c whole) (meets_node g d n ids) f')) apart
                (omega arith) size;
            met_same = sym (meets_node g d n ids);
            bytes_same = append_assoc bytes one more;
            gone = λ i. rw i (off_same b n);
            fewer = λ i. elim (ℕ_discrete free n) [ yes s ↦ rw s (off_same b n) | no s ↦ off_other b n free s ∙ i ];
          }

  -- the entries of xs were written
  pub record Penned (b : ℕ → Bool) (d : List Port) (bytes xs : List ℕ) (y : Wrote Pen) : Type 0 where
    pub left : ℕ → Bool
    pub pass : Stands left (meets d (wires_at g (sieve b xs))) (bytes ++ nodes_bytes g whole free (sieve b xs)) y
    pub gone : Memᴰ free xs → left free ≡ false
    pub fewer : b free ≡ false → left free ≡ false

  -- all of it: the nodes' bytes at their place, the free wires at theirs, and the wires that were met
  pub record Listed (nodes : List ℕ) (met : List Port) (y : Wrote Pen) : Type 0 where
    pub at_is : y.is.at ≡ at + length nodes
    pub wires : y.is.wire ≡ length met
    pub out_is : y.out ≡ store at nodes (store page.free (free_bytes g whole free) out₀)
    pub rest : Rest (OutRegion D) ws₀ y.ws
    pub net : (n : ℕ) → n < N → (node_word y.ws n 0 ≡ node_word ws₀ n 0) ⊎ (node_word y.ws n 0 ≡ 0)

  -- where the free node is among the entries
  pub penned_all : {b : ℕ → Bool} {xs nodes : List ℕ} {met : List Port} {y : Wrote Pen} → Penned b [] [] xs y → Memᴰ free xs
      → nodes_bytes g whole free (sieve b xs) ≡ nodes → meets [] (wires_at g (sieve b xs)) ≡ met → Listed nodes met y
  penned_all {nodes = nodes} {y = y} p there e f = record {
    at_is = rw (← e) p.pass.at_is;
    wires = rw (← f) p.pass.ready.wire;
    out_is = subst (λ (l : List ℕ). y.out ≡ store at l (with_free (p.left free) page.free (free_bytes g whole free) out₀)) e p.pass.out_is
        ∙ ap (store at nodes) (free_done page.free (free_bytes g whole free) out₀ (p.left free) (p.gone there));
    rest = p.pass.rest;
    net = p.pass.net;
  }

  module _ (pool : get_or ws₀ 1 0 ≡ N) where
    -- an entry's words are as they were
    entry_kept : {b : ℕ → Bool} {d : List Port} {bytes : List ℕ} {x : Wrote Pen} → Stands b d bytes x → (c f : ℕ) → 0 < c → entry_word x.ws c f ≡ get_or ws₀ (5214 + 32 * N + 2 * c + f) 0
    entry_kept {x = x} p c f h =
        let n : get_or x.ws 1 0 ≡ N = p.rest.same 1 (λ m o. (omega arith, λ j i. omega arith)) ∙ pool in
        rw n (p.rest.same _ (λ m o. let i = r.inside m o in (omega arith, λ j k. omega arith)))

    pub write_entries_is : (l : List ℕ) (c z : ℕ) (b : ℕ → Bool) (d : List Port) (bytes : List ℕ) (x : Wrote Pen) → Stands b d bytes x
        → Seg (entries_in ws₀ N).after c l z → All (λ q. 0 < q) l → All (λ q. (entries_in ws₀ N).node q < N) l
        → Front (meets d (wires_at g (sieve b (map (entries_in ws₀ N).node l)))) whole
        → at + length (bytes ++ nodes_bytes g whole free (sieve b (map (entries_in ws₀ N).node l))) ≤ length out₀
        → Penned b d bytes (map (entries_in ws₀ N).node l) (write_entries x.ws file x.out page c (length l) x.is)
    unfolding write_entries
    write_entries_is [] c z b d bytes x p s pos low f room = record {
      left = b;
      pass = rw (append-nil bytes) p;
      gone = λ m. absurd (Memᴰ.not-nil m);
      fewer = λ i. i;
    }
    write_entries_is (q ∷ l) c z b d bytes x p s pos low f room =
        let n = (entries_in ws₀ N).node q in
        let ns = map (entries_in ws₀ N).node l in
        let at_c : c ≡ q = s.0 in
        let node : entry_word x.ws c 0 ≡ n = rw at_c (entry_kept p q 0 pos.0) in
        let y = write_entry x.ws file x.out page n x.is in
        let a = step b d bytes x n ns p low.0 f room in
        let next : entry_word y.ws c 1 ≡ (entries_in ws₀ N).after q = rw at_c (entry_kept a.pass q 1 pos.0) in
        let e = write_entries_is l ((entries_in ws₀ N).after q) z a.left a.met a.written y a.pass s.1 pos.1 low.1 (rw a.met_same f) (rw a.bytes_same room) in
        rw (entries_cons x.ws file x.out page c n ((entries_in ws₀ N).after q) (length l) x.is node next) (record {
          left = e.left;
          pass = rw (← a.met_same, ← a.bytes_same) e.pass;
          gone = λ m. elim (Memᴰ.cases_cons m) [ inl i ↦ e.fewer (a.gone i) | inr i ↦ e.gone i ];
          fewer = λ i. e.fewer (a.fewer i);
        })
