-- The copies of a whole list, in list order.
use Prim.Native.Nat.{ℕ, suc, ◌+◌, ◌<◌}
use Rattle.std.specs.Prelude.{◌≡◌, get_or, drop}
use Rattle.std.proofs.Math.Path.{refl, sym, ap, subst}
use Rattle.std.proofs.Common.{◌∙◌}
use mathlib.Core.List.{List, [], ◌∷◌, ◌++◌, map, append_assoc}
use Rattle.std.proofs.Math.ListN.{length, length-append}
use Rattle.std.proofs.lemmas.List.{length-map}
use native.Mathlib.Omega.{arith}
use Rattle.words.specs.Choose.{lt_yes, lt_no}
use Rattle.words.specs.Left.{Left}
use Rattle.layout.specs.Layout.{net_word_words, entry_word}
use Rattle.graft.specs.Graft.{copy_node, copy_entries, copy_nodes}
use Rattle.net_file.specs.Lists.{Result, ok, refuse}
use Rattle.net_file.specs.Values.{Name}
use Rattle.definitions.specs.Lists.{◌>>=◌, each, foldl, zip_with, from}
use Rattle.definitions.specs.Nets.{Node, Graph, at, name_of, arity}
use Rattle.definitions.specs.Scripts.{Edit, Copy, fill, apply}
use Rattle.definitions.specs.Rules.{new, copy_port, copies}
use Rattle.definitions.specs.State.{Engine, graph_of, with_slots, with_graph, net_at}
use Rattle.definitions.specs.Books.{fresh, edit}
use Rattle.good_laws.specs.Good.{Good}
use Rattle.chains.specs.Seg.{Seg}
use Rattle.means.specs.Means.{entries_in, Means}
use Rattle.script_means.specs.Dead.{Dead}
use Rattle.graft_copies.specs.Copies.{Task, Copied, Copies, copy_node_means}

-- the chain from a place on
pub seg_tail : (f : ℕ → ℕ) (h : ℕ) (D : List ℕ) (c : ℕ) (Q : List ℕ) (z : ℕ) → Seg f h (D ++ c ∷ Q) z → Seg f c (c ∷ Q) z
seg_tail f h [] c Q z s = (refl, s.1)
seg_tail f h (d ∷ D) c Q z s = seg_tail f (f d) D c Q z s.1

-- what stands at that place
pub item_at : (f : ℕ → ℕ) (D : List ℕ) (c : ℕ) (Q ids : List ℕ) → map f (D ++ c ∷ Q) ≡ ids → f c ≡ get_or ids (length D) 0
item_at f [] c Q ids e = ap (λ (l : List ℕ). get_or l 0 0) e
item_at f (d ∷ D) c Q [] e = absurd (let z : suc (length (map f (D ++ c ∷ Q))) ≡ 0 = ap (λ (l : List ℕ). length l) e in omega arith)
item_at f (d ∷ D) c Q (i ∷ ids) e = item_at f D c Q ids (ap (λ (l : List ℕ). drop 1 l) e)

module _ (Named : ℕ → Name → Type 0) (x : ℕ → ℕ) (M : ℕ) (chain : List ℕ) (default : ℕ → ℕ) (g : Graph) (m into : ℕ) (ids : List ℕ)
    (task : Task M g (λ k. get_or chain k (default k)) m into ids) (N : ℕ) (P l : List ℕ) where
  abbrev number : ℕ → ℕ
  number k = get_or chain k (default k)

  -- the copy that level Engine makes of node n
  abbrev copy_of : ℕ → Node
  copy_of n = record { net = into; name = name_of g n; ports = map (copy_port number g ids) (at g n).ports }

  -- copies of xs, the first with the k-th number
  abbrev copied : ℕ → List ℕ → List Edit
  copied k xs = zip_with (λ i n. Copy (number i) (copy_of n)) (from k (length xs)) xs

  -- all are made, or the first that is not is refused by level Engine's number
  abbrev pub AllCopied : Graph → Left ℕ → Result Engine → Type 0
  AllCopied gr t (ok e) = (t.is ≡ 0) × ((blank : Graph) × Copied Named x M chain default g m into ids task N P l (length ids) gr t.ws blank e)
  AllCopied gr t (refuse r) = (t.is ≡ r) × (0 < r)

  made : (xs D Q : List ℕ) (c : ℕ) (gr : Graph) (w : List ℕ) (blank : Graph) (e : Engine) → Copied Named x M chain default g m into ids task N P l (length D) gr w blank e
      → P ≡ D ++ Q → length Q ≡ length xs → length P ≡ length ids → ((i : ℕ) → i < length xs → get_or ids (length D + i) 0 ≡ get_or xs i 0) → Seg (entries_in w N).after c Q 0
      → AllCopied (foldl apply gr (copied (length D) xs)) (copy_entries w (into + 1) c (length xs)) (each edit (copied (length D) xs) e)
  unfolding copy_entries apply with_graph with_slots arity
  made [] D [] c gr w blank e s p q r items seg = (
    refl,
    (
      blank,
      subst (λ (k : ℕ). Copied Named x M chain default g m into ids task N P l k gr w blank e)
          (let a : length P ≡ length (D ++ []) = ap (λ (l : List ℕ). length l) p in let b = length-append D [] in omega arith) s,
    ),
  )
  made [] D (d ∷ Q) c gr w blank e s p q r items seg = absurd (omega arith)
  made (n ∷ xs) D [] c gr w blank e s p q r items seg = absurd (omega arith)
  made (n ∷ xs) D (d ∷ Q) c gr w blank e s p q r items seg =
      go (edit (Copy (number (length D)) (copy_of n)) e)
      (copy_node_means Named x M chain default g m into ids task N P l (length D) gr w blank e s n is (let a : length P ≡ length (D ++ d ∷ Q) = ap (λ (l : List ℕ). length l) p in let b = length-append D (d ∷ Q) in omega arith)
      (map (copy_port number g ids) (at g n).ports) (length-map (at g n).ports (copy_port number g ids)))
      (λ w' blank' e' s'. made xs (D ++ d ∷ []) Q ((entries_in w' N).after d) (fill gr (number (length D)) (copy_of n)) w' blank' e' (rw more s') (p ∙ sym (append_assoc D (d ∷ []) Q)) (omega arith) r
      (λ i h. let z : length (D ++ d ∷ []) + i ≡ length D + suc i = let a = more in omega arith in rw z (items (suc i) (omega arith)))
      (seg_tail (entries_in w' N).after (net_word_words w' (m + 1) 2) D d Q 0 (rw p at s'.listed.seg)).1)
    where
      more : length (D ++ d ∷ []) ≡ suc (length D)
      more = let a = length-append D (d ∷ []) in omega arith

      is : get_or ids (length D) 0 ≡ n
      is = let z : length D + 0 ≡ length D = omega arith in rw z at (items 0 (omega arith))

      read : entry_word w c 0 ≡ n
      read = rw (s.means.header.nodes ∙ s.pool, seg.0) (item_at (entries_in w N).node D d Q ids (rw p at s.listed.items) ∙ is)

      all : Left ℕ → Left ℕ
      all a = copy_entries a.ws (into + 1) (entry_word a.ws c 1) (length xs)

      go : (o : Result Engine)
          → Copies Named x M chain default g m into ids task N P l (suc (length D)) (fill gr (number (length D)) (copy_of n)) (fill blank (number (length D)) (new into (name_of g n) (arity g n))) (copy_node w (into + 1) n) o
          → ((w' : List ℕ) (blank' : Graph) (e' : Engine) → Copied Named x M chain default g m into ids task N P l (suc (length D)) (fill gr (number (length D)) (copy_of n)) w' blank' e'
          → AllCopied (foldl apply (fill gr (number (length D)) (copy_of n)) (copied (length (D ++ d ∷ [])) xs)) (copy_entries w' (into + 1) ((entries_in w' N).after d) (length xs)) (each edit (copied (length (D ++ d ∷ [])) xs) e'))
          → AllCopied (foldl apply (fill gr (number (length D)) (copy_of n)) (copied (suc (length D)) xs)) (copy_entries w (into + 1) c (suc (length xs))) (o >>= λ e'. each edit (copied (suc (length D)) xs) e')
      go (ok e') t f =
          let a = copy_node w (into + 1) n in
          let s' = t.1 in
          let after : entry_word a.ws c 1 ≡ (entries_in a.ws N).after d = rw (s'.means.header.nodes ∙ s'.pool, seg.0) refl in
          rw (read, ← lt_no 0 a.is a (all a) (omega arith) refl, after) (rw more at (f a.ws _ e' s'))
      go (refuse r) t f =
          let a = copy_node w (into + 1) n in
          let z = t.0 in
          let y = t.1 in
          rw (read, ← lt_yes 0 a.is a (all a) (omega arith) refl) t

-- ---- from a net's first entry on

module _ (Named : ℕ → Name → Type 0) (x : ℕ → ℕ) (ws : List ℕ) (e : Engine) (mean : Means Named ws e) (good : Good x e) (l : List ℕ) (dead : Dead ws l) (m into : ℕ) (ids : List ℕ)
    (list : (net_at e m).list.items ≡ ids) (task : Task (length e.nets) (graph_of e) (λ k. get_or e.slots.chain k (length (graph_of e) + k)) m into ids) where
  -- before the first copy
  begin : Copied Named x (length e.nets) e.slots.chain (λ k. length (graph_of e) + k) (graph_of e) m into ids task e.pools.nodes (mean.lists.places m) l 0 (graph_of e) ws (graph_of e) e
  unfolding with_graph with_slots net_at
  begin =
      let r = mean.lists.nets m task.low in
      record {
        means = mean;
        edited = record { good = good; nets = refl; left = refl; nodes = refl };
        owned = refl;
        frames = λ n. refl;
        old = λ n h. refl;
        clones = λ i h. absurd (omega arith);
        listed = record { seg = r.chain.seg; items = r.items ∙ list };
        pool = refl;
        items = list;
        dead = dead;
      }

  -- the nodes of net m's list get copies, or the first that does not is refused by 9 or 10
  pub copy_nodes_means : AllCopied Named x (length e.nets) e.slots.chain (λ k. length (graph_of e) + k) (graph_of e) m into ids task e.pools.nodes (mean.lists.places m) l
      (foldl apply (graph_of e) (copies (fresh e) (graph_of e) ids into)) (copy_nodes ws (m + 1) (into + 1)) (each edit (copies (fresh e) (graph_of e) ids into) e)
  unfolding copy_nodes copies fresh net_at
  copy_nodes_means =
      let r = mean.lists.nets m task.low in
      let P = mean.lists.places m in
      let long : length P ≡ length ids = sym (length-map P (entries_in ws e.pools.nodes).node) ∙ ap (λ (l : List ℕ). length l) (r.items ∙ list) in
      let count : net_word_words ws (m + 1) 4 ≡ length ids = (mean.nets m task.low).length_is ∙ ap (λ (l : List ℕ). length l) list in
      rw count (made Named x (length e.nets) e.slots.chain (λ k. length (graph_of e) + k) (graph_of e) m into ids task e.pools.nodes P l ids [] P (net_word_words ws (m + 1) 2)
      (graph_of e) ws (graph_of e) e begin refl long long (λ i h. let z : 0 + i ≡ i = omega arith in rw z refl) r.chain.seg)
