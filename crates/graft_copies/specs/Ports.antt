-- `wire_copies`, word by word: each port of each copy gets its value, and no other word is written.
use Prim.Native.Nat.{ℕ, zero, suc, ◌+◌, ◌*◌, ◌<◌, ◌≤◌}
use Rattle.std.specs.Prelude.{◌≡◌, ◌≢◌}
use Rattle.std.proofs.Math.Path.{refl, sym, ap, subst}
use Rattle.std.proofs.Common.{◌∙◌, get_or-set_same, get_or-set_other}
use mathlib.Core.List.{List, [], ◌∷◌, ◌++◌, append_assoc}
use Rattle.std.proofs.Math.ListN.{length, get_or, set, length-append}
use Rattle.std.proofs.lemmas.List.{length-map}
use native.Mathlib.Omega.{arith}
use Rattle.std.proofs.Math.Decide.{ℕ_discrete}
use Rattle.layout.specs.Layout.{next, node_pool, node_at, node_word, net_at_words, net_word_words, entry_word, across, principal}
use Rattle.graft.specs.Graft.{copied_port, wire_ports, wire_copy, wire_entries, wire_copies}
use Rattle.chains.specs.Seg.{Seg}
use Rattle.means.specs.Means.{entries_in}
use Rattle.means.specs.Frame.{Rest, rest_set, rest_trans}
use Rattle.graft_copies.specs.Spares.{Places, places_keep}
use Rattle.graft_copies.specs.Whole.{seg_tail, item_at}

-- the word of no port of the first c nodes of these numbers
abbrev pub Apart : (ℕ → ℕ) → ℕ → ℕ → Type 0
Apart number c i = (k a : ℕ) → k < c → a < 16 → i ≢ 5184 + (32 * number k + (8 + a))

-- words of slots that are no ports
pub word_apart : (number : ℕ → ℕ) (c n f : ℕ) → f < 8 → Apart number c (node_at n f)
word_apart number c n f b k a i j d = omega arith

-- words before the slots
pub before : (number : ℕ → ℕ) (c i : ℕ) → i < 5184 → Apart number c i
before number c i b k a j d q = omega arith

-- the nodes `ids` of net m's list, of N slots, have copies of these numbers and sizes; `value` is what the ports of the copies get
pub record Wirable (w : List ℕ) (N m : ℕ) (P ids : List ℕ) (number size : ℕ → ℕ) (value : ℕ → ℕ → ℕ) : Type 0 where
  pub few : N ≤ 4096
  pub long : 5216 + 32 * N ≤ length w
  pub pool : node_pool w ≡ N
  pub net : m < 256
  pub count : net_word_words w (m + 1) 4 ≡ length ids
  pub listed : Places w N m P ids
  pub slot : (k : ℕ) → k < length ids → get_or ids k 0 < N
  pub low : (k : ℕ) → k < length ids → number k < N
  pub differ : (j k : ℕ) → number j ≡ number k → j ≡ k
  pub clone : (k : ℕ) → k < length ids → node_word w (get_or ids k 0) 5 ≡ number k
  pub sized : (k : ℕ) → k < length ids → node_word w (get_or ids k 0) 3 ≡ size k
  pub most : (k : ℕ) → k < length ids → size k ≤ 16
  pub values : (k a : ℕ) → k < length ids → a < size k → (v : List ℕ) → Rest (Apart number (length ids)) w v → copied_port v (across v (32 * get_or ids k 0 + (8 + a))) ≡ value k a

-- all ports have their values
pub record Set (w : List ℕ) (ids : List ℕ) (number size : ℕ → ℕ) (value : ℕ → ℕ → ℕ) (v : List ℕ) : Type 0 where
  pub rest : Rest (Apart number (length ids)) w v
  pub done : (k a : ℕ) → k < length ids → a < size k → across v (32 * number k + (8 + a)) ≡ value k a

module _ (w : List ℕ) (N m : ℕ) (P ids : List ℕ) (number size : ℕ → ℕ) (value : ℕ → ℕ → ℕ) (s : Wirable w N m P ids number size value) where
  -- port a of node n
  abbrev port : ℕ → ℕ → ℕ
  port n a = 32 * n + (8 + a)

  -- the copies before the k-th are wired, and of that one the ports before a
  record Wiring (k a : ℕ) (v : List ℕ) : Type 0 where
    pub rest : Rest (Apart number (length ids)) w v
    pub done : (j b : ℕ) → j < k → b < size j → across v (port (number j) b) ≡ value j b
    pub part : (b : ℕ) → b < a → across v (port (number k) b) ≡ value k b

  after : (i : ℕ) → 5184 + 32 * N ≤ i → Apart number (length ids) i
  after i b k a c d q = let z = s.low k c in omega arith

  -- one port more
  port_wired : (k : ℕ) → k < length ids → (a : ℕ) → a < size k → (v : List ℕ) → Wiring k a v → Wiring k (suc a) (set v (5184 + port (number k) a) (copied_port v (across v (port (get_or ids k 0) a))))
  port_wired k inside a real v t =
      let lk = s.low k inside in
      let most = s.most k inside in
      let u = copied_port v (across v (port (get_or ids k 0) a)) in
      record {
        rest = rest_trans t.rest (rest_set (Apart number (length ids)) v (5184 + port (number k) a) u (λ i o. o k a inside (omega arith)));
        done = λ j b c d. let f = s.most j (omega arith) in let z : number j ≢ number k = λ y. let o = s.differ j k y in omega arith in
            get_or-set_other v (5184 + port (number k) a) (5184 + port (number j) b) u 0 (omega arith) ∙ t.done j b c d;
        part = λ b c. go b c (ℕ_discrete b a);
      }
    where
      go : (b : ℕ) → b < suc a → Dec (b ≡ a) → across (set v (5184 + port (number k) a) (copied_port v (across v (port (get_or ids k 0) a)))) (port (number k) b) ≡ value k b
      go b c (yes y) =
          let lk = s.low k inside in
          let most = s.most k inside in
          let o = s.long in
          let z = t.rest.long in
          rw y (get_or-set_same v (5184 + port (number k) a) (copied_port v (across v (port (get_or ids k 0) a))) 0 (omega arith) ∙ s.values k a inside real v t.rest)
      go b c (no y) = get_or-set_other v (5184 + port (number k) a) (5184 + port (number k) b) (copied_port v (across v (port (get_or ids k 0) a))) 0 (omega arith) ∙ t.part b (omega arith)

  ports_wired : (k : ℕ) → k < length ids → (c a : ℕ) → a + c ≡ size k → (v : List ℕ) → Wiring k a v → Wiring k (a + c) (wire_ports v (port (get_or ids k 0) a) (port (number k) a) c)
  unfolding wire_ports
  ports_wired k inside zero a sum v t = subst (λ (i : ℕ). Wiring k i v) (omega arith) t
  ports_wired k inside (suc c) a sum v t =
      let most = s.most k inside in
      let ln = s.slot k inside in
      let lk = s.low k inside in
      let few = s.few in
      let x : next (port (get_or ids k 0) a) ≡ port (get_or ids k 0) (suc a) = omega arith in
      let y : next (port (number k) a) ≡ port (number k) (suc a) = omega arith in
      let u = set v (5184 + port (number k) a) (copied_port v (across v (port (get_or ids k 0) a))) in
      rw (x, y) (subst (λ (i : ℕ). Wiring k i (wire_ports u (port (get_or ids k 0) (suc a)) (port (number k) (suc a)) c)) (omega arith)
      (ports_wired k inside c (suc a) (omega arith) u (port_wired k inside a (omega arith) v t)))

  -- all ports of the k-th copy
  whole : (k : ℕ) (v : List ℕ) → Wiring k (size k) v → Wiring (suc k) 0 v
  whole k v u = record { rest = u.rest; done = λ j b c d. go j b c d (ℕ_discrete j k); part = λ b c. absurd (omega arith) }
    where
      go : (j b : ℕ) → j < suc k → b < size j → Dec (j ≡ k) → across v (port (number j) b) ≡ value j b
      go j b c d (yes y) = subst (λ (i : ℕ). b < size i → across v (port (number i) b) ≡ value i b) (sym y) (u.part b) d
      go j b c d (no y) = u.done j b (omega arith) d

  copy_wired : (k : ℕ) → k < length ids → (v : List ℕ) → Wiring k 0 v → Wiring (suc k) 0 (wire_copy v (get_or ids k 0))
  unfolding wire_copy
  copy_wired k inside v t =
      let n = get_or ids k 0 in
      let ln = s.slot k inside in
      let lk = s.low k inside in
      let few = s.few in
      let clone : node_word v n 5 ≡ number k = t.rest.same (node_at n 5) (word_apart number (length ids) n 5 (omega arith)) ∙ s.clone k inside in
      let sized : node_word v n 3 ≡ size k = t.rest.same (node_at n 3) (word_apart number (length ids) n 3 (omega arith)) ∙ s.sized k inside in
      let x : principal n ≡ port n 0 = omega arith in
      let y : principal (number k) ≡ port (number k) 0 = omega arith in
      let z : 0 + size k ≡ size k = omega arith in
      rw (clone, sized, x, y) (whole k (wire_ports v (port n 0) (port (number k) 0) (size k)) (rw z at (ports_wired k inside (size k) 0 z v t)))

  listed : (v : List ℕ) → Rest (Apart number (length ids)) w v → Places v N m P ids
  listed v r =
      let net = s.net in
      places_keep N m P ids w v (r.same (net_at_words (m + 1) 2) (before number (length ids) (net_at_words (m + 1) 2) (omega arith)))
      (λ c i. (r.same _ (after _ (omega arith)), r.same _ (after _ (omega arith)))) s.listed

  -- the entries Q are left, from c on
  entries_wired : (xs D Q : List ℕ) (c : ℕ) (v : List ℕ) → Wiring (length D) 0 v → P ≡ D ++ Q → length Q ≡ length xs → length P ≡ length ids → Seg (entries_in v N).after c Q 0
      → Wiring (length ids) 0 (wire_entries v c (length xs))
  unfolding wire_entries
  entries_wired [] D [] c v t p q r seg =
      subst (λ (k : ℕ). Wiring k 0 v) (let a : length P ≡ length (D ++ []) = ap (λ (l : List ℕ). length l) p in let b = length-append D [] in omega arith) t
  entries_wired [] D (d ∷ Q) c v t p q r seg = absurd (omega arith)
  entries_wired (n ∷ xs) D [] c v t p q r seg = absurd (omega arith)
  entries_wired (n ∷ xs) D (d ∷ Q) c v t p q r seg =
      let more : length (D ++ d ∷ []) ≡ suc (length D) = let a = length-append D (d ∷ []) in omega arith in
      let inside : length D < length ids = let a : length P ≡ length (D ++ d ∷ Q) = ap (λ (l : List ℕ). length l) p in let b = length-append D (d ∷ Q) in omega arith in
      let pool : node_pool v ≡ N = t.rest.same 1 (before number (length ids) 1 (omega arith)) ∙ s.pool in
      let here = listed v t.rest in
      let read : entry_word v c 0 ≡ get_or ids (length D) 0 = rw (pool, seg.0) (item_at (entries_in v N).node D d Q ids (rw p at here.items)) in
      let u = copy_wired (length D) inside v t in
      let w' = wire_copy v (get_or ids (length D) 0) in
      let pool' : node_pool w' ≡ N = u.rest.same 1 (before number (length ids) 1 (omega arith)) ∙ s.pool in
      let there = listed w' u.rest in
      let on : entry_word w' c 1 ≡ (entries_in w' N).after d = rw (pool', seg.0) refl in
      subst (λ (y : ℕ). Wiring (length ids) 0 (wire_entries (wire_copy v y) (entry_word (wire_copy v y) c 1) (length xs))) (sym read)
      (subst (λ (y : ℕ). Wiring (length ids) 0 (wire_entries w' y (length xs))) (sym on)
      (entries_wired xs (D ++ d ∷ []) Q ((entries_in w' N).after d) w' (rw more u) (p ∙ sym (append_assoc D (d ∷ []) Q)) (omega arith) r
      (seg_tail (entries_in w' N).after (net_word_words w' (m + 1) 2) D d Q 0 (rw p at there.seg)).1))

  -- all copies
  pub wire_copies_set : Set w ids number size value (wire_copies w (m + 1))
  unfolding wire_copies
  wire_copies_set =
      let long : length P ≡ length ids = sym (length-map P (entries_in w N).node) ∙ ap (λ (l : List ℕ). length l) s.listed.items in
      let t : Wiring (length ids) 0 (wire_entries w (net_word_words w (m + 1) 2) (length ids)) = entries_wired ids [] P (net_word_words w (m + 1) 2) w
      (record { rest = record { long = refl; same = λ i o. refl }; done = λ j b c d. absurd (omega arith); part = λ b c. absurd (omega arith) }) refl long long s.listed.seg in
      rw s.count (record { rest = t.rest; done = t.done })
