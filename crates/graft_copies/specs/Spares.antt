-- What a node put in leaves as it was: the clone map, and the list of every other net.
use Rattle.std.specs.Prelude.{ℕ, ◌+◌, ◌*◌, ◌<◌, ◌≤◌, ◌≢◌, Bool, ◌⊎◌}
use Rattle.std.proofs.Math.Path.{◌≡◌, refl, ap}
use Rattle.std.proofs.Common.{sym, ◌∙◌, subst, inl, inr, get_or-set_other}
use Rattle.std.proofs.Math.Bool.{true}
use mathlib.Core.List.Memᴰ
use mathlib.Core.List.{List, [], ◌∷◌, map, Memᴰ}
use Rattle.std.proofs.Math.ListN.{length, get_or}
use Rattle.std.proofs.lemmas.List.{length-map}
use native.Mathlib.Omega.{arith}
use Rattle.words.specs.Choose.{eq_no, eq_split, lt_split}
use Rattle.words.specs.Left.{Left}
use Rattle.layout.specs.Layout.{node_pool, node_at, net_at_words, net_word_words, principal, set_node_word}
use Rattle.pools.specs.Pools.{take_slot, take, take_fresh, take_entry}
use Rattle.lists.specs.Lists.{append, push_node}
use Rattle.edits.specs.declared.Placed.{Placed}
use Rattle.edits.specs.Edits.{fill, place_node}
use Rattle.edits.specs.Ways.{place_at}
use Rattle.net_file.specs.Values.{Name}
use Rattle.definitions.specs.State.{Engine, with_slots, entries}
use Rattle.chains.specs.Seg.{Seg, All, Mine, chain, seg_chain, seg_same, items_same}
use Rattle.chains.specs.Pools.{Root}
use Rattle.chains.specs.Moves.{last_not}
use Rattle.means.specs.Means.{entries_in, items_of, Means}
use Rattle.means.specs.Frame.{HeadWords, Keep, Rest, rest_set, with_chain}
use Rattle.graph_means.specs.Holes.{holes_other}
use Rattle.pools_means.specs.Slots.{take_slot_means}
use Rattle.lists_means.specs.Append.{Appended, appended, append_is, pointer_at, pointer_link}
use Rattle.lists_means.specs.Push.{Taken, take_entry_means, not_there, last_below}
use Rattle.graft_copies.specs.Clones.{CloneWords}

-- the entries P of net k's list, by the words
pub record Places (ws : List ℕ) (N k : ℕ) (P ids : List ℕ) : Type 0 where
  pub seg : Seg (entries_in ws N).after (net_word_words ws (k + 1) 2) P 0
  pub items : map (entries_in ws N).node P ≡ ids

-- the words of these entries are kept
abbrev pub KeepEntries : ℕ → List ℕ → List ℕ → List ℕ → Type 0
KeepEntries N P ws w = (c : ℕ) → Memᴰ c P → ((entries_in w N).node c ≡ (entries_in ws N).node c) × ((entries_in w N).after c ≡ (entries_in ws N).after c)

-- w is ws as far as the clone map and net k's list, with the entries P, go
pub record Spares (N k : ℕ) (P ws w : List ℕ) : Type 0 where
  pub clones : Keep (CloneWords N) ws w
  pub head : net_word_words w (k + 1) 2 ≡ net_word_words ws (k + 1) 2
  pub entries : KeepEntries N P ws w

-- P at a place of the list
pub all_at : (P : ℕ → Type 0) (l : List ℕ) → All P l → (c : ℕ) → Memᴰ c l → P c
all_at P [] a c i = absurd (Memᴰ.not-nil i)
all_at P (d ∷ l) a c i = go (Memᴰ.cases_cons i) (all_at P l a.1 c)
  where
    go : (c ≡ d) ⊎ Memᴰ c l → (Memᴰ c l → P c) → P c
    go (inl q) f = rw q a.0
    go (inr q) f = f q

pub all_of : (P : ℕ → Type 0) (l : List ℕ) → ((c : ℕ) → P c) → All P l
all_of P [] f = tt
all_of P (c ∷ l) f = (f c, all_of P l f)

pub all_from : (P : ℕ → Type 0) (l : List ℕ) → ((c : ℕ) → Memᴰ c l → P c) → All P l
all_from P [] f = tt
all_from P (c ∷ l) f = (f c (Memᴰ.head refl), all_from P l (λ d i. f d (Memᴰ.tail i)))

-- the list is the same where its words are
pub places_keep : (N k : ℕ) (P ids ws w : List ℕ) → net_word_words w (k + 1) 2 ≡ net_word_words ws (k + 1) 2 → KeepEntries N P ws w → Places ws N k P ids → Places w N k P ids
places_keep N k P ids ws w h f p = record {
  seg = rw h (seg_same (entries_in ws N).after (entries_in w N).after (net_word_words ws (k + 1) 2) P 0 p.seg (all_from _ P (λ c i. (f c i).1)));
  items = items_same {P = λ c. (entries_in w N).node c ≡ (entries_in ws N).node c} (entries_in ws N).node (entries_in w N).node P (all_from _ P (λ c i. (f c i).0)) (λ c i. i) ∙ p.items;
}

-- two chains of one length from one place on are one
seg_one : (f : ℕ → ℕ) (h : ℕ) (l m : List ℕ) → Seg f h l 0 → Seg f h m 0 → length l ≡ length m → l ≡ m
seg_one f h l m s t e = sym (seg_chain f h l 0 s) ∙ ap (chain f h) e ∙ seg_chain f h m 0 t

-- two words of the header are written where a slot is taken
take_slot_rest : (ws : List ℕ) → Rest (λ i. HeadWords 8 2 i → ⊥) ws (take_slot ws).ws
unfolding take_slot take take_fresh
take_slot_rest ws = eq_split (get_or ws 8 0) 0 _ _ (λ (l : Left ℕ). Rest (λ i. HeadWords 8 2 i → ⊥) ws l.ws)
    (λ z. lt_split (get_or ws 9 0) (get_or ws 1 0) _ _ (λ (l : Left ℕ). Rest (λ i. HeadWords 8 2 i → ⊥) ws l.ws)
    (λ h. rest_set _ ws 9 _ (λ i o d. o (omega arith))) (λ h. record { long = refl; same = λ i o. refl }))
    (λ z. rest_set _ ws 8 _ (λ i o d. o (omega arith)))

-- a filled slot: net, name, number of ports, and its ports
fill_other : (ws : List ℕ) (n t name len i : ℕ) → n < 4096 → len ≤ 16 → i ≢ node_at n 0 → i ≢ node_at n 1 → i ≢ node_at n 3
    → ((j : ℕ) → j < len → i ≢ 5184 + (32 * n + 8 + j)) → get_or (fill ws n t name len) i 0 ≡ get_or ws i 0
unfolding fill
fill_other ws n t name len i h b a0 a1 a3 ap =
    let u = set_node_word ws n 0 t in
    let v = set_node_word u n 1 name in
    let w = set_node_word v n 3 len in
    let p : principal n ≡ 32 * n + 8 = omega arith in
    rw p (holes_other len (32 * n + 8) w i (omega arith) ap) ∙ get_or-set_other v (node_at n 3) i len 0 a3 ∙ get_or-set_other u (node_at n 1) i name 0 a1 ∙ get_or-set_other ws (node_at n 0) i t 0 a0

module _ (Named : ℕ → Name → Type 0) (ws : List ℕ) (e : Engine) (m : Means Named ws e) (n : ℕ) (rest : List ℕ) (first : e.slots.chain ≡ n ∷ rest)
    (slot : n < e.pools.nodes) (t : ℕ) (here : t < length e.nets) (room : entries e < e.pools.entries) (name len : ℕ) (most : len ≤ 16)
    (k : ℕ) (below : k < length e.nets) (differ : k ≢ t) (P : List ℕ) (listed : Places ws e.pools.nodes k P (items_of e.nets k)) where
  abbrev N : ℕ
  N = e.pools.nodes

  w1 : List ℕ
  w1 = (take_slot ws).ws

  taken : ((take_slot ws).is ≡ n + 1) × Means Named w1 (with_chain rest e)
  unfolding w1
  taken = take_slot_means Named ws e m n rest first

  w0 : List ℕ
  w0 = (take_entry w1).ws

  c : ℕ
  c = (take_entry w1).is

  entry : Taken w1 w0 (with_chain rest e) c
  unfolding w0 c with_chain with_slots entries
  entry = take_entry_means Named w1 (with_chain rest e) taken.1 room

  -- so far words 8 to 11 are written
  same0 : (i : ℕ) → 12 ≤ i → get_or w0 i 0 ≡ get_or ws i 0
  unfolding w1
  same0 i h = entry.rest.same i (omega arith) ∙ (take_slot_rest ws).same i (omega arith)

  pool0 : node_pool w0 ≡ N
  unfolding w1
  pool0 = entry.rest.same 1 (omega arith) ∙ (take_slot_rest ws).same 1 (omega arith) ∙ m.header.nodes

  root : (u : ℕ) → u < length e.nets → Root (entries_in w0 N) entry.loose.pool.own u (entry.loose.pool.places u) (items_of e.nets u)
  unfolding with_chain with_slots
  root u h = entry.loose.pool.nets u h

  -- the places of net k are P
  places_are : P ≡ entry.loose.pool.places k
  places_are =
      let r = root k below in
      let s : Seg (entries_in w0 N).after (net_word_words w0 (k + 1) 2) P 0 = rw (same0 (net_at_words (k + 1) 2) (omega arith))
      (seg_same (entries_in ws N).after (entries_in w0 N).after (net_word_words ws (k + 1) 2) P 0 listed.seg (all_of _ P (λ d. same0 _ (omega arith)))) in
      seg_one (entries_in w0 N).after (net_word_words w0 (k + 1) 2) P (entry.loose.pool.places k) s r.chain.seg
      (sym (length-map P (entries_in ws N).node) ∙ ap (λ (l : List ℕ). length l) (listed.items ∙ sym r.items) ∙ length-map (entry.loose.pool.places k) (entries_in w0 N).node)

  mine : All (Mine entry.loose.pool.own (get_or w0 11 0 + 1) k) P
  mine = subst (λ (l : List ℕ). All (Mine entry.loose.pool.own (get_or w0 11 0 + 1) k) l) (sym places_are) (root k below).chain.mine

  p : ℕ
  p = net_word_words w0 (t + 1) 3

  w2 : List ℕ
  w2 = append w0 (t + 1) n c

  hung : Appended w0 w2 N t c n p (pointer_at N t p)
  unfolding w2 p w1 with_chain with_slots
  hung =
      let few = m.header.few_nets in
      let long = m.header.long in
      let l0 = entry.rest.long in
      let l1 = (take_slot_rest ws).long in
      let u = entry.used in
      let r = root t here in
      let pos : 0 < c = entry.loose.mine.pos in
      let b : c < get_or w0 11 0 + 1 = entry.loose.mine.below in
      let far : p < get_or w0 11 0 + 1 = rw r.tail (last_below (entry.loose.pool.places t) r.chain (omega arith)) in
      let apart : p ≢ c = λ d. last_not {s = 257} r.chain (omega arith) (rw (← r.tail, d) entry.loose.mine) in
      let enough : 5216 + 32 * N + 2 * e.pools.entries ≤ length w0 = omega arith in
      rw (append_is w0 N e.pools.entries t c n enough pos (omega arith) (omega arith) apart (omega arith) pool0)
      (appended w0 N e.pools.entries t c n p (pointer_at N t p) enough pos (omega arith) (omega arith) apart (omega arith) (pointer_link N t p))

  w3 : List ℕ
  w3 = fill w2 n (t + 1) name len

  placed_is : (place_node ws (t + 1) name len).ws ≡ w3
  unfolding w3 w2 w0 w1 c push_node
  placed_is =
      let few = m.header.few_nodes in
      let i = taken.0 in
      let pos : 0 < c = entry.loose.mine.pos in
      let pushed : ◌≡◌ {A = Left Bool} (record { is = true; ws = w2 }) (push_node w1 (t + 1) n) = eq_no c 0 _ _ (omega arith) refl in
      ap (λ (l : Left Placed). l.ws) (sym (place_at ws w1 w2 w3 (t + 1) name len (take_slot ws).is n true refl refl (omega arith) (omega arith)
      (ap (λ (l : Left Bool). l.is) pushed) (ap (λ (l : Left Bool). l.ws) pushed) refl refl))

  -- the clone map and the other nets' lists are as they were
  pub place_spares : Spares e.pools.nodes k P ws (place_node ws (t + 1) name len).ws
  unfolding w3 p
  place_spares =
      let few = m.header.few_nodes in
      let nets = m.header.few_nets in
      let a = hung in
      let pos : 0 < c = entry.loose.mine.pos in
      rw placed_is (record {
        clones = λ i o. fill_other w2 n (t + 1) name len i (omega arith) most (omega arith) (omega arith) (omega arith) (λ j h. omega arith)
            ∙ a.other i (omega arith) (omega arith) (not_there a.link i (omega arith) (λ z. omega arith)) (omega arith) (omega arith) (omega arith) ∙ same0 i (omega arith);
        head = fill_other w2 n (t + 1) name len (net_at_words (k + 1) 2) (omega arith) most (omega arith) (omega arith) (omega arith) (λ j h. omega arith)
            ∙ a.other (net_at_words (k + 1) 2) (omega arith) (omega arith) (not_there a.link _ (omega arith) (λ z. omega arith)) (omega arith) (omega arith) (omega arith) ∙ same0 (net_at_words (k + 1) 2) (omega arith);
        entries = λ d i. let q = all_at _ P mine d i in (kept d q 0 (omega arith), kept d q 1 (omega arith));
      })
    where
      kept : (d : ℕ) → Mine entry.loose.pool.own (get_or w0 11 0 + 1) k d → (f : ℕ) → f < 2 → get_or w3 (5214 + 32 * N + 2 * d + f) 0 ≡ get_or ws (5214 + 32 * N + 2 * d + f) 0
      kept d q f b =
          let few = m.header.few_nodes in
          let nets = m.header.few_nets in
          let a = hung in
          let pos = q.pos in
          let not_c : d ≢ c = λ s. let y = q.tag in let z = entry.loose.mine.tag in let o : entry.loose.pool.own d ≡ entry.loose.pool.own c = ap entry.loose.pool.own s in omega arith in
          let not_p : d ≢ p = λ s. last_not {s = k} (root t here).chain differ (rw (← (root t here).tail, ← s) q) in
          fill_other w2 n (t + 1) name len (5214 + 32 * N + 2 * d + f) (omega arith) most (omega arith) (omega arith) (omega arith) (λ j h. omega arith)
          ∙ a.other (5214 + 32 * N + 2 * d + f) (omega arith) (omega arith) (not_there a.link _ (omega arith) (λ z. omega arith)) (omega arith) (omega arith) (omega arith)
          ∙ same0 (5214 + 32 * N + 2 * d + f) (omega arith)
