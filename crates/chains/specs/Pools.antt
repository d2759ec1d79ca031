-- A pool as functions: its chains mean lists. No words, no layout: each pool of the words is a view.
use Rattle.std.specs.Prelude.{ℕ, ◌+◌, ◌<◌, ◌≤◌, ◌≡◌, refl, List, [], ◌∷◌, ◌++◌, map, length}
use Rattle.std.proofs.Common.{◌∙◌, sym, ap, arith}
use Rattle.std.proofs.Math.Decide.{ℕ_discrete}
use Rattle.chains.specs.Seg.{put, put_same, put_other, last, Mine, Chain, chain_keep, chain_put, chain_pop, chain_cons, chain_bend, chain_grow, items_same, all_map, all_last, last_snoc}

-- places 1 to `used` are in use; the first free one; each net's first and last place; of a place what stands there, and the next
pub record View (A : Type 0) : Type 0 where
  pub used : ℕ
  pub first : ℕ
  pub head : ℕ → ℕ
  pub tail : ℕ → ℕ
  pub node : ℕ → A
  pub after : ℕ → ℕ

-- The owner of a place: a net below 256 by its number, 256 the free chain, 257 nobody.

-- net t has the places l, with x there
pub record Root {A : Type 0} (v : View A) (own : ℕ → ℕ) (t : ℕ) (l : List ℕ) (x : List A) : Type 0 where
  pub chain : Chain v.after own (v.used + 1) t (v.head t) l 0
  pub tail : v.tail t ≡ last l 0
  pub items : map v.node l ≡ x

-- the nets below m have the lists x, which hold `total` together; all other places in use are in the free chain
pub record Pool {A : Type 0} (v : View A) (m : ℕ) (x : ℕ → List A) (total : ℕ) : Type 0 where
  pub own : ℕ → ℕ
  pub places : ℕ → List ℕ
  pub freed : List ℕ
  pub nets : (t : ℕ) → t < m → Root v own t (places t) (x t)
  pub free : Chain v.after own (v.used + 1) 256 v.first freed 0
  pub all : length freed + total ≡ v.used

-- w is v, as far as the nets below m and the places in use go
pub record Same {A : Type 0} (v w : View A) (m : ℕ) : Type 0 where
  pub used : w.used ≡ v.used
  pub first : w.first ≡ v.first
  pub head : (t : ℕ) → t < m → w.head t ≡ v.head t
  pub tail : (t : ℕ) → t < m → w.tail t ≡ v.tail t
  pub node : (c : ℕ) → 0 < c → c < v.used + 1 → w.node c ≡ v.node c
  pub after : (c : ℕ) → 0 < c → c < v.used + 1 → w.after c ≡ v.after c

-- a chain is kept where its places are
pub chain_same : {A : Type 0} {v w : View A} {m : ℕ} (k : Same v w m) {own : ℕ → ℕ} {s h : ℕ} {l : List ℕ} {z : ℕ}
    → Chain v.after own (v.used + 1) s h l z → Chain w.after own (w.used + 1) s h l z
chain_same {w = w} k {own} c = rw k.used (chain_keep c w.after own _ (λ d i. i) (λ d i. k.after d i.pos i.below))

pub root_same : {A : Type 0} {v w : View A} {m : ℕ} (k : Same v w m) {own : ℕ → ℕ} {t : ℕ} {l : List ℕ} {x : List A} → t < m → Root v own t l x → Root w own t l x
root_same {v = v} {w} k {l = l} h r = record {
  chain = rw (k.head _ h) (chain_same k r.chain);
  tail = k.tail _ h ∙ r.tail;
  items = items_same v.node w.node l r.chain.mine (λ d i. k.node d i.pos i.below) ∙ r.items;
}

pub pool_same : {A : Type 0} {v w : View A} {m : ℕ} {x : ℕ → List A} {total : ℕ} → Same v w m → Pool v m x total → Pool w m x total
pool_same k p = record {
  own = p.own;
  places = p.places;
  freed = p.freed;
  nets = λ t h. root_same k h (p.nets t h);
  free = rw k.first (chain_same k p.free);
  all = p.all ∙ sym k.used;
}

-- the same lists under another name
pub pool_lists : {A : Type 0} {v : View A} {m : ℕ} (x y : ℕ → List A) {total : ℕ} → ((t : ℕ) → t < m → x t ≡ y t) → Pool v m x total → Pool v m y total
pool_lists x y e p = record {
  own = p.own;
  places = p.places;
  freed = p.freed;
  nets = λ t h. rw (← e t h) (p.nets t h);
  free = p.free;
  all = p.all;
}
