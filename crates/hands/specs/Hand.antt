-- A chain in hand: places that were a net's and are not yet free. A net's chain goes in front of it; its first place is given back.
use Rattle.std.specs.Prelude.{ℕ, ◌+◌, ◌<◌, ◌≡◌, refl, List, [], ◌∷◌, map, length}
use Rattle.std.proofs.Common.{◌∙◌, sym, ap, arith}
use Rattle.chains.specs.Seg.{Seg, Chain, chain_none, items_same}
use Rattle.chains.specs.Pools.{View, Root, Pool, Same, chain_same, root_same}
use Rattle.chains.specs.Moves.{Loose}

-- a pool, and in hand the places from h to z with y there, owned by 257; the nets hold `total` together
pub record Held {A : Type 0} (v : View A) (m : ℕ) (x : ℕ → List A) (h : ℕ) (y : List A) (z total : ℕ) : Type 0 where
  pub own : ℕ → ℕ
  pub places : ℕ → List ℕ
  pub freed : List ℕ
  pub hand : List ℕ
  pub nets : (t : ℕ) → t < m → Root v own t (places t) (x t)
  pub free : Chain v.after own (v.used + 1) 256 v.first freed 0
  pub chain : Chain v.after own (v.used + 1) 257 h hand z
  pub items : map v.node hand ≡ y
  pub all : length freed + (length y + total) ≡ v.used

-- ---- in hand nothing, or one place

pub held_none : {A : Type 0} {v : View A} {m : ℕ} {x : ℕ → List A} {total : ℕ} (h : ℕ) → Pool v m x total → Held v m x h [] h total
held_none {v = v} h p = record {
  own = p.own;
  places = p.places;
  freed = p.freed;
  hand = [];
  nets = p.nets;
  free = p.free;
  chain = chain_none v.after p.own (v.used + 1) 257 h;
  items = refl;
  all = let a = p.all in omega arith;
}

pub held_done : {A : Type 0} {v : View A} {m : ℕ} {x : ℕ → List A} {h z total : ℕ} → Held v m x h [] z total → Pool v m x total
held_done p = record { own = p.own; places = p.places; freed = p.freed; nets = p.nets; free = p.free; all = let a = p.all in omega arith }

pub held_loose : {A : Type 0} {v : View A} {m : ℕ} {x : ℕ → List A} {total c : ℕ} → Loose v m x total c → Held v m x c (v.node c ∷ []) (v.after c) total
held_loose {v = v} {total = total} {c} k = record {
  own = k.pool.own;
  places = k.pool.places;
  freed = k.pool.freed;
  hand = c ∷ [];
  nets = k.pool.nets;
  free = k.pool.free;
  chain = record { seg = (refl, refl); once = (tt, tt); mine = (k.mine, tt) };
  items = refl;
  all = let a : length k.pool.freed + (total + 1) ≡ v.used = k.pool.all in omega arith;
}

-- where the pool's words are as they were
pub held_same : {A : Type 0} {v w : View A} {m : ℕ} {x : ℕ → List A} {h : ℕ} {y : List A} {z total : ℕ} → Same v w m → Held v m x h y z total → Held w m x h y z total
held_same {v = v} {w} k p = record {
  own = p.own;
  places = p.places;
  freed = p.freed;
  hand = p.hand;
  nets = λ t i. root_same k i (p.nets t i);
  free = rw k.first (chain_same k p.free);
  chain = chain_same k p.chain;
  items = items_same v.node w.node p.hand p.chain.mine (λ d i. k.node d i.pos i.below) ∙ p.items;
  all = p.all ∙ sym k.used;
}

-- the same lists under another name
pub held_lists : {A : Type 0} {v : View A} {m : ℕ} (x x' : ℕ → List A) {h : ℕ} {y : List A} {z total : ℕ} → ((t : ℕ) → t < m → x t ≡ x' t)
    → Held v m x h y z total → Held v m x' h y z total
held_lists x x' e p = record {
  own = p.own;
  places = p.places;
  freed = p.freed;
  hand = p.hand;
  nets = λ t i. rw (← e t i) (p.nets t i);
  free = p.free;
  chain = p.chain;
  items = p.items;
  all = p.all;
}

-- a list that a function makes is not empty where its own is not
pub hand_some : {A : Type 0} (f : ℕ → A) (l : List ℕ) (a : A) (y : List A) → map f l ≡ a ∷ y → (c : ℕ) × (r : List ℕ) × (l ≡ c ∷ r) × (f c ≡ a) × (map f r ≡ y)
hand_some f [] a y e = absurd (let z : ◌≡◌ {A = ℕ} 0 1 = cc in omega arith)
hand_some f (c ∷ r) a y e = (c, r, refl, cc, cc)

-- the first place in hand is a place in use, and has the first item
pub held_first : {A : Type 0} {v : View A} {m : ℕ} {x : ℕ → List A} {h : ℕ} {a : A} {y : List A} {z total : ℕ} → Held v m x h (a ∷ y) z total
    → (0 < h) × (h < v.used + 1) × (v.node h ≡ a)
held_first {v = v} {h = h} {a} {y} {z} p =
    let s = hand_some v.node p.hand a y p.items in
    let c : Chain v.after p.own (v.used + 1) 257 h (s.0 ∷ s.1) z = rw s.2 at p.chain in
    let e : h ≡ s.0 = c.seg.0 in
    (rw e c.mine.0.pos, rw e c.mine.0.below, ap v.node e ∙ s.3)

-- nothing in hand: its first is its end
pub held_end : {A : Type 0} {v : View A} {m : ℕ} {x : ℕ → List A} {h z total : ℕ} → Held v m x h [] z total → h ≡ z
held_end {v = v} {h = h} {z} p = go p.hand p.items p.chain.seg
  where
    go : (l : List ℕ) → map v.node l ≡ [] → Seg v.after h l z → h ≡ z
    go [] e s = s
    go (c ∷ l) e s = absurd (let q : ◌≡◌ {A = ℕ} 0 1 = cc in omega arith)
