-- A place is given back: it goes to the front of the free chain.
use Rattle.std.specs.Prelude.{ℕ, ◌+◌, ◌<◌, ◌≤◌, ◌≡◌, ◌≢◌, List, ◌∷◌}
use Rattle.std.proofs.Common.{◌∙◌, sym, ap, arith}
use Rattle.chains.specs.Seg.{put, put_other, Mine, Chain, chain_keep, chain_cons, items_same}
use Rattle.chains.specs.Pools.{View, Root, Pool}
use Rattle.chains.specs.Moves.{Loose}

-- w is v with place c at the front of the free chain
pub record Given {A : Type 0} (v w : View A) (m c : ℕ) : Type 0 where
  pub used : w.used ≡ v.used
  pub first : w.first ≡ c
  pub head : (t : ℕ) → t < m → w.head t ≡ v.head t
  pub tail : (t : ℕ) → t < m → w.tail t ≡ v.tail t
  pub node : (d : ℕ) → 0 < d → d < v.used + 1 → w.node d ≡ v.node d
  pub afters : (d : ℕ) → 0 < d → d < v.used + 1 → d ≢ c → w.after d ≡ v.after d
  pub after : w.after c ≡ v.first

module _ {A : Type 0} {v w : View A} {m c : ℕ} (k : Given v w m c) {own : ℕ → ℕ} where
  -- what is another's is not c
  pub not_given : {s d : ℕ} → own c ≢ s → Mine own (v.used + 1) s d → d ≢ c
  not_given n j q = n (ap own (sym q) ∙ j.tag)

  -- a chain without c is as it was
  pub given_stays : {s h : ℕ} {l : List ℕ} {z : ℕ} → own c ≢ s → Chain v.after own (v.used + 1) s h l z → Chain w.after (put own c 256) (w.used + 1) s h l z
  given_stays n i =
      rw k.used
      (chain_keep i w.after (put own c 256) (v.used + 1) (λ d j. record { tag = put_other own c 256 d (not_given n j) ∙ j.tag; pos = j.pos; below = j.below })
      (λ d j. k.afters d j.pos j.below (not_given n j)))

  -- and so is the list of another net
  pub given_root : {t : ℕ} {l : List ℕ} {x : List A} → t < m → own c ≢ t → Root v own t l x → Root w (put own c 256) t l x
  given_root {t} {l} h n r = record {
    chain = rw (k.head t h) (given_stays n r.chain);
    tail = k.tail t h ∙ r.tail;
    items = items_same v.node w.node l r.chain.mine (λ d j. k.node d j.pos j.below) ∙ r.items;
  }

  -- c is the first free one
  pub given_free : {l : List ℕ} → own c ≢ 256 → 0 < c → c < v.used + 1 → Chain v.after own (v.used + 1) 256 v.first l 0
      → Chain w.after (put own c 256) (w.used + 1) 256 w.first (c ∷ l) 0
  given_free n i j f =
      rw (k.first, k.used)
      (chain_cons (chain_keep f w.after own (v.used + 1) (λ d p. p) (λ d p. k.afters d p.pos p.below (not_given n p))) c n i j k.after)

-- nobody's place is given back
pub given : {A : Type 0} {v w : View A} {m : ℕ} {x : ℕ → List A} {total c : ℕ} → m ≤ 256 → Loose v m x total c → Given v w m c → Pool w m x total
given few l k =
    let o = l.mine.tag in
    record {
      own = put l.pool.own _ 256;
      places = l.pool.places;
      freed = _ ∷ l.pool.freed;
      nets = λ t h. given_root k h (omega arith) (l.pool.nets t h);
      free = given_free k (omega arith) l.mine.pos l.mine.below l.pool.free;
      all = let a = l.pool.all in let u = k.used in omega arith;
    }
