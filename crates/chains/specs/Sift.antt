-- A net's list is sifted, place by place: some stay, in their order, and the others go to the free chain.
use Rattle.std.specs.Prelude.{ℕ, ◌+◌, ◌<◌, ◌≤◌, ◌≡◌, refl, ◌≢◌, List, [], ◌∷◌, ◌++◌, map, length}
use Rattle.std.proofs.Common.{◌∙◌, sym, ap, length-append, arith}
use Rattle.std.proofs.lemmas.List.{length-map}
use Rattle.std.proofs.Math.Decide.{ℕ_discrete}
use Rattle.chains.specs.Seg.{put, put_same, put_other, last, Mine, Chain, chain_keep, chain_pop, chain_bend, chain_grow, chain_none, retag, chain_stays, chain_moved, items_same}
use Rattle.chains.specs.Pools.{View, Root, Pool}
use Rattle.chains.specs.Moves.{last_not}
use Rattle.chains.specs.Give.{Given, given_stays, given_root, given_free}

-- net t's list is half sifted: the places K stay, and R, from h on, are still to be looked at, nobody's till then
pub record Half {A : Type 0} (v : View A) (m t : ℕ) (x : ℕ → List A) (total : ℕ) (K R : List ℕ) (h : ℕ) : Type 0 where
  pub own : ℕ → ℕ
  pub places : ℕ → List ℕ
  pub freed : List ℕ
  pub end : ℕ
  pub others : (u : ℕ) → u < m → u ≢ t → Root v own u (places u) (x u)
  pub kept : Chain v.after own (v.used + 1) t (v.head t) K end
  pub left : Chain v.after own (v.used + 1) 257 h R 0
  pub free : Chain v.after own (v.used + 1) 256 v.first freed 0
  pub all : length freed + length K + length R + total ≡ v.used + length (x t)

-- w is v with place c after place p of net t, or first where p is 0; net t's last place may be another
pub record Linked {A : Type 0} (v w : View A) (m t c p : ℕ) : Type 0 where
  pub used : w.used ≡ v.used
  pub first : w.first ≡ v.first
  pub heads : (u : ℕ) → u < m → u ≢ t → w.head u ≡ v.head u
  pub tails : (u : ℕ) → u < m → u ≢ t → w.tail u ≡ v.tail u
  pub nodes : (d : ℕ) → 0 < d → d < v.used + 1 → w.node d ≡ v.node d
  pub none : p ≡ 0 → w.head t ≡ c
  pub some : p ≢ 0 → (w.head t ≡ v.head t) × (w.after p ≡ c)
  pub afters : (d : ℕ) → 0 < d → d < v.used + 1 → d ≢ p → w.after d ≡ v.after d

module _ {A : Type 0} {v : View A} {m t : ℕ} {x : ℕ → List A} {total : ℕ} (few : m ≤ 256) (i : t < m) where
  -- at first all are still to be looked at
  pub half_first : (p : Pool v m x total) → Half v m t x total [] (p.places t) (v.head t)
  half_first p =
      let r = p.nets t i in
      record {
        own = retag p.own t 257;
        places = p.places;
        freed = p.freed;
        end = v.head t;
        others = λ u h n. let s = p.nets u h in record { chain = chain_stays t 257 s.chain n; tail = s.tail; items = s.items };
        kept = chain_none v.after (retag p.own t 257) (v.used + 1) t (v.head t);
        left = chain_moved 257 r.chain;
        free = chain_stays t 257 p.free (omega arith);
        all = let a = p.all in let y : length (map v.node (p.places t)) ≡ length (x t) = ap (λ (l : List A). length l) r.items in let z = length-map (p.places t) v.node in omega arith;
      }

  module _ {K R : List ℕ} {h c : ℕ} (s : Half v m t x total K (c ∷ R) h) where
    -- c is nobody's
    loose : Mine s.own (v.used + 1) 257 c
    loose = s.left.mine.0

    -- the next goes
    pub half_gone : {w : View A} → Given v w m c → Half w m t x total K R (v.after c)
    half_gone {w} k =
        let o = loose.tag in
        record {
          own = put s.own c 256;
          places = s.places;
          freed = c ∷ s.freed;
          end = s.end;
          others = λ u j n. given_root k j (omega arith) (s.others u j n);
          kept = rw (k.head t i) (given_stays k (omega arith) s.kept);
          left = rw k.used (chain_keep (chain_pop 256 s.left) w.after (put s.own c 256) (v.used + 1) (λ d j. j)
              (λ d j. k.afters d j.pos j.below (λ q.
              let y = j.tag in let z = put_same s.own c 256 in let e : put s.own c 256 d ≡ put s.own c 256 c = ap (put s.own c 256) q in omega arith)));
          free = given_free k (omega arith) loose.pos loose.below s.free;
          all = let a = s.all in let u = k.used in omega arith;
        }

  module _ {w : View A} {K R : List ℕ} {h c p : ℕ} (s : Half v m t x total K R h) (is : last K 0 ≡ p) (k : Linked v w m t c p) where
    -- p is no place of another
    not_last : {u d : ℕ} → u ≢ t → Mine s.own (v.used + 1) u d → d ≢ p
    not_last n j q = last_not s.kept n (rw (is, ← q) j)

    -- another chain is as it was
    same : {u g : ℕ} {l : List ℕ} {z : ℕ} → u ≢ t → Chain v.after s.own (v.used + 1) u g l z → Chain w.after s.own (v.used + 1) u g l z
    same n r = chain_keep r w.after s.own (v.used + 1) (λ d j. j) (λ d j. k.afters d j.pos j.below (not_last n j))

    -- those that stay go on with c
    pub bent : Chain w.after s.own (v.used + 1) t (w.head t) K c
    bent = chain_bend s.kept w.after (w.head t) c (λ z. k.none (sym is ∙ z)) (λ z. let y = k.some (λ q. z (is ∙ q)) in (y.0, rw is y.1))
        (λ q j z. k.afters q j.pos j.below (λ y. z (y ∙ sym is)))

    -- another list is as it was
    same_root : {u : ℕ} → u < m → u ≢ t → Root w s.own u (s.places u) (x u)
    same_root {u} j n =
        let r = s.others u j n in
        record {
          chain = rw (k.heads u j n, k.used) (same n r.chain);
          tail = k.tails u j n ∙ r.tail;
          items = items_same v.node w.node (s.places u) r.chain.mine (λ d q. k.nodes d q.pos q.below) ∙ r.items;
        }

    -- the end: p is the last that stays, and y stands at those that stay
    pub half_done : c ≡ 0 → R ≡ [] → w.tail t ≡ p → (y : List A) → map w.node K ≡ y → (sum : ℕ) → sum + length (x t) ≡ total + length K → Pool w m (put x t y) sum
    half_done z e l y items sum a = record {
      own = s.own;
      places = put s.places t K;
      freed = s.freed;
      nets = λ u j. go u j (ℕ_discrete u t);
      free = rw (k.first, k.used) (same (omega arith) s.free);
      all = let b = s.all in let u = k.used in let r : length R ≡ 0 = ap (λ (q : List ℕ). length q) e in omega arith;
    }
      where
        go : (u : ℕ) → u < m → Dec (u ≡ t) → Root w s.own u (put s.places t K u) (put x t y u)
        go u j (yes d) = rw (d, put_same s.places t K, put_same x t y) (record { chain = rw k.used (rw z at bent); tail = l ∙ sym is; items = items })
        go u j (no d) = rw (put_other s.places t K u d, put_other x t y u d) (same_root j d)

  -- the next stays, after the last that does
  pub half_stays : {w : View A} {K R : List ℕ} {h c p : ℕ} (s : Half v m t x total K (c ∷ R) h) → last K 0 ≡ p → Linked v w m t c p → Half w m t x total (K ++ c ∷ []) R (v.after c)
  half_stays {w} {K} {R} {h} {c} s is k =
      let o = (loose s).tag in
      let n : s.own c ≢ t = omega arith in
      let e : w.after c ≡ v.after c = k.afters c (loose s).pos (loose s).below (not_last s is k (omega arith) (loose s)) in
      let stays : (u d : ℕ) → u < 257 → Mine s.own (v.used + 1) u d → Mine (put s.own c t) (v.used + 1) u d
      = λ u d b j. let y = j.tag in record {
        tag = put_other s.own c t d (λ q. let z : s.own d ≡ s.own c = ap s.own q in omega arith) ∙ y;
        pos = j.pos;
        below = j.below;
      } in
      record {
        own = put s.own c t;
        places = s.places;
        freed = s.freed;
        end = w.after c;
        others = λ u j d. let r = same_root s is k j d in record {
          chain = rw k.used (chain_keep (rw k.used at r.chain) w.after (put s.own c t) (v.used + 1) (λ q. stays u q (omega arith)) (λ q b. refl));
          tail = r.tail;
          items = r.items;
        };
        kept = rw k.used (chain_grow (bent s is k) n (loose s).pos (loose s).below);
        left = rw (k.used, ← e) (chain_pop t (same s is k (omega arith) s.left));
        free = rw (k.first, k.used) (chain_keep (same s is k (omega arith) s.free) w.after (put s.own c t) (v.used + 1) (λ q. stays 256 q (omega arith)) (λ q b. refl));
        all = let a = s.all in let u = k.used in let l = length-append K (c ∷ []) in omega arith;
      }
