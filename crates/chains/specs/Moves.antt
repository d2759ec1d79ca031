-- The moves of a pool: a place is taken, an entry is hung on a net's list.
use Rattle.std.specs.Prelude.{ℕ, ◌+◌, ◌<◌, ◌≤◌, ◌≡◌, refl, ◌≢◌, List, [], ◌∷◌, ◌++◌, map, length}
use Rattle.std.proofs.Common.{◌∙◌, ap, subst}
use Rattle.std.proofs.Math.Path.{sym}
use native.Mathlib.Omega.{arith}
use Rattle.std.proofs.Math.Decide.{ℕ_discrete}
use Rattle.chains.specs.Seg.{put, put_same, put_other, All, last, Mine, Chain, chain_keep, chain_put, chain_pop, chain_bend, chain_grow, items_same, all_last, last_snoc}
use Rattle.chains.specs.Pools.{View, Root, Pool}

-- place c of a pool is nobody's
pub record Loose {A : Type 0} (v : View A) (m : ℕ) (x : ℕ → List A) (total c : ℕ) : Type 0 where
  pub pool : Pool v m x (total + 1)
  pub mine : Mine pool.own (v.used + 1) 257 c

-- ---- a place is taken

-- w is v with one place more in use
pub record Newer {A : Type 0} (v w : View A) (m : ℕ) : Type 0 where
  pub used : w.used ≡ v.used + 1
  pub first : w.first ≡ v.first
  pub head : (t : ℕ) → t < m → w.head t ≡ v.head t
  pub tail : (t : ℕ) → t < m → w.tail t ≡ v.tail t
  pub node : (c : ℕ) → c < v.used + 1 → w.node c ≡ v.node c
  pub after : (c : ℕ) → c < v.used + 1 → w.after c ≡ v.after c

-- w is v with another free chain
pub record Fewer {A : Type 0} (v w : View A) (m c : ℕ) : Type 0 where
  pub used : w.used ≡ v.used
  pub first : w.first ≡ v.after c
  pub head : (t : ℕ) → t < m → w.head t ≡ v.head t
  pub tail : (t : ℕ) → t < m → w.tail t ≡ v.tail t
  pub node : (c : ℕ) → c < v.used + 1 → w.node c ≡ v.node c
  pub after : (c : ℕ) → c < v.used + 1 → w.after c ≡ v.after c

module _ {A : Type 0} {v w : View A} {m : ℕ} {x : ℕ → List A} {total : ℕ} (p : Pool v m x total) (few : m ≤ 256) where
  pub take_new : p.freed ≡ [] → Newer v w m → Loose w m x total (v.used + 1)
  take_new e k =
      let c = v.used + 1 in
      let eu = k.used in
      let n : (s d : ℕ) → Mine p.own c s d → Mine (put p.own c 257) (w.used + 1) s d
      = λ s d i. let y = i.below in record { tag = put_other p.own c 257 d (omega arith) ∙ i.tag; pos = i.pos; below = omega arith } in
      record {
        pool = record {
          own = put p.own c 257;
          places = p.places;
          freed = [];
          nets = λ t h. let r = p.nets t h in record {
            chain = rw (k.head t h) (chain_keep r.chain w.after (put p.own c 257) (w.used + 1) (n t) (λ d i. k.after d i.below));
            tail = k.tail t h ∙ r.tail;
            items = items_same v.node w.node (p.places t) r.chain.mine (λ d i. k.node d i.below) ∙ r.items;
          };
          free = rw k.first (chain_keep (rw e at p.free) w.after (put p.own c 257) (w.used + 1) (n 256) (λ d i. k.after d i.below));
          all = let a : length p.freed + total ≡ v.used = p.all in let z : length p.freed ≡ 0 = ap (λ (l : List ℕ). length l) e in omega arith;
        };
        mine = record { tag = put_same p.own c 257; pos = omega arith; below = omega arith };
      }

  pub take_old : (c : ℕ) (f : List ℕ) → p.freed ≡ c ∷ f → Fewer v w m c → Loose w m x total c
  take_old c f e k =
      let eu = k.used in
      let fr : Chain v.after p.own (v.used + 1) 256 v.first (c ∷ f) 0 = rw e at p.free in
      let i = fr.mine.0 in
      let n : (s d : ℕ) → s < 256 → Mine p.own (v.used + 1) s d → Mine (put p.own c 257) (v.used + 1) s d
      = λ s d b j. let y = j.tag in let z = i.tag in record {
        tag = put_other p.own c 257 d (λ q. let o : p.own d ≡ p.own c = ap p.own q in omega arith) ∙ y;
        pos = j.pos;
        below = j.below;
      } in
      record {
        pool = record {
          own = put p.own c 257;
          places = p.places;
          freed = f;
          nets = λ t h. let r = p.nets t h in record {
            chain = rw (k.head t h, eu) (chain_keep r.chain w.after (put p.own c 257) (v.used + 1) (λ d. n t d (omega arith)) (λ d j. k.after d j.below));
            tail = k.tail t h ∙ r.tail;
            items = items_same v.node w.node (p.places t) r.chain.mine (λ d j. k.node d j.below) ∙ r.items;
          };
          free = rw (k.first, eu) (chain_keep (chain_pop 257 fr) w.after (put p.own c 257) (v.used + 1) (λ d j. j) (λ d j. k.after d j.below));
          all = let a : length p.freed + total ≡ v.used = p.all in let z : length p.freed ≡ length (c ∷ f) = ap (λ (l : List ℕ). length l) e in omega arith;
        };
        mine = let y = i.below in record { tag = put_same p.own c 257; pos = i.pos; below = omega arith };
      }

-- ---- an entry is hung on a list

-- w is v with place c, and n there, after place p of net t, or first where p is 0
pub record Hung {A : Type 0} (v w : View A) (m t c p : ℕ) (n : A) : Type 0 where
  pub used : w.used ≡ v.used
  pub first : w.first ≡ v.first
  pub heads : (u : ℕ) → u < m → u ≢ t → w.head u ≡ v.head u
  pub tails : (u : ℕ) → u < m → u ≢ t → w.tail u ≡ v.tail u
  pub tail : w.tail t ≡ c
  pub nodes : (d : ℕ) → 0 < d → d < v.used + 1 → d ≢ c → w.node d ≡ v.node d
  pub node : w.node c ≡ n
  pub none : p ≡ 0 → w.head t ≡ c
  pub some : p ≢ 0 → (w.head t ≡ v.head t) × (w.after p ≡ c)
  pub afters : (d : ℕ) → 0 < d → d < v.used + 1 → d ≢ c → d ≢ p → w.after d ≡ v.after d
  pub after : w.after c ≡ 0

-- the last place of a chain is no place of another
pub last_not : {f own : ℕ → ℕ} {b t h s : ℕ} {l : List ℕ} {z : ℕ} → Chain f own b t h l z → s ≢ t → Mine own b s (last l 0) → ⊥
last_not {f} {own} {b} {t} {h} {s} {l} k n = go l k.mine
  where
    go : (l : List ℕ) → All (Mine own b t) l → Mine own b s (last l 0) → ⊥
    go [] a i = let j = i.pos in omega arith
    go (c ∷ l) a i = n (sym i.tag ∙ (all_last (Mine own b t) c l a).tag)

pub map_snoc : {A : Type 0} (f : ℕ → A) (l : List ℕ) (c : ℕ) → map f (l ++ c ∷ []) ≡ map f l ++ f c ∷ []
map_snoc {A} f [] c = refl
map_snoc {A} f (d ∷ l) c = ap {B = List A} (λ n. f d ∷ n) (map_snoc f l c)

module _ {A : Type 0} {v w : View A} {m : ℕ} {x : ℕ → List A} {total c : ℕ} (k : Loose v m x total c) (few : m ≤ 256) (t p : ℕ) (n : A) (h : t < m)
    (e : v.tail t ≡ p) (b : Hung v w m t c p n) where
  own' : ℕ → ℕ
  own' = put k.pool.own c t

  root : Root v k.pool.own t (k.pool.places t) (x t)
  root = k.pool.nets t h

  -- c is not among the places of s
  not_c : (s d : ℕ) → s < 257 → Mine k.pool.own (v.used + 1) s d → d ≢ c
  not_c s d i j q = let y = j.tag in let z = k.mine.tag in let o : k.pool.own d ≡ k.pool.own c = ap k.pool.own q in omega arith

  -- and s keeps its places
  stays : (s d : ℕ) → s < 257 → Mine k.pool.own (v.used + 1) s d → Mine own' (w.used + 1) s d
  unfolding own'
  stays s d i j = let u = b.used in let y = j.below in record { tag = put_other k.pool.own c t d (not_c s d i j) ∙ j.tag; pos = j.pos; below = omega arith }

  -- p is the last place of t
  last_is : last (k.pool.places t) 0 ≡ p
  last_is = sym root.tail ∙ e

  -- another chain is as it was
  other : (s g g' : ℕ) (l : List ℕ) → s < 257 → s ≢ t → g' ≡ g → Chain v.after k.pool.own (v.used + 1) s g l 0 → Chain w.after own' (w.used + 1) s g' l 0
  other s g g' l i ne y r =
      subst (λ (d : ℕ). Chain w.after own' (w.used + 1) s d l 0) (sym y)
      (chain_keep r w.after own' (w.used + 1) (λ d. stays s d i)
      (λ d j. b.afters d j.pos j.below (not_c s d i j) (λ q. last_not root.chain ne (rw (last_is, ← q) j))))

  grown : Chain w.after own' (w.used + 1) t (w.head t) (k.pool.places t ++ c ∷ []) 0
  unfolding own'
  grown =
      let bent : Chain w.after k.pool.own (v.used + 1) t (w.head t) (k.pool.places t) c
      = chain_bend root.chain w.after (w.head t) c (λ z. b.none (sym last_is ∙ z))
      (λ z. let y = b.some (λ q. z (last_is ∙ q)) in (y.0, rw last_is y.1))
      (λ q j z. b.afters q j.pos j.below (not_c t q (omega arith) j) (λ y. z (y ∙ sym last_is))) in
      let z = k.mine.tag in
      rw (b.used, ← b.after) (chain_grow bent (λ y. omega arith) k.mine.pos k.mine.below)

  items : map w.node (k.pool.places t ++ c ∷ []) ≡ x t ++ n ∷ []
  items =
      let same : map w.node (k.pool.places t) ≡ x t
      = items_same v.node w.node (k.pool.places t) root.chain.mine (λ d j. b.nodes d j.pos j.below (not_c t d (omega arith) j)) ∙ root.items in
      map_snoc w.node (k.pool.places t) c ∙ rw (same, b.node) refl

  pub hung : Pool w m (put x t (x t ++ n ∷ [])) (total + 1)
  hung = record {
    own = own';
    places = put k.pool.places t (k.pool.places t ++ c ∷ []);
    freed = k.pool.freed;
    nets = λ u i. go u i (ℕ_discrete u t);
    free = other 256 v.first w.first k.pool.freed (omega arith) (omega arith) b.first k.pool.free;
    all = k.pool.all ∙ sym b.used;
  }
    where
      go : (u : ℕ) → u < m → Dec (u ≡ t) → Root w own' u (put k.pool.places t (k.pool.places t ++ c ∷ []) u) (put x t (x t ++ n ∷ []) u)
      go u i (yes d) = rw (d, put_same k.pool.places t (k.pool.places t ++ c ∷ []), put_same x t (x t ++ n ∷ [])) (record {
        chain = grown;
        tail = b.tail ∙ sym (last_snoc (k.pool.places t) c 0);
        items = items;
      })
      go u i (no d) = let r = k.pool.nets u i in rw (put_other k.pool.places t (k.pool.places t ++ c ∷ []) u d, put_other x t (x t ++ n ∷ []) u d) (record {
        chain = other u (v.head u) (w.head u) (k.pool.places u) (omega arith) d (b.heads u i d) r.chain;
        tail = b.tails u i d ∙ r.tail;
        items = items_same v.node w.node (k.pool.places u) r.chain.mine (λ q j. b.nodes q j.pos j.below (not_c u q (omega arith) j)) ∙ r.items;
      })
