-- What is done with a chain in hand: its first place is given back, and a net's chain is put in front of it.
use Rattle.std.specs.Prelude.{ℕ, ◌+◌, ◌<◌, ◌≤◌, ◌≡◌, refl, ◌≢◌, length}
use Rattle.std.proofs.Common.{◌∙◌, subst, length-append}
use Rattle.std.proofs.Math.Path.{sym, ap}
use mathlib.Core.List.{List, [], ◌∷◌, ◌++◌, map, map-append}
use native.Mathlib.Omega.{arith}
use Rattle.std.proofs.Math.Decide.{ℕ_discrete}
use Rattle.chains.specs.Seg.{put, put_same, put_other, last, all_last, retag, Mine, Chain, chain_keep, chain_pop, chain_cons, chain_bend, chain_join, chain_stays, chain_none, items_same}
use Rattle.chains.specs.Pools.{View, Root}
use Rattle.chains.specs.Moves.{last_not}
use Rattle.hands.specs.Hand.{Held, hand_some}

-- ---- the first place is given back

-- w is v with place c first in the free chain
pub record Given {A : Type 0} (v w : View A) (m c : ℕ) : Type 0 where
  pub used : w.used ≡ v.used
  pub first : w.first ≡ c
  pub head : (t : ℕ) → t < m → w.head t ≡ v.head t
  pub tail : (t : ℕ) → t < m → w.tail t ≡ v.tail t
  pub node : (d : ℕ) → 0 < d → d < v.used + 1 → w.node d ≡ v.node d
  pub after : w.after c ≡ v.first
  pub afters : (d : ℕ) → 0 < d → d < v.used + 1 → d ≢ c → w.after d ≡ v.after d

module _ {A : Type 0} {v w : View A} {m : ℕ} {x : ℕ → List A} {c : ℕ} {a : A} {y : List A} {z total : ℕ} (p : Held v m x c (a ∷ y) z total) (few : m ≤ 256) (k : Given v w m c) where
  module _ (r : List ℕ) (h : Chain v.after p.own (v.used + 1) 257 c (c ∷ r) z) (is : map v.node r ≡ y) where
    own' : ℕ → ℕ
    own' = put p.own c 256

    -- c is no place of s
    not_c : (s d : ℕ) → s < 257 → Mine p.own (v.used + 1) s d → d ≢ c
    not_c s d b i q = let t = i.tag in let u = h.mine.0.tag in let o : p.own d ≡ p.own c = ap p.own q in omega arith

    stays : (s d : ℕ) → s < 257 → Mine p.own (v.used + 1) s d → Mine own' (w.used + 1) s d
    unfolding own'
    stays s d b i = record { tag = put_other p.own c 256 d (not_c s d b i) ∙ i.tag; pos = i.pos; below = rw k.used i.below }

    other : (s g g' : ℕ) (l : List ℕ) → s < 257 → g' ≡ g → Chain v.after p.own (v.used + 1) s g l 0 → Chain w.after own' (w.used + 1) s g' l 0
    other s g g' l b e i = rw e (chain_keep i w.after own' (w.used + 1) (λ d. stays s d b) (λ d j. k.afters d j.pos j.below (not_c s d b j)))

    -- the free chain from c on
    freed' : Chain w.after own' (w.used + 1) 256 w.first (c ∷ p.freed) 0
    unfolding own'
    freed' =
        let i = h.mine.0 in
        let t = i.tag in
        let kept : Chain w.after p.own (v.used + 1) 256 v.first p.freed 0
        = chain_keep p.free w.after p.own (v.used + 1) (λ d j. j) (λ d j. k.afters d j.pos j.below (not_c 256 d (omega arith) j)) in
        rw (k.used, k.first) (chain_cons kept c (omega arith) i.pos i.below k.after)

    -- the rest in hand
    rest' : Chain w.after own' (w.used + 1) 257 (v.after c) r z
    unfolding own'
    rest' =
        let e : Chain v.after own' (v.used + 1) 257 (v.after c) r z = chain_pop 256 h in
        rw k.used (chain_keep e w.after own' (v.used + 1) (λ d j. j) (λ d j. k.afters d j.pos j.below
        (λ q. let t = j.tag in let u = put_same p.own c 256 in let o : own' d ≡ own' c = ap own' q in omega arith)))

    given_rest : Held w m x (v.after c) y z total
    given_rest = record {
      own = own';
      places = p.places;
      freed = c ∷ p.freed;
      hand = r;
      nets = λ t i. let n = p.nets t i in record {
        chain = other t (v.head t) (w.head t) (p.places t) (omega arith) (k.head t i) n.chain;
        tail = k.tail t i ∙ n.tail;
        items = items_same v.node w.node (p.places t) n.chain.mine (λ d j. k.node d j.pos j.below) ∙ n.items;
      };
      free = freed';
      chain = rest';
      items = items_same v.node w.node r h.mine.1 (λ d j. k.node d j.pos j.below) ∙ is;
      all = let a = p.all in let u = k.used in omega arith;
    }

  -- place c is free, the first to be taken, and no more in hand
  pub given : Held w m x (v.after c) y z total
  given =
      let s = hand_some v.node p.hand a y p.items in
      let h : Chain v.after p.own (v.used + 1) 257 c (s.0 ∷ s.1) z = rw s.2 at p.chain in
      let e : c ≡ s.0 = h.seg.0 in
      let g : Chain v.after p.own (v.used + 1) 257 c (c ∷ s.1) z = subst (λ (d : ℕ). Chain v.after p.own (v.used + 1) 257 c (d ∷ s.1) z) (sym e) h in
      given_rest s.1 g s.4

-- ---- a net's chain is put in front

-- w is v where net t has no chain, and its last place is followed by h
pub record Grasped {A : Type 0} (v w : View A) (m t h : ℕ) : Type 0 where
  pub used : w.used ≡ v.used
  pub first : w.first ≡ v.first
  pub heads : (u : ℕ) → u < m → u ≢ t → w.head u ≡ v.head u
  pub tails : (u : ℕ) → u < m → u ≢ t → w.tail u ≡ v.tail u
  pub head : w.head t ≡ 0
  pub tail : w.tail t ≡ 0
  pub node : (d : ℕ) → 0 < d → d < v.used + 1 → w.node d ≡ v.node d
  pub after : w.after (v.tail t) ≡ h
  pub afters : (d : ℕ) → 0 < d → d < v.used + 1 → d ≢ v.tail t → w.after d ≡ v.after d

-- a net whose first place is 0 has none
pub root_none : {A : Type 0} {v : View A} {own : ℕ → ℕ} {t : ℕ} {l : List ℕ} {x : List A} → Root v own t l x → v.head t ≡ 0 → x ≡ []
root_none {v = v} {own} {t} {l} {x} r e = go l r.chain r.items
  where
    go : (l : List ℕ) → Chain v.after own (v.used + 1) t (v.head t) l 0 → map v.node l ≡ x → x ≡ []
    go [] k i = sym i
    go (c ∷ l) k i = let p = k.mine.0.pos in let q : v.head t ≡ c = k.seg.0 in absurd (omega arith)

module _ {A : Type 0} {v w : View A} {m : ℕ} {x : ℕ → List A} {h : ℕ} {y : List A} {z total : ℕ} (t rest : ℕ) (p : Held v m x h y z total) (few : m ≤ 256) (i : t < m)
    (some : v.head t ≢ 0) (k : Grasped v w m t h) (sum : total ≡ length (x t) + rest) where
  pub root : Root v p.own t (p.places t) (x t)
  root = p.nets t i

  pub own'' : ℕ → ℕ
  own'' = retag p.own t 257

  -- the last place of t is none of another's
  not_last : (s d : ℕ) → s ≢ t → Mine p.own (v.used + 1) s d → d ≢ v.tail t
  not_last s d n j q = last_not root.chain n (rw (← root.tail, ← q) j)

  pub other'' : (s g g' e : ℕ) (l : List ℕ) → s ≢ t → g' ≡ g → Chain v.after p.own (v.used + 1) s g l e → Chain w.after own'' (w.used + 1) s g' l e
  unfolding own''
  other'' s g g' e l n q c =
      let a : Chain w.after p.own (v.used + 1) s g l e = chain_keep c w.after p.own (v.used + 1) (λ d j. j) (λ d j. k.afters d j.pos j.below (not_last s d n j)) in
      rw (q, k.used) (chain_stays t 257 a n)

  last_is : last (p.places t) 0 ≡ v.tail t
  last_is = sym root.tail

  pub joined : Chain w.after own'' (w.used + 1) 257 (v.head t) (p.places t ++ p.hand) z
  unfolding own''
  joined =
      let bent : Chain w.after p.own (v.used + 1) t (v.head t) (p.places t) h
      = chain_bend root.chain w.after (v.head t) h (λ e. absurd (none (p.places t) root.chain e))
      (λ e. (refl, rw last_is k.after)) (λ q j n. k.afters q j.pos j.below (λ e. n (e ∙ sym last_is))) in
      let hand : Chain w.after p.own (v.used + 1) 257 h p.hand z
      = chain_keep p.chain w.after p.own (v.used + 1) (λ d j. j) (λ d j. k.afters d j.pos j.below (not_last 257 d (omega arith) j)) in
      rw k.used (chain_join bent hand (omega arith))
    where
      none : (l : List ℕ) → Chain v.after p.own (v.used + 1) t (v.head t) l 0 → last l 0 ≡ 0 → ⊥
      none [] c e = some c.seg
      none (d ∷ l) c e = let j = (all_last (Mine p.own (v.used + 1) t) d l c.mine).pos in omega arith
