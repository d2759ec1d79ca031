-- What is done with a chain in hand: its first place is given back, and a net's chain is put in front of it.
use Rattle.std.specs.Prelude.{ℕ, ◌+◌, ◌<◌, ◌≤◌, ◌≡◌, refl, ◌≢◌, length}
use Rattle.std.proofs.Common.{◌∙◌, subst, length-append}
use Rattle.std.proofs.Math.Path.{sym, ap}
use mathlib.Core.List.{List, [], ◌∷◌, ◌++◌, map, map-append}
use native.Mathlib.Omega.{arith}
use Rattle.std.proofs.Math.Decide.{ℕ_discrete}
use Rattle.chains.specs.Seg.{put, put_same, put_other, last, all_last, retag, Mine, Chain, chain_keep, chain_pop, chain_cons, chain_bend, chain_join, chain_stays, chain_none, items_same}
use Rattle.chains.specs.Pools.{View, Root}
use Rattle.chains.specs.Moves.{last_not}
use Rattle.hands.specs.Hand.{Held, hand_some}
use Rattle.hands.specs.Grasp.{Grasped, root, own'', other'', joined}

module _ {A : Type 0} {v w : View A} {m : ℕ} {x : ℕ → List A} {h : ℕ} {y : List A} {z total : ℕ} (t rest : ℕ) (p : Held v m x h y z total) (few : m ≤ 256) (i : t < m)
    (some : v.head t ≢ 0) (k : Grasped v w m t h) (sum : total ≡ length (x t) + rest) where
  -- net t's chain is in hand, in front
  pub grasped : Held w m (put x t []) (v.head t) (x t ++ y) z rest
  grasped = record {
    own = (own'' t rest p few i some k sum);
    places = put p.places t [];
    freed = p.freed;
    hand = p.places t ++ p.hand;
    nets = λ u j. go u j (ℕ_discrete u t);
    free = (other'' t rest p few i some k sum) 256 v.first w.first 0 p.freed (omega arith) k.first p.free;
    chain = (joined t rest p few i some k sum);
    items = map-append w.node (p.places t) p.hand
        ∙ (λ q. (items_same v.node w.node (p.places t) (root t rest p few i some k sum).chain.mine (λ d j. k.node d j.pos j.below) ∙ (root t rest p few i some k sum).items) q
        ++ (items_same v.node w.node p.hand p.chain.mine (λ d j. k.node d j.pos j.below) ∙ p.items) q);
    all = let a = p.all in let u = k.used in let l = length-append (x t) y in omega arith;
  }
    where
      go : (u : ℕ) → u < m → Dec (u ≡ t) → Root w (own'' t rest p few i some k sum) u (put p.places t [] u) (put x t [] u)
      go u j (yes d) = rw (d, put_same p.places t [], put_same x t []) (record {
        chain = rw k.head (chain_none w.after (own'' t rest p few i some k sum) (w.used + 1) t 0);
        tail = k.tail;
        items = refl;
      })
      go u j (no d) = let r = p.nets u j in rw (put_other p.places t [] u d, put_other x t [] u d) (record {
        chain = (other'' t rest p few i some k sum) u (v.head u) (w.head u) 0 (p.places u) d (k.heads u j d) r.chain;
        tail = k.tails u j d ∙ r.tail;
        items = items_same v.node w.node (p.places u) r.chain.mine (λ q s. k.node q s.pos s.below) ∙ r.items;
      })
