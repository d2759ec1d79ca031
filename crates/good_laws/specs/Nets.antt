-- One net changed: what the others have, and the sums over all nets.
use Rattle.std.specs.Prelude.{ℕ, zero, suc, ◌+◌, ◌-◌, ◌≤◌, ◌<◌, ◌≡◌, refl, ◌≢◌, Bool, true, false, List, [], ◌∷◌, map, length, get_or, set, eqb}
use Rattle.std.proofs.Common.{sym, ap, ◌∙◌, not-suc-le-zero, arith, length-set, get_or-set_same, get_or-set_other, ne_eqb}
use Rattle.std.proofs.Math.Decide.{ℕ_discrete}
use Rattle.std.proofs.Math.ListN.{get_or-map, get_or-eq_default}
use Rattle.std.proofs.Math.Seq.{map-set_same, set_out}
use Rattle.net_file.specs.Lists.{bit, sum}
use Rattle.definitions.specs.State.{Net, Engine, new_net, with_nets, with_pending, net_at, over_net, more, fewer}
use Rattle.dirty_laws.specs.Tests.{eqb_self}

abbrev no_net : Net
no_net = new_net (record { name = 0; free = 0 })

-- as many nets as before
pub over_length : (f : Net → Net) (k : ℕ) (e : Engine) → length (over_net f k e).nets ≡ length e.nets
unfolding over_net with_nets
over_length f k e = length-set e.nets k (f (net_at e k))

-- what the change leaves alone, in all nets
pub over_part : {A : Type 0} (part : Net → A) (f : Net → Net) (k : ℕ) (e : Engine) → ((t : Net) → part (f t) ≡ part t)
    → map part (over_net f k e).nets ≡ map part e.nets
unfolding over_net with_nets net_at
over_part part f k e h = map-set_same part e.nets k (f (get_or e.nets k no_net)) no_net (h (get_or e.nets k no_net))

pub part_at : {A : Type 0} (part : Net → A) (e e' : Engine) → map part e'.nets ≡ map part e.nets → (j : ℕ) → part (net_at e' j) ≡ part (net_at e j)
unfolding net_at
part_at {A} part e e' h j =
    sym (get_or-map part e'.nets j no_net) ∙ ap (λ (l : List A). get_or l j (part no_net)) h ∙ get_or-map part e.nets j no_net

-- the net itself, and another
pub over_same : (f : Net → Net) (k : ℕ) (e : Engine) → k < length e.nets → net_at (over_net f k e) k ≡ f (net_at e k)
unfolding over_net with_nets net_at
over_same f k e h = get_or-set_same e.nets k (f (get_or e.nets k no_net)) no_net h

pub over_other : (f : Net → Net) (k : ℕ) (e : Engine) (j : ℕ) → j ≢ k → net_at (over_net f k e) j ≡ net_at e j
unfolding over_net with_nets net_at
over_other f k e j d = get_or-set_other e.nets k j (f (get_or e.nets k no_net)) no_net d

-- ---- pending numbers

pub pending_over : (f : ℕ → ℕ) (k : ℕ) (e : Engine) (j : ℕ) → j < length e.nets
    → (net_at (over_net (λ n. with_pending (f n.pending) n) k e) j).pending
    ≡ elim (eqb k j) as (λ _. ℕ) [ true ↦ f (net_at e j).pending | false ↦ (net_at e j).pending ]
unfolding with_pending
pending_over f k e j h = go (ℕ_discrete k j)
  where
    go : Dec (k ≡ j) → (net_at (over_net (λ n. with_pending (f n.pending) n) k e) j).pending
        ≡ elim (eqb k j) as (λ _. ℕ) [ true ↦ f (net_at e j).pending | false ↦ (net_at e j).pending ]
    go (yes s) =
        let t : eqb k j ≡ true = ap (eqb k) (sym s) ∙ eqb_self k in
        let l : k < length e.nets = omega arith in
        ap (λ (i : ℕ). (net_at (over_net (λ n. with_pending (f n.pending) n) k e) i).pending) (sym s)
        ∙ ap (λ (n : Net). n.pending) (over_same (λ n. with_pending (f n.pending) n) k e l)
        ∙ ap (λ (i : ℕ). f (net_at e i).pending) s
        ∙ sym (ap (λ (b : Bool). elim b as (λ _. ℕ) [ true ↦ f (net_at e j).pending | false ↦ (net_at e j).pending ]) t)
    go (no d) =
        ap (λ (n : Net). n.pending) (over_other (λ n. with_pending (f n.pending) n) k e j (λ s. d (sym s)))
        ∙ sym (ap (λ (b : Bool). elim b as (λ _. ℕ) [ true ↦ f (net_at e j).pending | false ↦ (net_at e j).pending ]) (ne_eqb k j d))

pub pending_more : (k : ℕ) (e : Engine) (j : ℕ) → j < length e.nets → (net_at (more k e) j).pending ≡ (net_at e j).pending + bit (eqb k j)
unfolding more
pending_more k e j h = pending_over (λ p. p + 1) k e j h ∙ go (eqb k j)
  where
    go : (b : Bool) → elim b as (λ _. ℕ) [ true ↦ (net_at e j).pending + 1 | false ↦ (net_at e j).pending ] ≡ (net_at e j).pending + bit b
    go true = refl
    go false = omega arith

pub pending_fewer : (k : ℕ) (e : Engine) (j : ℕ) → j < length e.nets → (net_at (fewer k e) j).pending ≡ (net_at e j).pending - bit (eqb k j)
unfolding fewer
pending_fewer k e j h = pending_over (λ p. p - 1) k e j h ∙ go (eqb k j)
  where
    go : (b : Bool) → elim b as (λ _. ℕ) [ true ↦ (net_at e j).pending - 1 | false ↦ (net_at e j).pending ] ≡ (net_at e j).pending - bit b
    go true = refl
    go false = omega arith

-- ---- sums over all nets

sum_set : (φ : Net → ℕ) (ts : List Net) (k : ℕ) (t : Net) → k < length ts → sum (map φ (set ts k t)) + φ (get_or ts k no_net) ≡ sum (map φ ts) + φ t
sum_set φ [] k t h = absurd (not-suc-le-zero h)
sum_set φ (x ∷ ts) zero t h = omega arith
sum_set φ (x ∷ ts) (suc k) t h = let e = sum_set φ ts k t (omega arith) in omega arith

pub sum_over : (φ : Net → ℕ) (f : Net → Net) (k : ℕ) (e : Engine) → k < length e.nets
    → sum (map φ (over_net f k e).nets) + φ (net_at e k) ≡ sum (map φ e.nets) + φ (f (net_at e k))
unfolding over_net with_nets net_at
sum_over φ f k e h = sum_set φ e.nets k (f (get_or e.nets k no_net)) h

-- a net that is none changes nothing
pub over_out : (f : Net → Net) (k : ℕ) (e : Engine) → length e.nets ≤ k → over_net f k e ≡ e
unfolding over_net with_nets
over_out f k e h = ap (λ (ts : List Net). with_nets ts e) (set_out e.nets k (f (net_at e k)) h)

pub net_out_lem : (k : ℕ) (e : Engine) → length e.nets ≤ k → net_at e k ≡ new_net (record { name = 0; free = 0 })
unfolding net_at
net_out_lem k e h = get_or-eq_default e.nets no_net h
