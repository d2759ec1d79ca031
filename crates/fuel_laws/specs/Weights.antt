-- What can still be pushed without a step. A net that comes to 0 wakes the nodes that wait on it, each once; until a rule acts it stays
-- at 0, and no node waits on it again. So count, for each net above 0, the nodes that wait on it or name it.
use Rattle.std.specs.Prelude.{ℕ, zero, suc, ◌+◌, ◌≤◌, ◌≡◌, refl, ◌≢◌, Bool, true, false, ◌||◌, List, [], ◌∷◌, length, get_or, eqb}
use Rattle.std.proofs.Common.{sym, ap, arith, eqb-true, ne_eqb}
use Rattle.std.proofs.Math.Option.{Option, none}
use Rattle.std.proofs.lemmas.List.{length-map}
use Rattle.std.proofs.Math.ListN.{get_or-map}
use Rattle.std.proofs.lemmas.Bool.{eqb-false}
use Rattle.net_file.specs.Lists.{any}
use Rattle.definitions.specs.Lists.{find, up_to}
use Rattle.definitions.specs.Nets.{Graph, Home, name_of}
use Rattle.definitions.specs.State.{Net, Wait, Engine, homes, new_net, net_at, waits}
use Rattle.definitions.specs.Visit.{get_net}
use Rattle.dirty_laws.specs.Tally.{tally, tally_either, tally_mono}
use Rattle.good_laws.specs.Owners.{is_of}
use Rattle.fuel_laws.specs.Totals.{total, total_most, total_plus, total_list, one_value, spread}

-- the net of this name, by the homes
abbrev pub named_in : List Home → ℕ → Option ℕ
named_in hs c = find (λ k. eqb (get_or hs k (record { name = 0; free = 0 })).name c) (up_to (length hs))

-- the net that a first child names
abbrev pub child_in : List Home → List ℕ → Option ℕ
child_in hs [] = none
child_in hs (c ∷ cs) = named_in hs c

-- the net that node n names
abbrev pub target : Graph → List Home → ℕ → Option ℕ
target g hs n = child_in hs (name_of g n).children

pub named_in_lem : (e : Engine) (c : ℕ) → get_net e c ≡ named_in (homes e) c
unfolding get_net net_at
named_in_lem e c =
    let d = new_net (record { name = 0; free = 0 }) in
    (λ i. find (λ k. eqb (sym (get_or-map (λ (t : Net). t.home) e.nets k d) i).name c) (up_to (sym (length-map e.nets (λ (t : Net). t.home)) i)))

-- node n is one of those that wait
abbrev pub waiter : List Wait → ℕ → Bool
waiter ws n = any (λ w. eqb w.node n) ws

-- the nodes that wait on net m, or name it
abbrev pub drawn : (ℕ → Option ℕ) → ℕ → List Wait → ℕ → ℕ
drawn T N ws m = tally (λ n. waiter ws n || is_of m (T n)) N

-- 0 for a net at 0
abbrev pub weight : (ℕ → Option ℕ) → ℕ → Net → ℕ → ℕ
weight T N t m = elim (eqb t.pending 0) [ true ↦ 0 | false ↦ drawn T N t.awaiting m ]

-- over all nets
abbrev pub drawing : (ℕ → Option ℕ) → ℕ → Engine → ℕ
drawing T N e = total (λ m. weight T N (net_at e m) m) (length e.nets)

-- ---- no more than waits and nodes

pub waiters_most : (ws : List Wait) (N : ℕ) → tally (waiter ws) N ≤ length ws
waiters_most [] N = none_at N
  where
    none_at : (n : ℕ) → tally (λ i. false) n ≤ 0
    none_at zero = omega arith
    none_at (suc n) = let h = none_at n in omega arith
waiters_most (w ∷ ws) N =
    let a = tally_either (λ n. eqb w.node n) (waiter ws) N in
    let b = one_value w.node N in
    let c = waiters_most ws N in
    omega arith

pub weight_most : (T : ℕ → Option ℕ) (N : ℕ) (t : Net) (m : ℕ) → weight T N t m ≤ length t.awaiting + tally (λ n. is_of m (T n)) N
weight_most T N t m = go (eqb t.pending 0)
  where
    go : (b : Bool) → elim b as (λ _. ℕ) [ true ↦ 0 | false ↦ drawn T N t.awaiting m ] ≤ length t.awaiting + tally (λ n. is_of m (T n)) N
    go true = omega arith
    go false = let a = tally_either (waiter t.awaiting) (λ n. is_of m (T n)) N in let b = waiters_most t.awaiting N in omega arith

pub drawing_most : (T : ℕ → Option ℕ) (N : ℕ) (e : Engine) → drawing T N e ≤ waits e + N
unfolding net_at waits
drawing_most T N e =
    let d = new_net (record { name = 0; free = 0 }) in
    let M = length e.nets in
    let a = total_most (λ m. weight T N (net_at e m) m) (λ m. length (net_at e m).awaiting + tally (λ n. is_of m (T n)) N) M (λ m l. weight_most T N (net_at e m) m) in
    let b = total_plus (λ m. length (net_at e m).awaiting) (λ m. tally (λ n. is_of m (T n)) N) M in
    let c = total_list (λ (t : Net). length t.awaiting) e.nets d in
    let s = spread T N M in
    omega arith

-- ---- one net lighter

-- fewer wait, and a net at 0 stays at 0
pub weight_less : (T : ℕ → Option ℕ) (N : ℕ) (t t' : Net) (m : ℕ) → (t.pending ≡ 0 → t'.pending ≡ 0)
    → ((n : ℕ) → (waiter t'.awaiting n || is_of m (T n)) ≡ true → (waiter t.awaiting n || is_of m (T n)) ≡ true) → weight T N t' m ≤ weight T N t m
weight_less T N t t' m z h = go (eqb t.pending 0) refl (eqb t'.pending 0) refl
  where
    go : (b : Bool) → eqb t.pending 0 ≡ b → (c : Bool) → eqb t'.pending 0 ≡ c
        → elim c as (λ _. ℕ) [ true ↦ 0 | false ↦ drawn T N t'.awaiting m ] ≤ elim b as (λ _. ℕ) [ true ↦ 0 | false ↦ drawn T N t.awaiting m ]
    go true p true q = omega arith
    go true p false q = absurd (eqb-false t'.pending 0 q (z (eqb-true t.pending 0 p)))
    go false p true q = omega arith
    go false p false q = tally_mono (λ n. waiter t'.awaiting n || is_of m (T n)) (λ n. waiter t.awaiting n || is_of m (T n)) N h

-- the weights of a net above 0 and of one at 0
pub weight_above : (T : ℕ → Option ℕ) (N : ℕ) (t : Net) (m : ℕ) → t.pending ≢ 0 → weight T N t m ≡ drawn T N t.awaiting m
weight_above T N t m d = ap (λ (b : Bool). elim b as (λ _. ℕ) [ true ↦ 0 | false ↦ drawn T N t.awaiting m ]) (ne_eqb t.pending 0 d)

pub weight_zero : (T : ℕ → Option ℕ) (N : ℕ) (t : Net) (m : ℕ) → t.pending ≡ 0 → weight T N t m ≡ 0
weight_zero T N t m z = ap (λ (p : ℕ). elim (eqb p 0) as (λ _. ℕ) [ true ↦ 0 | false ↦ drawn T N t.awaiting m ]) z
