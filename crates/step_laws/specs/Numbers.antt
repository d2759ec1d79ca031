-- Where the nodes are tracked, the chain's numbers are fresh, and a tightened list holds the nodes of its net, each once.
use Rattle.std.specs.Prelude.{◌≡◌, refl, ◌≢◌, ◌⊎◌, ℕ, zero, suc, ◌+◌, ◌<◌, ◌≤◌, Bool, true, false, not, ◌||◌, length, get_or, eqb}
use Rattle.std.proofs.Common.{sym, ap, ◌∙◌, subst, inl, inr, arith, true≢false, eq-eqb}
use Rattle.std.proofs.Math.Decide.{ℕ_discrete, dec_lt}
use Rattle.std.proofs.Math.Option.{Option, none, some}
use mathlib.Core.List.Memᴰ
use mathlib.Core.List.{List, [], ◌∷◌, Memᴰ}
use Rattle.std.proofs.Math.ListN.{get_or-eq_default}
use Rattle.net_file.specs.Lists.{any, distinct}
use Rattle.net_file.specs.Values.{Rule}
use Rattle.definitions.specs.Lists.{is_some, keep, firsts}
use Rattle.definitions.specs.Nets.{Node, Graph, Home, at, filled, holds}
use Rattle.definitions.specs.Scripts.{Script}
use Rattle.definitions.specs.Step.{Fresh, NodesOf, Acts, interacts, reduces, grafts}
use Rattle.definitions.specs.State.{Engine, graph_of}
use Rattle.definitions.specs.Books.{fresh}
use Rattle.join_laws.specs.Ports.{across_real}
use Rattle.script_laws.specs.Tidy.{real_filled}
use Rattle.rule_laws.specs.Ids.{any_mem, at_mem, distinct_at, distinct_cons}
use Rattle.rule_laws.specs.Places.{Clean}
use Rattle.rule_laws.specs.Order.{interact_order, eta_order, graft_order}
use Rattle.graph_laws.specs.Rest.{Rest, Unnamed, named_filled, acts_clean}
use Rattle.step_laws.specs.Core.{Core, core_of}
use Rattle.step_laws.specs.Track.{list_at, Tracked, tight_mem}
use Rattle.step_laws.specs.Acting.{Orderly}

-- ---- fresh numbers

chain_default : (l : List ℕ) (k d : ℕ) → k < length l → get_or l k d ≡ get_or l k 0
chain_default [] k d h = absurd (omega arith)
chain_default (x ∷ l) zero d h = refl
chain_default (x ∷ l) (suc k) d h = chain_default l k d (omega arith)

vacant_past : (g : Graph) (n : ℕ) → length g ≤ n → filled g n ≡ false
unfolding filled
vacant_past g n l = ap is_some (get_or-eq_default g none l)

pub tracked_fresh : (e : Engine) → Tracked (core_of e) → Fresh (graph_of e) (fresh e)
unfolding fresh core_of
tracked_fresh e t = record { vacant = λ k. vacant k (dec_lt k (length chain)); apart = λ j k s. apart j k s (dec_lt j (length chain)) (dec_lt k (length chain)) }
  where
    chain : List ℕ
    chain = e.slots.chain

    N : ℕ → ℕ
    N k = get_or chain k (length (graph_of e) + k)

    inside : (k : ℕ) → k < length chain → (N k < length (graph_of e)) × (filled (graph_of e) (N k) ≡ false)
    inside k l = t.vacant (N k) (subst (λ (n : ℕ). Memᴰ n chain) (sym (chain_default chain k (length (graph_of e) + k) l)) (at_mem chain k l))

    past : (k : ℕ) → ¬ (k < length chain) → N k ≡ length (graph_of e) + k
    past k l = get_or-eq_default chain (length (graph_of e) + k) (omega arith)

    vacant : (k : ℕ) → Dec (k < length chain) → filled (graph_of e) (N k) ≡ false
    vacant k (yes l) = (inside k l).1
    vacant k (no l) = vacant_past (graph_of e) (N k) (let z = past k l in omega arith)

    apart : (j k : ℕ) → N j ≡ N k → Dec (j < length chain) → Dec (k < length chain) → j ≡ k
    apart j k s (yes l) (yes m) =
        distinct_at chain t.once j k l m (sym (chain_default chain j (length (graph_of e) + j) l) ∙ s ∙ chain_default chain k (length (graph_of e) + k) m)
    apart j k s (yes l) (no m) = let x = (inside j l).0 in let y = past k m in absurd (omega arith)
    apart j k s (no l) (yes m) = let x = (inside k m).0 in let y = past j l in absurd (omega arith)
    apart j k s (no l) (no m) = let x = past j l in let y = past k m in omega arith

-- ---- a tightened list

keep_sound : (f : ℕ → Bool) (xs : List ℕ) (n : ℕ) → Memᴰ n (keep f xs) → f n ≡ true
keep_sound f [] n m = absurd (Memᴰ.not-nil m)
keep_sound f (x ∷ xs) n m = go (f x) refl m (keep_sound f xs n)
  where
    go : (t : Bool) → f x ≡ t → Memᴰ n (elim t as (λ _. List ℕ) [ true ↦ x ∷ keep f xs | false ↦ keep f xs ]) → (Memᴰ n (keep f xs) → f n ≡ true) → f n ≡ true
    go true e k r = via (Memᴰ.cases_cons k)
      where
        via : (n ≡ x) ⊎ Memᴰ n (keep f xs) → f n ≡ true
        via (inl s) = ap f s ∙ e
        via (inr q) = r q
    go false e k r = r k

firsts_sound : (xs seen : List ℕ) (n : ℕ) → Memᴰ n (firsts eqb seen xs) → Memᴰ n xs × (any (eqb n) seen ≡ false)
firsts_sound [] seen n m = absurd (Memᴰ.not-nil m)
firsts_sound (x ∷ xs) seen n m = go (any (eqb x) seen) refl m (λ s. firsts_sound xs s n)
  where
    go : (t : Bool) → any (eqb x) seen ≡ t → Memᴰ n (elim t as (λ _. List ℕ) [ true ↦ firsts eqb seen xs | false ↦ x ∷ firsts eqb (x ∷ seen) xs ])
        → ((s : List ℕ) → Memᴰ n (firsts eqb s xs) → Memᴰ n xs × (any (eqb n) s ≡ false)) → Memᴰ n (x ∷ xs) × (any (eqb n) seen ≡ false)
    go true e k r = let y = r seen k in (Memᴰ.tail y.0, y.1)
    go false e k r = via (Memᴰ.cases_cons k)
      where
        later : (t : Bool) → (t || any (eqb n) seen) ≡ false → any (eqb n) seen ≡ false
        later true z = absurd (true≢false z)
        later false z = z

        via : (n ≡ x) ⊎ Memᴰ n (firsts eqb (x ∷ seen) xs) → Memᴰ n (x ∷ xs) × (any (eqb n) seen ≡ false)
        via (inl s) = (Memᴰ.head s, ap (λ (j : ℕ). any (eqb j) seen) s ∙ e)
        via (inr q) = let y = r (x ∷ seen) q in (Memᴰ.tail y.0, later (eqb n x) y.1)

firsts_once : (xs seen : List ℕ) → distinct eqb (firsts eqb seen xs) ≡ true
firsts_once [] seen = refl
firsts_once (x ∷ xs) seen = go (any (eqb x) seen) (firsts_once xs seen) (firsts_once xs (x ∷ seen))
  where
    go : (t : Bool) → distinct eqb (firsts eqb seen xs) ≡ true → distinct eqb (firsts eqb (x ∷ seen) xs) ≡ true
        → distinct eqb (elim t as (λ _. List ℕ) [ true ↦ firsts eqb seen xs | false ↦ x ∷ firsts eqb (x ∷ seen) xs ]) ≡ true
    go true a b = a
    go false a b = distinct_cons x (firsts eqb (x ∷ seen) xs) (λ m. itself (firsts_sound xs (x ∷ seen) x m).1) b
      where
        itself : (eqb x x || any (eqb x) seen) ≡ false → ⊥
        itself z = true≢false (sym (ap (λ (t : Bool). t || any (eqb x) seen) (eq-eqb x x refl)) ∙ z)

pub tight_nodes : (c : Core) → Tracked c → (m : ℕ) → NodesOf c.graph m (firsts eqb [] (keep (holds c.graph m) (list_at c m)))
tight_nodes c t m = record {
  sound = λ n h. keep_sound (holds c.graph m) (list_at c m) n (firsts_sound (keep (holds c.graph m) (list_at c m)) [] n h).0;
  full = λ n h. tight_mem (holds c.graph m) (list_at c m) n (t.listed m n h) h;
  once = firsts_once (keep (holds c.graph m) (list_at c m)) [];
}

-- ---- a rule's script is orderly

-- the node whose net the new nodes are in
pub record Into (fresh' : ℕ → ℕ) (g : Graph) (s : Script) : Type 0 where
  pub node : ℕ
  pub there : filled g node ≡ true
  pub orderly : Orderly fresh' (at g node).net g s

pub acts_orderly : (rules : List Rule) (homes : List Home) (path : ℕ) → Unnamed path rules → (g : Graph) → Rest path homes g → (fresh' : ℕ → ℕ) → Fresh g fresh'
    → (m : Option ℕ) (s : Script) → Acts rules homes g fresh' m s → Into fresh' g s
acts_orderly rules homes path u g r fresh' f m s (interacts rule a b s' y p met e) =
    let clean = acts_clean rules homes path u g r fresh' f none s (interacts rule a b s y p met e) in
    record {
      node = a;
      there = real_filled g (record { node = a; index = 0 }) (across_real g (record { node = a; index = 0 }) (record { node = b; index = 0 }) met);
      orderly = record { in_order = interact_order fresh' g rule a b s e; dead_once = clean.once; dead_there = clean.there };
    }
acts_orderly rules homes path u g r fresh' f m s (reduces cs vs ns a s' y h p e) =
    let clean = acts_clean rules homes path u g r fresh' f none s (reduces cs vs ns a s y h p e) in
    record { node = a; there = h; orderly = record { in_order = eta_order fresh' g vs ns a s e; dead_once = clean.once; dead_there = clean.there } }
acts_orderly rules homes path u g r fresh' f m s (grafts lazy a c m' cs ids home y q e n i d nodes fits) =
    let clean = acts_clean rules homes path u g r fresh' f m s (grafts lazy a c m' cs ids home y q e n i d nodes fits) in
    record {
      node = a;
      there = named_filled g a c cs e;
      orderly = record { in_order = graft_order fresh' g ids home.free a; dead_once = clean.once; dead_there = clean.there };
    }
