-- Pools, rules, limit and included nets of every engine reached are the file's.
use Rattle.std.specs.Prelude.{ℕ, ◌+◌, ◌-◌, ◌≡◌, refl, Bool, true, false, ◌||◌, List, [], ◌∷◌, ◌++◌, map, length}
use Rattle.std.proofs.Common.{sym, ap, ◌∙◌, subst, arith, append_assoc, append-nil}
use Rattle.std.proofs.Math.Option.{Option, none, some}
use Rattle.std.proofs.lemmas.Bool.{eqb-false}
use Rattle.net_file.specs.Lists.{Result, ok, refuse}
use Rattle.net_file.specs.Values.{Name, FlatNet, File}
use Rattle.definitions.specs.Lists.{◌>>=◌, each, unsnoc}
use Rattle.definitions.specs.Nets.{Home}
use Rattle.definitions.specs.State
use Rattle.definitions.specs.State.{Pools, Engine, homes, with_dirty, with_nets, new_net}
use Rattle.definitions.specs.Books.{fresh, edit}
use Rattle.definitions.specs.Load.{load_net, add_flat_net, empty, included, free_name, load}
use Rattle.definitions.specs.Visit.{Visited, acted, passed, less_one}
use Rattle.definitions.specs.Run.{with_items, spent, next}
use Rattle.engine_laws.specs.Frame.{Outline, frame, FramesOk, edits_frame, pools_kept, rules_kept, homes_kept, steps_kept}
use Rattle.engine_laws.specs.Turns.{Counts}
use Rattle.engine_laws.proofs.Turns.{turn_counts}
use Rattle.good_laws.specs.Edits.{Answers}
use Rattle.good_laws.specs.Loaded.{ok_injective}
use Rattle.fuel_laws.specs.Reached.{Reached, loads, turns, leaves}
use Rattle.reached_laws.specs.Accepted

-- the names of the included nets, in order
abbrev pub net_names : Engine → List ℕ
net_names e = map (λ (h : Home). h.name) (homes e)

-- steps taken and the limit left are the file's limit; a none stays none
abbrev pub LimitLeft : Option ℕ → ℕ → Option ℕ → Type 0
LimitLeft none taken left = left ≡ none
LimitLeft (some n) taken left = (k : ℕ) × (left ≡ some k) × (taken + k ≡ n)

-- pools, rules, limit and nets are those of the file
pub record OfFile (p : Pools) (f : File FlatNet) (e : Engine) : Type 0 where
  pub pools : e.pools ≡ p
  pub rules : e.rules ≡ f.rules
  pub limit : LimitLeft f.limit e.steps e.limit
  pub names : net_names e ≡ map (λ (t : FlatNet). t.name) (included f)

limit_kept : {x y : Outline} → x ≡ y → x.3 ≡ y.3
limit_kept h = ap (λ (z : Outline). z.3) h

left_as : (o : Option ℕ) {l l' : Option ℕ} {s s' : ℕ} → l' ≡ l → s' ≡ s → LimitLeft o s l → LimitLeft o s' l'
left_as o {l} {l'} {s} p q h = subst (λ (n : ℕ). LimitLeft o n l') (sym q) (subst (LimitLeft o s) (sym p) h)

-- ---- the load

-- e' has the pools and rules of e, and these nets besides
record Grown (ns : List ℕ) (e e' : Engine) : Type 0 where
  pools : e'.pools ≡ e.pools
  rules : e'.rules ≡ e.rules
  limit : e'.limit ≡ e.limit
  steps : e'.steps ≡ e.steps
  names : net_names e' ≡ net_names e ++ ns

net_names_lem : (ns : List Home) (h : Home) → map (λ (x : Home). x.name) (ns ++ h ∷ []) ≡ map (λ (x : Home). x.name) ns ++ h.name ∷ []
net_names_lem [] h = refl
net_names_lem (n ∷ ns) h = ap (λ (l : List ℕ). n.name ∷ l) (net_names_lem ns h)

home_snoc : (ts : List State.Net) (h : Home) → map (λ (t : State.Net). t.home) (ts ++ new_net h ∷ []) ≡ map (λ (t : State.Net). t.home) ts ++ h ∷ []
home_snoc [] h = refl
home_snoc (t ∷ ts) h = ap (λ (l : List Home). t.home ∷ l) (home_snoc ts h)

net_grown : (free : Name) (t : FlatNet) (e : Engine) → Answers (Grown (t.name ∷ []) e) (add_flat_net free t e)
unfolding add_flat_net with_nets
net_grown free t e =
    let h : Home = record { name = t.name; free = fresh e 0 } in
    let e₁ = with_nets (e.nets ++ new_net h ∷ []) e in
    let ds = load_net (fresh e) free (length e.nets) t in
    go e₁ refl refl refl refl (ap (map (λ (x : Home). x.name)) (home_snoc e.nets h) ∙ net_names_lem (homes e) h) (each edit ds e₁) (edits_frame ds e₁)
  where
    go : (e₁ : Engine) → e₁.pools ≡ e.pools → e₁.rules ≡ e.rules → e₁.limit ≡ e.limit → e₁.steps ≡ e.steps → net_names e₁ ≡ net_names e ++ t.name ∷ [] → (r : Result Engine) → FramesOk e₁ r → Answers (Grown (t.name ∷ []) e) r
    go e₁ p q l s n (ok e') f = record { pools = pools_kept f ∙ p; rules = rules_kept f ∙ q; limit = limit_kept f ∙ l; steps = steps_kept f ∙ s; names = ap (map (λ (x : Home). x.name)) (homes_kept f) ∙ n }
    go e₁ p q l s n (refuse r) f = tt

nets_grown : (free : Name) (ts : List FlatNet) (e : Engine) → Answers (Grown (map (λ (t : FlatNet). t.name) ts) e) (each (add_flat_net free) ts e)
nets_grown free [] e = record { pools = refl; rules = refl; limit = refl; steps = refl; names = sym (append-nil (net_names e)) }
nets_grown free (t ∷ ts) e = go (add_flat_net free t e) (net_grown free t e) (λ e'. nets_grown free ts e')
  where
    go : (r : Result Engine) → Answers (Grown (t.name ∷ []) e) r → ((e' : Engine) → Answers (Grown (map (λ (u : FlatNet). u.name) ts) e') (each (add_flat_net free) ts e'))
        → Answers (Grown (t.name ∷ map (λ (u : FlatNet). u.name) ts) e) (r >>= λ e'. each (add_flat_net free) ts e')
    go (refuse r) g f = tt
    go (ok e') g f = then (each (add_flat_net free) ts e') (f e')
      where
        then : (r : Result Engine) → Answers (Grown (map (λ (u : FlatNet). u.name) ts) e') r → Answers (Grown (t.name ∷ map (λ (u : FlatNet). u.name) ts) e) r
        then (refuse r) k = tt
        then (ok e₂) k = record {
          pools = k.pools ∙ g.pools;
          rules = k.rules ∙ g.rules;
          limit = k.limit ∙ g.limit;
          steps = k.steps ∙ g.steps;
          names = k.names ∙ ap (λ (l : List ℕ). l ++ map (λ (u : FlatNet). u.name) ts) g.names ∙ append_assoc (net_names e) (t.name ∷ []) (map (λ (u : FlatNet). u.name) ts);
        }

load_file : (p : Pools) (f : File FlatNet) (e : Engine) → load p f ≡ ok e → OfFile p f e
unfolding load empty
load_file p f e q = go (load p f) (nets_grown (free_name f.paths) (included f) (empty p f)) q
  where
    left : (o : Option ℕ) (taken : ℕ) (l : Option ℕ) → taken ≡ 0 → l ≡ o → LimitLeft o taken l
    left none taken l q s = s
    left (some n) taken l q s = (n, s, omega arith)

    go : (r : Result Engine) → Answers (Grown (map (λ (t : FlatNet). t.name) (included f)) (empty p f)) r → r ≡ ok e → OfFile p f e
    go (ok e') g s = subst (OfFile p f) (ok_injective s) (record { pools = g.pools; rules = g.rules; limit = left f.limit e'.steps e'.limit g.steps g.limit; names = g.names })
    go (refuse r) g s = absurd (let z : ◌≡◌ {A = ℕ} 0 1 = cc in omega arith)

-- ---- turns

-- a turn is taken while the limit has steps
next_over : (n : Option ℕ) (e : Engine) (q : List ℕ × ℕ) → next n e ≡ some q → spent e.limit ≡ false
unfolding next
next_over n e q h = go (spent n) (spent e.limit) h
  where
    go : (a b : Bool) → elim (a || b) as (λ _. Option (List ℕ × ℕ)) [ true ↦ none | false ↦ unsnoc e.dirty.items ] ≡ some q → b ≡ false
    go true b k = let z : ◌≡◌ {A = ℕ} 0 1 = cc in absurd (omega arith)
    go false true k = let z : ◌≡◌ {A = ℕ} 0 1 = cc in absurd (omega arith)
    go false false k = refl

-- a step less
one_less : (o : Option ℕ) (taken : ℕ) (l : Option ℕ) → spent l ≡ false → LimitLeft o taken l → LimitLeft o (taken + 1) (less_one l)
unfolding less_one spent
one_less none taken l s h = ap less_one h
one_less (some n) taken l s h =
    let d = eqb-false h.0 0 (ap spent (sym h.1) ∙ s) in
    (h.0 - 1, ap less_one h.1, let z = h.2 in omega arith)

pub reached_file : (p : Pools) (f : File FlatNet) {e : Engine} → Reached p f e → OfFile p f e
unfolding with_items with_dirty
reached_file p f (loads {e = e} q) = load_file p f e q
reached_file p f (turns {e = e} n q v r h t) = go v (subst (Counts (frame e)) t (turn_counts q.1 (with_items q.0 e))) (reached_file p f r) (next_over n e q h)
  where
    go : (u : Visited) → Counts (frame e) (ok u) → OfFile p f e → spent e.limit ≡ false → OfFile p f (leaves u)
    go (acted e') c o s = record { pools = pools_kept c ∙ o.pools; rules = rules_kept c ∙ o.rules; limit = left_as f.limit (limit_kept c) (steps_kept c) (one_less f.limit e.steps e.limit s o.limit); names = ap (map (λ (x : Home). x.name)) (homes_kept c) ∙ o.names }
    go (passed e') c o s = record { pools = pools_kept c ∙ o.pools; rules = rules_kept c ∙ o.rules; limit = left_as f.limit (limit_kept c) (steps_kept c) o.limit; names = ap (map (λ (x : Home). x.name)) (homes_kept c) ∙ o.names }
