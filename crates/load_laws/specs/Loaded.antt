-- The load of nets that are well wired leaves an engine that is ready: `wired` and `free-kept` at the start of a run.
use Rattle.std.specs.Prelude.{◌≡◌, ◌≢◌, ◌⊎◌, ℕ, zero, suc, ◌+◌, ◌<◌, ◌≤◌, Bool, true, false, get_or, set, replicate, eqb}
use Rattle.std.proofs.Math.Path.{refl, ap, subst}
use Rattle.std.proofs.Common.{sym, ◌∙◌, inl, inr, arith, true≢false, length-append, get_or-set_same, get_or-set_other}
use Rattle.std.proofs.Math.Decide.{ℕ_discrete}
use Rattle.std.proofs.lemmas.Bool.{false≢true}
use Rattle.std.proofs.Math.Option.{Option, none, some, some-injective}
use mathlib.Core.List.Memᴰ
use mathlib.Core.List.{List, [], ◌∷◌, ◌++◌, map, Memᴰ}
use Rattle.std.proofs.Math.ListN.{length, get_or-append, get_or-eq_default}
use Rattle.std.proofs.lemmas.List.{length-map, length-replicate, get_or-replicate}
use Rattle.net_file.specs.Lists.{Result, ok, refuse, all}
use Rattle.net_file.specs.Values.{Name, FlatNet, Rule}
use Rattle.net_file.specs.Checks.{pairs_ordered, flat_wired}
use Rattle.definitions.specs.Lists.{◌>>=◌, or_else, is_some, foldl, nth, each, from, up_to}
use Rattle.definitions.specs.Nets.{Port, Node, Graph, Home, port, nowhere, at, filled, holds, name_of, arity, across}
use Rattle.definitions.specs.Scripts.{Edit, Insert, Join, apply, vacate, apply_script}
use Rattle.definitions.specs.Rules.{new}
use Rattle.definitions.specs.Step.{Fresh}
use Rattle.definitions.specs.State.{Net, Pools, Engine, graph_of, new_net, with_nets}
use Rattle.definitions.specs.Books.{fresh, edit}
use Rattle.definitions.specs.Load.{ends_at, join_met, load_nodes, load_net, add_flat_net}
use Rattle.join_laws.specs.Ports.{frame, name_same, holds_same, holds_frame, in_net, Frame}
use Rattle.script_laws.specs.Tidy.{WellWired, frame_kept, ported_kept}
use Rattle.script_laws.proofs.Tidy.{tidy_wired, wire_kept}
use Rattle.graph_laws.specs.Rest.{Rest, FreeNode, holds_filled}
use Rattle.step_laws.specs.Core.{Core, core_of, home_of, list_of}
use Rattle.step_laws.specs.Track.{list_at, Tracked, placed_in}
use Rattle.step_laws.specs.Edits.{Then, Needs, edit_core}
use Rattle.step_laws.specs.Acting.{Made, edits_made}
use Rattle.step_laws.specs.Numbers.{tracked_fresh}
use Rattle.step_laws.specs.First.{Firsts, listed_below, edits_first}
use Rattle.load_laws.specs.Loads.{loaded, F}
use Rattle.load_laws.specs.Start.{load_order}

-- every net is well wired with its free node, every node is tracked
pub record Loaded (path : ℕ) (c : Core) : Type 0 where
  pub rest : Rest path c.homes c.graph
  pub tracked : Tracked c

-- a net that the checks accept
pub record NetFine (t : FlatNet) : Type 0 where
  pub ordered : pairs_ordered t.pairs ≡ true
  pub wired : flat_wired t ≡ true

-- net t more: its nodes come by the edits of its load, its home is the last, and nodes that were there stay as they were
pub record Added (name : Name) (t : FlatNet) (c d : Core) : Type 0 where
  pub numbers : ℕ → ℕ
  pub graph : d.graph ≡ foldl apply c.graph (load_net numbers name (length c.homes) t)
  pub homes : d.homes ≡ c.homes ++ record { name = t.name; free = numbers 0 } ∷ []
  pub rules : d.rules ≡ c.rules
  pub old : (n : ℕ) → filled c.graph n ≡ true → frame d.graph n ≡ frame c.graph n
  pub ports : arity d.graph (numbers 0) ≡ 2 + length t.free

-- ---- one net more

pub map_snoc : {A C : Type 0} (f : A → C) (xs : List A) (x : A) → map f (xs ++ x ∷ []) ≡ map f xs ++ f x ∷ []
map_snoc f [] x = refl
map_snoc f (y ∷ ys) x = ap (λ l. f y ∷ l) (map_snoc f ys x)

-- the last of a list, or one before
pub nth_snoc : {A : Type 0} (xs : List A) (x y : A) (k : ℕ) → nth (xs ++ x ∷ []) k ≡ some y → (nth xs k ≡ some y) ⊎ ((k ≡ length xs) × (y ≡ x))
nth_snoc [] x y zero e = inr (refl, sym (some-injective x y e))
nth_snoc [] x y (suc k) e = let z : ◌≡◌ {A = ℕ} 0 1 = cc in absurd (omega arith)
nth_snoc (v ∷ xs) x y zero e = inl e
nth_snoc {A} (v ∷ xs) x y (suc k) e = go (nth_snoc xs x y k e)
  where
    go : (nth xs k ≡ some y) ⊎ ((k ≡ length xs) × (y ≡ x)) → (nth xs k ≡ some y) ⊎ ((suc k ≡ suc (length xs)) × (y ≡ x))
    go (inl s) = inl s
    go (inr s) = inr (ap suc s.0, s.1)

-- a core with an empty net more
abbrev pub wider : Home → Core → Core
wider h c = record {
  graph = c.graph;
  chain = c.chain;
  homes = c.homes ++ h ∷ [];
  lists = c.lists ++ [] ∷ [];
  rules = c.rules;
  pools = c.pools;
  steps = c.steps;
  limit = c.limit;
}

pub core_wider : (h : Home) (e : Engine) → core_of (with_nets (e.nets ++ new_net h ∷ []) e) ≡ wider h (core_of e)
unfolding core_of with_nets
core_wider h e = λ i. record {
  graph = graph_of e;
  chain = e.slots.chain;
  homes = map_snoc home_of e.nets (new_net h) i;
  lists = map_snoc list_of e.nets (new_net h) i;
  rules = e.rules;
  pools = e.pools;
  steps = e.steps;
  limit = e.limit;
}

pub tracked_wider : (h : Home) (c : Core) → Tracked c → Tracked (wider h c)
tracked_wider h c t = record {
  size = t.size;
  vacant = t.vacant;
  every = t.every;
  once = t.once;
  in_range = λ n e. let z = t.in_range n e in let l = length-append c.lists ([] ∷ []) in omega arith;
  listed = λ k n e. subst (Memᴰ n) (sym (get_or-append c.lists ([] ∷ []) [] k (in_lists k n e))) (t.listed k n e);
}
  where
    in_lists : (k n : ℕ) → holds c.graph k n ≡ true → k < length c.lists
    in_lists k n e = long c.lists k (t.listed k n e)
      where
        long : (ls : List (List ℕ)) (i : ℕ) → Memᴰ n (get_or ls i []) → i < length ls
        long [] i m = absurd (Memᴰ.not-nil m)
        long (l ∷ ls) zero m = omega arith
        long (l ∷ ls) (suc i) m = let z = long ls i m in omega arith

module _ (path : ℕ) (name : Name) (named : name.path ≡ path) where
  -- the nets after one more, on the graph
  module _ (g : Graph) (homes : List Home) (r : Rest path homes g) (N : ℕ → ℕ) (fr : Fresh g N) (t : FlatNet) (fine : NetFine t) where
    unfoldable pub h : Graph
    h = foldl apply g (load_net N name (length homes) t)

    unfoldable pub home : Home
    home = record { name = t.name; free = N 0 }

-- ---- first entries

pub last_list : (ls : List (List ℕ)) → get_or (ls ++ [] ∷ []) (length ls) [] ≡ []
last_list [] = refl
last_list (l ∷ ls) = last_list ls

-- the first node of a new net is its free node
pub wider_first : (c : Core) (n : ℕ) (name : Name) (t : FlatNet) → length c.lists ≡ length c.homes → Firsts c
    → Firsts (placed_in n (new (length c.lists) name (2 + length t.free)) (wider (record { name = t.name; free = n }) c))
unfolding new
wider_first c n name t m f k h e = go (nth_snoc c.homes (record { name = t.name; free = n }) h k e)
  where
    ls : List (List ℕ)
    ls = c.lists ++ [] ∷ []

    go : (nth c.homes k ≡ some h) ⊎ ((k ≡ length c.homes) × (h ≡ record { name = t.name; free = n })) → nth (get_or (set ls (length c.lists) (get_or ls (length c.lists) [] ++ n ∷ [])) k []) 0 ≡ some h.free
    go (inl q) =
        let l = listed_below c.lists k h.free (f k h q) in
        ap (λ (x : List ℕ). nth x 0) (get_or-set_other ls (length c.lists) k (get_or ls (length c.lists) [] ++ n ∷ []) [] (λ s. let z = s in omega arith) ∙ get_or-append c.lists ([] ∷ []) [] k l) ∙ f k h q
    go (inr q) =
        let l : length c.lists < length ls = (let z = length-append c.lists ([] ∷ []) in omega arith) in
        let s : k ≡ length c.lists = q.0 ∙ sym m in
        ap (λ (i : ℕ). nth (get_or (set ls (length c.lists) (get_or ls (length c.lists) [] ++ n ∷ [])) i []) 0) s
        ∙ ap (λ (x : List ℕ). nth x 0) (get_or-set_same ls (length c.lists) (get_or ls (length c.lists) [] ++ n ∷ []) [] l)
        ∙ ap (λ (x : List ℕ). nth (x ++ n ∷ []) 0) (last_list c.lists) ∙ ap (λ (x : Home). some x.free) (sym q.1)

pub net_first : (name : Name) (t : FlatNet) (e : Engine) → Firsts (core_of e) → Then (λ e'. Firsts (core_of e')) (add_flat_net name t e)
unfolding add_flat_net load_net core_of
net_first name t e f =
    go (edit (Insert (fresh e 0) x) e₁) (edit_core (Insert (fresh e 0) x) e₁)
  where
    home : Home
    home = record { name = t.name; free = fresh e 0 }

    e₁ : Engine
    e₁ = with_nets (e.nets ++ new_net home ∷ []) e

    x : Node
    x = new (length e.nets) name (2 + length t.free)

    rest : List Edit
    rest = Join (port (fresh e 0) 0) (port (fresh e 0) 1) ∷ join_met [] (ends_at t (fresh e 0) 2 t.free) ++ load_nodes (fresh e) t (length e.nets) (ends_at t (fresh e 0) 2 t.free) 1 t.nodes

    count : length (core_of e).lists ≡ length e.nets
    count = length-map e.nets list_of

    began : Firsts (placed_in (fresh e 0) x (core_of e₁))
    began =
        subst (λ (c : Core). Firsts (placed_in (fresh e 0) x c)) (sym (core_wider home e))
        (subst (λ (n : ℕ). Firsts (placed_in (fresh e 0) (new n name (2 + length t.free)) (wider home (core_of e)))) count
        (wider_first (core_of e) (fresh e 0) name t (count ∙ sym (length-map e.nets home_of)) f))

    go : (r : Result Engine) → Then (λ e'. (core_of e' ≡ placed_in (fresh e 0) x (core_of e₁)) × Needs (Insert (fresh e 0) x) (core_of e₁)) r → Then (λ e'. Firsts (core_of e')) (r >>= λ e'. each edit rest e')
    go (refuse r) y = tt
    go (ok e') y = edits_first rest e' (subst Firsts (sym y.0) began)
