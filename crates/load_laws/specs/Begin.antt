-- The load of an accepted file leaves every included net well wired with its free node, and no rule names a free node's path.
use Rattle.std.specs.Prelude.{◌≡◌, ◌≢◌, ◌⊎◌, Bool, true, not, ◌&&◌, ◌||◌, replicate, T}
use Rattle.std.proofs.Math.Path.{refl, ap, subst}
use Rattle.std.proofs.Common.{sym, ◌∙◌, inl, inr, arith, true≢false, length-append}
use Prim.Native.Nat.{ℕ, zero, suc, ◌+◌, ◌<◌, ◌≤◌}
use Rattle.std.proofs.Math.Bool.{false}
use Rattle.std.proofs.Math.Option.{Option, none, some}
use mathlib.Core.List.{List, [], ◌∷◌, ◌++◌, map, append-nil, append_assoc, Memᴰ}
use Rattle.std.proofs.Math.ListN.{length, get_or}
use Rattle.std.proofs.lemmas.List.{length-replicate}
use Rattle.std.proofs.Math.Dec.{eqb}
use Rattle.list_laws.specs.Tests.{both}
use Rattle.list_laws.specs.Lists.{any_append}
use Rattle.net_file.specs.Lists.{Result, ok, refuse, all, any, distinct, ascend, eqs}
use Rattle.net_file.specs.Values.{Name, FlatNode, FlatNet, File, Rule, graft, annihilate, erase, commute, eta, free_path}
use Rattle.net_file.specs.Checks.{flat, same_name, pairs_ordered, flat_wired, rule_paths, names_free, free_named, ordered, wired, read}
use Rattle.net_file_laws.specs.Bytes.{Bytes}
use Rattle.net_file_laws.specs.Exact.{Each}
use Rattle.net_file_laws.specs.Parts.{NameFits}
use Rattle.net_file_laws.specs.Rules.{RuleFits}
use Rattle.net_file_laws.specs.Flat.{NodeFits, FlatNetFits}
use Rattle.net_file_laws.specs.RoundTrip.{Spells}
use Rattle.net_file_laws.proofs.RoundTrip.{flat_write_read}
use Rattle.definitions.specs.Lists.{◌>>=◌, is_some, or_else, keep, find, place, each, nth, from}
use Rattle.definitions.specs.Nets.{Port, Node, Graph, Home, nowhere, at, filled, holds, arity, across}
use Rattle.definitions.specs.Scripts.{Edit, Join}
use Rattle.definitions.specs.Rules.{new}
use Rattle.definitions.specs.Step.{rewrites}
use Rattle.definitions.specs.State.{Pools, Engine}
use Rattle.definitions.specs.Load.{with_free_path, free_name, End, ends_at, join_met, load_nodes, load_net, add_flat_net, empty, included, load}
use Rattle.join_laws.specs.Ports.{arity_same}
use Rattle.rule_laws.specs.Ids.{distinct_row}
use Rattle.rule_laws.specs.Rows.{mem_row, row_mem}
use Rattle.graph_laws.specs.Rest.{Rest, Unnamed, holds_filled}
use Rattle.graph_laws.specs.Nodes.{AllNodes, Brings, edits_nodes, brings_append}
use Rattle.step_laws.specs.Core.{Core, core_of}
use Rattle.step_laws.specs.Edits.{Then}
use Rattle.step_laws.specs.Ready.{Ready}
use Rattle.step_laws.specs.First.{Firsts}
use Rattle.load_laws.specs.Finds.{all_mem}
use Rattle.load_laws.specs.Ends.{ends_length}
use Rattle.load_laws.specs.Loaded.{Loaded, NetFine, Added, map_snoc, net_first}

-- ---- no node

pub none_at : (N n : ℕ) → ◌≡◌ {A = Option Node} (get_or (replicate N none) n none) none
none_at zero n = refl
none_at (suc N) zero = refl
none_at (suc N) (suc n) = none_at N n

module _ (N : ℕ) where
  abbrev pub vacant : Graph
  vacant = replicate N none

  pub none_filled : (n : ℕ) → filled vacant n ≡ false
  unfolding filled
  none_filled n = ap is_some (none_at N n)

  pub none_across : (p : Port) → across vacant p ≡ none
  unfolding across at
  none_across p = ap (λ (o : Option Node). get_or (or_else o nowhere).ports p.index none) (none_at N p.node)

  pub none_arity : (n : ℕ) → arity vacant n ≡ 0
  unfolding arity at
  none_arity n = ap (λ (o : Option Node). length (or_else o nowhere).ports) (none_at N n)

  pub none_holds : (k n : ℕ) → holds vacant k n ≡ false
  unfolding holds
  none_holds k n = ap (λ (o : Option Node). elim o as (λ _. Bool) [ none ↦ false | some x ↦ eqb x.net k ]) (none_at N n)

  pub none_rest : (path : ℕ) → Rest path [] vacant
  none_rest path = record {
    well = record {
      wired = record {
        back = λ p q e. absurd (none_some p q e);
        apart = λ p e. none_some p p e;
        within = λ p q e. absurd (none_some p q e);
      };
      full = λ r l. let z = none_arity r.node in absurd (omega arith);
    };
    ported = λ n f. absurd (true≢false (sym f ∙ none_filled n));
    free = λ k h e. absurd (no_home k h e);
  }
    where
      none_some : (p q : Port) → across vacant p ≡ some q → ⊥
      none_some p q e = let a = none_across p in let z : ◌≡◌ {A = ℕ} 0 1 = cc in omega arith

      no_home : (k : ℕ) (h : Home) → nth [] k ≡ some h → ⊥
      no_home zero h e = let z : ◌≡◌ {A = ℕ} 0 1 = cc in omega arith
      no_home (suc k) h e = let z : ◌≡◌ {A = ℕ} 0 1 = cc in omega arith

pub ids : (n k : ℕ) → map (λ i. i) (from k n) ≡ from k n
ids zero k = refl
ids (suc n) k = ap (λ (l : List ℕ). k ∷ l) (ids n (suc k))

pub empty_loaded : (path : ℕ) (p : Pools) (f : File FlatNet) → Loaded path (core_of (empty p f))
unfolding empty core_of
empty_loaded path p f = record {
  rest = none_rest p.nodes path;
  tracked = record {
    size = length-replicate p.nodes none;
    vacant = λ n m. (
      (let y = mem_row (λ i. i) p.nodes 0 n (subst (Memᴰ n) (sym (ids p.nodes 0)) m) in let l = length-replicate {A = Option Node} p.nodes none in let u = y.2 in let v = y.3 in omega arith),
      none_filled p.nodes n,
    );
    every = λ n l e. subst (Memᴰ n) (ids p.nodes 0) (row_mem (λ i. i) p.nodes 0 n (omega arith) (let z = length-replicate {A = Option Node} p.nodes none in omega arith));
    once = subst (λ (l : List ℕ). distinct eqb l ≡ true) (ids p.nodes 0) (distinct_row (λ i. i) p.nodes 0 (λ i j _ _ e. e));
    in_range = λ n e. absurd (true≢false (sym e ∙ none_filled p.nodes n));
    listed = λ k n e. absurd (true≢false (sym e ∙ none_holds p.nodes k n));
  };
}

-- ---- all nets

-- a node that can be written: its name fits the tables, it has at most 16 ports
abbrev pub Writable : ℕ → ℕ → Name → ℕ → Type 0
Writable paths names m s = NameFits paths names m × (s ≤ 16)

-- each net's free node has 2 more ports than the file gives the net free wires
abbrev pub FreePorts : List FlatNet → Core → Type 0
FreePorts ts c = map (λ (h : Home). arity c.graph h.free) c.homes ≡ map (λ (t : FlatNet). 2 + length t.free) ts

-- what the load of the nets ts leaves; Q holds of each node's name and number of ports
pub record Begun (path : ℕ) (Q : Name → ℕ → Type 0) (rs : List Rule) (ts : List FlatNet) (c : Core) : Type 0 where
  pub loaded : Loaded path c
  pub rules : c.rules ≡ rs
  pub ports : FreePorts ts c
  pub nodes : AllNodes Q c.graph

-- what the load asks of a net
pub record NetGood (Q : Name → ℕ → Type 0) (name : Name) (t : FlatNet) : Type 0 where
  pub fine : NetFine t
  pub free : Q name (2 + length t.free)
  pub nodes : Each (λ (x : FlatNode). Q x.name (suc (length x.aux))) t.nodes

pub same_map : {A : Type 0} (f g : A → ℕ) (xs : List A) → ((k : ℕ) (x : A) → nth xs k ≡ some x → f x ≡ g x) → map f xs ≡ map g xs
same_map f g [] h = refl
same_map f g (x ∷ xs) h = λ i. h 0 x refl i ∷ same_map f g xs (λ k y e. h (suc k) y e) i

module _ (path : ℕ) (Q : Name → ℕ → Type 0) (rules : List Rule) (name : Name) (named : name.path ≡ path) where
  pub met_brings : (met xs : List End) → Brings Q (join_met met xs)
  unfolding join_met
  met_brings met [] = tt
  met_brings met (x ∷ xs) = go (find (λ y. eqb x.0 y.0) met) (met_brings (x ∷ met) xs)
    where
      go : (o : Option End) → Brings Q (join_met (x ∷ met) xs) → Brings Q (elim o as (λ _. List Edit) [ none ↦ join_met (x ∷ met) xs | some y ↦ Join x.1 y.1 ∷ join_met (x ∷ met) xs ])
      go none b = b
      go (some y) b = b

  pub nodes_brings : (N : ℕ → ℕ) (t : FlatNet) (k : ℕ) (xs : List FlatNode) (met : List End) (j : ℕ) → Each (λ (x : FlatNode). Q x.name (suc (length x.aux))) xs → Brings Q (load_nodes N t k met j xs)
  unfolding load_nodes new
  nodes_brings N t k [] met j h = tt
  nodes_brings N t k (x ∷ xs) met j h = (
    subst (Q x.name) (sym (length-replicate (length ends) none ∙ ends_length t (N j) (x.pri ∷ x.aux) 0)) h.0,
    brings_append Q (join_met met ends) (load_nodes N t k (ends ++ met) (1 + j) xs) (met_brings met ends) (nodes_brings N t k xs (ends ++ met) (1 + j) h.1),
  )
    where
      ends : List End
      ends = ends_at t (N j) 0 (x.pri ∷ x.aux)

  pub net_brings : (N : ℕ → ℕ) (k : ℕ) (t : FlatNet) → NetGood Q name t → Brings Q (load_net N name k t)
  unfolding load_net new
  net_brings N k t g = (
    subst (Q name) (sym (length-replicate (2 + length t.free) none)) g.free,
    brings_append Q (join_met [] (ends_at t (N 0) 2 t.free)) (load_nodes N t k (ends_at t (N 0) 2 t.free) 1 t.nodes)
        (met_brings [] (ends_at t (N 0) 2 t.free)) (nodes_brings N t k t.nodes (ends_at t (N 0) 2 t.free) 1 g.nodes),
  )

  -- one net more
  pub net_begun : (us : List FlatNet) (t : FlatNet) (c d : Core) → NetGood Q name t → Begun path Q rules us c → Loaded path d → Added name t c d → Begun path Q rules (us ++ t ∷ []) d
  net_begun us t c d g b l a = record {
    loaded = l;
    rules = a.rules ∙ b.rules;
    ports = ap (map of) a.homes ∙ map_snoc of c.homes (record { name = t.name; free = a.numbers 0 })
        ∙ (λ i. (same_map of (λ (h : Home). arity c.graph h.free) c.homes kept ∙ b.ports) i ++ a.ports i ∷ [])
        ∙ sym (map_snoc (λ (u : FlatNet). 2 + length u.free) us t);
    nodes = subst (AllNodes Q) (sym a.graph) (edits_nodes Q (load_net a.numbers name (length c.homes) t) c.graph b.nodes (net_brings a.numbers (length c.homes) t g));
  }
    where
      of : Home → ℕ
      of h = arity d.graph h.free

      kept : (k : ℕ) (h : Home) → nth c.homes k ≡ some h → arity d.graph h.free ≡ arity c.graph h.free
      kept k h e = arity_same c.graph d.graph h.free (a.old h.free (holds_filled c.graph k h.free (b.loaded.rest.free k h e).held))

pub keep_in : (g : FlatNet → Bool) (ts : List FlatNet) (t : FlatNet) → Memᴰ t (keep g ts) → Memᴰ t ts
keep_in g [] t m = m
keep_in g (u ∷ ts) t m = go (g u) m (keep_in g ts t)
  where
    go : (b : Bool) → Memᴰ t (elim b as (λ _. List FlatNet) [ true ↦ u ∷ keep g ts | false ↦ keep g ts ]) → (Memᴰ t (keep g ts) → Memᴰ t ts) → Memᴰ t (u ∷ ts)
    go true k r = via (mathlib.Core.List.Memᴰ.cases_cons k)
      where
        via : (t ≡ u) ⊎ Memᴰ t (keep g ts) → Memᴰ t (u ∷ ts)
        via (inl s) = mathlib.Core.List.Memᴰ.head s
        via (inr q) = mathlib.Core.List.Memᴰ.tail (r q)
    go false k r = mathlib.Core.List.Memᴰ.tail (r k)

-- ---- the free path

pub place_passes : (g : List ℕ → Bool) (xs : List (List ℕ)) → any g xs ≡ true → g (get_or xs (place g xs) []) ≡ true
place_passes g [] e = absurd (true≢false (sym e))
place_passes g (x ∷ xs) e = go (g x) refl e (place_passes g xs)
  where
    go : (t : Bool) → g x ≡ t → (t || any g xs) ≡ true → (any g xs ≡ true → g (get_or xs (place g xs) []) ≡ true) → g (get_or (x ∷ xs) (elim t as (λ _. ℕ) [ true ↦ 0 | false ↦ suc (place g xs) ]) []) ≡ true
    go true s q r = s
    go false s q r = r q

pub place_past : (g : List ℕ → Bool) (xs ys : List (List ℕ)) → any g xs ≡ false → length xs ≤ place g (xs ++ ys)
place_past g [] ys e = omega arith
place_past g (x ∷ xs) ys e = go (g x) e (place_past g xs ys)
  where
    go : (t : Bool) → (t || any g xs) ≡ false → (any g xs ≡ false → length xs ≤ place g (xs ++ ys)) → suc (length xs) ≤ elim t as (λ _. ℕ) [ true ↦ 0 | false ↦ suc (place g (xs ++ ys)) ]
    go true q r = absurd (true≢false q)
    go false q r = let z = r q in omega arith

pub any_none : {A : Type 0} (g : A → Bool) (xs : List A) (x : A) → any g xs ≡ false → Memᴰ x xs → g x ≡ false
any_none g [] x e m = absurd (mathlib.Core.List.Memᴰ.not-nil m)
any_none g (y ∷ ys) x e m = go (g y) refl e (mathlib.Core.List.Memᴰ.cases_cons m) (any_none g ys x)
  where
    go : (t : Bool) → g y ≡ t → (t || any g ys) ≡ false → (x ≡ y) ⊎ Memᴰ x ys → (any g ys ≡ false → Memᴰ x ys → g x ≡ false) → g x ≡ false
    go true s q k r = absurd (true≢false q)
    go false s q (inl k) r = ap g k ∙ s
    go false s q (inr k) r = r q k

pub each_mem : {A : Type 0} (P : A → Type 0) (xs : List A) (x : A) → Each P xs → Memᴰ x xs → P x
each_mem P [] x e m = absurd (mathlib.Core.List.Memᴰ.not-nil m)
each_mem P (y ∷ ys) x e m = go (mathlib.Core.List.Memᴰ.cases_cons m) (each_mem P ys x e.1)
  where
    go : (x ≡ y) ⊎ Memᴰ x ys → (Memᴰ x ys → P x) → P x
    go (inl s) r = subst P (sym s) e.0
    go (inr k) r = r k

-- a path that a rewrite is registered for is one of the rule's, and below the number of paths
pub rewrite_path : (paths : ℕ) (r : Rule) → RuleFits paths r → (p : ℕ) → Memᴰ p (rewrites r) → Memᴰ p (rule_paths r) × (p < paths)
unfolding rewrites rule_paths
rewrite_path paths (graft q lazy) fit p m = (m, subst (λ (j : ℕ). j < paths) (sym (mathlib.Core.List.Memᴰ.eq_of_singleton m)) fit)
rewrite_path paths (annihilate ps) fit p m = absurd (mathlib.Core.List.Memᴰ.not-nil m)
rewrite_path paths (erase es ns) fit p m = absurd (mathlib.Core.List.Memᴰ.not-nil m)
rewrite_path paths (commute xs ys) fit p m = absurd (mathlib.Core.List.Memᴰ.not-nil m)
rewrite_path paths (eta cs vs ns) fit p m = (mathlib.Core.List.Memᴰ.append_left ns (mathlib.Core.List.Memᴰ.append_left vs m), each_mem (λ j. j < paths) cs p fit.0.inside m)

pub unnamed : (paths : List (List ℕ)) (rules : List Rule) → Each (RuleFits (length paths)) rules → any (names_free paths) rules ≡ false → Unnamed (free_name paths).path rules
unfolding free_name with_free_path names_free
unnamed paths rules fit free r m p =
    let x = rewrite_path (length paths) r (each_mem (RuleFits (length paths)) rules r fit m) (free_name paths).path p in
    let y = any_none (λ j. eqs free_path (get_or paths j [])) (rule_paths r) (free_name paths).path (any_none (names_free paths) rules r free m) x.0 in
    go (any (eqs free_path) paths) refl x.1 y
  where
    go : (t : Bool) → any (eqs free_path) paths ≡ t → place (eqs free_path) (with_free_path paths) < length paths → eqs free_path (get_or paths (place (eqs free_path) (with_free_path paths)) []) ≡ false → ⊥
    go true e l h =
        let s : with_free_path paths ≡ paths = rw (e, with_free_path) in
        true≢false (sym (place_passes (eqs free_path) paths e) ∙ sym (ap (λ (q : List (List ℕ)). eqs free_path (get_or paths (place (eqs free_path) q) [])) s) ∙ h)
    go false e l h =
        let s : with_free_path paths ≡ paths ++ free_path ∷ [] = rw (e, with_free_path) in
        let a = place_past (eqs free_path) paths (free_path ∷ []) e in
        let b : place (eqs free_path) (with_free_path paths) ≡ place (eqs free_path) (paths ++ free_path ∷ []) = ap (place (eqs free_path)) s in
        omega arith

-- ---- a file that was read

pub T_true : (t : Bool) → T t → t ≡ true
T_true true x = refl
T_true false x = absurd x

pub not_false : (t : Bool) → T (not t) → t ≡ false
not_false true x = absurd x
not_false false x = refl

pub net_fine : (f : File FlatNet) → ordered flat f ≡ true → wired flat f ≡ true → (t : FlatNet) → Memᴰ t f.nets → NetFine t
unfolding ordered wired
net_fine f o w t m = record {
  ordered = all_mem (λ (n : FlatNet). pairs_ordered n.pairs) f.nets t
      (both (distinct eqs f.paths && distinct same_name f.names && ascend (map (λ (n : FlatNet). n.name) f.nets)) (all (λ (n : FlatNet). pairs_ordered n.pairs) f.nets) o).1 m;
  wired = all_mem flat_wired f.nets t w m;
}

pub names_none : (f : File FlatNet) → free_named flat f ≡ false → any (names_free f.paths) f.rules ≡ false
unfolding free_named
names_none f e = e

-- ---- names and numbers of ports

pub each_map : {A : Type 0} (P R : A → Type 0) → ((x : A) → P x → R x) → (xs : List A) → Each P xs → Each R xs
each_map P R h [] e = tt
each_map P R h (x ∷ xs) e = (h x e.0, each_map P R h xs e.1)

-- more paths
pub name_wider : (paths more names : ℕ) → paths ≤ more → (m : Name) → NameFits paths names m → NameFits more names m
name_wider paths more names l m h = record { path = (let z = h.path in omega arith); payload = h.payload; few = h.few; children = h.children }

pub place_below : (g : List ℕ → Bool) (xs : List (List ℕ)) → any g xs ≡ true → place g xs < length xs
place_below g [] e = absurd (true≢false (sym e))
place_below g (x ∷ xs) e = go (g x) e (place_below g xs)
  where
    go : (t : Bool) → (t || any g xs) ≡ true → (any g xs ≡ true → place g xs < length xs) → elim t as (λ _. ℕ) [ true ↦ 0 | false ↦ suc (place g xs) ] < suc (length xs)
    go true q r = omega arith
    go false q r = let z = r q in omega arith

-- the table with the free path holds it, and no path less
pub with_free : (ps : List (List ℕ)) → (any (eqs free_path) (with_free_path ps) ≡ true) × (length ps ≤ length (with_free_path ps))
unfolding with_free_path
with_free ps = go (any (eqs free_path) ps) refl
  where
    go : (t : Bool) → any (eqs free_path) ps ≡ t
        → (any (eqs free_path) (elim t as (λ _. List (List ℕ)) [ true ↦ ps | false ↦ ps ++ free_path ∷ [] ]) ≡ true) × (length ps ≤ length {A = List ℕ} (elim t as (λ _. List (List ℕ)) [ true ↦ ps | false ↦ ps ++ free_path ∷ [] ]))
    go true e = (e, omega arith)
    go false e = (any_append (eqs free_path) ps (free_path ∷ []) ∙ ap (λ (t : Bool). t || (eqs free_path free_path || false)) e, let z = length-append ps (free_path ∷ []) in omega arith)

pub free_fits : (ps : List (List ℕ)) (names : ℕ) → NameFits (length (with_free_path ps)) names (free_name ps)
unfolding free_name
free_fits ps names = record { path = place_below (eqs free_path) (with_free_path ps) (with_free ps).0; payload = omega arith; few = omega arith; children = tt }

pub net_good : (f : File FlatNet) → ordered flat f ≡ true → wired flat f ≡ true → (t : FlatNet) → Memᴰ t f.nets → FlatNetFits (length f.paths) (length f.names) t
    → NetGood (Writable (length (with_free_path f.paths)) (length f.names)) (free_name f.paths) t
net_good f o w t m fits = record {
  fine = net_fine f o w t m;
  free = (free_fits f.paths (length f.names), let z = fits.few_free in omega arith);
  nodes = each_map (NodeFits (length f.paths) (length f.names) t.wires) (λ (x : FlatNode). Writable (length (with_free_path f.paths)) (length f.names) x.name (suc (length x.aux)))
      (λ x h. (name_wider (length f.paths) (length (with_free_path f.paths)) (length f.names) (with_free f.paths).1 x.name h.name, let z = h.few in omega arith)) t.nodes fits.nodes;
}

pub nets_first : (name : Name) (ts : List FlatNet) (e : Engine) → Firsts (core_of e) → Then (λ e'. Firsts (core_of e')) (each (add_flat_net name) ts e)
nets_first name [] e f = f
nets_first name (t ∷ ts) e f = go (add_flat_net name t e) (net_first name t e f) (λ e'. nets_first name ts e')
  where
    go : (r : Result Engine) → Then (λ e'. Firsts (core_of e')) r → ((e' : Engine) → Firsts (core_of e') → Then (λ e''. Firsts (core_of e'')) (each (add_flat_net name) ts e'))
        → Then (λ e''. Firsts (core_of e'')) (r >>= λ e'. each (add_flat_net name) ts e')
    go (refuse r) x k = tt
    go (ok e') x k = k e' x

-- after the load of any file each net's list begins with its free node
pub load_first : (p : Pools) (f : File FlatNet) (e : Engine) → load p f ≡ ok e → Firsts (core_of e)
unfolding load empty core_of
load_first p f e q = go (load p f) (nets_first (free_name f.paths) (included f) (empty p f) (λ k h x. absurd (none_there k h x))) q
  where
    none_there : (k : ℕ) (h : Home) → nth [] k ≡ some h → ⊥
    none_there k h x = let z : ◌≡◌ {A = ℕ} 0 1 = cc in omega arith

    go : (r : Result Engine) → Then (λ e'. Firsts (core_of e')) r → r ≡ ok e → Firsts (core_of e)
    go (refuse r) x y = let z : ◌≡◌ {A = ℕ} 0 1 = cc in absurd (omega arith)
    go (ok e') x y = subst (λ (d : Engine). Firsts (core_of d)) (ap (λ (r : Result Engine). elim r as (λ _. Engine) [ ok d ↦ d | refuse n ↦ e' ]) y) x

pub empty_begun : (path : ℕ) (Q : Name → ℕ → Type 0) (p : Pools) (f : File FlatNet) → Begun path Q f.rules [] (core_of (empty p f))
unfolding empty core_of
empty_begun path Q p f = record { loaded = empty_loaded path p f; rules = refl; ports = refl; nodes = λ n e. absurd (true≢false (sym e ∙ none_filled p.nodes n)) }

module _ (bs : List ℕ) (b : Bytes bs) (f : File FlatNet) (h : read flat bs ≡ ok f) (p : Pools) (e : Engine) (q : load p f ≡ ok e) where
  pub spells : Spells flat FlatNetFits bs f
  spells = flat_write_read bs b f h
