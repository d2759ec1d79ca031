-- A turn of the loop keeps the books, if every script that a rule finds is orderly. What makes it so is a condition on nodes, ports
-- and wires: here P, and `Sound P` says what is asked of it.
use Rattle.std.specs.Prelude.{ℕ, ◌≤◌, ◌<◌, ◌≡◌, Bool, ◌&&◌, ◌≢◌, ◌⊎◌, length}
use Rattle.std.proofs.Math.Path.{refl, subst}
use Rattle.std.proofs.Common.{sym, ap, ◌∙◌, arith, inl, inr, eqb-true}
use Rattle.std.proofs.Math.Bool.{true, false}
use Rattle.std.proofs.Math.Option.{Option, none, some}
use mathlib.Core.List.Memᴰ
use mathlib.Core.List.{List, [], ◌∷◌, ◌++◌, map, Memᴰ}
use Rattle.std.proofs.Math.ListN.{get_or}
use Rattle.std.proofs.Math.Dec.{eqb}
use Rattle.std.proofs.lemmas.Bool.{eqb-false}
use Rattle.net_file.specs.Lists.{Result, ok, refuse, need, bit, concat_map}
use Rattle.net_file.specs.Values.{Rule, graft, annihilate, erase, commute, eta}
use Rattle.definitions.specs.Lists.{◌>>=◌, keep}
use Rattle.definitions.specs.Nets.{Port, Graph, Home, port, is_principal, at, name_of, follow}
use Rattle.definitions.specs.Scripts.{Script, apply_script}
use Rattle.definitions.specs.Rules.{eta_script, graft_script, graft_fits, reaches, interact}
use Rattle.definitions.specs.Step.{pairs, rewrites}
use Rattle.definitions.specs.State.{Engine, graph_of, homes, net_at, fewer}
use Rattle.definitions.specs.Books.{tighten_net, fresh, finish_edit_net}
use Rattle.definitions.specs.Visit.{Visited, acted, passed, Try, interaction, rewrite, act, act_if, await_net, graft_net, get_net, graft_named, graft_child, try_graft, try_pair, interactions, tries, try_rewrite, attempt, attempts, visit}
use Rattle.definitions.specs.Run.{leave}
use Rattle.dirty_laws.specs.Tests.{eqb_self}
use Rattle.engine_laws.specs.Frame.{Body, body, still_graph, fewer_still, finish_net_still}
use Rattle.good_laws.specs.Owners.{owners, net_of}
use Rattle.good_laws.specs.Good.{Good, bump, rest}
use Rattle.good_laws.specs.Marks.{fewer_good}
use Rattle.good_laws.specs.Removed.{tighten_good}
use Rattle.good_laws.specs.Idle.{Idle, rises_idle, tighten_rises}
use Rattle.good_laws.specs.Scripts.{Orderly, Done, Visits, act_good, await_good}
use Rattle.good_laws.specs.Turned.{named_below}

-- a condition on nodes, ports and wires, on the nets' homes and on the rules
abbrev pub Condition : Type 1
Condition = Graph → List Home → List Rule → Type 0

-- it holds of an engine
abbrev pub Of : Condition → Engine → Type 0
Of P e = P (graph_of e) (homes e) e.rules

-- a script is orderly, its dead nodes are of net k, and it keeps P
abbrev pub Fits : Condition → Engine → ℕ → Script → Type 0
Fits P e k s = Orderly e k s × P (apply_script (graph_of e) s) (homes e) e.rules

-- so is what a rule finds, with a visited node of net k
abbrev pub Tried : Condition → Engine → ℕ → Try → Type 0
Tried P e k (interaction r a b) = (s : Script) → interact r (fresh e) (graph_of e) a b ≡ some s → Fits P e k s
Tried P e k (rewrite (graft p lazy) n) =
    (c m : ℕ) (cs : List ℕ) → reaches (graph_of e) lazy n ≡ true → (name_of (graph_of e) n).children ≡ c ∷ cs → get_net e c ≡ some m → (net_at e m).pending ≡ 0
    → graft_fits (graph_of (tighten_net m e)) (net_at (tighten_net m e) m).home.free n ≡ true
    → Fits P (tighten_net m e) k (graft_script (fresh (tighten_net m e)) (graph_of (tighten_net m e)) (net_at (tighten_net m e) m).list.items (net_at (tighten_net m e) m).home.free n)
Tried P e k (rewrite (annihilate ps) n) = Unit {0}
Tried P e k (rewrite (erase es ns) n) = Unit {0}
Tried P e k (rewrite (commute xs ys) n) = Unit {0}
Tried P e k (rewrite (eta cs vs ns) n) = (s : Script) → eta_script (fresh e) (graph_of e) vs ns n ≡ some s → Fits P e k s

-- during the visit of node n
abbrev pub visiting : Engine → ℕ → ℕ → ℕ
visiting e n = bump (at (graph_of e) n).net rest

-- every rule that is tried on a visited node finds what it should
abbrev pub Sound : Condition → Type 0
Sound P = (e : Engine) (n k : ℕ) → Good (visiting e n) e → Of P e → get_or (owners (graph_of e)) n none ≡ some k
    → (t : Try) → Memᴰ t (tries e.rules (graph_of e) n) → Tried P e k t

-- a rule is tried on the node visited
abbrev pub OnNode : ℕ → Try → Type 0
OnNode n (interaction r a b) = (a ≡ n) ⊎ (b ≡ n)
OnNode n (rewrite r m) = m ≡ n

-- what holds of all that each part gives holds of the whole
every_append : {B : Type 0} (Q : B → Type 0) (us vs : List B) → ((b : B) → Memᴰ b us → Q b) → ((b : B) → Memᴰ b vs → Q b)
    → (b : B) → Memᴰ b (us ++ vs) → Q b
every_append Q us vs f h b m = go (Memᴰ.append_cases us m)
  where
    go : Memᴰ b us ⊎ Memᴰ b vs → Q b
    go (inl k) = f b k
    go (inr k) = h b k

every_concat : {A B : Type 0} (Q : B → Type 0) (f : A → List B) (xs : List A) → ((a : A) (b : B) → Memᴰ b (f a) → Q b)
    → (b : B) → Memᴰ b (concat_map f xs) → Q b
every_concat Q f [] h b m = absurd (Memᴰ.not-nil m)
every_concat Q f (a ∷ xs) h b m = every_append Q (f a) (concat_map f xs) (h a) (λ c k. every_concat Q f xs h c k) b m

every_map : {A B : Type 0} (Q : B → Type 0) (f : A → B) (xs : List A) → ((a : A) → Q (f a)) → (b : B) → Memᴰ b (map f xs) → Q b
every_map Q f xs h b m = let r = Memᴰ.of_map f xs m in subst Q r.2 (h r.0)

interaction_node : (rs : List Rule) (g : Graph) (n : ℕ) (q : Port) (t : Try) → Memᴰ t (interactions rs g n q) → OnNode n t
unfolding interactions try_pair
interaction_node rs g n q = go (is_principal q)
  where
    pair : (r : Rule) (p : ℕ × ℕ) (x y : Bool) (t : Try)
        → Memᴰ t (elim x as (λ _. List Try) [ true ↦ interaction r n q.node ∷ [] | false ↦ elim y as (λ _. List Try) [ true ↦ interaction r q.node n ∷ [] | false ↦ [] ] ]) → OnNode n t
    pair r p true y t m = subst (OnNode n) (sym (Memᴰ.eq_of_singleton m)) (inl refl)
    pair r p false true t m = subst (OnNode n) (sym (Memᴰ.eq_of_singleton m)) (inr refl)
    pair r p false false t m = absurd (Memᴰ.not-nil m)

    each_pair : (r : Rule) (p : ℕ × ℕ) (t : Try) → Memᴰ t (try_pair g n q.node r p) → OnNode n t
    each_pair r p t m = pair r p (eqb p.0 (name_of g n).path && eqb p.1 (name_of g q.node).path) (eqb p.1 (name_of g n).path && eqb p.0 (name_of g q.node).path) t m

    go : (b : Bool) (t : Try) → Memᴰ t (elim b as (λ _. List Try) [ true ↦ concat_map (λ r. concat_map (try_pair g n q.node r) (pairs r)) rs | false ↦ [] ]) → OnNode n t
    go true t m = every_concat (OnNode n) (λ r. concat_map (try_pair g n q.node r) (pairs r)) rs (λ r. every_concat (OnNode n) (try_pair g n q.node r) (pairs r) (each_pair r)) t m
    go false t m = absurd (Memᴰ.not-nil m)

pub tries_node : (rs : List Rule) (g : Graph) (n : ℕ) (t : Try) → Memᴰ t (tries rs g n) → OnNode n t
unfolding tries
tries_node rs g n = every_append (OnNode n) (interactions rs g n (follow g (port n 0))) (concat_map (λ r. map (λ p. rewrite r n) (keep (eqb (name_of g n).path) (rewrites r))) rs)
    (interaction_node rs g n (follow g (port n 0)))
    (every_concat (OnNode n) (λ r. map (λ p. rewrite r n) (keep (eqb (name_of g n).path) (rewrites r))) rs (λ r. every_map (OnNode n) (λ p. rewrite r n) (keep (eqb (name_of g n).path) (rewrites r)) (λ p. refl)))

module _ (P : Condition) where
  -- P is about what stays
  pub of_same : (e e' : Engine) → body e' ≡ body e → Of P e → Of P e'
  of_same e e' h p =
      subst (λ (b : Body). P b.1 b.0.2 b.0.1) (sym h) p

  -- the books are good, P holds, and no node waits on a net at 0
  abbrev pub Kept : (ℕ → ℕ) → Engine → Type 0
  Kept x e = Good x e × Of P e × Idle e

  -- after a visit that began at e: P holds where a rule acted; else nothing but books changed
  abbrev pub Fine : (ℕ → ℕ) → Engine → Result Visited → Type 0
  Fine x e r = Visits (Kept x) (λ e'. Good x e' × (body e' ≡ body e) × Idle e') r

  act_fine : (x : ℕ → ℕ) (k : ℕ) (s : Script) (e e₀ : Engine) → Good x e → Idle e → 1 ≤ x k → Fits P e k s → Fine x e₀ (act s e)
  act_fine x k s e e₀ g i one f = go (act s e) (act_good x k s e (λ _. ⊥) g f.0 one)
    where
      go : (r : Result Visited) → Visits (Done x e (apply_script (graph_of e) s) (homes e) e.rules) (λ _. ⊥) r → Fine x e₀ r
      go (ok (acted e')) d =
          (d.good, subst (λ (y : Graph). P y (homes e') e'.rules) (sym d.nodes) (subst (λ (hs : List Home). P (apply_script (graph_of e) s) hs e'.rules) (sym d.home) (subst (P (apply_script (graph_of e) s) (homes e)) (sym d.rules) f.1)), rises_idle e e' d.rises i)
      go (ok (passed e')) d = absurd d
      go (refuse r) d = tt

  act_if_fine : (x : ℕ → ℕ) (k : ℕ) (o : Option Script) (e e₀ : Engine) → Good x e → body e ≡ body e₀ → Idle e → 1 ≤ x k
      → ((s : Script) → o ≡ some s → Fits P e k s) → Fine x e₀ (act_if o e)
  unfolding act_if
  act_if_fine x k none e e₀ g b i one h = (g, b, i)
  act_if_fine x k (some s) e e₀ g b i one h = act_fine x k s e e₀ g i one (h s refl)

  module _ (n : ℕ) (e₀ : Engine) where
    abbrev y : ℕ → ℕ
    y = visiting e₀ n

    abbrev pub k : ℕ
    k = (at (graph_of e₀) n).net

    one : 1 ≤ y k
    one = let q : bit (eqb k k) ≡ 1 = ap bit (eqb_self k) in omega arith

    -- the visit's own count, in a state of the same body
    counts : (e : Engine) → body e ≡ body e₀ → Good y e → Good (bump (at (graph_of e) n).net rest) e
    counts e b g = subst (λ (h : Graph). Good (bump (at h n).net rest) e) (sym (still_graph b)) g

    graft_fine : (m : ℕ) (e : Engine) → Good y e → body e ≡ body e₀ → Idle e → m < length e.nets
        → (graft_fits (graph_of (tighten_net m e)) (net_at (tighten_net m e) m).home.free n ≡ true
        → Fits P (tighten_net m e) k (graft_script (fresh (tighten_net m e)) (graph_of (tighten_net m e)) (net_at (tighten_net m e) m).list.items (net_at (tighten_net m e) m).home.free n))
        → Fine y e₀ (graft_net m n e)
    unfolding graft_net
    graft_fine m e g b i l h =
        let e₁ = tighten_net m e in
        let free = (net_at e₁ m).home.free in
        let s = graft_script (fresh e₁) (graph_of e₁) (net_at e₁ m).list.items free n in
        go (graft_fits (graph_of e₁) free n) refl (act s e₁) (λ t. act_fine y k s e₁ e₀ (tighten_good y m e g l) (rises_idle e e₁ (tighten_rises m e) i) one (h t))
      where
        go : (t : Bool) → graft_fits (graph_of (tighten_net m e)) (net_at (tighten_net m e) m).home.free n ≡ t → (r : Result Visited)
            → (graft_fits (graph_of (tighten_net m e)) (net_at (tighten_net m e) m).home.free n ≡ true → Fine y e₀ r) → Fine y e₀ (r >>= λ v. need t 13 (ok v))
        go true q (ok v) f = f q
        go true q (refuse r) f = tt
        go false q (ok v) f = tt
        go false q (refuse r) f = tt

    await_fine : (m : ℕ) (e : Engine) → Good y e → body e ≡ body e₀ → Idle e → (net_at e m).pending ≢ 0 → m < length e.nets → Fine y e₀ (await_net m n e)
    await_fine m e g b i above l = go (await_net m n e) (await_good rest m n e (λ _. ⊥) (counts e b g) i above l)
      where
        go : (r : Result Visited) → Visits (λ _. ⊥) (λ e'. Good (bump (at (graph_of e) n).net rest) e' × (body e' ≡ body e) × Idle e') r → Fine y e₀ r
        go (ok (acted e')) d = absurd d
        go (ok (passed e')) d = (subst (λ (h : Graph). Good (bump (at h n).net rest) e') (still_graph b) d.0, d.1 ∙ b, d.2)
        go (refuse r) d = tt

    named_fine : (o : Option ℕ) (e : Engine) → Good y e → body e ≡ body e₀ → Idle e
        → ((m : ℕ) → o ≡ some m → m < length e.nets)
        → ((m : ℕ) → o ≡ some m → (net_at e m).pending ≡ 0
        → graft_fits (graph_of (tighten_net m e)) (net_at (tighten_net m e) m).home.free n ≡ true
        → Fits P (tighten_net m e) k (graft_script (fresh (tighten_net m e)) (graph_of (tighten_net m e)) (net_at (tighten_net m e) m).list.items (net_at (tighten_net m e) m).home.free n))
        → Fine y e₀ (graft_named o n e)
    unfolding graft_named
    named_fine none e g b i l h = (g, b, i)
    named_fine (some m) e g b i l h = go (eqb (net_at e m).pending 0) refl
      where
        go : (t : Bool) → eqb (net_at e m).pending 0 ≡ t → Fine y e₀ (elim t as (λ _. Result Visited) [ true ↦ graft_net m n e | false ↦ await_net m n e ])
        go true q = graft_fine m e g b i (l m refl) (h m refl (eqb-true (net_at e m).pending 0 q))
        go false q = await_fine m e g b i (eqb-false (net_at e m).pending 0 q) (l m refl)

    child_fine : (cs : List ℕ) (p : ℕ) (lazy : Bool) (e : Engine) → Good y e → body e ≡ body e₀ → Idle e → (name_of (graph_of e) n).children ≡ cs → reaches (graph_of e) lazy n ≡ true
        → Tried P e k (rewrite (graft p lazy) n) → Fine y e₀ (graft_child cs n e)
    unfolding graft_child
    child_fine [] p lazy e g b i q r h = tt
    child_fine (c ∷ cs) p lazy e g b i q r h = named_fine (get_net e c) e g b i (λ m w. named_below e c m w) (λ m w z f. h c m cs r q w z f)

    rewrite_fine : (r : Rule) (e : Engine) → Good y e → body e ≡ body e₀ → Idle e → Tried P e k (rewrite r n) → Fine y e₀ (try_rewrite r n e)
    unfolding try_rewrite try_graft
    rewrite_fine (annihilate ps) e g b i h = (g, b, i)
    rewrite_fine (erase es ns) e g b i h = (g, b, i)
    rewrite_fine (commute xs ys) e g b i h = (g, b, i)
    rewrite_fine (eta cs vs ns) e g b i h = act_if_fine y k (eta_script (fresh e) (graph_of e) vs ns n) e e₀ g b i one h
    rewrite_fine (graft p lazy) e g b i h = go (reaches (graph_of e) lazy n) refl
      where
        go : (t : Bool) → reaches (graph_of e) lazy n ≡ t → Fine y e₀ (elim t as (λ _. Result Visited) [ true ↦ graft_child (name_of (graph_of e) n).children n e | false ↦ ok (passed e) ])
        go true r = child_fine (name_of (graph_of e) n).children p lazy e g b i refl r h
        go false r = (g, b, i)

    attempt_fine : (t : Try) (e : Engine) → Good y e → body e ≡ body e₀ → Idle e → OnNode n t → Tried P e k t → Fine y e₀ (attempt t e)
    unfolding attempt
    attempt_fine (interaction r a c) e g b i o h = act_if_fine y k (interact r (fresh e) (graph_of e) a c) e e₀ g b i one h
    attempt_fine (rewrite r n') e g b i o h =
        subst (λ (j : ℕ). Fine y e₀ (try_rewrite r j e)) (sym o) (rewrite_fine r e g b i (subst (λ (j : ℕ). Tried P e k (rewrite r j)) o h))

    attempts_fine : (ts : List Try) → ((t : Try) → Memᴰ t ts → OnNode n t × ((e : Engine) → Good y e → body e ≡ body e₀ → Tried P e k t))
        → (e : Engine) → Good y e → body e ≡ body e₀ → Idle e → Fine y e₀ (attempts ts e)
    unfolding attempts
    attempts_fine [] h e g b i = (g, b, i)
    attempts_fine (t ∷ ts) h e g b i =
        let q = h t (Memᴰ.head refl) in
        go (attempt t e) (attempt_fine t e g b i q.0 (q.1 e g b)) (λ e' g' b' i'. attempts_fine ts (λ u m. h u (Memᴰ.tail m)) e' g' b' i')
      where
        go : (r : Result Visited) → Fine y e₀ r → ((e' : Engine) → Good y e' → body e' ≡ body e₀ → Idle e' → Fine y e₀ (attempts ts e'))
            → Fine y e₀ (r >>= λ v. elim v as (λ _. Result Visited) [ acted e' ↦ ok (acted e') | passed e' ↦ attempts ts e' ])
        go (ok (acted e')) q f = q
        go (ok (passed e')) q f = f e' q.0 q.1 q.2
        go (refuse r) q f = tt

  module _ (sound : Sound P) where
    pub visit_fine : (n k : ℕ) (e : Engine) → Good (visiting e n) e → Of P e → Idle e → get_or (owners (graph_of e)) n none ≡ some k → Fine (visiting e n) e (visit n e)
    unfolding visit
    visit_fine n k e g p i o = attempts_fine n e (tries e.rules (graph_of e) n) (λ t m. (tries_node e.rules (graph_of e) n t m, λ e' g' b. found t m e' g' b)) e g refl i
      where
        found : (t : Try) → Memᴰ t (tries e.rules (graph_of e) n) → (e' : Engine) → Good (visiting e n) e' → body e' ≡ body e → Tried P e' (at (graph_of e) n).net t
        found t m e' g' b =
            subst (λ (j : ℕ). Tried P e' j t) (sym (net_of (graph_of e) n k o))
            (sound e' n k (counts n e e' b g') (of_same e e' b p) (subst (λ (h : Graph). get_or (owners h) n none ≡ some k) (sym (still_graph b)) o) t
            (subst (λ (z : Body). Memᴰ t (tries z.0.1 z.1 n)) (sym b) m))
