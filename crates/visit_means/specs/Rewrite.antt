-- The rewrites of a node: graft and eta, each once, where level Engine tries them; what each does is left open.
use Rattle.std.specs.Prelude.{ℕ, ◌+◌, ◌<◌, Bool, ◌||◌, length}
use Rattle.std.proofs.Math.Path.{◌≡◌, refl}
use Rattle.std.proofs.Common.{sym, ◌∙◌}
use Rattle.std.proofs.Math.Bool.{true, false}
use mathlib.Core.List.{List, [], ◌∷◌, ◌++◌, map}
use native.Mathlib.Omega.{arith}
use Rattle.std.proofs.Math.Decide.{ℕ_discrete}
use Rattle.std.proofs.Math.Dec.{eqb}
use Rattle.net_file.specs.Lists.{ok, any}
use Rattle.net_file.specs.Values.{Rule, graft, annihilate, erase, commute, eta, FlatNet, File}
use Rattle.net_file.specs.Checks.{flat, read, rule_paths}
use Rattle.list_laws.specs.Lists.{any_append}
use Rattle.definitions.specs.Lists.{keep, has as listed}
use Rattle.definitions.specs.Rules.{eta_script}
use Rattle.definitions.specs.Step.{rewrites}
use Rattle.definitions.specs.State.{Engine, graph_of}
use Rattle.definitions.specs.Books.{fresh}
use Rattle.definitions.specs.Visit
use Rattle.definitions.specs.Visit.{Try, act_if, try_graft, attempts}
use Rattle.words.specs.Choose.{pick, eq_yes, eq_no}
use Rattle.fields.specs.Fields.{byte, be16}
use Rattle.readers_laws.specs.Rules.{RuleStands, rule_list}
use Rattle.rule_sets.specs.Sets.{rule_at_words}
use Rattle.eta.specs.Eta.{eta_reduce}
use Rattle.graft.specs.Graft
use Rattle.visit.specs.Visits.{rewrite, attempt, alone}
use Rattle.held_names.specs.Free.{neither}
use Rattle.rule_means.specs.Collected.{collected}
use Rattle.rule_means.specs.Built.{rule_of, Built, rule_stands_at}
use Rattle.tries_laws.specs.Attempts.{attempts_one, attempts_copies, eta_pure}
use Rattle.visit_means.specs.Tells.{Tells}

-- what the rewrites do on node n of net t, of path x, which is one of the combinators where eta is tried
pub record AloneActs (P A : List ℕ → Engine → Type 0) (s : List ℕ) (f : File FlatNet) (sets : List ℕ) (t n x : ℕ) : Type 0 where
  pub grafts : (r : ℕ) → r < length f.rules → listed (collected 3 (rule_of f r)) x ≡ true → (lazy : Bool) (w : List ℕ) (e : Engine) → P w e
      → Tells P A (Graft.graft w s lazy t n) (try_graft lazy n e)
  pub reduces : (r : ℕ) (cs vs ns : List ℕ) → r < length f.rules → rule_of f r ≡ eta cs vs ns → listed cs x ≡ true → (w : List ℕ) (e : Engine) → P w e
      → Tells P A (eta_reduce w s sets r t n) (act_if (eta_script (fresh e) (graph_of e) vs ns n) e)

-- the tries of one rule on node n, of path x
abbrev pub on_node : ℕ → ℕ → Rule → List Try
on_node n x q = map (λ p. Visit.rewrite q n) (keep (eqb x) (rewrites q))

-- ---- which are kept

keep_none : (x : ℕ) (ps : List ℕ) → listed ps x ≡ false → keep (eqb x) ps ≡ []
keep_none x [] h = refl
keep_none x (p ∷ ps) h = go (eqb x p) h (keep_none x ps)
  where
    go : (c : Bool) → (c || listed ps x) ≡ false → (listed ps x ≡ false → keep (eqb x) ps ≡ []) → ◌≡◌ {A = List ℕ} (elim c [ true ↦ p ∷ keep (eqb x) ps | false ↦ keep (eqb x) ps ]) []
    go true k u = let z : ◌≡◌ {A = ℕ} 0 1 = cc in absurd (omega arith)
    go false k u = u k

keep_some : (x : ℕ) (ps : List ℕ) → listed ps x ≡ true → (c : ℕ) × (cs : List ℕ) × (keep (eqb x) ps ≡ c ∷ cs)
keep_some x [] h = let z : ◌≡◌ {A = ℕ} 0 1 = cc in absurd (omega arith)
keep_some x (p ∷ ps) h = go (eqb x p) h (keep_some x ps)
  where
    go : (c : Bool) → (c || listed ps x) ≡ true → (listed ps x ≡ true → (d : ℕ) × (cs : List ℕ) × (keep (eqb x) ps ≡ d ∷ cs))
        → (d : ℕ) × (cs : List ℕ) × (◌≡◌ {A = List ℕ} (elim c [ true ↦ p ∷ keep (eqb x) ps | false ↦ keep (eqb x) ps ]) (d ∷ cs))
    go true k u = (p, keep (eqb x) ps, refl)
    go false k u = u k

-- a rule that does not rewrite the path is not tried
pub node_out : (n x : ℕ) (q : Rule) → listed (collected 3 q) x ≡ false → on_node n x q ≡ []
unfolding collected
node_out n x q h = rw (keep_none x (rewrites q) h)

-- nor is one that does not name it at all
pub unnamed_in_rewrites : (q : Rule) (p : ℕ) → any (eqb p) (rule_paths q) ≡ false → listed (collected 3 q) p ≡ false
unfolding rule_paths collected rewrites
unnamed_in_rewrites (graft c lazy) p h = h
unnamed_in_rewrites (annihilate ps) p h = refl
unnamed_in_rewrites (erase es ns) p h = refl
unnamed_in_rewrites (commute xs ys) p h = refl
unnamed_in_rewrites (eta cs vs ns) p h =
    (neither (any (eqb p) cs) (any (eqb p) vs)
    (sym (any_append (eqb p) cs vs) ∙ (neither (any (eqb p) (cs ++ vs)) (any (eqb p) ns) (sym (any_append (eqb p) (cs ++ vs) ns) ∙ h)).0)).0

-- ---- on the words

module _ (s : List ℕ) (f : File FlatNet) (e₀ : read flat s ≡ ok f) (sets : List ℕ) (b : Built s f (length f.rules) sets)
    (P A : List ℕ → Engine → Type 0) (t n x : ℕ) (acts : AloneActs P A s f sets t n x)
    (r : ℕ) (h : r < length f.rules) (named : listed (collected 3 (rule_of f r)) x ≡ true) (w : List ℕ) (e : Engine) (p : P w e) where
  stands : RuleStands s (rule_of f r) (rule_at_words sets r)
  stands = rule_stands_at s f sets b e₀ r h

  graft_means : byte s (rule_at_words sets r) ≡ 1 → Tells P A (rewrite w s sets r (alone t n x)) (attempts (on_node n x (rule_of f r)) e)
  unfolding rewrite collected rewrites Visit.attempt Visit.try_rewrite
  graft_means i =
      let lazy = eqb (byte s (rule_at_words sets r + 3)) 1 in
      let q : rule_of f r ≡ graft (be16 s (rule_at_words sets r + 1)) lazy = stands.grafts i in
      let k : keep (eqb x) (be16 s (rule_at_words sets r + 1) ∷ []) ≡ be16 s (rule_at_words sets r + 1) ∷ [] = one (eqb x (be16 s (rule_at_words sets r + 1))) (rw q at named) in
      rw (q, k, attempts_one (Visit.rewrite (graft (be16 s (rule_at_words sets r + 1)) lazy) n) e, ← eq_yes (byte s (rule_at_words sets r)) 1 _ _ i refl) (acts.grafts r h named lazy w e p)
    where
      one : (c : Bool) → (c || false) ≡ true
          → ◌≡◌ {A = List ℕ} (elim c [ true ↦ be16 s (rule_at_words sets r + 1) ∷ [] | false ↦ [] ]) (be16 s (rule_at_words sets r + 1) ∷ [])
      one true j = refl
      one false j = let z : ◌≡◌ {A = ℕ} 0 1 = cc in absurd (omega arith)

  eta_means : byte s (rule_at_words sets r) ≡ 5 → Tells P A (rewrite w s sets r (alone t n x)) (attempts (on_node n x (rule_of f r)) e)
  unfolding rewrite collected rewrites Visit.attempt Visit.try_rewrite
  eta_means i =
      let cs = rule_list s (rule_at_words sets r) 0 in
      let vs = rule_list s (rule_at_words sets r) 1 in
      let ns = rule_list s (rule_at_words sets r) 2 in
      let q : rule_of f r ≡ eta cs vs ns = stands.etas i in
      let l : listed cs x ≡ true = rw q at named in
      let k = keep_some x cs l in
      rw (
        q,
        k.2,
        attempts_copies (Visit.rewrite (eta cs vs ns) n) e (eta_pure cs vs ns n e) k.0 k.1,
        attempts_one (Visit.rewrite (eta cs vs ns) n) e,
        ← eq_no (byte s (rule_at_words sets r)) 1 _ _ (omega arith) refl,
      ) (acts.reduces r cs vs ns h q l w e p)

  no_pairs : (byte s (rule_at_words sets r) ≡ 1 → ⊥) → (byte s (rule_at_words sets r) ≡ 5 → ⊥) → ⊥
  unfolding collected rewrites
  no_pairs i j = elim (ℕ_discrete (byte s (rule_at_words sets r)) 2) [
    | yes k ↦ let l = rw (stands.annihilates k) at named in let z : ◌≡◌ {A = ℕ} 0 1 = cc in omega arith
    | no k ↦ elim (ℕ_discrete (byte s (rule_at_words sets r)) 3) [
      | yes l ↦ let u = rw (stands.erases l) at named in let z : ◌≡◌ {A = ℕ} 0 1 = cc in omega arith
      | no l ↦ let u = stands.tagged in let v = rw (stands.commutes (omega arith)) at named in let z : ◌≡◌ {A = ℕ} 0 1 = cc in omega arith
    ]
  ]

  -- a rewrite, by the tag
  pub rewrite_means : Tells P A (rewrite w s sets r (alone t n x)) (attempts (on_node n x (rule_of f r)) e)
  rewrite_means = elim (ℕ_discrete (byte s (rule_at_words sets r)) 1) [
    | yes i ↦ graft_means i
    | no i ↦ elim (ℕ_discrete (byte s (rule_at_words sets r)) 5) [ yes j ↦ eta_means j | no j ↦ absurd (no_pairs i j) ]
  ]

  pub attempt_rewrites : Tells P A (attempt w s sets r (alone t n x)) (attempts (on_node n x (rule_of f r)) e)
  unfolding attempt pick
  attempt_rewrites = rewrite_means
