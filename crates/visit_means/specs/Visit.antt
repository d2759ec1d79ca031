-- A visit of one node on the words tries the rules that level Engine tries, in its order, and answers the same, if each rule does.
use Rattle.std.specs.Prelude.{ℕ, suc, ◌<◌, ◌≤◌, ◌≡◌, Bool, true, false, List, [], ◌∷◌, ◌++◌, length, get_or, eqb}
use Rattle.std.proofs.Math.Path.{refl, ap}
use Rattle.std.proofs.Common.{◌∙◌, inl, inr, arith}
use Rattle.std.proofs.Math.Decide.{ℕ_discrete}
use Rattle.net_file.specs.Lists.{ok, any, concat_map}
use Rattle.net_file.specs.Values.{Name, Rule, annihilate, FlatNet, File}
use Rattle.net_file.specs.Checks.{flat, read, rule_paths}
use Rattle.net_file_laws.specs.Bytes.{Bytes}
use Rattle.definitions.specs.Nets.{Graph, port, is_principal, name_of, follow}
use Rattle.definitions.specs.State.{Engine, graph_of}
use Rattle.definitions.specs.Load.{free_name}
use Rattle.definitions.specs.Visit
use Rattle.definitions.specs.Visit.{Try, attempts}
use Rattle.words.specs.Choose.{pick, pick_true, pick_false, eq_yes, eq_no}
use Rattle.layout.specs.Layout.{across, principal, node_of, is_principal_words}
use Rattle.readers_laws.specs.Bounds.{read_bounds}
use Rattle.node_names.specs.Names.{path}
use Rattle.rule_sets.specs.Sets.{set_of}
use Rattle.tried.specs.Tries.{name}
use Rattle.visit.specs.Visits.{tries, alone, meeting, rewrites, visit_pair, visit}
use Rattle.held_names.specs.Named.{Stands, Named, named_stands, path_is}
use Rattle.held_names.specs.Free.{path_below, rule_unnamed}
use Rattle.rule_means.specs.Built.{rule_of, Built}
use Rattle.tries_laws.specs.Attempts.{attempts_append}
use Rattle.visit_means.specs.Tells.{Tells, tells_next}
use Rattle.visit_means.specs.Walk.{tries_means}
use Rattle.visit_means.specs.Pairs.{on_pair}
use Rattle.visit_means.specs.Interact.{PairActs, pair_out, unnamed_in_pairs, attempt_interacts}
use Rattle.visit_means.specs.Rewrite.{AloneActs, on_node, node_out, unnamed_in_rewrites, attempt_rewrites}

-- the node that the principal port of n meets
abbrev pub met : Graph → ℕ → ℕ
met g n = (follow g (port n 0)).node

-- the visited node as both levels see it: the file's rules, its name, and what its principal port meets, which is no free node's principal port
pub record Seen (s : List ℕ) (f : File FlatNet) (ws : List ℕ) (e : Engine) (n : ℕ) : Type 0 where
  pub rules : e.rules ≡ f.rules
  pub named : Named s f (name ws n) (name_of (graph_of e) n)
  pub meets : is_principal_words (across ws (principal n)) ≡ is_principal (follow (graph_of e) (port n 0))
  pub node : is_principal (follow (graph_of e) (port n 0)) ≡ true → node_of (across ws (principal n)) ≡ met (graph_of e) n
  pub other : is_principal (follow (graph_of e) (port n 0)) ≡ true
      → Stands s f (name ws (met (graph_of e) n)) (name_of (graph_of e) (met (graph_of e) n))

-- rules of which none is tried
concat_none : (one : Rule → List Try) (rs : List Rule) (d : Rule) → ((k : ℕ) → k < length rs → one (get_or rs k d) ≡ []) → concat_map one rs ≡ []
concat_none one [] d h = refl
concat_none one (q ∷ rs) d h = rw (h 0 (omega arith)) (concat_none one rs d (λ k l. h (suc k) (omega arith)))

-- level Engine's tries, by whether principal ports meet
abbrev tried_by : List Rule → Graph → ℕ → Bool → List Try
tried_by rs g n true = concat_map (on_pair g n (met g n)) rs ++ concat_map (on_node n (name_of g n).path) rs
tried_by rs g n false = concat_map (on_node n (name_of g n).path) rs

visit_is : (n : ℕ) (e : Engine) (rs : List Rule) (c : Bool) → e.rules ≡ rs → is_principal (follow (graph_of e) (port n 0)) ≡ c
    → Visit.visit n e ≡ attempts (tried_by rs (graph_of e) n c) e
unfolding Visit.visit Visit.tries Visit.interactions
visit_is n e rs c r h =
    ap (λ (qs : List Rule). attempts (Visit.tries qs (graph_of e) n) e) r
    ∙ ap (λ (d : Bool). attempts ((elim d as (λ u. List Try) [ true ↦ concat_map (on_pair (graph_of e) n (met (graph_of e) n)) rs | false ↦ [] ]) ++ concat_map (on_node n (name_of (graph_of e) n).path) rs) e) h
    ∙ go c
  where
    go : (d : Bool) → attempts ((elim d as (λ u. List Try) [ true ↦ concat_map (on_pair (graph_of e) n (met (graph_of e) n)) rs | false ↦ [] ]) ++ concat_map (on_node n (name_of (graph_of e) n).path) rs) e
        ≡ attempts (tried_by rs (graph_of e) n d) e
    go true = refl
    go false = refl

module _ (s : List ℕ) (is : Bytes s) (f : File FlatNet) (e₀ : read flat s ≡ ok f) (sets : List ℕ) (b : Built s f (length f.rules) sets)
    (P A : List ℕ → Engine → Type 0) where
  few : length f.rules ≤ 64
  few = (read_bounds s is f e₀).few_rules

  -- the rewrites of node n's path x
  pub rewrites_means : (t n x : ℕ) → x < 256 → AloneActs P A s f sets t n x → (ws : List ℕ) (e : Engine) → P ws e
      → Tells P A (rewrites ws s sets t n x) (attempts (concat_map (on_node n x) f.rules) e)
  unfolding rewrites
  rewrites_means t n x l acts =
      tries_means s f sets b few P A (alone t n x) x 3 l (omega arith) (on_node n x) (node_out n x) (λ r h i w e p. attempt_rewrites s f e₀ sets b P A t n x acts r h i w e p)

  -- the interactions of nodes n and m, then the rewrites
  pub visit_pair_means : (g : Graph) (t n m x y : ℕ) → (name_of g n).path ≡ x → (name_of g m).path ≡ y → x < 256 → y < 256
      → PairActs P A s (free_name f.paths).path t n m x y → AloneActs P A s f sets t n x → (ws : List ℕ) (e : Engine) → path s (name ws m) ≡ y → P ws e
      → Tells P A (visit_pair ws s sets t n m x) (attempts (concat_map (on_pair g n m) f.rules ++ concat_map (on_node n x) f.rules) e)
  unfolding visit_pair
  visit_pair_means g t n m x y ex ey px py pair acts ws e k p =
      rw (k, attempts_append (concat_map (on_pair g n m) f.rules) (concat_map (on_node n x) f.rules) e)
      (tells_next P A (tries ws s sets (meeting t n x m y) (set_of sets x 2) 0 64) _ (attempts (concat_map (on_pair g n m) f.rules) e) (attempts (concat_map (on_node n x) f.rules))
      (tries_means s f sets b few P A (meeting t n x m y) x 2 px (omega arith) (on_pair g n m) (pair_out g n m x y ex ey)
      (λ r h i w e' p'. attempt_interacts s is f e₀ sets b P A g t n m x y ex ey px py pair r h i w e' p') ws e p)
      (λ e' p'. rewrites_means t n x px acts _ e' p'))

  module _ (ws : List ℕ) (e : Engine) (t n : ℕ) (seen : Seen s f ws e n) (p : P ws e) (acts : (name ws n ≡ 0 → ⊥) → AloneActs P A s f sets t n (name_of (graph_of e) n).path)
      (pair : (name ws n ≡ 0 → ⊥) → is_principal (follow (graph_of e) (port n 0)) ≡ true
      → PairActs P A s (free_name f.paths).path t n (met (graph_of e) n) (name_of (graph_of e) n).path (name_of (graph_of e) (met (graph_of e) n)).path) where
    -- a free node: no rule names its path
    free_visit : name ws n ≡ 0 → name_of (graph_of e) n ≡ free_name f.paths → Tells P A (visit ws s sets t n) (Visit.visit n e)
    unfolding visit Visit.attempts
    free_visit z i =
        let c = is_principal (follow (graph_of e) (port n 0)) in
        rw (← eq_yes (name ws n) 0 _ _ z refl, visit_is n e f.rules c seen.rules refl, nothing c) (refl, p)
      where
        free : (name_of (graph_of e) n).path ≡ (free_name f.paths).path
        free = ap (λ (y : Name). y.path) i

        unnamed : (k : ℕ) → k < length f.rules → any (eqb (name_of (graph_of e) n).path) (rule_paths (rule_of f k)) ≡ false
        unnamed k l = rw free (rule_unnamed s is f e₀ k (annihilate []) l)

        alone_none : concat_map (on_node n (name_of (graph_of e) n).path) f.rules ≡ []
        alone_none = concat_none _ f.rules (annihilate []) (λ k l. node_out n _ (rule_of f k) (unnamed_in_rewrites (rule_of f k) _ (unnamed k l)))

        pair_none : concat_map (on_pair (graph_of e) n (met (graph_of e) n)) f.rules ≡ []
        pair_none = concat_none _ f.rules (annihilate []) (λ k l. pair_out (graph_of e) n (met (graph_of e) n) _ _ refl refl (rule_of f k) (unnamed_in_pairs (rule_of f k) _ (unnamed k l)))

        nothing : (d : Bool) → tried_by f.rules (graph_of e) n d ≡ []
        nothing true = rw (pair_none, alone_none)
        nothing false = alone_none

    -- a node of the file
    named_visit : (name ws n ≡ 0 → ⊥) → Stands s f (name ws n) (name_of (graph_of e) n) → Tells P A (visit ws s sets t n) (Visit.visit n e)
    unfolding visit
    named_visit z k = rw (← eq_no (name ws n) 0 _ _ z refl, path_is s f (name ws n) (name_of (graph_of e) n) k) (go (is_principal (follow (graph_of e) (port n 0))) refl)
      where
        below : (name_of (graph_of e) n).path < 256
        below = path_below s is f e₀ (name ws n) (name_of (graph_of e) n) k

        go : (c : Bool) → is_principal (follow (graph_of e) (port n 0)) ≡ c
            → Tells P A (pick (is_principal_words (across ws (principal n))) (visit_pair ws s sets t n (node_of (across ws (principal n))) (name_of (graph_of e) n).path) (rewrites ws s sets t n (name_of (graph_of e) n).path)) (Visit.visit n e)
        go true h =
            let o = seen.other h in
            rw (← pick_true _ _ _ (seen.meets ∙ h) refl, seen.node h, visit_is n e f.rules true seen.rules h)
            (visit_pair_means (graph_of e) t n (met (graph_of e) n) (name_of (graph_of e) n).path (name_of (graph_of e) (met (graph_of e) n)).path refl refl below
            (path_below s is f e₀ _ _ o) (pair z h) (acts z) ws e (path_is s f _ _ o) p)
        go false h =
            rw (← pick_false _ _ _ (seen.meets ∙ h) refl, visit_is n e f.rules false seen.rules h)
            (rewrites_means t n (name_of (graph_of e) n).path below (acts z) ws e p)

    -- the rules for node n, in order
    pub visit_means : Tells P A (visit ws s sets t n) (Visit.visit n e)
    visit_means = elim (ℕ_discrete (name ws n) 0) [
      | yes z ↦ elim seen.named [ inl h ↦ free_visit z h.1 | inr k ↦ let l = k.placed in absurd (omega arith) ]
      | no z ↦ named_visit z (named_stands s f (name ws n) (name_of (graph_of e) n) seen.named z)
    ]
