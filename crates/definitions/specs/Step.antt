-- Level Graph, 4: a rule step, and that a rule can act. Document 01: "defined on nodes, free ports and wires, for a graft on the
-- named net's too; not on dirty marks, lists, slots or visits".
use Rattle.std.specs.Prelude.{◌≡◌, ℕ, Bool, true, false, get_or, eqb}
use Rattle.std.proofs.Math.Option.{Option, none, some}
use mathlib.Core.List.{List, [], ◌∷◌, map, Memᴰ}
use Rattle.net_file.specs.Lists.{concat_map, distinct}
use Rattle.net_file.specs.Values.{Rule, graft, annihilate, erase, commute, eta}
use Rattle.definitions.specs.Lists.{nth}
use Rattle.definitions.specs.Nets.{Port, Graph, Home, port, at, filled, holds, name_of, across}
use Rattle.definitions.specs.Scripts.{Script, apply_script}
use Rattle.definitions.specs.Rules.{eta_script, graft_script, graft_fits, reaches, interact}

-- the first list is the outer loop
unfoldable pub cross : List ℕ → List ℕ → List (ℕ × ℕ)
cross xs ys = concat_map (λ x. map (λ y. (x, y)) ys) xs

-- the pairs of paths that an interaction is registered for, in order
unfoldable pub pairs : Rule → List (ℕ × ℕ)
pairs (graft p lazy) = []
pairs (annihilate ps) = map (λ p. (p, p)) ps
pairs (erase es ns) = cross es ns
pairs (commute xs ys) = cross xs ys
pairs (eta cs vs ns) = []

-- the paths that a rewrite is registered for
unfoldable pub rewrites : Rule → List ℕ
rewrites (graft p lazy) = p ∷ []
rewrites (annihilate ps) = []
rewrites (erase es ns) = []
rewrites (commute xs ys) = []
rewrites (eta cs vs ns) = cs

-- numbers for new nodes: no node has them, and each is given once
pub record Fresh (g : Graph) (fresh : ℕ → ℕ) : Type 0 where
  pub vacant : (k : ℕ) → filled g (fresh k) ≡ false
  pub apart : (j k : ℕ) → fresh j ≡ fresh k → j ≡ k

-- the nodes of net m, each once, in some order
pub record NodesOf (g : Graph) (m : ℕ) (ids : List ℕ) : Type 0 where
  pub sound : (n : ℕ) → Memᴰ n ids → holds g m n ≡ true
  pub full : (n : ℕ) → holds g m n ≡ true → Memᴰ n ids
  pub once : distinct eqb ids ≡ true

module _ (rules : List Rule) (homes : List Home) (g : Graph) where
  -- a rule acts by this script: an interaction where principal port meets principal port, an eta, or a graft, which copies net m.
  -- A graft acts if it reaches, its first child names another net that is included, and the ports fit
  pub data Acts (fresh : ℕ → ℕ) : Option ℕ → Script → Type 0 where
    interacts : (r : Rule) (a b : ℕ) (s : Script) → Memᴰ r rules → Memᴰ ((name_of g a).path, (name_of g b).path) (pairs r)
        → across g (port a 0) ≡ some (port b 0) → interact r fresh g a b ≡ some s → Acts fresh none s
    reduces : (cs vs ns : List ℕ) (a : ℕ) (s : Script) → Memᴰ (eta cs vs ns) rules → filled g a ≡ true
        → Memᴰ (name_of g a).path cs → eta_script fresh g vs ns a ≡ some s → Acts fresh none s
    grafts : (lazy : Bool) (a c m : ℕ) (cs ids : List ℕ) (home : Home) → Memᴰ (graft (name_of g a).path lazy) rules
        → reaches g lazy a ≡ true → (name_of g a).children ≡ c ∷ cs → nth homes m ≡ some home → home.name ≡ c
        → ¬ (m ≡ (at g a).net) → NodesOf g m ids → graft_fits g home.free a ≡ true
        → Acts fresh (some m) (graft_script fresh g ids home.free a)

  -- a rule can act; for a graft, on net m
  abbrev pub CanAct : Option ℕ → Type 0
  CanAct m = (fresh : ℕ → ℕ) × (s : Script) × Acts fresh m s

  -- h comes from g by one step of one rule
  pub record Step (h : Graph) : Type 0 where
    pub fresh : ℕ → ℕ
    pub is_fresh : Fresh g fresh
    pub copied : Option ℕ
    pub script : Script
    pub acts : Acts fresh copied script
    pub done : h ≡ apply_script g script
