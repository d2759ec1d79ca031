-- What a net file says. Document 01, "The net file". Numbers are path, name and wire numbers.
use Rattle.std.specs.Prelude.{ℕ, Bool, List, [], ◌∷◌}
use Rattle.std.proofs.Math.Option.{Option}

pub record Name : Type 0 where
  pub path : ℕ
  pub payload : ℕ
  pub children : List ℕ

-- the closed set of five
pub data Rule : Type 0 where
  graft : ℕ → Bool → Rule
  annihilate : List ℕ → Rule
  erase : List ℕ → List ℕ → Rule
  commute : List ℕ → List ℕ → Rule
  eta : List ℕ → List ℕ → List ℕ → Rule

pub record FlatNode : Type 0 where
  pub name : Name
  pub pri : ℕ
  pub aux : List ℕ

pub record FlatNet : Type 0 where
  pub name : ℕ
  pub included : Bool
  pub wires : ℕ
  pub free : List ℕ
  pub pairs : List (ℕ × ℕ)
  pub nodes : List FlatNode

mutual
  pub data Tree : Type 0 where
    wire : ℕ → Tree
    node : Name → Trees → Tree

  -- a node's children, first to last
  pub data Trees : Type 0 where
    none : Trees
    more : Tree → Trees → Trees

-- as a list, and back
abbrev pub listed : Trees → List Tree
listed none = []
listed (more t ts) = t ∷ listed ts

abbrev pub trees : List Tree → Trees
trees [] = none
trees (t ∷ ts) = more t (trees ts)

pub record TreeNet : Type 0 where
  pub name : ℕ
  pub included : Bool
  pub wires : ℕ
  pub free : List Tree
  pub links : List (Tree × Tree)

-- a file over either kind of net
pub record File (Net : Type 0) : Type 0 where
  pub limit : Option ℕ
  pub paths : List (List ℕ)
  pub names : List Name
  pub rules : List Rule
  pub nets : List Net

-- `ivy:engine:free`
abbrev pub free_path : List ℕ
free_path = 105 ∷ 118 ∷ 121 ∷ 58 ∷ 101 ∷ 110 ∷ 103 ∷ 105 ∷ 110 ∷ 101 ∷ 58 ∷ 102 ∷ 114 ∷ 101 ∷ 101 ∷ []

-- the greatest limit and slice
abbrev pub max_steps : ℕ
max_steps = 16777216

-- how a limit or slice of none is written
abbrev pub no_limit : ℕ
no_limit = 4294967295
