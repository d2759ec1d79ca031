-- Which name a place of the held file means: the one that stands there. The place 0 means the free nodes' name, which stands nowhere.
use Rattle.std.specs.Prelude.{ℕ, ◌<◌, ◌≤◌, ◌≡◌, refl, ◌⊎◌, List, ◌∷◌, length, get_or}
use Rattle.std.proofs.Common.{sym, ap, ◌∙◌, inl, inr, arith}
use Rattle.net_file.specs.Values.{Name, FlatNet, File}
use Rattle.net_file_laws.specs.Parts.{NameFits}
use Rattle.definitions.specs.Load.{free_name}
use Rattle.stored.specs.Stored.{name_at, name_end}
use Rattle.readers_laws.specs.Parts.{name_stands}
use Rattle.node_names.specs.Names.{path, child_count, first_child}

-- name n stands at place a of the bytes s, as a name of file f may
pub record Stands (s : List ℕ) (f : File FlatNet) (a : ℕ) (n : Name) : Type 0 where
  pub placed : 0 < a
  pub is : n ≡ name_at s a
  pub inside : name_end s a ≤ length s
  pub fits : NameFits (length f.paths) (length f.names) n

-- place a means name n
abbrev pub Named : List ℕ → File FlatNet → ℕ → Name → Type 0
Named s f a n = ((a ≡ 0) × (n ≡ free_name f.paths)) ⊎ Stands s f a n

pub free_named_lem : (s : List ℕ) (f : File FlatNet) → Named s f 0 (free_name f.paths)
free_named_lem s f = inl (refl, refl)

-- a place but 0 means what stands there
pub named_stands : (s : List ℕ) (f : File FlatNet) (a : ℕ) (n : Name) → Named s f a n → (a ≡ 0 → ⊥) → Stands s f a n
named_stands s f a n (inl h) z = absurd (z h.0)
named_stands s f a n (inr h) z = h

module _ (s : List ℕ) (f : File FlatNet) (a : ℕ) (n : Name) (h : Stands s f a n) where
  pub path_is : path s a ≡ n.path
  path_is = sym (name_stands s a).path ∙ ap (λ (m : Name). m.path) (sym h.is)

  pub child_count_is : child_count s a ≡ length n.children
  child_count_is = sym (name_stands s a).child_count ∙ ap (λ (m : Name). length m.children) (sym h.is)

  pub first_child_is : (c : ℕ) (cs : List ℕ) → n.children ≡ c ∷ cs → first_child s a ≡ c
  first_child_is c cs e =
      let d : (name_at s a).children ≡ c ∷ cs = ap (λ (m : Name). m.children) (sym h.is) ∙ e in
      let l : 0 < length (name_at s a).children = rw d (omega arith) in
      sym ((name_stands s a).child 0 0 l) ∙ ap (λ (l : List ℕ). get_or l 0 0) d
