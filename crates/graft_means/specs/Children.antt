-- The children of a name are what stands in the held file, where the name is not the free nodes'.
use Rattle.std.specs.Prelude.{ℕ, ◌<◌, ◌≤◌, ◌≡◌, ◌⊎◌, List, ◌∷◌, length}
use Rattle.std.proofs.Common.{sym, ap, ◌∙◌, subst, inl, inr, arith}
use Rattle.net_file.specs.Values.{Name, FlatNet, File}
use Rattle.net_file_laws.specs.Exact.{Each}
use Rattle.definitions.specs.Load.{free_name}
use Rattle.held_names.specs.Named.{Stands, Named, child_count_is, first_child_is}
use Rattle.graft_means.specs.Tests.{Children}

module _ (s : List ℕ) (f : File FlatNet) (few : length f.names ≤ 1024) where
  pub stands_children : (a : ℕ) (n : Name) → Stands s f a n → Children s a n
  stands_children a n h = record {
    count = child_count_is s f a n h;
    first = λ c cs e. (first_child_is s f a n h c cs e, let l = (subst (λ (l : List ℕ). Each (λ i. i < length f.names) l) e h.fits.children).0 in omega arith);
  }

  -- a name of path x, which is not the free nodes'
  pub named_children : (x : ℕ) → (x ≡ (free_name f.paths).path → ⊥) → (a : ℕ) (n : Name) → Named s f a n → n.path ≡ x → Children s a n
  named_children x other a n h p = go h
    where
      go : ((a ≡ 0) × (n ≡ free_name f.paths)) ⊎ Stands s f a n → Children s a n
      go (inl q) = absurd (other (sym p ∙ ap (λ (m : Name). m.path) q.1))
      go (inr q) = stands_children a n q
