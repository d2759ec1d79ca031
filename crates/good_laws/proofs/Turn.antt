-- A turn keeps the books.
use Rattle.std.specs.Prelude.{ℕ, ◌-◌, ◌≡◌, Bool, true, false, List, [], ◌∷◌, ◌++◌, get_or}
use Rattle.std.proofs.Math.Path.{refl}
use Rattle.std.proofs.Common.{sym, subst, arith}
use Rattle.std.proofs.Math.Option.{Option, none, some}
use Rattle.net_file.specs.Lists.{Result, ok}
use Rattle.definitions.specs.Lists.{◌>>=◌, is_some}
use Rattle.definitions.specs.Nets.{at}
use Rattle.definitions.specs.State.{Engine, graph_of, with_slots, with_dirty, with_mark, with_stale, net_at}
use Rattle.definitions.specs.Books.{is_dirty}
use Rattle.definitions.specs.Visit.{Visited, passed, visit}
use Rattle.definitions.specs.Run.{leave, turn, with_items}
use Rattle.engine_laws.specs.Frame.{body}
use Rattle.good_laws.specs.Owners.{owners, net_of}
use Rattle.good_laws.specs.Good.{Good, bump, rest}
use Rattle.good_laws.specs.Idle.{Idle}
use Rattle.good_laws.specs.Scripts.{Visits}
use Rattle.good_laws.specs.Turned.{taken_good, dropped_good}
use Rattle.good_laws.specs.Sound.{Condition, Sound, Kept, visiting, visit_fine}
use Rattle.good_laws.proofs.Sound.{leave_fine}
use Rattle.good_laws.specs.Turn.{is_some_lem}

module _ (P : Condition) (sound : Sound P) where
  -- the entry n is taken and the others are xs: where a rule acted P still holds, else the nodes are as they were
  pub turn_kept : (xs : List ℕ) (n : ℕ) (e : Engine) → Kept P rest e → e.dirty.items ≡ xs ++ n ∷ []
      → Visits (Kept P rest) (λ e'. Good rest e' × (body e' ≡ body e) × Idle e') (turn n (with_items xs e))
  unfolding turn is_dirty with_items with_dirty with_mark with_slots net_at
  turn_kept xs n e h last = go (get_or e.slots.marks n false) refl
    where
      e₁ : Engine
      e₁ = with_items xs e

      live : (k : ℕ) → get_or (owners (graph_of e)) n none ≡ some k → get_or e.slots.marks n false ≡ true
          → Visits (Kept P rest) (λ e'. Good rest e' × (body e' ≡ body e) × Idle e') (visit n (with_mark n false e₁) >>= λ v. ok (leave (at (graph_of e₁) n).net v))
      live k o m =
          let e₂ = with_mark n false e₁ in
          let q = net_of (graph_of e) n k o in
          let g : Good (visiting e₂ n) e₂ = subst (λ (j : ℕ). Good (bump j rest) e₂) (sym q) (taken_good rest xs n k e h.0 last m o) in
          leave_fine P sound n (at (graph_of e) n).net e₂ refl (visit n e₂) (visit_fine P sound n k e₂ g h.1 h.2 o)

      go : (t : Bool) → get_or e.slots.marks n false ≡ t
          → Visits (Kept P rest) (λ e'. Good rest e' × (body e' ≡ body e) × Idle e') (elim t as (λ _. Result Visited) [
            | true ↦ visit n (with_mark n false e₁) >>= λ v. ok (leave (at (graph_of e₁) n).net v)
            | false ↦ ok (passed (with_dirty (with_stale (e₁.dirty.stale - 1) e₁.dirty) e₁))
          ])
      go true m = let o = is_some_lem (get_or (owners (graph_of e)) n none) (h.0.slotted.marked n m) in live o.0 o.1 m
      go false m = (dropped_good rest xs n e h.0 last m, refl, h.2)
