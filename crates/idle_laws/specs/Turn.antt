-- A turn keeps the invariant.
use Rattle.std.specs.Prelude.{ℕ, ◌-◌, ◌≡◌, ◌≢◌, Bool, true, false, List, [], ◌∷◌, ◌++◌, get_or, set}
use Rattle.std.proofs.Math.Path.{refl}
use Rattle.std.proofs.Common.{sym, ap, ◌∙◌, subst, get_or-set_other}
use Rattle.std.proofs.Math.Option.{none, some}
use Rattle.net_file.specs.Lists.{Result, ok, refuse}
use Rattle.definitions.specs.Lists.{◌>>=◌, is_some}
use Rattle.definitions.specs.Nets.{at}
use Rattle.definitions.specs.State.{Engine, graph_of, with_slots, with_dirty, with_mark, with_stale, net_at}
use Rattle.definitions.specs.Books.{is_dirty}
use Rattle.definitions.specs.Visit.{Visited, acted, passed, visit}
use Rattle.definitions.specs.Run.{leave, turn, with_items}
use Rattle.good_laws.specs.Owners.{owners, net_of}
use Rattle.good_laws.specs.Good.{Good, bump, rest}
use Rattle.good_laws.specs.Scripts.{Visits}
use Rattle.good_laws.specs.Sound.{Kept, Fine, visiting, visit_fine}
use Rattle.good_laws.specs.Turned.{taken_good}
use Rattle.good_laws.specs.Turn.{is_some_lem}
use Rattle.reached_laws.specs.Tracks.{filled_owner}
use Rattle.reached_laws.specs.Wires.{Wires, wires_sound}
use Rattle.idle_laws.specs.Mirror.{good_sized}
use Rattle.idle_laws.specs.Placed.{Placed}
use Rattle.idle_laws.specs.Left.{leave_placed}
use Rattle.idle_laws.specs.Acted.{Nobody}
use Rattle.idle_laws.specs.Visited.{visit_placed}

module _ (path : ℕ) where
  -- the visit, and its end
  visited : (n k : ℕ) (e : Engine) (r : Result Visited) → Fine (Wires path) (visiting e n) e r → Visits (Placed Nobody) (Placed Nobody) r → Visits (Placed Nobody) (Placed Nobody) (r >>= λ v. ok (leave k v))
  unfolding leave
  visited n k e (ok (acted e')) h p = leave_placed Nobody k e' (good_sized (visiting e n) e' h.0) p
  visited n k e (ok (passed e')) h p = leave_placed Nobody k e' (good_sized (visiting e n) e' h.0) p
  visited n k e (refuse c) h p = tt

  -- the entry n is taken and the others are xs
  pub turn_placed : (xs : List ℕ) (n : ℕ) (e : Engine) → Kept (Wires path) rest e → Placed Nobody e → e.dirty.items ≡ xs ++ n ∷ [] → Visits (Placed Nobody) (Placed Nobody) (turn n (with_items xs e))
  unfolding turn is_dirty with_items with_dirty with_mark with_slots net_at
  turn_placed xs n e h p last = go (get_or e.slots.marks n false) refl
    where
      e₁ : Engine
      e₁ = with_items xs e

      -- n is clean, and left out
      but : Placed (λ x. x ≡ n) (with_mark n false e₁)
      but = record {
        meet = λ r a b f s i j x u c d. p.meet r a b f s i j x u (sym (other a d) ∙ c) (λ z. z);
        reduce = λ cs vs ns a o i f j x c d t. p.reduce cs vs ns a o i f j x (sym (other a d) ∙ c) (λ z. z) (λ b q. let v = t b q in (sym (other b v.1) ∙ v.0, λ z. z));
        wait = λ lazy a c m cs i r ch q t d. p.wait lazy a c m cs i r ch q (sym (other a d) ∙ t) (λ z. z);
      }
        where
          other : (x : ℕ) → x ≢ n → get_or (set e.slots.marks n false) x false ≡ get_or e.slots.marks x false
          other x d = get_or-set_other e.slots.marks n x false false d

      live : (k : ℕ) → get_or (owners (graph_of e)) n none ≡ some k → get_or e.slots.marks n false ≡ true
          → Visits (Placed Nobody) (Placed Nobody) (visit n (with_mark n false e₁) >>= λ v. ok (leave (at (graph_of e₁) n).net v))
      live k o m =
          let e₂ = with_mark n false e₁ in
          let g : Good (visiting e₂ n) e₂ = subst (λ (j : ℕ). Good (bump j rest) e₂) (sym (net_of (graph_of e) n k o)) (taken_good rest xs n k e h.0 last m o) in
          visited n (at (graph_of e) n).net e₂ (visit n e₂) (visit_fine (Wires path) (wires_sound path) n k e₂ g h.1 h.2 o)
          (visit_placed path n e₂ (filled_owner (graph_of e) n ∙ ap is_some o) g h.2 h.1 but)

      go : (t : Bool) → get_or e.slots.marks n false ≡ t
          → Visits (Placed Nobody) (Placed Nobody) (elim t as (λ _. Result Visited) [
            | true ↦ visit n (with_mark n false e₁) >>= λ v. ok (leave (at (graph_of e₁) n).net v)
            | false ↦ ok (passed (with_dirty (with_stale (e₁.dirty.stale - 1) e₁.dirty) e₁))
          ])
      go true m = let o = is_some_lem (get_or (owners (graph_of e)) n none) (h.0.slotted.marked n m) in live o.0 o.1 m
      go false m = record { meet = p.meet; reduce = p.reduce; wait = p.wait }
