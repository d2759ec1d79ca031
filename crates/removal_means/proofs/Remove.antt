-- One dead node goes: its slot is vacant, its entries are stale, and the lists are made tight where they are loose.
use Prim.Native.Nat.{ℕ, ◌+◌, ◌-◌, ◌<◌}
use Rattle.std.proofs.Math.Path.{◌≡◌, sym, ap, subst}
use Rattle.std.specs.Prelude.{refl, Bool, length, get_or, set}
use Rattle.std.proofs.Common.{◌∙◌, set-set, arith}
use Rattle.std.proofs.Math.Bool.{true, false}
use Rattle.std.proofs.Math.Option.{Option, none, some}
use mathlib.Core.List.{List, ◌∷◌, Memᴰ}
use Rattle.words.specs.Choose.{if_eq, eq_yes, eq_no}
use Rattle.layout.specs.Layout.{node_word}
use Rattle.edits.specs.Edits
use Rattle.net_file.specs.Lists.{bit}
use Rattle.net_file.specs.Values.{Name}
use Rattle.definitions.specs.Nets.{Node}
use Rattle.definitions.specs.Scripts.{vacate}
use Rattle.definitions.specs.State
use Rattle.definitions.specs.State.{Ids, Net, Engine, graph_of, with_slots, with_dirty, with_nets, with_list, with_stale, with_pending, net_at, over_net}
use Rattle.definitions.specs.Books.{is_dirty, vacated, went_dirty, remove_node}
use Rattle.dirty_laws.specs.Listed.{went_stale}
use Rattle.good_laws.specs.Owners.{owner, owners, owner_at, net_of}
use Rattle.good_laws.specs.Nets.{over_same, over_length, over_part, part_at}
use Rattle.good_laws.specs.Removed.{went_is}
use Rattle.join_laws.specs.Ports.{frame, frame_of}
use Rattle.means.specs.Means.{SlotIs, Means}
use Rattle.edits_means.specs.Vacate.{vacate_means}
use Rattle.edits_means.specs.Went.{went_dirty_means}
use Rattle.removal_means.specs.Went.{more_stale, settle, went_means}
use Rattle.removal_means.specs.Remove.{CanRemove, net_is, clean_means, v2, list_is, here2, inside2, m2, late, mark_is}

module _ (Named : ℕ → Name → Type 0) (ws : List ℕ) (e : Engine) (m : Means Named ws e) (n k : ℕ) (c : CanRemove e n k) where
  dirty_means : is_dirty e n ≡ true → Means Named (Edits.went (Edits.went_dirty (Edits.vacate ws n) (k + 1)) (k + 1)) (settle k (went_dirty k (vacated k n e)))
  dirty_means d =
      subst (λ (x : Engine). Means Named (Edits.went (Edits.went_dirty (Edits.vacate ws n) (k + 1)) (k + 1)) (settle k x)) (late Named ws e m n k c)
      (went_means Named (Edits.went_dirty (Edits.vacate ws n) (k + 1)) (v2 Named ws e m n k c) ((m2 Named ws e m n k c) d) k (here2 Named ws e m n k c) (let s = c.stale in let q : (net_at (v2 Named ws e m n k c) k).list.stale ≡ (net_at e k).list.stale = ap (λ (l : Ids). l.stale) (list_is Named ws e m n k c) in omega arith) (inside2 Named ws e m n k c))

  -- what is removed is the node that level Engine removes
  pub remove_means : Means Named (Edits.remove ws n) (remove_node e n)
  unfolding Edits.remove remove_node settle
  remove_means =
      subst (λ (j : ℕ). Means Named (Edits.remove ws n) (settle j (elim (is_dirty e n) as (λ _. Engine) [ true ↦ went_dirty j (vacated j n e) | false ↦ vacated j n e ])))
      (sym (net_of (graph_of e) n k c.there)) (rw (net_is Named ws e m n k c) (go (is_dirty e n) refl))
    where
      w1 : List ℕ
      w1 = Edits.went (Edits.went_dirty (Edits.vacate ws n) (k + 1)) (k + 1)

      w0 : List ℕ
      w0 = Edits.went (Edits.vacate ws n) (k + 1)

      go : (b : Bool) → is_dirty e n ≡ b → Means Named (if_eq (node_word ws n 2) 1 w1 w0) (settle k (elim b as (λ _. Engine) [ true ↦ went_dirty k (vacated k n e) | false ↦ vacated k n e ]))
      go true d = subst (λ (w : List ℕ). Means Named w (settle k (went_dirty k (vacated k n e)))) (eq_yes (node_word ws n 2) 1 w1 w0 ((mark_is Named ws e m n k c) true d) refl) (dirty_means d)
      go false d =
          let z : node_word ws n 2 ≡ 0 = (mark_is Named ws e m n k c) false d in
          subst (λ (w : List ℕ). Means Named w (settle k (vacated k n e))) (eq_no (node_word ws n 2) 1 w1 w0 (omega arith) refl) (clean_means Named ws e m n k c)
