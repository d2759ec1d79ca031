-- A rule acts on the node visited: where a rule can act afterwards it could before, at nodes that no edit has marked.
use Rattle.std.specs.Prelude.{ℕ, suc, ◌+◌, ◌<◌, ◌≤◌, ◌≡◌, ◌≢◌, ◌⊎◌, Bool, ltb}
use Rattle.std.proofs.Math.Path.{refl, ap}
use Rattle.std.proofs.Common.{sym, ◌∙◌, subst, inr, arith, true≢false}
use Rattle.std.proofs.Math.Logic.{inl}
use Rattle.std.proofs.Math.Bool.{true, false}
use Rattle.std.proofs.Math.Option.{some}
use mathlib.Core.List.{List, [], ◌∷◌, Memᴰ}
use Rattle.std.proofs.Math.ListN.{length, get_or}
use Rattle.net_file.specs.Lists.{Result, ok, refuse, need}
use Rattle.net_file.specs.Values.{max_steps}
use Rattle.definitions.specs.Lists.{◌>>=◌, is_some, each, foldl}
use Rattle.definitions.specs.Nets.{Graph, port, at, filled, name_of, arity, across}
use Rattle.definitions.specs.Scripts.{Edit, Insert, Copy, Join, Cut, Script, apply, vacate, apply_script}
use Rattle.definitions.specs.Step.{Fresh}
use Rattle.definitions.specs.State.{Engine, graph_of, homes, with_steps}
use Rattle.definitions.specs.Books.{is_dirty, fresh, edit, finish_edit}
use Rattle.definitions.specs.Visit.{Visited, acted, passed, less_one, act}
use Rattle.join_laws.specs.Ports.{filled_frame, across_real}
use Rattle.script_laws.specs.Tidy.{WellWired, real_filled, vacates_gone}
use Rattle.rule_laws.specs.Ids.{one_of_row}
use Rattle.rule_laws.specs.Places.{Ported, not_fresh}
use Rattle.rule_laws.specs.Order.{Ordered}
use Rattle.good_laws.specs.Nets.{part_at}
use Rattle.good_laws.specs.Good.{Good}
use Rattle.good_laws.specs.Edits.{Answers}
use Rattle.good_laws.specs.Scripts.{Done, Visits, act_good}
use Rattle.good_laws.specs.Sound.{Of, Fits}
use Rattle.reached_laws.specs.Wires.{Wires}
use Rattle.idle_laws.specs.Mirror.{good_sized, Mirrors, AllOkay, edits_mirror, finish_mirror}
use Rattle.idle_laws.specs.Placed.{wait_of, waits_on, Placed, mirror_placed}

-- no node is left out
abbrev pub Nobody : ℕ → Type 0
Nobody x = ⊥

-- the nodes `ids` are copied, with the numbers fresh 0, fresh 1 ..
module _ (e : Engine) (fr : Fresh (graph_of e) (fresh e)) (ids : List ℕ) where
  -- y is a copy
  abbrev pub Born : ℕ → Type 0
  Born y = (k : ℕ) × (k < length ids) × (y ≡ fresh e k)

  -- y was there before, or is a copy
  abbrev pub Known : ℕ → Type 0
  Known y = (filled (graph_of e) y ≡ true) ⊎ Born y

  abbrev original : (y : ℕ) → Born y ⊎ ((k : ℕ) → k < length ids → y ≢ fresh e k) → ℕ
  original y (inl b) = get_or ids b.0 0
  original y (inr h) = y

  -- what y is a copy of; y itself where it is none
  unfoldable pub origin : ℕ → ℕ
  origin y = original y (one_of_row (fresh e) (length ids) y)

  pub origin_old : (y : ℕ) → filled (graph_of e) y ≡ true → origin y ≡ y
  unfolding origin
  origin_old y f = go (one_of_row (fresh e) (length ids) y)
    where
      go : (o : Born y ⊎ ((k : ℕ) → k < length ids → y ≢ fresh e k)) → original y o ≡ y
      go (inl b) = absurd (not_fresh (graph_of e) (fresh e) fr y b.0 f b.2)
      go (inr h) = refl

  pub origin_new : (k : ℕ) → k < length ids → origin (fresh e k) ≡ get_or ids k 0
  unfolding origin
  origin_new k l = go (one_of_row (fresh e) (length ids) (fresh e k))
    where
      go : (o : Born (fresh e k) ⊎ ((j : ℕ) → j < length ids → fresh e k ≢ fresh e j)) → original (fresh e k) o ≡ get_or ids k 0
      go (inl b) = ap (λ (j : ℕ). get_or ids j 0) (sym (fr.apart k b.0 b.2))
      go (inr h) = absurd (h k l refl)

  module _ (n : ℕ) where
    -- before the edits
    first_mirror : WellWired (graph_of e) → Mirrors e n origin Known e
    unfolding is_dirty
    first_mirror w = record {
      near = λ x d f l c. record {
        known = inl f;
        clean = ap (λ (y : ℕ). get_or e.slots.marks y false) (origin_old x f) ∙ c;
        apart = λ s. d (sym (origin_old x f) ∙ s);
        wires = λ i q h.
            let fq : filled (graph_of e) q.node ≡ true = real_filled (graph_of e) q (across_real (graph_of e) q (port x i) (w.wired.back (port x i) q h)) in
            (inl fq, ap (λ (y : ℕ). across (graph_of e) (port y i)) (origin_old x f) ∙ h ∙ ap (λ (y : ℕ). some (port y q.index)) (sym (origin_old q.node fq)));
      };
      same = λ y k f. (ap (name_of (graph_of e)) (sym (origin_old y f)), ap (arity (graph_of e)) (sym (origin_old y f)));
      nets = λ y o f. refl;
    }

    -- the script that acts: its edits are as they should be, and the node visited dies
    module _ (path : ℕ) (x : ℕ → ℕ) (k : ℕ) (good : Good x e) (wires : Of (Wires path) e) (one : 1 ≤ x k) (s : Script) (fits : Fits (Wires path) e k s)
        (okay : AllOkay e n origin Known s.edits) (dies : Memᴰ n s.dead)
        (quiet : (y : ℕ) → Born y → (m : ℕ) → ¬ Memᴰ (wait_of (graph_of e) (origin y)) (waits_on e m)) (placed : Placed (λ y. y ≡ n) e) where
      act_mirrors : (Q : Engine → Type 0) → Visits (Mirrors e n origin Known) Q (act s e)
      unfolding act with_steps fresh
      act_mirrors Q = go (ltb e.steps max_steps) (each edit s.edits e)
          (edits_mirror e n origin Known s.edits e okay (first_mirror wires.0.well))
        where
          go : (t : Bool) (r : Result Engine) → Answers (Mirrors e n origin Known) r
              → Visits (Mirrors e n origin Known) Q (need t 14 (r >>= λ e'. ok (acted (with_steps (less_one e'.limit) (e'.steps + 1) (finish_edit s.dead e')))))
          go true (ok e') m = finish_mirror e n origin Known s.dead e' m
          go true (refuse c) m = tt
          go false r m = tt

      gone : filled (apply_script (graph_of e) s) n ≡ false
      unfolding apply_script
      gone = filled_frame (foldl vacate (foldl apply (graph_of e) s.edits) s.dead) n ∙ ap is_some (vacates_gone s.dead (foldl apply (graph_of e) s.edits) n dies)

      pub act_placed : (Q : Engine → Type 0) → Visits (Placed Nobody) Q (act s e)
      act_placed Q = go (act s e) (act_good x k s e (λ _. ⊥) good fits.0 one) (act_mirrors (λ _. ⊥))
        where
          go : (r : Result Visited) → Visits (Done x e (apply_script (graph_of e) s) (homes e) e.rules) (λ _. ⊥) r → Visits (Mirrors e n origin Known) (λ _. ⊥) r → Visits (Placed Nobody) Q r
          go (ok (acted e')) d m =
              mirror_placed e e' n origin Known m (good_sized x e' d.good) (ap (λ (h : Graph). filled h n) d.nodes ∙ gone) wires.0.well
              (subst WellWired (sym d.nodes) fits.1.0.well) (subst Ported (sym d.nodes) fits.1.0.ported) d.rules d.home
              (λ a f y. own a f y) (λ j. part_at (λ t. t.awaiting) e e' d.rises.same j) placed
            where
              own : (a : ℕ) → filled (graph_of e') a ≡ true → Known a → (wait_of (graph_of e') a ≡ wait_of (graph_of e) (origin a)) ⊎ ((j : ℕ) → ¬ Memᴰ (wait_of (graph_of e) (origin a)) (waits_on e j))
              own a f (inl o) =
                  let q : (at (graph_of e') a).net ≡ (at (graph_of e) a).net = m.nets a o f in
                  inl ((λ i. record { node = a; net = q i }) ∙ ap (wait_of (graph_of e)) (sym (origin_old a o)))
              own a f (inr b) = inr (quiet a b)
          go (ok (passed e')) d m = absurd d
          go (refuse c) d m = tt

-- ---- scripts without copies

-- new nodes are not known
pub plain_okay : (e : Engine) (fr : Fresh (graph_of e) (fresh e)) (n into k : ℕ) (ds : List Edit) → Ordered ⊥ (fresh e) into k ds → AllOkay e n (origin e fr []) (Known e fr []) ds
plain_okay e fr n into k [] o = tt
plain_okay e fr n into k (Insert m y ∷ ds) o = ((unknown, vacant), plain_okay e fr n into (suc k) ds o.2)
  where
    vacant : filled (graph_of e) m ≡ false
    vacant = ap (filled (graph_of e)) o.0 ∙ fr.vacant k

    unknown : ¬ Known e fr [] m
    unknown (inl f) = true≢false (sym f ∙ vacant)
    unknown (inr b) = let l = b.1 in omega arith
plain_okay e fr n into k (Copy m y ∷ ds) o = absurd o.3
plain_okay e fr n into k (Join a b ∷ ds) o = (tt, plain_okay e fr n into k ds o)
plain_okay e fr n into k (Cut a b ∷ ds) o = (tt, plain_okay e fr n into k ds o)
