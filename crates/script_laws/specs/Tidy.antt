-- A script that uses each port of its dead and of its new nodes once, and no other, leaves the nets well wired.
use Rattle.std.specs.Prelude.{◌≡◌, refl, ◌≢◌, ◌⊎◌, ℕ, ◌<◌, ◌≤◌, Bool, true, false, not, length}
use Rattle.std.proofs.Common.{sym, ap, ◌∙◌, subst, inl, inr, arith, true≢false}
use Rattle.std.proofs.Math.Decide.{ℕ_discrete, dec_lt}
use Rattle.std.proofs.lemmas.Bool.{false≢true}
use Rattle.std.proofs.Math.Option.{Option, none, some}
use mathlib.Core.List.{List, [], ◌∷◌, Memᴰ}
use Rattle.std.proofs.Math.ListN.{get_or-eq_default}
use Rattle.definitions.specs.Lists.{or_else, is_some, foldl}
use Rattle.definitions.specs.Nets.{Port, Graph, port, at, filled, arity, across}
use Rattle.definitions.specs.Scripts.{Edit, Script, apply, vacate, apply_script}
use Rattle.join_laws.specs.Ports.{Frame, no_frame, frame, arity_frame, arity_same, net_same, filled_frame, filled_same, Real, across_real}
use Rattle.join_laws.specs.Link.{Wired}
use Rattle.script_laws.specs.Slots.{frame_vacate_same, frame_vacate_other, across_vacate, across_vacant}
use Rattle.script_laws.specs.Safe.{Safe, Born, Turns, frame_edits}

-- well wired: links agree at both ends and within one net, and no port is a hole
pub record WellWired (g : Graph) : Type 0 where
  pub wired : Wired g
  pub full : (r : Port) → Real g r → is_some (across g r) ≡ true

-- the ports Z are used, each once: all of the dead nodes, all of the new ones, and no other
pub record Tidy (g : Graph) (s : Script) (Z : Port → Type 0) : Type 0 where
  pub safe : Safe Z g (λ _. ⊥) s.edits Z
  pub gone : (n : ℕ) → Memᴰ n s.dead → (filled g n ≡ true) × ((i : ℕ) → i < arity g n → Z (port n i))
  pub only : (r : Port) → Z r → Memᴰ r.node s.dead ⊎ (filled g r.node ≡ false)

-- past the last port there is none across
pub across_past : (g : Graph) (n i : ℕ) → arity g n ≤ i → across g (port n i) ≡ none
unfolding across arity
across_past g n i l = get_or-eq_default (at g n).ports none l

pub hole : (o : Option Port) → is_some o ≡ false → o ≡ none
hole none e = refl
hole (some q) e = absurd (true≢false e)

pub real_filled : (g : Graph) (r : Port) → Real g r → filled g r.node ≡ true
real_filled g r h = go (filled g r.node) refl
  where
    go : (t : Bool) → filled g r.node ≡ t → filled g r.node ≡ true
    go true e = e
    go false e =
        let z : arity g r.node ≡ 0 = vacant_arity g r.node e in
        absurd (omega arith)
      where
        vacant_arity : (g : Graph) (n : ℕ) → filled g n ≡ false → arity g n ≡ 0
        vacant_arity g n v = arity_frame g n ∙ via (frame g n) (sym (filled_frame g n) ∙ v)
          where
            via : (o : Option Frame) → is_some o ≡ false → (or_else o no_frame).size ≡ 0
            via none x = refl
            via (some f) x = absurd (true≢false x)

-- ---- nodes of holes go

pub vacates_across : (ds : List ℕ) (g : Graph) → ((n : ℕ) → Memᴰ n ds → (i : ℕ) → across g (port n i) ≡ none)
    → (r : Port) → across (foldl vacate g ds) r ≡ across g r
vacates_across [] g h r = refl
vacates_across (d ∷ ds) g h r =
    let one : (r : Port) → across (vacate g d) r ≡ across g r = λ r. across_vacate g d r (h d (mathlib.Core.List.Memᴰ.head refl)) in
    vacates_across ds (vacate g d) (λ n m i. one (port n i) ∙ h n (mathlib.Core.List.Memᴰ.tail m) i) r ∙ one r

pub vacates_other : (ds : List ℕ) (g : Graph) (n : ℕ) → ¬ Memᴰ n ds → frame (foldl vacate g ds) n ≡ frame g n
vacates_other [] g n h = refl
vacates_other (d ∷ ds) g n h =
    vacates_other ds (vacate g d) n (λ m. h (mathlib.Core.List.Memᴰ.tail m)) ∙ frame_vacate_other g d n (λ e. h (mathlib.Core.List.Memᴰ.head e))

vacates_none : (ds : List ℕ) (g : Graph) (n : ℕ) → frame g n ≡ none → frame (foldl vacate g ds) n ≡ none
vacates_none [] g n e = e
vacates_none (d ∷ ds) g n e = vacates_none ds (vacate g d) n (go (ℕ_discrete n d))
  where
    go : Dec (n ≡ d) → frame (vacate g d) n ≡ none
    go (yes s) = ap (frame (vacate g d)) s ∙ frame_vacate_same g d
    go (no s) = frame_vacate_other g d n s ∙ e

pub vacates_gone : (ds : List ℕ) (g : Graph) (n : ℕ) → Memᴰ n ds → frame (foldl vacate g ds) n ≡ none
vacates_gone [] g n m = absurd (mathlib.Core.List.Memᴰ.not-nil m)
vacates_gone (d ∷ ds) g n m = go (mathlib.Core.List.Memᴰ.cases_cons m) (vacates_gone ds (vacate g d) n)
  where
    go : (n ≡ d) ⊎ Memᴰ n ds → (Memᴰ n ds → frame (foldl vacate (vacate g d) ds) n ≡ none) → frame (foldl vacate (vacate g d) ds) n ≡ none
    go (inl e) k = vacates_none ds (vacate g d) n (ap (frame (vacate g d)) e ∙ frame_vacate_same g d)
    go (inr t) k = k t

-- ---- the law

module _ (g : Graph) (s : Script) (Z : Port → Type 0) (w : WellWired g) (t : Tidy g s Z) where
  -- after its edits
  abbrev pub h : Graph
  h = foldl apply g s.edits

  pub start : Turns g g (λ _. ⊥)
  start = record { used = λ r u. absurd u; rest = λ r n. refl }

  -- a dead node kept its frame, and all its ports are holes
  pub dead_frame : (n : ℕ) → Memᴰ n s.dead → frame h n ≡ frame g n
  dead_frame n m = go (frame_edits Z s.edits g (λ _. ⊥) Z t.safe n)
    where
      go : (frame h n ≡ frame g n) ⊎ Born Z g h n → frame h n ≡ frame g n
      go (inl e) = e
      go (inr x) = absurd (true≢false (sym (t.gone n m).0 ∙ x.0))

  -- what is left: its node is not dead, and is as it was after the edits
  pub left : (n : ℕ) → ¬ (frame (apply_script g s) n ≡ none) → (¬ Memᴰ n s.dead) × (frame (apply_script g s) n ≡ frame h n)
  unfolding apply_script
  left n e =
      let d : ¬ Memᴰ n s.dead = λ m. e (vacates_gone s.dead h n m) in
      (d, vacates_other s.dead h n d)

  pub real_frame : (k : Graph) (r : Port) → Real k r → ¬ (frame k r.node ≡ none)
  real_frame k r l e =
      let z : arity k r.node ≡ 0 = arity_frame k r.node ∙ ap (λ (o : Option Frame). (or_else o no_frame).size) e in omega arith

  -- a node that does not die keeps its net, its name and its number of ports
  pub frame_kept : (n : ℕ) → filled g n ≡ true → ¬ Memᴰ n s.dead → frame (apply_script g s) n ≡ frame g n
  unfolding apply_script
  frame_kept n f d = vacates_other s.dead h n d ∙ go (frame_edits Z s.edits g (λ _. ⊥) Z t.safe n)
    where
      go : (frame h n ≡ frame g n) ⊎ Born Z g h n → frame h n ≡ frame g n
      go (inl e) = e
      go (inr x) = absurd (true≢false (sym f ∙ x.0))

  -- every node that is left has a port, if every node had one
  pub ported_kept : ((n : ℕ) → filled g n ≡ true → 0 < arity g n) → (n : ℕ) → filled (apply_script g s) n ≡ true → 0 < arity (apply_script g s) n
  ported_kept p n f =
      let x = left n (λ e. true≢false (sym f ∙ filled_frame (apply_script g s) n ∙ ap is_some e)) in
      rw (arity_same h (apply_script g s) n x.1) (go (frame_edits Z s.edits g (λ _. ⊥) Z t.safe n) (sym (filled_same h (apply_script g s) n x.1) ∙ f))
    where
      go : (frame h n ≡ frame g n) ⊎ Born Z g h n → filled h n ≡ true → 0 < arity h n
      go (inl e) k = rw (arity_same g h n e) (p n (sym (filled_same g h n e) ∙ k))
      go (inr b) k = b.2
