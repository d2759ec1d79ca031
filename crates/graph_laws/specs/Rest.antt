-- At rest every net is well wired, its free node's ports 0 and 1 are wired together, and it keeps its number of free ports.
use Rattle.std.proofs.Math.Path.{◌≡◌, ap}
use Rattle.std.specs.Prelude.{refl, ◌≢◌, ◌⊎◌, ℕ, zero, suc, ◌+◌, ◌<◌, Bool, true, false, eqb}
use Rattle.std.proofs.Common.{sym, ◌∙◌, subst, inl, inr, arith, true≢false}
use Rattle.std.proofs.Math.Option.{Option, none, some, some-injective}
use mathlib.Core.List.Memᴰ
use mathlib.Core.List.{List, [], ◌∷◌, Memᴰ}
use Rattle.net_file.specs.Values.{Name, Rule, graft, annihilate, erase, commute, eta}
use Rattle.definitions.specs.Lists.{or_else, is_some, nth, place}
use Rattle.definitions.specs.Nets.{Port, Graph, Home, port, at, filled, holds, name_of, arity, across}
use Rattle.definitions.specs.Scripts.{Script, apply_script}
use Rattle.definitions.specs.Rules.{graft_script, interact}
use Rattle.definitions.specs.Step.{rewrites, Fresh, NodesOf, Acts, interacts, reduces, grafts, Step}
use Rattle.join_laws.specs.Ports.{Frame, no_frame, in_net, frame, arity_same, name_same, name_frame, filled_frame, holds_same, holds_frame, across_real}
use Rattle.script_laws.specs.Tidy.{WellWired}
use Rattle.rule_laws.specs.Places.{one_of_two, not_fresh, Ported, Clean}
use Rattle.rule_laws.proofs.Annihilate.{annihilate_clean}
use Rattle.rule_laws.proofs.Erase.{erase_clean}
use Rattle.rule_laws.proofs.Commute.{commute_clean}
use Rattle.rule_laws.specs.Eta.{eta_clean}
use Rattle.rule_laws.proofs.Graft.{graft_clean}
use Rattle.graph_laws.specs.Dead.{interact_dead, Goes, eta_dead}

-- net k's free node: a node of that net, its ports 0 and 1 wired together
pub record FreeNode (path : ℕ) (g : Graph) (k : ℕ) (h : Home) : Type 0 where
  pub held : holds g k h.free ≡ true
  pub wired : across g (port h.free 0) ≡ some (port h.free 1)
  pub named : (name_of g h.free).path ≡ path

-- every net is well wired, every node has a port, every net its free node; `path` is the number of `ivy:engine:free`
pub record Rest (path : ℕ) (homes : List Home) (g : Graph) : Type 0 where
  pub well : WellWired g
  pub ported : Ported g
  pub free : (k : ℕ) (h : Home) → nth homes k ≡ some h → FreeNode path g k h

-- no rewrite is registered for that path (8)
abbrev pub Unnamed : ℕ → List Rule → Type 0
Unnamed path rules = (r : Rule) → Memᴰ r rules → ¬ Memᴰ path (rewrites r)

-- the number of free ports of every net is as it was
abbrev pub FreeKept : List Home → Graph → Graph → Type 0
FreeKept homes g h = (k : ℕ) (x : Home) → nth homes k ≡ some x → arity h x.free ≡ arity g x.free

-- ---- small facts

pub holds_filled : (g : Graph) (k n : ℕ) → holds g k n ≡ true → filled g n ≡ true
holds_filled g k n e = filled_frame g n ∙ go (frame g n) (sym (holds_frame g n k) ∙ e)
  where
    go : (o : Option Frame) → in_net k o ≡ true → is_some o ≡ true
    go none x = absurd (true≢false (sym x))
    go (some f) x = refl

-- a number with children is a node's
pub named_filled : (g : Graph) (n c : ℕ) (cs : List ℕ) → (name_of g n).children ≡ c ∷ cs → filled g n ≡ true
named_filled g n c cs e = filled_frame g n ∙ go (frame g n) (ap (λ (x : Name). x.children) (sym (name_frame g n)) ∙ e)
  where
    go : (o : Option Frame) → (or_else o no_frame).name.children ≡ c ∷ cs → is_some o ≡ true
    go none x = let z : ◌≡◌ {A = ℕ} 0 1 = cc in absurd (omega arith)
    go (some f) x = refl

module _ (rules : List Rule) (homes : List Home) (path : ℕ) (unnamed : Unnamed path rules) (g : Graph) (rest : Rest path homes g) (fresh : ℕ → ℕ) (f : Fresh g fresh) where
  -- an interaction's script
  interacts_clean : (r : Rule) (a b : ℕ) (s : Script) → across g (port a 0) ≡ some (port b 0) → interact r fresh g a b ≡ some s → Clean g s
  unfolding interact
  interacts_clean (graft p lazy) a b s m e = let z : ◌≡◌ {A = ℕ} 0 1 = cc in absurd (omega arith)
  interacts_clean (annihilate ps) a b s m e = annihilate_clean fresh g rest.well a b m s e
  interacts_clean (erase es ns) a b s m e = erase_clean fresh g rest.well f a b m s e
  interacts_clean (commute xs ys) a b s m e = commute_clean fresh g rest.well f a b m s e
  interacts_clean (eta cs vs ns) a b s m e = let z : ◌≡◌ {A = ℕ} 0 1 = cc in absurd (omega arith)

  -- a rule's script leaves the nets well wired
  pub acts_clean : (m : Option ℕ) (s : Script) → Acts rules homes g fresh m s → Clean g s
  acts_clean m s (interacts r a b s' x y met e) = interacts_clean r a b s met e
  acts_clean m s (reduces cs vs ns a s' x y z e) = eta_clean fresh g rest.well f vs ns a s e
  acts_clean m s (grafts lazy a c m' cs ids home x y e n i d nodes fits) =
      graft_clean fresh g rest.well f m' a home.free ids nodes (named_filled g a c cs e) (rest.free m' home n).held fits

  -- and removes no free node
  module _ (k : ℕ) (h : Home) (is : nth homes k ≡ some h) where
    node : FreeNode path g k h
    node = rest.free k h is

    not_met : (b : ℕ) → across g (port h.free 0) ≢ some (port b 0)
    not_met b e = let z : ◌≡◌ {A = ℕ} 1 0 = ap (λ (p : Port). p.index) (some-injective (port h.free 1) (port b 0) (sym node.wired ∙ e)) in omega arith

    goes_not : (a : ℕ) → ¬ ((name_of g a).path ≡ path) → ¬ Goes g a h.free
    goes_not a n (inl e) = n (sym e ∙ node.named)
    goes_not a n (inr e) =
        let l = across_real g (port h.free 1) (port h.free 0) (rest.well.wired.back (port h.free 0) (port h.free 1) node.wired) in omega arith

    pub acts_free : (m : Option ℕ) (s : Script) → Acts rules homes g fresh m s → ¬ Memᴰ h.free s.dead
    unfolding rewrites graft_script
    acts_free m s (interacts r a b s' x y met e) d = go (one_of_two (subst (Memᴰ h.free) (interact_dead r fresh g a b s e) d))
      where
        go : (h.free ≡ a) ⊎ (h.free ≡ b) → ⊥
        go (inl q) = not_met b (ap (λ (n : ℕ). across g (port n 0)) q ∙ met)
        go (inr q) = not_met a (ap (λ (n : ℕ). across g (port n 0)) q ∙ rest.well.wired.back (port a 0) (port b 0) met)
    acts_free m s (reduces cs vs ns a s' x y z e) d =
        goes_not a (λ q. unnamed (eta cs vs ns) x (Memᴰ.cast (sym q) z)) (eta_dead fresh g a vs ns s e h.free d)
    acts_free m s (grafts lazy a c m' cs ids home x y e n i q nodes fits) d = go (one_of_two d)
      where
        go : (h.free ≡ fresh (place (eqb home.free) ids)) ⊎ (h.free ≡ a) → ⊥
        go (inl t) = not_fresh g fresh f h.free (place (eqb home.free) ids) (holds_filled g k h.free node.held) t
        go (inr t) = unnamed (graft (name_of g a).path lazy) x (Memᴰ.head (sym node.named ∙ ap (λ (j : ℕ). (name_of g j).path) t))

  pub acts_rest : (m : Option ℕ) (s : Script) → Acts rules homes g fresh m s → Rest path homes (apply_script g s) × FreeKept homes g (apply_script g s)
  acts_rest m s x = (record { well = clean.wired; ported = clean.ported rest.ported; free = free }, kept)
    where
      clean : Clean g s
      clean = acts_clean m s x

      same : (k : ℕ) (h : Home) → nth homes k ≡ some h → frame (apply_script g s) h.free ≡ frame g h.free
      same k h is = clean.frames h.free (holds_filled g k h.free (rest.free k h is).held) (acts_free k h is m s x)

      free : (k : ℕ) (h : Home) → nth homes k ≡ some h → FreeNode path (apply_script g s) k h
      free k h is = record {
        held = holds_same g (apply_script g s) h.free (same k h is) k ∙ (rest.free k h is).held;
        wired = clean.wires (port h.free 0) (port h.free 1) (rest.free k h is).wired (acts_free k h is m s x) (acts_free k h is m s x);
        named = ap (λ (n : Name). n.path) (name_same g (apply_script g s) h.free (same k h is)) ∙ (rest.free k h is).named;
      }

      kept : FreeKept homes g (apply_script g s)
      kept k h is = arity_same g (apply_script g s) h.free (same k h is)
