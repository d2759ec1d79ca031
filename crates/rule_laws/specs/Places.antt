-- What the rules' laws share: where two principal ports meet, numbers for new nodes, rows of edits.
use Rattle.std.specs.Prelude.{◌≡◌, ◌≢◌, ◌⊎◌, ℕ, zero, suc, ◌+◌, ◌<◌, ◌≤◌, Bool, false, get_or, replicate, eqb}
use Rattle.std.proofs.Math.Path.{refl, ap}
use Rattle.std.proofs.Common.{sym, ◌∙◌, subst, inl, inr, arith, true≢false}
use Rattle.std.proofs.Math.Bool.{true}
use Rattle.std.proofs.Math.Option.{Option, none, some, some-injective}
use mathlib.Core.List.Memᴰ
use mathlib.Core.List.{List, [], ◌∷◌, map, Memᴰ}
use Rattle.net_file.specs.Lists.{distinct}
use Rattle.definitions.specs.Lists.{given, zip_with, or_else, is_some, foldl}
use Rattle.definitions.specs.Nets.{Port, Node, Graph, port, at, filled, arity, across, follow}
use Rattle.definitions.specs.Scripts.{Script, apply, apply_script}
use Rattle.definitions.specs.Rules.{new}
use Rattle.definitions.specs.Step.{Fresh}
use Rattle.net_file.specs.Values.{Name}
use Rattle.join_laws.specs.Ports.{frame, filled_same, Real, across_real}
use Rattle.join_laws.specs.Link.{Wired}
use Rattle.script_laws.specs.Slots.{Holes}
use Rattle.script_laws.specs.Safe.{AllAway, safe_away}
use Rattle.script_laws.specs.Tidy.{WellWired, Tidy, real_filled, dead_frame, frame_kept, ported_kept}
use Rattle.script_laws.proofs.Tidy.{tidy_wired, wire_kept}

-- ---- what a script keeps

-- every node has a port
abbrev pub Ported : Graph → Type 0
Ported g = (n : ℕ) → filled g n ≡ true → 0 < arity g n

-- well wired again, each dead node removed once; nodes that do not die keep net, name and number of ports, and the wires between them stay
pub record Clean (g : Graph) (s : Script) : Type 0 where
  pub wired : WellWired (apply_script g s)
  pub frames : (n : ℕ) → filled g n ≡ true → ¬ Memᴰ n s.dead → frame (apply_script g s) n ≡ frame g n
  pub wires : (p q : Port) → across g p ≡ some q → ¬ Memᴰ p.node s.dead → ¬ Memᴰ q.node s.dead → across (apply_script g s) p ≡ some q
  pub there : (n : ℕ) → Memᴰ n s.dead → filled (foldl apply g s.edits) n ≡ true
  pub once : distinct eqb s.dead ≡ true
  pub ported : Ported g → Ported (apply_script g s)
  pub away : (c : ℕ) → filled g c ≡ true → ¬ Memᴰ c s.dead → AllAway c s.edits

pub tidy_clean : (g : Graph) (s : Script) (Z : Port → Type 0) → WellWired g → Tidy g s Z → distinct eqb s.dead ≡ true → Clean g s
tidy_clean g s Z w t once = record {
  wired = tidy_wired g s Z w t;
  frames = frame_kept g s Z w t;
  wires = wire_kept g s Z w t;
  once = once;
  ported = ported_kept g s Z w t;
  away = λ c f d. safe_away Z s.edits g (λ _. ⊥) Z t.safe c f (λ r z e. unused c f d r e (t.only r z));
  there = λ n d. filled_same g (foldl apply g s.edits) n (dead_frame g s Z w t n d) ∙ (t.gone n d).0;
}
  where
    unused : (c : ℕ) → filled g c ≡ true → ¬ Memᴰ c s.dead → (r : Port) → r.node ≡ c → Memᴰ r.node s.dead ⊎ (filled g r.node ≡ false) → ⊥
    unused c f d r e (inl m) = d (subst (λ (n : ℕ). Memᴰ n s.dead) e m)
    unused c f d r e (inr v) = true≢false (sym f ∙ ap (filled g) (sym e) ∙ v)

-- ---- small facts

pub given_some : {A : Type 0} (t : Bool) (a b : A) → given t a ≡ some b → (t ≡ true) × (a ≡ b)
given_some true a b e = (refl, some-injective a b e)
given_some false a b e = let z : ◌≡◌ {A = ℕ} 0 1 = cc in absurd (omega arith)

pub zip_rows : {A B C : Type 0} (f : A → B → C) (P : ℕ → A) (Q : ℕ → B) (xs : List ℕ) → zip_with f (map P xs) (map Q xs) ≡ map (λ i. f (P i) (Q i)) xs
zip_rows f P Q [] = refl
zip_rows f P Q (x ∷ xs) = ap (λ l. f (P x) (Q x) ∷ l) (zip_rows f P Q xs)

pub replicate_holes : (n i : ℕ) → ◌≡◌ {A = Option Port} (get_or (replicate n none) i none) none
replicate_holes zero i = refl
replicate_holes (suc n) zero = refl
replicate_holes (suc n) (suc i) = replicate_holes n i

pub new_holes : (k : ℕ) (name : Name) (len : ℕ) → Holes (new k name len)
unfolding new
new_holes k name len i = replicate_holes len i

pub one_of_two : {a b n : ℕ} → Memᴰ n (a ∷ b ∷ []) → (n ≡ a) ⊎ (n ≡ b)
one_of_two m = go (Memᴰ.cases_cons m)
  where
    go : {a b n : ℕ} → (n ≡ a) ⊎ Memᴰ n (b ∷ []) → (n ≡ a) ⊎ (n ≡ b)
    go (inl e) = inl e
    go (inr t) = via (Memᴰ.cases_cons t)
      where
        via : {a b n : ℕ} → (n ≡ b) ⊎ Memᴰ n [] → (n ≡ a) ⊎ (n ≡ b)
        via (inl e) = inr e
        via (inr x) = absurd (Memᴰ.not-nil x)

-- a filled number is not a new one
pub not_fresh : (g : Graph) (fresh : ℕ → ℕ) → Fresh g fresh → (n k : ℕ) → filled g n ≡ true → n ≢ fresh k
not_fresh g fresh f n k h e = true≢false (sym h ∙ ap (filled g) e ∙ f.vacant k)

-- ---- two principal ports meet

pub record Meet (g : Graph) (a b : ℕ) : Type 0 where
  pub differ : a ≢ b
  pub filled_a : filled g a ≡ true
  pub filled_b : filled g b ≡ true
  pub one_net : (at g a).net ≡ (at g b).net
  pub ports_a : 0 < arity g a
  pub ports_b : 0 < arity g b

pub meet : (g : Graph) → Wired g → (a b : ℕ) → across g (port a 0) ≡ some (port b 0) → Meet g a b
meet g w a b e =
    let ra = across_real g (port a 0) (port b 0) e in
    let rb = across_real g (port b 0) (port a 0) (w.back (port a 0) (port b 0) e) in
    record {
      differ = λ s. w.apart (port a 0) (e ∙ ap (λ (n : ℕ). some (port n 0)) (sym s));
      filled_a = real_filled g (port a 0) ra;
      filled_b = real_filled g (port b 0) rb;
      one_net = w.within (port a 0) (port b 0) e;
      ports_a = ra;
      ports_b = rb;
    }

-- ---- where no port is a hole

module _ (g : Graph) (w : WellWired g) where
  -- a port of a node is wired with what it meets
  pub follow_across : (p : Port) → Real g p → across g p ≡ some (follow g p)
  unfolding follow
  follow_across p h = go (across g p) (w.full p h)
    where
      go : (o : Option Port) → is_some o ≡ true → o ≡ some (or_else o p)
      go none e = absurd (true≢false (sym e))
      go (some q) e = refl

  pub across_follow : (p q : Port) → across g p ≡ some q → follow g p ≡ q
  unfolding follow
  across_follow p q e = ap (λ (o : Option Port). or_else o p) e

  pub follow_real : (p : Port) → Real g p → Real g (follow g p)
  follow_real p h = across_real g (follow g p) p (w.wired.back p (follow g p) (follow_across p h))

  -- and that meets it
  pub follow_back : (p : Port) → Real g p → follow g (follow g p) ≡ p
  follow_back p h = across_follow (follow g p) p (w.wired.back p (follow g p) (follow_across p h))

  pub follow_filled : (p : Port) → Real g p → filled g (follow g p).node ≡ true
  follow_filled p h = real_filled g (follow g p) (follow_real p h)
