-- One law for all scripts. While a script runs, a port is a hole exactly if it is new and not yet used, or old and already used.
-- `Safe` says that an edit list uses each port once, and ends with the ports Z used.
use Rattle.std.specs.Prelude.{◌≡◌, refl, ◌≢◌, ◌⊎◌, ℕ, ◌<◌, Bool, true, false, not, List, [], ◌∷◌, ◌++◌, length}
use Rattle.std.proofs.Common.{sym, ap, ◌∙◌, subst, inl, inr, arith, true≢false}
use Rattle.std.proofs.Math.Decide.{ℕ_discrete}
use Rattle.std.proofs.Math.Option.{Option, none, some}
use Rattle.definitions.specs.Lists.{or_else, is_some, foldl}
use Rattle.definitions.specs.Nets.{Port, Node, Graph, port, at, filled, arity, across}
use Rattle.definitions.specs.Scripts.{Edit, Insert, Copy, Join, Cut, fill, join, cut, apply}
use Rattle.join_laws.specs.Ports.{Frame, no_frame, frame, frame_of, arity_same, arity_frame, net_same, filled_frame, filled_same, Real, across_real}
use Rattle.join_laws.specs.Link.{Wired, Turned, frame_cut, cut_other, cut_wired}
use Rattle.join_laws.proofs.Join.{frame_join, join_wired, join_kept}
use Rattle.script_laws.specs.Slots.{Holes, frame_fill_same, frame_fill_other, across_fill}

-- the ports of U, and a and b
pub data With (U : Port → Type 0) (a b r : Port) : Type 0 where
  was : U r → With U a b r
  first : r ≡ a → With U a b r
  second : r ≡ b → With U a b r

-- two ports of one net that exist and were not used
pub record CanJoin (g : Graph) (U : Port → Type 0) (a b : Port) : Type 0 where
  pub real_a : Real g a
  pub real_b : Real g b
  pub differ : a ≢ b
  pub one_net : (at g a.node).net ≡ (at g b.node).net
  pub unused_a : ¬ U a
  pub unused_b : ¬ U b

-- two ports that are wired together and were not used
pub record CanCut (g : Graph) (U : Port → Type 0) (a b : Port) : Type 0 where
  pub wired : across g a ≡ some b
  pub unused_a : ¬ U a
  pub unused_b : ¬ U b

-- a node of holes, one at least, for a vacant number; in the end all its ports are used
pub record CanInsert (F : Port → Type 0) (g : Graph) (n : ℕ) (x : Node) : Type 0 where
  pub vacant : filled g n ≡ false
  pub holes : Holes x
  pub some_port : 0 < length x.ports
  pub later : (i : ℕ) → i < length x.ports → F (port n i)

-- an edit fits where it is made; F are the ports used in the end, U those used so far
abbrev pub Fits : (Port → Type 0) → Graph → (Port → Type 0) → Edit → Type 0
Fits F g U (Insert n x) = CanInsert F g n x
Fits F g U (Copy n x) = ⊥
Fits F g U (Join a b) = CanJoin g U a b
Fits F g U (Cut a b) = CanCut g U a b

-- the ports used after it
abbrev pub Used : (Port → Type 0) → Edit → Port → Type 0
Used U (Insert n x) = U
Used U (Copy n x) = U
Used U (Join a b) = With U a b
Used U (Cut a b) = With U a b

-- every edit fits, and from U the ports Z are used
abbrev pub Safe : (Port → Type 0) → Graph → (Port → Type 0) → List Edit → (Port → Type 0) → Type 0
Safe F g U [] Z = (r : Port) → (U r → Z r) × (Z r → U r)
Safe F g U (d ∷ ds) Z = Fits F g U d × Safe F (apply g d) (Used U d) ds Z

-- ---- the same sets, and one list after the other

pub used_same : (U U' : Port → Type 0) (d : Edit) → ((r : Port) → (U r → U' r) × (U' r → U r)) → (r : Port) → (Used U d r → Used U' d r) × (Used U' d r → Used U d r)
used_same U U' (Insert n x) h r = h r
used_same U U' (Copy n x) h r = h r
used_same U U' (Join a b) h r = (
  λ u. elim u [ was x ↦ was ((h r).0 x) | first x ↦ first x | second x ↦ second x ],
  λ u. elim u [ was x ↦ was ((h r).1 x) | first x ↦ first x | second x ↦ second x ],
)
used_same U U' (Cut a b) h r = (
  λ u. elim u [ was x ↦ was ((h r).0 x) | first x ↦ first x | second x ↦ second x ],
  λ u. elim u [ was x ↦ was ((h r).1 x) | first x ↦ first x | second x ↦ second x ],
)

pub fits_same : (F : Port → Type 0) (g : Graph) (U U' : Port → Type 0) (d : Edit) → ((r : Port) → (U r → U' r) × (U' r → U r)) → Fits F g U d → Fits F g U' d
fits_same F g U U' (Insert n x) h f = f
fits_same F g U U' (Copy n x) h f = f
fits_same F g U U' (Join a b) h f = record {
  real_a = f.real_a;
  real_b = f.real_b;
  differ = f.differ;
  one_net = f.one_net;
  unused_a = λ u. f.unused_a ((h a).1 u);
  unused_b = λ u. f.unused_b ((h b).1 u);
}
fits_same F g U U' (Cut a b) h f = record { wired = f.wired; unused_a = λ u. f.unused_a ((h a).1 u); unused_b = λ u. f.unused_b ((h b).1 u) }

-- ---- one edit

-- since g the ports U were turned, and no other
pub record Turns (g h : Graph) (U : Port → Type 0) : Type 0 where
  pub used : (r : Port) → U r → is_some (across h r) ≡ not (is_some (across g r))
  pub rest : (r : Port) → ¬ U r → is_some (across h r) ≡ is_some (across g r)

turns_two : (g h h' : Graph) (U : Port → Type 0) (a b : Port) → ¬ U a → ¬ U b → Turns g h U → Turned h h' a b → Turns g h' (With U a b)
turns_two g h h' U a b na nb t s = record { used = used; rest = λ r n. s.others r (λ e. n (first e)) (λ e. n (second e)) ∙ t.rest r (λ u. n (was u)) }
  where
    used : (r : Port) → With U a b r → is_some (across h' r) ≡ not (is_some (across g r))
    used r (was u) = s.others r (λ e. na (subst U e u)) (λ e. nb (subst U e u)) ∙ t.used r u
    used r (first e) = subst (λ (p : Port). is_some (across h' p) ≡ not (is_some (across g p))) (sym e) (s.first ∙ ap not (t.rest a na))
    used r (second e) = subst (λ (p : Port). is_some (across h' p) ≡ not (is_some (across g p))) (sym e) (s.second ∙ ap not (t.rest b nb))

vacant_real : (g : Graph) (n : ℕ) (r : Port) → filled g n ≡ false → Real g r → r.node ≢ n
vacant_real g n r v h e =
    let z : arity g n ≡ 0 = arity_frame g n ∙ go (frame g n) (sym (filled_frame g n) ∙ v) in
    let l : r.index < arity g n = subst (λ (m : ℕ). r.index < arity g m) e h in
    omega arith
  where
    go : (o : Option Frame) → is_some o ≡ false → (or_else o no_frame).size ≡ 0
    go none x = refl
    go (some f) x = absurd (true≢false x)

fill_wired : (F : Port → Type 0) (g : Graph) (n : ℕ) (x : Node) → Wired g → CanInsert F g n x → Wired (fill g n x)
fill_wired F g n x w f = record {
  back = λ p q e. same q ∙ w.back p q (sym (same p) ∙ e);
  apart = λ p e. w.apart p (sym (same p) ∙ e);
  within = λ p q e.
      let k = sym (same p) ∙ e in
      net p (across_real g p q k) ∙ w.within p q k ∙ sym (net q (across_real g q p (w.back p q k)));
}
  where
    same : (r : Port) → across (fill g n x) r ≡ across g r
    same r = across_fill g n x r f.vacant f.holes

    net : (r : Port) → Real g r → (at (fill g n x) r.node).net ≡ (at g r.node).net
    net r h = net_same g (fill g n x) r.node (frame_fill_other g n r.node x (vacant_real g n r f.vacant h))

cut_apart : (g : Graph) → Wired g → (a b : Port) → across g a ≡ some b → a ≢ b
cut_apart g w a b e s = w.apart a (e ∙ ap {B = Option Port} some (sym s))

pub edit_wired : (F : Port → Type 0) (g₀ g : Graph) (U : Port → Type 0) (d : Edit) → Wired g → Turns g₀ g U → Fits F g U d
    → Wired (apply g d) × Turns g₀ (apply g d) (Used U d)
unfolding apply
edit_wired F g₀ g U (Insert n x) w t f = (
  fill_wired F g n x w f,
  record {
    used = λ r u. ap is_some (across_fill g n x r f.vacant f.holes) ∙ t.used r u;
    rest = λ r u. ap is_some (across_fill g n x r f.vacant f.holes) ∙ t.rest r u;
  },
)
edit_wired F g₀ g U (Copy n x) w t f = absurd f
edit_wired F g₀ g U (Join a b) w t f =
    let k = join_wired g w a b f.real_a f.real_b f.differ f.one_net in
    (k.0, turns_two g₀ g (join g a b) U a b f.unused_a f.unused_b t k.1)
edit_wired F g₀ g U (Cut a b) w t f =
    let k = cut_wired g w a b (across_real g a b f.wired) (across_real g b a (w.back a b f.wired)) (cut_apart g w a b f.wired) f.wired in
    (k.0, turns_two g₀ g (cut g a b) U a b f.unused_a f.unused_b t k.1)

-- ports once used stay so
pub safe_used : (F : Port → Type 0) (ds : List Edit) (g : Graph) (U Z : Port → Type 0) → Safe F g U ds Z → (r : Port) → U r → Z r
safe_used F [] g U Z s r u = (s r).0 u
safe_used F (d ∷ ds) g U Z s r u = safe_used F ds (apply g d) (Used U d) Z s.1 r (go d)
  where
    go : (d : Edit) → Used U d r
    go (Insert n x) = u
    go (Copy n x) = u
    go (Join a b) = was u
    go (Cut a b) = was u

pub edit_kept : (F : Port → Type 0) (g : Graph) (U : Port → Type 0) (d : Edit) → Wired g → Fits F g U d → (p q : Port) → across g p ≡ some q → ¬ Used U d p → ¬ Used U d q
    → across (apply g d) p ≡ some q
unfolding apply
edit_kept F g U (Insert n x) w f p q e np nq = across_fill g n x p f.vacant f.holes ∙ e
edit_kept F g U (Copy n x) w f p q e np nq = absurd f
edit_kept F g U (Join a b) w f p q e np nq =
    join_kept g w a b f.real_a f.real_b f.differ p q e (λ s. np (first s)) (λ s. np (second s)) (λ s. nq (first s)) (λ s. nq (second s))
edit_kept F g U (Cut a b) w f p q e np nq = cut_other g a b p (λ s. np (first s)) (λ s. np (second s)) ∙ e

-- ---- frames

-- n was vacant, and is a node now, all of whose ports are used in the end
abbrev pub Born : (Port → Type 0) → Graph → Graph → ℕ → Type 0
Born F g h n = (filled g n ≡ false) × ((i : ℕ) → i < arity h n → F (port n i)) × (0 < arity h n)

-- an edit keeps the frame of every number but of one that it fills, which was vacant
frame_edit : (F : Port → Type 0) (g : Graph) (U : Port → Type 0) (d : Edit) → Fits F g U d → (n : ℕ)
    → (frame (apply g d) n ≡ frame g n) ⊎ Born F g (apply g d) n
unfolding apply
frame_edit F g U (Insert m x) f n = go (ℕ_discrete n m)
  where
    go : Dec (n ≡ m) → (frame (fill g m x) n ≡ frame g n) ⊎ Born F g (fill g m x) n
    go (yes e) =
        let z : arity (fill g m x) n ≡ length x.ports =
        ap (arity (fill g m x)) e ∙ arity_frame (fill g m x) m ∙ ap (λ (o : Option Frame). (or_else o no_frame).size) (frame_fill_same g m x) in
        inr (
          subst (λ (k : ℕ). filled g k ≡ false) (sym e) f.vacant,
          λ i l. subst (λ (k : ℕ). F (port k i)) (sym e) (f.later i (omega arith)),
          (let y = f.some_port in omega arith),
        )
    go (no e) = inl (frame_fill_other g m n x e)
frame_edit F g U (Copy m x) f n = absurd f
frame_edit F g U (Join a b) f n = inl (frame_join g a b n)
frame_edit F g U (Cut a b) f n = inl (frame_cut g a b n)

-- so do all edits
pub frame_edits : (F : Port → Type 0) (ds : List Edit) (g : Graph) (U Z : Port → Type 0) → Safe F g U ds Z → (n : ℕ)
    → (frame (foldl apply g ds) n ≡ frame g n) ⊎ Born F g (foldl apply g ds) n
frame_edits F [] g U Z s n = inl refl
frame_edits F (d ∷ ds) g U Z s n = go (frame_edit F g U d s.0 n) (frame_edits F ds (apply g d) (Used U d) Z s.1 n)
  where
    Good : Graph → Type 0
    Good h = (frame h n ≡ frame g n) ⊎ Born F g h n

    go : Good (apply g d)
        → (frame (foldl apply (apply g d) ds) n ≡ frame (apply g d) n) ⊎ Born F (apply g d) (foldl apply (apply g d) ds) n
        → Good (foldl apply (apply g d) ds)
    go (inl x) (inl y) = inl (y ∙ x)
    go (inl x) (inr y) = inr (sym (filled_same g (apply g d) n x) ∙ y.0, y.1, y.2)
    go (inr x) (inl y) =
        let e = arity_same (apply g d) (foldl apply (apply g d) ds) n y in
        inr (x.0, λ i l. x.1 i (subst (λ (k : ℕ). i < k) e l), rw e x.2)
    go (inr x) (inr y) = inr (x.0, y.1, y.2)

-- ---- nodes that edits leave alone

-- the edit neither makes node c nor uses one of its ports
abbrev pub Away : ℕ → Edit → Type 0
Away c (Insert n x) = n ≢ c
Away c (Copy n x) = n ≢ c
Away c (Join a b) = (a.node ≢ c) × (b.node ≢ c)
Away c (Cut a b) = (a.node ≢ c) × (b.node ≢ c)

-- so do all
abbrev pub AllAway : ℕ → List Edit → Type 0
AllAway c [] = Unit {0}
AllAway c (d ∷ ds) = Away c d × AllAway c ds

pub away_append : (c : ℕ) (ds es : List Edit) → AllAway c ds → AllAway c es → AllAway c (ds ++ es)
away_append c [] es a b = b
away_append c (d ∷ ds) es a b = (a.0, away_append c ds es a.1 b)

-- a node none of whose ports is used
pub safe_away : (F : Port → Type 0) (ds : List Edit) (g : Graph) (U Z : Port → Type 0) → Safe F g U ds Z → (c : ℕ) → filled g c ≡ true → ((r : Port) → Z r → r.node ≢ c) → AllAway c ds
safe_away F [] g U Z s c f h = tt
safe_away F (d ∷ ds) g U Z s c f h = (one d s.0 (safe_used F ds (apply g d) (Used U d) Z s.1), safe_away F ds (apply g d) (Used U d) Z s.1 c (still (frame_edit F g U d s.0 c)) h)
  where
    one : (d : Edit) → Fits F g U d → ((r : Port) → Used U d r → Z r) → Away c d
    one (Insert n x) k u = λ e. true≢false (sym f ∙ ap (filled g) (sym e) ∙ k.vacant)
    one (Copy n x) k u = absurd k
    one (Join a b) k u = (h a (u a (first refl)), h b (u b (second refl)))
    one (Cut a b) k u = (h a (u a (first refl)), h b (u b (second refl)))

    still : (frame (apply g d) c ≡ frame g c) ⊎ Born F g (apply g d) c → filled (apply g d) c ≡ true
    still (inl e) = filled_same g (apply g d) c e ∙ f
    still (inr b) = absurd (true≢false (sym f ∙ b.0))
