-- What a clean node looks like while edits run: as it did before, but for holes; a graft's copy as the node that it copies. A node that a
-- link gives another wire is dirty, and so is a new one.
use Rattle.std.specs.Prelude.{ℕ, ◌<◌, ◌≡◌, ◌≢◌, Bool, length, get_or, set, ltb}
use Rattle.std.proofs.Math.Path.{refl, subst}
use Rattle.std.proofs.Common.{sym, ap, ◌∙◌, arith, true≢false, length-set, get_or-set_same, get_or-set_other}
use Rattle.std.proofs.Math.Decide.{ℕ_discrete}
use Rattle.std.proofs.Math.Bool.{true, false}
use Rattle.std.proofs.Math.Option.{Option, none, some}
use mathlib.Core.List.{List, [], ◌∷◌}
use Rattle.net_file.specs.Lists.{Result, ok, refuse, need, count}
use Rattle.definitions.specs.Lists.{◌>>=◌, is_some, each, or_else}
use Rattle.definitions.specs.Nets.{Port, Node, Graph, port, at, filled, name_of, arity, across, follow}
use Rattle.definitions.specs.Scripts.{Edit, Insert, Copy, Join, Cut, wire, cut, ends, join, fill, vacate}
use Rattle.definitions.specs.State.{Engine, graph_of, with_slots, with_dirty, with_mark, with_nets, with_graph, over_net, more, fewer, net_at, entries}
use Rattle.definitions.specs.Books.{loose, is_dirty, push_dirty, mark_dirty, placed, add_node, mark_ends, link, edit, tighten_net, vacated, went_dirty, remove_node, finish_edit}
use Rattle.dirty_laws.specs.Listed.{went_stale}
use Rattle.engine_laws.specs.Frame.{either, still_graph, mark_still, ends_still}
use Rattle.join_laws.specs.Ports.{Frame, no_frame, port_discrete, frame, frame_wire, arity_frame, name_frame, arity_same, name_same, net_same, filled_same, filled_frame, across_wire_same, across_wire_other, across_real}
use Rattle.join_laws.specs.Link.{frame_cut}
use Rattle.join_laws.specs.Join.{join_cases}
use Rattle.join_laws.proofs.Join.{frame_join}
use Rattle.script_laws.specs.Slots.{frame_fill_same, frame_fill_other, across_fill_same, across_fill_other, across_slots, frame_vacate_same, frame_vacate_other}
use Rattle.good_laws.specs.Good.{Good}
use Rattle.good_laws.specs.Marks.{below_slots}
use Rattle.good_laws.specs.Removed.{remove_graph, went_is}
use Rattle.good_laws.specs.Edits.{Answers}
use Rattle.reached_laws.specs.Tracks.{owned_by}
use Rattle.idle_laws.specs.Seen.{moved}

-- ---- marks

-- every node's slot has a mark
abbrev pub Sized : Engine → Type 0
Sized e = (x : ℕ) → filled (graph_of e) x ≡ true → x < length e.slots.marks

pub good_sized : (y : ℕ → ℕ) (e : Engine) → Good y e → Sized e
good_sized y e g x h =
    let o = owned_by (graph_of e) x h in
    let l = below_slots g.slotted x o.0 o.1 in
    let z = g.slotted.sized in
    omega arith

-- a mark more: what is clean was clean, and if it is a node it is not the one marked
pub mark_clean : (m : ℕ) (e : Engine) (x : ℕ) → is_dirty (mark_dirty m e) x ≡ false → (is_dirty e x ≡ false) × (filled (graph_of e) x ≡ true → x < length e.slots.marks → x ≢ m)
unfolding mark_dirty is_dirty filled more over_net with_nets push_dirty with_mark with_slots with_dirty
mark_clean m e x = go (get_or (graph_of e) m none) refl (get_or e.slots.marks m false) refl
  where
    go : (o : Option Node) → get_or (graph_of e) m none ≡ o → (t : Bool) → get_or e.slots.marks m false ≡ t
        → get_or (elim o as (λ _. Engine) [ none ↦ e | some y ↦ elim t as (λ _. Engine) [ true ↦ e | false ↦ more y.net (push_dirty m (with_mark m true e)) ] ]).slots.marks x false ≡ false
        → (get_or e.slots.marks x false ≡ false) × (is_some (get_or (graph_of e) x none) ≡ true → x < length e.slots.marks → x ≢ m)
    go none q t u h = (h, λ f l s. true≢false (sym f ∙ ap (λ (j : ℕ). is_some (get_or (graph_of e) j none)) s ∙ ap is_some q))
    go (some y) q true u h = (h, λ f l s. true≢false (sym u ∙ ap (λ (j : ℕ). get_or e.slots.marks j false) (sym s) ∙ h))
    go (some y) q false u h = (was (ℕ_discrete x m), λ f l s. true≢false (sym (get_or-set_same e.slots.marks x true false l) ∙ ap (λ (j : ℕ). get_or (set e.slots.marks j true) x false) s ∙ h))
      where
        was : Dec (x ≡ m) → get_or e.slots.marks x false ≡ false
        was (yes s) = ap (λ (j : ℕ). get_or e.slots.marks j false) s ∙ u
        was (no d) = sym (get_or-set_other e.slots.marks m x true false d) ∙ h

pub mark_length : (m : ℕ) (e : Engine) → length (mark_dirty m e).slots.marks ≡ length e.slots.marks
unfolding mark_dirty more over_net with_nets push_dirty with_mark with_slots with_dirty
mark_length m e = go (get_or (graph_of e) m none) (is_dirty e m)
  where
    go : (o : Option Node) (t : Bool)
        → length (elim o as (λ _. Engine) [ none ↦ e | some y ↦ elim t as (λ _. Engine) [ true ↦ e | false ↦ more y.net (push_dirty m (with_mark m true e)) ] ]).slots.marks ≡ length e.slots.marks
    go none t = refl
    go (some y) true = refl
    go (some y) false = length-set e.slots.marks m true

vacated_marks : (k d : ℕ) (e : Engine) → (vacated k d e).slots.marks ≡ set e.slots.marks d false
unfolding vacated over_net with_nets with_slots
vacated_marks k d e = refl

fewer_marks : (k : ℕ) (v : Engine) → (with_dirty (went_stale (is_dirty v) v.dirty) (fewer k v)).slots.marks ≡ v.slots.marks
unfolding with_dirty fewer over_net with_nets
fewer_marks k v = refl

-- x is none of the ends
abbrev Away : Option (Port × Port) → ℕ → Type 0
Away none x = Unit {0}
Away (some p) x = (x ≢ p.0.node) × (x ≢ p.1.node)

-- a node that is clean after the ends are marked was clean, and is none of them
ends_clean : (o : Option (Port × Port)) (e : Engine) (x : ℕ) → filled (graph_of e) x ≡ true → x < length e.slots.marks → is_dirty (mark_ends o e) x ≡ false → (is_dirty e x ≡ false) × Away o x
unfolding mark_ends
ends_clean none e x f l t = (t, tt)
ends_clean (some p) e x f l t =
    let u = mark_clean p.1.node (mark_dirty p.0.node e) x t in
    let v = mark_clean p.0.node e x u.0 in
    (v.0, (v.1 f l, u.1 (ap (λ (h : Graph). filled h x) (still_graph (mark_still p.0.node e)) ∙ f) (subst (λ (i : ℕ). x < i) (sym (mark_length p.0.node e)) l)))

ends_length : (o : Option (Port × Port)) (e : Engine) → length (mark_ends o e).slots.marks ≡ length e.slots.marks
unfolding mark_ends
ends_length none e = refl
ends_length (some p) e = mark_length p.1.node (mark_dirty p.0.node e) ∙ mark_length p.0.node e

-- a node goes, and its mark
remove_marks : (e : Engine) (d : ℕ) → (remove_node e d).slots.marks ≡ set e.slots.marks d false
unfolding remove_node tighten_net over_net with_nets
remove_marks e d =
    let k = (at (graph_of e) d).net in
    let v = vacated k d e in
    let e₁ : Engine = elim (is_dirty e d) as (λ _. Engine) [ true ↦ went_dirty k v | false ↦ v ] in
    let a : e₁.slots.marks ≡ set e.slots.marks d false = either (λ (x : Engine). x.slots.marks ≡ set e.slots.marks d false) (is_dirty e d) (went_dirty k v) v (went k v ∙ gone k) (gone k) in
    either (λ (x : Engine). x.slots.marks ≡ set e.slots.marks d false) (loose (net_at e₁ k).list) (tighten_net k e₁) e₁ a a
  where
    gone : (k : ℕ) → (vacated k d e).slots.marks ≡ set e.slots.marks d false
    gone k = vacated_marks k d e

    went : (k : ℕ) (v : Engine) → (went_dirty k v).slots.marks ≡ v.slots.marks
    went k v = ap (λ (x : Engine). x.slots.marks) (went_is k v) ∙ fewer_marks k v

vacate_across : (g : Graph) (d : ℕ) (r : Port) → r.node ≢ d → across (vacate g d) r ≡ across g r
unfolding vacate
vacate_across g d r n = across_slots g (set g d none) r (get_or-set_other g d r.node none none n)

-- ---- wires that a cut or a link leaves

wire_less : (g : Graph) (p r q : Port) → across (wire g p none) r ≡ some q → across g r ≡ some q
wire_less g p r q e = go (port_discrete r p)
  where
    go : Dec (r ≡ p) → across g r ≡ some q
    go (no d) = sym (across_wire_other g p none r d) ∙ e
    go (yes s) =
        let e' : across (wire g p none) p ≡ some q = ap (across (wire g p none)) (sym s) ∙ e in
        let l : p.index < arity g p.node = subst (λ (n : ℕ). p.index < n) (arity_same g (wire g p none) p.node (frame_wire g p none p.node)) (across_real (wire g p none) p q e') in
        absurd (let x : ◌≡◌ {A = Option Port} none (some q) = sym (across_wire_same g p none l) ∙ e' in let z : ◌≡◌ {A = ℕ} 0 1 = cc in omega arith)

cut_less : (g : Graph) (a b r q : Port) → across (cut g a b) r ≡ some q → across g r ≡ some q
unfolding cut
cut_less g a b r q e = wire_less g a r q (wire_less (wire g a none) b r q e)

-- neither end is at the node
join_less : (g : Graph) (a b r q : Port) → (ends g a b ≡ some (follow g a, follow g b) → (r.node ≢ (follow g a).node) × (r.node ≢ (follow g b).node)) → across (join g a b) r ≡ some q → across g r ≡ some q
join_less g a b r q d = join_cases (λ h. across h r ≡ some q → across g r ≡ some q) g a b
    (λ _ _ e. cut_less g a b r q e)
    (λ s _ e.
    let n = d s in
    cut_less g a b r q
    (sym (across_wire_other (cut g a b) (follow g a) (some (follow g b)) r (λ t. n.0 (ap (λ (p : Port). p.node) t)))
    ∙ sym (across_wire_other (wire (cut g a b) (follow g a) (some (follow g b))) (follow g b) (some (follow g a)) r (λ t. n.1 (ap (λ (p : Port). p.node) t))) ∙ e))

-- ---- the mirror

-- node n is being visited; `Known` are the nodes that were there before, in e₀, and copies; φ gives what each was
module _ (e₀ : Engine) (n : ℕ) (φ : ℕ → ℕ) (Known : ℕ → Type 0) where
  -- node x of h is known, what it was is clean, and so are its wires
  pub record Near (h : Graph) (x : ℕ) : Type 0 where
    pub known : Known x
    pub clean : is_dirty e₀ (φ x) ≡ false
    pub apart : φ x ≢ n
    pub wires : (i : ℕ) (q : Port) → across h (port x i) ≡ some q → Known q.node × (across (graph_of e₀) (port (φ x) i) ≡ some (moved φ q))

  -- every clean node with a mark of its own is as it was, but for holes; nodes that are known keep name and number of ports, old ones their net
  pub record Mirror (h : Graph) (ms : List Bool) : Type 0 where
    pub near : (x : ℕ) → x ≢ n → filled h x ≡ true → x < length ms → get_or ms x false ≡ false → Near h x
    pub same : (y : ℕ) → Known y → filled h y ≡ true → (name_of h y ≡ name_of (graph_of e₀) (φ y)) × (arity h y ≡ arity (graph_of e₀) (φ y))
    pub nets : (y : ℕ) → filled (graph_of e₀) y ≡ true → filled h y ≡ true → (at h y).net ≡ (at (graph_of e₀) y).net

  abbrev pub Mirrors : Engine → Type 0
  Mirrors e = Mirror (graph_of e) e.slots.marks

  near_less : (h h' : Graph) (x : ℕ) → ((i : ℕ) (q : Port) → across h' (port x i) ≡ some q → across h (port x i) ≡ some q) → Near h x → Near h' x
  near_less h h' x f k = record { known = k.known; clean = k.clean; apart = k.apart; wires = λ i q e. k.wires i q (f i q e) }

  -- nodes that are left have the frames and no more wires than they had, and clean ones were clean
  pub mirror_less : (h h' : Graph) (ms ms' : List Bool) → Mirror h ms
      → ((x : ℕ) → filled h' x ≡ true → frame h' x ≡ frame h x)
      → length ms' ≡ length ms
      → ((x : ℕ) → filled h' x ≡ true → x < length ms → get_or ms' x false ≡ false → (get_or ms x false ≡ false) × ((i : ℕ) (q : Port) → across h' (port x i) ≡ some q → across h (port x i) ≡ some q))
      → Mirror h' ms'
  mirror_less h h' ms ms' m f s c = record {
    near = λ x d l u t.
        let v : x < length ms = omega arith in
        let k = c x l v t in
        near_less h h' x k.1 (m.near x d (sym (filled_same h h' x (f x l)) ∙ l) v k.0);
    same = λ y k l.
        let s = m.same y k (sym (filled_same h h' y (f y l)) ∙ l) in
        (name_same h h' y (f y l) ∙ s.0, arity_same h h' y (f y l) ∙ s.1);
    nets = λ y o l. net_same h h' y (f y l) ∙ m.nets y o (sym (filled_same h h' y (f y l)) ∙ l);
  }

  -- ---- one edit

  -- a new node is not known; a copy is, and looks as what it copies
  abbrev pub Okay : Edit → Type 0
  Okay (Insert m y) = (¬ Known m) × (filled (graph_of e₀) m ≡ false)
  Okay (Copy m y) =
      Known m × (is_dirty e₀ (φ m) ≡ false) × (φ m ≢ n) × (y.name ≡ name_of (graph_of e₀) (φ m)) × (length y.ports ≡ arity (graph_of e₀) (φ m))
      × ((i : ℕ) (q : Port) → get_or y.ports i none ≡ some q → Known q.node × (across (graph_of e₀) (port (φ m) i) ≡ some (moved φ q))) × (filled (graph_of e₀) m ≡ false)
  Okay (Join a b) = Unit {0}
  Okay (Cut a b) = Unit {0}

  abbrev pub AllOkay : List Edit → Type 0
  AllOkay [] = Unit {0}
  AllOkay (d ∷ ds) = Okay d × AllOkay ds

  -- a new slot's number was vacant
  fill_nets : (h : Graph) (ms : List Bool) (m : ℕ) (y : Node) → filled (graph_of e₀) m ≡ false → Mirror h ms → (z : ℕ) → filled (graph_of e₀) z ≡ true → filled (fill h m y) z ≡ true → (at (fill h m y) z).net ≡ (at (graph_of e₀) z).net
  fill_nets h ms m y v r z o f = net_same h (fill h m y) z e ∙ r.nets z o (sym (filled_same h (fill h m y) z e) ∙ f)
    where
      e : frame (fill h m y) z ≡ frame h z
      e = frame_fill_other h m z y (λ s. true≢false (sym o ∙ ap (filled (graph_of e₀)) s ∙ v))

  insert_mirror : (h : Graph) (ms : List Bool) (m : ℕ) (y : Node) → Okay (Insert m y) → Mirror h ms → Mirror (fill h m y) (set ms m true)
  insert_mirror h ms m y k r = record { near = λ x d f l t. near x d f (let z = length-set ms m true in omega arith) t (ℕ_discrete x m); same = λ z u f. same z u f (ℕ_discrete z m); nets = fill_nets h ms m y k.1 r }
    where
      near : (x : ℕ) → x ≢ n → filled (fill h m y) x ≡ true → x < length ms → get_or (set ms m true) x false ≡ false → Dec (x ≡ m) → Near (fill h m y) x
      near x d f l t (yes s) = absurd (true≢false (sym (get_or-set_same ms m true false (omega arith)) ∙ ap (λ (j : ℕ). get_or (set ms m true) j false) (sym s) ∙ t))
      near x d f l t (no s) =
          near_less h (fill h m y) x (λ i q e. sym (across_fill_other h m y (port x i) s) ∙ e)
          (r.near x d (sym (filled_same h (fill h m y) x (frame_fill_other h m x y s)) ∙ f) l (sym (get_or-set_other ms m x true false s) ∙ t))

      same : (z : ℕ) → Known z → filled (fill h m y) z ≡ true → Dec (z ≡ m) → (name_of (fill h m y) z ≡ name_of (graph_of e₀) (φ z)) × (arity (fill h m y) z ≡ arity (graph_of e₀) (φ z))
      same z u f (yes s) = absurd (k.0 (subst Known s u))
      same z u f (no s) =
          let e = frame_fill_other h m z y s in
          let v = r.same z u (sym (filled_same h (fill h m y) z e) ∙ f) in
          (name_same h (fill h m y) z e ∙ v.0, arity_same h (fill h m y) z e ∙ v.1)

  copy_mirror : (h : Graph) (ms : List Bool) (m : ℕ) (y : Node) → Okay (Copy m y) → Mirror h ms → Mirror (fill h m y) (set ms m false)
  copy_mirror h ms m y k r = record { near = λ x d f l t. near x d f (let z = length-set ms m false in omega arith) t (ℕ_discrete x m); same = λ z u f. same z u f (ℕ_discrete z m); nets = fill_nets h ms m y k.6 r }
    where
      near : (x : ℕ) → x ≢ n → filled (fill h m y) x ≡ true → x < length ms → get_or (set ms m false) x false ≡ false → Dec (x ≡ m) → Near (fill h m y) x
      near x d f l t (yes s) = subst (Near (fill h m y)) (sym s) (record { known = k.0; clean = k.1; apart = k.2; wires = λ i q e. k.5 i q (sym (across_fill_same h m y i) ∙ e) })
      near x d f l t (no s) =
          near_less h (fill h m y) x (λ i q e. sym (across_fill_other h m y (port x i) s) ∙ e)
          (r.near x d (sym (filled_same h (fill h m y) x (frame_fill_other h m x y s)) ∙ f) l (sym (get_or-set_other ms m x false false s) ∙ t))

      same : (z : ℕ) → Known z → filled (fill h m y) z ≡ true → Dec (z ≡ m) → (name_of (fill h m y) z ≡ name_of (graph_of e₀) (φ z)) × (arity (fill h m y) z ≡ arity (graph_of e₀) (φ z))
      same z u f (yes s) = subst (λ (j : ℕ). (name_of (fill h m y) j ≡ name_of (graph_of e₀) (φ j)) × (arity (fill h m y) j ≡ arity (graph_of e₀) (φ j))) (sym s) (
        name_frame (fill h m y) m ∙ ap (λ (o : Option Frame). (or_else o no_frame).name) (frame_fill_same h m y) ∙ k.3,
        arity_frame (fill h m y) m ∙ ap (λ (o : Option Frame). (or_else o no_frame).size) (frame_fill_same h m y) ∙ k.4,
      )
      same z u f (no s) =
          let e = frame_fill_other h m z y s in
          let v = r.same z u (sym (filled_same h (fill h m y) z e) ∙ f) in
          (name_same h (fill h m y) z e ∙ v.0, arity_same h (fill h m y) z e ∙ v.1)

  join_mirror : (a b : Port) (e : Engine) → Mirrors e → Mirrors (link a b e)
  unfolding link with_graph with_slots is_dirty
  join_mirror a b e r =
      let h = graph_of e in
      let e₁ = with_graph (join h a b) e in
      subst (λ (k : Graph). Mirror k (link a b e).slots.marks) (sym (still_graph (ends_still (ends h a b) e₁)))
      (mirror_less h (join h a b) e.slots.marks (link a b e).slots.marks r (λ x f. frame_join h a b x) (ends_length (ends h a b) e₁)
      (λ x f l t.
      let c = ends_clean (ends h a b) e₁ x f l t in (
        c.0,
        λ i q. join_less h a b (port x i) q (λ s. subst (λ (o : Option (Port × Port)). Away o x) s c.1),
      )))

  cut_mirror : (a b : Port) (e : Engine) → Mirrors e → Mirrors (with_graph (cut (graph_of e) a b) e)
  unfolding with_graph with_slots
  cut_mirror a b e r =
      mirror_less (graph_of e) (cut (graph_of e) a b) e.slots.marks e.slots.marks r (λ x f. frame_cut (graph_of e) a b x) refl (λ x f l t. (t, λ i q. cut_less (graph_of e) a b (port x i) q))

  -- every edit keeps it
  edit_mirror : (d : Edit) (e : Engine) → Okay d → Mirrors e → Answers Mirrors (edit d e)
  unfolding edit add_node placed over_net with_nets with_slots more push_dirty with_dirty
  edit_mirror (Insert m y) e k r = go (ltb (count is_some (graph_of e)) e.pools.nodes) (ltb (entries e) e.pools.entries)
    where
      go : (s t : Bool) → Answers Mirrors (need s 9 (need t 10 (ok (placed true m y e))) >>= λ e'. ok (more y.net (push_dirty m e')))
      go true true = insert_mirror (graph_of e) e.slots.marks m y k r
      go true false = tt
      go false t = tt
  edit_mirror (Copy m y) e k r = go (ltb (count is_some (graph_of e)) e.pools.nodes) (ltb (entries e) e.pools.entries)
    where
      go : (s t : Bool) → Answers Mirrors (need s 9 (need t 10 (ok (placed false m y e))))
      go true true = copy_mirror (graph_of e) e.slots.marks m y k r
      go true false = tt
      go false t = tt
  edit_mirror (Join a b) e k r = join_mirror a b e r
  edit_mirror (Cut a b) e k r = cut_mirror a b e r

  -- and so do all edits of a script
  pub edits_mirror : (ds : List Edit) (e : Engine) → AllOkay ds → Mirrors e → Answers Mirrors (each edit ds e)
  edits_mirror [] e a r = r
  edits_mirror (d ∷ ds) e a r = go (edit d e) (edit_mirror d e a.0 r) (λ e' r'. edits_mirror ds e' a.1 r')
    where
      go : (r : Result Engine) → Answers Mirrors r → ((e' : Engine) → Mirrors e' → Answers Mirrors (each edit ds e')) → Answers Mirrors (r >>= λ e'. each edit ds e')
      go (ok e') m f = f e' m
      go (refuse c) m f = tt

  -- ---- removal

  remove_mirror : (e : Engine) (d : ℕ) → Mirrors e → Mirrors (remove_node e d)
  remove_mirror e d r =
      subst (λ (ms : List Bool). Mirror (graph_of (remove_node e d)) ms) (sym (remove_marks e d))
      (subst (λ (h : Graph). Mirror h (set e.slots.marks d false)) (sym (remove_graph e d))
      (mirror_less (graph_of e) (vacate (graph_of e) d) e.slots.marks (set e.slots.marks d false) r (λ x f. frame_vacate_other (graph_of e) d x (left x f)) (length-set e.slots.marks d false)
      (λ x f l t. (sym (get_or-set_other e.slots.marks d x false false (left x f)) ∙ t, λ i q h. sym (vacate_across (graph_of e) d (port x i) (left x f)) ∙ h))))
    where
      left : (x : ℕ) → filled (vacate (graph_of e) d) x ≡ true → x ≢ d
      left x f s = true≢false (sym f ∙ filled_frame (vacate (graph_of e) d) x ∙ ap (λ (j : ℕ). is_some (frame (vacate (graph_of e) d) j)) s ∙ ap is_some (frame_vacate_same (graph_of e) d))

  pub finish_mirror : (dead : List ℕ) (e : Engine) → Mirrors e → Mirrors (finish_edit dead e)
  unfolding finish_edit
  finish_mirror [] e r = r
  finish_mirror (d ∷ dead) e r = finish_mirror dead (remove_node e d) (remove_mirror e d r)
