-- The invariant: where a rule can act there is a dirty node whose visit finds it, or the graft node waits. For an interaction it is the
-- first node of the pair, for eta either of the two, for a graft the graft node.
use Rattle.std.specs.Prelude.{ℕ, ◌+◌, ◌<◌, ◌≡◌, refl, ◌≢◌, ◌⊎◌, Bool, true, false, not, ◌||◌, length, get_or, eqb}
use Rattle.std.proofs.Common.{sym, ap, ◌∙◌, subst, inl, inr, arith, true≢false}
use Rattle.std.proofs.Math.Option.{Option, none, some}
use mathlib.Core.List.{List, ◌∷◌, Memᴰ}
use Rattle.net_file.specs.Values.{Name, Rule, graft, eta}
use Rattle.definitions.specs.Lists.{find, up_to}
use Rattle.definitions.specs.Nets.{Graph, Home, port, is_principal, at, filled, name_of, arity, across, follow}
use Rattle.definitions.specs.Scripts.{Script}
use Rattle.definitions.specs.Rules.{reaches, interact}
use Rattle.definitions.specs.Step.{pairs}
use Rattle.definitions.specs.State.{Wait, Engine, graph_of, homes, net_at}
use Rattle.definitions.specs.Books.{is_dirty}
use Rattle.engine_laws.specs.Frame.{Body, body}
use Rattle.join_laws.specs.Ports.{across_real}
use Rattle.script_laws.specs.Tidy.{WellWired, real_filled}
use Rattle.rule_laws.specs.Places.{Ported, follow_across, across_follow, follow_filled}
use Rattle.graph_laws.specs.Rest.{named_filled}
use Rattle.idle_laws.specs.Able.{Able, interact_able}
use Rattle.idle_laws.specs.Seen.{moved, Seen, seen_principal, able_seen}
use Rattle.idle_laws.specs.Mirror.{Sized, Near, Mirrors}

-- node a's wait
abbrev pub wait_of : Graph → ℕ → Wait
wait_of g a = record { node = a; net = (at g a).net }

-- the first net of a name
abbrev pub named : List Home → ℕ → Option ℕ
named hs c = find (λ k. eqb (get_or hs k (record { name = 0; free = 0 })).name c) (up_to (length hs))

-- of nodes, homes, rules, marks and waits; but for the nodes of `Skip`
pub record PlacedOn (Skip : ℕ → Type 0) (g : Graph) (hs : List Home) (rs : List Rule) (dirty : ℕ → Bool) (waiting : ℕ → List Wait) : Type 0 where
  pub meet : (r : Rule) (a b : ℕ) (f : ℕ → ℕ) (s : Script) → Memᴰ r rs → Memᴰ ((name_of g a).path, (name_of g b).path) (pairs r)
      → across g (port a 0) ≡ some (port b 0) → interact r f g a b ≡ some s → dirty a ≡ false → ¬ Skip a → ⊥
  pub reduce : (cs vs ns : List ℕ) (a : ℕ) (o : Option ℕ) → Memᴰ (eta cs vs ns) rs → filled g a ≡ true → Memᴰ (name_of g a).path cs
      → Able g vs ns a o → dirty a ≡ false → ¬ Skip a → ((b : ℕ) → o ≡ some b → (dirty b ≡ false) × ¬ Skip b) → ⊥
  pub wait : (lazy : Bool) (a c m : ℕ) (cs : List ℕ) → Memᴰ (graft (name_of g a).path lazy) rs → reaches g lazy a ≡ true
      → (name_of g a).children ≡ c ∷ cs → named hs c ≡ some m → dirty a ≡ false → ¬ Skip a → Memᴰ (wait_of g a) (waiting m)

-- the waits on net m
abbrev pub waits_on : Engine → ℕ → List Wait
waits_on e m = (net_at e m).awaiting

abbrev pub Placed : (ℕ → Type 0) → Engine → Type 0
Placed Skip e = PlacedOn Skip (graph_of e) (homes e) e.rules (is_dirty e) (waits_on e)

-- marks come, and waits go only where the node is marked
pub placed_more : (Skip : ℕ → Type 0) (e e' : Engine) → body e' ≡ body e → ((x : ℕ) → is_dirty e' x ≡ false → is_dirty e x ≡ false)
    → ((a m : ℕ) → filled (graph_of e) a ≡ true → is_dirty e' a ≡ false → Memᴰ (wait_of (graph_of e) a) (waits_on e m) → Memᴰ (wait_of (graph_of e) a) (waits_on e' m))
    → Placed Skip e → Placed Skip e'
placed_more Skip e e' b c w p = subst (λ (z : Body). PlacedOn Skip z.1 z.0.2 z.0.1 (is_dirty e') (waits_on e')) (sym b) (record {
  meet = λ r a b f s m i x h t. p.meet r a b f s m i x h (c a t);
  reduce = λ cs vs ns a o m f i x t k u. p.reduce cs vs ns a o m f i x (c a t) k (λ b q. let v = u b q in (c b v.0, v.1));
  wait = λ lazy a c' m cs x r ch q t k. w a m (named_filled (graph_of e) a c' cs ch) t (p.wait lazy a c' m cs x r ch q (c a t) k);
})

-- whether a graft reaches is a matter of what its principal port meets
pub reach_same : (g g₀ : Graph) (lazy : Bool) (a a₀ : ℕ) → is_principal (follow g₀ (port a₀ 0)) ≡ is_principal (follow g (port a 0)) → reaches g₀ lazy a₀ ≡ reaches g lazy a
unfolding reaches
reach_same g g₀ lazy a a₀ u = ap (λ (t : Bool). not lazy || t) u

-- ---- through the mirror

module _ (e₀ e : Engine) (n : ℕ) (φ : ℕ → ℕ) (Known : ℕ → Type 0) (mirror : Mirrors e₀ n φ Known e) (sized : Sized e) (gone : filled (graph_of e) n ≡ false)
    (well₀ : WellWired (graph_of e₀)) (well : WellWired (graph_of e)) (ported : Ported (graph_of e)) (rules_same : e.rules ≡ e₀.rules) (homes_same : homes e ≡ homes e₀) where
  abbrev g : Graph
  g = graph_of e

  abbrev g₀ : Graph
  g₀ = graph_of e₀

  there : (x : ℕ) → filled (graph_of e) x ≡ true → x ≢ n
  there x f s = true≢false (sym f ∙ ap (filled g) s ∙ gone)

  module _ (x : ℕ) (f : filled (graph_of e) x ≡ true) (c : is_dirty e x ≡ false) where
    near : Near e₀ n φ Known g x
    unfolding is_dirty
    near = mirror.near x (there x f) f (sized x f) c

    wire : (i : ℕ) → i < arity g x → across g (port x i) ≡ some (follow g (port x i))
    wire i l = follow_across g well (port x i) l

    met : (i : ℕ) → i < arity g x → (name_of g (follow g (port x i)).node ≡ name_of g₀ (φ (follow g (port x i)).node)) × (arity g (follow g (port x i)).node ≡ arity g₀ (φ (follow g (port x i)).node))
    met i l = mirror.same (follow g (port x i)).node (near.wires i (follow g (port x i)) (wire i l)).0 (follow_filled g well (port x i) l)

    pub seen : Seen g g₀ φ x
    seen = record {
      name = sym (mirror.same x near.known f).0;
      size = sym (mirror.same x near.known f).1;
      wires = λ i l. across_follow g₀ well₀ (port (φ x) i) (moved φ (follow g (port x i))) (near.wires i (follow g (port x i)) (wire i l)).1;
      names = λ i l. sym (met i l).0;
      sizes = λ i l. sym (met i l).1;
    }

  -- a known node is the one that was there before, with its wait, or what it was waits on no net
  module _ (own : (a : ℕ) → filled (graph_of e) a ≡ true → Known a → (wait_of (graph_of e) a ≡ wait_of (graph_of e₀) (φ a)) ⊎ ((m : ℕ) → ¬ Memᴰ (wait_of (graph_of e₀) (φ a)) (net_at e₀ m).awaiting))
      (kept : (m : ℕ) → (net_at e m).awaiting ≡ (net_at e₀ m).awaiting) where
    pub mirror_placed : Placed (λ x. x ≡ n) e₀ → Placed (λ x. ⊥) e
    mirror_placed p = record { meet = meet; reduce = reduce; wait = wait }
      where
        rule : (r : Rule) → Memᴰ r e.rules → Memᴰ r e₀.rules
        rule r m = subst (Memᴰ r) rules_same m

        meet : (r : Rule) (a b : ℕ) (f : ℕ → ℕ) (s : Script) → Memᴰ r e.rules → Memᴰ ((name_of (graph_of e) a).path, (name_of (graph_of e) b).path) (pairs r)
            → across (graph_of e) (port a 0) ≡ some (port b 0) → interact r f (graph_of e) a b ≡ some s → is_dirty e a ≡ false → ¬ ⊥ → ⊥
        meet r a b f s m i x h c d =
            let l = across_real g (port a 0) (port b 0) x in
            let fa = real_filled g (port a 0) l in
            let fb = real_filled g (port b 0) (across_real g (port b 0) (port a 0) (well.wired.back (port a 0) (port b 0) x)) in
            let k = near a fa c in
            let w = k.wires 0 (port b 0) x in
            let sa = mirror.same a k.known fa in
            let sb = mirror.same b w.0 fb in
            go (interact r f g₀ (φ a) (φ b)) refl k w.1 sa sb
          where
            go : (o : Option Script) → interact r f (graph_of e₀) (φ a) (φ b) ≡ o → Near e₀ n φ Known g a → across (graph_of e₀) (port (φ a) 0) ≡ some (port (φ b) 0)
                → (name_of (graph_of e) a ≡ name_of (graph_of e₀) (φ a)) × (arity (graph_of e) a ≡ arity (graph_of e₀) (φ a)) → (name_of (graph_of e) b ≡ name_of (graph_of e₀) (φ b)) × (arity (graph_of e) b ≡ arity (graph_of e₀) (φ b)) → ⊥
            go none q k w sa sb = interact_able r f f g g₀ a b (φ a) (φ b) s (sym sa.0) (sym sb.0) (sym sa.1) (sym sb.1) h q
            go (some s₀) q k w sa sb =
                p.meet r (φ a) (φ b) f s₀ (rule r m)
                (subst (λ (u : ℕ). Memᴰ (u, (name_of g₀ (φ b)).path) (pairs r)) (ap (λ (t : Name). t.path) sa.0) (subst (λ (u : ℕ). Memᴰ ((name_of g a).path, u) (pairs r)) (ap (λ (t : Name). t.path) sb.0) i))
                w q k.clean k.apart

        reduce : (cs vs ns : List ℕ) (a : ℕ) (o : Option ℕ) → Memᴰ (eta cs vs ns) e.rules → filled (graph_of e) a ≡ true → Memᴰ (name_of (graph_of e) a).path cs
            → Able (graph_of e) vs ns a o → is_dirty e a ≡ false → ¬ ⊥ → ((b : ℕ) → o ≡ some b → (is_dirty e b ≡ false) × ¬ ⊥) → ⊥
        reduce cs vs ns a o m f i x c d t =
            let sa = seen a f c in
            let k = near a f c in
            let l = ported a f in
            let y = able_seen g g₀ φ vs ns a o sa (λ b q. seen b (partner o x b q) (t b q).0) x in
            p.reduce cs vs ns (φ a) y.0 (rule (eta cs vs ns) m) (real_filled g₀ (port (φ a) 0) (let z = sa.size in omega arith))
            (subst (λ (u : Name). Memᴰ u.path cs) (sym sa.name) i) y.1 k.clean k.apart
            (λ b₀ q.
            let z = y.2 b₀ q in
            let kb = near z.0 (partner o x z.0 z.1) (t z.0 z.1).0 in
            (ap (is_dirty e₀) z.2 ∙ kb.clean, λ u. kb.apart (sym z.2 ∙ u)))
          where
            partner : (o : Option ℕ) → Able (graph_of e) vs ns a o → (b : ℕ) → o ≡ some b → filled (graph_of e) b ≡ true
            partner none v b q = absurd (let z : ◌≡◌ {A = ℕ} 0 1 = cc in omega arith)
            partner (some b') v b q =
                let w : b' ≡ b = cc in
                let l = v.low in
                ap (filled g) (sym (v.other ∙ w)) ∙ follow_filled g well (port a (1 + v.k)) (let z : 1 + v.k < arity g a = omega arith in z)

        wait : (lazy : Bool) (a c m : ℕ) (cs : List ℕ) → Memᴰ (graft (name_of (graph_of e) a).path lazy) e.rules → reaches (graph_of e) lazy a ≡ true
            → (name_of (graph_of e) a).children ≡ c ∷ cs → named (homes e) c ≡ some m → is_dirty e a ≡ false → ¬ ⊥ → Memᴰ (wait_of (graph_of e) a) (net_at e m).awaiting
        wait lazy a c m cs x r ch q k d =
            let f = named_filled g a c cs ch in
            let sa = seen a f k in
            let na = near a f k in
            let w = p.wait lazy (φ a) c m cs (subst (λ (u : Name). Memᴰ (graft u.path lazy) e₀.rules) (sym sa.name) (rule (graft (name_of g a).path lazy) x))
            (reach (seen_principal g g₀ φ a sa 0 (ported a f))) (ap (λ (u : Name). u.children) sa.name ∙ ch) (subst (λ (hs : List Home). named hs c ≡ some m) homes_same q) na.clean na.apart in
            go w (own a f na.known)
          where
            reach : is_principal (follow (graph_of e₀) (port (φ a) 0)) ≡ is_principal (follow (graph_of e) (port a 0)) → reaches (graph_of e₀) lazy (φ a) ≡ true
            reach u = reach_same (graph_of e) (graph_of e₀) lazy a (φ a) u ∙ r

            go : Memᴰ (wait_of (graph_of e₀) (φ a)) (net_at e₀ m).awaiting → (wait_of (graph_of e) a ≡ wait_of (graph_of e₀) (φ a)) ⊎ ((j : ℕ) → ¬ Memᴰ (wait_of (graph_of e₀) (φ a)) (net_at e₀ j).awaiting)
                → Memᴰ (wait_of (graph_of e) a) (net_at e m).awaiting
            go w (inl u) = subst (λ (l : List Wait). Memᴰ (wait_of g a) l) (sym (kept m)) (subst (λ (v : Wait). Memᴰ v (net_at e₀ m).awaiting) (sym u) w)
            go w (inr h) = absurd (h m w)
