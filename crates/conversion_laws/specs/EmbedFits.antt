-- The nodes that embedding makes fit, below the counter that it leaves.
use Prim.Native.Nat.{ℕ, zero, suc, ◌+◌, ◌<◌, ◌≤◌}
use Rattle.std.proofs.Common.{arith, sym, ◌∙◌}
use Rattle.std.specs.Prelude.{◌≡◌, length}
use Rattle.std.proofs.Math.Path.{refl, ap, subst}
use Rattle.std.proofs.Math.Option.{Option, none, some}
use mathlib.Core.List.{List, [], ◌∷◌, ◌++◌, map}
use Rattle.net_file.specs.Lists.{ok, concat_map}
use Rattle.net_file.specs.Values.{FlatNode, Tree, wire, node, Trees, more, listed}
use Rattle.net_file.specs.Values
use Rattle.net_file_laws.specs.Exact.{Each}
use Rattle.net_file_laws.specs.Flat.{NodeFits}
use Rattle.net_file_laws.specs.Trees.{TreeFits, LinkFits}
use Rattle.size_laws.specs.Each.{each_append, each_more}
use Rattle.conversions.specs.Convert.{Made, each, up_or, hang, embed, embed_all, embed_link}
use Rattle.conversion_laws.specs.Accepted.{goes_on, same_ok}
use Rattle.conversion_laws.specs.Embed.{Embeds, Up, up_is, embedded, embedded_all, embedded_link, embedded_free}

module _ (paths names wires : ℕ) where
  node_more : (a b : ℕ) → a ≤ b → (m : FlatNode) → NodeFits paths names a m → NodeFits paths names b m
  node_more a b l m h = record { name = h.name; pri = omega (arith, h.pri); few = h.few; aux = each_more (λ w. w < a) (λ w. w < b) (λ w q. omega arith) m.aux h.aux }

  nodes_more : (a b : ℕ) → a ≤ b → (ns : List FlatNode) → Each (NodeFits paths names a) ns → Each (NodeFits paths names b) ns
  nodes_more a b l = each_more (NodeFits paths names a) (NodeFits paths names b) (node_more a b l)

  -- its nodes fit below its counter, which has come past the tree file's
  pub record Sound (s : Made) : Type 0 where
    pub past : wires ≤ s.wires
    pub nodes : Each (NodeFits paths names s.wires) s.nodes

  -- the wire that a tree hangs on is one
  abbrev Inside : Option ℕ → Made → Type 0
  Inside none s = Unit {0}
  Inside (some u) s = u < s.wires

  up_inside : (up : Option ℕ) (s : Made) (p : ℕ × Made) → up_or up s ≡ ok p → Inside up s → p.0 < p.1.wires
  unfolding up_or
  up_inside none s p e i = (up_is none s p e).inside refl
  up_inside (some u) s p e i = subst (λ (q : ℕ × Made). q.0 < q.1.wires) (same_ok (u, s) p e) i

  mutual
    unfolding TreeFits embed hang

    pub embed_fits : (t : Tree) (d : ℕ) (up : Option ℕ) (s : Made) (r : ℕ × Made) → TreeFits paths names wires d t → Inside up s → embed t up s ≡ ok r → Sound s → Sound r.1 × (r.0 < r.1.wires)
    embed_fits (wire w) zero none s r f i e h = subst (λ (q : ℕ × Made). Sound q.1 × (q.0 < q.1.wires)) (same_ok (w, s) r e) (h, omega (arith, h.past))
    embed_fits (wire w) zero (some u) s r f i e h = subst (λ (q : ℕ × Made). Sound q.1 × (q.0 < q.1.wires)) (same_ok (w, hang (some u) w s) r e) (record { past = h.past; nodes = h.nodes }, omega (arith, h.past))
    embed_fits (wire w) (suc d) none s r f i e h = subst (λ (q : ℕ × Made). Sound q.1 × (q.0 < q.1.wires)) (same_ok (w, s) r e) (h, omega (arith, h.past))
    embed_fits (wire w) (suc d) (some u) s r f i e h = subst (λ (q : ℕ × Made). Sound q.1 × (q.0 < q.1.wires)) (same_ok (w, hang (some u) w s) r e) (record { past = h.past; nodes = h.nodes }, omega (arith, h.past))
    embed_fits (node m ts) zero up s r f i e h = absurd f
    embed_fits (node m ts) (suc d) up s r f i e h =
        let p = goes_on (up_or up s) _ r e in
        let q = goes_on (embed_all ts _) _ r p.1.1 in
        let a = up_is up s p.0 p.1.0 in
        let c = up_inside up s p.0 p.1.0 i in
        let l = (embedded_all ts _ q.0 q.1.0).more in
        let b = embed_all_fits ts d _ q.0 f.2 q.1.0 (record { past = omega (arith, h.past, a.more); nodes = tt }) in
        let k : FlatNode = record { name = m; pri = p.0.0; aux = q.0.0 } in
        let g : NodeFits paths names q.0.1.wires k = record { name = f.0; pri = omega (arith, c, l); few = omega (arith, b.2, f.1); aux = b.1 } in
        subst (λ (z : ℕ × Made). Sound z.1 × (z.0 < z.1.wires)) (same_ok _ r q.1.1) (
          record {
            past = omega (arith, h.past, a.more, l);
            nodes = each_append (NodeFits paths names q.0.1.wires) p.0.1.nodes (k ∷ q.0.1.nodes)
                (subst (Each (NodeFits paths names q.0.1.wires)) (sym a.nodes) (nodes_more s.wires q.0.1.wires (omega (arith, a.more, l)) s.nodes h.nodes)) (g, b.0.nodes);
          },
          omega (arith, c, l),
        )

    pub embed_all_fits : (ts : Trees) (d : ℕ) (s : Made) (r : List ℕ × Made) → Each (TreeFits paths names wires d) (listed ts) → embed_all ts s ≡ ok r → Sound s
        → Sound r.1 × Each (λ w. w < r.1.wires) r.0 × (length r.0 ≡ length (listed ts))
    embed_all_fits Values.none d s r f e h = subst (λ (q : List ℕ × Made). Sound q.1 × Each (λ w. w < q.1.wires) q.0 × (length q.0 ≡ 0)) (same_ok ([], s) r e) (h, tt, refl)
    embed_all_fits (more t ts) d s r f e h =
        let p = goes_on (embed t none s) _ r e in
        let q = goes_on (embed_all ts p.0.1) _ r p.1.1 in
        let a = embed_fits t d none s p.0 f.0 tt p.1.0 h in
        let b = embed_all_fits ts d p.0.1 q.0 f.1 q.1.0 a.0 in
        let l = (embedded_all ts p.0.1 q.0 q.1.0).more in
        subst (λ (z : List ℕ × Made). Sound z.1 × Each (λ w. w < z.1.wires) z.0 × (length z.0 ≡ suc (length (listed ts)))) (same_ok _ r q.1.1)
        (b.0, (omega (arith, a.1, l), b.1), ap suc b.2)

  link_fits : (l : Tree × Tree) (s : Made) (r : ℕ × Made) → LinkFits paths names wires l → embed_link l s ≡ ok r → Sound s → Sound r.1
  unfolding embed_link
  link_fits l s r f e h =
      let p = goes_on (embed l.0 none s) _ r e in
      let a = embed_fits l.0 64 none s p.0 f.0 tt p.1.0 h in
      (embed_fits l.1 64 (some p.0.0) p.0.1 r f.1 a.1 p.1.1 a.0).0

  pub links_fit : (ls : List (Tree × Tree)) (s : Made) (r : List ℕ × Made) → Each (LinkFits paths names wires) ls → each embed_link ls s ≡ ok r → Sound s → Sound r.1
  unfolding each
  links_fit [] s r f e h = subst (λ (q : List ℕ × Made). Sound q.1) (same_ok ([], s) r e) h
  links_fit (l ∷ ls) s r f e h =
      let p = goes_on (embed_link l s) _ r e in
      let q = goes_on (each embed_link ls p.0.1) _ r p.1.1 in
      subst (λ (z : List ℕ × Made). Sound z.1) (same_ok _ r q.1.1) (links_fit ls p.0.1 q.0 f.1 q.1.0 (link_fits l s p.0 f.0 p.1.0 h))

  pub free_fits : (ts : List Tree) (s : Made) (r : List ℕ × Made) → Each (TreeFits paths names wires 64) ts → each (λ t u. embed t none u) ts s ≡ ok r → Sound s
      → Sound r.1 × Each (λ w. w < r.1.wires) r.0 × (length r.0 ≡ length ts)
  unfolding each
  free_fits [] s r f e h = subst (λ (q : List ℕ × Made). Sound q.1 × Each (λ w. w < q.1.wires) q.0 × (length q.0 ≡ 0)) (same_ok ([], s) r e) (h, tt, refl)
  free_fits (t ∷ ts) s r f e h =
      let p = goes_on (embed t none s) _ r e in
      let q = goes_on (each (λ t u. embed t none u) ts p.0.1) _ r p.1.1 in
      let a = embed_fits t 64 none s p.0 f.0 tt p.1.0 h in
      let b = free_fits ts p.0.1 q.0 f.1 q.1.0 a.0 in
      let l = (embedded_free ts p.0.1 q.0 q.1.0).more in
      subst (λ (z : List ℕ × Made). Sound z.1 × Each (λ w. w < z.1.wires) z.0 × (length z.0 ≡ suc (length ts))) (same_ok _ r q.1.1)
      (b.0, (omega (arith, a.1, l), b.1), ap suc b.2)
