-- A node that looks alike in two graphs, with what its ports meet: eta can act at it in one if it can in the other. And eta seen from
-- either node of a couple.
use Rattle.std.specs.Prelude.{ℕ, ◌+◌, ◌-◌, ◌<◌, ◌≡◌, refl, ◌⊎◌, true, false, List, ◌++◌}
use Rattle.std.proofs.Common.{sym, ap, ◌∙◌, inl, inr, arith, true≢false, eq-eqb, ne_eqb}
use Rattle.std.proofs.Math.Option.{Option, none, some}
use Rattle.net_file.specs.Values.{Name}
use Rattle.definitions.specs.Lists.{has}
use Rattle.definitions.specs.Nets.{Port, Graph, port, is_principal, name_of, arity, follow}
use Rattle.join_laws.specs.Ports.{Real}
use Rattle.script_laws.specs.Tidy.{WellWired}
use Rattle.rule_laws.specs.Places.{follow_real, follow_back}
use Rattle.idle_laws.specs.Able.{meets, Valued, Nils, Coupled, Able}

-- the port of the node that n stands for
abbrev pub moved : (ℕ → ℕ) → Port → Port
moved φ q = port (φ q.node) q.index

-- node a of g looks as node φ a of g₀, and so do the nodes that it meets
pub record Seen (g g₀ : Graph) (φ : ℕ → ℕ) (a : ℕ) : Type 0 where
  pub name : name_of g₀ (φ a) ≡ name_of g a
  pub size : arity g₀ (φ a) ≡ arity g a
  pub wires : (i : ℕ) → i < arity g a → follow g₀ (port (φ a) i) ≡ moved φ (follow g (port a i))
  pub names : (i : ℕ) → i < arity g a → name_of g₀ (φ (follow g (port a i)).node) ≡ name_of g (follow g (port a i)).node
  pub sizes : (i : ℕ) → i < arity g a → arity g₀ (φ (follow g (port a i)).node) ≡ arity g (follow g (port a i)).node

principal_moved : (φ : ℕ → ℕ) (q : Port) → is_principal (moved φ q) ≡ is_principal q
unfolding is_principal
principal_moved φ q = refl

module _ (g g₀ : Graph) (φ : ℕ → ℕ) where
  module _ (a : ℕ) (s : Seen g g₀ φ a) where
    low : (i : ℕ) → i < arity g₀ (φ a) - 1 → i < arity g a - 1
    low i l = let z = s.size in omega arith

    within : (i : ℕ) → i < arity g a - 1 → 1 + i < arity g a
    within i l = omega arith

    node_at : (i : ℕ) → i < arity g a - 1 → (meets g₀ (φ a) i).node ≡ φ (meets g a i).node
    node_at i l = ap (λ (q : Port). q.node) (s.wires (1 + i) (within i l))

    pub seen_principal : (i : ℕ) → i < arity g a → is_principal (follow g₀ (port (φ a) i)) ≡ is_principal (follow g (port a i))
    seen_principal i l = ap is_principal (s.wires i l) ∙ principal_moved φ (follow g (port a i))

    size_at : (i : ℕ) → i < arity g a - 1 → arity g₀ (meets g₀ (φ a) i).node ≡ arity g (meets g a i).node
    size_at i l = ap (arity g₀) (node_at i l) ∙ s.sizes (1 + i) (within i l)

    name_at : (i : ℕ) → i < arity g a - 1 → name_of g₀ (meets g₀ (φ a) i).node ≡ name_of g (meets g a i).node
    name_at i l = ap (name_of g₀) (node_at i l) ∙ s.names (1 + i) (within i l)

    valued_seen : (values : List ℕ) → Valued g values a → Valued g₀ values (φ a)
    valued_seen values v = record {
      more = let z = s.size in let m = v.more in omega arith;
      met = λ i l. seen_principal (1 + i) (within i (low i l)) ∙ v.met i (low i l);
      bare = λ i l. size_at i (low i l) ∙ v.bare i (low i l);
      value = ap (λ (n : Name). has values n.path) (name_at 0 v.more) ∙ v.value;
      alike = λ i l. name_at i (low i l) ∙ v.alike i (low i l) ∙ sym (name_at 0 v.more);
    }

  coupled_seen : (a b : ℕ) → Seen g g₀ φ a → Seen g g₀ φ b → (nils : List ℕ) → Coupled g nils a b → Coupled g₀ nils (φ a) (φ b)
  coupled_seen a b s t nils x = record {
    k = x.k;
    low = let z = s.size in let l = x.low in omega arith;
    met = seen_principal a s (1 + x.k) (within a s x.k x.low) ∙ x.met;
    before = λ i l. seen_principal a s (1 + i) (within a s i (let m = x.low in omega arith)) ∙ x.before i l;
    other = node_at a s x.k x.low ∙ ap φ x.other;
    size = s.size ∙ x.size ∙ sym t.size;
    name = s.name ∙ x.name ∙ sym t.name;
    each = λ i l. go i (low a s i l) (x.each i (low a s i l));
  }
    where
      go : (i : ℕ) → i < arity g a - 1 → (meets g a i ≡ port b (1 + i)) ⊎ Nils g nils (port a (1 + i)) (port b (1 + i))
          → (meets g₀ (φ a) i ≡ port (φ b) (1 + i)) ⊎ Nils g₀ nils (port (φ a) (1 + i)) (port (φ b) (1 + i))
      go i l (inl e) = inl (s.wires (1 + i) (within a s i l) ∙ ap (moved φ) e)
      go i l (inr n) =
          let m : i < arity g b - 1 = let z = x.size in omega arith in
          inr (record {
            first = size_at a s i l ∙ n.first;
            second = size_at b t i m ∙ n.second;
            alike = name_at a s i l ∙ n.alike ∙ sym (name_at b t i m);
            nil = ap (λ (n : Name). has nils n.path) (name_at a s i l) ∙ n.nil;
          })

  -- eta can act at the node that a stands for
  pub able_seen : (vs ns : List ℕ) (a : ℕ) (o : Option ℕ) → Seen g g₀ φ a → ((b : ℕ) → o ≡ some b → Seen g g₀ φ b) → Able g vs ns a o
      → (o₀ : Option ℕ) × Able g₀ vs ns (φ a) o₀ × ((b₀ : ℕ) → o₀ ≡ some b₀ → (b : ℕ) × (o ≡ some b) × (b₀ ≡ φ b))
  able_seen vs ns a none s t x = (none, valued_seen a s (vs ++ ns) x, λ b₀ e. absurd (let z : ◌≡◌ {A = ℕ} 0 1 = cc in omega arith))
  able_seen vs ns a (some b) s t x = (some (φ b), coupled_seen a b s (t b refl) ns x, λ b₀ e. (b, refl, (let z : b₀ ≡ φ b = cc in z)))

-- ---- from the other node

principal_index : (q : Port) → q.index < 1 → is_principal q ≡ true
unfolding is_principal
principal_index q l = eq-eqb q.index 0 (omega arith)

aux_open : (n i : ℕ) → is_principal (port n (1 + i)) ≡ false
unfolding is_principal
aux_open n i = ne_eqb (1 + i) 0 (λ e. omega arith)

-- eta seen from b finds a
pub coupled_back : (g : Graph) → WellWired g → (nils : List ℕ) (a b : ℕ) → Coupled g nils a b → Coupled g nils b a
coupled_back g w nils a b x = record {
  k = x.k;
  low = let l = x.low in let z = x.size in omega arith;
  met = ap is_principal straight_at.1 ∙ aux_open a x.k;
  before = λ i l. nil_at i l (x.each i (let m = x.low in omega arith));
  other = ap (λ (q : Port). q.node) straight_at.1;
  size = sym x.size;
  name = sym x.name;
  each = λ i l. both_ways i (let z = x.size in omega arith) (x.each i (let z = x.size in omega arith));
}
  where
    -- aux port i of a faces that of b, so that of b faces that of a
    back : (i : ℕ) → i < arity g a - 1 → meets g a i ≡ port b (1 + i) → meets g b i ≡ port a (1 + i)
    back i l e = ap (follow g) (sym e) ∙ follow_back g w (port a (1 + i)) (let z : 1 + i < arity g a = omega arith in z)

    -- a node of one port is met at its principal port
    bare_principal : (p : Port) → Real g p → arity g (follow g p).node ≡ 1 → is_principal (follow g p) ≡ true
    bare_principal p r e = principal_index (follow g p) (let z = follow_real g w p r in omega arith)

    straight_at : (meets g a x.k ≡ port b (1 + x.k)) × (meets g b x.k ≡ port a (1 + x.k))
    straight_at = go (x.each x.k x.low)
      where
        go : (meets g a x.k ≡ port b (1 + x.k)) ⊎ Nils g nils (port a (1 + x.k)) (port b (1 + x.k)) → (meets g a x.k ≡ port b (1 + x.k)) × (meets g b x.k ≡ port a (1 + x.k))
        go (inl e) = (e, back x.k x.low e)
        go (inr n) = absurd (true≢false (sym (bare_principal (port a (1 + x.k)) (let l = x.low in let z : 1 + x.k < arity g a = omega arith in z) n.first) ∙ x.met))

    nil_at : (i : ℕ) → i < x.k → (meets g a i ≡ port b (1 + i)) ⊎ Nils g nils (port a (1 + i)) (port b (1 + i)) → is_principal (meets g b i) ≡ true
    nil_at i l (inl e) = absurd (true≢false (sym (x.before i l) ∙ ap is_principal e ∙ aux_open b i))
    nil_at i l (inr n) = bare_principal (port b (1 + i)) (let m = x.low in let s = x.size in let z : 1 + i < arity g b = omega arith in z) n.second

    both_ways : (i : ℕ) → i < arity g a - 1 → (meets g a i ≡ port b (1 + i)) ⊎ Nils g nils (port a (1 + i)) (port b (1 + i)) → (meets g b i ≡ port a (1 + i)) ⊎ Nils g nils (port b (1 + i)) (port a (1 + i))
    both_ways i l (inl e) = inl (back i l e)
    both_ways i l (inr n) = inr (record { first = n.second; second = n.first; alike = sym n.alike; nil = ap (λ (m : Name). has nils m.path) (sym n.alike) ∙ n.nil })
