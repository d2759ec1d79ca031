-- What the flat `resolve_links` makes of an accepted file is an accepted file, with the same places in the same order.
use Prim.Native.Nat.{ℕ, zero, suc, ◌+◌, ◌<◌, ◌≤◌}
use native.Mathlib.Omega.{arith}
use Rattle.std.specs.Prelude.{◌≡◌, Bool, not, ◌&&◌, ◌||◌, ◌⊎◌}
use Rattle.std.proofs.Math.Path.{refl, subst}
use Rattle.std.proofs.Common.{sym, ap, ◌∙◌}
use Rattle.std.proofs.Math.Bool.{true, false}
use Rattle.std.proofs.Math.Logic.{inl, inr}
use mathlib.Core.List.{List, [], ◌∷◌, ◌++◌, map}
use Rattle.std.proofs.Math.ListN.{length, length-map}
use Rattle.std.proofs.Math.Dec.{eqb, ltb}
use borrow.Author.Tests.{eqb-true, eq-eqb, ltb-true, lt-ltb, not-true, ne_eqb}
use Rattle.net_file.specs.Lists.{ok, all, any, distinct, ascend, concat_map}
use Rattle.net_file.specs.Values.{FlatNode, FlatNet, File}
use Rattle.net_file.specs.Checks.{flat, read, write, places, pair_wires, pairs_ordered, occurs, pair_wired, wire_wired, flat_wired}
use Rattle.net_file_laws.specs.Bytes.{Bytes}
use Rattle.net_file_laws.specs.Exact.{Each}
use Rattle.net_file_laws.specs.Flat.{PairFits, NodeFits, FlatNetFits}
use Rattle.net_file_laws.proofs.RoundTrip.{flat_write_read, flat_read_write}
use Rattle.size_laws.proofs.Files.{flat_fits}
use Rattle.list_laws.specs.Tests.{both, both_are, either}
use Rattle.list_laws.specs.Lists.{count_none}
use Rattle.conversions.specs.Links.{canonical, links_of}
use Rattle.conversions.specs.Convert.{unused, resolve_flat}
use Rattle.conversions.specs.Calls.{convert}
use Rattle.conversion_laws.specs.Back.{renumbered_node}
use Rattle.conversion_laws.specs.SameWire.{Apart, ordered_apart, clash, or_right}
use Rattle.conversion_laws.specs.Counts.{all_mapped, number_occurs, numbers_twice}
use Rattle.conversion_laws.specs.Accepted.{Keeps, KeepsAll, same_ok, result_accepted}
use Rattle.conversion_laws.specs.ToTree.{canonical_least}
use Rattle.conversion_laws.specs.Pairs.{In, all_in, all_of, first_number, pair_count_lem, second_never}

both_false : (s t : Bool) → (s || t) ≡ false → (s ≡ false) × (t ≡ false)
both_false true t e = absurd (clash (sym e))
both_false false t e = (refl, e)

-- ---- the pairs that stay

module _ (ws : List ℕ) where
  -- each of them is a pair of the net, and its first wire is in no place
  pub stays : (ps : List (ℕ × ℕ)) (p : ℕ × ℕ) → In p (unused ws ps) → In p ps × (any (eqb p.0) ws ≡ false)
  unfolding unused
  stays [] p m = absurd m
  stays (q ∷ ps) p m = go (stays ps p) (any (eqb q.0) ws) refl m
    where
      go : (In p (unused ws ps) → In p ps × (any (eqb p.0) ws ≡ false)) → (t : Bool) → any (eqb q.0) ws ≡ t
          → In p (elim t as (λ _. List (ℕ × ℕ)) [ true ↦ unused ws ps | false ↦ q ∷ unused ws ps ]) → In p (q ∷ ps) × (any (eqb p.0) ws ≡ false)
      go i true e k = let r = i k in (inr r.0, r.1)
      go i false e (inl k) = (inl k, subst (λ (r : ℕ × ℕ). any (eqb r.0) ws ≡ false) (sym k) e)
      go i false e (inr k) = let r = i k in (inr r.0, r.1)

  -- what holds of a net's pairs in a row holds of those that stay
  module _ (P : List (ℕ × ℕ) → Type 0) (less : (p : ℕ × ℕ) (ps : List (ℕ × ℕ)) → P (p ∷ ps) → P ps)
      (again : (p : ℕ × ℕ) (ps : List (ℕ × ℕ)) → P (p ∷ ps) → P (unused ws ps) → P (p ∷ unused ws ps)) (empty : P []) where
    stay : (ps : List (ℕ × ℕ)) → P ps → P (unused ws ps)
    unfolding unused
    stay [] h = empty
    stay (q ∷ ps) h = go (any (eqb q.0) ws) (stay ps (less q ps h))
      where
        go : (t : Bool) → P (unused ws ps) → P (elim t as (λ _. List (ℕ × ℕ)) [ true ↦ unused ws ps | false ↦ q ∷ unused ws ps ])
        go true r = r
        go false r = again q ps h r

  few_stay : (ps : List (ℕ × ℕ)) → length (unused ws ps) ≤ length ps
  unfolding unused
  few_stay [] = omega arith
  few_stay (q ∷ ps) = go (any (eqb q.0) ws) (few_stay ps)
    where
      go : (t : Bool) → length (unused ws ps) ≤ length ps → length {A = ℕ × ℕ} (elim t as (λ _. List (ℕ × ℕ)) [ true ↦ unused ws ps | false ↦ q ∷ unused ws ps ]) ≤ suc (length ps)
      go true r = omega arith
      go false r = omega arith

  each_stay : (F : ℕ × ℕ → Type 0) (ps : List (ℕ × ℕ)) → Each F ps → Each F (unused ws ps)
  each_stay F = stay (Each F) (λ p ps h. h.1) (λ p ps h r. (h.0, r)) tt

  all_stay : (f : ℕ × ℕ → Bool) (ps : List (ℕ × ℕ)) → all f ps ≡ true → all f (unused ws ps) ≡ true
  all_stay f = stay (λ ps. all f ps ≡ true) (λ p ps h. (both (f p) (all f ps) h).1) (λ p ps h r. both_are (f p) (all f (unused ws ps)) (both (f p) (all f ps) h).0 r) refl

  -- a wire of none of the pairs
  none_stay : (w : ℕ) (ps : List (ℕ × ℕ)) → any (eqb w) (pair_wires ps) ≡ false → any (eqb w) (pair_wires (unused ws ps)) ≡ false
  unfolding pair_wires
  none_stay w =
      stay (λ ps. any (eqb w) (pair_wires ps) ≡ false) (λ p ps h. (both_false (eqb w p.1) _ (both_false (eqb w p.0) _ h).1).1)
      (λ p ps h r. rw (both_false (eqb w p.0) _ h).0 (rw (both_false (eqb w p.1) _ (both_false (eqb w p.0) _ h).1).0 r)) refl

  distinct_stay : (ps : List (ℕ × ℕ)) → distinct eqb (pair_wires ps) ≡ true → distinct eqb (pair_wires (unused ws ps)) ≡ true
  unfolding pair_wires
  distinct_stay = stay (λ ps. distinct eqb (pair_wires ps) ≡ true) (λ p ps h. (parts p ps h).2) again refl
    where
      parts : (p : ℕ × ℕ) (ps : List (ℕ × ℕ)) → distinct eqb (pair_wires (p ∷ ps)) ≡ true
          → ((eqb p.0 p.1 || any (eqb p.0) (pair_wires ps)) ≡ false) × (any (eqb p.1) (pair_wires ps) ≡ false) × (distinct eqb (pair_wires ps) ≡ true)
      parts p ps h =
          let f = both (not (eqb p.0 p.1 || any (eqb p.0) (pair_wires ps))) (not (any (eqb p.1) (pair_wires ps)) && distinct eqb (pair_wires ps)) h in
          let g = both (not (any (eqb p.1) (pair_wires ps))) (distinct eqb (pair_wires ps)) f.1 in
          (not-true _ f.0, not-true _ g.0, g.1)

      again : (p : ℕ × ℕ) (ps : List (ℕ × ℕ)) → distinct eqb (pair_wires (p ∷ ps)) ≡ true → distinct eqb (pair_wires (unused ws ps)) ≡ true → distinct eqb (pair_wires (p ∷ unused ws ps)) ≡ true
      again p ps h r =
          let t = parts p ps h in
          let a = both_false (eqb p.0 p.1) (any (eqb p.0) (pair_wires ps)) t.0 in
          rw a.0 (rw (none_stay p.0 ps a.1) (rw (none_stay p.1 ps t.1) r))

  -- in ascending order
  ascend_after : (ps : List (ℕ × ℕ)) (x : ℕ) → ascend (x ∷ map (λ p. p.0) ps) ≡ true → ascend (x ∷ map (λ p. p.0) (unused ws ps)) ≡ true
  unfolding unused
  ascend_after [] x h = refl
  ascend_after (q ∷ ps) x h =
      let t = both (ltb x q.0) (ascend (q.0 ∷ map (λ p. p.0) ps)) h in
      go (any (eqb q.0) ws) t.0 (ascend_after ps x (skipped (map (λ p. p.0) ps) t.0 t.1)) (ascend_after ps q.0 t.1)
    where
      skipped : (ys : List ℕ) → ltb x q.0 ≡ true → ascend (q.0 ∷ ys) ≡ true → ascend (x ∷ ys) ≡ true
      skipped [] a b = refl
      skipped (y ∷ ys) a b =
          let r = both (ltb q.0 y) (ascend (y ∷ ys)) b in
          both_are (ltb x y) (ascend (y ∷ ys)) (lt-ltb x y (omega (arith, ltb-true x q.0 a, ltb-true q.0 y r.0))) r.1

      go : (t : Bool) → ltb x q.0 ≡ true → ascend (x ∷ map (λ p. p.0) (unused ws ps)) ≡ true → ascend (q.0 ∷ map (λ p. p.0) (unused ws ps)) ≡ true
          → ascend (x ∷ map (λ (p : ℕ × ℕ). p.0) (elim t as (λ _. List (ℕ × ℕ)) [ true ↦ unused ws ps | false ↦ q ∷ unused ws ps ])) ≡ true
      go true a b d = b
      go false a b d = both_are (ltb x q.0) (ascend (q.0 ∷ map (λ p. p.0) (unused ws ps))) a d

  ascend_stay : (ps : List (ℕ × ℕ)) → ascend (map (λ p. p.0) ps) ≡ true → ascend (map (λ p. p.0) (unused ws ps)) ≡ true
  ascend_stay = stay (λ ps. ascend (map (λ p. p.0) ps) ≡ true) fewer (λ p ps h r. ascend_after ps p.0 h) refl
    where
      fewer : (p : ℕ × ℕ) (ps : List (ℕ × ℕ)) → ascend (p.0 ∷ map (λ q. q.0) ps) ≡ true → ascend (map (λ q. q.0) ps) ≡ true
      fewer p [] h = refl
      fewer p (q ∷ ps) h = (both (ltb p.0 q.0) (ascend (q.0 ∷ map (λ r. r.0) ps)) h).1

  ordered_stay : (ps : List (ℕ × ℕ)) → pairs_ordered ps ≡ true → pairs_ordered (unused ws ps) ≡ true
  unfolding pairs_ordered
  ordered_stay ps h =
      let s = both (all (λ p. ltb p.0 p.1) ps && ascend (map (λ p. p.0) ps)) (distinct eqb (pair_wires ps)) h in
      let t = both (all (λ p. ltb p.0 p.1) ps) (ascend (map (λ p. p.0) ps)) s.0 in
      both_are _ (distinct eqb (pair_wires (unused ws ps))) (both_are _ (ascend (map (λ p. p.0) (unused ws ps))) (all_stay (λ p. ltb p.0 p.1) ps t.0) (ascend_stay ps t.1)) (distinct_stay ps s.1)

-- ---- its places

map_append : (c : ℕ → ℕ) (xs ys : List ℕ) → map c (xs ++ ys) ≡ map c xs ++ map c ys
map_append c [] ys = refl
map_append c (x ∷ xs) ys = ap (λ (vs : List ℕ). c x ∷ vs) (map_append c xs ys)

node_places : (c : ℕ → ℕ) (ns : List FlatNode)
    → concat_map (λ m. m.pri ∷ m.aux) (map (renumbered_node c) ns) ≡ map c (concat_map (λ m. m.pri ∷ m.aux) ns)
unfolding renumbered_node
node_places c [] = refl
node_places c (m ∷ ns) = ap (λ (vs : List ℕ). c m.pri ∷ vs) (ap (λ (vs : List ℕ). map c m.aux ++ vs) (node_places c ns) ∙ sym (map_append c m.aux (concat_map (λ k. k.pri ∷ k.aux) ns)))

-- the same places in the same order, each with its wire's number
pub resolved_places : (n : FlatNet) → places (resolve_flat n) ≡ map (canonical (links_of n.pairs)) (places n)
unfolding places resolve_flat renumbered_node
resolved_places n =
    let c = canonical (links_of n.pairs) in
    ap (λ (vs : List ℕ). map c n.free ++ vs) (node_places c n.nodes) ∙ sym (map_append c n.free (concat_map (λ m. m.pri ∷ m.aux) n.nodes))

pub resolved_pairs : (n : FlatNet) → (resolve_flat n).pairs ≡ unused (places n) n.pairs
unfolding resolve_flat
resolved_pairs n = refl

-- ---- it is well wired

none_mapped : (c : ℕ → ℕ) (x : ℕ) → ((v : ℕ) → c v ≡ x → ⊥) → (ws : List ℕ) → any (eqb x) (map c ws) ≡ false
none_mapped c x h [] = refl
none_mapped c x h (w ∷ ws) = rw (ne_eqb x (c w) (λ e. h w (sym e))) (none_mapped c x h ws)

module _ (ps : List (ℕ × ℕ)) (h : Apart ps) (ws : List ℕ) (g : all (pair_wired ws) ps ≡ true) where
  -- of a pair that stays neither wire occurs
  stays_wired : (p : ℕ × ℕ) → In p (unused ws ps) → pair_wired (map (canonical (links_of ps)) ws) p ≡ true
  unfolding pair_wired occurs
  stays_wired p m =
      let c = canonical (links_of ps) in
      let s = stays ws ps p m in
      let z : occurs p.0 ws ≡ 0 = count_none (eqb p.0) ws s.1 in
      let y : occurs p.1 ws ≡ 0 = other z (all_of (pair_wired ws) ps g p s.0) in
      let a : occurs p.0 (map c ws) ≡ 0 =
      subst (λ x. occurs x (map c ws) ≡ 0) (first_number ps h p s.0) (number_occurs ps h p.0 ws ∙ pair_count_lem ps h p s.0 ws ∙ omega (arith, z, y)) in
      let b : occurs p.1 (map c ws) ≡ 0 = count_none (eqb p.1) (map c ws) (none_mapped c p.1 (second_never ps h p s.0) ws) in
      rw a (rw b refl)
    where
      other : occurs p.0 ws ≡ 0 → pair_wired ws p ≡ true → occurs p.1 ws ≡ 0
      other z e = elim (either (eqb (occurs p.0 ws) 1 && eqb (occurs p.1 ws) 1) (eqb (occurs p.0 ws) 0 && eqb (occurs p.1 ws) 0) e) [
        | inl k ↦ absurd (omega (arith, z, eqb-true (occurs p.0 ws) 1 (both (eqb (occurs p.0 ws) 1) (eqb (occurs p.1 ws) 1) k).0))
        | inr k ↦ eqb-true (occurs p.1 ws) 0 (both (eqb (occurs p.0 ws) 0) (eqb (occurs p.1 ws) 0) k).1
      ]

pub resolved_wired : (n : FlatNet) → pairs_ordered n.pairs ≡ true → flat_wired n ≡ true → flat_wired (resolve_flat n) ≡ true
unfolding flat_wired wire_wired
resolved_wired n o h =
    let c = canonical (links_of n.pairs) in
    let a = ordered_apart n.pairs o in
    let t = both (all (pair_wired (places n)) n.pairs) (all (wire_wired (places n) n.pairs) (places n)) h in
    subst (λ ws. (all (pair_wired ws) (resolve_flat n).pairs && all (wire_wired ws (resolve_flat n).pairs) ws) ≡ true) (sym (resolved_places n))
    (both_are (all (pair_wired (map c (places n))) (resolve_flat n).pairs) (all (wire_wired (map c (places n)) (resolve_flat n).pairs) (map c (places n)))
    (subst (λ ps. all (pair_wired (map c (places n))) ps ≡ true) (sym (resolved_pairs n)) (all_in (pair_wired (map c (places n))) (unused (places n) n.pairs) (stays_wired n.pairs a (places n) t.0)))
    (all_mapped (wire_wired (map c (places n)) (resolve_flat n).pairs) c (places n)
    (λ w m. rw (eq-eqb (occurs (c w) (map c (places n))) 2 (numbers_twice n.pairs a (places n) t.0 t.1 w m)) (or_right (any (eqb (c w)) (pair_wires (resolve_flat n).pairs))))))

-- ---- it fits

module _ (paths names wires : ℕ) (c : ℕ → ℕ) (least : (w : ℕ) → c w ≤ w) where
  numbers_fit : (ws : List ℕ) → Each (λ w. w < wires) ws → Each (λ w. w < wires) (map c ws)
  numbers_fit [] h = tt
  numbers_fit (w ∷ ws) h = (omega (arith, least w, h.0), numbers_fit ws h.1)

  nodes_fit : (ns : List FlatNode) → Each (NodeFits paths names wires) ns → Each (NodeFits paths names wires) (map (renumbered_node c) ns)
  unfolding renumbered_node
  nodes_fit [] h = tt
  nodes_fit (m ∷ ns) h = (
    record {
      name = h.0.name;
      pri = omega (arith, least m.pri, h.0.pri);
      few = omega (arith, length-map m.aux c, h.0.few);
      aux = numbers_fit m.aux h.0.aux;
    },
    nodes_fit ns h.1,
  )

pub resolved_fits : (paths names : ℕ) (n : FlatNet) → FlatNetFits paths names n → FlatNetFits paths names (resolve_flat n)
unfolding resolve_flat renumbered_node
resolved_fits paths names n h =
    let c = canonical (links_of n.pairs) in
    let least = canonical_least (links_of n.pairs) in
    record {
      name = h.name;
      wires = h.wires;
      few_free = omega (arith, length-map n.free c, h.few_free);
      free = numbers_fit paths names n.wires c least n.free h.free;
      few_pairs = omega (arith, few_stay (places n) n.pairs, h.few_pairs);
      pairs = each_stay (places n) (PairFits n.wires) n.pairs h.pairs;
      few_nodes = omega (arith, length-map n.nodes (renumbered_node c), h.few_nodes);
      nodes = nodes_fit paths names n.wires c least n.nodes h.nodes;
    }

-- ---- the file

resolved_named : (n : FlatNet) → (resolve_flat n).name ≡ n.name
unfolding resolve_flat
resolved_named n = refl

resolved_nodes : (n : FlatNet) → length (resolve_flat n).nodes ≡ length n.nodes
unfolding resolve_flat
resolved_nodes n = length-map n.nodes _

resolved_keeps : KeepsAll flat FlatNetFits flat FlatNetFits (λ n. ok (resolve_flat n))
resolved_keeps paths names n h o g l m e = subst (Keeps flat FlatNetFits flat FlatNetFits paths names n) (same_ok (resolve_flat n) m e) (record {
  fits = resolved_fits paths names n h;
  nodes = omega (arith, resolved_nodes n);
  name = resolved_named n;
  ordered = subst (λ ps. pairs_ordered ps ≡ true) (sym (resolved_pairs n)) (ordered_stay (places n) n.pairs o);
  wired = resolved_wired n o g;
})

-- the result of the flat `resolve_links` is an accepted file
pub resolved_accepted : (bs : List ℕ) → Bytes bs → (x : File FlatNet) → read flat bs ≡ ok x → (y : File FlatNet) → convert (λ n. ok (resolve_flat n)) x ≡ ok y
    → read flat (write flat y) ≡ ok y
resolved_accepted bs b x e y c =
    result_accepted flat FlatNetFits flat FlatNetFits (λ n. ok (resolve_flat n)) resolved_keeps flat_fits flat_read_write bs x (flat_write_read bs b x e) y c
