-- What embedding trees leaves: nodes, links and wires, and how often each wire then stands in a place, in a link or on top.
use Rattle.std.specs.Prelude.{ℕ, zero, suc, ◌+◌, ◌*◌, ◌<◌, ◌≤◌, ◌≡◌, refl, Bool, true, false, List, [], ◌∷◌, ◌++◌, map, length, eqb, ltb}
use Rattle.std.proofs.Common.{arith, sym, ap, ◌∙◌, subst, append_assoc, append-nil, length-append, eqb-true, eq-eqb, ne_eqb, ltb-true, ltb-false, lt-ltb, le-ltb}
use Rattle.std.proofs.Math.Decide.{dec_lt}
use Rattle.std.proofs.Math.Option.{Option, none, some}
use Rattle.std.proofs.lemmas.Bool.{eqb-false}
use Rattle.net_file.specs.Lists.{Result, ok, refuse, bit, count, concat_map, sum}
use Rattle.net_file.specs.Values.{Name, FlatNode, Tree, wire, node, Trees, more, listed}
use Rattle.net_file.specs.Values
use Rattle.net_file.specs.Checks.{occurs, pair_wires, wires_of, wires_of_all, nodes_of, nodes_of_all}
use Rattle.conversions.specs.Links.{Links, link}
use Rattle.conversions.specs.Convert.{Made, max_wires, ◌>>=◌, each, fresh, up_or, hang, embed, embed_all, embed_link}
use Rattle.conversion_laws.specs.Accepted.{goes_on, same_ok}
use Rattle.conversion_laws.specs.Ends.{link_all}

-- 1 for a wire below a counter
abbrev pub below : ℕ → ℕ → ℕ
below n x = bit (ltb x n)

below_next : (n x : ℕ) → below (suc n) x ≡ below n x + bit (eqb x n)
below_next n x = go (ltb x n) (eqb x n) refl refl
  where
    go : (s t : Bool) → ltb x n ≡ s → eqb x n ≡ t → below (suc n) x ≡ bit s + bit t
    go true true e f = absurd (omega (arith, ltb-true x n e, eqb-true x n f))
    go true false e f = rw (lt-ltb x (suc n) (omega (arith, ltb-true x n e))) refl
    go false true e f = rw (lt-ltb x (suc n) (omega (arith, eqb-true x n f))) refl
    go false false e f = rw (le-ltb x (suc n) (above (ltb-false x n e) (eqb-false x n f))) refl
      where
        above : n ≤ x → (x ≡ n → ⊥) → suc n ≤ x
        above l m = elim (dec_lt n x) [ yes r ↦ omega arith | no r ↦ absurd (m (omega arith)) ]

-- the places of nodes
abbrev pub node_places : List FlatNode → List ℕ
node_places ns = concat_map (λ m. m.pri ∷ m.aux) ns

-- from one state to the next, with so many nodes; what stood in trees before stands in places, in links or is handed on
pub record Embeds (s s' : Made) (before after : ℕ → ℕ) (nodes : ℕ) : Type 0 where
  pub ops : List (ℕ × ℕ)
  pub added : List FlatNode
  pub more : s.wires ≤ s'.wires
  pub few : s.wires ≤ max_wires → s'.wires ≤ max_wires
  pub links : s'.links ≡ link_all s.links ops
  pub listed : s'.nodes ≡ s.nodes ++ added
  pub long : length added ≡ nodes
  pub balance : (x : ℕ) → occurs x (node_places added) + occurs x (pair_wires ops) + after x + 2 * below s.wires x ≡ before x + 2 * below s'.wires x

-- ---- lists

pub occurs_append : (x : ℕ) (xs ys : List ℕ) → occurs x (xs ++ ys) ≡ occurs x xs + occurs x ys
unfolding occurs
occurs_append x [] ys = omega arith
occurs_append x (y ∷ xs) ys = omega (arith, occurs_append x xs ys)

pub concat_append : {A B : Type 0} (f : A → List B) (xs ys : List A) → concat_map f (xs ++ ys) ≡ concat_map f xs ++ concat_map f ys
concat_append f [] ys = refl
concat_append f (x ∷ xs) ys = ap (λ zs. f x ++ zs) (concat_append f xs ys) ∙ sym (append_assoc (f x) (concat_map f xs) (concat_map f ys))

link_append : (os ps : List (ℕ × ℕ)) (l : Links) → link_all l (os ++ ps) ≡ link_all (link_all l os) ps
unfolding link_all
link_append [] ps l = refl
link_append (o ∷ os) ps l = link_append os ps (link l o.0 o.1)

-- ---- steps

-- nothing changes
stays : (s : Made) (before after : ℕ → ℕ) → ((x : ℕ) → after x ≡ before x) → Embeds s s before after 0
unfolding link_all occurs pair_wires
stays s b a e = record { ops = []; added = []; more = omega arith; few = λ h. h; links = refl; listed = sym (append-nil s.nodes); long = refl; balance = λ x. omega (arith, e x) }

-- one after another
pub then : {s t u : Made} {b a b' a' : ℕ → ℕ} {n m : ℕ} → Embeds s t b a n → Embeds t u b' a' m → Embeds s u (λ x. b x + b' x) (λ x. a x + a' x) (n + m)
unfolding pair_wires
then {s} {t} {u} e f = record {
  ops = e.ops ++ f.ops;
  added = e.added ++ f.added;
  more = omega (arith, e.more, f.more);
  few = λ h. f.few (e.few h);
  links = f.links ∙ ap (λ (l : Links). link_all l f.ops) e.links ∙ sym (link_append e.ops f.ops s.links);
  listed = f.listed ∙ ap (λ (ns : List FlatNode). ns ++ f.added) e.listed ∙ append_assoc s.nodes e.added f.added;
  long = omega (arith, length-append e.added f.added, e.long, f.long);
  balance = λ x. omega (
    arith,
    e.balance x,
    f.balance x,
    ap (occurs x) (concat_append (λ (m : FlatNode). m.pri ∷ m.aux) e.added f.added),
    occurs_append x (node_places e.added) (node_places f.added),
    ap (occurs x) (concat_append (λ (p : ℕ × ℕ). p.0 ∷ p.1 ∷ []) e.ops f.ops),
    occurs_append x (pair_wires e.ops) (pair_wires f.ops),
  );
}

-- the same, told otherwise
pub weighed : {s t : Made} {b a b' a' : ℕ → ℕ} {n : ℕ} → Embeds s t b a n → ((x : ℕ) → b x ≡ b' x) → ((x : ℕ) → a x ≡ a' x) → Embeds s t b' a' n
weighed e f g = record { ops = e.ops; added = e.added; more = e.more; few = e.few; links = e.links; listed = e.listed; long = e.long; balance = λ x. omega (arith, e.balance x, f x, g x) }

-- ---- a tree

-- the wire that a tree hangs on, and the one on its top where it hangs on none
abbrev pub given : Option ℕ → ℕ → ℕ
given none x = 0
given (some u) x = bit (eqb x u)

abbrev pub top : Option ℕ → ℕ → ℕ → ℕ
top none p x = bit (eqb x p)
top (some u) p x = 0

-- a node's principal wire: as it is given, or a new one
pub record Up (up : Option ℕ) (s : Made) (p : ℕ × Made) : Type 0 where
  pub links : p.1.links ≡ s.links
  pub nodes : p.1.nodes ≡ s.nodes
  pub more : s.wires ≤ p.1.wires
  pub few : s.wires ≤ max_wires → p.1.wires ≤ max_wires
  pub even : (x : ℕ) → bit (eqb x p.0) + top up p.0 x + 2 * below s.wires x ≡ given up x + 2 * below p.1.wires x
  pub inside : (up ≡ none) → p.0 < p.1.wires

pub up_is : (up : Option ℕ) (s : Made) (p : ℕ × Made) → up_or up s ≡ ok p → Up up s p
unfolding up_or fresh
up_is none s p e = go (ltb s.wires max_wires) refl e
  where
    go : (t : Bool) → ltb s.wires max_wires ≡ t → (elim t as (λ _. Result (ℕ × Made)) [ true ↦ ok (s.wires, record { wires = suc s.wires; links = s.links; nodes = s.nodes }) | false ↦ refuse 18 ]) ≡ ok p → Up none s p
    go true q k = subst (Up none s) (same_ok _ p k) (record {
      links = refl;
      nodes = refl;
      more = omega arith;
      few = λ h. omega (arith, ltb-true s.wires max_wires q);
      even = λ x. omega (arith, below_next s.wires x);
      inside = λ _. omega arith;
    })
    go false q k = let z : ◌≡◌ {A = ℕ} 0 1 = cc in absurd (omega arith)
up_is (some u) s p e = subst (Up (some u) s) (same_ok (u, s) p e) (record { links = refl; nodes = refl; more = omega arith; few = λ h. h; even = λ x. omega arith; inside = λ q. let z : ◌≡◌ {A = ℕ} 0 1 = cc in absurd (omega arith) })

mutual
  unfolding embed hang wires_of nodes_of link_all occurs pair_wires

  pub embedded : (t : Tree) (up : Option ℕ) (s : Made) (r : ℕ × Made) → embed t up s ≡ ok r
      → Embeds s r.1 (λ x. occurs x (wires_of t) + given up x) (top up r.0) (nodes_of t)
  embedded (wire w) none s r e = subst (λ (q : ℕ × Made). Embeds s q.1 (λ x. occurs x (w ∷ []) + 0) (top none q.0) 0) (same_ok (w, s) r e) (stays s _ _ (λ x. omega arith))
  embedded (wire w) (some u) s r e =
      subst (λ (q : ℕ × Made). Embeds s q.1 (λ x. occurs x (w ∷ []) + bit (eqb x u)) (top (some u) q.0) 0) (same_ok (w, hang (some u) w s) r e) (record {
        ops = (u, w) ∷ [];
        added = [];
        more = omega arith;
        few = λ h. h;
        links = refl;
        listed = sym (append-nil s.nodes);
        long = refl;
        balance = λ x. omega arith;
      })
  embedded (node m ts) up s r e =
      let p = goes_on (up_or up s) _ r e in
      let q = goes_on (embed_all ts _) _ r p.1.1 in
      let a = up_is up s p.0 p.1.0 in
      let b = embedded_all ts _ q.0 q.1.0 in
      subst (λ (z : ℕ × Made). Embeds s z.1 (λ x. occurs x (wires_of_all ts) + given up x) (top up z.0) (suc (nodes_of_all ts))) (same_ok _ r q.1.1) (record {
        ops = b.ops;
        added = record { name = m; pri = p.0.0; aux = q.0.0 } ∷ b.added;
        more = omega (arith, a.more, b.more);
        few = λ h. b.few (a.few h);
        links = b.links ∙ ap (λ (l : Links). link_all l b.ops) a.links;
        listed = ap (λ (ns : List FlatNode). p.0.1.nodes ++ (record { name = m; pri = p.0.0; aux = q.0.0 } ∷ ns)) b.listed ∙ ap (λ (ns : List FlatNode). ns ++ (record { name = m; pri = p.0.0; aux = q.0.0 } ∷ b.added)) a.nodes;
        long = ap suc b.long;
        balance = λ x. omega (arith, a.even x, b.balance x, occurs_append x q.0.0 (node_places b.added));
      })

  pub embedded_all : (ts : Trees) (s : Made) (r : List ℕ × Made) → embed_all ts s ≡ ok r
      → Embeds s r.1 (λ x. occurs x (wires_of_all ts)) (λ x. occurs x r.0) (nodes_of_all ts)
  embedded_all Values.none s r e = subst (λ (q : List ℕ × Made). Embeds s q.1 (λ x. occurs x []) (λ x. occurs x q.0) 0) (same_ok ([], s) r e) (stays s _ _ (λ x. refl))
  embedded_all (more t ts) s r e =
      let p = goes_on (embed t none s) _ r e in
      let q = goes_on (embed_all ts p.0.1) _ r p.1.1 in
      let a = embedded t none s p.0 p.1.0 in
      let b = embedded_all ts p.0.1 q.0 q.1.0 in
      subst (λ (z : List ℕ × Made). Embeds s z.1 (λ x. occurs x (wires_of t ++ wires_of_all ts)) (λ x. occurs x z.0) (nodes_of t + nodes_of_all ts)) (same_ok _ r q.1.1)
      (weighed (then a b) (λ x. omega (arith, occurs_append x (wires_of t) (wires_of_all ts))) (λ x. omega arith))

-- ---- links and lists of trees

-- what is handed on from one to the other counts no more
handed : {s t : Made} {n : ℕ} (b a c : ℕ → ℕ) → Embeds s t (λ x. b x + c x) (λ x. a x + c x) n → Embeds s t b a n
handed b a c e = record { ops = e.ops; added = e.added; more = e.more; few = e.few; links = e.links; listed = e.listed; long = e.long; balance = λ x. omega (arith, e.balance x) }

pub embedded_link : (l : Tree × Tree) (s : Made) (r : ℕ × Made) → embed_link l s ≡ ok r
    → Embeds s r.1 (λ x. occurs x (wires_of l.0) + occurs x (wires_of l.1)) (λ x. 0) (nodes_of l.0 + nodes_of l.1)
unfolding embed_link
embedded_link l s r e =
    let p = goes_on (embed l.0 none s) _ r e in
    let a = embedded l.0 none s p.0 p.1.0 in
    let b = embedded l.1 (some p.0.0) p.0.1 r p.1.1 in
    handed (λ x. occurs x (wires_of l.0) + occurs x (wires_of l.1)) (λ x. 0) (λ x. bit (eqb x p.0.0)) (weighed (then a b) (λ x. omega arith) (λ x. omega arith))

pub embedded_free : (ts : List Tree) (s : Made) (r : List ℕ × Made) → each (λ t u. embed t none u) ts s ≡ ok r
    → Embeds s r.1 (λ x. occurs x (concat_map wires_of ts)) (λ x. occurs x r.0) (sum (map nodes_of ts))
unfolding each occurs
embedded_free [] s r e = subst (λ (q : List ℕ × Made). Embeds s q.1 (λ x. occurs x []) (λ x. occurs x q.0) 0) (same_ok ([], s) r e) (stays s _ _ (λ x. refl))
embedded_free (t ∷ ts) s r e =
    let p = goes_on (embed t none s) _ r e in
    let q = goes_on (each (λ t u. embed t none u) ts p.0.1) _ r p.1.1 in
    let a = embedded t none s p.0 p.1.0 in
    let b = embedded_free ts p.0.1 q.0 q.1.0 in
    subst (λ (z : List ℕ × Made). Embeds s z.1 (λ x. occurs x (wires_of t ++ concat_map wires_of ts)) (λ x. occurs x z.0) (nodes_of t + sum (map nodes_of ts))) (same_ok _ r q.1.1)
    (weighed (then a b) (λ x. omega (arith, occurs_append x (wires_of t) (concat_map wires_of ts))) (λ x. omega arith))

-- the trees of links
abbrev pub link_trees : List (Tree × Tree) → List Tree
link_trees ls = concat_map (λ l. l.0 ∷ l.1 ∷ []) ls

pub embedded_links : (ls : List (Tree × Tree)) (s : Made) (r : List ℕ × Made) → each embed_link ls s ≡ ok r
    → Embeds s r.1 (λ x. occurs x (concat_map wires_of (link_trees ls))) (λ x. 0) (sum (map nodes_of (link_trees ls)))
unfolding each occurs
embedded_links [] s r e = subst (λ (q : List ℕ × Made). Embeds s q.1 (λ x. occurs x []) (λ x. 0) 0) (same_ok ([], s) r e) (stays s _ _ (λ x. refl))
embedded_links (l ∷ ls) s r e =
    let p = goes_on (embed_link l s) _ r e in
    let q = goes_on (each embed_link ls p.0.1) _ r p.1.1 in
    let a = embedded_link l s p.0 p.1.0 in
    let b = embedded_links ls p.0.1 q.0 q.1.0 in
    let n : nodes_of l.0 + nodes_of l.1 + sum (map nodes_of (link_trees ls)) ≡ nodes_of l.0 + (nodes_of l.1 + sum (map nodes_of (link_trees ls))) = omega arith in
    subst (λ (z : List ℕ × Made). Embeds s z.1 (λ x. occurs x (concat_map wires_of (link_trees (l ∷ ls)))) (λ x. 0) (sum (map nodes_of (link_trees (l ∷ ls))))) (same_ok _ r q.1.1)
    (subst (Embeds s q.0.1 (λ x. occurs x (concat_map wires_of (link_trees (l ∷ ls)))) (λ x. 0)) n
    (weighed (then a b) (λ x. omega (arith, occurs_append x (wires_of l.0) (wires_of l.1 ++ concat_map wires_of (link_trees ls)), occurs_append x (wires_of l.1) (concat_map wires_of (link_trees ls)))) (λ x. omega arith)))
