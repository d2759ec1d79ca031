-- Names and numbers of ports: a rule's new nodes have the name of a node that was there, and as many ports as such a node, or one. So
-- what holds of every node's name and number of ports, and of one port, holds after a step.
use Rattle.std.proofs.Math.Path.{◌≡◌, refl, subst}
use Rattle.std.proofs.Common.{sym, ap, ◌∙◌, arith, true≢false, eqb-true}
use Rattle.std.specs.Prelude.{◌≢◌, Bool, not, ◌&&◌, ◌||◌, length, get_or, drop}
use Prim.Native.Nat.{ℕ, suc, ◌+◌, ◌-◌}
use Rattle.std.proofs.Math.Decide.{ℕ_discrete}
use Rattle.std.proofs.Math.Bool.{true, false}
use Rattle.std.proofs.Math.Option.{Option, none, some, some-injective}
use mathlib.Core.List.{List, [], ◌∷◌, ◌++◌, map, Memᴰ}
use Rattle.std.proofs.lemmas.List.{length-map, length-replicate}
use Rattle.std.proofs.Math.Dec.{eqb}
use Rattle.list_laws.specs.Tests.{both}
use Rattle.net_file.specs.Lists.{all, concat_map}
use Rattle.net_file.specs.Values.{Name, Rule, graft, annihilate, erase, commute, eta}
use Rattle.net_file.specs.Checks.{same_name}
use Rattle.definitions.specs.Lists.{is_some, find, place, concat, zip_with, from, up_to, has, foldl}
use Rattle.definitions.specs.Nets.{Port, Node, Graph, Home, port, is_principal, at, filled, name_of, arity, ports, aux, follow}
use Rattle.definitions.specs.Scripts.{Edit, Insert, Copy, Join, Cut, Script, fill, vacate, apply, apply_script}
use Rattle.definitions.specs.Rules.{new, hang, annihilate_script, erase_script, commute_script, straight, nil_pair, eta_cuts, eta_nils, eta_values, eta_pair, eta_met, eta_script, copy_port, copies, graft_script, interact}
use Rattle.definitions.specs.Step.{Acts, interacts, reduces, grafts, Step}
use Rattle.join_laws.specs.Ports.{frame, arity_frame, arity_same, name_frame, name_same, filled_frame, filled_same}
use Rattle.join_laws.specs.Link.{frame_cut}
use Rattle.join_laws.proofs.Join.{frame_join}
use Rattle.script_laws.specs.Slots.{frame_fill_same, frame_fill_other, frame_vacate_same, frame_vacate_other}
use Rattle.script_laws.specs.Tidy.{real_filled}
use Rattle.rule_laws.specs.Places.{given_some, meet}
use Rattle.graph_laws.specs.Rest.{Rest, holds_filled}

-- Q holds of each node's name and number of ports
abbrev pub AllNodes : (Name → ℕ → Type 0) → Graph → Type 0
AllNodes Q g = (n : ℕ) → filled g n ≡ true → Q (name_of g n) (arity g n)

-- and of each that the edits bring
abbrev pub Brings : (Name → ℕ → Type 0) → List Edit → Type 0
Brings Q [] = Unit {0}
Brings Q (Insert n x ∷ ds) = Q x.name (length x.ports) × Brings Q ds
Brings Q (Copy n x ∷ ds) = Q x.name (length x.ports) × Brings Q ds
Brings Q (Join a b ∷ ds) = Brings Q ds
Brings Q (Cut a b ∷ ds) = Brings Q ds

module _ (Q : Name → ℕ → Type 0) where
  -- ---- edits and removals

  framed : (g h : Graph) (n : ℕ) → frame h n ≡ frame g n → Q (name_of g n) (arity g n) → Q (name_of h n) (arity h n)
  framed g h n s q = rw (name_same g h n s, arity_same g h n s) q

  same_nodes : (g h : Graph) → ((n : ℕ) → frame h n ≡ frame g n) → AllNodes Q g → AllNodes Q h
  same_nodes g h s a n f = framed g h n (s n) (a n (sym (filled_same g h n (s n)) ∙ f))

  fill_nodes : (g : Graph) (m : ℕ) (x : Node) → AllNodes Q g → Q x.name (length x.ports) → AllNodes Q (fill g m x)
  fill_nodes g m x a q n f = go (ℕ_discrete n m)
    where
      go : Dec (n ≡ m) → Q (name_of (fill g m x) n) (arity (fill g m x) n)
      go (yes e) =
          subst (λ (j : ℕ). Q (name_of (fill g m x) j) (arity (fill g m x) j)) (sym e)
          (rw (name_frame (fill g m x) m, arity_frame (fill g m x) m, frame_fill_same g m x) q)
      go (no e) = let s = frame_fill_other g m n x e in framed g (fill g m x) n s (a n (sym (filled_same g (fill g m x) n s) ∙ f))

  pub edits_nodes : (ds : List Edit) (g : Graph) → AllNodes Q g → Brings Q ds → AllNodes Q (foldl apply g ds)
  unfolding apply
  edits_nodes [] g a b = a
  edits_nodes (Insert m x ∷ ds) g a b = edits_nodes ds (fill g m x) (fill_nodes g m x a b.0) b.1
  edits_nodes (Copy m x ∷ ds) g a b = edits_nodes ds (fill g m x) (fill_nodes g m x a b.0) b.1
  edits_nodes (Join p q ∷ ds) g a b = edits_nodes ds (apply g (Join p q)) (same_nodes g (apply g (Join p q)) (frame_join g p q) a) b
  edits_nodes (Cut p q ∷ ds) g a b = edits_nodes ds (apply g (Cut p q)) (same_nodes g (apply g (Cut p q)) (frame_cut g p q) a) b

  vacates_nodes : (ms : List ℕ) (g : Graph) → AllNodes Q g → AllNodes Q (foldl vacate g ms)
  vacates_nodes [] g a = a
  vacates_nodes (m ∷ ms) g a = vacates_nodes ms (vacate g m) (λ n f. go n f (ℕ_discrete n m))
    where
      go : (n : ℕ) → filled (vacate g m) n ≡ true → Dec (n ≡ m) → Q (name_of (vacate g m) n) (arity (vacate g m) n)
      go n f (yes e) =
          absurd (true≢false (sym f ∙ ap (filled (vacate g m)) e ∙ filled_frame (vacate g m) m ∙ ap is_some (frame_vacate_same g m)))
      go n f (no e) = let s = frame_vacate_other g m n e in framed g (vacate g m) n s (a n (sym (filled_same g (vacate g m) n s) ∙ f))

  pub script_nodes : (g : Graph) (s : Script) → AllNodes Q g → Brings Q s.edits → AllNodes Q (apply_script g s)
  unfolding apply_script
  script_nodes g s a b = vacates_nodes s.dead (foldl apply g s.edits) (edits_nodes s.edits g a b)

  -- ---- what scripts bring

  pub brings_append : (ds es : List Edit) → Brings Q ds → Brings Q es → Brings Q (ds ++ es)
  brings_append [] es b c = c
  brings_append (Insert n x ∷ ds) es b c = (b.0, brings_append ds es b.1 c)
  brings_append (Copy n x ∷ ds) es b c = (b.0, brings_append ds es b.1 c)
  brings_append (Join p q ∷ ds) es b c = brings_append ds es b c
  brings_append (Cut p q ∷ ds) es b c = brings_append ds es b c

  brings_rows : (f : ℕ → List Edit) (xs : List ℕ) → ((i : ℕ) → Brings Q (f i)) → Brings Q (concat_map f xs)
  brings_rows f [] h = tt
  brings_rows f (x ∷ xs) h = brings_append (f x) (concat_map f xs) (h x) (brings_rows f xs h)

  joins : (ps qs : List Port) → Brings Q (zip_with Join ps qs)
  joins [] qs = tt
  joins (p ∷ ps) [] = tt
  joins (p ∷ ps) (q ∷ qs) = joins ps qs

  cuts : (ps qs : List Port) → Brings Q (zip_with Cut ps qs)
  cuts [] qs = tt
  cuts (p ∷ ps) [] = tt
  cuts (p ∷ ps) (q ∷ qs) = cuts ps qs

  map_joins : (P R : ℕ → Port) (xs : List ℕ) → Brings Q (map (λ i. Join (P i) (R i)) xs)
  map_joins P R [] = tt
  map_joins P R (x ∷ xs) = map_joins P R xs

  module _ (one : (m : Name) (s : ℕ) → Q m s → Q m 1) (fresh : ℕ → ℕ) (g : Graph) (a : AllNodes Q g) where
    hangs : (k : ℕ) (net : ℕ) (m : Name) (s : ℕ) (p : Port) → Q m s → Brings Q (hang fresh g k (new net m s) p)
    unfolding hang new
    hangs k net m s p q = (subst (Q m) (sym (length-replicate s none)) q, tt)

    interact_brings : (r : Rule) (x y : ℕ) (s : Script) → filled g x ≡ true → filled g y ≡ true → interact r fresh g x y ≡ some s → Brings Q s.edits
    unfolding interact annihilate_script erase_script commute_script
    interact_brings (graft p lazy) x y s fx fy e = let z : ◌≡◌ {A = ℕ} 0 1 = cc in absurd (omega arith)
    interact_brings (annihilate ps) x y s fx fy e =
        subst (λ (t : Script). Brings Q t.edits)
        (given_some (same_name (name_of g x) (name_of g y) && eqb (arity g x) (arity g y)) (record { edits = zip_with Join (ports g x) (ports g y); dead = x ∷ y ∷ [] }) s e).1
        (joins (ports g x) (ports g y))
    interact_brings (erase es ns) x y s fx fy e =
        subst (λ (t : Script). Brings Q t.edits)
        (given_some (eqb (arity g x) 1) (record {
          edits = Cut (port x 0) (port y 0) ∷ concat_map (λ i. hang fresh g i (new (at g x).net (name_of g x) 1) (port y (1 + i))) (up_to (arity g y - 1));
          dead = x ∷ y ∷ [];
        }) s e).1
        (brings_rows (λ i. hang fresh g i (new (at g x).net (name_of g x) 1) (port y (1 + i))) (up_to (arity g y - 1))
        (λ i. hangs i (at g x).net (name_of g x) 1 (port y (1 + i)) (one (name_of g x) (arity g x) (a x fx))))
    interact_brings (commute xs ys) x y s fx fy e = subst (λ (t : Script). Brings Q t.edits) (some-injective script s e) brings
      where
        m : ℕ
        m = arity g x - 1

        row : ℕ → List Edit
        row i = hang fresh g i (new (at g x).net (name_of g y) (arity g y)) (port x (1 + i))

        column : ℕ → List Edit
        column j =
            hang fresh g (m + j) (new (at g x).net (name_of g x) (arity g x)) (port y (1 + j)) ++ map (λ i. Join (port (fresh (m + j)) (1 + i)) (port (fresh i) (1 + j))) (up_to m)

        script : Script
        script = record { edits = Cut (port x 0) (port y 0) ∷ concat_map row (up_to m) ++ concat_map column (up_to (arity g y - 1)); dead = x ∷ y ∷ [] }

        brings : Brings Q script.edits
        brings =
            brings_append (concat_map row (up_to m)) (concat_map column (up_to (arity g y - 1)))
            (brings_rows row (up_to m) (λ i. hangs i (at g x).net (name_of g y) (arity g y) (port x (1 + i)) (a y fy)))
            (brings_rows column (up_to (arity g y - 1))
            (λ j. brings_append (hang fresh g (m + j) (new (at g x).net (name_of g x) (arity g x)) (port y (1 + j))) (map (λ i. Join (port (fresh (m + j)) (1 + i)) (port (fresh i) (1 + j))) (up_to m))
            (hangs (m + j) (at g x).net (name_of g x) (arity g x) (port y (1 + j)) (a x fx))
            (map_joins (λ i. port (fresh (m + j)) (1 + i)) (λ i. port (fresh i) (1 + j)) (up_to m))))
    interact_brings (eta cs vs ns) x y s fx fy e = let z : ◌≡◌ {A = ℕ} 0 1 = cc in absurd (omega arith)

    -- the first of the values that an eta takes away
    values_brings : (values : List ℕ) (x : ℕ) (s : Script) (p : Port) (ps : List Port) → aux g x ≡ p ∷ ps → eta_values fresh g values x ≡ some s → Brings Q s.edits
    unfolding eta_values
    values_brings values x s p ps is h =
        let k = given_some (all (λ n. eqb (arity g n) 1) ns && has values name.path && all (λ n. same_name (name_of g n) name) ns)
        (record { edits = zip_with Cut (aux g x) met ++ hang fresh g 0 (new (at g x).net name 1) (port x 0); dead = x ∷ ns }) s h in
        let ones : all (λ n. eqb (arity g n) 1) ns ≡ true = (both (all (λ n. eqb (arity g n) 1) ns) (has values name.path)
        (both (all (λ n. eqb (arity g n) 1) ns && has values name.path) (all (λ n. same_name (name_of g n) name) ns) k.0).0).0 in
        subst (λ (t : Script). Brings Q t.edits) k.1
        (brings_append (zip_with Cut (aux g x) met) (hang fresh g 0 (new (at g x).net name 1) (port x 0)) (cuts (aux g x) met)
        (hangs 0 (at g x).net name 1 (port x 0) (value ns (follow g p).node (map (λ (q : Port). q.node) (map (follow g) ps)) (ap (λ (l : List Port). map (λ (q : Port). q.node) (map (follow g) l)) is) ones)))
      where
        met : List Port
        met = map (follow g) (aux g x)

        ns : List ℕ
        ns = map (λ (q : Port). q.node) met

        name : Name
        name = name_of g (get_or ns 0 0)

        value : (ks : List ℕ) (k : ℕ) (rest : List ℕ) → ks ≡ k ∷ rest → all (λ n. eqb (arity g n) 1) ks ≡ true → Q (name_of g (get_or ks 0 0)) 1
        value ks k rest e ones =
            let b = both (eqb (arity g k) 1) (all (λ n. eqb (arity g n) 1) rest) (subst (λ (l : List ℕ). all (λ n. eqb (arity g n) 1) l ≡ true) e ones) in
            let u = eqb-true (arity g k) 1 b.0 in
            subst (λ (l : List ℕ). Q (name_of g (get_or l 0 0)) 1) (sym e) (subst (Q (name_of g k)) u (a k (real_filled g (port k 0) (omega arith))))

    pair_brings : (nils : List ℕ) (x y : ℕ) (s : Script) → eta_pair fresh g nils x y ≡ some s → Brings Q s.edits
    unfolding eta_pair eta_cuts
    pair_brings nils x y s h =
        subst (λ (t : Script). Brings Q t.edits)
        (given_some (eqb (arity g x) (arity g y) && same_name (name_of g x) (name_of g y) && all (λ t. t) (zip_with (λ p q. straight fresh g p q || nil_pair fresh g nils p q) (aux g x) (aux g y)))
        (record {
          edits = Join (port x 0) (port y 0) ∷ concat (zip_with (eta_cuts fresh g) (aux g x) (aux g y));
          dead = x ∷ y ∷ concat (zip_with (eta_nils fresh g) (aux g x) (aux g y));
        }) s h).1
        (rows (aux g x) (aux g y))
      where
        cut_both : (p q : Port) → Brings Q (eta_cuts fresh g p q)
        cut_both p q = go (straight fresh g p q)
          where
            go : (t : Bool) → Brings Q (elim t as (λ _. List Edit) [ true ↦ Cut p q ∷ [] | false ↦ Cut p (follow g p) ∷ Cut q (follow g q) ∷ [] ])
            go true = tt
            go false = tt

        rows : (ps qs : List Port) → Brings Q (concat (zip_with (eta_cuts fresh g) ps qs))
        rows [] qs = tt
        rows (p ∷ ps) [] = tt
        rows (p ∷ ps) (q ∷ qs) = brings_append (eta_cuts fresh g p q) (concat (zip_with (eta_cuts fresh g) ps qs)) (cut_both p q) (rows ps qs)

    eta_brings : (values nils : List ℕ) (x : ℕ) (s : Script) → eta_script fresh g values nils x ≡ some s → Brings Q s.edits
    unfolding eta_script eta_met
    eta_brings values nils x s h = go (aux g x) refl h
      where
        met : (p : Port) (ps : List Port) → aux g x ≡ p ∷ ps → (o : Option Port) → eta_met fresh g values nils x o ≡ some s → Brings Q s.edits
        met p ps is none y = values_brings (values ++ nils) x s p ps is y
        met p ps is (some q) y = pair_brings nils x q.node s y

        go : (l : List Port) → aux g x ≡ l
            → elim l as (λ _. Option Script) [ [] ↦ none | p ∷ ps ↦ eta_met fresh g values nils x (find (λ q. not (is_principal q)) (map (follow g) (p ∷ ps))) ] ≡ some s → Brings Q s.edits
        go [] is k = let z : ◌≡◌ {A = ℕ} 0 1 = cc in absurd (omega arith)
        go (p ∷ ps) is k = met p ps is (find (λ q. not (is_principal q)) (map (follow g) (p ∷ ps))) k

    graft_brings : (ids : List ℕ) (free x : ℕ) → ((n : ℕ) → Memᴰ n ids → filled g n ≡ true) → Brings Q (graft_script fresh g ids free x).edits
    unfolding graft_script copies arity
    graft_brings ids free x there =
        brings_append (copies fresh g ids (at g x).net) (Join (port f 0) (port f 1) ∷ zip_with Join (map (port f) (drop 2 (up_to (arity g free)))) (ports g x))
        (copied ids 0 there) (joins (map (port f) (drop 2 (up_to (arity g free)))) (ports g x))
      where
        f : ℕ
        f = fresh (place (eqb free) ids)

        copied : (ks : List ℕ) (i : ℕ) → ((n : ℕ) → Memᴰ n ks → filled g n ≡ true)
            → Brings Q (zip_with (λ k n. Copy (fresh k) (record { net = (at g x).net; name = name_of g n; ports = map (copy_port fresh g ids) (at g n).ports })) (from i (length ks)) ks)
        copied [] i h = tt
        copied (k ∷ ks) i h = (
          subst (Q (name_of g k)) (sym (length-map (at g k).ports (copy_port fresh g ids))) (a k (h k (Memᴰ.head refl))),
          copied ks (suc i) (λ n m. h n (Memᴰ.tail m)),
        )

    acts_brings : (rules : List Rule) (homes : List Home) (path : ℕ) → Rest path homes g → (m : Option ℕ) (s : Script) → Acts rules homes g fresh m s → Brings Q s.edits
    acts_brings rules homes path r m s (interacts rule x y s' u v met e) = let z = meet g r.well.wired x y met in interact_brings rule x y s z.filled_a z.filled_b e
    acts_brings rules homes path r m s (reduces cs vs ns x s' u v w e) = eta_brings vs ns x s e
    acts_brings rules homes path r m s (grafts lazy x c k cs ids home u v w n i d nodes fits) = graft_brings ids home.free x (λ j l. holds_filled g k j (nodes.sound j l))

-- after a step too
pub step_nodes : (Q : Name → ℕ → Type 0) → ((m : Name) (s : ℕ) → Q m s → Q m 1) → (rules : List Rule) (homes : List Home) (path : ℕ) (g h : Graph)
    → Rest path homes g → Step rules homes g h → AllNodes Q g → AllNodes Q h
step_nodes Q one rules homes path g h r s a =
    subst (AllNodes Q) (sym s.done) (script_nodes Q g s.script a (acts_brings Q one s.fresh g a rules homes path r s.copied s.script s.acts))
