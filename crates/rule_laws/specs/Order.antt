-- A script's new nodes take the numbers fresh 0, fresh 1 .. in order, all in the net of the node it is tried on.
use Rattle.std.proofs.Math.Path.{◌≡◌, refl, subst}
use Rattle.std.proofs.Common.{sym, ap, ◌∙◌}
use Prim.Native.Nat.{ℕ, zero, suc, ◌+◌, ◌-◌}
use native.Mathlib.Omega.{arith}
use Rattle.std.specs.Prelude.{Bool, not, ◌&&◌, ◌||◌, get_or, drop}
use Rattle.std.proofs.Math.Bool.{true, false}
use Rattle.std.proofs.Math.Option.{Option, none, some, some-injective}
use mathlib.Core.List.{List, [], ◌∷◌, ◌++◌, map}
use Rattle.std.proofs.Math.ListN.{length}
use Rattle.std.proofs.Math.Dec.{eqb}
use Rattle.net_file.specs.Lists.{all, concat_map}
use Rattle.net_file.specs.Values.{Rule, graft, annihilate, erase, commute, eta}
use Rattle.net_file.specs.Checks.{same_name}
use Rattle.definitions.specs.Lists.{find, concat, place, zip_with, from, up_to, has}
use Rattle.definitions.specs.Nets.{Port, Node, Graph, port, same_port, is_principal, at, name_of, arity, ports, aux, follow}
use Rattle.definitions.specs.Scripts.{Edit, Insert, Copy, Join, Cut, Script}
use Rattle.definitions.specs.Rules.{new, hang, annihilate_script, erase_script, commute_script, straight, nil_pair, eta_cuts, eta_nils, eta_values, eta_pair, eta_met, eta_script, copy_port, copies, graft_script, interact}
use Rattle.rule_laws.specs.Places.{given_some}

-- the new nodes have the numbers N k, N (k + 1) .. in order, and are all in net `into`; a copy needs K
abbrev pub Ordered : Type 0 → (ℕ → ℕ) → ℕ → ℕ → List Edit → Type 0
Ordered K N into k [] = Unit {0}
Ordered K N into k (Insert n x ∷ ds) = (n ≡ N k) × (x.net ≡ into) × Ordered K N into (suc k) ds
Ordered K N into k (Copy n x ∷ ds) = (n ≡ N k) × (x.net ≡ into) × Ordered K N into (suc k) ds × K
Ordered K N into k (Join a b ∷ ds) = Ordered K N into k ds
Ordered K N into k (Cut a b ∷ ds) = Ordered K N into k ds

-- copies or not
abbrev pub InOrder : (ℕ → ℕ) → ℕ → ℕ → List Edit → Type 0
InOrder = Ordered (Unit {0})

module _ (K : Type 0) (N : ℕ → ℕ) (into : ℕ) where
  zip_joins : (k : ℕ) (ps qs : List Port) (rest : List Edit) → Ordered K N into k rest → Ordered K N into k (zip_with Join ps qs ++ rest)
  zip_joins k [] qs rest o = o
  zip_joins k (p ∷ ps) [] rest o = o
  zip_joins k (p ∷ ps) (q ∷ qs) rest o = zip_joins k ps qs rest o

  zip_cuts : (k : ℕ) (ps qs : List Port) (rest : List Edit) → Ordered K N into k rest → Ordered K N into k (zip_with Cut ps qs ++ rest)
  zip_cuts k [] qs rest o = o
  zip_cuts k (p ∷ ps) [] rest o = o
  zip_cuts k (p ∷ ps) (q ∷ qs) rest o = zip_cuts k ps qs rest o

  map_joins : (k : ℕ) (P Q : ℕ → Port) (xs : List ℕ) (rest : List Edit) → Ordered K N into k rest → Ordered K N into k (map (λ i. Join (P i) (Q i)) xs ++ rest)
  map_joins k P Q [] rest o = o
  map_joins k P Q (x ∷ xs) rest o = map_joins k P Q xs rest o

  append_nil : (k : ℕ) (ds : List Edit) → Ordered K N into k (ds ++ []) → Ordered K N into k ds
  append_nil k [] o = o
  append_nil k (Insert n x ∷ ds) o = (o.0, o.1, append_nil (suc k) ds o.2)
  append_nil k (Copy n x ∷ ds) o = (o.0, o.1, append_nil (suc k) ds o.2, o.3)
  append_nil k (Join a b ∷ ds) o = append_nil k ds o
  append_nil k (Cut a b ∷ ds) o = append_nil k ds o

  -- hung nodes
  hangs : (x : Node) (P : ℕ → Port) → x.net ≡ into → (c k : ℕ) (g : Graph) (rest : List Edit) → Ordered K N into (k + c) rest
      → Ordered K N into k (concat_map (λ i. hang N g i x (P i)) (from k c) ++ rest)
  unfolding hang
  hangs x P e zero k g rest o = subst (λ (j : ℕ). Ordered K N into j rest) (let z : k + 0 ≡ k = omega arith in z) o
  hangs x P e (suc c) k g rest o = (refl, e, hangs x P e c (suc k) g rest (subst (λ (j : ℕ). Ordered K N into j rest) (let z : k + suc c ≡ suc k + c = omega arith in z) o))

  -- commute's columns
  columns : (y : Node) (b m : ℕ) → y.net ≡ into → (c j : ℕ) (g : Graph)
      → Ordered K N into (m + j) (concat_map (λ j. hang N g (m + j) y (port b (1 + j)) ++ map (λ i. Join (port (N (m + j)) (1 + i)) (port (N i) (1 + j))) (up_to m)) (from j c))
  unfolding hang
  columns y b m e zero j g = tt
  columns y b m e (suc c) j g = (
    refl,
    e,
    split (suc (m + j)) (up_to m) (concat_map (λ j. hang N g (m + j) y (port b (1 + j)) ++ map (λ i. Join (port (N (m + j)) (1 + i)) (port (N i) (1 + j))) (up_to m)) (from (suc j) c))
        (subst (λ (k : ℕ). Ordered K N into k (concat_map (λ j. hang N g (m + j) y (port b (1 + j)) ++ map (λ i. Join (port (N (m + j)) (1 + i)) (port (N i) (1 + j))) (up_to m)) (from (suc j) c)))
        (let z : m + suc j ≡ suc (m + j) = omega arith in z) (columns y b m e c (suc j) g)),
  )
    where
      split : (k : ℕ) (xs : List ℕ) (rest : List Edit) → Ordered K N into k rest → Ordered K N into k (map (λ i. Join (port (N (m + j)) (1 + i)) (port (N i) (1 + j))) xs ++ rest)
      split k xs rest o = map_joins k (λ i. port (N (m + j)) (1 + i)) (λ i. port (N i) (1 + j)) xs rest o

  copied : K → (copy : ℕ → Node) → ((n : ℕ) → (copy n).net ≡ into) → (xs : List ℕ) (k : ℕ) (rest : List Edit) → Ordered K N into (k + length xs) rest
      → Ordered K N into k (zip_with (λ i n. Copy (N i) (copy n)) (from k (length xs)) xs ++ rest)
  copied q copy e [] k rest o = subst (λ (j : ℕ). Ordered K N into j rest) (let z : k + 0 ≡ k = omega arith in z) o
  copied q copy e (x ∷ xs) k rest o =
      (refl, e x, copied q copy e xs (suc k) rest (subst (λ (j : ℕ). Ordered K N into j rest) (let z : k + suc (length xs) ≡ suc k + length xs = omega arith in z) o), q)

module _ (K : Type 0) (fresh : ℕ → ℕ) (g : Graph) where
  pub interact_ordered : (r : Rule) (a b : ℕ) (s : Script) → interact r fresh g a b ≡ some s → Ordered K fresh (at g a).net 0 s.edits
  unfolding interact annihilate_script erase_script commute_script new
  interact_ordered (graft p lazy) a b s e = let z : ◌≡◌ {A = ℕ} 0 1 = cc in absurd (omega arith)
  interact_ordered (annihilate ps) a b s e =
      subst (λ (t : Script). Ordered K fresh (at g a).net 0 t.edits)
      (given_some (same_name (name_of g a) (name_of g b) && eqb (arity g a) (arity g b)) (record { edits = zip_with Join (ports g a) (ports g b); dead = a ∷ b ∷ [] }) s e).1
      (append_nil K fresh (at g a).net 0 (zip_with Join (ports g a) (ports g b)) (zip_joins K fresh (at g a).net 0 (ports g a) (ports g b) [] tt))
  interact_ordered (erase es ns) a b s e =
      subst (λ (t : Script). Ordered K fresh (at g a).net 0 t.edits)
      (given_some (eqb (arity g a) 1) (record {
        edits = Cut (port a 0) (port b 0) ∷ concat_map (λ i. hang fresh g i (new (at g a).net (name_of g a) 1) (port b (1 + i))) (up_to (arity g b - 1));
        dead = a ∷ b ∷ [];
      }) s e).1
      (append_nil K fresh (at g a).net 0 (concat_map (λ i. hang fresh g i (new (at g a).net (name_of g a) 1) (port b (1 + i))) (up_to (arity g b - 1)))
      (hangs K fresh (at g a).net (new (at g a).net (name_of g a) 1) (λ i. port b (1 + i)) refl (arity g b - 1) 0 g [] tt))
  interact_ordered (commute xs ys) a b s e = subst (λ (t : Script). Ordered K fresh (at g a).net 0 t.edits) (some-injective script s e) ordered
    where
      m : ℕ
      m = arity g a - 1

      cols : List Edit
      cols = concat_map (λ j. hang fresh g (m + j) (new (at g a).net (name_of g a) (arity g a)) (port b (1 + j)) ++ map (λ i. Join (port (fresh (m + j)) (1 + i)) (port (fresh i) (1 + j))) (up_to m)) (up_to (arity g b - 1))

      script : Script
      script = record {
        edits = Cut (port a 0) (port b 0) ∷ concat_map (λ i. hang fresh g i (new (at g a).net (name_of g b) (arity g b)) (port a (1 + i))) (up_to m) ++ cols;
        dead = a ∷ b ∷ [];
      }

      ordered : Ordered K fresh (at g a).net 0 script.edits
      ordered =
          hangs K fresh (at g a).net (new (at g a).net (name_of g b) (arity g b)) (λ i. port a (1 + i)) refl m 0 g cols
          (subst (λ (k : ℕ). Ordered K fresh (at g a).net k cols) (let z : m + 0 ≡ 0 + m = omega arith in z)
          (columns K fresh (at g a).net (new (at g a).net (name_of g a) (arity g a)) b m refl (arity g b - 1) 0 g))
  interact_ordered (eta cs vs ns) a b s e = let z : ◌≡◌ {A = ℕ} 0 1 = cc in absurd (omega arith)

  values_order : (values : List ℕ) (a : ℕ) (s : Script) → eta_values fresh g values a ≡ some s → Ordered K fresh (at g a).net 0 s.edits
  unfolding eta_values hang new
  values_order values a s h =
      let met = map (follow g) (aux g a) in
      let ns = map (λ (q : Port). q.node) met in
      let name = name_of g (get_or ns 0 0) in
      subst (λ (t : Script). Ordered K fresh (at g a).net 0 t.edits)
      (given_some (all (λ n. eqb (arity g n) 1) ns && has values name.path && all (λ n. same_name (name_of g n) name) ns)
      (record { edits = zip_with Cut (aux g a) met ++ hang fresh g 0 (new (at g a).net name 1) (port a 0); dead = a ∷ ns }) s h).1
      (zip_cuts K fresh (at g a).net 0 (aux g a) met (Insert (fresh 0) (new (at g a).net name 1) ∷ Join (port a 0) (port (fresh 0) 0) ∷ []) (refl, refl, tt))

  pair_order : (nils : List ℕ) (a b : ℕ) (s : Script) → eta_pair fresh g nils a b ≡ some s → Ordered K fresh (at g a).net 0 s.edits
  unfolding eta_pair eta_cuts
  pair_order nils a b s h =
      subst (λ (t : Script). Ordered K fresh (at g a).net 0 t.edits)
      (given_some (eqb (arity g a) (arity g b) && same_name (name_of g a) (name_of g b) && all (λ t. t) (zip_with (λ p q. straight fresh g p q || nil_pair fresh g nils p q) (aux g a) (aux g b)))
      (record {
        edits = Join (port a 0) (port b 0) ∷ concat (zip_with (eta_cuts fresh g) (aux g a) (aux g b));
        dead = a ∷ b ∷ concat (zip_with (eta_nils fresh g) (aux g a) (aux g b));
      }) s h).1
      (cuts (aux g a) (aux g b))
    where
      cuts : (ps qs : List Port) → Ordered K fresh (at g a).net 0 (concat (zip_with (eta_cuts fresh g) ps qs))
      cuts [] qs = tt
      cuts (p ∷ ps) [] = tt
      cuts (p ∷ ps) (q ∷ qs) = go (straight fresh g p q) (cuts ps qs)
        where
          go : (t : Bool) → Ordered K fresh (at g a).net 0 (concat (zip_with (eta_cuts fresh g) ps qs))
              → Ordered K fresh (at g a).net 0 (elim t as (λ _. List Edit) [ true ↦ Cut p q ∷ [] | false ↦ Cut p (follow g p) ∷ Cut q (follow g q) ∷ [] ] ++ concat (zip_with (eta_cuts fresh g) ps qs))
          go true o = o
          go false o = o

  pub eta_ordered : (values nils : List ℕ) (a : ℕ) (s : Script) → eta_script fresh g values nils a ≡ some s → Ordered K fresh (at g a).net 0 s.edits
  unfolding eta_script eta_met
  eta_ordered values nils a s h = go (aux g a) h
    where
      met : (o : Option Port) → eta_met fresh g values nils a o ≡ some s → Ordered K fresh (at g a).net 0 s.edits
      met none y = values_order (values ++ nils) a s y
      met (some q) y = pair_order nils a q.node s y

      go : (l : List Port)
          → elim l as (λ _. Option Script) [ [] ↦ none | p ∷ ps ↦ eta_met fresh g values nils a (find (λ q. not (is_principal q)) (map (follow g) (p ∷ ps))) ] ≡ some s → Ordered K fresh (at g a).net 0 s.edits
      go [] k = let z : ◌≡◌ {A = ℕ} 0 1 = cc in absurd (omega arith)
      go (p ∷ ps) k = met (find (λ q. not (is_principal q)) (map (follow g) (p ∷ ps))) k

module _ (fresh : ℕ → ℕ) (g : Graph) where
  pub interact_order : (r : Rule) (a b : ℕ) (s : Script) → interact r fresh g a b ≡ some s → InOrder fresh (at g a).net 0 s.edits
  interact_order = interact_ordered (Unit {0}) fresh g

  pub eta_order : (values nils : List ℕ) (a : ℕ) (s : Script) → eta_script fresh g values nils a ≡ some s → InOrder fresh (at g a).net 0 s.edits
  eta_order = eta_ordered (Unit {0}) fresh g

  pub graft_order : (ids : List ℕ) (free a : ℕ) → InOrder fresh (at g a).net 0 (graft_script fresh g ids free a).edits
  unfolding graft_script copies
  graft_order ids free a =
      copied (Unit {0}) fresh (at g a).net tt (λ n. record { net = (at g a).net; name = name_of g n; ports = map (copy_port fresh g ids) (at g n).ports }) (λ n. refl) ids 0
      (Join (port f 0) (port f 1) ∷ zip_with Join (map (port f) (drop 2 (up_to (arity g free)))) (ports g a))
      (append_nil (Unit {0}) fresh (at g a).net (0 + length ids) (zip_with Join (map (port f) (drop 2 (up_to (arity g free)))) (ports g a))
      (zip_joins (Unit {0}) fresh (at g a).net (0 + length ids) (map (port f) (drop 2 (up_to (arity g free)))) (ports g a) [] tt))
    where
      f : ℕ
      f = fresh (place (eqb free) ids)
