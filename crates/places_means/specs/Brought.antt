-- Which nodes have a name after a script: those that had it, if no new node brings it.
use Prim.Native.Nat.{ℕ, suc, ◌+◌, ◌-◌}
use Rattle.std.specs.Prelude.{◌≡◌, true, false, not, ◌&&◌, length}
use Rattle.std.proofs.Math.Path.{refl, subst}
use Rattle.std.proofs.Common.{sym, ap, ◌∙◌, true≢false}
use Rattle.std.proofs.Math.Decide.{ℕ_discrete}
use Rattle.std.proofs.Math.Option.{some, some-injective}
use mathlib.Core.List.{List, [], ◌∷◌, ◌++◌, map}
use Rattle.std.proofs.Math.Dec.{eqb}
use Rattle.net_file.specs.Lists.{concat_map}
use Rattle.net_file.specs.Values.{Name}
use Rattle.net_file.specs.Checks.{same_name}
use Rattle.definitions.specs.Lists.{is_some, zip_with, up_to, foldl}
use Rattle.definitions.specs.Nets.{Port, Node, Graph, port, at, filled, name_of, arity, ports}
use Rattle.definitions.specs.Scripts.{Edit, Insert, Copy, Join, Cut, Script, fill, vacate, apply, apply_script}
use Rattle.definitions.specs.Rules.{new, hang, annihilate_script, erase_script, commute_script}
use Rattle.good_laws.specs.Edits.{Numbered}
use Rattle.join_laws.specs.Ports.{frame, name_frame, name_same, filled_frame, filled_same}
use Rattle.join_laws.specs.Link.{frame_cut}
use Rattle.join_laws.proofs.Join.{frame_join}
use Rattle.script_laws.specs.Slots.{frame_fill_same, frame_fill_other, frame_vacate_same, frame_vacate_other}
use Rattle.rule_laws.specs.Places.{given_some}
use Rattle.graph_laws.specs.Nodes.{Brings, brings_append}

-- ---- a node that is there before and after a script

module _ (M : ℕ) (fresh : ℕ → ℕ) (n : ℕ) (old : (j : ℕ) → n ≡ fresh j → ⊥) where
  edits_keep : (ds : List Edit) (k : ℕ) (g : Graph) → Numbered M fresh k ds → frame (foldl apply g ds) n ≡ frame g n
  unfolding apply
  edits_keep [] k g o = refl
  edits_keep (Insert m x ∷ ds) k g o = edits_keep ds (suc k) (fill g m x) o.2 ∙ frame_fill_other g m n x (λ q. old k (q ∙ o.0))
  edits_keep (Copy m x ∷ ds) k g o = edits_keep ds (suc k) (fill g m x) o.2 ∙ frame_fill_other g m n x (λ q. old k (q ∙ o.0))
  edits_keep (Join a b ∷ ds) k g o = edits_keep ds k (apply g (Join a b)) o ∙ frame_join g a b n
  edits_keep (Cut a b ∷ ds) k g o = edits_keep ds k (apply g (Cut a b)) o ∙ frame_cut g a b n

  vacates_keep : (ms : List ℕ) (g : Graph) → filled (foldl vacate g ms) n ≡ true → frame (foldl vacate g ms) n ≡ frame g n
  vacates_keep [] g t = refl
  vacates_keep (m ∷ ms) g t = go (ℕ_discrete n m) (vacates_keep ms (vacate g m) t)
    where
      go : Dec (n ≡ m) → frame (foldl vacate (vacate g m) ms) n ≡ frame (vacate g m) n → frame (foldl vacate (vacate g m) ms) n ≡ frame g n
      go (yes e) r =
          let u : filled (vacate g m) n ≡ true = sym (filled_same (vacate g m) (foldl vacate (vacate g m) ms) n r) ∙ t in
          absurd (true≢false (sym u ∙ ap (filled (vacate g m)) e ∙ filled_frame (vacate g m) m ∙ ap is_some (frame_vacate_same g m)))
      go (no e) r = r ∙ frame_vacate_other g m n e

  -- keeps its name, where new nodes have other numbers
  pub script_keeps : (g : Graph) (s : Script) → Numbered M fresh 0 s.edits → filled (apply_script g s) n ≡ true → name_of (apply_script g s) n ≡ name_of g n
  unfolding apply_script
  script_keeps g s o t = name_same g (apply_script g s) n (vacates_keep s.dead (foldl apply g s.edits) t ∙ edits_keep s.edits 0 g o)

module _ (other : Name) where
  -- another name than this
  abbrev pub Differs : Name → ℕ → Type 0
  Differs m s = m ≡ other → ⊥

  -- node n has the name
  abbrev pub Has : Graph → ℕ → Type 0
  Has g n = (filled g n ≡ true) × (name_of g n ≡ other)

  same_frame : (g h : Graph) (n : ℕ) → frame h n ≡ frame g n → Has h n → Has g n
  same_frame g h n s a = (sym (filled_same g h n s) ∙ a.0, sym (name_same g h n s) ∙ a.1)

  filled_has : (g : Graph) (m : ℕ) (x : Node) → Differs x.name (length x.ports) → (n : ℕ) → Has (fill g m x) n → Has g n
  filled_has g m x d n a = go (ℕ_discrete n m)
    where
      go : Dec (n ≡ m) → Has g n
      go (yes e) =
          let i : name_of (fill g m x) m ≡ x.name = rw (name_frame (fill g m x) m, frame_fill_same g m x) refl in
          absurd (d (sym i ∙ ap (name_of (fill g m x)) (sym e) ∙ a.1))
      go (no e) = same_frame g (fill g m x) n (frame_fill_other g m n x e) a

  edits_have : (ds : List Edit) (g : Graph) → Brings Differs ds → (n : ℕ) → Has (foldl apply g ds) n → Has g n
  unfolding apply
  edits_have [] g b n a = a
  edits_have (Insert m x ∷ ds) g b n a = filled_has g m x b.0 n (edits_have ds (fill g m x) b.1 n a)
  edits_have (Copy m x ∷ ds) g b n a = filled_has g m x b.0 n (edits_have ds (fill g m x) b.1 n a)
  edits_have (Join p q ∷ ds) g b n a = same_frame g (apply g (Join p q)) n (frame_join g p q n) (edits_have ds (apply g (Join p q)) b n a)
  edits_have (Cut p q ∷ ds) g b n a = same_frame g (apply g (Cut p q)) n (frame_cut g p q n) (edits_have ds (apply g (Cut p q)) b n a)

  pub vacates_have : (ms : List ℕ) (g : Graph) (n : ℕ) → Has (foldl vacate g ms) n → Has g n
  vacates_have [] g n a = a
  vacates_have (m ∷ ms) g n a = go (ℕ_discrete n m) (vacates_have ms (vacate g m) n a)
    where
      go : Dec (n ≡ m) → Has (vacate g m) n → Has g n
      go (yes e) b = absurd (true≢false (sym b.0 ∙ ap (filled (vacate g m)) e ∙ filled_frame (vacate g m) m ∙ ap is_some (frame_vacate_same g m)))
      go (no e) b = same_frame g (vacate g m) n (frame_vacate_other g m n e) b

  -- after a script that does not bring it
  pub script_has : (g : Graph) (s : Script) → Brings Differs s.edits → (n : ℕ) → Has (apply_script g s) n → Has g n
  unfolding apply_script
  script_has g s b n a = edits_have s.edits g b n (vacates_have s.dead (foldl apply g s.edits) n a)

  rows_bring : (f : ℕ → List Edit) (xs : List ℕ) → ((i : ℕ) → Brings Differs (f i)) → Brings Differs (concat_map f xs)
  rows_bring f [] h = tt
  rows_bring f (x ∷ xs) h = brings_append Differs (f x) (concat_map f xs) (h x) (rows_bring f xs h)

  joins_bring : (P R : ℕ → Port) (xs : List ℕ) → Brings Differs (map (λ i. Join (P i) (R i)) xs)
  joins_bring P R [] = tt
  joins_bring P R (x ∷ xs) = joins_bring P R xs

  zip_joins : (ps qs : List Port) → Brings Differs (zip_with Join ps qs)
  zip_joins [] qs = tt
  zip_joins (p ∷ ps) [] = tt
  zip_joins (p ∷ ps) (q ∷ qs) = zip_joins ps qs

  pub annihilate_brings : (fresh : ℕ → ℕ) (g : Graph) (a b : ℕ) (s : Script) → annihilate_script fresh g a b ≡ some s → Brings Differs s.edits
  unfolding annihilate_script
  annihilate_brings fresh g a b s e =
      subst (λ (t : Script). Brings Differs t.edits)
      (given_some (same_name (name_of g a) (name_of g b) && eqb (arity g a) (arity g b)) (record { edits = zip_with Join (ports g a) (ports g b); dead = a ∷ b ∷ [] }) s e).1
      (zip_joins (ports g a) (ports g b))

  module _ (fresh : ℕ → ℕ) (g : Graph) (a b : ℕ) (da : name_of g a ≡ other → ⊥) (db : name_of g b ≡ other → ⊥) where
    pub erase_brings : (s : Script) → erase_script fresh g a b ≡ some s → Brings Differs s.edits
    unfolding erase_script hang new
    erase_brings s e =
        subst (λ (t : Script). Brings Differs t.edits)
        (given_some (eqb (arity g a) 1) (record {
          edits = Cut (port a 0) (port b 0) ∷ concat_map (λ i. hang fresh g i (new (at g a).net (name_of g a) 1) (port b (1 + i))) (up_to (arity g b - 1));
          dead = a ∷ b ∷ [];
        }) s e).1
        (rows_bring (λ i. hang fresh g i (new (at g a).net (name_of g a) 1) (port b (1 + i))) (up_to (arity g b - 1)) (λ i. (da, tt)))

    pub commute_brings : (s : Script) → commute_script fresh g a b ≡ some s → Brings Differs s.edits
    unfolding commute_script hang new
    commute_brings s e = subst (λ (t : Script). Brings Differs t.edits) (some-injective script s e) brings
      where
        m : ℕ
        m = arity g a - 1

        row : ℕ → List Edit
        row i = hang fresh g i (new (at g a).net (name_of g b) (arity g b)) (port a (1 + i))

        column : ℕ → List Edit
        column j = hang fresh g (m + j) (new (at g a).net (name_of g a) (arity g a)) (port b (1 + j)) ++ map (λ i. Join (port (fresh (m + j)) (1 + i)) (port (fresh i) (1 + j))) (up_to m)

        script : Script
        script = record { edits = Cut (port a 0) (port b 0) ∷ concat_map row (up_to m) ++ concat_map column (up_to (arity g b - 1)); dead = a ∷ b ∷ [] }

        brings : Brings Differs script.edits
        brings =
            brings_append Differs (concat_map row (up_to m)) (concat_map column (up_to (arity g b - 1))) (rows_bring row (up_to m) (λ i. (db, tt)))
            (rows_bring column (up_to (arity g b - 1)) (λ j. (da, joins_bring (λ i. port (fresh (m + j)) (1 + i)) (λ i. port (fresh i) (1 + j)) (up_to m))))
