-- The copied free node gives way: its ports 0 and 1 vanish, its others are joined with those of the graft node, and both are to go.
use Prim.Native.Nat.{ℕ, zero, suc, ◌+◌, ◌<◌, ◌≤◌}
use Rattle.std.specs.Prelude.{◌≡◌, ◌≢◌, true, false}
use Rattle.std.proofs.Math.Path.{refl}
use Rattle.std.proofs.Common.{subst}
use mathlib.Core.List.{List, [], ◌∷◌, map}
use native.Mathlib.Omega.{arith}
use Rattle.layout.specs.Layout.{next}
use Rattle.graph.specs.Graph as Words
use Rattle.tried.specs.declared.Tried.TheVariants.{Acted}
use Rattle.graft.specs.Graft.{give_way}
use Rattle.net_file.specs.Lists.{ok, refuse, need}
use Rattle.net_file.specs.Values.{Name}
use Rattle.definitions.specs.Lists.{◌>>=◌, each, zip_with, from, up_to}
use Rattle.definitions.specs.Nets.{Port, Graph, port, at, filled, arity}
use Rattle.definitions.specs.Scripts.{Join, join, apply}
use Rattle.definitions.specs.State.{Engine}
use Rattle.definitions.specs.Books.{link, edit}
use Rattle.script_laws.specs.Safe.{With, Safe}
use Rattle.script_laws.specs.Tidy.{WellWired, real_filled}
use Rattle.rule_laws.specs.Graft.{Ends, joins_tidy}
use Rattle.means.specs.Means.{number}
use Rattle.means.specs.Frame.{rest_trans}
use Rattle.script_means.specs.Stage.{Stage, number_next, number_principal, stage_join}
use Rattle.script_means.specs.Tries.{Came, slot_low, stage_remove}
use Rattle.names_means.specs.Kept.{Kept, kept_all}
use Rattle.names_means.specs.Links.{stage_link_names, remove_node_names}

-- port 2 + i of f with port i of a, and those after it
module _ (Named : ℕ → Name → Type 0) (x : ℕ → ℕ) (small : (k : ℕ) → x k ≤ 4294900000) (M : ℕ) (chain l : List ℕ) (k : ℕ) (F Z : Port → Type 0) (f a : ℕ) (lf : f < 4096) (la : a < 4096) where
  rows_came : (n i : ℕ) → 2 + i + n ≤ 16 → (g : Graph) (ws : List ℕ) (e : Engine) (U : Port → Type 0) → Stage Named x M chain l k g ws e
      → Safe F g U (map (λ i. Join (port f (2 + i)) (port a i)) (from i n)) Z
      → Came Named l (record { is = Acted; ws = Words.link_all ws (number (port f (2 + i))) (number (port a i)) n })
      (each edit (zip_with Join (map (port f) (from (2 + i) n)) (map (port a) (from i n))) e)
  unfolding Words.link_all edit apply
  rows_came zero i h g ws e U s t = (refl, s.means, s.dead)
  rows_came (suc n) i h g ws e U s t =
      let p = port f (2 + i) in
      let q = port a i in
      let up : suc (2 + i) ≡ 2 + suc i = omega arith in
      rw (number_next f (2 + i) lf (omega arith), number_next a i la (omega arith), up)
      (rows_came n (suc i) (omega arith) (join g p q) (Words.link ws (number p) (number q)) (link p q e) (With U p q)
      (stage_join Named x small M chain (λ j. 0) l k g ws e s U p q t.0) t.1)

  -- no name is written
  rows_names : (n i : ℕ) → 2 + i + n ≤ 16 → (g : Graph) (ws : List ℕ) (e : Engine) (U : Port → Type 0) → Stage Named x M chain l k g ws e
      → Safe F g U (map (λ i. Join (port f (2 + i)) (port a i)) (from i n)) Z → Kept ws (Words.link_all ws (number (port f (2 + i))) (number (port a i)) n)
  unfolding Words.link_all apply
  rows_names zero i h g ws e U s t = kept_all ws
  rows_names (suc n) i h g ws e U s t =
      let p = port f (2 + i) in
      let q = port a i in
      let up : suc (2 + i) ≡ 2 + suc i = omega arith in
      rw (number_next f (2 + i) lf (omega arith), number_next a i la (omega arith), up)
      (rest_trans (stage_link_names Named x M chain l k g ws e s U p q t.0)
      (rows_names n (suc i) (omega arith) (join g p q) (Words.link ws (number p) (number q)) (link p q e) (With U p q)
      (stage_join Named x small M chain (λ j. 0) l k g ws e s U p q t.0) t.1))

module _ (Named : ℕ → Name → Type 0) (x : ℕ → ℕ) (small : (k : ℕ) → x k ≤ 4294900000) (M : ℕ) (chain : List ℕ) (k : ℕ) (g : Graph) (well : WellWired g) (f a : ℕ)
    (differ : f ≢ a) (size : arity g f ≡ 2 + arity g a) (one_net : (at g f).net ≡ (at g a).net) (there : filled g a ≡ true) (ws : List ℕ) (e : Engine) (s : Stage Named x M chain [] k g ws e) where
  low : (n : ℕ) → filled g n ≡ true → n < 4096
  low n h = slot_low Named ws e s.means n (rw s.edited.nodes h)

  few : arity g f ≤ 16
  few = subst (λ (j : Graph). arity j f ≤ 16) s.edited.nodes (s.means.nodes.few f)

  lf : f < 4096
  lf = low f (real_filled g (port f 0) (omega arith))

  la : a < 4096
  la = low a there

  abbrev F : Port → Type 0
  F = Ends g well f a differ size one_net there

  -- the copied free node is to go, its own wire goes
  abbrev w1 : List ℕ
  w1 = Words.remove_node ws f

  s1 : Stage Named x M chain (f ∷ []) k g w1 e
  s1 = stage_remove Named x M chain [] k g ws e f s (omega arith)

  abbrev w2 : List ℕ
  w2 = Words.link w1 (number (port f 0)) (number (port f 1))

  abbrev e2 : Engine
  e2 = link (port f 0) (port f 1) e

  abbrev g2 : Graph
  g2 = join g (port f 0) (port f 1)

  s2 : Stage Named x M chain (f ∷ []) k g2 w2 e2
  s2 = stage_join Named x small M chain (λ j. 0) (f ∷ []) k g w1 e s1 (λ _. ⊥) (port f 0) (port f 1) (joins_tidy g well f a differ size one_net there).safe.0

  -- so is the graft node
  abbrev w3 : List ℕ
  w3 = Words.remove_node w2 a

  s3 : Stage Named x M chain (f ∷ a ∷ []) k g2 w3 e2
  s3 = stage_remove Named x M chain (f ∷ []) k g2 w2 e2 a s2 (omega arith)

  way : give_way ws f a (arity g a) ≡ Words.link_all w3 (number (port f 2)) (number (port a 0)) (arity g a)
  unfolding give_way
  way =
      let l = lf in
      let n = la in
      let first : next (number (port f 0)) ≡ number (port f 1) = omega arith in
      let second : next (number (port f 1)) ≡ number (port f 2) = omega arith in
      rw (number_principal f lf, number_principal a la, first, second) refl

  -- the script's joins
  pub give_way_came : Came Named (f ∷ a ∷ []) (record { is = Acted; ws = give_way ws f a (arity g a) })
      (each edit (Join (port f 0) (port f 1) ∷ zip_with Join (map (port f) (from 2 (arity g a))) (map (port a) (up_to (arity g a)))) e)
  unfolding edit apply
  give_way_came =
      let b = few in
      rw way (rows_came Named x small M chain (f ∷ a ∷ []) k F F f a lf la (arity g a) 0 (omega arith) g2 w3 e2 (With (λ _. ⊥) (port f 0) (port f 1)) s3 (joins_tidy g well f a differ size one_net there).safe.1)

  pub give_way_names : Kept ws (give_way ws f a (arity g a))
  unfolding apply
  give_way_names =
      let b = few in
      let safe = (joins_tidy g well f a differ size one_net there).safe in
      rw way (rest_trans (rest_trans (rest_trans (remove_node_names ws [] f s.dead (omega arith)) (stage_link_names Named x M chain (f ∷ []) k g w1 e s1 (λ _. ⊥) (port f 0) (port f 1) safe.0))
      (remove_node_names w2 (f ∷ []) a s2.dead (omega arith)))
      (rows_names Named x small M chain (f ∷ a ∷ []) k F F f a lf la (arity g a) 0 (omega arith) g2 w3 e2 (With (λ _. ⊥) (port f 0) (port f 1)) s3 safe.1))

-- joins never refuse
pub joins_refuse : (ps qs : List Port) (r : ℕ) (e : Engine) → (each edit (zip_with Join ps qs) e >>= λ e'. need false r (ok e')) ≡ refuse r
unfolding edit
joins_refuse [] qs r e = refl
joins_refuse (p ∷ ps) [] r e = refl
joins_refuse (p ∷ ps) (q ∷ qs) r e = joins_refuse ps qs r (link p q e)
