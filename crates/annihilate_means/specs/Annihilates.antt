-- `annihilate` on words that mean an engine: it passes where level Engine finds no script, is refused by 14 at the same moment, and else
-- its links are the script's joins and both nodes are to go. Whether their names are the same is left to a premise.
use Prim.Native.Nat.{ℕ, zero, suc, ◌+◌, ◌<◌, ◌≤◌}
use Rattle.std.specs.Prelude.{◌≡◌, refl, Bool, true, false, ◌&&◌, eqb}
use Rattle.std.proofs.Common.{sym, ap, ◌∙◌, subst, eqb-true, arith}
use Rattle.std.proofs.Math.Option.{some}
use mathlib.Core.List.{List, [], ◌∷◌, map}
use Rattle.std.proofs.Math.ListN.{length}
use Rattle.words.specs.Choose.{pick, if_eq}
use Rattle.layout.specs.Layout.{principal}
use Rattle.graph.specs.Graph as Words
use Rattle.node_names.specs.Names.{same_name_words}
use Rattle.tried.specs.declared.Tried.TheVariants.{Passed, Acted}
use Rattle.tried.specs.Tries as Word
use Rattle.annihilate.specs.Annihilate.{alike, act, annihilate}
use Rattle.net_file.specs.Values.{Name}
use Rattle.net_file.specs.Checks.{same_name}
use Rattle.definitions.specs.Lists.{given, each, zip_with, from, up_to}
use Rattle.definitions.specs.Nets.{Port, Graph, port, name_of, arity, ports, across}
use Rattle.definitions.specs.Scripts.{Edit, Join, Script, join, apply}
use Rattle.definitions.specs.Rules.{annihilate_script}
use Rattle.definitions.specs.State.{Engine, graph_of}
use Rattle.definitions.specs.Books.{link, fresh, edit}
use Rattle.script_laws.specs.Safe.{With, Safe}
use Rattle.rule_laws.specs.Places.{zip_rows, Meet, meet}
use Rattle.rule_laws.specs.Annihilate.{joins, Ends, joins_tidy}
use Rattle.means.specs.Means.{number}
use Rattle.script_means.specs.Stage.{Stage, number_next, number_principal, stage_join}
use Rattle.script_means.specs.Tries.{Came, Tries, Between, slot_low, arity_read, unless_spent, stage_begin, stage_remove}

-- `link_all`: port i of a with that of b, and those after it
module _ (Named : ℕ → Name → Type 0) (x : ℕ → ℕ) (small : (k : ℕ) → x k ≤ 4294900000) (M : ℕ) (chain l : List ℕ) (k : ℕ) (F Z : Port → Type 0) (a b : ℕ) (la : a < 4096) (lb : b < 4096) where
  pub link_all_came : (n i : ℕ) → i + n ≤ 16 → (g : Graph) (ws : List ℕ) (e : Engine) (U : Port → Type 0) → Stage Named x M chain l k g ws e
      → Safe F g U (map (λ i. Join (port a i) (port b i)) (from i n)) Z
      → Came Named l (record { is = Acted; ws = Words.link_all ws (number (port a i)) (number (port b i)) n }) (each edit (map (λ i. Join (port a i) (port b i)) (from i n)) e)
  unfolding Words.link_all edit apply
  link_all_came zero i h g ws e U s f = (refl, s.means, s.dead)
  link_all_came (suc n) i h g ws e U s f =
      rw (number_next a i la (omega arith), number_next b i lb (omega arith))
      (link_all_came n (suc i) (omega arith) (join g (port a i) (port b i)) (Words.link ws (number (port a i)) (number (port b i))) (link (port a i) (port b i) e)
      (With U (port a i) (port b i)) (stage_join Named x small M chain (λ j. 0) l k g ws e s U (port a i) (port b i) f.0) f.1)

module _ (Named : ℕ → Name → Type 0) (file : List ℕ) (x : ℕ → ℕ) (small : (k : ℕ) → x k ≤ 4294900000) (ws : List ℕ) (e : Engine) (t : Between Named x ws e)
    (a b : ℕ) (met : across (graph_of e) (port a 0) ≡ some (port b 0)) where
  abbrev g : Graph
  g = graph_of e

  pair : Meet g a b
  pair = meet g t.wired.wired a b met

  low_a : a < 4096
  low_a = slot_low Named ws e t.means a pair.filled_a

  low_b : b < 4096
  low_b = slot_low Named ws e t.means b pair.filled_b

  -- both nodes are to go, their ports are linked
  acts : (size : arity g a ≡ arity g b) → Tries Named ws e (act ws a b (arity g a)) (some (joins g t.wired a b pair size))
  unfolding act
  acts size =
      let M = length e.nets in
      let chain = e.slots.chain in
      let w1 = Words.remove_node ws a in
      let w2 = Words.remove_node w1 b in
      let s1 : Stage Named x M chain (a ∷ []) 0 g w1 e = stage_remove Named x M chain [] 0 g ws e a (stage_begin Named x ws e t) (omega arith) in
      let s2 : Stage Named x M chain (a ∷ b ∷ []) 0 g w2 e = stage_remove Named x M chain (a ∷ []) 0 g w1 e b s1 (omega arith) in
      let few = t.means.nodes.few a in
      unless_spent Named ws e t.means t.good.stepped (a ∷ b ∷ []) (record { is = Acted; ws = Words.link_all w2 (principal a) (principal b) (arity g a) }) _
      (rw (number_principal a low_a, number_principal b low_b)
      (link_all_came Named x small M chain (a ∷ b ∷ []) 0 (Ends g t.wired a b pair size) (Ends g t.wired a b pair size) a b low_a low_b (arity g a) 0 (omega arith) g w2 e (λ _. ⊥) s2
      (joins_tidy g t.wired a b pair size).safe))

  -- annihilate does on the words what its script does
  pub annihilate_means : same_name_words file (Word.name ws a) (Word.name ws b) ≡ same_name (name_of (graph_of e) a) (name_of (graph_of e) b)
      → Tries Named ws e (annihilate ws file a b) (annihilate_script (fresh e) (graph_of e) a b)
  unfolding annihilate alike annihilate_script ports if_eq pick
  annihilate_means same =
      rw (
        same,
        arity_read Named ws e t.means a pair.filled_a,
        arity_read Named ws e t.means b pair.filled_b,
      )
      (go (same_name (name_of g a) (name_of g b)) (eqb (arity g a) (arity g b)) (λ h. written (eqb-true (arity g a) (arity g b) h)))
    where
      script : Script
      script = record { edits = zip_with Join (map (port a) (up_to (arity g a))) (map (port b) (up_to (arity g b))); dead = a ∷ b ∷ [] }

      written : arity g a ≡ arity g b → Tries Named ws e (act ws a b (arity g a)) (some script)
      written size =
          let rows : zip_with Join (map (port a) (up_to (arity g a))) (map (port b) (up_to (arity g b))) ≡ map (λ i. Join (port a i) (port b i)) (up_to (arity g a)) =
          ap (λ (k : ℕ). zip_with Join (map (port a) (up_to (arity g a))) (map (port b) (up_to k))) (sym size) ∙ zip_rows Join (port a) (port b) (up_to (arity g a)) in
          subst (λ (ds : List Edit). Tries Named ws e (act ws a b (arity g a)) (some (record { edits = ds; dead = a ∷ b ∷ [] }))) (sym rows) (acts size)

      go : (u v : Bool) → (v ≡ true → Tries Named ws e (act ws a b (arity g a)) (some script))
          → Tries Named ws e (pick u (pick v (act ws a b (arity g a)) (record { is = Passed; ws = ws })) (record { is = Passed; ws = ws })) (given (u && v) script)
      go true true h = h refl
      go true false h = refl
      go false v h = refl
