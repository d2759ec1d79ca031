-- `annihilate` writes no net's name: the nodes that its links mark are there.
use Prim.Native.Nat.{ℕ, zero, suc, ◌+◌, ◌<◌, ◌≤◌}
use Rattle.std.specs.Prelude.{◌≡◌, List, [], ◌∷◌, map, length}
use Rattle.std.proofs.Common.{sym, ◌∙◌, arith}
use Rattle.std.proofs.Math.Option.{some}
use Rattle.words.specs.Choose.{eq_split}
use Rattle.words.specs.Left.{Left}
use Rattle.layout.specs.Layout.{principal}
use Rattle.graph.specs.Graph as Words
use Rattle.tried.specs.declared.Tried.{Tried}
use Rattle.tried.specs.declared.Tried.TheVariants.{Passed, Refused}
use Rattle.tried.specs.Tries as Word
use Rattle.annihilate.specs.Annihilate.{alike, act, annihilate}
use Rattle.net_file.specs.Values.{Name}
use Rattle.definitions.specs.Lists.{from}
use Rattle.definitions.specs.Nets.{Port, Graph, port, arity, across}
use Rattle.definitions.specs.Scripts.{Join, join, apply}
use Rattle.definitions.specs.State.{Engine, graph_of}
use Rattle.definitions.specs.Books.{link}
use Rattle.script_laws.specs.Safe.{With, Safe}
use Rattle.rule_laws.specs.Places.{Meet, meet}
use Rattle.rule_laws.specs.Annihilate.{Ends, joins_tidy}
use Rattle.means.specs.Means.{number}
use Rattle.means.specs.Frame.{rest_trans}
use Rattle.script_means.specs.Stage.{Stage, number_next, number_principal, stage_join}
use Rattle.script_means.specs.Tries.{Between, slot_low, arity_read, stage_begin, stage_remove}
use Rattle.names_means.specs.Kept.{Kept, kept_all}
use Rattle.names_means.specs.Links.{stage_link_names}
use Rattle.names_rules.specs.Steps.{pick_names, pair_names}

module _ (Named : ℕ → Name → Type 0) (x : ℕ → ℕ) (small : (k : ℕ) → x k ≤ 4294900000) (M : ℕ) (chain l : List ℕ) (k : ℕ) (F Z : Port → Type 0) (a b : ℕ) (la : a < 4096) (lb : b < 4096) where
  link_all_names : (n i : ℕ) → i + n ≤ 16 → (g : Graph) (ws : List ℕ) (e : Engine) (U : Port → Type 0) → Stage Named x M chain l k g ws e
      → Safe F g U (map (λ i. Join (port a i) (port b i)) (from i n)) Z → Kept ws (Words.link_all ws (number (port a i)) (number (port b i)) n)
  unfolding Words.link_all apply
  link_all_names zero i h g ws e U s f = kept_all ws
  link_all_names (suc n) i h g ws e U s f =
      rw (number_next a i la (omega arith), number_next b i lb (omega arith))
      (rest_trans (stage_link_names Named x M chain l k g ws e s U (port a i) (port b i) f.0)
      (link_all_names n (suc i) (omega arith) (join g (port a i) (port b i)) (Words.link ws (number (port a i)) (number (port b i))) (link (port a i) (port b i) e)
      (With U (port a i) (port b i)) (stage_join Named x small M chain (λ j. 0) l k g ws e s U (port a i) (port b i) f.0) f.1))

module _ (Named : ℕ → Name → Type 0) (file : List ℕ) (x : ℕ → ℕ) (small : (k : ℕ) → x k ≤ 4294900000) (ws : List ℕ) (e : Engine) (t : Between Named x ws e)
    (a b : ℕ) (met : across (graph_of e) (port a 0) ≡ some (port b 0)) where
  abbrev g : Graph
  g = graph_of e

  pair : Meet g a b
  pair = meet g t.wired.wired a b met

  low_a : a < 4096
  low_a = slot_low Named ws e t.means a pair.filled_a

  low_b : b < 4096
  low_b = slot_low Named ws e t.means b pair.filled_b

  linked : arity g a ≡ arity g b → Kept ws (Words.link_all (Words.remove_node (Words.remove_node ws a) b) (principal a) (principal b) (arity g a))
  linked size =
      let M = length e.nets in
      let chain = e.slots.chain in
      let w1 = Words.remove_node ws a in
      let w2 = Words.remove_node w1 b in
      let s1 : Stage Named x M chain (a ∷ []) 0 g w1 e = stage_remove Named x M chain [] 0 g ws e a (stage_begin Named x ws e t) (omega arith) in
      let s2 : Stage Named x M chain (a ∷ b ∷ []) 0 g w2 e = stage_remove Named x M chain (a ∷ []) 0 g w1 e b s1 (omega arith) in
      let few = t.means.nodes.few a in
      rest_trans (pair_names Named x ws e t a b) (rw (number_principal a low_a, number_principal b low_b)
      (link_all_names Named x small M chain (a ∷ b ∷ []) 0 (Ends g t.wired a b pair size) (Ends g t.wired a b pair size) a b low_a low_b (arity g a) 0 (omega arith) g w2 e (λ _. ⊥) s2
      (joins_tidy g t.wired a b pair size).safe))

  pub annihilate_names : Kept ws (annihilate ws file a b).ws
  unfolding annihilate act
  annihilate_names =
      let ra = arity_read Named ws e t.means a pair.filled_a in
      let rb = arity_read Named ws e t.means b pair.filled_b in
      pick_names ws (alike ws file a b) _ (record { is = Passed; ws = ws })
      (eq_split (Word.arity ws a) (Word.arity ws b) _ (record { is = Passed; ws = ws }) (λ (l : Left Tried). Kept ws l.ws)
      (λ q. pick_names ws (Word.spent ws) (record { is = Refused 14; ws = ws }) _ (kept_all ws) (rw ra (linked (sym ra ∙ q ∙ rb)))) (λ q. kept_all ws)) (kept_all ws)
