-- Eta on values, on words that mean an engine: its test is the script's, the values go and one comes in place of all.
use Prim.Native.Nat.{ℕ, zero, suc, ◌+◌, ◌-◌, ◌<◌, ◌≤◌}
use Rattle.std.specs.Prelude.{◌≡◌, Bool, true, false, ◌&&◌, get_or, eqb}
use Rattle.std.proofs.Math.Path.{refl}
use Rattle.std.proofs.Common.{subst, eqb-true, ne_eqb}
use Rattle.std.proofs.Math.Option.{some}
use mathlib.Core.List.{List, [], ◌∷◌, ◌++◌, map}
use Rattle.std.proofs.Math.ListN.{length}
use Rattle.std.proofs.Math.Decide.{ℕ_discrete}
use native.Mathlib.Omega.{arith}
use Rattle.words.specs.Choose.{pick}
use Rattle.words.specs.Left.{Left}
use Rattle.layout.specs.Layout.{principal}
use Rattle.graph.specs.Graph as Words
use Rattle.edits.specs.declared.Placed.{Placed}
use Rattle.edits.specs.Edits.{on_placed, insert_node}
use Rattle.rule_sets.specs.Sets.{value}
use Rattle.tried.specs.declared.Tried.{Tried}
use Rattle.tried.specs.declared.Tried.TheVariants.{Passed, Acted, Refused}
use Rattle.tried.specs.Tries as Word
use Rattle.eta_values.specs.Values.{all_values, remove_values, put_value, act_values, eta_values_words}
use Rattle.net_file.specs.Lists.{Result, ok, refuse, all}
use Rattle.net_file.specs.Values.{Name}
use Rattle.net_file.specs.Checks.{same_name}
use Rattle.definitions.specs.Lists.{◌>>=◌, given, each, up_to, has}
use Rattle.definitions.specs.Nets.{Port, Node, Graph, port, at, filled, name_of, arity, follow}
use Rattle.definitions.specs.Scripts.{Insert, Join, Cut, Script, fill, apply}
use Rattle.definitions.specs.Rules.{new, hang, eta_values}
use Rattle.definitions.specs.State.{Engine, graph_of}
use Rattle.definitions.specs.Books.{link, fresh, edit}
use Rattle.script_laws.specs.Safe.{Safe}
use Rattle.script_laws.specs.Tidy.{real_filled}
use Rattle.rule_laws.specs.Places.{zip_rows}
use Rattle.rule_laws.specs.Places as Places
use Rattle.rule_laws.specs.Rows.{all_row, map_map, aux_row}
use Rattle.rule_laws.specs.EtaValues as Law
use Rattle.means.specs.Means.{number}
use Rattle.good_means.specs.Room.{net_inside_lem}
use Rattle.script_means.specs.Stage.{Stage, number_principal, stage_join}
use Rattle.script_means.specs.Inserts.{Inserts, stage_insert}
use Rattle.script_means.specs.Tries.{Came, Tries, Between, slot_low, name_read, unless_spent, stage_begin, stage_remove}
use Rattle.erase_means.specs.Part.{good_fresh}
use Rattle.eta_values_means.specs.Met.{SameOnes, OnesIn, row_fails, aux_is, meets_is, met_filled, no_values, all_values_is}
use Rattle.eta_values_means.specs.Drops.{drop_values_came}

-- one value is put in and linked with the principal port of a
module _ (Named : ℕ → Name → Type 0) (x : ℕ → ℕ) (small : (k : ℕ) → x k ≤ 4294900000) (M : ℕ) (chain : List ℕ) (default : ℕ → ℕ) (l : List ℕ) (F Z : Port → Type 0)
    (y : Node) (name : ℕ) (one : length y.ports ≡ 1) (below : y.net < M) (named : Named name y.name) (a : ℕ) (low : a < 4096) where
  -- the number of the new node
  abbrev n : ℕ
  n = get_or chain 0 (default 0)

  put_value_came : (g : Graph) (ws : List ℕ) (e : Engine) (U : Port → Type 0) → Stage Named x M chain l 0 g ws e → Safe F g U (Insert n y ∷ Join (port a 0) (port n 0) ∷ []) Z
      → Came Named l (put_value ws (y.net + 1) a name) (each edit (Insert n y ∷ Join (port a 0) (port n 0) ∷ []) e)
  unfolding put_value edit apply on_placed
  put_value_came g ws e U s t =
      go (edit (Insert n y) e) (subst (λ (k : ℕ). Inserts Named x M chain l 0 g n y (insert_node ws (y.net + 1) name k) (edit (Insert n y) e)) one
      (stage_insert Named x small M chain default l 0 g ws e s F n y name t.0 refl below named (omega arith)))
    where
      made : Left Placed
      made = insert_node ws (y.net + 1) name 1

      go : (r : Result Engine) → Inserts Named x M chain l 0 g n y made r
          → Came Named l (on_placed {A = Left Tried} made.is
          (λ m. record { is = Acted; ws = Words.link made.ws (principal a) (principal m) }) (λ c. record { is = Refused c; ws = made.ws }))
          (r >>= λ e'. ok (link (port a 0) (port n 0) e'))
      go (ok e') d =
          let s1 = stage_join Named x small M chain default l 1 (fill g n y) made.ws e' d.1 U (port a 0) (port n 0) t.1.0 in
          rw (d.0, number_principal n d.2, number_principal a low) (refl, s1.means, s1.dead)
      go (refuse c) d = rw d refl

-- what stands first in a row
first_row : (h : ℕ → ℕ) (c : ℕ) → 0 < c → get_or (map h (up_to c)) 0 0 ≡ h 0
first_row h zero l = absurd (omega arith)
first_row h (suc c) l = refl

module _ (Named : ℕ → Name → Type 0) (file sets : List ℕ) (r : ℕ) (x : ℕ → ℕ) (small : (k : ℕ) → x k ≤ 4294900000) (ws : List ℕ) (e : Engine) (t : Between Named x ws e)
    (same : SameOnes file ws e) (values : List ℕ) (value_is : OnesIn (value file sets r) values ws e) (a : ℕ) (more : 2 ≤ arity (graph_of e) a) where
  abbrev g : Graph
  g = graph_of e

  -- the number of aux ports
  abbrev c : ℕ
  c = arity g a - 1

  -- what aux port i meets
  abbrev Q : ℕ → Port
  Q i = follow g (port a (1 + i))

  -- its name at the first
  abbrev name : Name
  name = name_of g (Q 0).node

  there : filled g a ≡ true
  there = real_filled g (port a 0) (omega arith)

  low : a < 4096
  low = slot_low Named ws e t.means a there

  -- the place of that name
  place : ℕ
  place = Word.name ws (Q 0).node

  named : Named place name
  unfolding place
  named = name_read Named ws e t.means (Q 0).node (met_filled Named ws e t.means t.wired.wired (port a (1 + 0)) (omega arith))

  -- one value comes in place of a and of all that it meets
  acts : (bare : (i : ℕ) → i < c → arity g (Q i).node ≡ 1)
      → Tries Named ws e (act_values ws ((at g a).net + 1) a c place) (some (Law.reduced (fresh e) g t.wired (good_fresh x e t.good) a name more bare))
  unfolding act_values remove_values fresh new
  acts bare =
      let f = good_fresh x e t.good in
      let F = Law.Ends (fresh e) g t.wired f a name more bare in
      let few = t.means.nodes.few a in
      let all : List ℕ = a ∷ map (λ i. (Q i).node) (up_to c) in
      let M = length e.nets in
      let chain = e.slots.chain in
      let first : (i : ℕ) → i < c → (Q i).index ≡ 0 = λ i h. let b = bare i h in let z = Places.follow_real g t.wired (port a (1 + i)) (omega arith) in omega arith in
      unless_spent Named ws e t.means t.good.stepped all _ _
      (rw (aux_is a low)
      (drop_values_came Named x small M chain F F a low Q c first (omega arith) c 0 0 (omega arith) (a ∷ []) all (omega arith) refl g (Words.remove_node ws a) e (λ _. ⊥)
      (Insert (fresh e 0) (new (at g a).net name 1) ∷ Join (port a 0) (port (fresh e 0) 0) ∷ [])
      (λ (w : List ℕ). put_value w ((at g a).net + 1) a place)
      (stage_remove Named x M chain [] 0 g ws e a (stage_begin Named x ws e t) (omega arith)) (Law.reduced_tidy (fresh e) g t.wired f a name more bare).safe
      (λ g' ws' e' U' s' t'.
      put_value_came Named x small M chain (λ i. length g + i) all F F (new (at g a).net name 1) place refl (net_inside_lem Named ws e t.means x t.good a there) named a low g' ws' e' U' s' t')))

  -- eta on values does on the words what its script does; the value's net is that of a
  pub eta_values_means : (net k : ℕ) → net ≡ (at (graph_of e) a).net + 1 → k ≡ arity (graph_of e) a - 1
      → Tries Named ws e (eta_values_words ws file sets r net a k) (eta_values (fresh e) (graph_of e) values a)
  unfolding eta_values_words eta_values hang pick place
  eta_values_means net k is count =
      rw (
        is,
        count,
        aux_is a low,
        meets_is Named ws e t.means t.wired.wired (port a (1 + 0)) (omega arith),
        aux_row g a,
        map_map (follow g) (λ i. port a (1 + i)) (up_to c),
        map_map (λ (q : Port). q.node) Q (up_to c),
        zip_rows Cut (λ i. port a (1 + i)) Q (up_to c),
        first_row (λ i. (Q i).node) c (omega arith),
      )
      (by_first (ℕ_discrete (arity g (Q 0).node) 1))
    where
      script : Script
      script = record {
        edits = map (λ i. Cut (port a (1 + i)) (Q i)) (up_to c) ++ hang (fresh e) g 0 (new (at g a).net name 1) (port a 0);
        dead = a ∷ map (λ i. (Q i).node) (up_to c);
      }

      tried : Left Tried
      tried = act_values ws ((at g a).net + 1) a c place

      passed : Left Tried
      passed = record { is = Passed; ws = ws }

      -- of one port, of a value's path, of one name
      ones : Bool
      ones = all (λ n. eqb (arity g n) 1) (map (λ i. (Q i).node) (up_to c))

      alike : Bool
      alike = all (λ n. same_name (name_of g n) name) (map (λ i. (Q i).node) (up_to c))

      go : (u v w : Bool) → (u ≡ true → Tries Named ws e tried (some script)) → Tries Named ws e (pick v (pick (u && w) tried passed) passed) (given (u && v && w) script)
      go true true true h = h refl
      go true true false h = refl
      go true false w h = refl
      go false true w h = refl
      go false false w h = refl

      odd : (u v w z : Bool) → u ≡ false → z ≡ false → (y : Bool) → Tries Named ws e (pick y (pick z tried passed) passed) (given (u && v && w) script)
      odd u v w z h i true = rw (h, i) refl
      odd u v w z h i false = rw h refl

      -- by the number of ports at the first aux port
      by_first : Dec (arity g (Q 0).node ≡ 1)
          → Tries Named ws e (pick (value file sets r (Word.name ws (Q 0).node)) (pick (all_values ws file (number (port a (1 + 0))) c (Word.name ws (Q 0).node)) tried passed) passed)
          (given (ones && has values name.path && alike) script)
      by_first (yes i) =
          rw (value_is (Q 0).node i, all_values_is Named ws e t.means t.wired.wired file same (Q 0).node i a low c 0 (omega arith))
          (go ones (has values name.path) alike
          (λ h. acts (λ i l. eqb-true (arity g (Q i).node) 1 (all_row (λ j. (Q j).node) (λ n. eqb (arity g n) 1) c 0 h i (omega arith) (omega arith)))))
      by_first (no i) =
          odd ones (has values name.path) alike (all_values ws file (number (port a (1 + 0))) c (Word.name ws (Q 0).node))
          (row_fails (λ n. eqb (arity g n) 1) (λ i. (Q i).node) c (omega arith) (ne_eqb (arity g (Q 0).node) 1 i))
          (no_values Named ws e t.means t.wired.wired file (port a (1 + 0)) (omega arith) i c (Word.name ws (Q 0).node) (omega arith))
          (value file sets r (Word.name ws (Q 0).node))
