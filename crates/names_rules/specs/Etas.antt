-- `eta_reduce` writes no net's name.
use Rattle.std.specs.Prelude.{ℕ, zero, suc, ◌+◌, ◌-◌, ◌<◌, ◌≤◌, ◌≡◌, Bool, ◌&&◌, eqb}
use Rattle.std.proofs.Math.Path.{refl}
use Rattle.std.proofs.Common.{sym, ap, ◌∙◌, true≢false, length-append, ne_eqb}
use Rattle.std.proofs.Math.Bool.{true, false, not}
use Rattle.std.proofs.Math.Option.{Option, none, some}
use mathlib.Core.List.{List, [], ◌∷◌, ◌++◌, map}
use Rattle.std.proofs.Math.ListN.{length}
use Rattle.std.proofs.Math.Decide.{ℕ_discrete}
use native.Mathlib.Omega.{arith}
use Rattle.list_laws.specs.Tests.{both}
use Rattle.words.specs.Choose.{pick, eq_split}
use Rattle.words.specs.Left.{Left}
use Rattle.layout.specs.Layout.{next, less, principal}
use Rattle.layout.specs.Layout as Layout
use Rattle.graph.specs.Graph.{remove_node, remove_wire}
use Rattle.graph.specs.Graph as Links
use Rattle.node_names.specs.Names.{same_name_words}
use Rattle.rule_sets.specs.Sets.{nil}
use Rattle.tried.specs.declared.Tried.{Tried}
use Rattle.tried.specs.declared.Tried.TheVariants.{Passed, Refused}
use Rattle.tried.specs.Tries as Word
use Rattle.eta_values.specs.Values.{meets, drop_value, eta_values_words}
use Rattle.eta_values.specs.Values as Places
use Rattle.eta.specs.Eta as Words
use Rattle.net_file.specs.Lists.{all}
use Rattle.net_file.specs.Values.{Name}
use Rattle.net_file.specs.Checks.{same_name}
use Rattle.definitions.specs.Lists.{find, up_to}
use Rattle.definitions.specs.Nets.{Port, Graph, port, is_principal, at, filled, name_of, arity, follow}
use Rattle.definitions.specs.Scripts.{apply}
use Rattle.definitions.specs.State.{Engine, graph_of}
use Rattle.definitions.specs.Books.{fresh}
use Rattle.script_laws.specs.Tidy.{real_filled}
use Rattle.rule_laws.specs.Rows.{all_row}
use Rattle.rule_laws.specs.Eta.{faces, Paired, facing}
use Rattle.rule_laws.specs.EtaPair.{Facing}
use Rattle.rule_laws.specs.EtaTidy as Law
use Rattle.means.specs.Means.{number}
use Rattle.means.specs.Frame.{rest_trans}
use Rattle.script_means.specs.Dead.{Dead, dead_keep, remove_node_dead}
use Rattle.script_means.specs.Stays.{remove_wire_stays}
use Rattle.script_means.specs.Stage.{Stage, number_principal, stage_join}
use Rattle.script_means.specs.Tries.{Between, slot_low, arity_read, stage_begin, stage_remove}
use Rattle.eta_values_means.specs.Met.{SameOnes, OnesIn, aux_is, meets_is, met_filled}
use Rattle.eta_means.specs.Faces.{Odd, odd_port_is, alike_is, all_straight_is}
use Rattle.names_means.specs.Kept.{Kept, kept_all}
use Rattle.names_means.specs.Links.{stage_link_names, remove_node_names, remove_wire_names}
use Rattle.names_rules.specs.Steps.{pick_names, pair_names}
use Rattle.names_rules.specs.Values.{eta_values_names}

-- ---- what is between two combinators goes: at most two more are to go for each aux port

-- the nodes of some list are to go, c at most
abbrev Few : List ℕ → ℕ → Type 0
Few ws c = (l : List ℕ) × Dead ws l × (length l ≤ c) × (64 ≤ length ws)

drop_value_few : (ws : List ℕ) (c p : ℕ) → c < 32 → Few ws c → Kept ws (drop_value ws p) × Few (drop_value ws p) (c + 1)
unfolding drop_value
drop_value_few ws c p room f =
    let m = meets ws p in
    let w = remove_node ws m in
    let l = f.0 in
    let few = f.2 in
    let long = f.3 in
    let a : Kept ws w = remove_node_names ws l m f.1 (omega arith) in
    let b : Kept w (remove_wire w p (principal m)) = remove_wire_names w p (principal m) in
    let la = a.long in
    let lb = b.long in
    let more = length-append l (m ∷ []) in
    (rest_trans a b, (l ++ m ∷ [], dead_keep (remove_wire_stays w p (principal m)).same (remove_node_dead ws l m f.1 (omega arith) long), omega arith, omega arith))

drop_straight_few : (ws : List ℕ) (c p q : ℕ) → c + 2 ≤ 32 → Few ws c → Kept ws (Words.drop_straight ws p q) × Few (Words.drop_straight ws p q) (c + 2)
unfolding Words.drop_straight
drop_straight_few ws c p q room f =
    eq_split (Layout.across ws p) q (remove_wire ws p q) (drop_value (drop_value ws p) q) (λ (w : List ℕ). Kept ws w × Few w (c + 2))
    (λ i.
    let k = remove_wire_names ws p q in
    let lk = k.long in
    let few = f.2 in
    let long = f.3 in
    (k, (f.0, dead_keep (remove_wire_stays ws p q).same f.1, omega arith, omega arith)))
    (λ i.
    let a = drop_value_few ws c p (omega arith) f in
    let b = drop_value_few (drop_value ws p) (c + 1) q (omega arith) a.1 in
    let z = b.1 in
    let few = z.2 in
    (rest_trans a.0 b.0, (z.0, z.1, omega arith, z.3)))

drop_all_names : (n : ℕ) (ws : List ℕ) (c p q : ℕ) → c + (n + n) ≤ 32 → Few ws c → Kept ws (Words.drop_all_straight ws p q n)
unfolding Words.drop_all_straight
drop_all_names zero ws c p q room f = kept_all ws
drop_all_names (suc n) ws c p q room f =
    let a = drop_straight_few ws c p q (omega arith) f in
    rest_trans a.0 (drop_all_names n (Words.drop_straight ws p q) (c + 2) (next p) (next q) (omega arith) a.1)

module _ (Named : ℕ → Name → Type 0) (x : ℕ → ℕ) (small : (k : ℕ) → x k ≤ 4294900000) (ws : List ℕ) (e : Engine) (t : Between Named x ws e)
    (a b : ℕ) (la : a < 4096) (lb : b < 4096) (c : ℕ) (f : Facing (graph_of e) a b c) where
  abbrev h : Graph
  h = graph_of e

  pair_acts_names : Kept ws (Words.act_combinators ws a b c).ws
  unfolding Words.act_combinators Words.join_around apply
  pair_acts_names =
      let M = length e.nets in
      let chain = e.slots.chain in
      let few = t.means.nodes.few a in
      let size = f.size_a in
      let w1 = remove_node ws a in
      let w2 = remove_node w1 b in
      let safe = (Law.paired_tidy (fresh e) h t.wired a b c f).safe in
      let s1 : Stage Named x M chain (a ∷ []) 0 h w1 e = stage_remove Named x M chain [] 0 h ws e a (stage_begin Named x ws e t) (omega arith) in
      let s2 : Stage Named x M chain (a ∷ b ∷ []) 0 h w2 e = stage_remove Named x M chain (a ∷ []) 0 h w1 e b s1 (omega arith) in
      let s3 = stage_join Named x small M chain (λ j. 0) (a ∷ b ∷ []) 0 h w2 e s2 (λ _. ⊥) (port a 0) (port b 0) safe.0 in
      let w3 = Links.link w2 (number (port a 0)) (number (port b 0)) in
      let long = s3.means.header.long in
      pick_names ws (Word.spent ws) (record { is = Refused 14; ws = ws }) _ (kept_all ws)
      (rest_trans (pair_names Named x ws e t a b) (rw (number_principal a la, number_principal b lb)
      (rest_trans (stage_link_names Named x M chain (a ∷ b ∷ []) 0 h w2 e s2 (λ _. ⊥) (port a 0) (port b 0) safe.0)
      (drop_all_names c w3 2 _ _ (omega arith) (a ∷ b ∷ [], s3.dead, omega arith, omega arith)))))

module _ (Named : ℕ → Name → Type 0) (file sets : List ℕ) (r : ℕ) (x : ℕ → ℕ) (small : (k : ℕ) → x k ≤ 4294900000) (ws : List ℕ) (e : Engine) (t : Between Named x ws e)
    (same : SameOnes file ws e) (nils : List ℕ) (nil_is : OnesIn (nil file sets r) nils ws e) where
  abbrev g : Graph
  g = graph_of e

  abbrev passed : Left Tried
  passed = record { is = Passed; ws = ws }

  -- eta on a and the node that its aux port j meets
  module _ (a : ℕ) (own : (b : ℕ) → filled (graph_of e) b ≡ true → same_name_words file (Word.name ws a) (Word.name ws b) ≡ same_name (name_of (graph_of e) a) (name_of (graph_of e) b))
      (b : ℕ) (more : 2 ≤ arity (graph_of e) a) (j : ℕ) (inside : j < arity (graph_of e) a - 1) (met : (follow (graph_of e) (port a (1 + j))).node ≡ b) where
    abbrev c : ℕ
    c = arity g a - 1

    there_a : filled g a ≡ true
    there_a = real_filled g (port a 0) (omega arith)

    there_b : filled g b ≡ true
    there_b = ap (filled g) (sym met) ∙ met_filled Named ws e t.means t.wired.wired (port a (1 + j)) (omega arith)

    low_a : a < 4096
    low_a = slot_low Named ws e t.means a there_a

    low_b : b < 4096
    low_b = slot_low Named ws e t.means b there_b

    acts : arity g a ≡ arity g b → same_name (name_of g a) (name_of g b) ≡ true → all (λ t. t) (map (faces (fresh e) g nils a b) (up_to c)) ≡ true → Kept ws (Words.act_combinators ws a b c).ws
    acts size name each =
        let pair : Paired (fresh e) g nils a b c
        = record { size = size; name = name; each = λ i l. all_row (faces (fresh e) g nils a b) (λ t. t) c 0 each i (omega arith) (omega arith) } in
        pair_acts_names Named x small ws e t a b low_a low_b c (facing (fresh e) g nils a b t.wired pair j inside met)

    pick_both : (u v : Bool) → (u ≡ true → v ≡ true → Kept ws (Words.act_combinators ws a b c).ws) → Kept ws (pick u (pick v (Words.act_combinators ws a b c) passed) passed).ws
    unfolding pick
    pick_both true true h = h refl refl
    pick_both true false h = kept_all ws
    pick_both false v h = kept_all ws

    eta_pair_names : Kept ws (Words.eta_combinators ws file sets r a b (arity (graph_of e) a - 1)).ws
    unfolding Words.eta_combinators
    eta_pair_names = rw (alike_is Named ws e t.means t.wired.wired file sets r same nils nil_is (fresh e) a b there_a there_b (own b there_b)) (sizes (ℕ_discrete (arity g a) (arity g b)))
      where
        sizes : Dec (arity g a ≡ arity g b)
            → Kept ws (pick (eqb (arity g a) (arity g b) && same_name (name_of g a) (name_of g b)) (pick (Words.all_straight ws file sets r (Places.aux a) (Places.aux b) c) (Words.act_combinators ws a b c) passed) passed).ws
        sizes (yes size) =
            rw (
              aux_is a low_a,
              aux_is b low_b,
              all_straight_is Named ws e t.means t.wired.wired file sets r same nils nil_is (fresh e) a b low_a low_b c 0 (omega arith) (omega arith),
            )
            (pick_both (eqb (arity g a) (arity g b) && same_name (name_of g a) (name_of g b)) (all (λ t. t) (map (faces (fresh e) g nils a b) (up_to c)))
            (λ u v. acts size (both (eqb (arity g a) (arity g b)) (same_name (name_of g a) (name_of g b)) u).1 v))
        sizes (no size) = rw (ne_eqb (arity g a) (arity g b) size) (pick_both false (Words.all_straight ws file sets r (Places.aux a) (Places.aux b) c) (λ u v. absurd (true≢false (sym u))))

  -- `net` is the net of a
  module _ (a : ℕ) (ported : 0 < arity (graph_of e) a)
      (own : (b : ℕ) → filled (graph_of e) b ≡ true → same_name_words file (Word.name ws a) (Word.name ws b) ≡ same_name (name_of (graph_of e) a) (name_of (graph_of e) b))
      (net : ℕ) (is : net ≡ (at (graph_of e) a).net + 1) where
    low : a < 4096
    low = slot_low Named ws e t.means a (real_filled g (port a 0) ported)

    -- by the first aux port that meets no principal port
    by_port : 2 ≤ arity g a → (q : ℕ) (o : Option Port) → Odd Named ws e t.means t.wired.wired a (arity g a - 1) 0 q o → (q ≡ 0 → ⊥)
        → Kept ws (Words.eta_combinators ws file sets r a (meets ws q) (arity g a - 1)).ws
    by_port more q none d z = absurd (z d)
    by_port more q (some p) d z =
        let j = d.0 in
        let l = d.2 in
        let node : (follow g (port a (1 + j))).node ≡ meets ws q = sym (ap (meets ws) d.3 ∙ meets_is Named ws e t.means t.wired.wired (port a (1 + j)) (omega arith)) in
        eta_pair_names a own (meets ws q) more j (omega arith) node

    pub eta_names : Kept ws (Words.eta_reduce ws file sets r net a).ws
    unfolding Words.eta_reduce
    eta_names =
        let few = t.means.nodes.few a in
        let count : less (Word.arity ws a) ≡ arity g a - 1 = let z = arity_read Named ws e t.means a (real_filled g (port a 0) ported) in omega arith in
        let q = Words.odd_port ws (number (port a (1 + 0))) (arity g a - 1) in
        rw (count, aux_is a low)
        (eq_split (arity g a - 1) 0 passed _ (λ (l : Left Tried). Kept ws l.ws) (λ z. kept_all ws)
        (λ z. eq_split q 0 (eta_values_words ws file sets r net a (arity g a - 1)) _ (λ (l : Left Tried). Kept ws l.ws)
        (λ y. eta_values_names Named file sets r x small ws e t same a (omega arith) net (arity g a - 1) is refl)
        (λ y. by_port (omega arith) q (find (λ p. not (is_principal p)) (map (λ i. follow g (port a (1 + i))) (up_to (arity g a - 1))))
        (odd_port_is Named ws e t.means t.wired.wired a low (arity g a - 1) 0 (omega arith)) y)))
