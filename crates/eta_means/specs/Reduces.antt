-- `eta_reduce` on words that mean an engine: values where all aux ports meet principal ports, else the pair with what the first other meets.
use Prim.Native.Nat.{ℕ, zero, suc, ◌+◌, ◌-◌, ◌<◌, ◌≤◌}
use Rattle.std.specs.Prelude.{◌≡◌, Bool, true, false, not, ◌&&◌, ◌||◌, eqb}
use Rattle.std.proofs.Math.Path.{refl, ap, subst}
use Rattle.std.proofs.Common.{sym, ◌∙◌, ne_eqb}
use Rattle.std.proofs.Math.Option.{Option, none, some}
use mathlib.Core.List.{List, [], ◌∷◌, ◌++◌, map}
use Rattle.std.proofs.Math.Decide.{ℕ_discrete}
use native.Mathlib.Omega.{arith}
use Rattle.list_laws.specs.Tests.{both}
use Rattle.words.specs.Choose.{pick, if_eq, eq_yes, eq_no}
use Rattle.words.specs.Left.{Left}
use Rattle.layout.specs.Layout.{less}
use Rattle.node_names.specs.Names.{same_name_words}
use Rattle.rule_sets.specs.Sets.{value, nil}
use Rattle.tried.specs.declared.Tried.{Tried}
use Rattle.tried.specs.declared.Tried.TheVariants.{Passed}
use Rattle.tried.specs.Tries as Word
use Rattle.eta_values.specs.Values.{meets, eta_values_words}
use Rattle.eta_values.specs.Values as Places
use Rattle.eta.specs.Eta as Words
use Rattle.net_file.specs.Lists.{all}
use Rattle.net_file.specs.Values.{Name}
use Rattle.net_file.specs.Checks.{same_name}
use Rattle.definitions.specs.Lists.{given, find, concat, zip_with, up_to}
use Rattle.definitions.specs.Nets.{Port, Graph, port, is_principal, at, filled, name_of, arity, aux, follow}
use Rattle.definitions.specs.Scripts.{Join, Script}
use Rattle.definitions.specs.Rules.{straight, nil_pair, eta_cuts, eta_nils, eta_pair, eta_met, eta_script}
use Rattle.definitions.specs.State.{Engine, graph_of}
use Rattle.definitions.specs.Books.{fresh}
use Rattle.script_laws.specs.Tidy.{real_filled}
use Rattle.rule_laws.specs.Places.{zip_rows}
use Rattle.rule_laws.specs.Rows.{all_row, map_map, aux_row}
use Rattle.rule_laws.specs.Eta.{faces, by_rows, Paired, facing}
use Rattle.means.specs.Means.{number}
use Rattle.script_means.specs.Tries.{Tries, Between, slot_low, arity_read}
use Rattle.eta_values_means.specs.Met.{SameOnes, OnesIn, aux_is, meets_is, met_filled}
use Rattle.eta_values_means.specs.Values.{eta_values_means}
use Rattle.eta_means.specs.Faces.{Odd, odd_port_is, alike_is, all_straight_is}
use Rattle.eta_means.specs.Pair.{pair_acts}

module _ (Named : ℕ → Name → Type 0) (file sets : List ℕ) (r : ℕ) (x : ℕ → ℕ) (small : (k : ℕ) → x k ≤ 4294900000) (ws : List ℕ) (e : Engine) (t : Between Named x ws e)
    (same : SameOnes file ws e) (nils : List ℕ) (nil_is : OnesIn (nil file sets r) nils ws e) where
  abbrev g : Graph
  g = graph_of e

  abbrev passed : Left Tried
  passed = record { is = Passed; ws = ws }

  -- two rows of aux ports as one row of pairs
  zipped : {A : Type 0} (f : Port → Port → A) (a b : ℕ) → arity g a ≡ arity g b → zip_with f (aux g a) (aux g b) ≡ map (λ i. f (port a (1 + i)) (port b (1 + i))) (up_to (arity g a - 1))
  zipped f a b size =
      ap (λ (l : List Port). zip_with f l (aux g b)) (aux_row g a)
      ∙ ap (zip_with f (map (λ i. port a (1 + i)) (up_to (arity g a - 1)))) (aux_row g b ∙ ap (λ (n : ℕ). map (λ i. port b (1 + i)) (up_to (n - 1))) (sym size))
      ∙ zip_rows f (λ i. port a (1 + i)) (λ i. port b (1 + i)) (up_to (arity g a - 1))

  -- the visited node's name, and that of any node
  abbrev pub SameOwn : ℕ → Type 0
  SameOwn a = (b : ℕ) → filled (graph_of e) b ≡ true → same_name_words file (Word.name ws a) (Word.name ws b) ≡ same_name (name_of (graph_of e) a) (name_of (graph_of e) b)

  -- eta on a and the node that its aux port j meets
  module _ (a : ℕ) (own : SameOwn a) (b : ℕ) (more : 2 ≤ arity (graph_of e) a) (j : ℕ) (inside : j < arity (graph_of e) a - 1) (met : (follow (graph_of e) (port a (1 + j))).node ≡ b) where
    abbrev c : ℕ
    c = arity g a - 1

    there_a : filled g a ≡ true
    there_a = real_filled g (port a 0) (omega arith)

    there_b : filled g b ≡ true
    there_b = ap (filled g) (sym met) ∙ met_filled Named ws e t.means t.wired.wired (port a (1 + j)) (omega arith)

    low_a : a < 4096
    low_a = slot_low Named ws e t.means a there_a

    low_b : b < 4096
    low_b = slot_low Named ws e t.means b there_b

    -- where the tests hold
    acts : arity g a ≡ arity g b → same_name (name_of g a) (name_of g b) ≡ true → all (λ t. t) (map (faces (fresh e) g nils a b) (up_to c)) ≡ true
        → Tries Named ws e (Words.act_combinators ws a b c) (some (by_rows (fresh e) g nils a b))
    acts size name each =
        let pair : Paired (fresh e) g nils a b c
        = record { size = size; name = name; each = λ i l. all_row (faces (fresh e) g nils a b) (λ t. t) c 0 each i (omega arith) (omega arith) } in
        pair_acts Named x small ws e t a b low_a low_b c (facing (fresh e) g nils a b t.wired pair j inside met)

    pub eta_pair_means : Tries Named ws e (Words.eta_combinators ws file sets r a b (arity (graph_of e) a - 1)) (eta_pair (fresh e) (graph_of e) nils a b)
    unfolding Words.eta_combinators eta_pair pick
    eta_pair_means = rw (alike_is Named ws e t.means t.wired.wired file sets r same nils nil_is (fresh e) a b there_a there_b (own b there_b)) (sizes (ℕ_discrete (arity g a) (arity g b)))
      where
        written : Script
        written = record {
          edits = Join (port a 0) (port b 0) ∷ concat (zip_with (eta_cuts (fresh e) g) (aux g a) (aux g b));
          dead = a ∷ b ∷ concat (zip_with (eta_nils (fresh e) g) (aux g a) (aux g b));
        }

        meet : Port → Port → Bool
        meet p q = straight (fresh e) g p q || nil_pair (fresh e) g nils p q

        go : (u v : Bool) → (u ≡ true → v ≡ true → Tries Named ws e (Words.act_combinators ws a b c) (some (by_rows (fresh e) g nils a b)))
            → Tries Named ws e (pick u (pick v (Words.act_combinators ws a b c) passed) passed) (given (u && v) (by_rows (fresh e) g nils a b))
        go true true h = h refl refl
        go true false h = refl
        go false v h = refl

        sizes : Dec (arity g a ≡ arity g b)
            → Tries Named ws e (pick (eqb (arity g a) (arity g b) && same_name (name_of g a) (name_of g b))
            (pick (Words.all_straight ws file sets r (Places.aux a) (Places.aux b) c) (Words.act_combinators ws a b c) passed) passed)
            (given (eqb (arity g a) (arity g b) && same_name (name_of g a) (name_of g b) && all (λ t. t) (zip_with (λ p q. straight (fresh e) g p q || nil_pair (fresh e) g nils p q) (aux g a) (aux g b))) written)
        sizes (yes size) =
            rw (
              aux_is a low_a,
              aux_is b low_b,
              all_straight_is Named ws e t.means t.wired.wired file sets r same nils nil_is (fresh e) a b low_a low_b c 0 (omega arith) (omega arith),
              zipped meet a b size,
              zipped (eta_cuts (fresh e) g) a b size,
              zipped (eta_nils (fresh e) g) a b size,
            )
            (go (eqb (arity g a) (arity g b) && same_name (name_of g a) (name_of g b)) (all (λ t. t) (map (faces (fresh e) g nils a b) (up_to c)))
            (λ u v. acts size (both (eqb (arity g a) (arity g b)) (same_name (name_of g a) (name_of g b)) u).1 v))
        sizes (no size) = rw (ne_eqb (arity g a) (arity g b) size) refl

  -- eta does on the words what its script does; `net` is the net of a
  module _ (values : List ℕ) (value_is : OnesIn (value file sets r) (values ++ nils) ws e) (a : ℕ) (ported : 0 < arity (graph_of e) a) (named : SameOwn a) (net : ℕ) (own : net ≡ (at (graph_of e) a).net + 1) where
    abbrev f : Port → Bool
    f q = not (is_principal q)

    low : a < 4096
    low = slot_low Named ws e t.means a (real_filled g (port a 0) ported)

    -- where there is an aux port: by the first that meets no principal port
    by_port : 2 ≤ arity g a → (q : ℕ) (o : Option Port) → Odd Named ws e t.means t.wired.wired a (arity g a - 1) 0 q o
        → Tries Named ws e (if_eq q 0 (eta_values_words ws file sets r net a (arity g a - 1)) (Words.eta_combinators ws file sets r a (meets ws q) (arity g a - 1))) (eta_met (fresh e) g values nils a o)
    unfolding eta_met
    by_port more q none d =
        subst (λ (l : Left Tried). Tries Named ws e l (eta_met (fresh e) g values nils a none)) (eq_yes _ _ _ _ d refl)
        (eta_values_means Named file sets r x small ws e t same (values ++ nils) value_is a more net (arity g a - 1) own refl)
    by_port more q (some p) d =
        let j = d.0 in
        let l = d.2 in
        let is = d.3 in
        let meet : (follow g (port a (1 + j))).node ≡ p.node = ap (λ (s : Port). s.node) (sym d.4) in
        let node : meets ws q ≡ p.node = ap (meets ws) is ∙ meets_is Named ws e t.means t.wired.wired (port a (1 + j)) (omega arith) ∙ meet in
        subst (λ (l : Left Tried). Tries Named ws e l (eta_met (fresh e) g values nils a (some p))) (eq_no _ _ _ _ (omega arith) refl)
        (rw node (eta_pair_means a named p.node more j (omega arith) meet))

    pub eta_means : Tries Named ws e (Words.eta_reduce ws file sets r net a) (eta_script (fresh e) (graph_of e) values nils a)
    unfolding Words.eta_reduce eta_script
    eta_means =
        let few = t.means.nodes.few a in
        let count : less (Word.arity ws a) ≡ arity g a - 1 = let z = arity_read Named ws e t.means a (real_filled g (port a 0) ported) in omega arith in
        rw (count, aux_is a low)
        (subst (λ (l : List Port). Tries Named ws e (if_eq (arity g a - 1) 0 passed (either (arity g a - 1))) (by_list l)) (sym (aux_row g a))
        (go (arity g a - 1) refl (odd_port_is Named ws e t.means t.wired.wired a low (arity g a - 1) 0 (omega arith))))
      where
        first : ℕ → ℕ
        first n = Words.odd_port ws (number (port a (1 + 0))) n

        -- on the words, with n aux ports
        either : ℕ → Left Tried
        either n = if_eq (first n) 0 (eta_values_words ws file sets r net a n) (Words.eta_combinators ws file sets r a (meets ws (first n)) n)

        -- the script, by the list of aux ports
        by_list : List Port → Option Script
        by_list l = elim l [ [] ↦ none | p ∷ ps ↦ eta_met (fresh e) g values nils a (find f (map (follow g) (p ∷ ps))) ]

        -- by what n aux ports meet
        Fits : ℕ → Type 0
        Fits n = Odd Named ws e t.means t.wired.wired a n 0 (first n) (find f (map (λ i. follow g (port a (1 + i))) (up_to n)))

        go : (n : ℕ) → arity g a - 1 ≡ n → Fits n → Tries Named ws e (if_eq n 0 passed (either n)) (by_list (map (λ i. port a (1 + i)) (up_to n)))
        go zero h d = sym (eq_yes 0 0 passed (either 0) refl refl)
        go (suc n) h d =
            subst (λ (l : Left Tried). Tries Named ws e l (eta_met (fresh e) g values nils a (find f (map (follow g) (map (λ i. port a (1 + i)) (up_to (suc n)))))))
            (eq_no (suc n) 0 passed (either (suc n)) (omega arith) refl)
            (rw (map_map (follow g) (λ i. port a (1 + i)) (up_to (suc n)))
            (subst (λ (k : ℕ). Fits k → Tries Named ws e (either k) (eta_met (fresh e) g values nils a (find f (map (λ i. follow g (port a (1 + i))) (up_to k))))) h
            (by_port (omega arith) (first (arity g a - 1)) (find f (map (λ i. follow g (port a (1 + i))) (up_to (arity g a - 1))))) d))
