-- `graft_net` on words that mean an engine, once the named net's list is tight: its copies, its joins and its dead nodes are the script's; 9 and
-- 10 come where level Engine says them, and 13 once the copies are made.
use Prim.Native.Nat.{ℕ, suc, ◌+◌, ◌<◌, ◌≤◌}
use Rattle.std.proofs.Math.Path.{◌≡◌, refl, ap, subst}
use Rattle.std.proofs.Common.{sym, ◌∙◌, eq-eqb, ne_eqb}
use Rattle.std.specs.Prelude.{◌≢◌, true, get_or, drop, eqb}
use mathlib.Core.List.{List, [], ◌∷◌, ◌++◌, map}
use Rattle.std.proofs.Math.ListN.{length}
use native.Mathlib.Omega.{arith}
use Rattle.std.proofs.Math.Decide.{ℕ_discrete}
use Rattle.words.specs.Choose.{if_lt, eq_yes, eq_no, eq_split, lt_yes, lt_no, lt_split}
use Rattle.words.specs.Left.{Left}
use Rattle.layout.specs.Layout.{net_word_words, node_word}
use Rattle.tried.specs.declared.Tried.{Tried}
use Rattle.tried.specs.declared.Tried.TheVariants.{Acted, Refused}
use Rattle.tried.specs.Tries as Words
use Rattle.graft.specs.Graft.{copy_nodes, wire_copies, copied_free, give_way, join_ports}
use Rattle.net_file.specs.Lists.{Result, ok, refuse, need}
use Rattle.net_file.specs.Values.{Name}
use Rattle.definitions.specs.Lists.{◌>>=◌, is_some, each, foldl, place, zip_with, from, up_to}
use Rattle.definitions.specs.Nets.{Graph, Home, port, at, filled, holds, arity, ports}
use Rattle.definitions.specs.Scripts.{Join, Script, apply}
use Rattle.definitions.specs.Rules.{copies, graft_script, graft_fits}
use Rattle.definitions.specs.Step.{Fresh, NodesOf}
use Rattle.definitions.specs.State.{Net, Engine, graph_of, net_at}
use Rattle.definitions.specs.Books.{fresh, link, edit}
use Rattle.engine_laws.specs.Frame.{FramesOk, homes_kept, edits_frame}
use Rattle.good_laws.specs.Nets.{part_at}
use Rattle.join_laws.specs.Ports.{arity_same, net_same, filled_same, filled_frame}
use Rattle.script_laws.specs.Tidy.{WellWired}
use Rattle.rule_laws.specs.Ids.{at_mem, place_at}
use Rattle.rule_laws.specs.Places.{not_fresh}
use Rattle.rule_laws.specs.Copies as Rule
use Rattle.graph_laws.specs.Rest.{holds_filled}
use Rattle.step_laws.specs.Numbers.{tracked_fresh}
use Rattle.reached_laws.specs.Tracks.{good_tracked}
use Rattle.means.specs.Frame.{rest_trans}
use Rattle.good_means.specs.Room.{net_inside_lem}
use Rattle.script_means.specs.Dead.{dead_none}
use Rattle.script_means.specs.Stage.{Stage}
use Rattle.script_means.specs.Tries.{Came, Between, arity_read}
use Rattle.graft_copies.specs.Copies.{Task, Copied}
use Rattle.graft_copies.specs.Whole.{AllCopied, copy_nodes_means}
use Rattle.graft_copies.specs.Wires.{Wired, wire_copies_means}
use Rattle.names_means.specs.Kept.{Kept, kept_all}
use Rattle.graft_means.specs.Names.{copy_nodes_names, wire_copies_names}
use Rattle.graft_means.specs.Joins.{give_way_came, give_way_names, joins_refuse}

-- edits one after the other, in two parts
pub each_append : {A B : Type 0} (f : A → B → Result B) (xs ys : List A) (b : B) → each f (xs ++ ys) b ≡ (each f xs b >>= λ c. each f ys c)
each_append f [] ys b = refl
each_append {A} {B} f (x ∷ xs) ys b = go (f x b) (each_append f xs ys)
  where
    go : (r : Result B) → ((c : B) → each f (xs ++ ys) c ≡ (each f xs c >>= λ d. each f ys d)) → (r >>= λ c. each f (xs ++ ys) c) ≡ ((r >>= λ c. each f xs c) >>= λ d. each f ys d)
    go (ok c) h = h c
    go (refuse r) h = refl

-- as many ports as the free node has: 13 is not said
fits_came : (Named : ℕ → Name → Type 0) (d : List ℕ) (l : Left Tried) (r : Result Engine) → Came Named d l r → Came Named d l (r >>= λ e'. need true 13 (ok e'))
fits_came Named d l (ok e') c = c
fits_came Named d l (refuse r) c = c

-- of net m's list, which is tight, all nodes are copied in place of node n, which is of another net
pub record Grafting (e : Engine) (m n : ℕ) : Type 0 where
  pub low : m < length e.nets
  pub there : filled (graph_of e) n ≡ true
  pub differ : m ≢ (at (graph_of e) n).net
  pub nodes : NodesOf (graph_of e) m (net_at e m).list.items
  pub free : holds (graph_of e) m (net_at e m).home.free ≡ true

module _ (Named : ℕ → Name → Type 0) (x : ℕ → ℕ) (small : (k : ℕ) → x k ≤ 4294900000) (ws : List ℕ) (e : Engine) (b : Between Named x ws e) (m n : ℕ) (t : Grafting e m n) where
  abbrev g : Graph
  g = graph_of e

  abbrev into : ℕ
  into = (at (graph_of e) n).net

  abbrev ids : List ℕ
  ids = (net_at e m).list.items

  abbrev free : ℕ
  free = (net_at e m).home.free

  abbrev number : ℕ → ℕ
  number k = get_or e.slots.chain k (length (graph_of e) + k)

  new : Fresh (graph_of e) (λ k. get_or e.slots.chain k (length (graph_of e) + k))
  unfolding fresh
  new = tracked_fresh e (good_tracked x e b.good)

  task : Task (length e.nets) (graph_of e) (λ k. get_or e.slots.chain k (length (graph_of e) + k)) m (at (graph_of e) n).net (net_at e m).list.items
  task = record {
    there = λ i h. holds_filled g m (get_or ids i 0) (t.nodes.sound (get_or ids i 0) (at_mem ids i h));
    once = t.nodes.once;
    low = t.low;
    into_low = net_inside_lem Named ws e b.means x b.good n t.there;
    differ = t.differ;
    new = new;
  }

  -- the free node's place in the list
  k : ℕ
  k = place (eqb (net_at e m).home.free) (net_at e m).list.items

  k_is : (k < length ids) × (get_or ids k 0 ≡ free)
  unfolding k
  k_is = place_at free ids (t.nodes.full free t.free)

  abbrev h : Graph
  h = Rule.g₁ number g b.wired task.new m ids t.nodes into

  well : WellWired h
  well = Rule.copies_well number g b.wired task.new m ids t.nodes into

  old_arity : arity h n ≡ arity g n
  old_arity = arity_same g h n (Rule.old_frame number g b.wired task.new m ids t.nodes into n t.there)

  there_h : filled h n ≡ true
  there_h = filled_same g h n (Rule.old_frame number g b.wired task.new m ids t.nodes into n t.there) ∙ t.there

  free_arity : arity h (number k) ≡ arity g free
  free_arity = Rule.copy_arity number g b.wired task.new m ids t.nodes into k k_is.0 ∙ ap (arity g) k_is.1

  one_net : (at h (number k)).net ≡ (at h n).net
  one_net = Rule.copy_net number g b.wired task.new m ids t.nodes into k k_is.0
      ∙ sym (net_same g h n (Rule.old_frame number g b.wired task.new m ids t.nodes into n t.there))

  apart : number k ≢ n
  apart q = not_fresh g number task.new n k t.there (sym q)

  -- after the copies
  module _ (w : List ℕ) (blank : Graph) (e' : Engine) (homes : FramesOk e (ok e'))
      (s : Copied Named x (length e.nets) e.slots.chain (λ k. length (graph_of e) + k) (graph_of e) m (at (graph_of e) n).net (net_at e m).list.items task e.pools.nodes (b.means.lists.places m) []
      (length (net_at e m).list.items) h w blank e') where
    v : List ℕ
    v = wire_copies w (m + 1)

    wired : Wired Named x (length e.nets) e.slots.chain (λ k. length (graph_of e) + k) g m into ids task e.pools.nodes (b.means.lists.places m) [] b.wired t.nodes w blank e' s v
    unfolding v
    wired = wire_copies_means Named x (length e.nets) e.slots.chain (λ k. length (graph_of e) + k) g m into ids task e.pools.nodes (b.means.lists.places m) [] b.wired t.nodes w blank e' s

    stage : Stage Named x (length e.nets) e.slots.chain [] (length ids) h v e'
    stage = record { means = wired.means; edited = s.edited; wired = well.wired; dead = wired.dead }

    -- the free node's copy
    free_is : copied_free v (m + 1) ≡ number k
    unfolding copied_free net_at
    free_is =
        let low : m < length e'.nets = let a = s.edited.nets in let c = t.low in omega arith in
        let home : (net_at e' m).home ≡ (net_at e m).home = part_at (λ (z : Net). z.home) e e' (homes_kept homes) m in
        let at : net_word_words v (m + 1) 1 ≡ free = (wired.means.nets m low).free ∙ ap (λ (z : Home). z.free) home in
        rw at (subst (λ (j : ℕ). node_word v j 5 ≡ number k) k_is.1 (wired.clones k k_is.0))

    sized : (j : ℕ) → filled h j ≡ true → Words.arity v j ≡ arity h j
    sized j there = arity_read Named v e' wired.means j (ap (λ (z : Graph). filled z j) s.edited.nodes ∙ there) ∙ ap (λ (z : Graph). arity z j) s.edited.nodes

    free_size : Words.arity v (number k) ≡ arity g free
    free_size = sized (number k) (filled_frame h (number k) ∙ ap is_some (Rule.copy_frame number g b.wired task.new m ids t.nodes into k k_is.0)) ∙ free_arity

    own_size : Words.arity v n ≡ arity g n
    own_size = sized n there_h ∙ old_arity

    -- the joins, or 13
    joined : Came Named (number k ∷ n ∷ []) (join_ports v (copied_free v (m + 1)) n)
        (each edit (Join (port (number k) 0) (port (number k) 1) ∷ zip_with Join (map (port (number k)) (drop 2 (up_to (arity g free)))) (map (port n) (up_to (arity g n)))) e' >>= λ e''. need (eqb (arity g free) (2 + arity g n)) 13 (ok e''))
    unfolding join_ports edit
    joined = rw free_is (go (ℕ_discrete (arity g free) (2 + arity g n)))
      where
        go : Dec (arity g free ≡ 2 + arity g n) → Came Named (number k ∷ n ∷ []) (join_ports v (number k) n)
            (each edit (Join (port (number k) 0) (port (number k) 1) ∷ zip_with Join (map (port (number k)) (drop 2 (up_to (arity g free)))) (map (port n) (up_to (arity g n)))) e' >>= λ e''. need (eqb (arity g free) (2 + arity g n)) 13 (ok e''))
        go (yes q) =
            let two : arity g free ≡ suc (suc (arity g n)) = omega arith in
            let size : arity h (number k) ≡ 2 + arity h n = free_arity ∙ q ∙ ap (λ (i : ℕ). 2 + i) (sym old_arity) in
            let done = give_way_came Named x small (length e.nets) e.slots.chain (length ids) h well (number k) n apart size one_net there_h v e' stage in
            let done' = subst (λ (i : ℕ). Came Named (number k ∷ n ∷ []) (record { is = Acted; ws = give_way v (number k) n i })
            (each edit (Join (port (number k) 0) (port (number k) 1) ∷ zip_with Join (map (port (number k)) (from 2 i)) (map (port n) (up_to i))) e')) old_arity done in
            let is : ◌≡◌ {A = Left Tried} (record { is = Acted; ws = give_way v (number k) n (arity g n) }) (join_ports v (number k) n)
            = eq_yes (Words.arity v (number k)) (Words.arity v n + 2) (record { is = Acted; ws = give_way v (number k) n (Words.arity v n) }) (record { is = Refused 13; ws = v }) (let u = free_size in let z = own_size in omega arith) (ap (λ (i : ℕ). record { is = Acted; ws = give_way v (number k) n i }) (sym own_size)) in
            rw (eq-eqb (arity g free) (2 + arity g n) q, two, ← is) (fits_came Named (number k ∷ n ∷ []) (record { is = Acted; ws = give_way v (number k) n (arity g n) }) (each edit (Join (port (number k) 0) (port (number k) 1) ∷ zip_with Join (map (port (number k)) (from 2 (arity g n))) (map (port n) (up_to (arity g n)))) e') done')
        go (no q) =
            let is : ◌≡◌ {A = Left Tried} (record { is = Refused 13; ws = v }) (join_ports v (number k) n)
            = eq_no (Words.arity v (number k)) (Words.arity v n + 2) (record { is = Acted; ws = give_way v (number k) n (Words.arity v n) }) (record { is = Refused 13; ws = v }) (λ z. q (let u = free_size in let y = own_size in omega arith)) refl in
            rw (ne_eqb (arity g free) (2 + arity g n) q, ← is, joins_refuse (map (port (number k)) (drop 2 (up_to (arity g free)))) (map (port n) (up_to (arity g n))) 13 (link (port (number k) 0) (port (number k) 1) e')) refl

    -- no name is written
    joined_names : Kept v (join_ports v (copied_free v (m + 1)) n).ws
    unfolding join_ports
    joined_names = rw free_is (eq_split (Words.arity v (number k)) (Words.arity v n + 2) (record { is = Acted; ws = give_way v (number k) n (Words.arity v n) }) (record { is = Refused 13; ws = v })
        (λ (l : Left Tried). Kept v l.ws) (λ q. there_is q) (λ q. kept_all v))
      where
        there_is : Words.arity v (number k) ≡ Words.arity v n + 2 → Kept v (give_way v (number k) n (Words.arity v n))
        there_is q =
            let a = free_size in
            let c = own_size in
            let size : arity h (number k) ≡ 2 + arity h n = let d = free_arity in let f = old_arity in omega arith in
            subst (λ (i : ℕ). Kept v (give_way v (number k) n i)) (sym (sized n there_h))
            (give_way_names Named x small (length e.nets) e.slots.chain (length ids) h well (number k) n apart size one_net there_h v e' stage)

  -- the list is copied, the copies are wired and joined
  abbrev pub grafted : Left Tried
  grafted =
      let a = copy_nodes ws (m + 1) ((at (graph_of e) n).net + 1) in
      let w = wire_copies a.ws (m + 1) in
      if_lt 0 a.is (record { is = Refused a.is; ws = a.ws }) (join_ports w (copied_free w (m + 1)) n)

  abbrev pub script : Script
  script = graft_script (fresh e) (graph_of e) (net_at e m).list.items (net_at e m).home.free n

  pub grafted_came : Came Named script.dead grafted (each edit script.edits e >>= λ e'. need (graft_fits (graph_of e) (net_at e m).home.free n) 13 (ok e'))
  unfolding graft_script graft_fits fresh ports k v Rule.g₁
  grafted_came =
      rw (each_append edit (copies (fresh e) g ids into) (Join (port (number k) 0) (port (number k) 1) ∷ zip_with Join (map (port (number k)) (drop 2 (up_to (arity g free)))) (map (port n) (up_to (arity g n)))) e)
      (go (each edit (copies (fresh e) g ids into) e) (edits_frame (copies (fresh e) g ids into) e)
      (copy_nodes_means Named x ws e b.means b.good [] (dead_none b.none_dead) m into ids refl task))
    where
      after : Engine → Result Engine
      after e' = each edit (Join (port (number k) 0) (port (number k) 1) ∷ zip_with Join (map (port (number k)) (drop 2 (up_to (arity g free)))) (map (port n) (up_to (arity g n)))) e'

      go : (r : Result Engine) → FramesOk e r → AllCopied Named x (length e.nets) e.slots.chain (λ k. length (graph_of e) + k) g m into ids task e.pools.nodes (b.means.lists.places m) []
          (foldl apply g (copies (fresh e) g ids into)) (copy_nodes ws (m + 1) (into + 1)) r
          → Came Named (number k ∷ n ∷ []) grafted ((r >>= after) >>= λ e'. need (eqb (arity g free) (2 + arity g n)) 13 (ok e'))
      go (ok e') f c =
          let a = copy_nodes ws (m + 1) (into + 1) in
          let z = c.0 in
          subst (λ (l : Left Tried). Came Named (number k ∷ n ∷ []) l (after e' >>= λ e''. need (eqb (arity g free) (2 + arity g n)) 13 (ok e'')))
          (lt_no 0 a.is _ _ (omega arith) refl) (joined a.ws c.1.0 e' f c.1.1)
      go (refuse r) f c =
          let a = copy_nodes ws (m + 1) (into + 1) in
          let z = c.0 in
          let y = c.1 in
          ap (λ (l : Left Tried). l.is) (sym (lt_yes 0 a.is (record { is = Refused a.is; ws = a.ws }) _ (omega arith) refl)) ∙ ap Refused z

  -- it writes no net's name
  pub grafted_names : Kept ws grafted.ws
  unfolding fresh v Rule.g₁
  grafted_names =
      let a = copy_nodes ws (m + 1) (into + 1) in
      let w = wire_copies a.ws (m + 1) in
      lt_split 0 a.is (record { is = Refused a.is; ws = a.ws }) (join_ports w (copied_free w (m + 1)) n) (λ (l : Left Tried). Kept ws l.ws) (λ z. copied)
      (λ z. rest_trans (rest_trans copied (wire_copies_names a.ws (m + 1))) (go z (each edit (copies (fresh e) g ids into) e) (edits_frame (copies (fresh e) g ids into) e)
      (copy_nodes_means Named x ws e b.means b.good [] (dead_none b.none_dead) m into ids refl task)))
    where
      copied : Kept ws (copy_nodes ws (m + 1) (into + 1)).ws
      copied = copy_nodes_names ws (m + 1) (into + 1) (omega arith)

      go : (copy_nodes ws (m + 1) (into + 1)).is ≤ 0 → (r : Result Engine) → FramesOk e r
          → AllCopied Named x (length e.nets) e.slots.chain (λ k. length (graph_of e) + k) g m into ids task e.pools.nodes (b.means.lists.places m) []
          (foldl apply g (copies (fresh e) g ids into)) (copy_nodes ws (m + 1) (into + 1)) r
          → Kept (wire_copies (copy_nodes ws (m + 1) (into + 1)).ws (m + 1))
          (join_ports (wire_copies (copy_nodes ws (m + 1) (into + 1)).ws (m + 1)) (copied_free (wire_copies (copy_nodes ws (m + 1) (into + 1)).ws (m + 1)) (m + 1)) n).ws
      go z (ok e') f c = joined_names (copy_nodes ws (m + 1) (into + 1)).ws c.1.0 e' f c.1.1
      go z (refuse r) f c = let y = c.0 in let u = c.1 in absurd (omega arith)
