-- The slots of words that mean an engine of a run: each holds a node in order, or is vacant and clean.
use Rattle.std.specs.Prelude.{ℕ, ◌+◌, ◌<◌, ◌≤◌, ◌≡◌, Bool, false, List, length, get_or, eqb}
use Rattle.std.proofs.Math.Path.{refl, sym, ap}
use Rattle.std.proofs.Common.{◌∙◌, subst, true≢false, arith}
use Rattle.std.proofs.Math.Bool.{true}
use Rattle.std.proofs.lemmas.Bool.{false≢true}
use Rattle.std.proofs.Math.Option.{Option, none, some}
use Rattle.std.proofs.Math.Decide.{ℕ_discrete}
use borrow.Author.Tests.{eq-eqb}
use Rattle.words.specs.Choose.{if_eq, eq_yes, eq_no}
use Rattle.net_file.specs.Lists.{ok, bit}
use Rattle.net_file.specs.Values.{FlatNet, File}
use Rattle.net_file.specs.Checks.{flat, read}
use Rattle.fields.specs.Fields.{be16}
use Rattle.stored.specs.Stored.{name_count_at}
use Rattle.readers_laws.specs.Flat.{flat_stands}
use Rattle.layout.specs.Layout.{nets, net_word_words, node_word, principal}
use Rattle.definitions.specs.Lists.{is_some, or_else}
use Rattle.definitions.specs.Nets.{at, arity, filled, holds}
use Rattle.definitions.specs.State.{Pools, Engine, graph_of, net_at}
use Rattle.join_laws.specs.Ports.{Frame, no_frame, in_net, frame, arity_frame, net_frame, filled_frame, holds_frame}
use Rattle.reached_laws.specs.Image.{Image}
use Rattle.means.specs.Means.{SlotIs, Means}
use Rattle.held_names.specs.Named.{Named, named_stands}
use Rattle.image_slots.specs.Slots.{ports_hold, node_holds, name_stands, name_holds, filled_holds, slot_holds, all_hold, slots_hold}
use Rattle.image_means.specs.Yes.{other_yes, below_yes, most_yes, given_yes, each_yes}
use Rattle.image_means.specs.Tidy.{Tidy}
use Rattle.image_means.specs.InUse.{owner_none, frame_inside, frame_words, frame_used, frame_net}
use Rattle.image_slots_means.specs.Names.{name_passes}
use Rattle.image_slots_means.specs.Ports.{ports_pass}

module _ (s : List ℕ) (f : File FlatNet) (reads : read flat s ≡ ok f) (ws : List ℕ) (e : Engine) (m : Means (Named s f) ws e)
    (t : Tidy s ws e) (p : Pools) (image : Image p f e) where
  -- a vacant slot is clean
  clean : (n : ℕ) → frame (graph_of e) n ≡ none → get_or e.slots.marks n false ≡ false
  clean n v = go (get_or e.slots.marks n false) refl
    where
      go : (b : Bool) → get_or e.slots.marks n false ≡ b → b ≡ false
      go true h = absurd (false≢true (ap is_some (sym (owner_none (graph_of e) n v)) ∙ image.books.slotted.marked n h))
      go false h = refl

  module _ (n : ℕ) (x : Frame) (h : frame (graph_of e) n ≡ some x) where
    words : SlotIs (Named s f) ws n (some x)
    words = frame_words (Named s f) ws e m n x h

    node_passes : node_holds ws (x.net + 1) n ≡ true
    unfolding node_holds
    node_passes =
        let a : arity (graph_of e) n ≡ x.size = arity_frame (graph_of e) n ∙ ap (λ (o : Option Frame). (or_else o no_frame).size) h in
        let b : (at (graph_of e) n).net ≡ x.net = net_frame (graph_of e) n ∙ ap (λ (o : Option Frame). (or_else o no_frame).net) h in
        let c : 0 < arity (graph_of e) n = image.wired.ported n (filled_frame (graph_of e) n ∙ ap is_some h) in
        let w = words.2 in
        let d = m.nodes.few n in
        let i = frame_inside (Named s f) ws e m n x h in
        let l = m.header.few_nodes in
        other_yes _ _ _ (omega arith) (most_yes _ _ _ (omega arith)
        (ports_pass (Named s f) ws e m (λ _. 0) image.books image.wired.well n (node_word ws n 3) (x.net + 1) (omega arith) (ap (λ k. k + 1) b) (omega arith)))

    name_is : name_holds ws s (be16 s 9) (be16 s (name_count_at s)) (x.net + 1) n ≡ true
    unfolding name_holds net_at
    name_is = go (ℕ_discrete (node_word ws n 1) 0)
      where
        go : Dec (node_word ws n 1 ≡ 0) → if_eq (node_word ws n 1) 0 (eqb (net_word_words ws (x.net + 1) 1) n) (name_stands s (be16 s 9) (be16 s (name_count_at s)) (node_word ws n 1)) ≡ true
        go (yes z) =
            let held : holds (graph_of e) x.net n ≡ true = holds_frame (graph_of e) n x.net ∙ ap (in_net x.net) h ∙ eq-eqb x.net x.net refl in
            let l = frame_net (Named s f) ws e m (λ _. 0) image.books n x h in
            sym (eq_yes _ 0 _ _ z (sym (eq-eqb (net_word_words ws (x.net + 1) 1) n ((m.nets x.net l).free ∙ t.free_only x.net n held z))))
        go (no z) =
            let st = flat_stands s f reads in
            sym (eq_no _ 0 _ _ z (sym (name_passes s f (node_word ws n 1) x.name (named_stands s f (node_word ws n 1) x.name words.1 z) _ _ st.path_count st.name_count)))

    filled_passes : filled_holds ws s (be16 s 9) (be16 s (name_count_at s)) (x.net + 1) n ≡ true
    unfolding filled_holds
    filled_passes =
        let l = frame_net (Named s f) ws e m (λ _. 0) image.books n x h in
        let a = m.header.nets_are in
        most_yes _ _ _ (omega arith) (below_yes _ _ _ (frame_used (Named s f) ws e m (λ _. 0) image.books n x h) (given_yes _ _ node_passes name_is))

  slot_passes : (n : ℕ) → n < e.pools.nodes → slot_holds ws s (be16 s 9) (be16 s (name_count_at s)) n ≡ true
  unfolding slot_holds
  slot_passes n l = go (frame (graph_of e) n) refl (m.nodes.slot n l)
    where
      go : (o : Option Frame) → frame (graph_of e) n ≡ o → SlotIs (Named s f) ws n o
          → if_eq (node_word ws n 0) 0 (eqb (node_word ws n 2) 0) (filled_holds ws s (be16 s 9) (be16 s (name_count_at s)) (node_word ws n 0) n) ≡ true
      go none v w = sym (eq_yes _ 0 _ _ w (sym (eq-eqb (node_word ws n 2) 0 (m.marks.mark n l ∙ ap bit (clean n v)))))
      go (some x) v w = rw w.0 (sym (eq_no _ 0 _ _ (omega arith) (sym (filled_passes n x v))))

  -- `slots-hold` answers yes
  pub slots_pass : slots_hold ws s ≡ true
  unfolding slots_hold all_hold
  slots_pass =
      let b = m.header.few_nodes in
      rw m.header.nodes (each_yes _ 0 e.pools.nodes (omega arith) (λ j l h. slot_passes j (omega arith)))
