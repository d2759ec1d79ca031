-- A tree net that lies at a place of a file is written as the definition resolves it: `net-resolves`. None is said exactly where the
-- definition refuses by 17.
use Rattle.std.specs.Prelude.{ℕ, zero, suc, ◌+◌, ◌-◌, ◌<◌, ◌≤◌, ◌≡◌, refl, Bool, true, ltb}
use Rattle.std.proofs.Math.Path.{sym, ap}
use Rattle.std.proofs.Common.{subst, ◌∙◌}
use Rattle.std.proofs.Math.Bool.{false}
use Rattle.std.proofs.Math.Option.{Option, none, some}
use mathlib.Core.List.{List, [], ◌∷◌, ◌++◌}
use native.Mathlib.Omega.{arith}
use Rattle.std.proofs.Math.Decide.{ℕ_discrete}
use Rattle.std.proofs.Math.ListN.{length}
use Rattle.std.proofs.Math.Dec.{eqb}
use borrow.Author.Tests.{eq-eqb, ne_eqb}
use Rattle.words.specs.Choose.{eq_yes, eq_no}
use Rattle.words.specs.Left.{Left}
use Rattle.net_file.specs.Lists.{Result, ok, refuse}
use Rattle.net_file.specs.Values.{Tree, Trees, listed, trees, TreeNet}
use Rattle.net_file.specs.Write.{write_tree_net}
use Rattle.conversions.specs.Resolve.{Hung, wire_links, pass, visit_all, visit, visits, visit_link, put, sorted, with_trees, deeper_any}
use Rattle.fields.specs.Fields.{be16}
use Rattle.ends.specs.Ends.{within}
use Rattle.store.specs.Store.{store}
use Rattle.net_file_laws.specs.Bytes.{Bytes}
use Rattle.wire_tables_laws.specs.Table.{Empty, table_empty}
use Rattle.wire_tables_laws.specs.Linked.{LinkFor}
use Rattle.resolve_pass.specs.declared.Passed.{Passed}
use Rattle.resolve_pass.specs.Pass as code
use Rattle.std.specs.Prelude.{Some, None}
use Rattle.resolve_walk.specs.Penned.{Stepped, Penned, Inked}
use Rattle.resolve_walk.specs.Walk.{on, on_step}
use Rattle.resolve_net.specs.declared.Ready.{Ready}
use Rattle.resolve_net.specs.Plain.{plain}
use Rattle.resolve_net.specs.Renamed.{renamed}
use Rattle.resolve_net.specs.Net.{onward, wires_at, pass_links, prepare, resolved, freed, net}
use Rattle.resolve_laws.specs.Walk.{walk_all, walk, cut, limited_all}
use Rattle.resolve_laws.specs.Keys.{Keys}
use Rattle.resolve_laws.specs.Kept.{IsNode, Hang, Nodes, Low, Keeps, all_keeps}
use Rattle.resolve_laws.proofs.Fuel.{walk_all_lem}
use Rattle.resolve_laws.specs.Links.{walk_links, deep_links, links_keep}
use Rattle.resolve_laws.proofs.Links.{walk_links_lem}
use Rattle.resolve_laws.specs.Resolve.{on_free, walked_by, passed, walked}
use Rattle.resolve_walk_laws.specs.Meant.{Frame, HungAt, Meant}
use Rattle.resolve_walk_laws.specs.Places.{most}
use Rattle.resolve_pass_laws.specs.Linking.{Linking, links_long, links_are}
use Rattle.resolve_pass_laws.specs.Passing.{Passing, Came, passes}
use Rattle.resolve_net_laws.specs.Copied.{Put}
use Rattle.resolve_net_laws.specs.Lies.{NetLies}
use Rattle.resolve_net_laws.specs.Ways.{plain_is}
use Rattle.resolve_net_laws.specs.Only.{Only}
use Rattle.resolve_net_laws.specs.Touched.{Mine, freed_long}
use Rattle.resolve_net_laws.specs.Renamed.{Whole, RenamedIs}

-- ---- a sorted list is as long

pub put_length : (e : ℕ × Tree) (es : List (ℕ × Tree)) → length (put e es) ≡ suc (length es)
unfolding put
put_length e [] = refl
put_length e (f ∷ fs) = go (ltb e.0 f.0) (put_length e fs)
  where
    go : (b : Bool) → length (put e fs) ≡ suc (length fs) → ◌≡◌ {A = ℕ} (length {A = ℕ × Tree} (elim b [ true ↦ e ∷ f ∷ fs | false ↦ f ∷ put e fs ])) (suc (suc (length fs)))
    go true h = refl
    go false h = ap suc h

pub sorted_length : (es : List (ℕ × Tree)) → length (sorted es) ≡ length es
unfolding sorted
sorted_length [] = refl
sorted_length (e ∷ es) = put_length e (sorted es) ∙ ap suc (sorted_length es)

-- ---- both passes

module _ (s : List ℕ) (m : TreeNet) (at p : ℕ) (k : NetLies s m at p) (small : length s ≤ 4294967299) (ws : List ℕ) (room : 262144 ≤ length ws) (bytes : Bytes s) (empty : Empty ws) where
  abbrev pub n : ℕ
  n = m.wires

  abbrev pub none_yet : Passed
  none_yet = record { kept = 0; left = 0 }

  pub start : Meant s n ws (record { links = []; trees = [] })
  start = let f = k.few in record { links = table_empty (LinkFor n) 0 n ws (omega arith) empty; trees = table_empty (HungAt s n) 65536 n ws (omega arith) empty }

  abbrev pub linked : Left ℕ
  linked = code.wire_links ws s (p + 2) (length m.links)

  -- behind the net
  abbrev pub end : ℕ
  end = p + 2 + links_long s n k.few m.links

  pub linking : (linked.is ≡ end) × Linking s n k.few ws linked.ws (record { links = wire_links m.links []; trees = [] })
  linking = links_are s n k.few m.links ws (record { links = []; trees = [] }) (p + 2) k.lies start

  abbrev pub done : Left Passed
  done = code.pass linked.ws s (p + 2) (length m.links) none_yet

  pub came : Came s n k.few small linked.ws none_yet 0 done (passed m)
  unfolding Keys Low Hang
  came =
      let f = k.few_links in
      let g = linking.1.above.long in
      passes s n k.few small m.links linked.ws (record { links = wire_links m.links []; trees = [] }) none_yet (p + 2) k.lies (record {
        meant = linking.1.meant;
        keys = tt;
        low = tt;
        nodes = tt;
        left = refl;
        few_left = omega arith;
        few_kept = omega arith;
        few_both = omega arith;
        room = omega arith;
      })

  pub long : length done.ws ≡ length ws
  long = came.before.long ∙ linking.1.above.long

  -- only nodes are left hanging
  pub left_nodes : Nodes (passed m).1.trees
  left_nodes = came.passing.nodes

  pub prepare_is : prepare s ws at ≡ record { is = record { links = p; end = end; kept = done.is.kept; left = done.is.left }; ws = done.ws }
  unfolding prepare pass_links
  prepare_is =
      let r = k.room in
      let i : within s (p + 2) ≡ p + 2 = omega arith in
      rw (k.place, i, k.links, linking.0)

  -- ---- the net

  module _ (out : List ℕ) (to : ℕ) (low : to ≤ most) where
    pub record NetIs (y : TreeNet) (x : Penned Stepped) : Type 0 where
      pub is : x.is ≡ Some (record { from = end; to = on to (length (write_tree_net y)) })
      pub long : length x.ws ≡ length ws
      pub stored : to + length (write_tree_net y) ≤ length out → length out ≤ most → x.out ≡ store to (write_tree_net y) out

    abbrev pub NetOut : Result TreeNet → Penned Stepped → Type 0
    NetOut (refuse r) x = x.is ≡ None
    NetOut (ok y) x = NetIs y x

    abbrev pub ls : List (Tree × Tree)
    ls = (passed m).0

    abbrev pub h : Hung
    h = (passed m).1

    pub kept_is : done.is.kept ≡ length ls
    kept_is = let e = came.kept in omega arith

    abbrev pub copied : Inked ℕ
    copied = plain s done.ws out at p (length ls) to

    abbrev pub visited : Penned Stepped
    visited = renamed s done.ws out at p n (length ls) to

    pub net_zero : done.is.left ≡ 0 → net s ws out at to ≡ record { is = Some (record { from = end; to = copied.is }); ws = freed s done.ws p; out = copied.out }
    unfolding net resolved
    net_zero z = rw (prepare_is, kept_is, ← eq_yes {A = Penned Stepped} done.is.left 0 (record { is = Some (record { from = end; to = copied.is }); ws = done.ws; out = copied.out }) _ z refl)

    pub net_more : (done.is.left ≡ 0 → ⊥) → net s ws out at to ≡ record { is = onward visited.is end; ws = freed s visited.ws p; out = visited.out }
    unfolding net resolved
    net_more z = rw (prepare_is, kept_is, k.wires, ← eq_no {A = Penned Stepped} done.is.left 0 _ (record { is = onward visited.is end; ws = visited.ws; out = visited.out }) z refl)

    pub plain_net : done.is.left ≡ 0 → NetOut (walked m) (net s ws out at to)
    unfolding walked walked_by
    plain_net z =
        let f = came.passing.few_kept in
        let c = kept_is in
        let e : length h.trees ≡ 0 = sym came.passing.left ∙ z in
        let q = plain_is s m at p k out to low done.ws ls came.from (omega arith) in
        rw (net_zero z, eq-eqb (length h.trees) 0 e) (record { is = ap (λ j. Some (record { from = end; to = j })) q.is; long = freed_long s done.ws p ∙ long; stored = q.stored })

    pub onward_deep : (t : Stepped) → t ≡ None → onward t end ≡ None
    unfolding onward on_step
    onward_deep t e = rw e

    pub onward_on : (t : Stepped) (j : ℕ) → t ≡ Some (record { from = 0; to = j }) → onward t end ≡ Some (record { from = end; to = j })
    unfolding onward on_step
    onward_on t j e = rw e
