-- A net in which trees are left hanging, written with its wires renamed, on words and bytes. Document 01: "trees left in a vicious
-- circle keep old inner wires, and are listed last by ascending wire". Level Words.
use Rattle.std.specs.Prelude.{ℕ, zero, suc, ◌+◌, ◌-◌, ◌*◌, ◌%◌, List, [], ◌∷◌, replicate}
use Rattle.words.specs.Choose.{if_eq, if_lt}
use Rattle.net_file.specs.Write.{be}
use Rattle.fields.specs.Fields.{byte, be16}
use Rattle.ends.specs.Ends.{within}
use Rattle.store.specs.Store.{store, between}
use Rattle.wire_tables.specs.Tables.{hung, kept_left, kept_right}
use Rattle.wire_blocks.specs.Blocks.{looked}
use Rattle.wire_blocks.specs.Laws.{wires_from}
use Rattle.resolve_pass.specs.Pass.{next, hung_links, marked_links}
use Rattle.std.specs.Prelude.{Some, None}
use Rattle.resolve_walk.specs.Penned.{Stepped, Penned, Inked}
use Rattle.resolve_walk.specs.Walk.{on, on_step, tree, trees}
use Rattle.resolve_net.specs.declared.Listed.{Listed}
use Rattle.resolve_net.specs.Plain.{copy_tree}

module _ (s : List ℕ) where
  -- kept link i, its two trees visited one after the other
  unfoldable pub visit_link : List ℕ → List ℕ → ℕ → ℕ → Penned Stepped
  visit_link ws out i to =
      let a = tree s 64 ws out (kept_left ws i) to in
      on_step a.is (λ pen. tree s 64 a.ws a.out (kept_right ws i) pen.to) (record { is = None; ws = a.ws; out = a.out })

  -- k kept links from link i on
  unfoldable pub visit_links : ℕ → List ℕ → List ℕ → ℕ → ℕ → Penned Stepped
  visit_links zero ws out i to = record { is = Some (record { from = 0; to = to }); ws = ws; out = out }
  visit_links (suc k) ws out i to =
      let r = visit_link ws out i to in
      on_step r.is (λ pen. visit_links k r.ws r.out (next i) pen.to) (record { is = None; ws = r.ws; out = r.out })

  -- a wire, then the tree that is left on it as it stands
  unfoldable pub list_tree : List ℕ → ℕ → ℕ → Listed → Inked Listed
  list_tree out v w c =
      let o = store (on c.to 1) (be 2 w) (store c.to (be 1 0) out) in
      let r = copy_tree s o (v - 1) (on c.to 3) in
      record { is = record { count = next c.count; to = r.is }; out = r.out }

  -- the tree that is left on wire w, if any
  unfoldable pub circle : List ℕ → List ℕ → ℕ → Listed → Inked Listed
  circle ws out w c = let v = hung ws w in if_eq v 0 (record { is = c; out = out }) (list_tree out v w c)

  -- those on some wires
  unfoldable pub circles : List ℕ → List ℕ → List ℕ → Listed → Inked Listed
  circles ws [] out c = record { is = c; out = out }
  circles ws (w ∷ l) out c = let r = circle ws out (w % 65536) c in circles ws l r.out r.is

  -- the wires on which trees hang marked, of the links whose count stands at a place
  unfoldable pub marks_of : List ℕ → ℕ → List ℕ
  marks_of ws links = marked_links ws s (within s (links + 2)) (be16 s links) (replicate 2112 0)

  -- below which wire all trees hang that are left, of the links whose count stands at a place: the counter, or less where it is great
  unfoldable pub left_below : List ℕ → ℕ → ℕ → ℕ
  left_below ws links wires =
      let n = be16 s links in
      let t = hung_links ws s (within s (links + 2)) n 0 in
      if_lt wires (16 * n) wires (if_lt t wires t wires)

  -- what is left below there; where that is high, on the wires that are looked at by these marks
  unfoldable pub left_circles : List ℕ → List ℕ → ℕ → ℕ → ℕ → Inked Listed
  left_circles ws out links wires to =
      let c : Listed = record { count = 0; to = to } in
      let m = left_below ws links wires in
      if_lt m (16 * be16 s links + 512) (circles ws (wires_from 0 m) out c) (circles ws (looked 0 (marks_of ws links) m 0) out c)

  -- behind the kept links: the circles, and the count of all, which stands before them
  unfoldable pub end_links : List ℕ → List ℕ → ℕ → ℕ → ℕ → ℕ → ℕ → Inked ℕ
  end_links ws out links wires kept to place =
      let c = left_circles ws out links wires place in
      record { is = c.is.to; out = store to (be 2 ((kept + c.is.count) % 4294967296 % 65536)) c.out }

  -- the links: their count, the kept ones visited, then the circles
  unfoldable pub renamed_links : List ℕ → List ℕ → ℕ → ℕ → ℕ → ℕ → Penned Stepped
  renamed_links ws out links wires kept to =
      let r = visit_links kept ws out 0 (on to 2) in
      on_step r.is
      (λ pen. let e = end_links r.ws r.out links wires kept to pen.to in record { is = Some (record { from = 0; to = e.is }); ws = r.ws; out = e.out })
      (record { is = None; ws = r.ws; out = r.out })

  -- the net at a place: its head and free count, its free trees visited, its links
  unfoldable pub renamed : List ℕ → List ℕ → ℕ → ℕ → ℕ → ℕ → ℕ → Penned Stepped
  renamed ws out at links wires kept to =
      let from = within s (at + 8) in
      let n = byte s (within s (at + 7)) in
      let r = trees (tree s 64) n ws (store to (between s at from) out) from (on to 8) in
      on_step r.is (λ pen. renamed_links r.ws r.out links wires kept pen.to) (record { is = None; ws = r.ws; out = r.out })
