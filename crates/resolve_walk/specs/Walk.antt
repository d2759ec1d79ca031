-- Stored trees written with their wires renamed, on words and bytes. Level Words; that it is `visit` of the definition is in
-- `resolve_laws`.
use Rattle.std.specs.Prelude.{ℕ, zero, suc, ◌+◌, ◌-◌, List, length}
use Rattle.words.specs.Choose.{if_eq, if_lt}
use Rattle.words.specs.Left.{Left}
use Rattle.net_file.specs.Write.{be}
use Rattle.fields.specs.Fields.{byte}
use Rattle.stored.specs.Stored.{name_end}
use Rattle.ends.specs.Ends.{within}
use Rattle.store.specs.Store.{store, between}
use Rattle.wire_tables.specs.Tables.{unlink, smaller, hung, hang}
use Rattle.resolve_pass.specs.Pass.{wire_at}
use Rattle.resolve_walk.specs.declared.Pen.{Pen}
use Rattle.resolve_walk.specs.declared.Led.{Led}
use Rattle.resolve_walk.specs.declared.Head.{Head}
use Rattle.std.specs.Prelude.{Some, None}
use Rattle.resolve_walk.specs.Penned.{Stepped, Penned, Inked}

-- ---- places

-- the place k bytes on; the last place of all where there is none
unfoldable pub on : ℕ → ℕ → ℕ
on to k = if_lt (18446744073709551615 - to) k 18446744073709551615 (to + k)

-- the bytes from a place up to another
unfoldable pub span : ℕ → ℕ → ℕ
span from to = to - from

-- ---- a step taken

unfoldable pub on_step : {A : Type 0} → Stepped → (Pen → A) → A → A
on_step (Some pen) go stop = go pen
on_step None go stop = stop

-- k trees, one after another, each written by `one`
unfoldable pub trees : (List ℕ → List ℕ → ℕ → ℕ → Penned Stepped) → ℕ → List ℕ → List ℕ → ℕ → ℕ → Penned Stepped
trees one zero ws out at to = record { is = Some (record { from = at; to = to }); ws = ws; out = out }
trees one (suc k) ws out at to =
    let r = one ws out at to in
    on_step r.is (λ pen. trees one k r.ws r.out pen.from pen.to) (record { is = None; ws = r.ws; out = r.out })

-- ---- one tree

module _ (s : List ℕ) where
  -- the wire at a place: renamed, its link used up, and the tree that hung on it hangs there no more
  unfoldable pub led_wire : List ℕ → ℕ → Left Led
  led_wire ws at =
      let w = wire_at s at in
      let c = smaller ws w in
      let v = unlink ws w in
      record { is = record { node = hung v c; wire = c; behind = at + 1 }; ws = hang v c 0 }

  -- what a tree's place leads to
  unfoldable pub lead : List ℕ → ℕ → Left Led
  lead ws at =
      if_lt at (length s) (if_eq (byte s at) 0 (led_wire ws at) (record { is = record { node = at + 1; wire = 0; behind = 0 }; ws = ws }))
      (record { is = record { node = 0; wire = 0; behind = 0 }; ws = ws })

  -- the wire that was led to: its tag and its number
  unfoldable pub write_wire : List ℕ → Led → ℕ → Inked Stepped
  write_wire out led to = record {
    is = Some (record { from = within s (led.behind + 2); to = on to 3 });
    out = store (on to 1) (be 2 led.wire) (store to (be 1 0) out);
  }

  -- a node's own bytes: its tag, its name, the number of its children
  unfoldable pub write_head : List ℕ → ℕ → ℕ → Inked Head
  write_head out at to =
      let e = within s (name_end s (within s (at + 1))) in
      let from = within s (e + 1) in
      record { is = record { from = from; count = byte s e; to = on to (span at from) }; out = store to (between s at from) out }

  -- from behind the wire that led away, or from where the tree ended
  unfoldable pub resume : Led → Stepped → Stepped
  resume led t = if_eq led.behind 0 t (on_step t (λ pen. Some (record { from = within s (led.behind + 2); to = pen.to })) None)

  -- a wire that was led to, written
  unfoldable pub wired : Left Led → List ℕ → ℕ → Penned Stepped
  wired l out to = let i = write_wire out l.is to in record { is = i.is; ws = l.ws; out = i.out }

  -- a node that was led to, with children written by `one`
  unfoldable pub noded : (List ℕ → List ℕ → ℕ → ℕ → Penned Stepped) → Left Led → List ℕ → ℕ → Penned Stepped
  noded one l out to =
      let h = write_head out (l.is.node - 1) to in
      let r = trees one h.is.count l.ws h.out h.is.from h.is.to in
      record { is = resume l.is r.is; ws = r.ws; out = r.out }

  -- a tree of at most depth d
  unfoldable pub tree : ℕ → List ℕ → List ℕ → ℕ → ℕ → Penned Stepped
  tree zero ws out at to =
      let l = lead ws at in
      if_eq l.is.node 0 (wired l out to) (record { is = None; ws = l.ws; out = out })
  tree (suc d) ws out at to =
      let l = lead ws at in
      if_eq l.is.node 0 (wired l out to) (noded (tree d) l out to)
