-- What a tree's place leads to is what the tree leads to: `leads`.
use Rattle.std.specs.Prelude.{ℕ, suc, ◌+◌, ◌<◌, ◌≤◌, ◌≡◌, List, length}
use Rattle.std.proofs.Math.Path.{refl, ap}
use Rattle.std.proofs.Common.{sym, ◌∙◌}
use Rattle.std.proofs.Math.Option.{Option, none, some}
use native.Mathlib.Omega.{arith}
use Rattle.net_file.specs.Values.{Name, Tree, wire, node, Trees}
use Rattle.conversions.specs.Links.{get}
use Rattle.conversions.specs.Resolve.{Hung, canonicalize}
use Rattle.words.specs.Left.{Left}
use Rattle.fields.specs.Fields.{byte, be16}
use Rattle.wire_tables.specs.Tables.{unlink, smaller, hung, hang}
use Rattle.wire_tables_laws.specs.Table.{Said}
use Rattle.resolve_pass.specs.Pass.{wire_at}
use Rattle.resolve_walk.specs.declared.Led.{Led}
use Rattle.resolve_walk.specs.Walk as code
use Rattle.resolve_walk.specs.Ways.{lead_node, lead_wire}
use Rattle.resolve_laws.specs.Walk.{led_by, lead}
use Rattle.stored_tree.specs.Tree.{child_count_at}
use Rattle.ends.specs.Ends.{within, name_past}
use Rattle.spelt_trees.specs.Lies.{Lies}
use Rattle.resolve_walk_laws.specs.Meant.{Frame, frame_none, frame_then, frame_set, HungAt, Meant, Used, meant_used, meant_led}

count_past : (s : List ℕ) (at : ℕ) → at + 11 < child_count_at s at
unfolding child_count_at
count_past s at = omega (arith, name_past s (at + 1))

module _ (s : List ℕ) (n : ℕ) (few : n ≤ 65536) where
  -- a wire, or a node that lies at a place
  abbrev pub LedTo : Tree → Led → Type 0
  LedTo (wire c) l = (l.node ≡ 0) × (l.wire ≡ c)
  LedTo (node m ts) l = HungAt s n (node m ts) l.node

  -- behind a wire its place is known; a node led to itself
  abbrev pub Behind : Tree → ℕ → Led → Type 0
  Behind (wire w) at l = l.behind ≡ at + 1
  Behind (node m ts) at l = (l.behind ≡ 0) × (l.node ≡ at + 1)

  pub record Leads (ws : List ℕ) (t : Tree) (at : ℕ) (x : Left Led) (r : Tree × Hung) : Type 0 where
    pub to : LedTo r.0 x.is
    pub behind : Behind t at x.is
    pub meant : Meant s n x.ws r.1
    pub frame : Frame ws x.ws

  led_by_lem : (c : ℕ) (h : Hung) (l : Led) (o : Option Tree) → Said (HungAt s n) o l.node → l.wire ≡ c → LedTo (led_by c h o).0 l
  unfolding led_by
  led_by_lem c h l none e w = (e, w)
  led_by_lem c h l (some (wire v)) e w = absurd e.node
  led_by_lem c h l (some (node m ts)) e w = e

  node_tagged : (q : Name) (ts : Trees) (at : ℕ) → Lies s n (node q ts) at → byte s at ≡ 0 → ⊥
  unfolding Lies
  node_tagged q ts at k = k.0.tag

  node_inside_lem : (q : Name) (ts : Trees) (at : ℕ) → Lies s n (node q ts) at → at < length s
  unfolding Lies
  node_inside_lem q ts at k = let r = k.0.room in omega (arith, count_past s at)

  module _ (ws : List ℕ) (h : Hung) (m : Meant s n ws h) where
    leads_wire : (w at : ℕ) → Lies s n (wire w) at → Leads ws (wire w) at (code.lead s ws at) (lead (wire w) h)
    unfolding Lies lead wire_at
    leads_wire w at k =
        let room = k.room in
        let low = k.below in
        let i : within s (at + 1) ≡ at + 1 = omega arith in
        let ew : w ≡ be16 s (within s (at + 1)) = k.is ∙ ap (be16 s) (sym i) in
        let u = meant_used s n few ws h m w low in
        let c = canonicalize h w in
        let o = get c.1.trees c.0 in
        let g = meant_led s n few (unlink ws w) c.1 u.then c.0 u.less o refl in
        let l : Led = record { node = hung (unlink ws w) c.0; wire = c.0; behind = at + 1 } in
        let e : record { is = l; ws = hang (unlink ws w) c.0 0 } ≡ code.lead s ws at =
        lead_wire s ws at (byte s at) (omega arith) refl w c.0 (hung (unlink ws w) c.0) (unlink ws w) (hang (unlink ws w) c.0 0) k.tag ew (sym u.is) refl refl refl in
        let lc = u.less in
        rw (← e) (record {
          to = led_by_lem c.0 c.1 l o g.0 refl;
          behind = refl;
          meant = g.1;
          frame = frame_then (frame_set ws w 0 (omega arith)) (frame_set (unlink ws w) (65536 + c.0) 0 (omega arith));
        })

    leads_node : (q : Name) (ts : Trees) (at : ℕ) → Lies s n (node q ts) at → Leads ws (node q ts) at (code.lead s ws at) (lead (node q ts) h)
    unfolding lead
    leads_node q ts at k =
        let l : Led = record { node = at + 1; wire = 0; behind = 0 } in
        let e : record { is = l; ws = ws } ≡ code.lead s ws at = lead_node s ws at (byte s at) (node_inside_lem q ts at k) refl (node_tagged q ts at k) in
        rw (← e) (record { to = record { place = at; word = refl; lies = k; node = tt }; behind = (refl, refl); meant = m; frame = frame_none ws })

    pub leads : (t : Tree) (at : ℕ) → Lies s n t at → Leads ws t at (code.lead s ws at) (lead t h)
    leads (wire w) at k = leads_wire w at k
    leads (node q ts) at k = leads_node q ts at k
