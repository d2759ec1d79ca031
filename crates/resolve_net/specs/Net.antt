-- A stored tree net written with its links resolved, on words and bytes. Level Words.
use Rattle.std.specs.Prelude.{ℕ, ◌+◌, List}
use Rattle.words.specs.Choose.{if_eq}
use Rattle.words.specs.Left.{Left}
use Rattle.fields.specs.Fields.{be16, be32}
use Rattle.ends.specs.Ends.{within}
use Rattle.scan_tree.specs.Count.{links_at}
use Rattle.resolve_pass.specs.Pass.{wire_links, free_links, pass}
use Rattle.std.specs.Prelude.{Some, None}
use Rattle.resolve_walk.specs.Penned.{Stepped, Penned}
use Rattle.resolve_walk.specs.Walk.{on_step}
use Rattle.resolve_net.specs.declared.Ready.{Ready}
use Rattle.resolve_net.specs.Plain.{plain}
use Rattle.resolve_net.specs.Renamed.{renamed}

-- with the place of the file to go on from
unfoldable pub onward : Stepped → ℕ → Stepped
onward t from = on_step t (λ pen. Some (record { from = from; to = pen.to })) None

module _ (s : List ℕ) where
  -- the wire counter of the net at a place
  unfoldable pub wires_at : ℕ → ℕ
  wires_at at = be32 s (within s (at + 3))

  -- both passes over the links whose count stands at a place
  unfoldable pub pass_links : List ℕ → ℕ → Left Ready
  pass_links ws links =
      let from = within s (links + 2) in
      let n = be16 s links in
      let l = wire_links ws s from n in
      let p = pass l.ws s from n (record { kept = 0; left = 0 }) in
      record { is = record { links = links; end = l.is; kept = p.is.kept; left = p.is.left }; ws = p.ws }

  -- the tables of the net at a place, of tables in which nothing is said
  unfoldable pub prepare : List ℕ → ℕ → Left Ready
  prepare ws at = pass_links ws (links_at s at)

  -- the net, as it stands or renamed
  unfoldable pub resolved : Ready → List ℕ → List ℕ → ℕ → ℕ → Penned Stepped
  resolved r ws out at to =
      let p = plain s ws out at r.links r.kept to in
      let q = renamed s ws out at r.links (wires_at at) r.kept to in
      if_eq r.left 0 (record { is = Some (record { from = r.end; to = p.is }); ws = ws; out = p.out })
      (record { is = onward q.is r.end; ws = q.ws; out = q.out })

  -- of the links whose count stands at a place nothing is left in the tables
  unfoldable pub freed : List ℕ → ℕ → List ℕ
  freed ws links = free_links ws s (within s (links + 2)) (be16 s links)

  -- the net at a place of the file, at a place of the output
  unfoldable pub net : List ℕ → List ℕ → ℕ → ℕ → Penned Stepped
  net ws out at to =
      let r = prepare ws at in
      let x = resolved r.is r.ws out at to in
      record { is = x.is; ws = freed x.ws r.is.links; out = x.out }
