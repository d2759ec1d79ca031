-- A flat net that goes to a tree and back: each wire of a pair has taken the smaller number, no pair is left, all else is as it was.
use Rattle.std.specs.Prelude.{ℕ, zero, suc, ◌≡◌}
use Rattle.std.proofs.Math.Path.{refl}
use Rattle.std.proofs.Common.{sym, ap, ◌∙◌}
use Rattle.std.proofs.Math.Option.{none, some}
use mathlib.Core.List.{List, [], ◌∷◌, ◌++◌, map, append_assoc, append-nil}
use Rattle.net_file.specs.Lists.{Result, ok, concat_map}
use Rattle.net_file.specs.Values.{Name, FlatNode, FlatNet, Tree, wire, node, trees}
use Rattle.conversions.specs.Links.{get, canonical, links_of, from, pairs_of}
use Rattle.conversions.specs.Convert.{Made, ◌>>=◌, each, embed, embed_all, embed_link, fresh, up_or, hang, to_tree, to_flat}

-- a node with its wires renumbered
unfoldable pub renumbered_node : (ℕ → ℕ) → FlatNode → FlatNode
renumbered_node c m = record { name = m.name; pri = c m.pri; aux = map c m.aux }

-- a flat net whose pairs have become one wire each; a pair that occurs nowhere is gone
unfoldable pub renumbered : FlatNet → FlatNet
renumbered n =
    let c = canonical (links_of n.pairs) in
    record { name = n.name; included = n.included; wires = n.wires; free = map c n.free; pairs = []; nodes = map (renumbered_node c) n.nodes }

-- with these nodes too
abbrev pub with_nodes : Made → List FlatNode → Made
with_nodes s ns = record { wires = s.wires; links = s.links; nodes = s.nodes ++ ns }

module _ (c : ℕ → ℕ) where
  -- a node as a link, as `to_tree` hangs it on its principal wire
  abbrev pub hung : FlatNode → Tree × Tree
  hung m = (wire (c m.pri), node m.name (trees (map (λ w. wire (c w)) m.aux)))

  pub wires_embed : (ws : List ℕ) (s : Made) → each (λ t u. embed t none u) (map (λ w. wire (c w)) ws) s ≡ ok (map c ws, s)
  unfolding each embed hang
  wires_embed [] s = refl
  wires_embed (w ∷ ws) s = rw (wires_embed ws s)

  pub aux_embed : (ws : List ℕ) (s : Made) → embed_all (trees (map (λ w. wire (c w)) ws)) s ≡ ok (map c ws, s)
  unfolding embed hang
  aux_embed [] s = refl
  aux_embed (w ∷ ws) s = rw (aux_embed ws s)

  pub node_embeds : (m : FlatNode) (s : Made) → embed_link (hung m) s ≡ ok (c m.pri, with_nodes s (renumbered_node c m ∷ []))
  unfolding embed_link embed up_or hang renumbered_node
  node_embeds m s = rw (aux_embed m.aux (record { wires = s.wires; links = s.links; nodes = [] }))

  pub nodes_embed : (ns : List FlatNode) (s : Made)
      → each embed_link (map hung ns) s ≡ ok (map (λ m. c m.pri) ns, with_nodes s (map (renumbered_node c) ns))
  unfolding each
  nodes_embed [] s = rw (append-nil s.nodes)
  nodes_embed (m ∷ ns) s =
      rw (node_embeds m s) (rw (nodes_embed ns (with_nodes s (renumbered_node c m ∷ []))) (rw (append_assoc s.nodes (renumbered_node c m ∷ []) (map (renumbered_node c) ns)) refl))

concat_nothing : {A B : Type 0} (f : A → List B) → ((x : A) → f x ≡ []) → (xs : List A) → concat_map f xs ≡ []
concat_nothing f h [] = refl
concat_nothing f h (x ∷ xs) = rw (h x) (concat_nothing f h xs)

pub no_pairs : (n : ℕ) → pairs_of [] n ≡ []
unfolding pairs_of get
no_pairs n = concat_nothing _ (λ a. refl) (from 0 n)

pub there_and_back : (n : FlatNet) → to_flat (to_tree n) ≡ ok (renumbered n)
unfolding to_flat to_tree renumbered
there_and_back n =
    let c = canonical (links_of n.pairs) in
    let s : Made = record { wires = n.wires; links = []; nodes = [] } in
    rw (wires_embed c n.free s) (rw (nodes_embed c n.nodes s) (rw (no_pairs n.wires) refl))
