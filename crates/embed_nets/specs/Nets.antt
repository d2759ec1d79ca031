-- The walk of `to_flat` of net.rs over a net of a file: free trees, then links. Level Words: what it numbers, the table of links and the
-- output as it leaves them.
use Rattle.std.specs.Prelude.{ℕ, zero, suc, ◌+◌, List}
use Rattle.words.specs.Choose.{if_eq}
use Rattle.fields.specs.Fields.{byte, be16, be32}
use Rattle.ends.specs.Ends.{within}
use Rattle.wire_links.specs.Table.{link}
use Rattle.embed.specs.Embed.{walked, written, walked_all, written_all}
use Rattle.embed.specs.declared.Growth.{Growth}

module _ (s : List ℕ) where
  -- the right tree of a link, where it is a wire, and the top wire of the left one are one
  unfoldable pub hung : List ℕ → Growth → List ℕ
  hung ws a = if_eq (byte s a.at) 0 (link ws a.top (be16 s (a.at + 1))) ws

  -- past the left tree of a link
  unfoldable pub left_walked : Growth → Growth
  left_walked g = walked s 64 g 65536

  -- a link
  unfoldable pub link_walked : Growth → Growth
  link_walked g = let a = left_walked g in walked s 64 a a.top

  unfoldable pub link_hung : List ℕ → Growth → List ℕ
  link_hung ws g = hung ws (left_walked g)

  unfoldable pub link_written : Growth → List ℕ → List ℕ
  link_written g out = let a = left_walked g in written s 64 a a.top (written s 64 g 65536 out)

  -- k links
  unfoldable pub links_walked : Growth → ℕ → Growth
  links_walked g zero = g
  links_walked g (suc k) = links_walked (link_walked g) k

  unfoldable pub links_hung : List ℕ → Growth → ℕ → List ℕ
  links_hung ws g zero = ws
  links_hung ws g (suc k) = links_hung (link_hung ws g) (link_walked g) k

  unfoldable pub links_written : Growth → ℕ → List ℕ → List ℕ
  links_written g zero out = out
  links_written g (suc k) out = links_written (link_walked g) k (link_written g out)

  -- at the first free tree of the net at a place; and at the first link, from the links' count
  unfoldable pub at_free : ℕ → ℕ → ℕ → Growth
  at_free at to aux = record { at = within s (at + 8); wires = be32 s (at + 3); nodes = 0; to = to; aux = aux; top = 0 }

  unfoldable pub at_links : Growth → Growth
  at_links f = record { at = within s (f.at + 2); wires = f.wires; nodes = f.nodes; to = f.to; aux = f.aux; top = f.top }

  -- past its free trees
  unfoldable pub free_walked : ℕ → ℕ → ℕ → Growth
  free_walked at to aux = walked_all s 64 (at_free at to aux) (byte s (at + 7))

  -- a net
  unfoldable pub net_walked : ℕ → ℕ → ℕ → Growth
  net_walked at to aux = let f = free_walked at to aux in links_walked (at_links f) (be16 s f.at)

  unfoldable pub net_hung : List ℕ → ℕ → ℕ → ℕ → List ℕ
  net_hung ws at to aux = let f = free_walked at to aux in links_hung ws (at_links f) (be16 s f.at)

  unfoldable pub net_written : ℕ → ℕ → ℕ → List ℕ → List ℕ
  net_written at to aux out =
      let f = free_walked at to aux in
      links_written (at_links f) (be16 s f.at) (written_all s 64 (at_free at to aux) (byte s (at + 7)) out)
