-- `embed` of net.rs by the places of a file. Level Words: what the walk numbers (`walked`), and the output as it leaves it (`written`).
use Rattle.std.specs.Prelude.{ℕ, zero, suc, ◌+◌, ◌*◌, ◌%◌, min, List}
use Rattle.words.specs.Choose.{if_eq, if_lt}
use Rattle.std.proofs.lemmas.List.Edits.{sets}
use Rattle.net_file.specs.Write.{be, write_name}
use Rattle.fields.specs.Fields.{byte, be16}
use Rattle.ends.specs.Ends.{within}
use Rattle.stored.specs.Stored.{name_at}
use Rattle.wire_links.specs.Table.{on}
use Rattle.embed.specs.declared.Growth.{Growth}

-- one more, up to 65,537
unfoldable pub next : ℕ → ℕ
next n = min 65537 (n + 1)

-- a node's principal wire: the one given, or the next; and the counter after that
unfoldable pub principal : ℕ → ℕ → ℕ
principal wires up = if_lt up 65536 (up % 65536) (wires % 65536)

unfoldable pub counter : ℕ → ℕ → ℕ
counter wires up = if_lt up 65536 wires (next wires)

module _ (s : List ℕ) where
  -- of a node: the bytes of its name, and its children
  unfoldable pub name_size : ℕ → ℕ
  name_size at = 11 + 2 * byte s (at + 11)

  unfoldable pub kids : ℕ → ℕ
  kids at = byte s (at + (name_size at + 1))

  -- past a wire
  unfoldable pub leaf : Growth → Growth
  leaf g = record { at = within s (g.at + 3); wires = g.wires; nodes = g.nodes; to = g.to; aux = g.aux; top = be16 s (g.at + 1) }

  -- at a node's first child
  unfoldable pub entered : Growth → ℕ → Growth
  entered g up =
      let n = name_size g.at in
      let a = on g.to (n + 3) in
      record {
        at = within s (g.at + (n + 2));
        wires = counter g.wires up;
        nodes = next g.nodes;
        to = on a (2 * kids g.at);
        aux = a;
        top = principal g.wires up;
      }

  -- the node written but for its aux wires
  unfoldable pub head_written : List ℕ → Growth → ℕ → List ℕ
  head_written out g top =
      let n = name_size g.at in
      let named = sets out g.to (write_name (name_at s (within s (g.at + 1)))) in
      sets (sets named (on g.to n) (be 2 top)) (on g.to (n + 2)) (be 1 (kids g.at))

-- past a child, whose top wire is written at a place
unfoldable pub topped : Growth → ℕ → Growth
topped t a = record { at = t.at; wires = t.wires; nodes = t.nodes; to = t.to; aux = on a 2; top = t.top }

unfoldable pub top_written : List ℕ → Growth → ℕ → List ℕ
top_written out t a = sets out a (be 2 t.top)

-- past a node's children
unfoldable pub closed : Growth → ℕ → Growth
closed r top = record { at = r.at; wires = r.wires; nodes = r.nodes; to = r.to; aux = r.aux; top = top }

-- k trees by a walk for one
unfoldable pub walked_by : (Growth → Growth) → Growth → ℕ → Growth
walked_by one g zero = g
walked_by one g (suc k) = walked_by one (topped (one g) g.aux) k

unfoldable pub written_by : (Growth → Growth) → (Growth → List ℕ → List ℕ) → Growth → ℕ → List ℕ → List ℕ
written_by one put g zero out = out
written_by one put g (suc k) out =
    let t = one g in
    written_by one put (topped t g.aux) k (top_written (put g out) t g.aux)

module _ (s : List ℕ) where
  -- a tree of at most depth d: a node before its children, left to right; at depth 0 there is only a wire
  unfoldable pub walked : ℕ → Growth → ℕ → Growth
  walked zero g up = leaf s g
  walked (suc d) g up =
      let o = entered s g up in
      if_eq (byte s g.at) 0 (leaf s g) (closed (walked_by (λ x. walked d x 65536) o (kids s g.at)) o.top)

  unfoldable pub written : ℕ → Growth → ℕ → List ℕ → List ℕ
  written zero g up out = out
  written (suc d) g up out =
      let o = entered s g up in
      if_eq (byte s g.at) 0 out
      (written_by (λ x. walked d x 65536) (λ x. written d x 65536) o (kids s g.at) (head_written s out g o.top))

  -- k of them
  unfoldable pub walked_all : ℕ → Growth → ℕ → Growth
  walked_all d g k = walked_by (λ x. walked d x 65536) g k

  unfoldable pub written_all : ℕ → Growth → ℕ → List ℕ → List ℕ
  written_all d g k out = written_by (λ x. walked d x 65536) (λ x. written d x 65536) g k out
