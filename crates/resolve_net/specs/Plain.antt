-- A net in which no tree is left hanging, written as it stands, on words and bytes. Document 01: "where no tree hangs on a wire it
-- renames nothing". Level Words.
use Rattle.std.specs.Prelude.{ℕ, zero, suc, ◌%◌, List}
use Rattle.net_file.specs.Write.{be}
use Rattle.store.specs.Store.{store, between}
use Rattle.wire_tables.specs.Tables.{kept_left, kept_right}
use Rattle.resolve_pass.specs.Pass.{tree_end, next}
use Rattle.resolve_walk.specs.Penned.{Inked}
use Rattle.resolve_walk.specs.Walk.{on, span}

module _ (s : List ℕ) where
  -- a tree as it stands; the place behind it
  unfoldable pub copy_tree : List ℕ → ℕ → ℕ → Inked ℕ
  copy_tree out at to = let end = tree_end s at in record { is = on to (span at end); out = store to (between s at end) out }

  module _ (ws : List ℕ) where
    -- kept link i
    unfoldable pub copy_link : List ℕ → ℕ → ℕ → Inked ℕ
    copy_link out i to =
        let a = copy_tree out (kept_left ws i) to in
        copy_tree a.out (kept_right ws i) a.is

    -- k kept links from link i on
    unfoldable pub copy_links : ℕ → List ℕ → ℕ → ℕ → Inked ℕ
    copy_links zero out i to = record { is = to; out = out }
    copy_links (suc k) out i to = let r = copy_link out i to in copy_links k r.out (next i) r.is

    -- the net at a place, up to its link count as it stands; then the kept links
    unfoldable pub plain : List ℕ → ℕ → ℕ → ℕ → ℕ → Inked ℕ
    plain out at links kept to =
        let p = on to (span at links) in
        let o = store p (be 2 (kept % 65536)) (store to (between s at links) out) in
        copy_links kept o 0 (on p 2)
