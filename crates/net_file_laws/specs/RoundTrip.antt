-- What is written is read back, and what is read is what was written: document 01, "The net file", both versions.
use Prim.Native.Nat.{ℕ, ◌+◌, ◌^◌, ◌<◌, ◌≤◌}
use Rattle.std.proofs.Common.{arith, ◌∙◌, length-append, length-drop, drop-drop}
use Rattle.std.specs.Prelude.{◌≡◌, ◌↔◌, not, length, drop, T}
use Rattle.std.proofs.Math.Path.{refl, sym, ap}
use mathlib.Core.List.{List, [], ◌++◌}
use Rattle.std.proofs.Math.Seq.{drop_at}
use Rattle.net_file.specs.Lists.{ok}
use Rattle.net_file.specs.Values.{File, FlatNet, TreeNet}
use Rattle.net_file.specs.Read.{read_body}
use Rattle.net_file.specs.Write.{be, limit_number, write_body}
use Rattle.net_file.specs.Checks.{Version, flat, tree, field, ordered, wired, free_named, checked, read, write}
use Rattle.net_file_laws.specs.Bytes.{Bytes, bytes_drop, length_be}
use Rattle.net_file_laws.specs.Flat.{FlatNetFits, exact_flat_net}
use Rattle.net_file_laws.specs.Trees.{TreeNetFits, exact_tree_net}
use Rattle.net_file_laws.specs.Body.{LimitFits, LimitWritten, limit_written, TablesFit, NetLaw, after_version, body_written, whole_body}
use Rattle.net_file_laws.specs.Header.{field_written, field_read, limit_passes, limit_passed, Headed, Accepted, checked_passes, read_passes, read_passed}

-- ---- the places of what is written

module _ {Net : Type 0} (v : Version Net) (f : File Net) where
  body : List ℕ
  body = be 1 v.version ++ after_version v f

  bytes : List ℕ
  bytes = be 4 (length body) ++ body

  written : write v f ≡ bytes
  unfolding write bytes body
  written = rw body_written refl

  drop_0 : drop 0 bytes ≡ be 4 (length body) ++ body
  unfolding bytes
  drop_0 = refl

  drop_4 : drop 4 bytes ≡ body
  unfolding bytes
  drop_4 = drop_at (be 4 (length body)) body 4 (length_be 4 (length body))

  drop_5 : drop 5 bytes ≡ after_version v f
  unfolding body
  drop_5 = sym (drop-drop 1 4 bytes) ∙ ap (drop 1) drop_4 ∙ drop_at (be 1 v.version) (after_version v f) 1 (length_be 1 v.version)

  long : length bytes ≡ 4 + length body
  unfolding bytes
  long = simp (length-append, length_be)

  body_long : length body ≡ 1 + length (after_version v f)
  unfolding body
  body_long = simp (length-append, length_be)

-- ---- the theorems

module _ {Net : Type 0} (v : Version Net) (NetFits : ℕ → ℕ → Net → Type 0) where
  -- every field in range, and the body no longer than its length field can say
  pub record FileFits (f : File Net) : Type 0 where
    pub limit : LimitFits f.limit
    pub tables : TablesFit v NetFits f
    pub size : length (write_body v.version v.write_net f) < 256 ^ 4

  -- the bytes are those that are written of f, which fits and passes the checks 6 to 8
  pub record Spells (bs : List ℕ) (f : File Net) : Type 0 where
    pub fits : FileFits f
    pub ordered : T (ordered v f)
    pub wired : T (wired v f)
    pub unnamed : T (not (free_named v f))
    pub bytes : write v f ≡ bs

  module _ (law : NetLaw v NetFits) where
    -- a file that fits and is in order is read back from what is written of it
    pub read_write : (f : File Net) → FileFits f → T (ordered v f) → T (wired v f) → T (not (free_named v f)) → read v (write v f) ≡ ok f
    unfolding body after_version
    read_write f h o w n = rw written (read_passes v bs headed ∙ five)
      where
        bs : List ℕ
        bs = bytes v f

        small : length (body v f) < 256 ^ 4
        small = rw body_written at h.size

        limit : LimitWritten f.limit
        limit = limit_written f.limit h.limit

        headed : Headed v bs
        headed = record {
          long = omega (arith, long v f, body_long v f);
          size = field_written 0 4 (length (body v f)) bs (body v f) small (drop_0 v f) ∙ omega (arith, long v f);
          version = field_written 4 1 v.version bs (after_version v f) law.small (drop_4 v f);
          limit = λ l. rw (field_written 5 4 (limit_number f.limit) bs _ limit.small (drop_5 v f)) (limit_passes f.limit h.limit);
        }

        five : checked v (read_body v.read_net v.nodes (drop 5 bs)) ≡ ok f
        five =
            ap (λ ds. checked v (read_body v.read_net v.nodes ds)) (drop_5 v f)
            ∙ ap (checked v) ((whole_body v NetFits law).reads f (limit, h.tables)) ∙ checked_passes v f [] o w n

    -- what is read is in order and fits, and the bytes are those that are written of it
    pub write_read : (bs : List ℕ) → Bytes bs → (f : File Net) → read v bs ≡ ok f → Spells bs f
    unfolding write after_version
    write_read bs h f e = record {
      fits = record { limit = limit; tables = parts.0.1; size = rw size length_field.0 };
      ordered = accepted.ordered;
      wired = accepted.wired;
      unnamed = accepted.unnamed;
      bytes = rw (size, ← body_is) (sym length_field.1);
    }
      where
        head : Headed v bs
        head = (read_passed v bs f e).0

        accepted : Accepted v (read_body v.read_net v.nodes (drop 5 bs)) f
        accepted = (read_passed v bs f e).1

        parts : (LimitWritten f.limit × TablesFit v NetFits f) × (drop 5 bs ≡ after_version v f) × (accepted.rest ≡ [])
        parts = (whole_body v NetFits law).writes (drop 5 bs) (bytes_drop 5 bs h) f accepted.rest accepted.answer

        length_field : (field 0 4 bs < 256 ^ 4) × (bs ≡ be 4 (field 0 4 bs) ++ drop 4 bs)
        length_field = field_read 0 4 bs h (omega (arith, head.long))

        version_field : (field 4 1 bs < 256 ^ 1) × (drop 4 bs ≡ be 1 (field 4 1 bs) ++ drop 1 (drop 4 bs))
        version_field = field_read 4 1 bs h (rw length-drop (omega (arith, head.long)))

        body_is : drop 4 bs ≡ write_body v.version v.write_net f
        body_is = rw (body_written, ← parts.1, ← head.version) (version_field.1 ∙ ap (λ ds. be 1 (field 4 1 bs) ++ ds) (drop-drop 1 4 bs))

        size : length (write_body v.version v.write_net f) ≡ field 0 4 bs
        size = rw (← body_is, length-drop) (sym head.size)

        long_enough : 9 ≤ length bs
        long_enough = omega (arith, length-drop 5 bs, simp (length-append, length_be) at (ap length parts.1))

        limit : LimitFits f.limit
        limit =
            let e : field 5 4 bs ≡ limit_number f.limit = field_written 5 4 (limit_number f.limit) bs _ parts.0.0.small parts.1 in
            limit_passed f.limit parts.0.0 (rw e at (head.limit long_enough))

    -- the files that are accepted are those that are written of a value that fits and is in order
    pub read_exactly : (bs : List ℕ) → Bytes bs → (f : File Net) → (read v bs ≡ ok f) ↔ Spells bs f
    read_exactly bs h f = (write_read bs h f, λ s. ap (read v) (sym s.bytes) ∙ read_write f s.fits s.ordered s.wired s.unnamed)

    -- and no two of them say the same
    pub one_spelling : (bs cs : List ℕ) → Bytes bs → Bytes cs → (f : File Net) → read v bs ≡ ok f → read v cs ≡ ok f → bs ≡ cs
    one_spelling bs cs hb hc f b c = sym (write_read bs hb f b).bytes ∙ (write_read cs hc f c).bytes
