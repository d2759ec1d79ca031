-- A result made of a flat file, by what stands in the file and in the scratch: its nets, each marked and then written, and the whole,
-- whatever it is that a call marks and writes of a net; each way out of the code.
use Prim.Native.Nat.{ℕ, ◌+◌, ◌-◌, ◌≤◌, ◌<◌}
use Rattle.std.specs.Prelude.{Ok, Err, ◌≡◌, List, ◌++◌}
use Rattle.std.proofs.Math.Path.{sym, ap}
use Rattle.std.proofs.Common.{◌∙◌, arith, length-append}
use Rattle.std.proofs.Math.ListN.{length}
use Rattle.net_file_laws.specs.Bytes.{Bytes, length_be}
use Rattle.conversions.specs.Calls.{fitted}
use Rattle.fields.specs.Fields.{be16}
use Rattle.stored.specs.Stored.{flat_net_end, net_count_at}
use Rattle.ends.specs.Ends.{within, on}
use Rattle.clear.specs.Zeroed.{zeroed}
use Rattle.text_writers.specs.Wrote.{far, Wrote, then, wrote_as, Still, still_on, still_none}
use Rattle.refusals.specs.declared.Refusal.TheVariants.{OutputTooShort}
use Rattle.convert_frame.specs.Head.{head_bytes}
use Rattle.convert_frame.specs.Called.{scratch_words, Given, given_full, given_written}
use Rattle.convert_frame.specs.Nets.{zeroed_within, nets_words, nets_bytes, words_next, bytes_next, words_done, bytes_done, words_kept}

-- how a call takes a net: the scratch with what it marks of the net at a place of the file, by a stamp, what it writes of the net by
-- such a scratch, and that marks stay in the table, the first words of the scratch
pub record Kind (table : ℕ) : Type 0 where
  pub mark : List ℕ → List ℕ → ℕ → ℕ → List ℕ
  pub part : List ℕ → List ℕ → ℕ → ℕ → List ℕ
  pub room : table ≤ scratch_words
  pub kept : (s : List ℕ) → Bytes s → (m : ℕ) → table ≤ m → (ws : List ℕ) (stamp at : ℕ) → zeroed m (mark s ws stamp at) ≡ zeroed m ws

module _ {table : ℕ} (w : Kind table) where
  -- what is written of k nets from a place on, and the scratch after them
  unfoldable pub parts_of : List ℕ → List ℕ → ℕ → ℕ → ℕ → List ℕ
  parts_of s ws stamp at k = nets_bytes s (w.mark s) (w.part s) (flat_net_end s) ws stamp at k

  unfoldable pub words_of : List ℕ → List ℕ → ℕ → ℕ → ℕ → List ℕ
  words_of s ws stamp at k = nets_words s (w.mark s) (w.part s) (flat_net_end s) ws stamp at k

  -- the scratch after a whole result
  unfoldable pub left_of : List ℕ → List ℕ → List ℕ
  left_of s ws = let q = within s (net_count_at s) in words_of s (zeroed table ws) 0 (on s q 2) (be16 s q)

  -- ---- the nets

  module _ (s ws u : List ℕ) (stamp t place k a : ℕ) where
    pub words_more : (x : List ℕ) → words_of s ws stamp place k ≡ x → 0 < k → t ≡ stamp + 1 → u ≡ w.mark s ws t place → a ≡ within s (flat_net_end s place)
        → words_of s u t a (k - 1) ≡ x
    unfolding words_of
    words_more x e h et eu ea = sym (words_next s (w.mark s) (w.part s) (flat_net_end s) ws u stamp t place a k h et eu ea) ∙ e

    pub nets_more : (at p q : ℕ) (out o z whole : List ℕ) → Still (parts_of s ws stamp place k) whole at out o p → 0 < k → t ≡ stamp + 1 → u ≡ w.mark s ws t place
        → Wrote (w.part s (w.mark s ws t place) t place) p o z q → a ≡ within s (flat_net_end s place) → Still (parts_of s u t a (k - 1)) whole at out z q
    unfolding parts_of
    nets_more at p q out o z whole st h et eu y ea =
        still_on st (bytes_next s (w.mark s) (w.part s) (flat_net_end s) ws u stamp t place a k h et eu ea) (wrote_as (ap (λ v. w.part s v t place) (sym eu)) y)

  module _ (s ws : List ℕ) (stamp place k : ℕ) where
    pub words_end : (x : List ℕ) → words_of s ws stamp place k ≡ x → k ≤ 0 → ws ≡ x
    unfolding words_of
    words_end x e h = sym (words_done s (w.mark s) (w.part s) (flat_net_end s) ws stamp place k h) ∙ e

    pub nets_end : (at p : ℕ) (out o whole : List ℕ) → Still (parts_of s ws stamp place k) whole at out o p → k ≤ 0 → Wrote whole at out o p
    unfolding parts_of
    nets_end at p out o whole st h = still_none st (bytes_done s (w.mark s) (w.part s) (flat_net_end s) ws stamp place k h)

  -- ---- the whole

  module _ (version : ℕ) where
    -- a whole result with this length in its length field
    unfoldable pub whole_of : List ℕ → List ℕ → ℕ → List ℕ
    whole_of s ws n =
        let q = within s (net_count_at s) in
        head_bytes s q version (be16 s q) n ++ parts_of s (zeroed table ws) 0 (on s q 2) (be16 s q)

    -- the result: its own length is in its length field
    unfoldable pub result_of : List ℕ → List ℕ → List ℕ
    result_of s ws = whole_of s ws (length (whole_of s ws 0))

    -- the length of a result does not depend on its length field
    whole_length : (s ws : List ℕ) (n : ℕ) → length (whole_of s ws n) ≡ length (whole_of s ws 0)
    unfolding whole_of head_bytes
    whole_length s ws n = simp (length-append, length_be)

  module _ (s ws v x : List ℕ) (k q n a : ℕ) (ek : k ≡ table) (ev : v ≡ zeroed k ws) (eq : q ≡ within s (net_count_at s)) (en : n ≡ be16 s q) (ea : a ≡ on s q 2) where
    pub whole_left : x ≡ words_of s v 0 a n → x ≡ left_of s ws
    unfolding left_of
    whole_left e = e ∙ rw (ev, ek, ea, en, eq)

    pub whole_is : (version h m p r : ℕ) (out o z : List ℕ) → h ≡ version → Wrote (head_bytes s q h n m) 0 out o p → Wrote (parts_of s v 0 a n) p o z r → Wrote (whole_of version s ws m) 0 out z r
    unfolding whole_of
    whole_is version h m p r out o z eh t u = wrote_as (rw (ev, ek, eh, ea, en, eq)) (then t u)

  -- marks stay in the table
  module _ (s : List ℕ) (b : Bytes s) where
    left_kept : (m : ℕ) → table ≤ m → (ws : List ℕ) → zeroed m (left_of s ws) ≡ zeroed m ws
    unfolding left_of words_of
    left_kept m wide ws = words_kept s (w.mark s) (w.part s) (flat_net_end s) m (w.kept s b m wide) (zeroed table ws) 0 _ _ ∙ zeroed_within table m ws wide

    -- so a result that is written after another is the same
    whole_again : (version : ℕ) (ws v : List ℕ) (n : ℕ) → v ≡ left_of s ws → whole_of version s v n ≡ whole_of version s ws n
    unfolding whole_of
    whole_again version ws v n e = let z : zeroed table v ≡ zeroed table ws = ap (zeroed table) e ∙ left_kept table (omega arith) ws in rw z

  -- ---- 15, or the result

  module _ (version : ℕ) (s ws v x y out l : List ℕ) (n : ℕ) (b : Bytes s) where
    pub full : Wrote (whole_of version s ws 0) 0 x y n → v ≡ left_of s ws → length out < n → l ≡ zeroed scratch_words v
        → Given (fitted (length out) (result_of version s ws)) ws out (Err OutputTooShort) l out
    unfolding result_of
    full m e h z = given_full _ _ x y ws out n m (sym (whole_length version s ws _)) l h (z ∙ ap (zeroed scratch_words) e ∙ left_kept s b scratch_words w.room ws)

    pub written : (o u : List ℕ) (r : ℕ) → Wrote (whole_of version s ws 0) 0 x y n → v ≡ left_of s ws → n ≤ length out → length out < far → Wrote (whole_of version s v n) 0 out o r
        → u ≡ left_of s v → l ≡ zeroed scratch_words u → Given (fitted (length out) (result_of version s ws)) ws out (Ok n) l o
    unfolding result_of
    written o u r m e h f t g z =
        let k : n ≡ length (whole_of version s ws 0) = omega (arith, m.is) in
        let a : whole_of version s v n ≡ whole_of version s ws (length (whole_of version s ws 0)) = whole_again s b version ws v n e ∙ ap (whole_of version s ws) k in
        let kept = left_kept s b scratch_words w.room in
        let i = z ∙ ap (zeroed scratch_words) g ∙ kept v ∙ ap (zeroed scratch_words) e ∙ kept ws in
        given_written _ _ x y ws out n m (sym (whole_length version s ws _)) l o r h f i (wrote_as a t)
