-- What nets of both versions begin with: name number, included, wire counter. Document 01, "The net file".
-- Last: a net goes on behind its head (`head_go`), or is refused with it (`head_bad`), whatever follows in its version.
use Rattle.std.specs.Prelude.{ℕ, ◌+◌, ◌-◌, ◌<◌, ◌≤◌, ◌≡◌, Bool, length, drop, eqb, Option, Some, None}
use Rattle.std.proofs.Math.Path.{refl, ap}
use Rattle.std.proofs.Common.{sym, ◌∙◌}
use Rattle.std.proofs.Math.Option.{Option as Parsed, none, some}
use mathlib.Core.List.{List}
use native.Mathlib.Omega.{arith}
use Rattle.words.specs.Choose.{if_lt}
use Rattle.net_file.specs.Read.{Parser, then, ◌>>=◌, give, below, read_bit}
use Rattle.fields.specs.Fields.{byte, be16, be32}
use Rattle.stored.specs.Laws.{Stands, stands_bind, stands_give, stands_as, stands_2, stands_4, stands_below, in_4, below_in, below_high}
use Rattle.stored.specs.Parts.{stands_bit}
use Rattle.walk.specs.After.{place, after, after_bind, after_stop, after_go, after_bad, after_give}
use Rattle.walk.specs.Room.{needs_next, needs_first, needs_below, after_short}
use Rattle.walk.specs.Walk.{below_2, below_2_high, bit_in, bit_high}

-- the wire counter is at most 65,536
unfoldable pub read_head : ℕ → Parser (ℕ × Bool × ℕ)
read_head names = below 2 names >>= λ m. read_bit >>= λ i. below 4 65537 >>= λ w. give (m, i, w)

-- ---- the head where it stands

module _ (s : List ℕ) (names at : ℕ) where
  pub stands_head : Stands s (read_head names) at (be16 s at, eqb (byte s (at + 2)) 1, be32 s (at + 3)) (at + 7)
  unfolding read_head
  stands_head =
      let e : at + 2 + 1 ≡ at + 3 = omega arith in
      let f : at + 3 + 4 ≡ at + 7 = omega arith in
      stands_bind _ (stands_below s 2 names _ _ _ (stands_2 s at))
      (stands_bind _ (stands_as (stands_bit s (at + 2)) refl e)
      (stands_bind _ (stands_as (stands_below s 4 65537 _ _ _ (stands_4 s (at + 3))) refl f) stands_give))

-- ---- each way out of the walk

module _ (s : List ℕ) (names at : ℕ) where
  -- the parts after the name, and after `included`
  abbrev after_name : ℕ → Parser (ℕ × Bool × ℕ)
  after_name m = read_bit >>= λ i. below 4 65537 >>= λ w. give (m, i, w)

  abbrev after_bit : ℕ → Bool → Parser (ℕ × Bool × ℕ)
  after_bit m i = below 4 65537 >>= λ w. give (m, i, w)

  pub head_short : length s < at + 7 → None ≡ after at (read_head names) s
  unfolding read_head read_bit
  head_short h = after_short s at
      (needs_next 2 after_name (λ a. stands_below s 2 names a _ _ (stands_2 s a))
      (λ m. needs_next 1 (after_bit m) (stands_bit s) (λ i. needs_first (λ w. give (m, i, w)) (needs_below 4 65537))))
      h

  module _ (m : ℕ) (room : 7 ≤ length s) (fits : at ≤ length s - 7) (is_m : m ≡ be16 s at) where
    pub head_name : names ≤ m → None ≡ after at (read_head names) s
    unfolding read_head
    head_name l = after_stop (below 2 names) after_name s at (omega arith) (below_2_high s names at (omega arith) (omega arith))

    past_name : m < names → after at (read_head names) s ≡ after (at + 2) (after_name (be16 s at)) s
    unfolding read_head
    past_name l = after_bind (below 2 names) after_name s at (be16 s at) (at + 2) (omega arith) (below_2 s names at (omega arith) (omega arith)) (omega arith)

    module _ (i : ℕ) (known : m < names) (is_i : i ≡ byte s (at + 2)) where
      pub head_bit : 1 < i → None ≡ after at (read_head names) s
      head_bit l = after_stop read_bit (after_bit (be16 s at)) s (at + 2) (omega arith) (bit_high s (at + 2) (omega arith) (omega arith)) ∙ sym (past_name known)

      past_bit : i ≤ 1 → after at (read_head names) s ≡ after (at + 3) (after_bit (be16 s at) (eqb (byte s (at + 2)) 1)) s
      past_bit l =
          let e : at + 2 + 1 ≡ at + 3 = omega arith in
          past_name known ∙ after_bind read_bit (after_bit (be16 s at)) s (at + 2) (eqb (byte s (at + 2)) 1) (at + 3) (omega arith)
          (rw e at (bit_in s (at + 2) (omega arith) (omega arith))) (omega arith)

      module _ (w : ℕ) (bit : i ≤ 1) (is_w : w ≡ be32 s (at + 3)) where
        pub head_wires : 65536 < w → None ≡ after at (read_head names) s
        head_wires l =
            after_stop (below 4 65537) (λ x. give (be16 s at, eqb (byte s (at + 2)) 1, x)) s (at + 3) (omega arith)
            (below_high 4 65537 (drop (at + 3) s) _ _ (in_4 s (at + 3) (omega arith)) (omega arith)) ∙ sym (past_bit bit)

        pub head_done : w ≤ 65536 → Some (at + 7) ≡ after at (read_head names) s
        head_done l =
            let e : at + 3 + 4 ≡ at + 7 = omega arith in
            after_give (be16 s at, eqb (byte s (at + 2)) 1, be32 s (at + 3)) s (at + 7) (omega arith)
            ∙ sym (past_bit bit ∙ after_bind (below 4 65537) (λ x. give (be16 s at, eqb (byte s (at + 2)) 1, x)) s (at + 3) (be32 s (at + 3)) (at + 7) (omega arith)
            (rw e at (below_in 4 65537 (drop (at + 3) s) _ _ (in_4 s (at + 3) (omega arith)) (omega arith))) (omega arith))

-- every one, for the check of the walk
pub ruleset ways = (head_short, head_name, head_bit, head_wires, head_done)

-- ---- a net of either version, by its head

-- the value of a head of which the last field is w
abbrev whole : ℕ → Bool → ℕ → Parser (ℕ × Bool × ℕ)
whole m i w = give (m, i, w)

module _ {A : Type 0} (names : ℕ) (rest : ℕ → Bool → ℕ → Parser A) where
  -- a net as its version reads it
  abbrev pub headed : Parser A
  headed = below 2 names >>= λ m. read_bit >>= λ i. below 4 65537 >>= λ w. rest m i w

  abbrev on_head : ℕ × Bool × ℕ → Parser A
  on_head h = rest h.0 h.1 h.2

  parted : (bs : List ℕ) → headed bs ≡ (read_head names >>= on_head) bs
  unfolding read_head
  parted bs = by_name (below 2 names bs)
    where
      by_wires : (m : ℕ) (i : Bool) (o : Parsed (ℕ × List ℕ)) → then o (rest m i) ≡ then (then o (whole m i)) on_head
      by_wires m i none = refl
      by_wires m i (some q) = refl

      by_bit : (m : ℕ) (o : Parsed (Bool × List ℕ)) → then o (λ i. below 4 65537 >>= rest m i) ≡ then (then o (λ i. below 4 65537 >>= whole m i)) on_head
      by_bit m none = refl
      by_bit m (some q) = by_wires m q.0 (below 4 65537 q.1)

      by_name : (o : Parsed (ℕ × List ℕ))
          → then o (λ m. read_bit >>= λ i. below 4 65537 >>= rest m i) ≡ then (then o (λ m. read_bit >>= λ i. below 4 65537 >>= whole m i)) on_head
      by_name none = refl
      by_name (some q) = by_bit q.0 (read_bit q.1)

  module _ (s : List ℕ) (at : ℕ) where
    -- read alike, walked alike
    by_head : after at headed s ≡ after at (read_head names >>= on_head) s
    unfolding after
    by_head = ap (λ o. if_lt (length s) at None (place s o)) (parted (drop at s))

    pub head_bad : (w : Option ℕ) → w ≡ after at (read_head names) s → w ≡ None → None ≡ after at headed s
    head_bad w ew eb = after_bad (read_head names) on_head s at w ew eb ∙ sym by_head

    pub head_go : (w : Option ℕ) (e : ℕ) → w ≡ after at (read_head names) s → w ≡ Some e
        → after at headed s ≡ after e (rest (be16 s at) (eqb (byte s (at + 2)) 1) (be32 s (at + 3))) s
    head_go w e ew ea = by_head ∙ after_go (read_head names) on_head s at _ (at + 7) e w (stands_head s names at) ew ea
