-- Words and bytes that carry a run between calls, what a call answers and leaves, and what each test of a later call finds there.
use Rattle.std.specs.Prelude.{ℕ, ◌+◌, ◌*◌, ◌<◌, ◌≤◌, ◌≡◌, get_or, take, drop}
use Rattle.std.proofs.Math.Path.{refl, subst}
use Rattle.std.proofs.Common.{sym, ap, ◌∙◌, arith, length-take, take-append-drop}
use Rattle.std.proofs.Math.Bool.{true}
use Rattle.std.proofs.Math.Option.{some}
use mathlib.Core.List.{List, ◌++◌}
use Rattle.std.proofs.Math.ListN.{length}
use Rattle.std.proofs.Math.Dec.{leb}
use borrow.Author.Tests.{eq-eqb, le-leb}
use Rattle.list_laws.specs.Tests.{both_are}
use Rattle.net_file.specs.Lists.{Result, ok, refuse}
use Rattle.net_file.specs.Values.{FlatNet, File}
use Rattle.net_file.specs.Checks.{flat, read, write}
use Rattle.net_file_laws.specs.Bytes.{Bytes}
use Rattle.net_file_laws.proofs.RoundTrip.{flat_write_read}
use Rattle.definitions.specs.State.{Pools, Engine}
use Rattle.definitions.specs.Calls.{Held, Left, unchanged, zeros, image, Outcome, pools_fit, same_pools, resume}
use Rattle.good_laws.specs.Good.{rest}
use Rattle.fuel_laws.specs.Reached.{Reached}
use Rattle.reached_laws.specs.Image.{reached_image}
use Rattle.words.specs.Choose.{lt_split}
use Rattle.layout.specs.Layout.{file_length}
use Rattle.image.specs.Image.{resumable}
use Rattle.lent.specs.Lent.{Lent, words_of, room, held_length, zero_words, zero_bytes}
use Rattle.lent.specs.declared.Pools as Lent
use Rattle.lent.specs.declared.Answer.{Answer}
use Rattle.lent.specs.declared.Answer.TheVariants.{Done, Refused}
use Rattle.acts_means.specs.Holds.{Holds}
use Rattle.held_means.specs.Held.{held_resumable}
use Rattle.start_means.specs.Start.{pools_of}
use Rattle.optimize_means.specs.Room.{space, room_is}

-- the words and bytes carry the run h in these pools: its file's bytes s, and words that hold its engine, which was reached
pub record Carries (q : Lent.Pools) (ws bs : List ℕ) (h : Held) : Type 0 where
  pub s : List ℕ
  pub are : Bytes s
  pub reads : read flat s ≡ ok h.file
  pub kept : take (length s) bs ≡ s
  pub fit : pools_fit (pools_of q) ≡ true
  pub reached : Reached (pools_of q) h.file h.engine
  pub holds : Holds s h.file rest ws h.engine
  pub mark : get_or ws 0 0 ≡ 1
  pub long : file_length ws ≡ length s

-- a call's answer as the words give it: a number, or the number by which it is refused
abbrev pub answer_by : {A : Type 0} → (A → ℕ) → Result A → Answer
answer_by num (ok x) = Done (num x)
answer_by num (refuse r) = Refused r

-- what a call leaves where words and bytes were ws and bs: both as they were; zeros up to the documented length; a run, and the bytes past
-- its file
abbrev pub Leaves : Lent.Pools → List ℕ → List ℕ → List ℕ → List ℕ → Left → Type 0
Leaves q ws bs w b unchanged = (w ≡ ws) × (b ≡ bs)
Leaves q ws bs w b (zeros n) = (v : List ℕ) × (w ≡ zero_words q v) × (b ≡ zero_bytes n bs)
Leaves q ws bs w b (image h) = Carries q w b h × (drop (length (write flat h.file)) b ≡ drop (length (write flat h.file)) bs)

-- answer and what is left are those of level Engine
abbrev pub Outcomes : {A : Type 0} → (A → ℕ) → Lent.Pools → List ℕ → List ℕ → Lent → Outcome A → Type 0
Outcomes num q ws bs x o = (x.is ≡ answer_by num o.0) × Leaves q ws bs x.ws x.bs o.1

module _ (q : Lent.Pools) (ws bs : List ℕ) (h : Held) (c : Carries q ws bs h) where
  pub of_pools : h.engine.pools ≡ pools_of q
  of_pools = (reached_image c.s c.are h.file c.reads (pools_of q) c.fit c.reached).file.pools

  words_enough : words_of q ≤ length ws
  unfolding words_of
  words_enough =
      subst (λ (p : Pools). 5216 + 32 * p.nodes + 2 * p.entries + 3 * p.waits ≤ length ws) of_pools c.holds.means.header.long

  bytes_enough : length c.s ≤ length bs
  bytes_enough = let a : length (take (length c.s) bs) ≡ length c.s = ap (λ (l : List ℕ). length l) c.kept in let b = length-take (length c.s) bs in omega arith

  -- 1
  pub carries_room : room q ws ≡ true
  carries_room = room_is q ws ∙ both_are _ _ c.fit (le-leb (words_of q) (length ws) words_enough)

  -- the held file
  pub carries_length : held_length ws bs ≡ length c.s
  unfolding held_length
  carries_length =
      let l = c.long in
      let b = bytes_enough in
      lt_split (file_length ws) (length bs) (file_length ws) (length bs) (λ (n : ℕ). n ≡ length c.s) (λ _. l) (λ i. omega arith)

  -- the bytes that a file is written in
  pub carries_bytes : write flat h.file ≡ c.s
  carries_bytes = (flat_write_read c.s c.are h.file c.reads).bytes

  carries_kept : take (length (write flat h.file)) bs ≡ write flat h.file
  carries_kept = subst (λ (l : List ℕ). take (length l) bs ≡ l) (sym carries_bytes) c.kept

  -- 16, on the words
  pub carries_resumable : resumable q.nodes q.entries q.waits ws bs ≡ true
  carries_resumable =
      held_resumable c.s c.are h.file c.reads (pools_of q) c.fit c.reached ws bs c.holds c.mark c.long c.kept

  -- pools that do not differ
  pub carries_pools : same_pools (pools_of q) h.engine.pools ≡ true
  unfolding same_pools
  carries_pools =
      rw of_pools (both_are _ _ (both_are _ _ (eq-eqb q.nodes q.nodes refl) (eq-eqb q.entries q.entries refl)) (eq-eqb q.waits q.waits refl))

  -- and at level Engine: the workspace that these words and bytes are goes on with the run
  pub carries_resumes : resume (space ws bs (some h)) (pools_of q) ≡ ok h
  unfolding resume words_of
  carries_resumes =
      let words : leb (5216 + 32 * q.nodes + 2 * q.entries + 3 * q.waits) (length ws) ≡ true = le-leb _ _ words_enough in
      let one = both_are _ _ c.fit (both_are _ _ words (le-leb 0 (length bs) (omega arith))) in
      let file : leb (length (write flat h.file)) (length bs) ≡ true =
      subst (λ (l : List ℕ). leb (length l) (length bs) ≡ true) (sym carries_bytes) (le-leb _ _ bytes_enough) in
      let two = both_are _ _ carries_pools (both_are _ _ words file) in
      rw (one, two) refl

-- two runs of one file with the same bytes past it have the same bytes
pub bytes_same : (q : Lent.Pools) (ws bs w b : List ℕ) (h g : Held) → Carries q ws bs h → Carries q w b g → g.file ≡ h.file
    → drop (length (write flat g.file)) b ≡ drop (length (write flat g.file)) bs → b ≡ bs
bytes_same q ws bs w b h g c d e p =
    let n = length (write flat g.file) in
    let y : take n bs ≡ write flat g.file = subst (λ (f : File FlatNet). take (length (write flat f)) bs ≡ write flat f) (sym e) (carries_kept q ws bs h c) in
    sym (take-append-drop n b) ∙ ap (λ (l : List ℕ). l ++ drop n b) (carries_kept q w b g d ∙ sym y) ∙ ap (λ (l : List ℕ). take n bs ++ l) p ∙ take-append-drop n bs
