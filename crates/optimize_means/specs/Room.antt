-- 1: what the words are tested for before anything else is what level Engine asks of pools and workspace.
use Rattle.std.specs.Prelude.{ℕ, ◌+◌, ◌*◌, ◌≤◌, ◌≡◌, refl, Bool, true, false, ◌&&◌, List, length}
use Rattle.std.proofs.Common.{sym, ◌∙◌, arith}
use Rattle.std.proofs.Math.Path.{ap}
use Rattle.std.proofs.lemmas.Bool.{false≢true}
use Rattle.std.proofs.Math.Option.{Option}
use Rattle.std.proofs.Math.Dec.{leb}
use borrow.Author.Tests.{leb-true, le-leb}
use Rattle.list_laws.specs.Tests.{both, both_are, same_test}
use Rattle.words.specs.Choose.{pick_and, lt_no, lt_split}
use Rattle.definitions.specs.State.{Pools}
use Rattle.definitions.specs.Calls.{Held, Workspace, pools_fit}
use Rattle.lent.specs.Lent.{between, pools_fit_words, words_of, room}
use Rattle.lent.specs.declared.Pools as Lent
use Rattle.start_means.specs.Start.{pools_of}

-- lent words and bytes as a workspace: the documented lengths are those of docs/IMAGE.md
abbrev pub space : List ℕ → List ℕ → Option Held → Workspace
space ws bs held = record { fits = λ p n. leb (5216 + 32 * p.nodes + 2 * p.entries + 3 * p.waits) (length ws) && leb n (length bs); held = held }

-- the ranges of document 01
pub record Ranges (q : Lent.Pools) : Type 0 where
  pub some_nodes : 1 ≤ q.nodes
  pub few_nodes : q.nodes ≤ 4096
  pub some_entries : 1 ≤ q.entries
  pub few_entries : q.entries ≤ 16384
  pub few_waits : q.waits ≤ 4096

between_in : (x low high : ℕ) → between x low high ≡ true → (low ≤ x) × (x ≤ high)
unfolding between
between_in x low high = lt_split x low false (leb x high) (λ (b : Bool). b ≡ true → (low ≤ x) × (x ≤ high)) (λ h u. absurd (false≢true u)) (λ h u. (h, leb-true x high u))

in_between : (x low high : ℕ) → low ≤ x → x ≤ high → between x low high ≡ true
unfolding between
in_between x low high a b = sym (lt_no x low false (leb x high) a refl) ∙ le-leb x high b

module _ (q : Lent.Pools) where
  N : Bool
  N = between q.nodes 1 4096

  E : Bool
  E = between q.entries 1 16384

  W : Bool
  W = between q.waits 0 4096

  words_are : pools_fit_words q ≡ (N && (E && W))
  unfolding pools_fit_words N E W
  words_are =
      let n = between q.nodes 1 4096 in
      let e = between q.entries 1 16384 in
      let w = between q.waits 0 4096 in
      pick_and n _ ∙ ap (λ (b : Bool). n && b) (pick_and e w)

  words_ranges : pools_fit_words q ≡ true → Ranges q
  unfolding N E W
  words_ranges h =
      let a = both N (E && W) (sym words_are ∙ h) in
      let b = both E W a.1 in
      let n = between_in q.nodes 1 4096 a.0 in
      let e = between_in q.entries 1 16384 b.0 in
      let w = between_in q.waits 0 4096 b.1 in
      record { some_nodes = n.0; few_nodes = n.1; some_entries = e.0; few_entries = e.1; few_waits = w.1 }

  ranges_words : Ranges q → pools_fit_words q ≡ true
  unfolding N E W
  ranges_words r =
      words_are ∙ both_are N (E && W) (in_between q.nodes 1 4096 r.some_nodes r.few_nodes)
      (both_are E W (in_between q.entries 1 16384 r.some_entries r.few_entries) (in_between q.waits 0 4096 (omega arith) r.few_waits))

  engine_ranges : pools_fit (pools_of q) ≡ true → Ranges q
  unfolding pools_fit
  engine_ranges h =
      let a = both (leb 1 q.nodes && leb q.nodes 4096 && leb 1 q.entries && leb q.entries 16384) (leb q.waits 4096) h in
      let b = both (leb 1 q.nodes && leb q.nodes 4096 && leb 1 q.entries) (leb q.entries 16384) a.0 in
      let c = both (leb 1 q.nodes && leb q.nodes 4096) (leb 1 q.entries) b.0 in
      let d = both (leb 1 q.nodes) (leb q.nodes 4096) c.0 in
      record {
        some_nodes = leb-true 1 q.nodes d.0;
        few_nodes = leb-true q.nodes 4096 d.1;
        some_entries = leb-true 1 q.entries c.1;
        few_entries = leb-true q.entries 16384 b.1;
        few_waits = leb-true q.waits 4096 a.1;
      }

  ranges_engine : Ranges q → pools_fit (pools_of q) ≡ true
  unfolding pools_fit
  ranges_engine r =
      both_are _ _
      (both_are _ _ (both_are _ _ (both_are _ _ (le-leb 1 q.nodes r.some_nodes) (le-leb q.nodes 4096 r.few_nodes)) (le-leb 1 q.entries r.some_entries)) (le-leb q.entries 16384 r.few_entries))
      (le-leb q.waits 4096 r.few_waits)

  -- the test of the words
  pub room_is : (ws : List ℕ) → room q ws ≡ (pools_fit (pools_of q) && leb (words_of q) (length ws))
  unfolding room
  room_is ws =
      pick_and (pools_fit_words q) (leb (words_of q) (length ws))
      ∙ ap (λ (b : Bool). b && leb (words_of q) (length ws)) (same_test (pools_fit_words q) (pools_fit (pools_of q)) (λ h. ranges_engine (words_ranges h)) (λ h. ranges_words (engine_ranges h)))

  -- where there is room
  pub room_ranges : (ws : List ℕ) → room q ws ≡ true → (pools_fit (pools_of q) ≡ true) × Ranges q × (words_of q ≤ length ws)
  room_ranges ws h =
      let a = both (pools_fit (pools_of q)) (leb (words_of q) (length ws)) (sym (room_is ws) ∙ h) in
      (a.0, engine_ranges a.0, leb-true (words_of q) (length ws) a.1)
