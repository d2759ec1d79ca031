-- Entries of node lists: one that nobody has goes to the front of the free chain.
use Rattle.std.specs.Prelude.{ℕ, ◌+◌, ◌*◌, ◌<◌, ◌≤◌, ◌≡◌, ◌≢◌, List, length, get_or, set}
use Rattle.std.proofs.Math.Path.{refl}
use Rattle.std.proofs.Common.{◌∙◌, arith}
use Rattle.std.proofs.Math.ListN.{length-set}
use Rattle.std.proofs.Math.Seq.{get_or-set_same, get_or-set_other}
use Rattle.layout.specs.Layout.{node_pool}
use Rattle.pools.specs.Pools.{give_entry}
use Rattle.chains.specs.Pools.{Pool}
use Rattle.chains.specs.Moves.{Loose}
use Rattle.chains.specs.Give.{Given, given}
use Rattle.means.specs.Means.{entries_in}
use Rattle.means.specs.Frame.{Rest, rest_set, rest_trans, OutLists}

module _ (ws : List ℕ) (N E c : ℕ) (pool : node_pool ws ≡ N) (long : 5216 + 32 * N + 2 * E ≤ length ws) (pos : 0 < c) (fits : c ≤ E) where
  -- the pointer of c is written
  w1 : List ℕ
  w1 = set ws (5214 + 32 * N + 2 * c + 1) (get_or ws 10 0)

  pub give_is : give_entry ws c ≡ set (set ws (5214 + 32 * N + 2 * c + 1) (get_or ws 10 0)) 10 c
  unfolding give_entry
  give_is = rw pool refl

  long1 : length w1 ≡ length ws
  unfolding w1
  long1 = length-set ws (5214 + 32 * N + 2 * c + 1) (get_or ws 10 0)

  -- two words are written
  pub give_other : (i : ℕ) → i ≢ 5214 + 32 * N + 2 * c + 1 → i ≢ 10 → get_or (give_entry ws c) i 0 ≡ get_or ws i 0
  unfolding w1
  give_other i a b = rw give_is (get_or-set_other w1 10 i c 0 b ∙ get_or-set_other ws (5214 + 32 * N + 2 * c + 1) i (get_or ws 10 0) 0 a)

  pub give_rest : Rest (OutLists N E) ws (give_entry ws c)
  unfolding w1
  give_rest =
      rw give_is (rest_trans (rest_set (OutLists N E) ws (5214 + 32 * N + 2 * c + 1) (get_or ws 10 0) (λ i o d. o.2 (omega arith)))
      (rest_set (OutLists N E) w1 10 c (λ i o d. o.0 (omega arith))))

  -- c is the first free entry, and before the one that was
  pub give_entry_given : (m : ℕ) → m ≤ 256 → Given (entries_in ws N) (entries_in (give_entry ws c) N) m c
  unfolding w1
  give_entry_given m few =
      let l = long1 in
      record {
        used = give_other 11 (omega arith) (omega arith);
        first = rw give_is (get_or-set_same w1 10 c 0 (omega arith));
        head = λ t h. give_other _ (omega arith) (omega arith);
        tail = λ t h. give_other _ (omega arith) (omega arith);
        node = λ d i j. give_other _ (omega arith) (omega arith);
        afters = λ d i j n. give_other _ (omega arith) (omega arith);
        after = rw give_is (get_or-set_other w1 10 (5214 + 32 * N + 2 * c + 1) c 0 (omega arith) ∙ get_or-set_same ws (5214 + 32 * N + 2 * c + 1) (get_or ws 10 0) 0 (omega arith));
      }

  -- the lists are as they were
  pub give_entry_means : (m : ℕ) → m ≤ 256 → (x : ℕ → List ℕ) (total : ℕ) → Loose (entries_in ws N) m x total c → Pool (entries_in (give_entry ws c) N) m x total
  give_entry_means m few x total l = given few l (give_entry_given m few)
