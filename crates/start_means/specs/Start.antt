-- The words that begin starts from, before a net is loaded: fresh for the engine with nothing in it, and tidy.
use Rattle.std.specs.Prelude.{ℕ, zero, suc, ◌+◌, ◌*◌, ◌-◌, ◌%◌, ◌<◌, ◌≤◌, ◌≡◌, refl, ◌≢◌, Bool, true, false, List, [], ◌∷◌, get_or, set, drop, eqb}
use Rattle.std.proofs.Common.{sym, ◌∙◌, length-drop, get_or-drop, eqb-true}
use Rattle.std.proofs.Math.Path.{ap}
use Rattle.std.proofs.Math.Option.{Option, none, some}
use native.Mathlib.Omega.{arith}
use Rattle.std.proofs.Math.ListN.{length}
use Rattle.net_file.specs.Lists.{ok}
use Rattle.net_file.specs.Values.{FlatNet, File, no_limit}
use Rattle.net_file.specs.Read.{limit_of}
use Rattle.net_file.specs.Checks.{flat, read}
use Rattle.net_file_laws.specs.Bytes.{Bytes}
use Rattle.fields.specs.Fields.{be32}
use Rattle.readers_laws.specs.Flat.{flat_stands}
use Rattle.clear.specs.Zeroed.{zeroed}
use Rattle.lent.specs.Lent.{words_of}
use Rattle.lent.specs.declared.Pools as Asked
use Rattle.begin.specs.Begin.{start}
use Rattle.definitions.specs.State.{Pools}
use Rattle.definitions.specs.Load.{empty}
use Rattle.means.specs.Means.{limit_word}
use Rattle.load_means.specs.Start.{Fresh}
use Rattle.image_means.specs.Tidy.{Tidy}
use Rattle.resumable_means.specs.Fresh.{fresh_tidy}
use Rattle.resumable_means.specs.Length.{length_word}

zeroed_long : (k : ℕ) (xs : List ℕ) → length (zeroed k xs) ≡ length xs
unfolding zeroed
zeroed_long zero xs = refl
zeroed_long (suc k) [] = refl
zeroed_long (suc k) (x ∷ xs) = ap suc (zeroed_long k xs)

zeroed_at : (k : ℕ) (xs : List ℕ) (i : ℕ) → i < k → get_or (zeroed k xs) i 0 ≡ 0
unfolding zeroed
zeroed_at zero xs i h = absurd (omega arith)
zeroed_at (suc k) [] i h = refl
zeroed_at (suc k) (x ∷ xs) zero h = refl
zeroed_at (suc k) (x ∷ xs) (suc i) h = zeroed_at k xs i (omega arith)

-- a limit as its word says it
limit_back : (n : ℕ) → n ≡ limit_word (limit_of n)
unfolding limit_of
limit_back n = go (eqb n no_limit) refl
  where
    go : (t : Bool) → eqb n no_limit ≡ t → n ≡ limit_word (elim t as (λ _. Option ℕ) [ true ↦ none | false ↦ some n ])
    go true e = eqb-true n no_limit e
    go false e = refl

-- six words written from word 0 on
abbrev six : List ℕ → ℕ → ℕ → ℕ → ℕ → ℕ → ℕ → List ℕ
six w a b c d l m = set (set (set (set (set (set w 0 a) 1 b) 2 c) 3 d) 4 l) 5 m

module _ (a b c d l m : ℕ) where
  six_is : (w : List ℕ) → 6 ≤ length w → six w a b c d l m ≡ a ∷ b ∷ c ∷ d ∷ l ∷ m ∷ drop 6 w
  six_is [] h = absurd (omega arith)
  six_is (x₀ ∷ []) h = absurd (omega arith)
  six_is (x₀ ∷ x₁ ∷ []) h = absurd (omega arith)
  six_is (x₀ ∷ x₁ ∷ x₂ ∷ []) h = absurd (omega arith)
  six_is (x₀ ∷ x₁ ∷ x₂ ∷ x₃ ∷ []) h = absurd (omega arith)
  six_is (x₀ ∷ x₁ ∷ x₂ ∷ x₃ ∷ x₄ ∷ []) h = absurd (omega arith)
  six_is (x₀ ∷ x₁ ∷ x₂ ∷ x₃ ∷ x₄ ∷ x₅ ∷ w) h = refl

  six_at : (w : List ℕ) → 6 ≤ length w → (i : ℕ) → get_or (six w a b c d l m) i 0 ≡ get_or (a ∷ b ∷ c ∷ d ∷ l ∷ m ∷ drop 6 w) i 0
  six_at w h i = ap (λ (x : List ℕ). get_or x i 0) (six_is w h)

  six_long : (w : List ℕ) → 6 ≤ length w → length (six w a b c d l m) ≡ length w
  six_long w h = ap (λ (x : List ℕ). length x) (six_is w h) ∙ (let e = length-drop 6 w in omega arith)

  six_past : (w : List ℕ) → 6 ≤ length w → (j : ℕ) → get_or (six w a b c d l m) (6 + j) 0 ≡ get_or w (6 + j) 0
  six_past w h j = six_at w h (6 + j) ∙ go (6 + j) j (omega arith) ∙ get_or-drop 6 w j 0
    where
      go : (i j : ℕ) → i ≡ suc (suc (suc (suc (suc (suc j))))) → get_or (a ∷ b ∷ c ∷ d ∷ l ∷ m ∷ drop 6 w) i 0 ≡ get_or (drop 6 w) j 0
      go i j e = rw e refl

-- the engine's pools
abbrev pub pools_of : Asked.Pools → Pools
pools_of q = record { nodes = q.nodes; entries = q.entries; waits = q.waits }

module _ (q : Asked.Pools) (ws s : List ℕ) (is : Bytes s) (f : File FlatNet) (reads : read flat s ≡ ok f) (room : words_of q ≤ length ws)
    (few_nodes : q.nodes ≤ 4096) (few_entries : q.entries ≤ 16384) (few_waits : q.waits ≤ 4096) where
  long : 6 ≤ length (zeroed (words_of q) ws)
  unfolding words_of
  long = let e = zeroed_long (words_of q) ws in omega arith

  pub start_fresh : Fresh (start q ws s) (pools_of q) f.limit
  unfolding start words_of
  start_fresh =
      let z = zeroed (words_of q) ws in
      let l = length s % 4294967296 in
      let n = be32 s 5 in
      let w = six_at 1 q.nodes q.entries q.waits l n z long in
      record {
        long = let e = six_long 1 q.nodes q.entries q.waits l n z long in let g = zeroed_long (words_of q) ws in omega arith;
        nodes = w 1;
        entries = w 2;
        waits = w 3;
        limit_is = w 5 ∙ limit_back n ∙ ap limit_word (sym (flat_stands s f reads).limit);
        clear = λ i h u. let j = i - 6 in let e : i ≡ 6 + j = omega arith in
            rw e (six_past 1 q.nodes q.entries q.waits l n z long j ∙ zeroed_at (words_of q) ws (6 + j) (omega arith));
        few_nodes = few_nodes;
        few_entries = few_entries;
        few_waits = few_waits;
      }

  -- and tidy
  pub start_tidy : Tidy s (start q ws s) (empty (pools_of q) f)
  unfolding start
  start_tidy =
      let w = six_at 1 q.nodes q.entries q.waits (length s % 4294967296) (be32 s 5) (zeroed (words_of q) ws) long in
      fresh_tidy s (start q ws s) (pools_of q) f start_fresh (w 0) (w 4 ∙ length_word s is f reads)
