-- A table by wire says what an association list says: 0 where there is nothing, else a number that stands for what is there.
use Rattle.std.specs.Prelude.{ℕ, zero, suc, ◌+◌, ◌<◌, ◌≤◌, ◌≡◌, refl, List, [], ◌∷◌, length, get_or, set}
use Rattle.std.proofs.Common.{sym, ap, ◌∙◌, arith, length-set, get_or-set_same, get_or-set_other}
use Rattle.std.proofs.Math.Option.{Option, none, some}
use Rattle.std.proofs.Math.Decide.{ℕ_discrete}
use Rattle.conversions.specs.Links.{get, remove, insert}
use Rattle.wire_tables.specs.Tables.{freed}
use Rattle.wire_tables_laws.specs.Get.{get_removed, get_kept, get_inserted, get_beside}

module _ {A : Type 0} (For : A → ℕ → Type 0) where
  abbrev pub Said : Option A → ℕ → Type 0
  Said none v = v ≡ 0
  Said (some x) v = For x v

  -- of n wires, from the place `base` of the words on
  pub record Table (base n : ℕ) (ws : List ℕ) (es : List (ℕ × A)) : Type 0 where
    pub room : base + n ≤ length ws
    pub says : (w : ℕ) → w < n → Said (get es w) (get_or ws (base + w) 0)

  module _ (base n : ℕ) (ws : List ℕ) (es : List (ℕ × A)) (t : Table base n ws es) where
    -- a word that is not of this table
    pub table_keeps : (i v : ℕ) → ((w : ℕ) → w < n → base + w ≡ i → ⊥) → Table base n (set ws i v) es
    table_keeps i v out = record {
      room = let r = t.room in rw (length-set ws i v) r;
      says = λ w h. rw (get_or-set_other ws i (base + w) v 0 (out w h)) (t.says w h);
    }

    -- and one that is: that of wire a
    module _ (a i : ℕ) (below : a < n) (is : i ≡ base + a) where
      at_place : (v : ℕ) → get_or (set ws i v) (base + a) 0 ≡ v
      at_place v = let r = t.room in rw (← is) (get_or-set_same ws i v 0 (omega arith))

      elsewhere : (v w : ℕ) → (w ≡ a → ⊥) → get_or (set ws i v) (base + w) 0 ≡ get_or ws (base + w) 0
      elsewhere v w d = get_or-set_other ws i (base + w) v 0 (λ e. d (omega arith))

      pub table_remove : Table base n (set ws i 0) (remove es a)
      table_remove = record {
        room = let r = t.room in rw (length-set ws i 0) r;
        says = λ w h. elim (ℕ_discrete w a) [
          | yes e ↦ rw (e, get_removed es a) (at_place 0)
          | no d ↦ rw (get_kept es a w d, elsewhere 0 w d) (t.says w h)
        ];
      }

      pub table_insert : (x : A) (v : ℕ) → For x v → Table base n (set ws i v) (insert es a x)
      table_insert x v f = record {
        room = let r = t.room in rw (length-set ws i v) r;
        says = λ w h. elim (ℕ_discrete w a) [
          | yes e ↦ rw (e, get_inserted es a x, at_place v) f
          | no d ↦ rw (get_beside es a w x d, elsewhere v w d) (t.says w h)
        ];
      }

-- ---- tables in which nothing is said

pub length_freed : (ws : List ℕ) (w : ℕ) → length (freed ws w) ≡ length ws
unfolding freed
length_freed ws w = length-set (set ws w 0) (65536 + w) 0 ∙ length-set ws w 0

-- a 0 is stored
pub zero_there : (ws : List ℕ) (i : ℕ) → get_or (set ws i 0) i 0 ≡ 0
zero_there [] i = refl
zero_there (w ∷ ws) zero = refl
zero_there (w ∷ ws) (suc i) = zero_there ws i

-- and what is 0 stays so
pub zero_stays : (ws : List ℕ) (i j : ℕ) → get_or ws i 0 ≡ 0 → get_or (set ws j 0) i 0 ≡ 0
zero_stays ws i j h = elim (ℕ_discrete i j) [ yes e ↦ rw e (zero_there ws j) | no d ↦ get_or-set_other ws j i 0 0 d ∙ h ]

-- no wire is linked, and nothing hangs
pub record Empty (ws : List ℕ) : Type 0 where
  pub room : 131072 ≤ length ws
  pub zeros : (i : ℕ) → i < 131072 → get_or ws i 0 ≡ 0

module _ {A : Type 0} (For : A → ℕ → Type 0) (base n : ℕ) (ws : List ℕ) where
  pub table_empty : base + n ≤ 131072 → Empty ws → Table For base n ws []
  unfolding get
  table_empty h e = let r = e.room in record { room = omega arith; says = λ w l. e.zeros (base + w) (omega arith) }
