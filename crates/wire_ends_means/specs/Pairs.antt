-- The pairs in a table that is clear: it means that no end was met yet.
use Prim.Native.Nat.{ℕ, zero, suc, ◌+◌, ◌<◌, ◌≤◌}
use Rattle.std.specs.Prelude.{◌≡◌, refl, ◌≢◌, ◌⊎◌, true, false, length, set, replicate}
use Rattle.std.proofs.Common.{sym, ◌∙◌, inl, inr}
use Rattle.std.proofs.Math.Path.{subst}
use Rattle.std.proofs.Math.Bool.{true≢false}
use mathlib.Core.List.Memᴰ
use mathlib.Core.List.{List, [], ◌∷◌, Memᴰ}
use Rattle.std.proofs.Math.ListN.{get_or, length-set}
use Rattle.std.proofs.lemmas.List.{length-replicate}
use Rattle.std.proofs.Math.Seq.{get_or-set_same, get_or-set_other}
use Rattle.std.proofs.Math.Dec.{eqb}
use borrow.Author.Tests.{eqb-true, eq-eqb}
use native.Mathlib.Omega.{arith}
use Rattle.fields.specs.Fields.{be16}
use Rattle.ends.specs.Ends.{on}
use Rattle.wire_ends.specs.WireEnds.{put_pairs}
use Rattle.load_laws.specs.Finds.{any_found}
use Rattle.load_laws.specs.Twice.{PairsApart}
use Rattle.wire_ends_means.specs.Table.{Own, Table}

-- pairs stand from a place on, inside the file
abbrev pub PairNumbers : List ℕ → ℕ → List (ℕ × ℕ) → Type 0
PairNumbers file at [] = Unit {0}
PairNumbers file at (p ∷ ps) = (p.0 ≡ be16 file at) × (p.1 ≡ be16 file (at + 2)) × (at + 4 ≤ length file) × PairNumbers file (at + 4) ps

-- the table has their larger wires
abbrev pub PairsFit : ℕ → List (ℕ × ℕ) → Type 0
PairsFit m [] = Unit {0}
PairsFit m (p ∷ ps) = (p.1 < m) × PairsFit m ps

-- a larger wire is in one pair
abbrev Seconds : List (ℕ × ℕ) → Type 0
Seconds ps = (p q : ℕ × ℕ) → Memᴰ p ps → Memᴰ q ps → p.1 ≡ q.1 → p.0 ≡ q.0

-- what the pairs leave
record Put (ps : List (ℕ × ℕ)) (wires out : List ℕ) : Type 0 where
  sized : length out ≡ length wires
  other : (w : ℕ) → Own ps w → get_or out w 0 ≡ get_or wires w 0
  larger : (p : ℕ × ℕ) → Memᴰ p ps → get_or out p.1 0 ≡ 2147483648 + p.0

more_pairs : (wires file : List ℕ) (at a x y k : ℕ) → x ≡ be16 file at → y ≡ be16 file (at + 2) → on file at 4 ≡ a
    → put_pairs (set wires y (2147483648 + x)) file a k ≡ put_pairs wires file at (suc k)
unfolding put_pairs
more_pairs wires file at a x y k e f g = rw (e, f, ← g) refl

module _ (file : List ℕ) where
  put : (ps : List (ℕ × ℕ)) (at : ℕ) (wires : List ℕ) → Seconds ps → PairNumbers file at ps → PairsFit (length wires) ps → Put ps wires (put_pairs wires file at (length ps))
  unfolding put_pairs
  put [] at wires d s f = record { sized = refl; other = λ w o. refl; larger = λ p m. absurd (Memᴰ.not-nil m) }
  put (x ∷ ps) at wires d s f =
      let a : on file at 4 ≡ at + 4 = let h = s.2 in omega arith in
      subst (λ (out : List ℕ). Put (x ∷ ps) wires out) (more_pairs wires file at (at + 4) x.0 x.1 (length ps) s.0 s.1 a)
      (go (put_pairs (set wires x.1 (2147483648 + x.0)) file (at + 4) (length ps))
      (put ps (at + 4) (set wires x.1 (2147483648 + x.0)) (λ p q m n. d p q (Memᴰ.tail m) (Memᴰ.tail n)) s.3 (rw (length-set wires x.1 (2147483648 + x.0)) f.1)))
    where
      go : (out : List ℕ) → Put ps (set wires x.1 (2147483648 + x.0)) out → Put (x ∷ ps) wires out
      go out r = record {
        sized = r.sized ∙ length-set wires x.1 (2147483648 + x.0);
        other = λ w o. r.other w (λ p m. o p (Memᴰ.tail m)) ∙ get_or-set_other wires x.1 w (2147483648 + x.0) 0 (o x (Memᴰ.head refl));
        larger = λ p m. at_pair p (Memᴰ.cases_cons m);
      }
        where
          first : ((q : ℕ × ℕ) × Memᴰ q ps × (eqb x.1 q.1 ≡ true)) ⊎ ((q : ℕ × ℕ) → Memᴰ q ps → eqb x.1 q.1 ≡ false) → get_or out x.1 0 ≡ 2147483648 + x.0
          first (inl z) =
              let e : x.1 ≡ z.0.1 = eqb-true x.1 z.0.1 z.2 in
              let h : x.0 ≡ z.0.0 = d x z.0 (Memᴰ.head refl) (Memᴰ.tail z.1) e in
              rw (e, h) (r.larger z.0 z.1)
          first (inr z) =
              r.other x.1 (λ q m e. true≢false (sym (eq-eqb x.1 q.1 e) ∙ z q m)) ∙ get_or-set_same wires x.1 (2147483648 + x.0) 0 f.0

          at_pair : (p : ℕ × ℕ) → (p ≡ x) ⊎ Memᴰ p ps → get_or out p.1 0 ≡ 2147483648 + p.0
          at_pair p (inl e) = rw e (first (any_found (λ q. eqb x.1 q.1) ps))
          at_pair p (inr m) = r.larger p m

zeros : (m w : ℕ) → ◌≡◌ {A = ℕ} (get_or (replicate m 0) w 0) 0
zeros zero w = refl
zeros (suc m) zero = refl
zeros (suc m) (suc w) = zeros m w

pub put_pairs_table : (ps : List (ℕ × ℕ)) → PairsApart ps → (m : ℕ) (file : List ℕ) (at : ℕ) → PairNumbers file at ps → PairsFit m ps
    → Table ps m (put_pairs (replicate m 0) file at (length ps)) []
put_pairs_table ps apart m file at s f =
    let r = put file ps at (replicate m 0) apart.seconds s (rw (length-replicate {A = ℕ} m 0) f) in
    record {
      sized = r.sized ∙ length-replicate {A = ℕ} m 0;
      larger = r.larger;
      small = λ w o. rw (r.other w o, zeros m w) (omega arith);
      none = λ w o z. r.other w o ∙ zeros m w;
      one = λ w o y i e z. absurd (Memᴰ.not-nil i);
    }
