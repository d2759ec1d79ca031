-- "every vacant slot once in the free chain": the chain has vacant slots only, each once, and as many as there are.
use Rattle.std.specs.Prelude.{ℕ, zero, suc, ◌+◌, ◌≤◌, ◌<◌, ◌≡◌, refl, ◌⊎◌, Bool, true, false, not, length, get_or, eqb}
use Rattle.std.proofs.Common.{ap, ◌∙◌, subst, inl, inr, arith}
use Rattle.std.proofs.Math.Option.{Option, none, some}
use mathlib.Core.List.Memᴰ
use mathlib.Core.List.{List, [], ◌∷◌, Memᴰ}
use Rattle.net_file.specs.Lists.{bit, count, any}
use Rattle.definitions.specs.Lists.{is_some}
use Rattle.dirty_laws.specs.Tests.{any_true, any_false}
use Rattle.dirty_laws.specs.Tally.{tally, tally_off, off, off_other}
use Rattle.good_laws.specs.Good.{Once, Slotted}

-- different live numbers are no more than the live ones
once_most : (xs : List ℕ) (live : ℕ → Bool) (N : ℕ) → Once xs → ((n : ℕ) → Memᴰ n xs → (n < N) × (live n ≡ true)) → length xs ≤ tally live N
once_most [] live N o h = omega arith
once_most (x ∷ xs) live N o h =
    let a = h x (Memᴰ.head refl) in
    let b = tally_off live x N a.0 a.1 in
    let c = once_most xs (off live x) N o.1 (λ n m. ((h n (Memᴰ.tail m)).0, off_other live x n (λ q. o.0 (subst (λ (j : ℕ). Memᴰ j xs) q m)) ∙ (h n (Memᴰ.tail m)).1)) in
    omega arith

tally_first : (f : ℕ → Bool) (n : ℕ) → tally f (suc n) ≡ bit (f 0) + tally (λ i. f (suc i)) n
tally_first f zero = omega arith
tally_first f (suc n) = let h = tally_first f n in omega arith

-- filled and vacant slots are all slots
vacant_count : (own : List (Option ℕ)) → count is_some own + tally (λ n. not (is_some (get_or own n none))) (length own) ≡ length own
vacant_count [] = refl
vacant_count (o ∷ own) =
    let a = tally_first (λ n. not (is_some (get_or (o ∷ own) n none))) (length own) in
    let b = vacant_count own in
    let c = one o in
    omega arith
  where
    one : (o : Option ℕ) → bit (is_some o) + bit (not (is_some o)) ≡ 1
    one none = refl
    one (some k) = refl

-- every vacant slot is in the chain
pub every_vacant : {N M : ℕ} {own : List (Option ℕ)} {ms : List Bool} {ch : List ℕ} → Slotted N M own ms ch
    → (n : ℕ) → n < N → get_or own n none ≡ none → Memᴰ n ch
every_vacant {N} {own = own} {ch = ch} s n l v = go (any (eqb n) ch) refl
  where
    live : ℕ → Bool
    live i = not (is_some (get_or own i none))

    go : (t : Bool) → any (eqb n) ch ≡ t → Memᴰ n ch
    go true e = any_true n ch e
    go false e =
        let a = once_most (n ∷ ch) live N (any_false n ch e, s.once) (λ i m. there i (Memᴰ.cases_cons m)) in
        let b = vacant_count own in
        let c : tally live (length own) ≡ tally live N = ap (tally live) s.slots in
        let d = s.all in
        let f = s.slots in
        absurd (omega arith)
      where
        there : (i : ℕ) → (i ≡ n) ⊎ Memᴰ i ch → (i < N) × (live i ≡ true)
        there i (inl q) = (omega arith, ap live q ∙ ap (λ (o : Option ℕ). not (is_some o)) v)
        there i (inr m) = ((s.vacant i m).0, ap (λ (o : Option ℕ). not (is_some o)) (s.vacant i m).1)
