-- As many rounds as there are names reach exactly what is reached: each round adds a name or rests.
use Prim.Native.Nat.{ℕ, zero, suc, ◌+◌, ◌<◌, ◌≤◌}
use Rattle.std.specs.Prelude.{◌≡◌, true, ◌↔◌, List, [], length, eqb}
use Rattle.std.proofs.Math.Path.{refl, ap, subst}
use Rattle.std.proofs.Common.{sym, ◌∙◌, arith}
use Rattle.std.proofs.Math.Logic.{inl, inr}
use Rattle.std.proofs.Math.Decide.{dec_lt}
use Rattle.net_file.specs.Lists.{distinct, concat_map}
use Rattle.net_file.specs.Values.{FlatNet, File}
use Rattle.conversions.specs.Prune.{next, Reached, entry, onward, join, reach}
use Rattle.prune_laws.specs.Members.{In, in_many, in_one, in_as, join_keeps, join_adds, join_only, join_same, false_true}
use Rattle.prune_laws.specs.Few.{few_below, join_distinct}

-- whatever a name of the list leads to is in the list
abbrev pub Closed : File FlatNet → List ℕ → Type 0
Closed f seen = (i j : ℕ) → In i seen → In j (next f i) → In j seen

-- names below n that differ
pub record Apart (n : ℕ) (seen : List ℕ) : Type 0 where
  pub differ : distinct eqb seen ≡ true
  pub below : (i : ℕ) → In i seen → i < n

pub apart_join : (n : ℕ) (seen xs : List ℕ) → Apart n seen → ((i : ℕ) → In i xs → i < n) → Apart n (join seen xs)
apart_join n seen xs a h = record {
  differ = join_distinct seen xs a.differ;
  below = λ i k. elim (join_only i seen xs k) [ inl e ↦ a.below i e | inr e ↦ h i e ];
}

pub apart_few : (n : ℕ) (seen : List ℕ) → Apart n seen → length seen ≤ n
apart_few n seen a = few_below n seen a.differ a.below

pub apart_none : (n : ℕ) → Apart n []
apart_none n = record { differ = refl; below = λ i k. false_true k }

-- all that is reached is in a list that holds the entries and is closed
pub reached_in : (f : File FlatNet) (es seen : List ℕ) → ((i : ℕ) → In i es → In i seen) → Closed f seen → (i : ℕ) → Reached f es i → In i seen
reached_in f es seen h c i (entry e) = h i e
reached_in f es seen h c i (onward {i = j} r e) = c j i (reached_in f es seen h c j r) e

module _ (f : File FlatNet) (n : ℕ) (small : (i j : ℕ) → In j (next f i) → j < n) where
  pub round : List ℕ → List ℕ
  round seen = join seen (concat_map (next f) seen)

  pub round_apart : (seen : List ℕ) → Apart n seen → Apart n (round seen)
  unfolding round
  round_apart seen a = apart_join n seen (concat_map (next f) seen) a (λ j k. let r = in_one (next f) j seen k in small r.0 j r.2)

  -- a round that adds nothing
  pub rests : (seen : List ℕ) → round seen ≡ seen → Closed f seen
  unfolding round
  rests seen e i j h k = in_as j _ _ (sym e) (join_adds j seen (concat_map (next f) seen) (in_many (next f) i j seen h k))

  pub reach_rests : (k : ℕ) (seen : List ℕ) → round seen ≡ seen → reach k f seen ≡ seen
  unfolding reach round
  reach_rests zero seen e = refl
  reach_rests (suc k) seen e = ap (reach k f) e ∙ reach_rests k seen e

  pub reach_closed : (k : ℕ) (seen : List ℕ) → Apart n seen → n ≤ length seen + k → Closed f (reach k f seen)
  unfolding reach round
  reach_closed zero seen a h =
      let l = apart_few n (round seen) (round_apart seen a) in
      rests seen (join_same seen (concat_map (next f) seen) (omega arith))
  reach_closed (suc k) seen a h = elim (dec_lt (length seen) (length (round seen))) [
    | yes l ↦ reach_closed k (round seen) (round_apart seen a) (omega arith)
    | no l ↦
        let e : round seen ≡ seen = join_same seen (concat_map (next f) seen) (omega arith) in
        subst (Closed f) (sym (reach_rests (suc k) seen e)) (rests seen e)
  ]

  pub reach_keeps : (k i : ℕ) (seen : List ℕ) → In i seen → In i (reach k f seen)
  unfolding reach
  reach_keeps zero i seen h = h
  reach_keeps (suc k) i seen h = reach_keeps k i (join seen (concat_map (next f) seen)) (join_keeps i seen (concat_map (next f) seen) h)

  pub reach_sound : (es : List ℕ) (k : ℕ) (seen : List ℕ) → ((i : ℕ) → In i seen → Reached f es i) → (i : ℕ) → In i (reach k f seen) → Reached f es i
  unfolding reach
  reach_sound es zero seen h i m = h i m
  reach_sound es (suc k) seen h i m = reach_sound es k (join seen (concat_map (next f) seen)) more i m
    where
      more : (j : ℕ) → In j (join seen (concat_map (next f) seen)) → Reached f es j
      more j q = elim (join_only j seen (concat_map (next f) seen) q) [
        | inl e ↦ h j e
        | inr e ↦ let r = in_one (next f) j seen e in onward (h r.0 r.1) r.2
      ]

  -- the entries, each once
  pub entries_in : (es : List ℕ) (i : ℕ) → In i es → In i (join [] es)
  entries_in es i h = join_adds i [] es h

  pub entries_only : (es : List ℕ) (i : ℕ) → In i (join [] es) → Reached f es i
  entries_only es i h = elim (join_only i [] es h) [ inl e ↦ false_true e | inr e ↦ entry e ]
