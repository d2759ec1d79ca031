-- The waits on one net: the walk from the first to the last passes, and marks each.
use Prim.Native.Nat.{ℕ, zero, suc, ◌+◌, ◌*◌, ◌<◌, ◌≤◌}
use Rattle.std.specs.Prelude.{◌≡◌, refl, Bool, true, false, length, get_or, set, drop, eqb, ltb}
use Rattle.std.proofs.Math.Path.{sym, ap, subst}
use Rattle.std.proofs.Common.{◌∙◌, arith, eq-eqb, ne_eqb, lt-ltb}
use mathlib.Core.List.{List, [], ◌∷◌, map, Memᴰ}
use Rattle.std.proofs.Math.Nat.{zero-add}
use Rattle.std.proofs.Math.Decide.{ℕ_discrete}
use Rattle.words.specs.Choose.{pick, pick_true, pick_false, eq_yes}
use Rattle.words.specs.Left.{Left}
use Rattle.net_file.specs.Lists
use Rattle.net_file.specs.Lists.{bit}
use Rattle.layout.specs.Layout.{node_pool, nets, net_word_words, wait_word}
use Rattle.definitions.specs.State.{Wait}
use Rattle.good_laws.specs.Good.{made_by}
use Rattle.chains.specs.Seg.{Seg, All, Once, last}
use Rattle.marks.specs.Marks.{mark}
use Rattle.marks.specs.Walks.{says}
use Rattle.image_chains.specs.Chains.{used, spot, is_new}
use Rattle.image_chains.specs.declared.Pool.TheVariants.{Waits}
use Rattle.image_waits.specs.Waits.{wait_holds, is_wait, end_holds, waits_from}
use Rattle.image_means.specs.Yes.{same_yes, other_yes, most_yes, given_yes}
use Rattle.image_chains_means.specs.Places.{Marked, mark_place}
use Rattle.image_chains_means.specs.Chains.{Through, new_passes, through_cons, still_new, none_left}

pub spots : (c : ℕ) → spot Waits c ≡ 0 + c
unfolding spot
spots c = sym (zero-add c)

-- the node and the net of wait c
abbrev pub wait_of : List ℕ → ℕ → ℕ × ℕ
wait_of ws c = (wait_word ws c 0, wait_word ws c 1)

-- what a wait has in words
abbrev pub in_words : Wait → ℕ × ℕ
in_words w = (w.node, w.net + 1)

-- place c of a wait in order
pub record WaitAt (ws : List ℕ) (c : ℕ) : Type 0 where
  pub pos : 0 < c
  pub low : c ≤ used Waits ws
  pub well : wait_holds ws c ≡ true

module _ (ws : List ℕ) where
  -- places with these waits there, which name slots and nets
  pub wait_passes : (c : ℕ) (w : Wait) → wait_of ws c ≡ in_words w → w.node < node_pool ws → w.net < nets ws → wait_holds ws c ≡ true
  unfolding wait_holds
  wait_passes c w e a b =
      let f : wait_word ws c 0 ≡ w.node = ap (λ (x : ℕ × ℕ). x.0) e in
      let g : wait_word ws c 1 ≡ w.net + 1 = ap (λ (x : ℕ × ℕ). x.1) e in
      rw g (other_yes _ _ _ (omega arith) (most_yes _ _ _ (omega arith) (lt-ltb (wait_word ws c 0) (node_pool ws) (omega arith))))

  -- of the waits at these places as many are of net j
  pub made_count : (j : ℕ) (l : List ℕ) (us : List Wait) → map (wait_of ws) l ≡ map in_words us → Lists.count (λ c. eqb (wait_word ws c 1) (j + 1)) l ≡ made_by j us
  made_count j [] [] e = refl
  made_count j [] (w ∷ us) e = absurd (let z : 0 ≡ suc (length (map in_words us)) = ap (λ (x : List (ℕ × ℕ)). length x) e in omega arith)
  made_count j (c ∷ l) [] e = absurd (let z : suc (length (map (wait_of ws) l)) ≡ 0 = ap (λ (x : List (ℕ × ℕ)). length x) e in omega arith)
  made_count j (c ∷ l) (w ∷ us) e =
      let a : wait_word ws c 1 ≡ w.net + 1 = ap (λ (x : List (ℕ × ℕ)). (get_or x 0 (0, 0)).1) e in
      let b = made_count j l us (ap (drop 1) e) in
      let d : bit (eqb (wait_word ws c 1) (j + 1)) ≡ bit (eqb w.net j) = ap bit (shifted (wait_word ws c 1) w.net a) in
      omega arith
    where
      shifted : (x y : ℕ) → x ≡ y + 1 → eqb x (j + 1) ≡ eqb y j
      shifted x y h = elim (ℕ_discrete y j) [ yes s ↦ eq-eqb x (j + 1) (omega arith) ∙ sym (eq-eqb y j s) | no s ↦ ne_eqb x (j + 1) (omega arith) ∙ sym (ne_eqb y j s) ]

  -- ---- the walk

  is_wait_passes : {marks : List ℕ} {count : ℕ} (k : Marked (used Waits ws) 0 marks count) (c : ℕ) → WaitAt ws c → k.has c ≡ false → is_wait ws marks c ≡ true
  unfolding is_wait
  is_wait_passes k c w z = given_yes _ _ (new_passes Waits ws 0 spots k c w.pos w.low z) w.well

  no_wait : (marks : List ℕ) (c : ℕ) → c ≡ 0 → is_wait ws marks c ≡ false
  unfolding is_wait is_new
  no_wait marks c z = sym (pick_false _ _ _ (sym (eq_yes c 0 _ _ z refl)) refl)

  end_passes : (t c l : ℕ) → c ≡ 0 → l ≡ net_word_words ws t 9 → end_holds ws t c l ≡ true
  unfolding end_holds
  end_passes t c l z e = same_yes _ _ _ z (eq-eqb l (net_word_words ws t 9) e)

  pub waits_pass : (t : ℕ) (l marks : List ℕ) (c before k count : ℕ) → Seg (λ d. wait_word ws d 2) c l 0 → length l ≤ k → Once l → All (WaitAt ws) l
      → (m : Marked (used Waits ws) 0 marks count) → All (λ d. m.has d ≡ false) l → last l before ≡ net_word_words ws t 9
      → Through (used Waits ws) 0 count m.has l (waits_from ws marks t c before k)
  unfolding waits_from mark
  waits_pass t [] marks c before zero count s h o a m n e = rw (end_passes t c before s e) (none_left Waits ws 0 spots m)
  waits_pass t [] marks c before (suc k) count s h o a m n e =
      subst (Through (used Waits ws) 0 count m.has []) (pick_false _ _ _ (no_wait marks c s) (rw (end_passes t c before s e) refl)) (none_left Waits ws 0 spots m)
  waits_pass t (d ∷ l) marks c before zero count s h o a m n e = absurd (omega arith)
  waits_pass t (d ∷ l) marks c before (suc k) count s h o a m n e =
      let q = a.0 in
      let m' = mark_place m d q.pos q.low n.0 in
      let r = waits_pass t l (set marks (0 + d) 1) (wait_word ws d 2) d k (count + 1) s.1 (omega arith) o.1 a.1 m'
      (still_new Waits ws 0 spots m d q.pos q.low n.0 l o.0 n.1) e in
      subst (Through (used Waits ws) 0 count m.has (d ∷ l)) (rw (s.0, zero-add d) (pick_true _ _ _ (is_wait_passes m d q n.0) refl))
      (through_cons Waits ws 0 spots m d q.pos q.low n.0 l _ r)
