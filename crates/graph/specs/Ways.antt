-- What a function of the crate leaves on each way out, and one turn of each loop, in the words of its tests and calls.
use Rattle.std.specs.Prelude.{◌≡◌, ℕ, zero, suc, ◌-◌, ◌<◌, ◌≤◌, List, [], ◌∷◌, set, ◌≢◌, slice_index, slice_index_or, slice_set, refl}
use Rattle.std.proofs.Common.{sym, ap, ◌∙◌, arith, not-suc-le-zero, sub-one, get_or-set_other}
use Rattle.words.specs.Choose.{eq_yes, eq_no}
use Rattle.layout.specs.Layout.{next, dirty_at, node_word, set_node_word, set_across}
use Rattle.graph.specs.Graph.{grown, more, push_dirty, marked, mark_dirty_words, link, link_all, holes}

-- a word that is stored again where it stands
pub set_back : (ws : List ℕ) (i : ℕ) → slice_set ws i (slice_index ws i) ≡ ws
set_back [] i = refl
set_back (x ∷ xs) zero = refl
set_back (x ∷ xs) (suc i) = ap (λ (r : List ℕ). x ∷ r) (set_back xs i)

-- the capacity stays where there is room
pub grown_room : (c k : ℕ) → (k ≢ c) → grown c k ≡ c
unfolding grown
grown_room c k h = sym (eq_no _ _ _ _ h refl)

pub push_full : (ws w1 w2 x : List ℕ) (n k c d g e : ℕ) → k ≡ slice_index ws 14 → c ≡ slice_index ws 15 → d ≡ dirty_at k → w1 ≡ slice_set ws d n → g ≡ grown c k
    → w2 ≡ slice_set w1 15 g → e ≡ next k → x ≡ slice_set w2 14 e → x ≡ push_dirty ws n
unfolding push_dirty
push_full ws w1 w2 x n k c d g e ek ec ed e1 eg e2 ee ex = rw (ex, e2, e1, eg, ee, ed, ek, ec)

pub push_room : (ws w x : List ℕ) (n k c d e : ℕ) → k ≡ slice_index ws 14 → c ≡ slice_index ws 15 → d ≡ dirty_at k → w ≡ slice_set ws d n → (k ≢ c)
    → e ≡ next k → x ≡ slice_set w 14 e → x ≡ push_dirty ws n
push_room ws w x n k c d e ek ec ed ew h ee ex =
    let v : slice_index_or w 15 0 ≡ c = rw ew (get_or-set_other ws d 15 n 0 (omega arith) ∙ sym ec) in
    let b : w ≡ set w 15 (grown c k) = sym (rw (grown_room c k h, ← v) (set_back w 15)) in
    push_full ws w w x n k c d (grown c k) e ek ec ed ew refl b ee ex

pub mark_clean : (ws w1 w2 x : List ℕ) (n d t : ℕ) → d ≡ node_word ws n 2 → d ≡ 0 → w1 ≡ set_node_word ws n 2 1 → w2 ≡ push_dirty w1 n
    → t ≡ node_word w2 n 0 → x ≡ more w2 t → x ≡ mark_dirty_words ws n
unfolding mark_dirty_words marked
mark_clean ws w1 w2 x n d t ed z e1 e2 et ex = eq_yes _ _ _ _ (rw (← ed) z) (rw (ex, et, e2, e1))

pub mark_marked : (ws : List ℕ) (n d : ℕ) → d ≡ node_word ws n 2 → (d ≢ 0) → ws ≡ mark_dirty_words ws n
unfolding mark_dirty_words
mark_marked ws n d ed z = eq_no _ _ _ _ (λ e. z (rw ed e)) refl

pub link_all_more : (ws w : List ℕ) (a b a' b' k : ℕ) (x : List ℕ) → link_all ws a b k ≡ x → 0 < k → w ≡ link ws a b → a' ≡ next a → b' ≡ next b
    → link_all w a' b' (k - 1) ≡ x
unfolding link_all
link_all_more ws w a b a' b' zero x e h ew ea eb = absurd (not-suc-le-zero h)
link_all_more ws w a b a' b' (suc k) x e h ew ea eb = rw (sub-one, ew, ea, eb) e

pub link_all_done : (ws : List ℕ) (a b k : ℕ) (x : List ℕ) → link_all ws a b k ≡ x → k ≤ 0 → ws ≡ x
unfolding link_all
link_all_done ws a b zero x e h = e
link_all_done ws a b (suc k) x e h = absurd (not-suc-le-zero h)

pub holes_more : (ws w : List ℕ) (p q k : ℕ) (x : List ℕ) → holes ws p k ≡ x → 0 < k → w ≡ set_across ws p p → q ≡ next p → holes w q (k - 1) ≡ x
unfolding holes
holes_more ws w p q zero x e h ew eq = absurd (not-suc-le-zero h)
holes_more ws w p q (suc k) x e h ew eq = rw (sub-one, ew, eq) e

pub holes_done : (ws : List ℕ) (p k : ℕ) (x : List ℕ) → holes ws p k ≡ x → k ≤ 0 → ws ≡ x
unfolding holes
holes_done ws p zero x e h = e
holes_done ws p (suc k) x e h = absurd (not-suc-le-zero h)
