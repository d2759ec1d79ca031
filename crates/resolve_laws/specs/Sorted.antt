-- What is left in vicious circles, by ascending wire: the sorted list of the definition is what a look at each wire in turn finds
-- (`sorted-is`).
use Rattle.std.specs.Prelude.{ℕ, zero, suc, ◌+◌, ◌<◌, ◌≤◌, ◌≡◌, refl, Bool, true, false, List, [], ◌∷◌, ◌++◌, ltb}
use Rattle.std.proofs.Common.{sym, ap, ◌∙◌, arith, lt-ltb, le-ltb}
use Rattle.std.proofs.Math.Option.{Option, none, some}
use Rattle.std.proofs.Math.Decide.{ℕ_discrete, dec_lt}
use Rattle.net_file.specs.Values.{Tree}
use Rattle.conversions.specs.Links.{get}
use Rattle.conversions.specs.Resolve.{put, sorted}
use Rattle.wire_tables_laws.specs.Get.{get_here, get_there}
use Rattle.resolve_laws.specs.Keys.{Keys}
use Rattle.resolve_laws.specs.Kept.{Low}

-- the tree on a wire, before others
unfoldable pub found : ℕ → Option Tree → List (ℕ × Tree) → List (ℕ × Tree)
found w none l = l
found w (some t) l = (w, t) ∷ l

-- those on n wires from w on
unfoldable pub ascending : List (ℕ × Tree) → ℕ → ℕ → List (ℕ × Tree)
ascending es w zero = []
ascending es w (suc n) = found w (get es w) (ascending es (suc w) n)

put_before : (e f : ℕ × Tree) (fs : List (ℕ × Tree)) → e.0 < f.0 → put e (f ∷ fs) ≡ e ∷ f ∷ fs
unfolding put
put_before e f fs h = ap {B = List (ℕ × Tree)} (λ (t : Bool). elim t [ true ↦ e ∷ f ∷ fs | false ↦ f ∷ put e fs ]) (lt-ltb e.0 f.0 h)

put_after : (e f : ℕ × Tree) (fs : List (ℕ × Tree)) → f.0 ≤ e.0 → put e (f ∷ fs) ≡ f ∷ put e fs
unfolding put
put_after e f fs h = ap {B = List (ℕ × Tree)} (λ (t : Bool). elim t [ true ↦ e ∷ f ∷ fs | false ↦ f ∷ put e fs ]) (le-ltb e.0 f.0 h)

-- from a wire on behind the new one nothing changes
ascending_past : (e : ℕ × Tree) (es : List (ℕ × Tree)) (w n : ℕ) → e.0 < w → ascending (e ∷ es) w n ≡ ascending es w n
unfolding ascending
ascending_past e es w zero h = refl
ascending_past e es w (suc n) h = rw (get_there e es w (λ g. absurd (omega arith)), ascending_past e es (suc w) n (omega arith))

-- the new one comes before all that stand on later wires
put_empty : (e : ℕ × Tree) → put e [] ≡ e ∷ []
unfolding put
put_empty e = refl

put_found : (e : ℕ × Tree) (w : ℕ) (o : Option Tree) (l : List (ℕ × Tree)) → e.0 < w → put e l ≡ e ∷ l → put e (found w o l) ≡ e ∷ found w o l
unfolding found
put_found e w none l h g = g
put_found e w (some t) l h g = put_before e (w, t) l h

put_first : (e : ℕ × Tree) (es : List (ℕ × Tree)) (w n : ℕ) → e.0 < w → put e (ascending es w n) ≡ e ∷ ascending es w n
unfolding ascending
put_first e es w zero h = put_empty e
put_first e es w (suc n) h = put_found e w (get es w) (ascending es (suc w) n) h (put_first e es (suc w) n (omega arith))

-- a tree on an earlier wire stays first
put_later : (e : ℕ × Tree) (w : ℕ) (o : Option Tree) (l : List (ℕ × Tree)) → w < e.0 → put e (found w o l) ≡ found w o (put e l)
unfolding found
put_later e w none l h = refl
put_later e w (some t) l h = put_after e (w, t) l (omega arith)

-- one more tree, on a wire that has none
found_here : (e : ℕ × Tree) (l : List (ℕ × Tree)) → found e.0 (some e.1) l ≡ e ∷ l
unfolding found
found_here e l = refl

found_none : (w : ℕ) (l : List (ℕ × Tree)) → found w none l ≡ l
unfolding found
found_none w l = refl

put_ascending : (e : ℕ × Tree) (es : List (ℕ × Tree)) (w n : ℕ) → get es e.0 ≡ none → w ≤ e.0 → e.0 < w + n → ascending (e ∷ es) w n ≡ put e (ascending es w n)
unfolding ascending
put_ascending e es w zero k a b = absurd (omega arith)
put_ascending e es w (suc n) k a b = elim (ℕ_discrete e.0 w) [
  | yes g ↦
      let x : get es w ≡ none = rw g at k in
      rw (get_here e es w g, x, ← g, found_here e (ascending (e ∷ es) (suc e.0) n), ascending_past e es (suc e.0) n (omega arith), found_none e.0 (ascending es (suc e.0) n))
      (sym (put_first e es (suc e.0) n (omega arith)))
  | no g ↦
      rw (get_there e es w g, put_ascending e es (suc w) n k (omega arith) (omega arith))
      (sym (put_later e w (get es w) (ascending es (suc w) n) (omega arith)))
]

ascending_none : (w n : ℕ) → ascending [] w n ≡ []
unfolding ascending get found
ascending_none w zero = refl
ascending_none w (suc n) = ascending_none (suc w) n

pub sorted_is : (es : List (ℕ × Tree)) (n : ℕ) → Keys es → Low n es → sorted es ≡ ascending es 0 n
unfolding sorted Keys Low
sorted_is [] n k l = sym (ascending_none 0 n)
sorted_is (e ∷ es) n k l = rw (sorted_is es n k.1 l.1) (sym (put_ascending e es 0 n k.0 (omega arith) (let b = l.0 in omega arith)))
