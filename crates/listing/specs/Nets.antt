-- Each way out of the writers of nets, and of the whole text. A place past the end is moved to the end: what stands there is the same.
use Prim.Native.Nat.{ℕ, zero, suc, ◌+◌, ◌-◌, ◌≤◌, ◌<◌}
use Rattle.std.specs.Prelude.{Some, None, ◌≡◌, Bool, true, false, List, [], ◌∷◌, ◌++◌, map, length, eqb}
use Rattle.std.proofs.Math.Path.{refl, sym, ap}
use Rattle.std.proofs.Common.{◌∙◌, append_assoc, not-suc-le-zero, eq-eqb, ne_eqb}
use Rattle.std.proofs.Math.Option.{none, some}
use native.Mathlib.Omega.{arith}
use Rattle.std.proofs.Math.Decide.{dec_lt}
use Rattle.std.proofs.lemmas.List.Edits.{sets-eq}
use Rattle.net_file.specs.Lists.{refuse, concat_map}
use Rattle.net_file.specs.Values.{FlatNode, FlatNet}
use Rattle.net_file.specs.Read.{limit_of}
use Rattle.fields.specs.Fields.{byte, be16, be32, byte_past, be16_past, be32_past, be64_past}
use Rattle.definitions.specs.Text.{text, decimal, line}
use Rattle.definitions.specs.Listing.{node_line, net_lines, limit_field, listing, printed}
use Rattle.stored.specs.Stored.{table_at, list_at, name_at, name_end, node_at, node_end, pairs_at, nodes_at, pair_count_at, node_count_at, flat_net_at, flat_net_end, net_count_at}
use Rattle.stored.specs.Body.{paths_at, nets_at, body_at}
use Rattle.ends.specs.Ends.{within, on, name_past, node_up, net_up, free_past, pairs_past}
use Rattle.readers_laws.specs.Tables.{list_past, list_clamped}
use Rattle.put.specs.Written.{Written}
use Rattle.put.specs.Laws.{full, placed, put_in_yes}
use Rattle.text_writers.specs.Wrote.{far, Wrote, then, wrote_as, Still, still_on, still_none}
use Rattle.listing.specs.Lines.{spaced, net_text, free_text, nodes_text, nets_text, limit_text}
use Rattle.listing.specs.Laws.{line_is, spaced_cons, be16_clamped}

-- ---- tables from a place past the end

module _ {A : Type 0} (s : List ℕ) (one : ℕ → A) (end : ℕ → ℕ) (z : A) (past : (a : ℕ) → length s ≤ a → one a ≡ z) (up : (a : ℕ) → a ≤ end a) where
  table_past : (a b n : ℕ) → length s ≤ a → length s ≤ b → table_at one end a n ≡ table_at one end b n
  unfolding table_at
  table_past a b zero h i = refl
  table_past a b (suc n) h i = λ j. (past a h ∙ sym (past b i)) j ∷ table_past (end a) (end b) n (omega (arith, up a)) (omega (arith, up b)) j

  table_clamped : (x a n : ℕ) → a ≡ within s x → table_at one end a n ≡ table_at one end x n
  table_clamped x a n e = elim (dec_lt (length s) x) [
    | yes l ↦ table_past a x n (omega arith) (omega arith)
    | no l ↦ let d : a ≡ x = omega arith in rw d
  ]

  -- the text of the first, and of those after it
  lines_next : (f : A → List ℕ) (at a k : ℕ) → 0 < k → a ≡ within s (end at) → concat_map f (table_at one end at k) ≡ f (one at) ++ concat_map f (table_at one end a (k - 1))
  unfolding table_at
  lines_next f at a zero h e = absurd (not-suc-le-zero h)
  lines_next f at a (suc k) h e =
      let g : suc k - 1 ≡ k = omega arith in
      rw g (ap (λ l. f (one at) ++ concat_map f l) (sym (table_clamped (end at) a k e)))

lines_none : {A : Type 0} (f : A → List ℕ) (one : ℕ → A) (end : ℕ → ℕ) (at k : ℕ) → k ≤ 0 → concat_map f (table_at one end at k) ≡ []
unfolding table_at
lines_none f one end at zero h = refl
lines_none f one end at (suc k) h = absurd (not-suc-le-zero h)

-- what stands past the end
no_node : FlatNode
no_node = record { name = record { path = 0; payload = 0; children = [] }; pri = 0; aux = [] }

no_net : FlatNet
no_net = record { name = 0; included = false; wires = 0; free = []; pairs = []; nodes = [] }

module _ (s : List ℕ) (a : ℕ) (h : length s ≤ a) where
  node_none : node_at s a ≡ no_node
  unfolding node_at name_at no_node
  node_none =
      let l = name_past s a in
      λ i. record {
        name = record { path = be16_past s a h i; payload = be64_past s (a + 2) (omega arith) i; children = list_past s (a + 10) (omega arith) i };
        pri = be16_past s (name_end s a) (omega arith) i;
        aux = list_past s (name_end s a + 2) (omega arith) i;
      }

  pairs_none : pairs_at s (pair_count_at s a + 2) (be16 s (pair_count_at s a)) ≡ []
  unfolding pairs_at table_at
  pairs_none = let l = free_past s a in ap (pairs_at s (pair_count_at s a + 2)) (be16_past s (pair_count_at s a) (omega arith))

  nodes_none : nodes_at s (node_count_at s a + 2) (be16 s (node_count_at s a)) ≡ []
  unfolding nodes_at table_at
  nodes_none =
      let l = free_past s a in
      let m = pairs_past s a in
      ap (nodes_at s (node_count_at s a + 2)) (be16_past s (node_count_at s a) (omega arith))

  not_included : eqb (byte s (a + 2)) 1 ≡ false
  not_included = ap (λ b. eqb b 1) (byte_past s (a + 2) (omega arith))

  net_none : flat_net_at s a ≡ no_net
  unfolding flat_net_at no_net
  net_none =
      λ i. record {
        name = be16_past s a h i;
        included = not_included i;
        wires = be32_past s (a + 3) (omega arith) i;
        free = list_past s (a + 7) (omega arith) i;
        pairs = pairs_none i;
        nodes = nodes_none i;
      }

-- ---- the nodes of a net

module _ (s : List ℕ) (at from p k : ℕ) (out w whole : List ℕ) where
  pub nodes_more : (z : List ℕ) (q a : ℕ) → Still (nodes_text s at k) whole from out w p → 0 < k → Wrote (node_line (paths_at s) (node_at s at)) p w z q
      → a ≡ within s (node_end s at) → Still (nodes_text s a (k - 1)) whole from out z q
  unfolding nodes_text nodes_at
  nodes_more z q a st h t e =
      still_on st (lines_next s (node_at s) (node_end s) no_node (node_none s) (node_up s) (node_line (paths_at s)) at a k h e) t

  pub nodes_done : Still (nodes_text s at k) whole from out w p → k ≤ 0 → Wrote whole from out w p
  unfolding nodes_text nodes_at
  nodes_done st h = still_none st (lines_none (node_line (paths_at s)) (node_at s) (node_end s) at k h)

-- ---- a net

module _ (s : List ℕ) (at from p r : ℕ) (out m w : List ℕ) where
  pub head_written : (n v q t : ℕ) (x y : List ℕ) → n ≡ be16 s at → v ≡ be32 s (at + 3) → Wrote (110 ∷ 101 ∷ 116 ∷ []) from out m p
      → Wrote (32 ∷ decimal n) p m x q → Wrote (32 ∷ 119 ∷ 105 ∷ 114 ∷ 101 ∷ 115 ∷ []) q x y t → Wrote (32 ∷ decimal v) t y w r → Wrote (net_text s at) from out w r
  unfolding net_text text
  head_written n v q t x y en ev f g h i = then f (then (rw en at g) (then h (rw ev at i)))

  pub free_written : (a q : ℕ) (x : List ℕ) → a ≡ on s at 7 → Wrote (32 ∷ 102 ∷ 114 ∷ 101 ∷ 101 ∷ []) from out m p
      → Wrote (spaced (map decimal (list_at s a))) p m x q → Wrote (10 ∷ []) q x w r → Wrote (free_text s at) from out w r
  unfolding free_text text
  free_written a q x e f g h = then f (then (rw (list_clamped s (at + 7) a e) at g) h)

net_line : (n v : List ℕ) (fs : List (List ℕ))
    → (text "net" ++ ((32 ∷ n) ++ (text " wires" ++ 32 ∷ v))) ++ (text " free" ++ (spaced fs ++ 10 ∷ [])) ≡ line (text "net" ∷ n ∷ text "wires" ∷ v ∷ text "free" ∷ fs)
unfolding text
net_line n v fs = simp (line_is, spaced_cons, append_assoc)

pub net_written : (s : List ℕ) (at from p q r c a n : ℕ) (out m x w : List ℕ) → Wrote (net_text s at) from out m p → Wrote (free_text s at) p m x q
    → c ≡ within s (node_count_at s at) → a ≡ on s c 2 → n ≡ be16 s c → Wrote (nodes_text s a n) q x w r → Wrote (net_lines (paths_at s) (flat_net_at s at)) from out w r
unfolding net_lines flat_net_at net_text free_text nodes_text nodes_at
net_written s at from p q r c a n out m x w t u ec ea en v =
    let d = node_count_at s at in
    let b : a ≡ within s (d + 2) = omega arith in
    let e : n ≡ be16 s d = en ∙ be16_clamped s d c ec in
    let f = table_clamped s (node_at s) (node_end s) no_node (node_none s) (node_up s) (d + 2) a (be16 s d) b in
    let g : concat_map (node_line (paths_at s)) (table_at (node_at s) (node_end s) a n) ≡ concat_map (node_line (paths_at s)) (table_at (node_at s) (node_end s) (d + 2) (be16 s d)) =
    rw e (ap (concat_map (node_line (paths_at s))) f) in
    then (wrote_as (net_line _ _ _) (then t u)) (wrote_as g v)

-- ---- the nets

module _ (s : List ℕ) (at from p k : ℕ) (out w whole : List ℕ) where
  pub nets_more : (z : List ℕ) (q a : ℕ) → Still (nets_text s at k) whole from out w p → 0 < k → Wrote (net_lines (paths_at s) (flat_net_at s at)) p w z q
      → a ≡ within s (flat_net_end s at) → Still (nets_text s a (k - 1)) whole from out z q
  unfolding nets_text
  nets_more z q a st h t e =
      still_on st (lines_next s (flat_net_at s) (flat_net_end s) no_net (net_none s) (net_up s) (net_lines (paths_at s)) at a k h e) t

  pub nets_done : Still (nets_text s at k) whole from out w p → k ≤ 0 → Wrote whole from out w p
  unfolding nets_text
  nets_done st h = still_none st (lines_none (net_lines (paths_at s)) (flat_net_at s) (flat_net_end s) at k h)

-- ---- the limit

limit_line : (n : ℕ) {t : Bool} → eqb n 4294967295 ≡ t
    → line (text "limit" ∷ limit_field (limit_of n) ∷ []) ≡ line (text "limit" ∷ limit_field (elim t [ true ↦ none | false ↦ some n ]) ∷ [])
unfolding limit_of
limit_line n e = ap (λ (t : Bool). line (text "limit" ∷ limit_field (elim t [ true ↦ none | false ↦ some n ]) ∷ [])) e

module _ (s : List ℕ) (from p r n : ℕ) (out m w : List ℕ) (e : n ≡ be32 s 5) where
  pub limit_none : n ≡ 4294967295 → Wrote (108 ∷ 105 ∷ 109 ∷ 105 ∷ 116 ∷ []) from out m p → Wrote (32 ∷ 110 ∷ 111 ∷ 110 ∷ 101 ∷ 10 ∷ []) p m w r
      → Wrote (limit_text s) from out w r
  unfolding limit_text limit_field line text
  limit_none h t u = wrote_as (sym (limit_line (be32 s 5) (eq-eqb _ _ (sym e ∙ h)))) (then t u)

  pub limit_some : (q : ℕ) (x : List ℕ) → (n ≡ 4294967295 → ⊥) → Wrote (108 ∷ 105 ∷ 109 ∷ 105 ∷ 116 ∷ []) from out m p → Wrote (32 ∷ decimal n) p m x q
      → Wrote (10 ∷ []) q x w r → Wrote (limit_text s) from out w r
  unfolding limit_text limit_field line text
  limit_some q x h t u v =
      wrote_as (sym (limit_line (be32 s 5) (ne_eqb _ _ (λ z. h (e ∙ z))))) (then t (then (rw e at u) v))

-- ---- the whole text

pub whole_written : (s : List ℕ) (p r c a n : ℕ) (out m w : List ℕ) → Wrote (limit_text s) 0 out m p → c ≡ within s (net_count_at s) → a ≡ on s c 2 → n ≡ be16 s c
    → Wrote (nets_text s a n) p m w r → Wrote (listing (body_at flat_net_at flat_net_end s)) 0 out w r
unfolding listing body_at nets_at limit_text nets_text
whole_written s p r c a n out m w t ec ea en v =
    let d = net_count_at s in
    let b : a ≡ within s (d + 2) = omega arith in
    let e : n ≡ be16 s d = en ∙ be16_clamped s d c ec in
    let f = table_clamped s (flat_net_at s) (flat_net_end s) no_net (net_none s) (net_up s) (d + 2) a (be16 s d) b in
    let g : concat_map (net_lines (paths_at s)) (table_at (flat_net_at s) (flat_net_end s) a n) ≡ concat_map (net_lines (paths_at s)) (table_at (flat_net_at s) (flat_net_end s) (d + 2) (be16 s d)) =
    rw e (ap (concat_map (net_lines (paths_at s))) f) in
    then t (wrote_as g v)

pub refused_written : (n p q r : ℕ) (out m x w : List ℕ) → Wrote (114 ∷ 101 ∷ 102 ∷ 117 ∷ 115 ∷ 101 ∷ 100 ∷ []) 0 out m p → Wrote (32 ∷ decimal n) p m x q
    → Wrote (10 ∷ []) q x w r → Wrote (printed (refuse n)) 0 out w r
unfolding printed line text
refused_written n p q r out m x w t u v = then t (then u v)

-- all or none: n is the length that was found out, in a slice x of its own
module _ (bs x y out : List ℕ) (n : ℕ) (t : Wrote bs 0 x y n) where
  pub no_room : length out < n → Written bs 0 out out None
  no_room h = let e = t.is in full (record { is = refl }) (omega arith)

  pub room : (w : List ℕ) (r : ℕ) → n ≤ length out → length out < far → Wrote bs 0 out w r → Written bs 0 out w (Some n)
  room w r h l u =
      let e = t.is in
      let k : length bs ≡ n = omega arith in
      let i : 0 + length bs ≤ length out = omega arith in
      let z : 0 + n ≡ n = omega arith in
      rw z at (placed {at = 0} {n = n} (record { is = k }) (omega arith) (u.out ∙ sets-eq bs out 0 i ∙ sym (put_in_yes out 0 bs i)))
