-- Each way out of the writers of lines.
use Prim.Native.Nat.{ℕ, zero, suc, ◌+◌, ◌*◌, ◌-◌, ◌≤◌, ◌<◌}
use Rattle.std.specs.Prelude.{◌≡◌, length, get_or}
use Rattle.std.proofs.Math.Path.{refl, sym}
use Rattle.std.proofs.Common.{ap, ◌∙◌, not-suc-le-zero}
use mathlib.Core.List.{List, [], ◌∷◌, ◌++◌, map, append_assoc}
use native.Mathlib.Omega.{arith}
use Rattle.std.proofs.Math.Decide.{dec_lt}
use Rattle.std.proofs.Math.ListN.{get_or-eq_default}
use Rattle.fields.specs.Fields.{byte, be16, be64, byte_past, be16_past}
use Rattle.definitions.specs.Text.{text, decimal, line}
use Rattle.definitions.specs.Listing.{node_line}
use Rattle.stored.specs.Stored.{table_at, table_end, numbers_at, list_at, bytes_at, path_at, path_end, name_at, name_end, node_at}
use Rattle.stored.specs.Body.{paths_at, paths_counted}
use Rattle.ends.specs.Ends.{within, on}
use Rattle.readers_laws.specs.Tables.{table_get, list_clamped}
use Rattle.text_writers.specs.Wrote.{far, Wrote, then, nothing, wrote_as, Still, still_on, still_none}
use Rattle.listing.specs.Lines.{spaced, numbers_text, path_text, name_text, children_text, principal_text, ports_text}

-- ---- lines

pub line_is : (w : List ℕ) (ws : List (List ℕ)) → line (w ∷ ws) ≡ w ++ (spaced ws ++ 10 ∷ [])
unfolding line spaced
line_is w [] = refl
line_is w (v ∷ ws) = rw (line_is v ws, append_assoc v)

spaced_append : (vs ws : List (List ℕ)) → spaced (vs ++ ws) ≡ spaced vs ++ spaced ws
unfolding spaced
spaced_append [] ws = refl
spaced_append (v ∷ vs) ws = rw (spaced_append vs ws, append_assoc v)

pub spaced_cons : (w : List ℕ) (ws : List (List ℕ)) → spaced (w ∷ ws) ≡ 32 ∷ (w ++ spaced ws)
unfolding spaced
spaced_cons w ws = refl

-- ---- a list of numbers

module _ (s : List ℕ) (at : ℕ) where
  pub list_whole : numbers_text s at 0 (byte s at) ≡ spaced (map decimal (list_at s at))
  unfolding numbers_text list_at
  list_whole = let e : at + (1 + 2 * 0) ≡ at + 1 = omega arith in rw e

  numbers_next : (j k : ℕ) → 0 < k → numbers_text s at j k ≡ (32 ∷ decimal (be16 s (at + (1 + 2 * j)))) ++ numbers_text s at (j + 1) (k - 1)
  unfolding numbers_text numbers_at table_at spaced
  numbers_next j zero h = absurd (not-suc-le-zero h)
  numbers_next j (suc k) h =
      let e : at + (1 + 2 * j) + 2 ≡ at + (1 + 2 * (j + 1)) = omega arith in
      let f : suc k - 1 ≡ k = omega arith in
      rw (e, f)

  numbers_none : (j k : ℕ) → k ≤ 0 → numbers_text s at j k ≡ []
  unfolding numbers_text numbers_at table_at spaced
  numbers_none j zero h = refl
  numbers_none j (suc k) h = absurd (not-suc-le-zero h)

  module _ (from p j k : ℕ) (out w whole : List ℕ) where
    pub list_more : (z : List ℕ) (q v : ℕ) → Still (numbers_text s at j k) whole from out w p → 0 < k → v ≡ be16 s (at + (1 + 2 * j)) → Wrote (32 ∷ decimal v) p w z q
        → Still (numbers_text s at (j + 1) (k - 1)) whole from out z q
    list_more z q v st h e t = still_on st (numbers_next j k h) (rw e at t)

    pub list_done : Still (numbers_text s at j k) whole from out w p → k ≤ 0 → Wrote whole from out w p
    list_done st h = still_none st (numbers_none j k h)

  -- ---- a path

  pub path_whole : path_text s at 0 (byte s at) ≡ path_at s at
  unfolding path_text path_at
  path_whole = let e : at + (1 + 0) ≡ at + 1 = omega arith in rw e

  path_next : (j k : ℕ) → 0 < k → path_text s at j k ≡ (byte s (at + (1 + j)) ∷ []) ++ path_text s at (j + 1) (k - 1)
  unfolding path_text bytes_at table_at
  path_next j zero h = absurd (not-suc-le-zero h)
  path_next j (suc k) h =
      let e : at + (1 + j) + 1 ≡ at + (1 + (j + 1)) = omega arith in
      let f : suc k - 1 ≡ k = omega arith in
      rw (e, f)

  path_none : (j k : ℕ) → k ≤ 0 → path_text s at j k ≡ []
  unfolding path_text bytes_at table_at
  path_none j zero h = refl
  path_none j (suc k) h = absurd (not-suc-le-zero h)

  module _ (from p j k : ℕ) (out w whole : List ℕ) where
    pub path_more : (z : List ℕ) (q b : ℕ) → Still (path_text s at j k) whole from out w p → 0 < k → b ≡ byte s (at + (1 + j)) → Wrote (b ∷ []) p w z q
        → Still (path_text s at (j + 1) (k - 1)) whole from out z q
    path_more z q b st h e t = still_on st (path_next j k h) (rw e at t)

    pub path_done : Still (path_text s at j k) whole from out w p → k ≤ 0 → Wrote whole from out w p
    path_done st h = still_none st (path_none j k h)

-- the k-th path
module _ (s : List ℕ) (k from : ℕ) (out : List ℕ) where
  pub path_absent : be16 s 9 ≤ k → from ≤ far → length out ≤ far → Wrote (get_or (paths_at s) k []) from out out from
  path_absent h l m = wrote_as (sym (get_or-eq_default (paths_at s) [] (rw (paths_counted s) h))) (nothing l m)

  path_clamped : (x a : ℕ) → a ≡ within s x → path_at s a ≡ path_at s x
  unfolding path_at bytes_at table_at
  path_clamped x a e = elim (dec_lt (length s) x) [
    | yes l ↦ rw (byte_past s a (omega arith), byte_past s x (omega arith))
    | no l ↦ let d : a ≡ x = omega arith in rw d
  ]

  pub path_there : (a r : ℕ) (w : List ℕ) → k < be16 s 9 → a ≡ within s (table_end (path_end s) 11 k) → Wrote (path_at s a) from out w r
      → Wrote (get_or (paths_at s) k []) from out w r
  unfolding paths_at
  path_there a r w h e t =
      wrote_as (path_clamped (table_end (path_end s) 11 k) a e ∙ sym (table_get (path_at s) (path_end s) 11 (be16 s 9) k [] h)) t

-- ---- a node

pub be16_clamped : (s : List ℕ) (x a : ℕ) → a ≡ within s x → be16 s a ≡ be16 s x
be16_clamped s x a e = elim (dec_lt (length s) x) [
  | yes l ↦ be16_past s a (omega arith) ∙ sym (be16_past s x (omega arith))
  | no l ↦ let d : a ≡ x = omega arith in ap (be16 s) d
]

module _ (s : List ℕ) (at from p r : ℕ) (out m w : List ℕ) where
  pub name_written : (k v : ℕ) → k ≡ be16 s at → v ≡ be64 s (at + 2) → Wrote (get_or (paths_at s) k []) from out m p → Wrote (32 ∷ decimal v) p m w r
      → Wrote (name_text s at) from out w r
  unfolding name_text
  name_written k v ek ev t u = then (rw ek at t) (rw ev at u)

  pub children_written : (a : ℕ) → a ≡ on s at 10 → Wrote (32 ∷ 99 ∷ 104 ∷ 105 ∷ 108 ∷ 100 ∷ 114 ∷ 101 ∷ 110 ∷ []) from out m p
      → Wrote (spaced (map decimal (list_at s a))) p m w r → Wrote (children_text s at) from out w r
  unfolding children_text text
  children_written a e t u = then t (rw (list_clamped s (at + 10) a e) at u)

  pub principal_written : (e v : ℕ) → e ≡ within s (name_end s at) → v ≡ be16 s e → Wrote (32 ∷ 112 ∷ 111 ∷ 114 ∷ 116 ∷ 115 ∷ []) from out m p
      → Wrote (32 ∷ decimal v) p m w r → Wrote (principal_text s at) from out w r
  unfolding principal_text text
  principal_written e v ee ev f g = let c : v ≡ be16 s (name_end s at) = ev ∙ be16_clamped s (name_end s at) e ee in then f (rw c at g)

  pub ports_written : (e a q : ℕ) (x : List ℕ) → Wrote (principal_text s at) from out m p → e ≡ within s (name_end s at) → a ≡ on s e 2
      → Wrote (spaced (map decimal (list_at s a))) p m x q → Wrote (10 ∷ []) q x w r → Wrote (ports_text s at) from out w r
  unfolding ports_text
  ports_written e a q x f ee ea g h =
      let b : a ≡ within s (name_end s at + 2) = omega arith in
      then f (then (rw (list_clamped s (name_end s at + 2) a b) at g) h)

node_line_lem : (p d x : List ℕ) (cs ps : List (List ℕ))
    → (p ++ 32 ∷ d) ++ ((text " children" ++ spaced cs) ++ ((text " ports" ++ 32 ∷ x) ++ (spaced ps ++ 10 ∷ [])))
    ≡ line (p ∷ d ∷ text "children" ∷ cs ++ text "ports" ∷ x ∷ ps)
unfolding text
node_line_lem p d x cs ps = simp (line_is, spaced_cons, spaced_append cs (text "ports" ∷ x ∷ ps), append_assoc)

pub node_written : (s : List ℕ) (at from p q r : ℕ) (out m x w : List ℕ) → Wrote (name_text s at) from out m p → Wrote (children_text s at) p m x q
    → Wrote (ports_text s at) q x w r → Wrote (node_line (paths_at s) (node_at s at)) from out w r
unfolding node_line node_at name_at name_text children_text principal_text ports_text
node_written s at from p q r out m x w t u v = wrote_as (node_line_lem _ _ _ _ _) (then t (then u v))
