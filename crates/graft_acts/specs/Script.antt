-- The script of a graft is orderly where the books are good; and after it no more nodes have a name that, of the copied net, only the free node has.
use Rattle.std.specs.Prelude.{ℕ, ◌+◌, ◌<◌, ◌≡◌, refl, ◌≢◌, ◌⊎◌, true, false, length, get_or, drop, eqb}
use Rattle.std.proofs.Common.{sym, ap, ◌∙◌, subst, inl, inr, true≢false, eqb-true, arith}
use Rattle.std.proofs.Math.Option.{Option, none, some}
use mathlib.Core.List.{List, [], ◌∷◌, ◌++◌, map, Memᴰ}
use Rattle.std.proofs.lemmas.List.{length-map}
use Rattle.net_file.specs.Values.{Name}
use Rattle.definitions.specs.Lists.{or_else, is_some, foldl, place, zip_with, up_to}
use Rattle.definitions.specs.Nets.{Port, Node, Graph, port, at, filled, holds, name_of, arity, ports}
use Rattle.definitions.specs.Scripts.{Edit, Join, apply, vacate, apply_script}
use Rattle.definitions.specs.Rules.{copies, graft_script, graft_fits}
use Rattle.definitions.specs.Step.{Fresh, NodesOf}
use Rattle.definitions.specs.State.{Engine, graph_of}
use Rattle.definitions.specs.Books.{fresh}
use Rattle.join_laws.specs.Ports.{Frame, no_frame, name_frame, name_same, filled_frame, filled_same}
use Rattle.script_laws.specs.Slots.{frame_slots, frame_vacate_same}
use Rattle.script_laws.specs.Tidy.{WellWired}
use Rattle.rule_laws.specs.Ids.{at_mem, place_at, distinct_at, one_of_row}
use Rattle.rule_laws.specs.Places.{one_of_two, not_fresh}
use Rattle.rule_laws.specs.Copies.{g₁, copies_other, copy_frame}
use Rattle.rule_laws.proofs.Graft.{graft_clean}
use Rattle.rule_laws.specs.Order.{InOrder, graft_order}
use Rattle.graph_laws.specs.Nodes.{Brings}
use Rattle.step_laws.specs.Core.{core_of, list_of}
use Rattle.step_laws.specs.Numbers.{tracked_fresh}
use Rattle.good_laws.specs.Good.{Good}
use Rattle.good_laws.specs.Scripts.{Orderly}
use Rattle.reached_laws.specs.Tracks.{good_tracked, orderly}
use Rattle.reached_laws.specs.Nets.{after_edits}
use Rattle.places_means.specs.Brought.{Differs, Has, vacates_have, script_has}

-- the copies take the slots in order, and what goes is of the graft node's net
pub graft_orderly : (x : ℕ → ℕ) (e : Engine) → Good x e → WellWired (graph_of e) → (m n k free : ℕ) (ids : List ℕ) → NodesOf (graph_of e) m ids → filled (graph_of e) n ≡ true
    → (at (graph_of e) n).net ≡ k → holds (graph_of e) m free ≡ true → graft_fits (graph_of e) free n ≡ true → Orderly e k (graft_script (fresh e) (graph_of e) ids free n)
unfolding core_of graft_script
graft_orderly x e g w m n k free ids nodes there own held fits =
    let t = good_tracked x e g in
    let f : Fresh (graph_of e) (fresh e) = tracked_fresh e t in
    let s = graft_script (fresh e) (graph_of e) ids free n in
    let clean = graft_clean (fresh e) (graph_of e) w f m n free ids nodes there held fits in
    let order : InOrder (fresh e) k 0 s.edits = subst (λ (j : ℕ). InOrder (fresh e) j 0 s.edits) own (graft_order (fresh e) (graph_of e) ids free n) in
    let ln = length-map e.nets list_of in
    let l = t.in_range n there in
    orderly e k s (omega arith) order clean.once (λ d i. after_edits (fresh e) k s.edits (graph_of e) order d (clean.there d i) (λ y. nets f d (one_of_two i) y))
  where
    nets : Fresh (graph_of e) (fresh e) → (d : ℕ) → (d ≡ fresh e (place (eqb free) ids)) ⊎ (d ≡ n) → filled (graph_of e) d ≡ true → (at (graph_of e) d).net ≡ k
    nets f d (inl q) y = absurd (not_fresh (graph_of e) (fresh e) f d (place (eqb free) ids) y q)
    nets f d (inr q) y = ap (λ (j : ℕ). (at (graph_of e) j).net) q ∙ own

-- a node is of one net
pub one_net : (g : Graph) (i j n : ℕ) → holds g i n ≡ true → holds g j n ≡ true → i ≡ j
unfolding holds
one_net g i j n a b = go (get_or g n none) a b
  where
    go : (o : Option Node) → elim o [ none ↦ false | some x ↦ eqb x.net i ] ≡ true → elim o [ none ↦ false | some x ↦ eqb x.net j ] ≡ true → i ≡ j
    go none p q = absurd (true≢false (sym p))
    go (some x) p q = sym (eqb-true x.net i p) ∙ eqb-true x.net j q

folded : {A B : Type 0} (f : B → A → B) (xs ys : List A) (b : B) → foldl f b (xs ++ ys) ≡ foldl f (foldl f b xs) ys
folded f [] ys b = refl
folded f (x ∷ xs) ys b = folded f xs ys (f b x)

joins_bring : (other : Name) (ps qs : List Port) → Brings (Differs other) (zip_with Join ps qs)
joins_bring other [] qs = tt
joins_bring other (p ∷ ps) [] = tt
joins_bring other (p ∷ ps) (q ∷ qs) = joins_bring other ps qs

module _ (other : Name) (number : ℕ → ℕ) (g : Graph) (w : WellWired g) (new : Fresh g number) (m : ℕ) (ids : List ℕ) (all : NodesOf g m ids) (free n : ℕ)
    (only : (i : ℕ) → holds g m i ≡ true → name_of g i ≡ other → i ≡ free) where
  -- after the copies
  abbrev h : Graph
  h = g₁ number g w new m ids all (at g n).net

  -- the free node's copy
  abbrev c : ℕ
  c = number (place (eqb free) ids)

  -- a copy has its original's name; the free node's copy is not looked at
  copied : (j : ℕ) → j ≢ c → Has other h j → Has other g j
  copied j apart a = go (one_of_row number (length ids) j)
    where
      go : ((k : ℕ) × (k < length ids) × (j ≡ number k)) ⊎ ((k : ℕ) → k < length ids → j ≢ number k) → Has other g j
      go (inl b) =
          let k = b.0 in
          let i = get_or ids k 0 in
          let is : name_of h (number k) ≡ name_of g i = name_frame h (number k) ∙ ap (λ (o : Option Frame). (or_else o no_frame).name) (copy_frame number g w new m ids all (at g n).net k b.1) in
          let named : name_of g i ≡ other = sym is ∙ ap (name_of h) (sym b.2) ∙ a.1 in
          let mem = at_mem ids k b.1 in
          let f : i ≡ free = only i (all.sound i mem) named in
          let p = place_at free ids (subst (λ (y : ℕ). Memᴰ y ids) f mem) in
          let same : place (eqb free) ids ≡ k = distinct_at ids all.once (place (eqb free) ids) k p.0 b.1 (p.1 ∙ sym f) in
          absurd (apart (b.2 ∙ ap number (sym same)))
      go (inr b) =
          let s = frame_slots g h j (copies_other number g w new m ids all (at g n).net j b) in
          (sym (filled_same g h j s) ∙ a.0, sym (name_same g h j s) ∙ a.1)

  pub graft_has : (j : ℕ) → Has other (apply_script g (graft_script number g ids free n)) j → Has other g j
  unfolding apply_script graft_script g₁
  graft_has j a = copied j gone (script_has other h (record { edits = joins; dead = c ∷ n ∷ [] }) (joins_bring other (map (port c) (drop 2 (up_to (arity g free)))) (ports g n)) j b)
    where
      joins : List Edit
      joins = Join (port c 0) (port c 1) ∷ zip_with Join (map (port c) (drop 2 (up_to (arity g free)))) (ports g n)

      b : Has other (foldl vacate (foldl apply (foldl apply g (copies number g ids (at g n).net)) joins) (c ∷ n ∷ [])) j
      b = subst (λ (y : Graph). Has other (foldl vacate y (c ∷ n ∷ [])) j) (folded apply (copies number g ids (at g n).net) joins g) a

      gone : j ≢ c
      gone q =
          let y = foldl apply (foldl apply g (copies number g ids (at g n).net)) joins in
          let v = vacates_have other (n ∷ []) (vacate y c) j b in
          true≢false (sym v.0 ∙ ap (filled (vacate y c)) q ∙ filled_frame (vacate y c) c ∙ ap is_some (frame_vacate_same y c))
