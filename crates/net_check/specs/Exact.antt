-- The answer of a checker is what `read` answers, on every list of bytes: `flat_read` and `tree_read`.
use Prim.Native.Nat.{ℕ, ◌+◌, ◌<◌, ◌≤◌}
use Rattle.std.specs.Prelude.{Option, None, Some, Ok, Err, ◌≡◌, Bool, true, false, ◌&&◌, List, [], ◌∷◌, map, length, get_or, drop}
use Rattle.std.proofs.Math.Path.{refl, sym, ap}
use Rattle.std.proofs.Common.{◌∙◌}
use Rattle.std.proofs.Math.Option.{some}
use native.Mathlib.Omega.{arith}
use Rattle.std.proofs.Math.Decide.{dec_lt}
use Rattle.net_file.specs.Lists.{all, ascend}
use Rattle.net_file.specs.Values.{TreeNet}
use Rattle.net_file.specs.Read.{read_flat_net, read_tree_net, read_body}
use Rattle.net_file.specs.Checks.{Version, flat, tree, checked, read}
use Rattle.fields.specs.Fields.{be16}
use Rattle.stored.specs.Stored.{net_count_at, flat_net_at, flat_net_end}
use Rattle.stored.specs.Laws.{Stands}
use Rattle.stored.specs.Parts.{stands_net}
use Rattle.stored.specs.Body.{body_at, body_end, nets_at, stands_body}
use Rattle.stored_tree.specs.Tree.{tree_net_at, tree_net_end}
use Rattle.stored_tree.specs.Parts.{stands_tree_net}
use Rattle.ends.specs.Ends.{within, on}
use Rattle.words.specs.Choose.{lt_yes}
use Rattle.head.specs.Head.{head_of}
use Rattle.head.specs.Laws.{past, read_head}
use Rattle.walk.specs.After.{after, went, refused}
use Rattle.body.specs.Reached.{Reached, reached}
use Rattle.orders.specs.Orders.{nets_ordered}
use Rattle.orders_tree.specs.Names.{names_from}
use Rattle.orders_laws.specs.Nets.{nets_ordered_lem}
use Rattle.orders_laws.specs.Trees.{names_ascend}
use Rattle.wiring_nets.specs.Nets as flatly
use Rattle.wiring_tree_nets.specs.Nets as treely
use Rattle.wiring_laws.proofs.Nets as flatlawsProofs
use Rattle.wiring_tree_laws.specs.Nets as treelaws
use Rattle.checks.specs.Checks as offset
use Rattle.checks_laws.specs.Laws.{tables_differ_lem, free_is_named}
use Rattle.refusals.specs.declared.Refusal.{Refusal}
use Rattle.refusals.specs.declared.Refusal.TheVariants.{BadLength, BadBody}
use Rattle.refusals.specs.Numbers.{by_number}
use Rattle.net_check.specs.Verdict.{Checked, number_of, verdict}
use Rattle.net_check.specs.Later.{later, later_by, flat_later, tree_later, later_exact}

-- ---- past the head: for either version

module _ {Net : Type 0} (v : Version Net) (net_at : List ℕ → ℕ → Net) (net_end : List ℕ → ℕ → ℕ) (s : List ℕ)
    (h : (paths names at : ℕ) → Stands s (v.read_net paths names) at (net_at s at) (net_end s at)) where
  -- refused by the head
  pub head_refused : (c : Checked) (e : Refusal) → c ≡ head_of v.version s → c ≡ Err e → Err e ≡ verdict (read v s)
  unfolding past verdict
  head_refused c e ec ee =
      sym (ap verdict (read_head v s ∙ ap (λ m. past m (checked v (read_body v.read_net v.nodes (drop 5 s)))) (sym ec ∙ ee)) ∙ ap Err (by_number e))

  module _ (n : Checked) (en : n ≡ head_of v.version s) (z : n ≡ Ok tt) where
    past_head : read v s ≡ checked v (read_body v.read_net v.nodes (drop 5 s))
    unfolding past
    past_head = read_head v s ∙ ap (λ m. past m (checked v (read_body v.read_net v.nodes (drop 5 s)))) (sym en ∙ z)

    -- a file that is past its head has five bytes
    long : 5 ≤ length s
    unfolding head_of number_of
    long = elim (dec_lt (length s) 5) [
      | yes l ↦
          let e : Err BadLength ≡ head_of v.version s = lt_yes _ _ _ _ l refl in
          let two : ◌≡◌ {A = ℕ} 2 0 = ap number_of (e ∙ sym en ∙ z) in
          absurd (omega arith)
      | no l ↦ omega arith
    ]

    -- the body cannot be read
    pub body_refused : (b : Option ℕ) → b ≡ after 5 (read_body v.read_net v.nodes) s → b ≡ None → Err BadBody ≡ verdict (read v s)
    unfolding verdict checked
    body_refused b eb e = sym (ap verdict (past_head ∙ ap (checked v) (refused (read_body v.read_net v.nodes) s 5 b eb e long)))

    pub body_read : (b : Option ℕ) (m : ℕ) (r : Checked) → b ≡ after 5 (read_body v.read_net v.nodes) s → b ≡ Some m
        → (Reached v.read_net net_at net_end s → r ≡ verdict (checked v (some (body_at net_at net_end s, drop (body_end net_at net_end s) s)))) → r ≡ verdict (read v s)
    body_read b m r eb e k =
        let y = went b m (stands_body v.read_net v.nodes net_at net_end s h) eb e in
        k (reached v.read_net net_at net_end s v.nodes h _ _ y.from y.read) ∙ sym (ap verdict (past_head ∙ ap (checked v) y.read))

-- ---- the nets' place is inside the file

nets_place : (s : List ℕ) → net_count_at s + 2 ≤ length s → (within s (net_count_at s) ≡ net_count_at s) × (on s (within s (net_count_at s)) 2 ≡ net_count_at s + 2)
nets_place s h = let e : within s (net_count_at s) ≡ net_count_at s = omega arith in (e, rw e (omega arith))

module _ (s : List ℕ) (b : (i : ℕ) → get_or s i 0 < 256) where
  -- ---- flat nets

  flat_later_lem : Reached read_flat_net flat_net_at flat_net_end s
      → flat_later s ≡ verdict (checked flat (some (body_at flat_net_at flat_net_end s, drop (body_end flat_net_at flat_net_end s) s)))
  unfolding flat_later later_by body_at
  flat_later_lem g =
      let t = g.nets in
      let p = nets_place s t.inside in
      (λ i. later (offset.tables_differ s) (nets_ordered s (p.1 i) (be16 s (p.0 i))) (flatly.nets_wired s (p.1 i) (be16 s (p.0 i))) (offset.free_named s))
      ∙ later_exact flat (body_at flat_net_at flat_net_end s) (drop (body_end flat_net_at flat_net_end s) s) _ _ _ _
      (tables_differ_lem read_flat_net flat_net_at flat_net_end s g b)
      (nets_ordered_lem s (be16 s 9) _ (be16 s (net_count_at s)) (net_count_at s + 2) _ t.rest t.read t.inside t.few)
      (λ o. flatlawsProofs.nets_wired_lem s (be16 s 9) _ (net_count_at s + 2) (be16 s (net_count_at s)) _ t.rest t.read t.inside t.few o)
      (free_is_named read_flat_net flat_net_at flat_net_end s g)

  -- ---- tree nets

  no_pairs : (ns : List TreeNet) → all (λ n. true) ns ≡ true
  no_pairs [] = refl
  no_pairs (n ∷ ns) = no_pairs ns

  and_true : (a : Bool) → a ≡ (a && true)
  and_true true = refl
  and_true false = refl

  tree_later_lem : Reached read_tree_net tree_net_at tree_net_end s
      → tree_later s ≡ verdict (checked tree (some (body_at tree_net_at tree_net_end s, drop (body_end tree_net_at tree_net_end s) s)))
  unfolding tree_later later_by body_at
  tree_later_lem g =
      let t = g.nets in
      let p = nets_place s t.inside in
      (λ i. later (offset.tables_differ s) (names_from 0 s (p.1 i) (be16 s (p.0 i))) (treely.nets_wired s (p.1 i) (be16 s (p.0 i))) (offset.free_named s))
      ∙ later_exact tree (body_at tree_net_at tree_net_end s) (drop (body_end tree_net_at tree_net_end s) s) _ _ _ _
      (tables_differ_lem read_tree_net tree_net_at tree_net_end s g b)
      (names_ascend s (be16 s 9) _ (be16 s (net_count_at s)) (net_count_at s + 2) _ t.rest t.read t.inside
      ∙ and_true _ ∙ ap (λ a. ascend (map (λ x. x.name) (nets_at tree_net_at tree_net_end s)) && a) (sym (no_pairs (nets_at tree_net_at tree_net_end s))))
      (λ o. treelaws.nets_wired_lem s (be16 s 9) _ (be16 s (net_count_at s)) (net_count_at s + 2) _ t.rest t.few t.inside t.read)
      (free_is_named read_tree_net tree_net_at tree_net_end s g)

-- ---- the ways out of the two checkers

module _ (s : List ℕ) (n : Checked) where
  pub flat_head : (e : Refusal) → n ≡ head_of 1 s → n ≡ Err e → Err e ≡ verdict (read flat s)
  flat_head e en ee = head_refused flat flat_net_at flat_net_end s (stands_net s) n e en ee

  pub tree_head : (e : Refusal) → n ≡ head_of 65 s → n ≡ Err e → Err e ≡ verdict (read tree s)
  tree_head e en ee = head_refused tree tree_net_at tree_net_end s (stands_tree_net s) n e en ee

  module _ (b : Option ℕ) (z : n ≡ Ok tt) where
    pub flat_five : n ≡ head_of 1 s → b ≡ after 5 (read_body read_flat_net flat.nodes) s → b ≡ None → Err BadBody ≡ verdict (read flat s)
    flat_five e eb f = body_refused flat flat_net_at flat_net_end s (stands_net s) n e z b eb f

    pub tree_five : n ≡ head_of 65 s → b ≡ after 5 (read_body read_tree_net tree.nodes) s → b ≡ None → Err BadBody ≡ verdict (read tree s)
    tree_five e eb f = body_refused tree tree_net_at tree_net_end s (stands_tree_net s) n e z b eb f

    module _ (m : ℕ) (r : Checked) (f : b ≡ Some m) (bytes : (i : ℕ) → get_or s i 0 < 256) where
      pub flat_read : n ≡ head_of 1 s → b ≡ after 5 (read_body read_flat_net flat.nodes) s → r ≡ flat_later s → r ≡ verdict (read flat s)
      flat_read e eb er = body_read flat flat_net_at flat_net_end s (stands_net s) n e z b m r eb f (λ g. er ∙ flat_later_lem s bytes g)

      pub tree_read : n ≡ head_of 65 s → b ≡ after 5 (read_body read_tree_net tree.nodes) s → r ≡ tree_later s → r ≡ verdict (read tree s)
      tree_read e eb er = body_read tree tree_net_at tree_net_end s (stands_tree_net s) n e z b m r eb f (λ g. er ∙ tree_later_lem s bytes g)
