-- Graft: the copied free node's ports 0 and 1 vanish, its others are joined with those of the graft node.
use Rattle.std.proofs.Math.Path.{◌≡◌, sym, ap}
use Rattle.std.specs.Prelude.{refl, ◌≢◌, ◌⊎◌, ℕ, zero, suc, ◌+◌, ◌<◌, ◌≤◌, Bool, true, false, length, get_or, drop, eqb}
use Rattle.std.proofs.Common.{◌∙◌, subst, inl, inr, true≢false, eqb-true}
use native.Mathlib.Omega.{arith}
use Rattle.std.proofs.Math.Option.{Option, none, some}
use mathlib.Core.List.{List, [], ◌∷◌, ◌++◌, map, Memᴰ}
use Rattle.definitions.specs.Lists.{foldl, place, zip_with, from, up_to}
use Rattle.definitions.specs.Nets.{Port, Graph, port, at, filled, holds, name_of, arity, ports, across}
use Rattle.definitions.specs.Scripts.{Edit, Copy, Join, Script, join, apply, vacate, apply_script}
use Rattle.definitions.specs.Rules.{copy_port, copies, graft_script, graft_fits}
use Rattle.definitions.specs.Step.{Fresh, NodesOf}
use Rattle.join_laws.specs.Ports.{frame, arity_same, net_same, filled_same, Real, across_real}
use Rattle.join_laws.proofs.Join.{frame_join}
use Rattle.script_laws.specs.Safe.{With, was, first, second, AllAway, away_append}
use Rattle.script_laws.specs.Loops.{Or, left, right, Row, Apart, joins_safe}
use Rattle.script_laws.specs.Tidy.{WellWired, Tidy, real_filled}
use Rattle.rule_laws.specs.Places.{zip_rows, one_of_two, not_fresh, Ported, Clean, tidy_clean}
use Rattle.rule_laws.specs.Rows.{from_next}
use Rattle.rule_laws.specs.Ids.{place_at, distinct_two}
use Rattle.rule_laws.specs.Copies.{g₁, old_across, old_frame, copy_arity, copy_net, copies_well, copies_ported}
use Rattle.rule_laws.specs.Graft.{joins, Ends, h, same, joins_tidy, foldl_append, rows}

-- a graft leaves the nets well wired
pub graft_clean : (fresh : ℕ → ℕ) (g : Graph) → WellWired g → Fresh g fresh → (m a free : ℕ) (ids : List ℕ) → NodesOf g m ids → filled g a ≡ true
    → holds g m free ≡ true → graft_fits g free a ≡ true → Clean g (graft_script fresh g ids free a)
unfolding graft_script graft_fits ports apply_script g₁ copies
graft_clean fresh g w fr m a free ids all filled_a held fits =
    record {
      wired = subst WellWired (sym same) clean.wired;
      frames = λ n x d. ap (λ (k : Graph). frame k n) same ∙ clean.frames n (filled_same g h n (old n x) ∙ x) d ∙ old n x;
      wires = λ p q e dp dq.
          let xp = real_filled g p (across_real g p q e) in
          ap (λ (k : Graph). across k p) same ∙ clean.wires p q (old_across fresh g w fr m ids all (at g a).net p xp ∙ e) dp dq;
      there = λ n d. ap (λ (k : Graph). filled k n) edited ∙ clean.there n d;
      once = clean.once;
      away = λ c x d. away_append c (copies fresh g ids (at g a).net) joined (copied_away c x) (subst (AllAway c) (sym joined_is) (clean.away c (filled_same g h c (old c x) ∙ x) d));
      ported = λ p. subst Ported (sym same) (clean.ported (copies_ported fresh g w fr m ids all (at g a).net p));
    }
  where
    f : ℕ
    f = fresh (place (eqb free) ids)

    h : Graph
    h = g₁ fresh g w fr m ids all (at g a).net

    old : (n : ℕ) → filled g n ≡ true → frame h n ≡ frame g n
    old n x = old_frame fresh g w fr m ids all (at g a).net n x

    k : (place (eqb free) ids < length ids) × (get_or ids (place (eqb free) ids) 0 ≡ free)
    k = place_at free ids (all.full free held)

    differ : f ≢ a
    differ e = not_fresh g fresh fr a (place (eqb free) ids) filled_a (sym e)

    same_a : arity h a ≡ arity g a
    same_a = arity_same g h a (old a filled_a)

    size : arity h f ≡ 2 + arity h a
    size =
        copy_arity fresh g w fr m ids all (at g a).net (place (eqb free) ids) k.0 ∙ ap (arity g) k.1
        ∙ eqb-true (arity g free) (2 + arity g a) fits ∙ ap (λ (n : ℕ). 2 + n) (sym same_a)

    one_net : (at h f).net ≡ (at h a).net
    one_net = copy_net fresh g w fr m ids all (at g a).net (place (eqb free) ids) k.0 ∙ sym (net_same g h a (old a filled_a))

    filled_h : filled h a ≡ true
    filled_h = filled_same g h a (old a filled_a) ∙ filled_a

    well : WellWired h
    well = copies_well fresh g w fr m ids all (at g a).net

    clean : Clean h (joins h well f a differ size one_net filled_h)
    clean = tidy_clean h (joins h well f a differ size one_net filled_h) (Ends h well f a differ size one_net filled_h) well (joins_tidy h well f a differ size one_net filled_h) (distinct_two f a differ)

    tail : zip_with Join (map (port f) (drop 2 (up_to (arity g free)))) (map (port a) (up_to (arity g a))) ≡ map (λ i. Join (port f (2 + i)) (port a i)) (up_to (arity h a))
    tail =
        ap (λ (n : ℕ). zip_with Join (map (port f) (drop 2 (up_to n))) (map (port a) (up_to (arity g a)))) (eqb-true (arity g free) (2 + arity g a) fits)
        ∙ rows f a (arity g a) ∙ ap (λ (n : ℕ). map (λ i. Join (port f (2 + i)) (port a i)) (up_to n)) (sym same_a)

    joined : List Edit
    joined = Join (port f 0) (port f 1) ∷ zip_with Join (map (port f) (drop 2 (up_to (arity g free)))) (map (port a) (up_to (arity g a)))

    joined_is : Join (port f 0) (port f 1) ∷ zip_with Join (map (port f) (drop 2 (up_to (arity g free)))) (map (port a) (up_to (arity g a))) ≡ (joins h well f a differ size one_net filled_h).edits
    joined_is = ap (λ (es : List Edit). Join (port f 0) (port f 1) ∷ es) tail

    copied_away : (c : ℕ) → filled g c ≡ true → AllAway c (copies fresh g ids (at g a).net)
    copied_away c x = go ids 0
      where
        go : (xs : List ℕ) (k : ℕ)
            → AllAway c (zip_with (λ k n. Copy (fresh k) (record { net = (at g a).net; name = name_of g n; ports = map (copy_port fresh g ids) (at g n).ports })) (from k (length xs)) xs)
        go [] k = tt
        go (y ∷ xs) k = (λ e. not_fresh g fresh fr c k x (sym e), go xs (suc k))

    edited : foldl apply g (graft_script fresh g ids free a).edits ≡ foldl apply h (joins h well f a differ size one_net filled_h).edits
    edited =
        foldl_append apply (copies fresh g ids (at g a).net) (Join (port f 0) (port f 1) ∷ zip_with Join (map (port f) (drop 2 (up_to (arity g free)))) (map (port a) (up_to (arity g a)))) g
        ∙ ap (λ (es : List Edit). foldl apply h (Join (port f 0) (port f 1) ∷ es)) tail

    same : apply_script g (graft_script fresh g ids free a) ≡ apply_script h (joins h well f a differ size one_net filled_h)
    same = ap (λ (k : Graph). foldl vacate k (f ∷ a ∷ [])) edited
