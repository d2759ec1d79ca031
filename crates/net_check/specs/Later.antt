-- Checks 6, 7 and 8 in their order, by offsets; on a body that is read they are what level File says (`later-exact`).
use Rattle.std.specs.Prelude.{Ok, Err, ℕ, ◌≡◌, Bool, true, false, not, ◌&&◌, List, map}
use Rattle.std.proofs.Math.Path.{refl}
use Rattle.std.proofs.Common.{sym, ◌∙◌}
use Rattle.std.proofs.Math.Option.{some}
use Rattle.words.specs.Choose.{pick, pick_true, pick_false}
use Rattle.net_file.specs.Lists.{need, ok, all, any, distinct, eqs, ascend}
use Rattle.net_file.specs.Values.{File}
use Rattle.net_file.specs.Checks.{Version, same_name, names_free, ordered, wired, free_named, checked}
use Rattle.fields.specs.Fields.{be16}
use Rattle.stored.specs.Stored.{net_count_at}
use Rattle.ends.specs.Ends.{within, on}
use Rattle.orders.specs.Orders.{nets_ordered}
use Rattle.orders_tree.specs.Names.{names_from}
use Rattle.wiring_nets.specs.Nets as flatly
use Rattle.wiring_tree_nets.specs.Nets as treely
use Rattle.checks.specs.Checks as offset
use Rattle.refusals.specs.declared.Refusal.TheVariants.{BadOrder, BadWiring, FreePathNamed}
use Rattle.net_check.specs.Verdict.{Checked, verdict}

-- tables differ, nets are ordered, nets are wired, a rule names the free path
unfoldable pub later : Bool → Bool → Bool → Bool → Checked
later differ order wire free = pick differ (pick order (pick wire (pick free (Err FreePathNamed) (Ok tt)) (Err BadWiring)) (Err BadOrder)) (Err BadOrder)

-- with the order and the wiring of the version's nets, which stand after the net count
unfoldable pub later_by : (List ℕ → ℕ → ℕ → Bool) → (List ℕ → ℕ → ℕ → Bool) → List ℕ → Checked
later_by order wire s =
    let q = within s (net_count_at s) in
    later (offset.tables_differ s) (order s (on s q 2) (be16 s q)) (wire s (on s q 2) (be16 s q)) (offset.free_named s)

unfoldable pub flat_later : List ℕ → Checked
flat_later s = later_by nets_ordered flatly.nets_wired s

unfoldable pub tree_later : List ℕ → Checked
tree_later s = later_by (names_from 0) treely.nets_wired s

-- ---- each way out

module _ (order wire : List ℕ → ℕ → ℕ → Bool) (s : List ℕ) (d : Bool) (ed : d ≡ offset.tables_differ s) where
  pub later_tables : d ≡ false → Err BadOrder ≡ later_by order wire s
  unfolding later_by later
  later_tables f = pick_false _ _ _ (sym ed ∙ f) refl

  module _ (q n from : ℕ) (yd : d ≡ true) (eq : q ≡ within s (net_count_at s)) (en : n ≡ be16 s q) (ef : from ≡ on s q 2) (o : Bool) (eo : o ≡ order s from n) where
    -- the nets where they stand
    order_is : o ≡ order s (on s (within s (net_count_at s)) 2) (be16 s (within s (net_count_at s)))
    order_is = eo ∙ rw (ef, en, eq)

    pub later_order : o ≡ false → Err BadOrder ≡ later_by order wire s
    unfolding later_by later
    later_order f = pick_true _ _ _ (sym ed ∙ yd) (pick_false _ _ _ (sym order_is ∙ f) refl)

    module _ (w : Bool) (yo : o ≡ true) (ew : w ≡ wire s from n) where
      wire_is : w ≡ wire s (on s (within s (net_count_at s)) 2) (be16 s (within s (net_count_at s)))
      wire_is = ew ∙ rw (ef, en, eq)

      pub later_wire : w ≡ false → Err BadWiring ≡ later_by order wire s
      unfolding later_by later
      later_wire f = pick_true _ _ _ (sym ed ∙ yd) (pick_true _ _ _ (sym order_is ∙ yo) (pick_false _ _ _ (sym wire_is ∙ f) refl))

      module _ (n' : Bool) (yw : w ≡ true) (en' : n' ≡ offset.free_named s) where
        pub later_free : n' ≡ true → Err FreePathNamed ≡ later_by order wire s
        unfolding later_by later
        later_free f =
            pick_true _ _ _ (sym ed ∙ yd) (pick_true _ _ _ (sym order_is ∙ yo) (pick_true _ _ _ (sym wire_is ∙ yw) (pick_true _ _ _ (sym en' ∙ f) refl)))

        pub later_none : n' ≡ false → Ok tt ≡ later_by order wire s
        unfolding later_by later
        later_none f =
            pick_true _ _ _ (sym ed ∙ yd) (pick_true _ _ _ (sym order_is ∙ yo) (pick_true _ _ _ (sym wire_is ∙ yw) (pick_false _ _ _ (sym en' ∙ f) refl)))

-- ---- what they mean

-- where tables and nets are in order, 7 and 8 decide
wired_and_free : {A : Type 0} (x : A) (w n : Bool) → pick w (pick n (Err FreePathNamed) (Ok tt)) (Err BadWiring) ≡ verdict (need w 7 (need (not n) 8 (ok x)))
unfolding pick verdict
wired_and_free x true true = refl
wired_and_free x true false = refl
wired_and_free x false n = refl

-- the same tests, as level File puts them together
as_checked : {A : Type 0} (x : A) (paths names nets pairs wire free w n : Bool) → (pairs ≡ true → wire ≡ w) → (paths ≡ true → free ≡ n)
    → later (paths && names) (nets && pairs) wire free ≡ verdict (need (paths && names && nets && pairs) 6 (need w 7 (need (not n) 8 (ok x))))
unfolding later pick verdict
as_checked x true true true true wire free w n hw hn =
    (λ i. pick (hw refl i) (pick (hn refl i) (Err FreePathNamed) (Ok tt)) (Err BadWiring)) ∙ wired_and_free x w n
as_checked x true true true false wire free w n hw hn = refl
as_checked x true true false pairs wire free w n hw hn = refl
as_checked x true false nets pairs wire free w n hw hn = refl
as_checked x false names nets pairs wire free w n hw hn = refl

-- the first of 6, 7, 8 whose condition holds, from the four tests
pub later_exact : {Net : Type 0} (v : Version Net) (f : File Net) (r : List ℕ) (differ order wire free : Bool)
    → differ ≡ (distinct eqs f.paths && distinct same_name f.names)
    → order ≡ (ascend (map v.name_of f.nets) && all v.pairs_ordered f.nets)
    → (all v.pairs_ordered f.nets ≡ true → wire ≡ all v.well_wired f.nets)
    → (distinct eqs f.paths ≡ true → free ≡ any (names_free f.paths) f.rules)
    → later differ order wire free ≡ verdict (checked v (some (f, r)))
unfolding checked ordered wired free_named
later_exact v f r differ order wire free ed eo ew ef =
    (λ i. later (ed i) (eo i) wire free)
    ∙ as_checked f (distinct eqs f.paths) (distinct same_name f.names) (ascend (map v.name_of f.nets)) (all v.pairs_ordered f.nets) wire free
    (all v.well_wired f.nets) (any (names_free f.paths) f.rules) ew ef
