-- Good books keep track of the nodes; an orderly script of level Graph is one of the engine.
use Rattle.std.specs.Prelude.{ℕ, suc, ◌<◌, ◌≡◌, refl, true, false, not, length, get_or, set, eqb}
use Rattle.std.proofs.Common.{sym, ap, ◌∙◌, subst, arith, true≢false, get_or-set_other, eqb-true}
use Rattle.std.proofs.lemmas.Bool.{false≢true}
use Rattle.std.proofs.Math.Option.{Option, none, some}
use mathlib.Core.List.{List, [], ◌∷◌, Memᴰ}
use Rattle.std.proofs.lemmas.List.{length-map}
use Rattle.std.proofs.Math.ListN.{get_or-map}
use Rattle.list_laws.specs.Tests.{both}
use Rattle.net_file.specs.Lists.{any, distinct}
use Rattle.definitions.specs.Lists.{is_some, foldl}
use Rattle.definitions.specs.Nets.{Node, Graph, filled}
use Rattle.definitions.specs.Scripts.{Edit, Insert, Copy, Join, Cut, Script, apply}
use Rattle.definitions.specs.State.{Engine, graph_of, new_net, net_at}
use Rattle.definitions.specs.Books.{fresh}
use Rattle.rule_laws.specs.Ids.{distinct_cons, distinct_head}
use Rattle.rule_laws.specs.Order.{InOrder}
use Rattle.step_laws.specs.Core.{core_of, list_of}
use Rattle.step_laws.specs.Track.{Tracked}
use Rattle.good_laws.specs.Owners.{owner, owners, is_of, owner_at, holds_owner, net_of}
use Rattle.good_laws.specs.Good.{Once, Good}
use Rattle.good_laws.specs.Chain.{every_vacant}
use Rattle.good_laws.specs.Removed.{AllThere}
use Rattle.good_laws.specs.Edits.{Numbered}
use Rattle.good_laws.specs.Scripts.{Orderly}

-- ---- filled slots have owners

pub filled_owner : (g : Graph) (n : ℕ) → filled g n ≡ is_some (get_or (owners g) n none)
unfolding filled
filled_owner g n = go (get_or g n none) ∙ sym (ap is_some (owner_at g n))
  where
    go : (o : Option Node) → is_some o ≡ is_some (owner o)
    go none = refl
    go (some x) = refl

some_of : (o : Option ℕ) → is_some o ≡ true → (k : ℕ) × (o ≡ some k)
some_of none h = absurd (false≢true h)
some_of (some k) h = (k, refl)

none_of : (o : Option ℕ) → is_some o ≡ false → o ≡ none
none_of none h = refl
none_of (some k) h = absurd (true≢false h)

pub owned_by : (g : Graph) (n : ℕ) → filled g n ≡ true → (k : ℕ) × (get_or (owners g) n none ≡ some k)
owned_by g n h = some_of (get_or (owners g) n none) (sym (filled_owner g n) ∙ h)

once_distinct : (xs : List ℕ) → Once xs → distinct eqb xs ≡ true
once_distinct [] o = refl
once_distinct (x ∷ xs) o = distinct_cons x xs o.0 (once_distinct xs o.1)

-- a number that is live in net k
of_owner : (k : ℕ) (o : Option ℕ) → is_of k o ≡ true → o ≡ some k
of_owner k none h = absurd (false≢true h)
of_owner k (some j) h = ap {B = Option ℕ} some (eqb-true j k h)

-- ---- tracked

pub good_tracked : (x : ℕ → ℕ) (e : Engine) → Good x e → Tracked (core_of e)
unfolding core_of net_at
good_tracked x e g =
    let s = g.slotted in
    let lm : length (owners (graph_of e)) ≡ length (graph_of e) = length-map (graph_of e) owner in
    let ln = length-map e.nets list_of in
    let z = s.slots in
    record {
      size = sym lm ∙ z;
      vacant = λ n m. let v = s.vacant n m in let l = v.0 in (omega arith, filled_owner (graph_of e) n ∙ ap is_some v.1);
      every = λ n l h. every_vacant s n (omega arith) (none_of (get_or (owners (graph_of e)) n none) (sym (filled_owner (graph_of e) n) ∙ h));
      once = once_distinct e.slots.chain s.once;
      in_range = λ n h. let o = owned_by (graph_of e) n h in let a = net_of (graph_of e) n o.0 o.1 in let l = s.owned n o.0 o.1 in omega arith;
      listed = λ k n h.
          let o = of_owner k (get_or (owners (graph_of e)) n none) (sym (holds_owner (graph_of e) k n) ∙ h) in
          let l = s.owned n k o in
          subst (Memᴰ n) (sym (get_or-map list_of e.nets k (new_net (record { name = 0; free = 0 })))) ((g.lists k l).there n (sym (holds_owner (graph_of e) k n) ∙ h));
    }

-- ---- orderly

numbered : (M : ℕ) (fresh' : ℕ → ℕ) (into k : ℕ) (ds : List Edit) → into < M → InOrder fresh' into k ds → Numbered M fresh' k ds
numbered M fresh' into k [] l o = tt
numbered M fresh' into k (Insert n y ∷ ds) l o = let q = o.1 in (o.0, omega arith, numbered M fresh' into (suc k) ds l o.2)
numbered M fresh' into k (Copy n y ∷ ds) l o = let q = o.1 in (o.0, omega arith, numbered M fresh' into (suc k) ds l o.2)
numbered M fresh' into k (Join a b ∷ ds) l o = numbered M fresh' into k ds l o
numbered M fresh' into k (Cut a b ∷ ds) l o = numbered M fresh' into k ds l o

all_there : (own : List (Option ℕ)) (k : ℕ) (ns : List ℕ) → distinct eqb ns ≡ true → ((n : ℕ) → Memᴰ n ns → get_or own n none ≡ some k) → AllThere own k ns
all_there own k [] d h = tt
all_there own k (n ∷ ns) d h = (
  h n (Memᴰ.head refl),
  all_there (set own n none) k ns (both (not (any (eqb n) ns)) (distinct eqb ns) d).1
      (λ m i. get_or-set_other own n m none none (λ q. distinct_head n ns d (subst (λ (j : ℕ). Memᴰ j ns) q i)) ∙ h m (Memᴰ.tail i)),
)

-- new nodes in order in net k, dead nodes different and of net k
pub orderly : (e : Engine) (k : ℕ) (s : Script) → k < length e.nets → InOrder (fresh e) k 0 s.edits → distinct eqb s.dead ≡ true
    → ((n : ℕ) → Memᴰ n s.dead → get_or (owners (foldl apply (graph_of e) s.edits)) n none ≡ some k) → Orderly e k s
orderly e k s l o once there = (
  numbered (length e.nets) (fresh e) k 0 s.edits l o,
  all_there (owners (foldl apply (graph_of e) s.edits)) k s.dead once there,
)
