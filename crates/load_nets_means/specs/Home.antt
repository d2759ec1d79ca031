-- A net's free node: the words say it once the node is there, level Engine from the start. No edit looks at it.
use Rattle.std.specs.Prelude.{ℕ, ◌+◌, ◌<◌, ◌≡◌, Bool, get_or, set, ltb}
use Rattle.std.proofs.Math.Path.{refl, sym, ap}
use Rattle.std.proofs.Common.{◌∙◌, get_or-set_same, get_or-set_other, set-set, arith}
use Rattle.std.proofs.Math.Bool.{true, false}
use mathlib.Core.List.{List, [], ◌∷◌, ◌++◌}
use Rattle.std.proofs.Math.ListN.{length, length-set}
use Rattle.std.proofs.Math.Seq.{get_or-append_seam, map-set_same}
use Rattle.layout.specs.Layout.{net_at_words, set_net_word}
use Rattle.net_file.specs.Lists.{Result, ok, need, count, sum}
use Rattle.net_file.specs.Values.{Name}
use Rattle.definitions.specs.Lists.{◌>>=◌, is_some}
use Rattle.definitions.specs.Nets.{Node}
use Rattle.definitions.specs.Scripts.{Insert}
use Rattle.definitions.specs.State.{Net, Engine, graph_of, with_slots, with_dirty, with_nets, with_list, with_pending, new_net, net_at, over_net, more, entries}
use Rattle.definitions.specs.Books.{push, push_dirty, placed, add_node, edit}
use Rattle.good_laws.specs.Load.{wider}
use Rattle.means.specs.Means.{no_net, Means}
use Rattle.means.specs.Frame.{rest_set, OutNet}
use Rattle.means.proofs.Frame.{means_own}

-- a net with another free node
unfoldable pub with_free : ℕ → Net → Net
with_free v t = record { home = record { name = t.home.name; free = v }; list = t.list; pending = t.pending; awaiting = t.awaiting }

-- net k's free node is written
pub free_means : (Named : ℕ → Name → Type 0) (ws : List ℕ) (e : Engine) → Means Named ws e → (k v : ℕ) → k < length e.nets
    → Means Named (set_net_word ws (k + 1) 1 v) (over_net (with_free v) k e)
unfolding with_free net_at
free_means Named ws e m k v h =
    let n = m.nets k h in
    let g = m.header.long in
    let b = m.header.few_nets in
    means_own Named ws (set_net_word ws (k + 1) 1 v) e m (with_free v) k h
    (rest_set (OutNet k) ws (net_at_words (k + 1) 1) v (λ i o d. o (omega arith)))
    (record {
      name = get_or-set_other ws (net_at_words (k + 1) 1) (net_at_words (k + 1) 0) v 0 (omega arith) ∙ n.name;
      free = get_or-set_same ws (net_at_words (k + 1) 1) v 0 (omega arith);
      length_is = get_or-set_other ws (net_at_words (k + 1) 1) (net_at_words (k + 1) 4) v 0 (omega arith) ∙ n.length_is;
      capacity_is = get_or-set_other ws (net_at_words (k + 1) 1) (net_at_words (k + 1) 5) v 0 (omega arith) ∙ n.capacity_is;
      stale_is = get_or-set_other ws (net_at_words (k + 1) 1) (net_at_words (k + 1) 6) v 0 (omega arith) ∙ n.stale_is;
      pending_is = get_or-set_other ws (net_at_words (k + 1) 1) (net_at_words (k + 1) 7) v 0 (omega arith) ∙ n.pending_is;
    }) refl refl

-- ---- a new node of the net

-- net k of a list, changed by f
abbrev changed : (Net → Net) → ℕ → List Net → List Net
changed f k ts = set ts k (f (get_or ts k no_net))

-- changed twice
changed_twice : (f g : Net → Net) (k : ℕ) (ts : List Net) → k < length ts → changed f k (changed g k ts) ≡ changed (λ t. f (g t)) k ts
changed_twice f g k ts h =
    ap (λ (t : Net). set (set ts k (g (get_or ts k no_net))) k (f t)) (get_or-set_same ts k (g (get_or ts k no_net)) no_net h) ∙ set-set ts k (g (get_or ts k no_net)) (f (g (get_or ts k no_net)))

module _ (n : ℕ) (y : Node) (v : ℕ) (e : Engine) (h : y.net < length e.nets) where
  k : ℕ
  k = y.net

  pushed : Net → Net
  pushed t = with_list (push n t.list) t

  counted : Net → Net
  counted t = with_pending (t.pending + 1) t

  nets_same : changed counted k (changed pushed k (changed (with_free v) k e.nets)) ≡ changed (with_free v) k (changed counted k (changed pushed k e.nets))
  unfolding k pushed counted with_free with_list with_pending
  nets_same =
      let a = length-set e.nets k (with_free v (get_or e.nets k no_net)) in
      let b = length-set e.nets k (pushed (get_or e.nets k no_net)) in
      let l = changed_twice counted pushed k (changed (with_free v) k e.nets) (omega arith) ∙ changed_twice (λ t. counted (pushed t)) (with_free v) k e.nets h in
      let r = ap (changed (with_free v) k) (changed_twice counted pushed k e.nets h) ∙ changed_twice (with_free v) (λ t. counted (pushed t)) k e.nets h in
      l ∙ sym r

  placed_same : more y.net (push_dirty n (placed true n y (over_net (with_free v) y.net e))) ≡ over_net (with_free v) y.net (more y.net (push_dirty n (placed true n y e)))
  unfolding more over_net with_nets push_dirty with_dirty placed with_slots net_at k pushed counted
  placed_same = ap (λ (ts : List Net). with_nets ts (with_dirty (push n e.dirty) (placed true n y e))) nets_same

  entries_same : entries (over_net (with_free v) y.net e) ≡ entries e
  unfolding entries over_net with_nets net_at with_free
  entries_same = ap sum (map-set_same (λ (t : Net). length t.list.items) e.nets y.net (with_free v (get_or e.nets y.net no_net)) no_net refl)

  -- the node is put in, or refused, whatever its net's free node
  pub insert_free : edit (Insert n y) (over_net (with_free v) y.net e) ≡ (edit (Insert n y) e >>= λ d. ok (over_net (with_free v) y.net d))
  unfolding edit add_node over_net with_nets
  insert_free = rw entries_same (go (ltb (count is_some (graph_of e)) e.pools.nodes) (ltb (entries e) e.pools.entries))
    where
      go : (t u : Bool) → (need t 9 (need u 10 (ok (placed true n y (over_net (with_free v) y.net e)))) >>= λ d. ok (more y.net (push_dirty n d)))
          ≡ ((need t 9 (need u 10 (ok (placed true n y e))) >>= λ d. ok (more y.net (push_dirty n d))) >>= λ d. ok (over_net (with_free v) y.net d))
      go true true = ap {B = Result Engine} ok placed_same
      go true false = refl
      go false u = refl

-- ---- one net more

set_last : {A : Type 0} (ts : List A) (t u : A) → set (ts ++ t ∷ []) (length ts) u ≡ ts ++ u ∷ []
set_last [] t u = refl
set_last (x ∷ ts) t u = ap (λ l. x ∷ l) (set_last ts t u)

pub wider_free : (e : Engine) (name v : ℕ) → over_net (with_free v) (length e.nets) (wider e (record { name = name; free = 0 })) ≡ wider e (record { name = name; free = v })
unfolding over_net with_nets net_at with_free
wider_free e name v =
    let t = new_net (record { name = name; free = 0 }) in
    ap (λ (ts : List Net). with_nets ts e) (ap (λ (u : Net). set (e.nets ++ t ∷ []) (length e.nets) (with_free v u)) (get_or-append_seam e.nets t [] no_net)
    ∙ set_last e.nets t (new_net (record { name = name; free = v })))
