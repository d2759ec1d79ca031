-- Slots and node lists keep track of the nodes: the chain holds each vacant slot once, each net's list all its nodes.
use Rattle.std.specs.Prelude.{◌≡◌, refl, ◌≢◌, ◌⊎◌, ℕ, zero, suc, ◌+◌, ◌<◌, ◌≤◌, Bool, true, false, not, ◌&&◌, ◌||◌, length, get_or, set, drop, eqb, ltb}
use Rattle.std.proofs.Common.{sym, ap, ◌∙◌, subst, inl, inr, arith, true≢false, length-set, get_or-set_same, get_or-set_other, eqb-true, eq-eqb}
use Rattle.std.proofs.Math.Decide.{ℕ_discrete}
use Rattle.std.proofs.lemmas.Bool.{false≢true, not-true}
use Rattle.std.proofs.Math.Option.{Option, none, some}
use mathlib.Core.List.Memᴰ
use mathlib.Core.List.{List, [], ◌∷◌, ◌++◌, map, Memᴰ}
use Rattle.list_laws.specs.Tests.{both, both_are}
use Rattle.net_file.specs.Lists.{any, distinct, count, bit}
use Rattle.definitions.specs.Lists.{or_else, is_some, keep, firsts}
use Rattle.definitions.specs.Nets.{Port, Node, Graph, at, filled, holds, follow}
use Rattle.definitions.specs.Scripts.{wire, cut, join, fill, vacate}
use Rattle.join_laws.specs.Ports.{Frame, no_frame, in_net, frame, frame_of, net_frame, net_same, filled_frame, filled_same, holds_frame, holds_same}
use Rattle.join_laws.specs.Join.{join_cases}
use Rattle.script_laws.specs.Slots.{frame_fill_same, frame_fill_other, frame_vacate_same, frame_vacate_other}
use Rattle.rule_laws.specs.Ids.{any_mem, distinct_cons, distinct_head}
use Rattle.step_laws.specs.Core.{Core}

-- net k's node list
abbrev pub list_at : Core → ℕ → List ℕ
list_at c k = get_or c.lists k []

pub record Tracked (c : Core) : Type 0 where
  pub size : length c.graph ≡ c.pools.nodes
  pub vacant : (n : ℕ) → Memᴰ n c.chain → (n < length c.graph) × (filled c.graph n ≡ false)
  pub every : (n : ℕ) → n < length c.graph → filled c.graph n ≡ false → Memᴰ n c.chain
  pub once : distinct eqb c.chain ≡ true
  pub in_range : (n : ℕ) → filled c.graph n ≡ true → (at c.graph n).net < length c.lists
  pub listed : (k n : ℕ) → holds c.graph k n ≡ true → Memᴰ n (list_at c k)

-- other nodes
abbrev pub regraph : Graph → Core → Core
regraph g c = record { graph = g; chain = c.chain; homes = c.homes; lists = c.lists; rules = c.rules; pools = c.pools; steps = c.steps; limit = c.limit }

-- node x in slot n, the first of the chain
abbrev pub placed_in : ℕ → Node → Core → Core
placed_in n x c = record {
  graph = fill c.graph n x;
  chain = drop 1 c.chain;
  homes = c.homes;
  lists = set c.lists x.net (list_at c x.net ++ n ∷ []);
  rules = c.rules;
  pools = c.pools;
  steps = c.steps;
  limit = c.limit;
}

-- slot n vacant
abbrev pub vacated_in : ℕ → Core → Core
vacated_in n c = record { graph = vacate c.graph n; chain = n ∷ c.chain; homes = c.homes; lists = c.lists; rules = c.rules; pools = c.pools; steps = c.steps; limit = c.limit }

-- net k's list tightened
abbrev pub tight_in : ℕ → Core → Core
tight_in k c = record {
  graph = c.graph;
  chain = c.chain;
  homes = c.homes;
  lists = set c.lists k (firsts eqb [] (keep (holds c.graph k) (list_at c k)));
  rules = c.rules;
  pools = c.pools;
  steps = c.steps;
  limit = c.limit;
}

-- ---- lists

-- what is live stays in a tightened list
keep_mem : (f : ℕ → Bool) (xs : List ℕ) (n : ℕ) → Memᴰ n xs → f n ≡ true → Memᴰ n (keep f xs)
keep_mem f [] n m e = absurd (Memᴰ.not-nil m)
keep_mem f (x ∷ xs) n m e = go (f x) refl (Memᴰ.cases_cons m) (λ k. keep_mem f xs n k e)
  where
    go : (t : Bool) → f x ≡ t → (n ≡ x) ⊎ Memᴰ n xs → (Memᴰ n xs → Memᴰ n (keep f xs)) → Memᴰ n (elim t as (λ _. List ℕ) [ true ↦ x ∷ keep f xs | false ↦ keep f xs ])
    go true y (inl s) r = Memᴰ.head s
    go true y (inr k) r = Memᴰ.tail (r k)
    go false y (inl s) r = absurd (true≢false (sym e ∙ ap f s ∙ y))
    go false y (inr k) r = r k

firsts_mem : (xs seen : List ℕ) (n : ℕ) → Memᴰ n xs → any (eqb n) seen ≡ false → Memᴰ n (firsts eqb seen xs)
firsts_mem [] seen n m e = absurd (Memᴰ.not-nil m)
firsts_mem (x ∷ xs) seen n m e = go (any (eqb x) seen) refl (Memᴰ.cases_cons m) (ℕ_discrete n x) (λ s k y. firsts_mem xs s n k y)
  where
    go : (t : Bool) → any (eqb x) seen ≡ t → (n ≡ x) ⊎ Memᴰ n xs → Dec (n ≡ x) → ((s : List ℕ) → Memᴰ n xs → any (eqb n) s ≡ false → Memᴰ n (firsts eqb s xs))
        → Memᴰ n (elim t as (λ _. List ℕ) [ true ↦ firsts eqb seen xs | false ↦ x ∷ firsts eqb (x ∷ seen) xs ])
    go true y (inl s) d r = absurd (true≢false (sym y ∙ ap (λ (t : ℕ). any (eqb t) seen) (sym s) ∙ e))
    go true y (inr k) d r = r seen k e
    go false y c (yes s) r = Memᴰ.head s
    go false y (inl s) (no d) r = absurd (d s)
    go false y (inr k) (no d) r = Memᴰ.tail (r (x ∷ seen) k (rw (neq) e))
      where
        neq : eqb n x ≡ false
        neq = via (eqb n x) refl
          where
            via : (t : Bool) → eqb n x ≡ t → eqb n x ≡ false
            via true q = absurd (d (eqb-true n x q))
            via false q = q

pub tight_mem : (f : ℕ → Bool) (xs : List ℕ) (n : ℕ) → Memᴰ n xs → f n ≡ true → Memᴰ n (firsts eqb [] (keep f xs))
tight_mem f xs n m e = firsts_mem (keep f xs) [] n (keep_mem f xs n m e) refl

-- ---- slots

pub filled_in : (g : Graph) (n : ℕ) → filled g n ≡ true → n < length g
unfolding filled
filled_in [] n e = absurd (true≢false (sym e))
filled_in (y ∷ g) zero e = omega arith
filled_in (y ∷ g) (suc n) e = let z = filled_in g n e in omega arith

length_fill : (g : Graph) (n : ℕ) (x : Node) → n < length g → length (fill g n x) ≡ length g
unfolding fill
length_fill [] n x l = absurd (omega arith)
length_fill (y ∷ g) zero x l = refl
length_fill (y ∷ g) (suc n) x l = ap suc (length_fill g n x (omega arith))

length_vacate : (g : Graph) (n : ℕ) → length (vacate g n) ≡ length g
unfolding vacate
length_vacate g n = length-set g n none

length_wire : (g : Graph) (p : Port) (q : Option Port) → length (wire g p q) ≡ length g
unfolding wire
length_wire g p q = go (get_or g p.node none)
  where
    go : (o : Option Node) → length {A = Option Node} (elim o as (λ _. Graph) [ none ↦ g | some n ↦ set g p.node (some (record { net = n.net; name = n.name; ports = set n.ports p.index q })) ]) ≡ length g
    go none = refl
    go (some n) = length-set g p.node (some (record { net = n.net; name = n.name; ports = set n.ports p.index q }))

pub length_cut : (g : Graph) (a b : Port) → length (cut g a b) ≡ length g
unfolding cut
length_cut g a b = length_wire (wire g a none) b none ∙ length_wire g a none

pub length_join : (g : Graph) (a b : Port) → length (join g a b) ≡ length g
length_join g a b = join_cases (λ h. length h ≡ length g) g a b (λ _ _. length_cut g a b)
    (λ _ _. length_wire (wire (cut g a b) (follow g a) (some (follow g b))) (follow g b) (some (follow g a)) ∙ length_wire (cut g a b) (follow g a) (some (follow g b)) ∙ length_cut g a b)

-- ---- the same frames

pub tracked_frames : (c : Core) (h : Graph) → length h ≡ length c.graph → ((n : ℕ) → frame h n ≡ frame c.graph n) → Tracked c → Tracked (regraph h c)
tracked_frames c h l same t = record {
  size = l ∙ t.size;
  vacant = λ n m. let x = t.vacant n m in (let y = x.0 in omega arith, filled_same c.graph h n (same n) ∙ x.1);
  every = λ n k e. t.every n (omega arith) (sym (filled_same c.graph h n (same n)) ∙ e);
  once = t.once;
  in_range = λ n e. rw (net_same c.graph h n (same n)) (t.in_range n (sym (filled_same c.graph h n (same n)) ∙ e));
  listed = λ k n e. t.listed k n (sym (holds_same c.graph h n (same n) k) ∙ e);
}

-- ---- a node comes

module _ (c : Core) (n : ℕ) (ns : List ℕ) (x : Node) (first : c.chain ≡ n ∷ ns) (net : x.net < length c.lists) (t : Tracked c) where
  free : (n < length c.graph) × (filled c.graph n ≡ false)
  free = t.vacant n (subst (Memᴰ n) (sym first) (Memᴰ.head refl))

  once' : distinct eqb (n ∷ ns) ≡ true
  once' = subst (λ (l : List ℕ). distinct eqb l ≡ true) first t.once

  -- elsewhere the frames are the same
  off : (m : ℕ) → m ≢ n → frame (fill c.graph n x) m ≡ frame c.graph m
  off m h = frame_fill_other c.graph n m x h

  on_filled : (m : ℕ) → m ≡ n → filled (fill c.graph n x) m ≡ true
  on_filled m e = ap (filled (fill c.graph n x)) e ∙ filled_frame (fill c.graph n x) n ∙ ap is_some (frame_fill_same c.graph n x)

  on_net : (m : ℕ) → m ≡ n → (at (fill c.graph n x) m).net ≡ x.net
  on_net m e =
      ap (λ (k : ℕ). (at (fill c.graph n x) k).net) e ∙ net_frame (fill c.graph n x) n
      ∙ ap (λ (o : Option Frame). (or_else o no_frame).net) (frame_fill_same c.graph n x)

  on_holds : (k m : ℕ) → m ≡ n → holds (fill c.graph n x) k m ≡ true → k ≡ x.net
  on_holds k m e h =
      sym (eqb-true x.net k (sym (holds_frame (fill c.graph n x) n k ∙ ap (in_net k) (frame_fill_same c.graph n x)) ∙ sym (ap (holds (fill c.graph n x) k) e) ∙ h))

  same_list : (k : ℕ) → k ≢ x.net → list_at (placed_in n x c) k ≡ list_at c k
  same_list k h = get_or-set_other c.lists x.net k (list_at c x.net ++ n ∷ []) [] h

  new_list : list_at (placed_in n x c) x.net ≡ list_at c x.net ++ n ∷ []
  new_list = get_or-set_same c.lists x.net (list_at c x.net ++ n ∷ []) [] net

  list_more : (k m : ℕ) → Memᴰ m (list_at c k) → Memᴰ m (list_at (placed_in n x c) k)
  list_more k m h = go (ℕ_discrete k x.net)
    where
      go : Dec (k ≡ x.net) → Memᴰ m (list_at (placed_in n x c) k)
      go (yes e) =
          subst (λ (j : ℕ). Memᴰ m (list_at (placed_in n x c) j)) (sym e)
          (subst (Memᴰ m) (sym new_list) (Memᴰ.append_left (n ∷ []) (subst (λ (j : ℕ). Memᴰ m (list_at c j)) e h)))
      go (no e) = subst (Memᴰ m) (sym (same_list k e)) h

  pub tracked_placed : Tracked (placed_in n x c)
  tracked_placed = record {
    size = length_fill c.graph n x free.0 ∙ t.size;
    vacant = λ m h. vacant m (subst (λ (l : List ℕ). Memᴰ m (drop 1 l)) first h);
    every = λ m l e. subst (λ (q : List ℕ). Memᴰ m (drop 1 q)) (sym first) (every m l e);
    once = subst (λ (l : List ℕ). distinct eqb (drop 1 l) ≡ true) (sym first) (both (not (any (eqb n) ns)) (distinct eqb ns) once').1;
    in_range = λ m e. rw (length-set c.lists x.net (list_at c x.net ++ n ∷ [])) (range m e (ℕ_discrete m n));
    listed = λ k m e. listed k m e (ℕ_discrete m n);
  }
    where
      vacant : (m : ℕ) → Memᴰ m ns → (m < length (fill c.graph n x)) × (filled (fill c.graph n x) m ≡ false)
      vacant m h =
          let y = t.vacant m (subst (Memᴰ m) (sym first) (Memᴰ.tail h)) in
          let ne : m ≢ n = λ e. distinct_head n ns once' (subst (λ (k : ℕ). Memᴰ k ns) e h) in
          (subst (λ (k : ℕ). m < k) (sym (length_fill c.graph n x free.0)) y.0, filled_same c.graph (fill c.graph n x) m (off m ne) ∙ y.1)

      every : (m : ℕ) → m < length (fill c.graph n x) → filled (fill c.graph n x) m ≡ false → Memᴰ m ns
      every m l e =
          let ne : m ≢ n = λ s. true≢false (sym (on_filled m s) ∙ e) in
          let l' : m < length c.graph = subst (λ (k : ℕ). m < k) (length_fill c.graph n x free.0) l in
          go ne (Memᴰ.cases_cons (subst (Memᴰ m) first (t.every m l' (sym (filled_same c.graph (fill c.graph n x) m (off m ne)) ∙ e))))
        where
          go : m ≢ n → (m ≡ n) ⊎ Memᴰ m ns → Memᴰ m ns
          go ne (inl s) = absurd (ne s)
          go ne (inr h) = h

      range : (m : ℕ) → filled (fill c.graph n x) m ≡ true → Dec (m ≡ n) → (at (fill c.graph n x) m).net < length c.lists
      range m e (yes s) = rw (on_net m s) net
      range m e (no s) = rw (net_same c.graph (fill c.graph n x) m (off m s)) (t.in_range m (sym (filled_same c.graph (fill c.graph n x) m (off m s)) ∙ e))

      listed : (k m : ℕ) → holds (fill c.graph n x) k m ≡ true → Dec (m ≡ n) → Memᴰ m (list_at (placed_in n x c) k)
      listed k m e (yes s) =
          subst (λ (j : ℕ). Memᴰ m (list_at (placed_in n x c) j)) (sym (on_holds k m s e))
          (subst (Memᴰ m) (sym new_list) (Memᴰ.append_right (list_at c x.net) (Memᴰ.head s)))
      listed k m e (no s) = list_more k m (t.listed k m (sym (holds_same c.graph (fill c.graph n x) m (off m s) k) ∙ e))

-- ---- a node goes

module _ (c : Core) (n : ℕ) (there : filled c.graph n ≡ true) (t : Tracked c) where
  away : (m : ℕ) → m ≢ n → frame (vacate c.graph n) m ≡ frame c.graph m
  away m h = frame_vacate_other c.graph n m h

  gone : (m : ℕ) → m ≡ n → filled (vacate c.graph n) m ≡ false
  gone m e = ap (filled (vacate c.graph n)) e ∙ filled_frame (vacate c.graph n) n ∙ ap is_some (frame_vacate_same c.graph n)

  pub tracked_vacated : Tracked (vacated_in n c)
  tracked_vacated = record {
    size = length_vacate c.graph n ∙ t.size;
    vacant = λ m h. vacant m (Memᴰ.cases_cons h);
    every = λ m l e. every m l e (ℕ_discrete m n);
    once = distinct_cons n c.chain (λ h. true≢false (sym there ∙ (t.vacant n h).1)) t.once;
    in_range = λ m e. let s = not_gone m e in rw (net_same c.graph (vacate c.graph n) m (away m s)) (t.in_range m (sym (filled_same c.graph (vacate c.graph n) m (away m s)) ∙ e));
    listed = λ k m e.
        let s : m ≢ n = λ q. true≢false (sym e ∙ holds_frame (vacate c.graph n) m k ∙ ap (λ (j : ℕ). in_net k (frame (vacate c.graph n) j)) q ∙ ap (in_net k) (frame_vacate_same c.graph n)) in
        t.listed k m (sym (holds_same c.graph (vacate c.graph n) m (away m s) k) ∙ e);
  }
    where
      not_gone : (m : ℕ) → filled (vacate c.graph n) m ≡ true → m ≢ n
      not_gone m e s = true≢false (sym e ∙ gone m s)

      long : (m : ℕ) → m < length c.graph → m < length (vacate c.graph n)
      long m l = subst (λ (k : ℕ). m < k) (sym (length_vacate c.graph n)) l

      vacant : (m : ℕ) → (m ≡ n) ⊎ Memᴰ m c.chain → (m < length (vacate c.graph n)) × (filled (vacate c.graph n) m ≡ false)
      vacant m (inl s) = (long m (subst (λ (k : ℕ). k < length c.graph) (sym s) (filled_in c.graph n there)), gone m s)
      vacant m (inr h) =
          let y = t.vacant m h in
          let ne : m ≢ n = λ s. true≢false (sym there ∙ ap (filled c.graph) (sym s) ∙ y.1) in
          (long m y.0, filled_same c.graph (vacate c.graph n) m (away m ne) ∙ y.1)

      every : (m : ℕ) → m < length (vacate c.graph n) → filled (vacate c.graph n) m ≡ false → Dec (m ≡ n) → Memᴰ m (n ∷ c.chain)
      every m l e (yes s) = Memᴰ.head s
      every m l e (no s) = Memᴰ.tail (t.every m (subst (λ (k : ℕ). m < k) (length_vacate c.graph n) l) (sym (filled_same c.graph (vacate c.graph n) m (away m s)) ∙ e))

-- ---- a list is tightened

pub tracked_tight : (c : Core) (k : ℕ) → Tracked c → Tracked (tight_in k c)
tracked_tight c k t = record {
  size = t.size;
  vacant = t.vacant;
  every = t.every;
  once = t.once;
  in_range = λ n e. rw (length-set c.lists k (firsts eqb [] (keep (holds c.graph k) (list_at c k)))) (t.in_range n e);
  listed = λ j n e. go j n e (ℕ_discrete j k) (t.listed j n e);
}
  where
    new : List ℕ
    new = firsts eqb [] (keep (holds c.graph k) (list_at c k))

    go : (j n : ℕ) → holds c.graph j n ≡ true → Dec (j ≡ k) → Memᴰ n (list_at c j) → Memᴰ n (list_at (tight_in k c) j)
    go j n e (no s) h = subst (Memᴰ n) (sym (get_or-set_other c.lists k j new [] s)) h
    go j n e (yes s) h =
        subst (λ (i : ℕ). Memᴰ n (list_at (tight_in k c) i)) (sym s) (inside (subst (λ (i : ℕ). Memᴰ n (list_at c i)) s h))
      where
        inside : Memᴰ n (list_at c k) → Memᴰ n (list_at (tight_in k c) k)
        inside m =
            let live : holds c.graph k n ≡ true = subst (λ (i : ℕ). holds c.graph i n ≡ true) s e in
            subst (Memᴰ n) (sym (get_or-set_same c.lists k new [] (in_lists m))) (tight_mem (holds c.graph k) (list_at c k) n m live)
          where
            in_lists : Memᴰ n (list_at c k) → k < length c.lists
            in_lists h = long c.lists k h
              where
                long : (ls : List (List ℕ)) (i : ℕ) → Memᴰ n (get_or ls i []) → i < length ls
                long [] i h = absurd (Memᴰ.not-nil h)
                long (l ∷ ls) zero h = omega arith
                long (l ∷ ls) (suc i) h = let z = long ls i h in omega arith
