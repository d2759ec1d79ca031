-- The nets of a result are the engine's nets: an included net comes out as the drawing of its nodes, any other as it was.
use Prim.Native.Nat.{ℕ, zero, suc, ◌+◌, ◌≤◌, ◌<◌}
use Rattle.std.proofs.Math.Decide.{ℕ_discrete}
use native.Mathlib.Omega.{arith}
use Rattle.std.specs.Prelude.{◌≡◌, ◌≢◌, ◌⊎◌, Bool, ◌&&◌, ltb}
use Rattle.std.proofs.Math.Path.{refl, sym, ap, subst, fun_ext}
use Rattle.std.proofs.Common.{◌∙◌, inl, inr, true≢false}
use Rattle.std.proofs.Math.Bool.{true, false}
use Rattle.std.proofs.Math.Option.{Option, none, some, some-injective}
use mathlib.Core.List.Memᴰ
use mathlib.Core.List.{List, [], ◌∷◌, map, Memᴰ}
use Rattle.std.proofs.Math.ListN.{length, length-map}
use Rattle.std.proofs.Math.Dec.{eqb, leb}
use borrow.Author.Tests.{eqb-true, eq-eqb, leb-true, ltb-true}
use Rattle.list_laws.specs.Tests.{both}
use Rattle.net_file.specs.Lists.{ascend}
use Rattle.net_file.specs.Values.{FlatNet, File}
use Rattle.definitions.specs.Lists.{nth, keep, find, firsts, up_to, from}
use Rattle.definitions.specs.Nets.{Home, holds, arity}
use Rattle.definitions.specs.State.{Net, Pools, Engine, graph_of, homes, net_at}
use Rattle.definitions.specs.Books.{tight}
use Rattle.definitions.specs.Load.{included}
use Rattle.definitions.specs.Visit.{get_net}
use Rattle.definitions.specs.Finish.{live_nodes, flat_net, finish_net}
use Rattle.definitions.specs.Calls.{pools_fit}
use Rattle.definitions.specs.Step.{NodesOf}
use Rattle.dirty_laws.specs.Tally.{tally, tally_most}
use Rattle.dirty_laws.specs.Firsts.{tight_count}
use Rattle.step_laws.specs.Core.{core_of}
use Rattle.step_laws.specs.Edits.{list_at_lem}
use Rattle.step_laws.specs.Numbers.{tight_nodes}
use Rattle.good_laws.specs.Owners.{owners, holds_owner}
use Rattle.good_laws.specs.Good.{rest, live_in}
use Rattle.good_laws.specs.Turned.{named_below}
use Rattle.finish_laws.specs.Drawn.{Drawn, keep_in, in_keep, finish_drawn}
use Rattle.reached_laws.specs.Tracks.{good_tracked}
use Rattle.reached_laws.specs.Wires.{find_true, home_at}
use Rattle.reached_laws.specs.Files.{OfFile}
use Rattle.reached_laws.specs.Image.{Image}

-- u draws a net of e that has t's name: its nodes, each once, in the order of its list
pub record Draws (e : Engine) (t u : FlatNet) : Type 0 where
  pub net : ℕ
  pub home : Home
  pub there : nth (homes e) net ≡ some home
  pub named : home.name ≡ t.name
  pub nodes : NodesOf (graph_of e) net (firsts eqb [] (keep (holds (graph_of e) net) (net_at e net).list.items))
  pub drawn : Drawn (graph_of e) (firsts eqb [] (keep (holds (graph_of e) net) (net_at e net).list.items)) home.free u

-- what the finish makes of net t: "Included nets load in ascending name number; others pass unchanged"
pub record Finishes (e : Engine) (t u : FlatNet) : Type 0 where
  pub name : u.name ≡ t.name
  pub mark : u.included ≡ t.included
  pub draws : t.included ≡ true → Draws e t u
  pub passes : t.included ≡ false → u ≡ t

-- ---- lists

nth_mem : {A : Type 0} (xs : List A) (k : ℕ) (x : A) → nth xs k ≡ some x → Memᴰ x xs
nth_mem [] k x e = let z : ◌≡◌ {A = ℕ} 0 1 = cc in absurd (omega arith)
nth_mem (y ∷ ys) zero x e = Memᴰ.head (sym (some-injective y x e))
nth_mem (y ∷ ys) (suc k) x e = Memᴰ.tail (nth_mem ys k x e)

mem_nth : {A : Type 0} (xs : List A) (x : A) → Memᴰ x xs → (k : ℕ) × (nth xs k ≡ some x)
mem_nth [] x m = absurd (Memᴰ.not-nil m)
mem_nth {A} (y ∷ ys) x m = go (Memᴰ.cases_cons m) (mem_nth ys x)
  where
    go : (x ≡ y) ⊎ Memᴰ x ys → (Memᴰ x ys → (k : ℕ) × (nth ys k ≡ some x)) → (k : ℕ) × (nth (y ∷ ys) k ≡ some x)
    go (inl e) r = (0, ap {B = Option A} some (sym e))
    go (inr t) r = let z = r t in (suc z.0, z.1)

-- two lists that look alike have as much at a place
alike_at : {A B : Type 0} (f : A → ℕ) (g : B → ℕ) (xs : List A) (ys : List B) → map f xs ≡ map g ys → (k : ℕ) (x : A) → nth xs k ≡ some x → (y : B) × (nth ys k ≡ some y) × (f x ≡ g y)
alike_at f g [] ys e k x h = let z : ◌≡◌ {A = ℕ} 0 1 = cc in absurd (omega arith)
alike_at f g (a ∷ xs) [] e k x h = let z : suc (length (map f xs)) ≡ 0 = ap length e in absurd (omega arith)
alike_at f g (a ∷ xs) (b ∷ ys) e zero x h = (b, refl, let s : f a ≡ g b = cc in ap f (sym (some-injective a x h)) ∙ s)
alike_at f g (a ∷ xs) (b ∷ ys) e (suc k) x h = let s : map f xs ≡ map g ys = cc in alike_at f g xs ys s k x h

find_none : (f : ℕ → Bool) (n i k : ℕ) → find f (from i n) ≡ none → i ≤ k → k < i + n → f k ≡ false
find_none f zero i k h l u = absurd (omega arith)
find_none f (suc n) i k h l u = go (f i) refl h (find_none f n (suc i) k) (ℕ_discrete k i)
  where
    go : (t : Bool) → f i ≡ t → ◌≡◌ {A = Option ℕ} (elim t as (λ _. Option ℕ) [ true ↦ some i | false ↦ find f (from (suc i) n) ]) none
        → (find f (from (suc i) n) ≡ none → suc i ≤ k → k < suc i + n → f k ≡ false) → Dec (k ≡ i) → f k ≡ false
    go true q r s d = let z : ◌≡◌ {A = ℕ} 0 1 = cc in absurd (omega arith)
    go false q r s (yes e) = ap f e ∙ q
    go false q r s (no e) = s r (omega arith) (omega arith)

-- names that ascend differ
ascend_below : (ts : List FlatNet) (x : ℕ) → ascend (x ∷ map (λ (t : FlatNet). t.name) ts) ≡ true → (t : FlatNet) → Memᴰ t ts → x < t.name
ascend_below [] x a t m = absurd (Memᴰ.not-nil m)
ascend_below (u ∷ ts) x a t m =
    let b = both (ltb x u.name) (ascend (u.name ∷ map (λ (t : FlatNet). t.name) ts)) a in
    let l = ltb-true x u.name b.0 in
    go l (Memᴰ.cases_cons m) (ascend_below ts u.name b.1 t)
  where
    go : x < u.name → (t ≡ u) ⊎ Memᴰ t ts → (Memᴰ t ts → u.name < t.name) → x < t.name
    go l (inl e) r = subst (λ (v : FlatNet). x < v.name) (sym e) l
    go l (inr k) r = let z = r k in omega arith

ascend_rest : (x : ℕ) (xs : List ℕ) → ascend (x ∷ xs) ≡ true → ascend xs ≡ true
ascend_rest x [] a = refl
ascend_rest x (y ∷ ys) a = (both (ltb x y) (ascend (y ∷ ys)) a).1

one_name : (ts : List FlatNet) → ascend (map (λ (t : FlatNet). t.name) ts) ≡ true → (t u : FlatNet) → Memᴰ t ts → Memᴰ u ts → t.name ≡ u.name → t ≡ u
one_name [] a t u m n e = absurd (Memᴰ.not-nil m)
one_name (v ∷ ts) a t u m n e = go (Memᴰ.cases_cons m) (Memᴰ.cases_cons n) (λ k l. one_name ts (ascend_rest v.name (map (λ (t : FlatNet). t.name) ts) a) t u k l e)
  where
    above : (w : FlatNet) → Memᴰ w ts → v.name < w.name
    above w k = ascend_below ts v.name a w k

    go : (t ≡ v) ⊎ Memᴰ t ts → (u ≡ v) ⊎ Memᴰ u ts → (Memᴰ t ts → Memᴰ u ts → t ≡ u) → t ≡ u
    go (inl x) (inl y) r = x ∙ sym y
    go (inl x) (inr y) r = let z = above u y in let s : t.name ≡ v.name = ap (λ (w : FlatNet). w.name) x in absurd (omega arith)
    go (inr x) (inl y) r = let z = above t x in let s : u.name ≡ v.name = ap (λ (w : FlatNet). w.name) y in absurd (omega arith)
    go (inr x) (inr y) r = r x y

-- ---- the engine's nets

nth_below : {A : Type 0} (xs : List A) (k : ℕ) (x : A) → nth xs k ≡ some x → k < length xs
nth_below [] k x e = let z : ◌≡◌ {A = ℕ} 0 1 = cc in absurd (omega arith)
nth_below (y ∷ ys) zero x e = omega arith
nth_below (y ∷ ys) (suc k) x e = let z = nth_below ys k x e in omega arith

module _ (p : Pools) (f : File FlatNet) (up : ascend (map (λ (t : FlatNet). t.name) f.nets) ≡ true) (e : Engine) (file : OfFile p f e) (t : FlatNet) (in_file : Memᴰ t f.nets) where
  -- a net of t's name is t's, and t is included
  pub found : (k : ℕ) → get_net e t.name ≡ some k → (k < length e.nets) × ((net_at e k).home.name ≡ t.name) × (nth (included f) k ≡ some t)
  unfolding get_net included
  found k h =
      let l = named_below e t.name k h in
      let n : (net_at e k).home.name ≡ t.name = eqb-true (net_at e k).home.name t.name (find_true (λ j. eqb (net_at e j).home.name t.name) (up_to (length e.nets)) k h) in
      let u = alike_at (λ (x : Home). x.name) (λ (x : FlatNet). x.name) (homes e) (included f) file.names k (net_at e k).home (home_at e k l) in
      let i = keep_in (λ (x : FlatNet). x.included) f.nets u.0 (nth_mem (included f) k u.0 u.1) in
      let s : t ≡ u.0 = one_name f.nets up t u.0 in_file i.0 (sym n ∙ u.2) in
      (l, n, u.1 ∙ ap {B = Option FlatNet} some (sym s))

  found_included : (k : ℕ) → nth (included f) k ≡ some t → t.included ≡ true
  unfolding included
  found_included k h = (keep_in (λ (x : FlatNet). x.included) f.nets t (nth_mem (included f) k t h)).1

  -- an included net is found
  not_included : get_net e t.name ≡ none → t.included ≡ false
  unfolding get_net included
  not_included h = go t.included refl
    where
      go : (b : Bool) → t.included ≡ b → t.included ≡ false
      go false q = q
      go true q =
          let m = mem_nth (included f) t (in_keep (λ (x : FlatNet). x.included) f.nets t in_file q) in
          let x = alike_at (λ (x : FlatNet). x.name) (λ (x : Home). x.name) (included f) (homes e) (sym file.names) m.0 t m.1 in
          let n = length-map e.nets (λ (t : Net). t.home) in
          let l = nth_below (homes e) m.0 x.0 x.1 in
          let s : x.0 ≡ (net_at e m.0).home = some-injective x.0 (net_at e m.0).home (sym x.1 ∙ home_at e m.0 (omega arith)) in
          let no = find_none (λ j. eqb (net_at e j).home.name t.name) (length e.nets) 0 m.0 h (omega arith) (omega arith) in
          absurd (true≢false (sym (eq-eqb (net_at e m.0).home.name t.name (ap (λ (y : Home). y.name) (sym s) ∙ sym x.2)) ∙ no))

-- ---- an image

module _ (p : Pools) (f : File FlatNet) (e : Engine) (image : Image p f e) where
  -- the nodes of a net, each once
  pub live_nodes_lem : (k : ℕ) → NodesOf (graph_of e) k (live_nodes e k)
  unfolding live_nodes tight core_of
  live_nodes_lem k = subst (λ (ns : List ℕ). NodesOf (graph_of e) k (firsts eqb [] (keep (holds (graph_of e) k) ns))) (list_at_lem e k) (tight_nodes (core_of e) (good_tracked rest e image.books) k)

  -- are at most N
  pub live_few : pools_fit p ≡ true → (k : ℕ) → k < length e.nets → length (live_nodes e k) ≤ 4096
  unfolding live_nodes tight pools_fit
  live_few fits k l =
      let b = image.books.lists k l in
      let same : holds (graph_of e) k ≡ live_in (owners (graph_of e)) k = fun_ext (λ n. holds_owner (graph_of e) k n) in
      let c : length (firsts eqb [] (keep (holds (graph_of e) k) (net_at e k).list.items)) ≡ tally (live_in (owners (graph_of e)) k) e.pools.nodes =
      ap (λ (t : ℕ → Bool). length (firsts eqb [] (keep t (net_at e k).list.items))) same ∙ tight_count (net_at e k).list.items (live_in (owners (graph_of e)) k) e.pools.nodes b.within b.there in
      let m = tally_most (live_in (owners (graph_of e)) k) e.pools.nodes in
      let n : e.pools.nodes ≡ p.nodes = ap (λ (q : Pools). q.nodes) image.file.pools in
      let x = (both (leb 1 p.nodes && leb p.nodes 4096 && leb 1 p.entries && leb p.entries 16384) (leb p.waits 4096) fits).0 in
      let y = (both (leb 1 p.nodes && leb p.nodes 4096 && leb 1 p.entries) (leb p.entries 16384) x).0 in
      let z = (both (leb 1 p.nodes && leb p.nodes 4096) (leb 1 p.entries) y).0 in
      let low = leb-true p.nodes 4096 (both (leb 1 p.nodes) (leb p.nodes 4096) z).1 in
      omega arith

  pub net_drawn : (k : ℕ) (t : FlatNet) → Drawn (graph_of e) (live_nodes e k) (net_at e k).home.free (flat_net e k t)
  net_drawn k t = finish_drawn e k t image.wired.well image.wired.ported (live_nodes_lem k)

  -- `finishes`: each net of the file comes out as document 01 has it
  pub net_finishes : ascend (map (λ (t : FlatNet). t.name) f.nets) ≡ true → (t : FlatNet) → Memᴰ t f.nets → Finishes e t (finish_net e t)
  unfolding finish_net flat_net live_nodes tight
  net_finishes up t m = go (get_net e t.name) refl
    where
      go : (o : Option ℕ) → get_net e t.name ≡ o → Finishes e t (elim o as (λ _. FlatNet) [ none ↦ t | some k ↦ flat_net e k t ])
      go none h = record {
        name = refl;
        mark = refl;
        draws = λ i. absurd (true≢false (sym i ∙ not_included p f up e image.file t m h));
        passes = λ i. refl;
      }
      go (some k) h =
          let x = found p f up e image.file t m k h in
          record {
            name = refl;
            mark = refl;
            draws = λ i. record { net = k; home = (net_at e k).home; there = home_at e k x.0; named = x.1; nodes = live_nodes_lem k; drawn = net_drawn k t };
            passes = λ i. absurd (true≢false (sym (found_included p f up e image.file t m k x.2) ∙ i));
          }

  -- its free node has 2 more ports than t has free wires
  pub net_ports : (k : ℕ) (t : FlatNet) → k < length e.nets → nth (included f) k ≡ some t → arity (graph_of e) (net_at e k).home.free ≡ 2 + length t.free
  net_ports k t l h =
      let u = alike_at (λ (x : Home). arity (graph_of e) x.free) (λ (x : FlatNet). 2 + length x.free) (homes e) (included f) image.ports k (net_at e k).home (home_at e k l) in
      u.2 ∙ ap (λ (x : FlatNet). 2 + length x.free) (some-injective u.0 t (sym u.1 ∙ h))
