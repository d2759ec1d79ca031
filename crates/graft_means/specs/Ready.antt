-- A named net at 0 is grafted: 14 before a slot is taken, "the named net's list is tightened always, before it copies", 13 after the copies.
use Rattle.std.specs.Prelude.{ℕ, ◌+◌, ◌<◌, ◌≤◌, ◌≡◌, ◌≢◌, Bool, length, ltb}
use Rattle.std.proofs.Math.Path.{refl, ap, subst}
use Rattle.std.proofs.Common.{sym, ◌∙◌, ltb-true, arith}
use Rattle.std.proofs.Math.Bool.{true, false}
use mathlib.Core.List.{List, [], map}
use Rattle.std.proofs.Math.ListN.{get_or, get_or-map}
use Rattle.std.proofs.Math.Dec.{eqb}
use Rattle.words.specs.Choose.{pick}
use Rattle.words.specs.Left.{Left}
use Rattle.lists.specs.Lists.{tighten_net_words}
use Rattle.tried.specs.declared.Tried.{Tried}
use Rattle.tried.specs.declared.Tried.TheVariants.{Refused}
use Rattle.tried.specs.Tries.{spent}
use Rattle.graft.specs.Graft.{graft_net_words, graft_ready}
use Rattle.net_file.specs.Lists.{Result, ok, refuse, need}
use Rattle.net_file.specs.Values.{Name, max_steps}
use Rattle.definitions.specs.Lists.{◌>>=◌, each, keep, firsts}
use Rattle.definitions.specs.Nets.{at, filled, holds}
use Rattle.definitions.specs.Scripts.{Script}
use Rattle.definitions.specs.Rules.{graft_script, graft_fits}
use Rattle.definitions.specs.Step.{NodesOf}
use Rattle.definitions.specs.State.{Net, Engine, graph_of, with_steps, with_list, with_nets, new_net, net_at, over_net}
use Rattle.definitions.specs.Books.{tight, tighten_net, fresh, edit, finish_edit}
use Rattle.definitions.specs.Visit.{acted, less_one, act, graft_net}
use Rattle.good_laws.specs.Nets.{over_length, over_same}
use Rattle.good_laws.specs.Removed.{tighten_good}
use Rattle.step_laws.specs.Core.{core_of, list_of}
use Rattle.step_laws.specs.Numbers.{tight_nodes}
use Rattle.reached_laws.specs.Tracks.{good_tracked}
use Rattle.means.specs.Means.{Means}
use Rattle.means.specs.Frame.{rest_trans}
use Rattle.tighten_net_means.specs.Net.{tighten_net_means}
use Rattle.script_means.specs.Dead.{Dead}
use Rattle.script_means.specs.Tries.{Came, Between, unless_spent}
use Rattle.removal_means.specs.Kept.{tighten_net_kept}
use Rattle.names_means.specs.Kept.{Kept, kept_all, tighten_net_names}
use Rattle.visit_means.specs.Tells.{Tells}
use Rattle.graft_means.specs.Net.{Grafting, grafted_came, grafted_names}

-- the script by which level Engine grafts net m in place of node n
abbrev pub graft_of : Engine → ℕ → ℕ → Script
graft_of e m n = graft_script (fresh (tighten_net m e)) (graph_of (tighten_net m e)) (net_at (tighten_net m e) m).list.items (net_at (tighten_net m e) m).home.free n

-- whether 13 is not said
abbrev pub fits : Engine → ℕ → ℕ → Bool
fits e m n = graft_fits (graph_of (tighten_net m e)) (net_at (tighten_net m e) m).home.free n

-- A holds once the script's edits are made and its dead nodes are listed; no net's name is written
abbrev pub Acts : (ℕ → Name → Type 0) → (List ℕ → Engine → Type 0) → List ℕ → Engine → ℕ → ℕ → Type 0
Acts Named A ws e m n = (w : List ℕ) (e' : Engine) → Kept ws w → each edit (graft_of e m n).edits (tighten_net m e) ≡ ok e' → fits e m n ≡ true → e.steps < max_steps → Means Named w e' → Dead w (graft_of e m n).dead
    → A w (with_steps (less_one e'.limit) (e'.steps + 1) (finish_edit (graft_of e m n).dead e'))

-- node n is visited, and net m, whose free node is there, is at 0
pub record Ready (x : ℕ → ℕ) (e : Engine) (m n : ℕ) : Type 0 where
  pub low : m < length e.nets
  pub there : filled (graph_of e) n ≡ true
  pub visited : 1 ≤ x (at (graph_of e) n).net
  pub at_zero : (net_at e m).pending ≡ 0
  pub free : holds (graph_of e) m (net_at e m).home.free ≡ true

module _ (Named : ℕ → Name → Type 0) (x : ℕ → ℕ) (small : (k : ℕ) → x k ≤ 4294900000) (ws : List ℕ) (e : Engine) (b : Between Named x ws e) (m n : ℕ) (t : Ready x e m n) where
  abbrev e₁ : Engine
  e₁ = tighten_net m e

  -- the named net with its list tight
  tightened : net_at e₁ m ≡ with_list (tight (holds (graph_of e) m) (net_at e m).list) (net_at e m)
  unfolding tighten_net
  tightened = over_same (λ n. with_list (tight (holds (graph_of e) m) n.list) n) m e t.low

  pub between : Between Named x (tighten_net_words ws (m + 1)) (tighten_net m e)
  unfolding tighten_net over_net with_nets
  between = record {
    means = tighten_net_means Named ws e b.means m t.low (b.good.lists m t.low).slots;
    good = tighten_good x m e b.good t.low;
    wired = b.wired;
    none_dead = (tighten_net_kept ws (m + 1)).same 17 (omega arith) ∙ b.none_dead;
  }

  -- a visited node's net is not at 0
  differ : m ≢ (at (graph_of e) n).net
  differ q =
      let p = b.good.pending m t.low in
      let z = t.at_zero in
      let o : 1 ≤ x m = subst (λ (k : ℕ). 1 ≤ x k) (sym q) t.visited in
      omega arith

  nodes : NodesOf (graph_of e) m (net_at e₁ m).list.items
  unfolding core_of tight with_list net_at
  nodes =
      let same : get_or (map list_of e.nets) m [] ≡ (net_at e m).list.items = get_or-map list_of e.nets m (new_net (record { name = 0; free = 0 })) in
      let is : (net_at e₁ m).list.items ≡ firsts eqb [] (keep (holds (graph_of e) m) (get_or (map list_of e.nets) m []))
      = ap (λ (z : Net). z.list.items) tightened ∙ ap (λ (l : List ℕ). firsts eqb [] (keep (holds (graph_of e) m) l)) (sym same) in
      subst (λ (l : List ℕ). NodesOf (graph_of e) m l) (sym is) (tight_nodes (core_of e) (good_tracked x e b.good) m)

  -- what its copies ask
  pub grafting : Grafting (tighten_net m e) m n
  unfolding tighten_net over_net with_nets with_list
  grafting = record {
    low = let l = over_length (λ n. with_list (tight (holds (graph_of e) m) n.list) n) m e in let i = t.low in omega arith;
    there = t.there;
    differ = differ;
    nodes = nodes;
    free = subst (λ (z : Net). holds (graph_of e) m z.home.free ≡ true) (sym tightened) t.free;
  }

  -- the edits on the words are those of the script, and each refusal comes where level Engine says it
  pub graft_ready_came : Came Named (graft_of e m n).dead (graft_ready ws (m + 1) ((at (graph_of e) n).net + 1) n)
      (need (ltb e.steps max_steps) 14 (each edit (graft_of e m n).edits (tighten_net m e) >>= λ e'. need (fits e m n) 13 (ok e')))
  unfolding graft_ready graft_net_words tighten_net over_net with_nets
  graft_ready_came =
      unless_spent Named ws e b.means b.good.stepped (graft_of e m n).dead (graft_net_words ws (m + 1) ((at (graph_of e) n).net + 1) n) (each edit (graft_of e m n).edits e₁ >>= λ e'. need (fits e m n) 13 (ok e'))
      (grafted_came Named x small (tighten_net_words ws (m + 1)) e₁ between m n grafting)

  pub graft_ready_names : Kept ws (graft_ready ws (m + 1) ((at (graph_of e) n).net + 1) n).ws
  unfolding graft_ready graft_net_words pick tighten_net over_net with_nets
  graft_ready_names = go (spent ws)
    where
      go : (t : Bool) → Kept ws (pick {A = Left Tried} t (record { is = Refused 14; ws = ws }) (graft_net_words ws (m + 1) ((at (graph_of e) n).net + 1) n)).ws
      go true = kept_all ws
      go false = rest_trans (tighten_net_names ws (m + 1) (omega arith)) (grafted_names Named x small (tighten_net_words ws (m + 1)) e₁ between m n grafting)

  -- so for the whole step
  module _ (P A : List ℕ → Engine → Type 0) (acts : Acts Named A ws e m n) where
    pub graft_ready_tells : Tells P A (graft_ready ws (m + 1) ((at (graph_of e) n).net + 1) n) (graft_net m n e)
    unfolding graft_net act tighten_net over_net with_nets
    graft_ready_tells = go (ltb e.steps max_steps) refl (each edit (graft_of e m n).edits e₁) refl (fits e m n) refl graft_ready_came
      where
        l : Left Tried
        l = graft_ready ws (m + 1) ((at (graph_of e) n).net + 1) n

        go : (u : Bool) → ltb e.steps max_steps ≡ u → (r : Result Engine) → each edit (graft_of e m n).edits (tighten_net m e) ≡ r → (f : Bool) → fits e m n ≡ f
            → Came Named (graft_of e m n).dead l (need u 14 (r >>= λ e'. need f 13 (ok e')))
            → Tells P A l (need u 14 (r >>= λ e'. ok (acted (with_steps (less_one e'.limit) (e'.steps + 1) (finish_edit (graft_of e m n).dead e')))) >>= λ v. need f 13 (ok v))
        go true hu (ok e') hr true hf c = (c.0, acts l.ws e' graft_ready_names hr hf (ltb-true e.steps max_steps hu) c.1 c.2)
        go true hu (ok e') hr false hf c = c
        go true hu (refuse r) hr f hf c = c
        go false hu r hr f hf c = c
