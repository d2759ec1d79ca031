-- A script's edits keep the books, if its new nodes take the slots in the order of the chain: one law for all rules and for the load.
use Rattle.std.specs.Prelude.{ℕ, zero, suc, ◌+◌, ◌<◌, ◌≡◌, Bool, get_or}
use Rattle.std.proofs.Math.Path.{refl, sym, ap, subst}
use Rattle.std.proofs.Common.{◌∙◌, arith, length-drop, get_or-set_same, set-set, drop-cons, ltb-true}
use Rattle.std.proofs.Math.Bool.{true, false}
use Rattle.std.proofs.Math.Option.{Option, none, some}
use mathlib.Core.List.{List, [], ◌∷◌, Memᴰ}
use Rattle.std.proofs.Math.ListN.{length, drop, length-map}
use Rattle.std.proofs.Math.Dec.{ltb}
use Rattle.net_file.specs.Lists.{Result, ok, refuse, need, count}
use Rattle.definitions.specs.Lists.{◌>>=◌, is_some, each, foldl}
use Rattle.definitions.specs.Nets.{Port, Node, Graph}
use Rattle.definitions.specs.Scripts.{Edit, Insert, Copy, Join, Cut, apply, ends, join, cut, fill}
use Rattle.definitions.specs.State.{Engine, graph_of, with_slots, with_dirty, with_mark, with_nets, with_graph, net_at, over_net, more, entries}
use Rattle.definitions.specs.Books.{is_dirty, push_dirty, mark_dirty, placed, add_node, link, edit}
use Rattle.engine_laws.specs.Frame.{Still, still_graph, still_chain, still_frame, homes_kept, mark_still, ends_still, placed_frame}
use Rattle.good_laws.specs.Owners.{count_owners, join_owners, cut_owners}
use Rattle.good_laws.specs.Good.{Good}
use Rattle.good_laws.specs.Marks.{mark_good, ends_good, rewired_good}
use Rattle.good_laws.specs.Places.{placed_good}

-- ---- a new node is a copy that becomes dirty

fill_same : (g : Graph) (n : ℕ) (y : Node) → get_or (fill g n y) n none ≡ some y
unfolding fill
fill_same [] zero y = refl
fill_same [] (suc n) y = fill_same [] n y
fill_same (x ∷ g) zero y = refl
fill_same (x ∷ g) (suc n) y = fill_same g n y

pub insert_is : (n : ℕ) (y : Node) (e : Engine) → n < length e.slots.marks
    → more y.net (push_dirty n (placed true n y e)) ≡ mark_dirty n (placed false n y e)
unfolding mark_dirty is_dirty push_dirty with_mark placed over_net with_nets with_slots with_dirty net_at
insert_is n y e l =
    let e₁ = placed false n y e in
    let ms = e.slots.marks in
    let put : List Bool → Engine = λ m. more y.net (push_dirty n (with_slots (record { graph = graph_of e₁; marks = m; chain = e₁.slots.chain }) e₁)) in
    ap put (sym (set-set ms n false true))
    ∙ sym (go (get_or (graph_of e₁) n none) (fill_same (graph_of e) n y) (is_dirty e₁ n) (get_or-set_same ms n false false l))
  where
    go : (o : Option Node) → o ≡ some y → (t : Bool) → t ≡ false → elim o as (λ _. Engine) [
      | none ↦ placed false n y e
      | some z ↦ elim t as (λ _. Engine) [ true ↦ placed false n y e | false ↦ more z.net (push_dirty n (with_mark n true (placed false n y e))) ]
    ] ≡ more y.net (push_dirty n (with_mark n true (placed false n y e)))
    go none q t r = absurd (let z : ◌≡◌ {A = ℕ} 0 1 = cc in omega arith)
    go (some z) q true r = absurd (let z : ◌≡◌ {A = ℕ} 0 1 = cc in omega arith)
    go (some z) q false r = let s : z ≡ y = cc in ap (λ (w : Node). more w.net (push_dirty n (with_mark n true (placed false n y e)))) s

-- ---- new nodes in order

-- of M nets: the k-th new node, and those after it, have the numbers fresh k, fresh (k + 1) ..
abbrev pub Numbered : ℕ → (ℕ → ℕ) → ℕ → List Edit → Type 0
Numbered M fresh k [] = Unit {0}
Numbered M fresh k (Insert n y ∷ ds) = (n ≡ fresh k) × (y.net < M) × Numbered M fresh (suc k) ds
Numbered M fresh k (Copy n y ∷ ds) = (n ≡ fresh k) × (y.net < M) × Numbered M fresh (suc k) ds
Numbered M fresh k (Join a b ∷ ds) = Numbered M fresh k ds
Numbered M fresh k (Cut a b ∷ ds) = Numbered M fresh k ds

-- how many new nodes the edits make
abbrev pub made : List Edit → ℕ
made [] = 0
made (Insert n y ∷ ds) = suc (made ds)
made (Copy n y ∷ ds) = suc (made ds)
made (Join a b ∷ ds) = made ds
made (Cut a b ∷ ds) = made ds

-- k slots of the chain are taken, there are M nets, the nodes are those of g, and the books are good
pub record Edited (x : ℕ → ℕ) (M : ℕ) (chain : List ℕ) (k : ℕ) (g : Graph) (e : Engine) : Type 0 where
  pub good : Good x e
  pub nets : length e.nets ≡ M
  pub left : e.slots.chain ≡ drop k chain
  pub nodes : graph_of e ≡ g

-- an answer that is no refusal
abbrev pub Answers : (Engine → Type 0) → Result Engine → Type 0
Answers P (ok e) = P e
Answers P (refuse r) = Unit {0}

nets_still : (e e' : Engine) → Still e e' → length e'.nets ≡ length e.nets
nets_still e e' h = sym (length-map e'.nets (λ n. n.home)) ∙ ap length (homes_kept (still_frame h)) ∙ length-map e.nets (λ n. n.home)

module _ (x : ℕ → ℕ) (M : ℕ) (chain : List ℕ) (default : ℕ → ℕ) where
  -- the chain has a slot left while a slot is vacant
  next_slot : (k : ℕ) (g : Graph) (e : Engine) → Edited x M chain k g e → ltb (count is_some (graph_of e)) e.pools.nodes ≡ true
      → e.slots.chain ≡ get_or chain k (default k) ∷ drop (suc k) chain
  next_slot k g e d h =
      let s = d.good.slotted.all in
      let c = count_owners (graph_of e) in
      let l = ltb-true (count is_some (graph_of e)) e.pools.nodes h in
      let p : length e.slots.chain ≡ length (drop k chain) = ap length d.left in
      let q = length-drop k chain in
      let r : k < length chain = omega arith in
      d.left ∙ drop-cons chain k (default k) r

  copied : (k : ℕ) (g : Graph) (e : Engine) → Edited x M chain k g e → (n : ℕ) (y : Node) → n ≡ get_or chain k (default k) → y.net < M
      → ltb (count is_some (graph_of e)) e.pools.nodes ≡ true → ltb (entries e) e.pools.entries ≡ true → Edited x M chain (suc k) (fill g n y) (placed false n y e)
  unfolding placed over_net with_nets with_slots
  copied k g e d n y q below h r =
      let m = d.nets in
      let c : e.slots.chain ≡ n ∷ drop (suc k) chain = next_slot k g e d h ∙ ap (λ (i : ℕ). i ∷ drop (suc k) chain) (sym q) in
      record {
        good = placed_good x n y e (drop (suc k) chain) c (omega arith) (ltb-true (entries e) e.pools.entries r) d.good;
        nets = sym (length-map (placed false n y e).nets (λ n. n.home)) ∙ ap length (homes_kept (placed_frame false n y e)) ∙ length-map e.nets (λ n. n.home) ∙ m;
        left = ap (drop 1) c;
        nodes = ap (λ (f : Graph). fill f n y) d.nodes;
      }

  add_good : (k : ℕ) (g : Graph) (e : Engine) → Edited x M chain k g e → (n : ℕ) (y : Node) → n ≡ get_or chain k (default k) → y.net < M
      → Answers (Edited x M chain (suc k) (fill g n y)) (add_node false n y e)
  unfolding add_node
  add_good k g e d n y q below = go (ltb (count is_some (graph_of e)) e.pools.nodes) refl (ltb (entries e) e.pools.entries) refl
    where
      go : (s : Bool) → ltb (count is_some (graph_of e)) e.pools.nodes ≡ s → (t : Bool) → ltb (entries e) e.pools.entries ≡ t
          → Answers (Edited x M chain (suc k) (fill g n y)) (need s 9 (need t 10 (ok (placed false n y e))))
      go true h true r = copied k g e d n y q below h r
      go true h false r = tt
      go false h t r = tt

  mark_edited : (k : ℕ) (g : Graph) (e : Engine) (n : ℕ) → Edited x M chain k g e → Edited x M chain k g (mark_dirty n e)
  mark_edited k g e n d =
      let h = mark_still n e in
      record { good = mark_good x n e d.good; nets = nets_still e (mark_dirty n e) h ∙ d.nets; left = still_chain h ∙ d.left; nodes = still_graph h ∙ d.nodes }

  insert_good : (k : ℕ) (g : Graph) (e : Engine) → Edited x M chain k g e → (n : ℕ) (y : Node) → n ≡ get_or chain k (default k) → y.net < M
      → Answers (Edited x M chain (suc k) (fill g n y)) (add_node true n y e >>= λ e'. ok (more y.net (push_dirty n e')))
  unfolding add_node
  insert_good k g e d n y q below = go (ltb (count is_some (graph_of e)) e.pools.nodes) refl (ltb (entries e) e.pools.entries) refl
    where
      go : (s : Bool) → ltb (count is_some (graph_of e)) e.pools.nodes ≡ s → (t : Bool) → ltb (entries e) e.pools.entries ≡ t
          → Answers (Edited x M chain (suc k) (fill g n y)) (need s 9 (need t 10 (ok (placed true n y e))) >>= λ e'. ok (more y.net (push_dirty n e')))
      go true h true r =
          let a = copied k g e d n y q below h r in
          let z = d.good.slotted.sized in
          let c : e.slots.chain ≡ n ∷ drop (suc k) chain = next_slot k g e d h ∙ ap (λ (i : ℕ). i ∷ drop (suc k) chain) (sym q) in
          let l = (d.good.slotted.vacant n (subst (Memᴰ n) (sym c) (Memᴰ.head refl))).0 in
          subst (Edited x M chain (suc k) (fill g n y)) (sym (insert_is n y e (omega arith))) (mark_edited (suc k) (fill g n y) (placed false n y e) n a)
      go true h false r = tt
      go false h t r = tt

  join_good : (k : ℕ) (g : Graph) (e : Engine) → Edited x M chain k g e → (a b : Port) → Edited x M chain k (join g a b) (link a b e)
  unfolding link with_graph with_slots
  join_good k g e d a b =
      let e₁ = with_graph (join (graph_of e) a b) e in
      let h = ends_still (ends (graph_of e) a b) e₁ in
      record {
        good = ends_good x (ends (graph_of e) a b) e₁ (rewired_good x (join (graph_of e) a b) e (join_owners (graph_of e) a b) d.good);
        nets = nets_still e₁ (link a b e) h ∙ d.nets;
        left = still_chain h ∙ d.left;
        nodes = still_graph h ∙ ap (λ (f : Graph). join f a b) d.nodes;
      }

  cut_good : (k : ℕ) (g : Graph) (e : Engine) → Edited x M chain k g e → (a b : Port) → Edited x M chain k (cut g a b) (with_graph (cut (graph_of e) a b) e)
  unfolding with_graph with_slots
  cut_good k g e d a b = record {
    good = rewired_good x (cut (graph_of e) a b) e (cut_owners (graph_of e) a b) d.good;
    nets = d.nets;
    left = d.left;
    nodes = ap (λ (f : Graph). cut f a b) d.nodes;
  }

  -- after one edit the others
  onward : (ds : List Edit) (k j : ℕ) (g : Graph) → k + suc (made ds) ≡ j + made ds → (r : Result Engine) → Answers (Edited x M chain j g) r
      → ((e : Engine) → Edited x M chain j g e → Answers (λ e'. Edited x M chain (j + made ds) (foldl apply g ds) e') (each edit ds e))
      → Answers (λ e'. Edited x M chain (k + suc (made ds)) (foldl apply g ds) e') (r >>= λ e. each edit ds e)
  onward ds k j g q (refuse r) h f = tt
  onward ds k j g q (ok e) h f = subst (λ (i : ℕ). Answers (λ e'. Edited x M chain i (foldl apply g ds) e') (each edit ds e)) (sym q) (f e h)

  -- edits whose new nodes are numbered in order keep the books
  pub edits_good : (ds : List Edit) (k : ℕ) (g : Graph) (e : Engine) → Edited x M chain k g e → Numbered M (λ i. get_or chain i (default i)) k ds
      → Answers (λ e'. Edited x M chain (k + made ds) (foldl apply g ds) e') (each edit ds e)
  unfolding edit apply
  edits_good [] k g e d n = subst (λ (i : ℕ). Edited x M chain i g e) (omega arith) d
  edits_good (Insert m y ∷ ds) k g e d n =
      onward ds k (suc k) (fill g m y) (omega arith) (add_node true m y e >>= λ e'. ok (more y.net (push_dirty m e'))) (insert_good k g e d m y n.0 n.1)
      (λ e' d'. edits_good ds (suc k) (fill g m y) e' d' n.2)
  edits_good (Copy m y ∷ ds) k g e d n =
      onward ds k (suc k) (fill g m y) (omega arith) (add_node false m y e) (add_good k g e d m y n.0 n.1)
      (λ e' d'. edits_good ds (suc k) (fill g m y) e' d' n.2)
  edits_good (Join a b ∷ ds) k g e d n = edits_good ds k (join g a b) (link a b e) (join_good k g e d a b) n
  edits_good (Cut a b ∷ ds) k g e d n = edits_good ds k (cut g a b) (with_graph (cut (graph_of e) a b) e) (cut_good k g e d a b) n
