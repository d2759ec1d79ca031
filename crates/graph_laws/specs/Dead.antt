-- Which nodes a script removes: the two of an interaction; for eta nodes of the combinator's path, or of one port.
use Rattle.std.specs.Prelude.{◌≡◌, refl, ◌≢◌, ◌⊎◌, ℕ, zero, suc, ◌+◌, ◌-◌, ◌<◌, ◌≤◌, Bool, false, not, ◌&&◌, get_or}
use Rattle.std.proofs.Common.{sym, ap, ◌∙◌, subst, arith, true≢false, eqb-true}
use Rattle.std.proofs.Math.Logic.{inl, inr}
use Rattle.std.proofs.Math.Bool.{true}
use Rattle.std.proofs.Math.Option.{Option, none, some, some-injective}
use mathlib.Core.List.Memᴰ
use mathlib.Core.List.{List, [], ◌∷◌, ◌++◌, map, Memᴰ}
use Rattle.std.proofs.Math.Dec.{eqb}
use Rattle.list_laws.specs.Tests.{both}
use Rattle.net_file.specs.Lists.{all, concat_map, eqs}
use Rattle.net_file.specs.Values.{Name, Rule, graft, annihilate, erase, commute, eta}
use Rattle.net_file.specs.Checks.{same_name}
use Rattle.definitions.specs.Lists.{find, concat, zip_with, up_to, has}
use Rattle.definitions.specs.Nets.{Port, Graph, port, same_port, is_principal, at, name_of, arity, ports, aux, follow}
use Rattle.definitions.specs.Scripts.{Edit, Join, Cut, Script}
use Rattle.definitions.specs.Rules.{new, hang, annihilate_script, erase_script, commute_script, straight, eta_nils, eta_values, eta_pair, eta_met, eta_script, interact}
use Rattle.join_laws.specs.Ports.{same_port_true, same_port_self}
use Rattle.rule_laws.specs.Places.{given_some, one_of_two}
use Rattle.rule_laws.specs.Rows.{mem_rows}
use Rattle.rule_laws.specs.Eta.{Paired, faces_meets, pair_script}

pub interact_dead : (r : Rule) (fresh : ℕ → ℕ) (g : Graph) (a b : ℕ) (s : Script) → interact r fresh g a b ≡ some s → s.dead ≡ a ∷ b ∷ []
unfolding interact annihilate_script erase_script commute_script
interact_dead (graft p lazy) fresh g a b s e = let z : ◌≡◌ {A = ℕ} 0 1 = cc in absurd (omega arith)
interact_dead (annihilate ps) fresh g a b s e =
    ap (λ (t : Script). t.dead)
    (sym (given_some (same_name (name_of g a) (name_of g b) && eqb (arity g a) (arity g b)) (record { edits = zip_with Join (ports g a) (ports g b); dead = a ∷ b ∷ [] }) s e).1)
interact_dead (erase es ns) fresh g a b s e =
    ap (λ (t : Script). t.dead)
    (sym (given_some (eqb (arity g a) 1) (record {
      edits = Cut (port a 0) (port b 0) ∷ concat_map (λ i. hang fresh g i (new (at g a).net (name_of g a) 1) (port b (1 + i))) (up_to (arity g b - 1));
      dead = a ∷ b ∷ [];
    }) s e).1)
interact_dead (commute xs ys) fresh g a b s e = go (commute_script fresh g a b) refl e
  where
    go : (o : Option Script) → commute_script fresh g a b ≡ o → o ≡ some s → s.dead ≡ a ∷ b ∷ []
    go o x y = ap (dead_of) (sym y) ∙ ap dead_of (sym x)
      where
        dead_of : Option Script → List ℕ
        dead_of none = []
        dead_of (some t) = t.dead
interact_dead (eta cs vs ns) fresh g a b s e = let z : ◌≡◌ {A = ℕ} 0 1 = cc in absurd (omega arith)

-- ---- eta

all_mem : (f : ℕ → Bool) (xs : List ℕ) (n : ℕ) → all f xs ≡ true → Memᴰ n xs → f n ≡ true
all_mem f [] n e m = absurd (Memᴰ.not-nil m)
all_mem f (x ∷ xs) n e m = let h = both (f x) (all f xs) e in go h.0 (Memᴰ.cases_cons m) (all_mem f xs n h.1)
  where
    go : f x ≡ true → (n ≡ x) ⊎ Memᴰ n xs → (Memᴰ n xs → f n ≡ true) → f n ≡ true
    go y (inl s) r = ap f s ∙ y
    go y (inr k) r = r k

pub same_path : (m n : Name) → same_name m n ≡ true → m.path ≡ n.path
unfolding same_name
same_path m n e =
    eqb-true m.path n.path
    (both (eqb m.path n.path) (eqb m.payload n.payload) (both (eqb m.path n.path && eqb m.payload n.payload) (eqs m.children n.children) e).0).0

-- of a's path, or of one port
abbrev pub Goes : Graph → ℕ → ℕ → Type 0
Goes g a n = ((name_of g n).path ≡ (name_of g a).path) ⊎ (arity g n ≡ 1)

module _ (fresh : ℕ → ℕ) (g : Graph) (a : ℕ) where
  values_dead : (values : List ℕ) (s : Script) → eta_values fresh g values a ≡ some s → (n : ℕ) → Memᴰ n s.dead → Goes g a n
  unfolding eta_values
  values_dead values s h n d =
      let ns = map (λ (q : Port). q.node) (map (follow g) (aux g a)) in
      let name = name_of g (get_or ns 0 0) in
      let k = given_some (all (λ n. eqb (arity g n) 1) ns && has values name.path && all (λ n. same_name (name_of g n) name) ns)
      (record { edits = zip_with Cut (aux g a) (map (follow g) (aux g a)) ++ hang fresh g 0 (new (at g a).net name 1) (port a 0); dead = a ∷ ns }) s h in
      let one : all (λ n. eqb (arity g n) 1) ns ≡ true = (both (all (λ n. eqb (arity g n) 1) ns) (has values name.path)
      (both (all (λ n. eqb (arity g n) 1) ns && has values name.path) (all (λ n. same_name (name_of g n) name) ns) k.0).0).0 in
      go ns one (Memᴰ.cases_cons (subst (λ (t : Script). Memᴰ n t.dead) (sym k.1) d))
    where
      go : (ns : List ℕ) → all (λ n. eqb (arity g n) 1) ns ≡ true → (n ≡ a) ⊎ Memᴰ n ns → Goes g a n
      go ns one (inl e) = inl (ap (λ (t : ℕ). (name_of g t).path) e)
      go ns one (inr m) = inr (eqb-true (arity g n) 1 (all_mem (λ n. eqb (arity g n) 1) ns n one m))

  pair_dead : (nils : List ℕ) (b : ℕ) (s : Script) → eta_pair fresh g nils a b ≡ some s → (n : ℕ) → Memᴰ n s.dead → Goes g a n
  unfolding eta_nils straight
  pair_dead nils b s h n d = go (Memᴰ.cases_cons (subst (λ (t : Script). Memᴰ n t.dead) (sym x.1) d))
    where
      x : Paired fresh g nils a b (arity g a - 1) × (◌≡◌ {A = Script} (Rattle.rule_laws.specs.Eta.by_rows fresh g nils a b) s)
      x = pair_script fresh g nils a b s h

      gone : (i : ℕ) → i < arity g a - 1 → Memᴰ n (eta_nils fresh g (port a (1 + i)) (port b (1 + i))) → Goes g a n
      gone i l m = via (same_port (follow g (port a (1 + i))) (port b (1 + i))) refl m (faces_meets fresh g nils a b i (x.0.each i l))
        where
          via : (t : Bool) → same_port (follow g (port a (1 + i))) (port b (1 + i)) ≡ t
              → Memᴰ n (elim t as (λ _. List ℕ) [ true ↦ [] | false ↦ (follow g (port a (1 + i))).node ∷ (follow g (port b (1 + i))).node ∷ [] ])
              → (follow g (port a (1 + i)) ≡ port b (1 + i)) ⊎ ((arity g (follow g (port a (1 + i))).node ≡ 1) × (arity g (follow g (port b (1 + i))).node ≡ 1)) → Goes g a n
          via true e k f = absurd (Memᴰ.not-nil k)
          via false e k (inl f) = absurd (true≢false (sym (same_port_self (port b (1 + i))) ∙ ap (λ (p : Port). same_port p (port b (1 + i))) (sym f) ∙ e))
          via false e k (inr f) = two (one_of_two k)
            where
              two : (n ≡ (follow g (port a (1 + i))).node) ⊎ (n ≡ (follow g (port b (1 + i))).node) → Goes g a n
              two (inl q) = inr (ap (arity g) q ∙ f.0)
              two (inr q) = inr (ap (arity g) q ∙ f.1)

      rest : (n ≡ b) ⊎ Memᴰ n (concat (map (λ i. eta_nils fresh g (port a (1 + i)) (port b (1 + i))) (up_to (arity g a - 1)))) → Goes g a n
      rest (inl e) = inl (ap (λ (t : ℕ). (name_of g t).path) e ∙ sym (same_path (name_of g a) (name_of g b) x.0.name))
      rest (inr m) =
          let y = mem_rows (λ i. eta_nils fresh g (port a (1 + i)) (port b (1 + i))) (arity g a - 1) 0 n m in
          gone y.0 (let z = y.2 in omega arith) y.3

      go : (n ≡ a) ⊎ Memᴰ n (b ∷ concat (map (λ i. eta_nils fresh g (port a (1 + i)) (port b (1 + i))) (up_to (arity g a - 1)))) → Goes g a n
      go (inl e) = inl (ap (λ (t : ℕ). (name_of g t).path) e)
      go (inr m) = rest (Memᴰ.cases_cons m)

  pub eta_dead : (values nils : List ℕ) (s : Script) → eta_script fresh g values nils a ≡ some s → (n : ℕ) → Memᴰ n s.dead → Goes g a n
  unfolding eta_script eta_met
  eta_dead values nils s h n d = go (aux g a) h
    where
      met : (o : Option Port) → eta_met fresh g values nils a o ≡ some s → Goes g a n
      met none y = values_dead (values ++ nils) s y n d
      met (some q) y = pair_dead nils q.node s y n d

      go : (l : List Port)
          → elim l as (λ _. Option Script) [ [] ↦ none | p ∷ ps ↦ eta_met fresh g values nils a (find (λ q. not (is_principal q)) (map (follow g) (p ∷ ps))) ] ≡ some s → Goes g a n
      go [] k = let z : ◌≡◌ {A = ℕ} 0 1 = cc in absurd (omega arith)
      go (p ∷ ps) k = met (find (λ q. not (is_principal q)) (map (follow g) (p ∷ ps))) k
