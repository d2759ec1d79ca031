-- Small facts of a visit: the net that a name finds, nodes that die, marks that stay.
use Rattle.std.specs.Prelude.{ℕ, ◌≡◌, refl, ◌⊎◌, Bool, true, not, ◌&&◌, length, get_or, eqb}
use Rattle.std.proofs.Common.{sym, ap, ◌∙◌, subst, inl, inr, arith, true≢false, eqb-true}
use Rattle.std.proofs.Math.Path.{fun_ext}
use Rattle.std.proofs.Math.Option.{Option, none, some}
use mathlib.Core.List.Memᴰ
use mathlib.Core.List.{List, [], ◌∷◌, ◌++◌, map, Memᴰ}
use Rattle.std.proofs.lemmas.List.{length-map}
use Rattle.std.proofs.Math.ListN.{get_or-map}
use Rattle.net_file.specs.Lists.{all}
use Rattle.net_file.specs.Checks.{same_name}
use Rattle.definitions.specs.Lists.{or_else, find, zip_with, up_to, has}
use Rattle.definitions.specs.Nets.{Port, Graph, Home, port, is_principal, at, holds, name_of, arity, aux, follow}
use Rattle.definitions.specs.Scripts.{Cut, Script}
use Rattle.definitions.specs.Rules.{new, hang, eta_values, eta_met, eta_script, graft_script}
use Rattle.definitions.specs.State.{Net, Wait, Engine, homes, new_net, with_nets, with_awaiting, net_at, over_net, more}
use Rattle.definitions.specs.Books.{is_dirty, tighten_net}
use Rattle.definitions.specs.Visit.{get_net}
use Rattle.join_laws.specs.Ports.{Frame, no_frame, in_net, frame, net_frame, holds_frame}
use Rattle.rule_laws.specs.Places.{given_some}
use Rattle.rule_laws.specs.Eta.{pair_script}
use Rattle.step_laws.specs.Tries.{All, cons}
use Rattle.idle_laws.specs.Placed.{named}

-- the net of a name, by the homes
pub get_named : (e : Engine) (c : ℕ) → get_net e c ≡ named (homes e) c
unfolding get_net net_at
get_named e c =
    ap (λ (f : ℕ → Bool). find f (up_to (length e.nets))) (fun_ext (λ (k : ℕ). ap (λ (h : Home). eqb h.name c) (sym (get_or-map (λ (t : Net). t.home) e.nets k (new_net (record { name = 0; free = 0 }))))))
    ∙ ap (λ (l : ℕ). find (λ k. eqb (get_or (homes e) k (record { name = 0; free = 0 })).name c) (up_to l)) (sym (length-map e.nets (λ (t : Net). t.home)))

-- eta removes the node that it is tried on
pub eta_dies : (fresh' : ℕ → ℕ) (g : Graph) (vs ns : List ℕ) (a : ℕ) (s : Script) → eta_script fresh' g vs ns a ≡ some s → Memᴰ a s.dead
unfolding eta_script eta_met eta_values
eta_dies fresh' g vs ns a s h = go (aux g a) h
  where
    met : (o : Option Port) → eta_met fresh' g vs ns a o ≡ some s → Memᴰ a s.dead
    met none q =
        let qs = map (follow g) (aux g a) in
        let ms = map (λ (q : Port). q.node) qs in
        let name = name_of g (get_or ms 0 0) in
        subst (λ (y : Script). Memᴰ a y.dead)
        (given_some (all (λ n. eqb (arity g n) 1) ms && has (vs ++ ns) name.path && all (λ n. same_name (name_of g n) name) ms)
        (record { edits = zip_with Cut (aux g a) qs ++ hang fresh' g 0 (new (at g a).net name 1) (port a 0); dead = a ∷ ms }) s q).1 (Memᴰ.head refl)
    met (some b) q = subst (λ (y : Script). Memᴰ a y.dead) (pair_script fresh' g ns a b.node s q).1 (Memᴰ.head refl)

    go : (l : List Port) → elim l as (λ _. Option Script) [ [] ↦ none | p ∷ ps ↦ eta_met fresh' g vs ns a (find (λ q. not (is_principal q)) (map (follow g) (p ∷ ps))) ] ≡ some s → Memᴰ a s.dead
    go [] q = absurd (let z : ◌≡◌ {A = ℕ} 0 1 = cc in omega arith)
    go (p ∷ ps) q = met (find (λ q. not (is_principal q)) (map (follow g) (p ∷ ps))) q

pub await_is : (ws : List Wait) (t : Net) → (with_awaiting ws t).awaiting ≡ ws
unfolding with_awaiting
await_is ws t = refl

pub await_dirty : (f : Net → Net) (k m : ℕ) (e : Engine) (x : ℕ) → is_dirty (more k (over_net f m e)) x ≡ is_dirty e x
unfolding is_dirty more over_net with_nets
await_dirty f k m e x = refl

pub tight_dirty : (m : ℕ) (e : Engine) (x : ℕ) → is_dirty (tighten_net m e) x ≡ is_dirty e x
unfolding is_dirty tighten_net over_net with_nets
tight_dirty m e x = refl

-- a node of net m
pub holds_net : (g : Graph) (m x : ℕ) → holds g m x ≡ true → (at g x).net ≡ m
holds_net g m x h = net_frame g x ∙ go (frame g x) (sym (holds_frame g x m) ∙ h)
  where
    go : (o : Option Frame) → in_net m o ≡ true → (or_else o no_frame).net ≡ m
    go none t = absurd (true≢false (sym t))
    go (some f) t = eqb-true f.net m t

pub graft_dies : (fresh' : ℕ → ℕ) (g : Graph) (ids : List ℕ) (free n : ℕ) → Memᴰ n (graft_script fresh' g ids free n).dead
unfolding graft_script
graft_dies fresh' g ids free n = Memᴰ.tail (Memᴰ.head refl)

pub all_at : {A : Type 0} (Q : A → Type 0) (xs : List A) (a : A) → All Q xs → Memᴰ a xs → Q a
all_at Q [] a h m = absurd (Memᴰ.not-nil m)
all_at Q (x ∷ xs) a (cons q h) m = go (Memᴰ.cases_cons m) (λ k. all_at Q xs a h k)
  where
    go : (a ≡ x) ⊎ Memᴰ a xs → (Memᴰ a xs → Q a) → Q a
    go (inl s) r = subst Q (sym s) q
    go (inr k) r = r k
