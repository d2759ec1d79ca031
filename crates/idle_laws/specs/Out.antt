-- A visit that passes has tried all: no rule that it tries can act, or the node waits. And it tries all that the node can begin.
use Rattle.std.specs.Prelude.{ℕ, ◌≡◌, ◌⊎◌, Bool, ◌&&◌}
use Rattle.std.proofs.Math.Path.{refl}
use Rattle.std.proofs.Common.{sym, ap, ◌∙◌, subst, inl, inr, arith, true≢false}
use Rattle.std.proofs.Math.Decide.{ℕ_discrete}
use Rattle.std.proofs.Math.Bool.{true, false}
use Rattle.std.proofs.Math.Option.{Option, none, some}
use mathlib.Core.List.Memᴰ
use mathlib.Core.List.{List, [], ◌∷◌, ◌++◌, map, Memᴰ}
use Rattle.std.proofs.Math.Dec.{eqb}
use Rattle.list_laws.specs.Tests.{both_are}
use Rattle.net_file.specs.Lists.{concat_map}
use Rattle.net_file.specs.Values.{Name, Rule, graft, annihilate, erase, commute, eta}
use Rattle.definitions.specs.Lists.{keep}
use Rattle.definitions.specs.Nets.{Port, Graph, Home, port, is_principal, filled, name_of, across, follow}
use Rattle.definitions.specs.Scripts.{Script}
use Rattle.definitions.specs.Rules.{reaches, interact}
use Rattle.definitions.specs.Step.{pairs, rewrites}
use Rattle.definitions.specs.State.{Wait, Engine, graph_of, homes}
use Rattle.definitions.specs.Books.{is_dirty}
use Rattle.definitions.specs.Visit.{Try, interaction, rewrite, try_pair, interactions, tries}
use Rattle.dirty_laws.specs.Tests.{eqb_self}
use Rattle.dirty_laws.specs.Firsts.{keep_mem}
use Rattle.engine_laws.specs.Frame.{Body, body}
use Rattle.script_laws.specs.Tidy.{WellWired}
use Rattle.rule_laws.specs.Places.{across_follow}
use Rattle.idle_laws.specs.Able.{Able}
use Rattle.idle_laws.specs.Seen.{coupled_back}
use Rattle.idle_laws.specs.Placed.{wait_of, named, waits_on, Placed}
use Rattle.idle_laws.specs.Acted.{Nobody}

-- ---- what was tried

-- the rule cannot act there; a graft that reaches an included net waits
abbrev pub OutOn : Graph → List Home → (ℕ → List Wait) → Try → Type 0
OutOn g hs waiting (interaction r a b) = (f : ℕ → ℕ) (s : Script) → interact r f g a b ≡ some s → ⊥
OutOn g hs waiting (rewrite (graft p lazy) a) = (c m : ℕ) (cs : List ℕ) → reaches g lazy a ≡ true → (name_of g a).children ≡ c ∷ cs → named hs c ≡ some m → Memᴰ (wait_of g a) (waiting m)
OutOn g hs waiting (rewrite (annihilate ps) a) = Unit {0}
OutOn g hs waiting (rewrite (erase es ns) a) = Unit {0}
OutOn g hs waiting (rewrite (commute xs ys) a) = Unit {0}
OutOn g hs waiting (rewrite (eta cs vs ns) a) = (o : Option ℕ) → Able g vs ns a o → ⊥

abbrev pub Out : Engine → Try → Type 0
Out e t = OutOn (graph_of e) (homes e) (waits_on e) t

-- waits come
pub out_more : (e e' : Engine) → body e' ≡ body e → ((m : ℕ) (v : Wait) → Memᴰ v (waits_on e m) → Memᴰ v (waits_on e' m)) → (t : Try) → Out e t → Out e' t
out_more e e' b w t o = subst (λ (z : Body). OutOn z.1 z.0.2 (waits_on e') t) (sym b) (go t o)
  where
    go : (t : Try) → OutOn (graph_of e) (homes e) (waits_on e) t → OutOn (graph_of e) (homes e) (waits_on e') t
    go (interaction r a b) o = o
    go (rewrite (graft p lazy) a) o = λ c m cs r ch q. w m (wait_of (graph_of e) a) (o c m cs r ch q)
    go (rewrite (annihilate ps) a) o = tt
    go (rewrite (erase es ns) a) o = tt
    go (rewrite (commute xs ys) a) o = tt
    go (rewrite (eta cs vs ns) a) o = o

-- ---- what is tried

mem_concat : {A B : Type 0} (f : A → List B) (xs : List A) (a : A) (b : B) → Memᴰ a xs → Memᴰ b (f a) → Memᴰ b (concat_map f xs)
mem_concat f [] a b i j = absurd (Memᴰ.not-nil i)
mem_concat f (x ∷ xs) a b i j = go (Memᴰ.cases_cons i) (λ k. mem_concat f xs a b k j)
  where
    go : (a ≡ x) ⊎ Memᴰ a xs → (Memᴰ a xs → Memᴰ b (concat_map f xs)) → Memᴰ b (f x ++ concat_map f xs)
    go (inl q) r = Memᴰ.append_left (concat_map f xs) (subst (λ y. Memᴰ b (f y)) q j)
    go (inr k) r = Memᴰ.append_right (f x) (r k)

module _ (rs : List Rule) (g : Graph) (n : ℕ) where
  -- a pair that n begins
  pub pair_tried : (r : Rule) (b : ℕ) → WellWired g → Memᴰ r rs → Memᴰ ((name_of g n).path, (name_of g b).path) (pairs r) → across g (port n 0) ≡ some (port b 0) → Memᴰ (interaction r n b) (tries rs g n)
  unfolding tries interactions try_pair is_principal
  pair_tried r b w i j x =
      Memᴰ.append_left (concat_map (λ r. map (λ p. rewrite r n) (keep (eqb (name_of g n).path) (rewrites r))) rs)
      (subst (λ (q : Port). Memᴰ (interaction r n b) (interactions rs g n q)) (sym (across_follow g w (port n 0) (port b 0) x))
      (mem_concat (λ r. concat_map (try_pair g n b r) (pairs r)) rs r (interaction r n b) i (mem_concat (try_pair g n b r) (pairs r) ((name_of g n).path, (name_of g b).path) (interaction r n b) j here)))
    where
      here : Memᴰ (interaction r n b) (try_pair g n b r ((name_of g n).path, (name_of g b).path))
      here = go (eqb (name_of g n).path (name_of g n).path && eqb (name_of g b).path (name_of g b).path)
          (both_are (eqb (name_of g n).path (name_of g n).path) (eqb (name_of g b).path (name_of g b).path) (eqb_self (name_of g n).path) (eqb_self (name_of g b).path))
          (eqb (name_of g b).path (name_of g n).path && eqb (name_of g n).path (name_of g b).path)
        where
          go : (t : Bool) → t ≡ true → (u : Bool) → Memᴰ (interaction r n b) (elim t as (λ _. List Try) [ true ↦ interaction r n b ∷ [] | false ↦ elim u as (λ _. List Try) [ true ↦ interaction r b n ∷ [] | false ↦ [] ] ])
          go true q u = Memᴰ.head refl
          go false q u = absurd (true≢false (sym q))

  -- a rewrite of its path
  pub rewrite_tried : (r : Rule) → Memᴰ r rs → Memᴰ (name_of g n).path (rewrites r) → Memᴰ (rewrite r n) (tries rs g n)
  unfolding tries
  rewrite_tried r i j =
      Memᴰ.append_right (interactions rs g n (follow g (port n 0)))
      (mem_concat (λ r. map (λ p. rewrite r n) (keep (eqb (name_of g n).path) (rewrites r))) rs r (rewrite r n) i
      (Memᴰ.map (λ (p : ℕ). rewrite r n) (keep_mem (eqb (name_of g n).path) (rewrites r) (name_of g n).path (eqb_self (name_of g n).path) j)))

-- the node visited is no exception any more
pub out_placed : (n : ℕ) (e : Engine) → WellWired (graph_of e) → ((t : Try) → Memᴰ t (tries e.rules (graph_of e) n) → Out e t) → Placed (λ x. x ≡ n) e → Placed Nobody e
unfolding rewrites
out_placed n e w out p = record { meet = meet; reduce = reduce; wait = wait }
  where
    meet : (r : Rule) (a b : ℕ) (f : ℕ → ℕ) (s : Script) → Memᴰ r e.rules → Memᴰ ((name_of (graph_of e) a).path, (name_of (graph_of e) b).path) (pairs r)
        → across (graph_of e) (port a 0) ≡ some (port b 0) → interact r f (graph_of e) a b ≡ some s → is_dirty e a ≡ false → ¬ ⊥ → ⊥
    meet r a b f s i j x h c d = go (ℕ_discrete a n)
      where
        go : Dec (a ≡ n) → ⊥
        go (no q) = p.meet r a b f s i j x h c q
        go (yes q) =
            out (interaction r n b)
            (pair_tried e.rules (graph_of e) n r b w i (subst (λ (k : ℕ). Memᴰ ((name_of (graph_of e) k).path, (name_of (graph_of e) b).path) (pairs r)) q j) (ap (λ (k : ℕ). across (graph_of e) (port k 0)) (sym q) ∙ x))
            f s (ap (λ (k : ℕ). interact r f (graph_of e) k b) (sym q) ∙ h)

    -- seen from n
    from_n : (cs vs ns : List ℕ) (a : ℕ) (o : Option ℕ) → a ≡ n → Memᴰ (eta cs vs ns) e.rules → Memᴰ (name_of (graph_of e) a).path cs → Able (graph_of e) vs ns a o → ⊥
    from_n cs vs ns a o q i j x =
        out (rewrite (eta cs vs ns) n) (rewrite_tried e.rules (graph_of e) n (eta cs vs ns) i (subst (λ (k : ℕ). Memᴰ (name_of (graph_of e) k).path cs) q j)) o (subst (λ (k : ℕ). Able (graph_of e) vs ns k o) q x)

    reduce : (cs vs ns : List ℕ) (a : ℕ) (o : Option ℕ) → Memᴰ (eta cs vs ns) e.rules → filled (graph_of e) a ≡ true → Memᴰ (name_of (graph_of e) a).path cs
        → Able (graph_of e) vs ns a o → is_dirty e a ≡ false → ¬ ⊥ → ((b : ℕ) → o ≡ some b → (is_dirty e b ≡ false) × ¬ ⊥) → ⊥
    reduce cs vs ns a none i f j x c d t = go (ℕ_discrete a n)
      where
        go : Dec (a ≡ n) → ⊥
        go (yes q) = from_n cs vs ns a none q i j x
        go (no q) = p.reduce cs vs ns a none i f j x c q (λ b u. absurd (let z : ◌≡◌ {A = ℕ} 0 1 = cc in omega arith))
    reduce cs vs ns a (some b) i f j x c d t = go (ℕ_discrete a n) (ℕ_discrete b n)
      where
        go : Dec (a ≡ n) → Dec (b ≡ n) → ⊥
        go (yes q) u = from_n cs vs ns a (some b) q i j x
        go (no q) (yes u) = from_n cs vs ns b (some a) u i (subst (λ (k : Name). Memᴰ k.path cs) x.name j) (coupled_back (graph_of e) w ns a b x)
        go (no q) (no u) = p.reduce cs vs ns a (some b) i f j x c q (λ b' s. let z : b ≡ b' = cc in ((t b' s).0, λ v. u (z ∙ v)))

    wait : (lazy : Bool) (a c m : ℕ) (cs : List ℕ) → Memᴰ (graft (name_of (graph_of e) a).path lazy) e.rules → reaches (graph_of e) lazy a ≡ true
        → (name_of (graph_of e) a).children ≡ c ∷ cs → named (homes e) c ≡ some m → is_dirty e a ≡ false → ¬ ⊥ → Memᴰ (wait_of (graph_of e) a) (waits_on e m)
    wait lazy a c m cs i r ch h k d = go (ℕ_discrete a n)
      where
        go : Dec (a ≡ n) → Memᴰ (wait_of (graph_of e) a) (waits_on e m)
        go (no q) = p.wait lazy a c m cs i r ch h k q
        go (yes q) =
            subst (λ (j : ℕ). Memᴰ (wait_of (graph_of e) j) (waits_on e m)) (sym q)
            (out (rewrite (graft (name_of (graph_of e) a).path lazy) n)
            (rewrite_tried e.rules (graph_of e) n (graft (name_of (graph_of e) a).path lazy) i (Memᴰ.head (ap (λ (j : ℕ). (name_of (graph_of e) j).path) (sym q))))
            c m cs (ap (reaches (graph_of e) lazy) (sym q) ∙ r) (ap (λ (j : ℕ). (name_of (graph_of e) j).children) (sym q) ∙ ch) h)
