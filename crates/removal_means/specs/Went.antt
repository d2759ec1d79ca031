-- A node of a net went: its entry in the net's list is stale, and a loose list is made tight.
use Rattle.std.specs.Prelude.{ℕ, ◌+◌, ◌*◌, ◌<◌, ◌≡◌, Bool, true, false, length}
use Rattle.std.proofs.Math.Path.{refl, ap}
use Rattle.std.proofs.Common.{◌∙◌, subst, length-set, get_or-set_same}
use mathlib.Core.List.{List, Memᴰ}
use Rattle.std.proofs.Math.Dec.{leb}
use native.Mathlib.Omega.{arith}
use Rattle.words.specs.Choose.{pick, pick_true, pick_false}
use Rattle.layout.specs.Layout.{next, net_word_words, set_net_word}
use Rattle.lists.specs.Lists.{tighten_net_words}
use Rattle.edits.specs.Edits
use Rattle.net_file.specs.Values.{Name}
use Rattle.definitions.specs.State.{Ids, Net, Engine, with_nets, with_list, with_stale, net_at, over_net}
use Rattle.definitions.specs.Books
use Rattle.definitions.specs.Books.{tighten_net}
use Rattle.means.specs.Means.{no_net, Means}
use Rattle.tighten_net_means.specs.Net.{tighten_net_means}
use Rattle.edits_means.specs.Vacate.{stale_means}

-- net k's list has one stale entry more
unfoldable pub more_stale : ℕ → Engine → Engine
more_stale k e = over_net (λ t. with_list (with_stale (t.list.stale + 1) t.list) t) k e

-- net k's list is made tight where it is loose
unfoldable pub settle : ℕ → Engine → Engine
settle k e = elim (Books.loose (net_at e k).list) [ true ↦ tighten_net k e | false ↦ e ]

module _ (Named : ℕ → Name → Type 0) (ws : List ℕ) (e : Engine) (m : Means Named ws e) (k : ℕ) (here : k < length e.nets) (few : (net_at e k).list.stale < 4294967295)
    (inside : (n : ℕ) → Memᴰ n (net_at e k).list.items → n < e.pools.nodes) where
  e1 : Engine
  e1 = more_stale k e

  v : ℕ
  v = next (net_word_words ws (k + 1) 6)

  w1 : List ℕ
  w1 = set_net_word ws (k + 1) 6 v

  m1 : Means Named w1 e1
  unfolding e1 w1 v more_stale
  m1 = stale_means Named ws e m k here few

  -- the list is as it was, with one stale entry more
  list_is : (net_at e1 k).list ≡ with_stale ((net_at e k).list.stale + 1) (net_at e k).list
  unfolding e1 more_stale over_net with_nets net_at with_list
  list_is = ap (λ (t : Net). t.list) (get_or-set_same e.nets k (with_list (with_stale ((net_at e k).list.stale + 1) (net_at e k).list) (net_at e k)) no_net here)

  here1 : k < length e1.nets
  unfolding e1 more_stale over_net with_nets
  here1 = rw (length-set e.nets k (with_list (with_stale ((net_at e k).list.stale + 1) (net_at e k).list) (net_at e k))) here

  inside1 : (n : ℕ) → Memᴰ n (net_at e1 k).list.items → n < e1.pools.nodes
  unfolding e1 more_stale over_net with_nets with_stale
  inside1 n i = inside n (subst (λ (l : Ids). Memᴰ n l.items) list_is i)

  is : v ≡ (net_at e1 k).list.stale
  unfolding v with_stale net_at
  is = let s = (m.nets k here).stale_is in let q : (net_at e1 k).list.stale ≡ (net_at e k).list.stale + 1 = ap (λ (l : Ids). l.stale) list_is in omega arith

  pub went_means : Means Named (Edits.went ws (k + 1)) (settle k (more_stale k e))
  unfolding Edits.went Edits.loose Books.loose settle e1 w1 v net_at
  went_means = go (Books.loose (net_at e1 k).list) refl
    where
      same : Edits.loose v (net_word_words w1 (k + 1) 5) ≡ Books.loose (net_at e1 k).list
      same = λ i. leb ((m1.nets k here1).capacity_is i) (2 * is i)

      go : (t : Bool) → Books.loose (net_at e1 k).list ≡ t → Means Named (pick (Edits.loose v (net_word_words w1 (k + 1) 5)) (tighten_net_words w1 (k + 1)) w1)
          (elim t as (λ _. Engine) [ true ↦ tighten_net k e1 | false ↦ e1 ])
      go true d =
          subst (λ (w : List ℕ). Means Named w (tighten_net k e1)) (pick_true (Edits.loose v (net_word_words w1 (k + 1) 5)) (tighten_net_words w1 (k + 1)) w1 (same ∙ d) refl)
          (tighten_net_means Named w1 e1 m1 k here1 inside1)
      go false d = subst (λ (w : List ℕ). Means Named w e1) (pick_false (Edits.loose v (net_word_words w1 (k + 1) 5)) (tighten_net_words w1 (k + 1)) w1 (same ∙ d) refl) m1
