-- The header of words that mean an engine of a run passes.
use Rattle.std.specs.Prelude.{ℕ, ◌+◌, ◌≤◌, ◌≡◌, refl, Bool, true, false, List, length, get_or, eqb, leb}
use Rattle.std.proofs.Common.{sym, ap, ◌∙◌, arith, eq-eqb, ne_eqb, eqb-true, le-leb}
use Rattle.std.proofs.Math.Path.{subst}
use Rattle.std.proofs.Math.Option.{Option, none, some, some-injective}
use Rattle.std.proofs.Math.Decide.{ℕ_discrete}
use Rattle.std.proofs.lemmas.Bool.{eqb-false}
use Rattle.net_file.specs.Lists.{ok}
use Rattle.net_file.specs.Values.{Name, FlatNet, File, no_limit}
use Rattle.net_file.specs.Read.{limit_of}
use Rattle.net_file.specs.Checks.{flat, read}
use Rattle.fields.specs.Fields.{be32}
use Rattle.readers_laws.specs.Flat.{flat_stands}
use Rattle.words.specs.Choose.{if_eq, eq_yes, eq_no}
use Rattle.layout.specs.Layout.{limit, steps, dead, wait_pool}
use Rattle.definitions.specs.State.{Pools, Engine}
use Rattle.good_laws.specs.Good.{Good, rest}
use Rattle.reached_laws.specs.Files.{LimitLeft, OfFile}
use Rattle.means.specs.Means.{limit_word, Means}
use Rattle.image_head.specs.Head.{pools_hold, used_hold, header_holds, left_holds, steps_hold}
use Rattle.image_means.specs.Yes.{same_yes, most_yes, given_yes}
use Rattle.image_means.specs.Tidy.{Tidy}

-- the limit by the file's, where steps taken and those left are it
limit_left : (n taken : ℕ) (left : Option ℕ) → LimitLeft (limit_of n) taken left → left_holds n taken (limit_word left) ≡ true
unfolding limit_of left_holds
limit_left n taken left h = go (eqb n no_limit) refl h
  where
    go : (t : Bool) → eqb n no_limit ≡ t → LimitLeft (elim t as (λ _. Option ℕ) [ true ↦ none | false ↦ some n ]) taken left
        → if_eq n 4294967295 (eqb (limit_word left) 4294967295) (eqb (limit_word left + taken) n) ≡ true
    go true e l = sym (eq_yes n 4294967295 _ _ (eqb-true n no_limit e) (sym (eq-eqb (limit_word left) 4294967295 (ap limit_word l))))
    go false e l =
        let w : limit_word left ≡ l.0 = ap limit_word l.1 in
        let s = l.2 in
        sym (eq_no n 4294967295 _ _ (eqb-false n no_limit e) (sym (eq-eqb (limit_word left + taken) n (omega arith))))

module _ (Named : ℕ → Name → Type 0) (s ws : List ℕ) (e : Engine) (m : Means Named ws e) where
  pools_are : Tidy s ws e → pools_hold ws e.pools.nodes e.pools.entries e.pools.waits ≡ true
  unfolding pools_hold
  pools_are t =
      same_yes _ _ _ t.mark
      (same_yes _ _ _ m.header.nodes (same_yes _ _ _ m.header.entries (eq-eqb (wait_pool ws) e.pools.waits m.header.waits)))

  used_are : used_hold ws e.pools.nodes e.pools.entries e.pools.waits ≡ true
  unfolding used_hold
  used_are =
      let a = m.vacant.all in
      most_yes _ _ _ (omega arith) (most_yes _ _ _ m.used.entries (le-leb (get_or ws 13 0) e.pools.waits m.used.waits))

  -- `header-holds` answers yes
  pub header_passes : Tidy s ws e → header_holds ws e.pools.nodes e.pools.entries e.pools.waits ≡ true
  unfolding header_holds
  header_passes t = given_yes _ _ (pools_are t) (given_yes _ _ used_are (eq-eqb (dead ws) 0 t.none_dead))

  -- `steps-hold` answers yes
  pub steps_pass : (f : File FlatNet) → read flat s ≡ ok f → (p : Pools) → OfFile p f e → Good rest e → steps_hold ws s ≡ true
  unfolding steps_hold
  steps_pass f r p o g =
      let h = m.header in
      let u = g.stepped in
      let n = h.steps_are in
      let l : LimitLeft (limit_of (be32 s 5)) e.steps e.limit = subst (λ (x : Option ℕ). LimitLeft x e.steps e.limit) (flat_stands s f r).limit o.limit in
      most_yes _ _ _ (omega arith) (rw (h.steps_are, h.limit_is) (limit_left (be32 s 5) e.steps e.limit l))
