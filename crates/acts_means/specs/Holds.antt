-- What holds of words and engine all through a run on the held file s, read as f; and what a visit's rules make of it.
use Rattle.std.specs.Prelude.{ℕ, ◌+◌, ◌≤◌, ◌≡◌, Bool, true, false, List, length, eqb}
use Rattle.std.proofs.Common.{sym, ap, ◌∙◌, subst, arith}
use Rattle.std.proofs.Math.Option.{Option, some}
use Rattle.std.proofs.lemmas.List.{length-map}
use Rattle.net_file.specs.Lists.{Result, ok, refuse, bit}
use Rattle.net_file.specs.Values.{FlatNet, File}
use Rattle.definitions.specs.Nets.{Home}
use Rattle.definitions.specs.Scripts.{Script, apply_script}
use Rattle.definitions.specs.State.{Pools, Net, Engine, graph_of, homes}
use Rattle.definitions.specs.Load.{free_name}
use Rattle.definitions.specs.Visit.{Visited, acted, passed, act_if}
use Rattle.definitions.specs.Run.{spent}
use Rattle.dirty_laws.specs.Tests.{eqb_self}
use Rattle.engine_laws.specs.Frame.{Body, body, still_frame, pools_kept, homes_kept}
use Rattle.good_laws.specs.Good.{bump, rest}
use Rattle.good_laws.specs.Scripts.{Orderly, Done}
use Rattle.good_laws.specs.Sound.{Kept}
use Rattle.waiter_laws.specs.Waiters.{Waited, waited_same}
use Rattle.reached_laws.specs.Wires.{Wires}
use Rattle.words.specs.Left.{Left}
use Rattle.layout.specs.Layout.{dead}
use Rattle.edits.specs.Edits.{finish_edit_words}
use Rattle.tried.specs.declared.Tried.{Tried}
use Rattle.tried.specs.declared.Tried.TheVariants.{Acted}
use Rattle.run_slice.specs.Run.{count_step}
use Rattle.means.specs.Means.{Means}
use Rattle.means.specs.Frame.{rest_trans}
use Rattle.held_names.specs.Named.{Named}
use Rattle.script_means.specs.Tries.{Tries, Between}
use Rattle.names_means.specs.Kept as Names
use Rattle.run_means.specs.Count.{LimitFits}
use Rattle.visit_means.specs.Tells.{Tells}
use Rattle.seen_means.specs.Seen.{FreePlaces}
use Rattle.means.specs.Names.{Called}
use Rattle.graft_means.specs.Held.{called_kept}
use Rattle.acts_means.specs.Acted.{Finished, Untouched, DoneBy, act_tells}

-- the number of the free nodes' path
abbrev pub free_path_of : File FlatNet → ℕ
free_path_of f = (free_name f.paths).path

-- the words mean the engine, no node is to go, the books are good but for x, nets are well wired, waits name slots and nets, the place 0
-- is the free nodes', the rules are the file's, the limit fits a word, and the nets have their names
pub record Holds (s : List ℕ) (f : File FlatNet) (x : ℕ → ℕ) (ws : List ℕ) (e : Engine) : Type 0 where
  pub means : Means (Named s f) ws e
  pub none_dead : dead ws ≡ 0
  pub kept : Kept (Wires (free_path_of f)) x e
  pub waited : Waited e.pools.nodes (length e.nets) e
  pub places : FreePlaces ws e
  pub rules : e.rules ≡ f.rules
  pub limit : LimitFits e.limit
  pub called : Called ws e

-- while a node of net k is visited and no rule has acted: from e₀ on only books changed
pub record During (s : List ℕ) (f : File FlatNet) (k : ℕ) (e₀ : Engine) (ws : List ℕ) (e : Engine) : Type 0 where
  pub holds : Holds s f (bump k rest) ws e
  pub still : body e ≡ body e₀

-- a rule has acted: of the words once the step is counted and the dead nodes are gone
pub record After (s : List ℕ) (f : File FlatNet) (e₀ : Engine) (ws : List ℕ) (e : Engine) : Type 0 where
  pub finished : Finished (Named s f) (finish_edit_words (count_step ws)) e
  pub waited : Waited e₀.pools.nodes (length e₀.nets) e
  pub places : FreePlaces (finish_edit_words (count_step ws)) e
  pub called : Called (finish_edit_words (count_step ws)) e

-- as many nets
pub nets_length : (e e' : Engine) → homes e ≡ homes e' → length e.nets ≡ length e'.nets
nets_length e e' h = sym (length-map e.nets (λ (t : Net). t.home)) ∙ ap (λ (l : List Home). length l) h ∙ length-map e'.nets (λ (t : Net). t.home)

-- what a visit's one more pending is
pub bump_small : (k j : ℕ) → bump k rest j ≤ 4294880000
bump_small k j = go (eqb k j)
  where
    go : (b : Bool) → 0 + bit b ≤ 4294880000
    go true = omega arith
    go false = omega arith

pub bump_one : (k : ℕ) → 1 ≤ bump k rest k
bump_one k = let q : bit (eqb k k) ≡ 1 = ap bit (eqb_self k) in omega arith

module _ (s : List ℕ) (f : File FlatNet) (k : ℕ) (e₀ : Engine) (over : spent e₀.limit ≡ false) (ws : List ℕ) (e : Engine) (d : During s f k e₀ ws e) where
  -- between edits
  pub between : Between (Named s f) (bump k rest) ws e
  between = record { means = d.holds.means; good = d.holds.kept.0; wired = d.holds.kept.1.0.well; none_dead = d.holds.none_dead }

  -- what is asked of the names' places after a rule's script
  abbrev pub Places : Option Script → Left Tried → Type 0
  Places o t = t.is ≡ Acted → (c : Script) → o ≡ some c → (e' : Engine) → Done (bump k rest) e (apply_script (graph_of e) c) (homes e) e.rules e'
      → Finished (Named s f) (finish_edit_words (count_step t.ws)) e' → FreePlaces (finish_edit_words (count_step t.ws)) e'

  pub not_over : spent e.limit ≡ false
  not_over = ap (λ (z : Body). spent z.0.3) d.still ∙ over

  pub waited_there : Waited e₀.pools.nodes (length e₀.nets) e
  waited_there =
      subst (λ (p : Pools). Waited p.nodes (length e₀.nets) e) (pools_kept (still_frame d.still))
      (subst (λ (m : ℕ). Waited e.pools.nodes m e) (nets_length e e₀ (homes_kept (still_frame d.still))) d.holds.waited)

  -- a rule with this script was tried, and wrote no net's name
  pub rule_tells : (o : Option Script) (t : Left Tried) → ((c : Script) → o ≡ some c → Orderly e k c) → Tries (Named s f) ws e t o → Places o t → Names.Kept ws t.ws
      → Tells (During s f k e₀) (After s f e₀) t (act_if o e)
  rule_tells o t orders tries places names =
      go (act_if o e) (act_tells (Named s f) (bump k rest) k (let z = bump_small k k in omega arith) (bump_one k) ws e between d.holds.limit not_over o t orders tries)
    where
      go : (r : Result Visited)
          → Tells (Untouched ws e)
          (DoneBy (Named s f) (bump k rest) e o) t r
          → Tells (During s f k e₀) (After s f e₀) t r
      go (refuse r) h = h
      go (ok (passed e')) h = (h.0, subst (λ (w : List ℕ). During s f k e₀ w e') (sym h.1.0) (subst (During s f k e₀ ws) (sym h.1.1) d))
      go (ok (acted e')) h =
          let b = h.1 in
          let done = b.3 in (
            h.0,
            record {
              finished = b.2;
              waited = waited_same e₀.pools.nodes (length e₀.nets) e e' done.rises.same waited_there;
              places = places h.0 b.0 b.1 e' done b.2;
              called = called_kept ws (finish_edit_words (count_step t.ws)) e e' (rest_trans names b.4) done.home d.holds.called;
            },
          )
