-- What a visit starts from, and one step of it: an act by a rule's script.
use Rattle.std.specs.Prelude.{◌≡◌, refl, ℕ, ◌+◌, ◌<◌, List, length}
use Rattle.std.proofs.Common.{sym, ap, ◌∙◌, subst}
use Rattle.std.proofs.Math.Option.{Option, none, some}
use Rattle.net_file.specs.Lists.{Result, ok, refuse}
use Rattle.definitions.specs.Nets.{Graph, Home, at}
use Rattle.definitions.specs.Scripts.{Script, apply_script}
use Rattle.definitions.specs.Step.{Acts, Step}
use Rattle.definitions.specs.State.{Engine, graph_of}
use Rattle.definitions.specs.Books.{fresh}
use Rattle.definitions.specs.Visit.{Visited, acted, passed, less_one, act}
use Rattle.graph_laws.specs.Rest.{Rest, Unnamed, acts_rest}
use Rattle.step_laws.specs.Core.{Core, core_of}
use Rattle.step_laws.specs.Track.{Tracked}
use Rattle.step_laws.specs.Acting.{After, Acted, act_made}
use Rattle.step_laws.specs.Numbers.{Into, tracked_fresh, acts_orderly}

-- no rule names the free path, every net is well wired, every node is tracked
pub record Ready (path : ℕ) (c : Core) : Type 0 where
  pub unnamed : Unnamed path c.rules
  pub rest : Rest path c.homes c.graph
  pub tracked : Tracked c

-- d comes from c by one step of one rule
pub record OneStep (path : ℕ) (c d : Core) : Type 0 where
  pub step : Step c.rules c.homes c.graph d.graph
  pub ready : Ready path d
  pub homes : d.homes ≡ c.homes
  pub rules : d.rules ≡ c.rules
  pub steps : d.steps ≡ c.steps + 1
  pub limit : d.limit ≡ less_one c.limit

-- P where it implies Q
pub after_more : (P P' Q : Engine → Type 0) → ((e : Engine) → P e → P' e) → (r : Result Visited) → After P Q r → After P' Q r
after_more P P' Q h (ok (acted e)) x = h e x
after_more P P' Q h (ok (passed e)) x = x
after_more P P' Q h (refuse r) x = tt

-- an act by the script of a rule is a step
pub act_step : (path : ℕ) (e : Engine) → Ready path (core_of e) → (m : Option ℕ) (s : Script) → Acts (core_of e).rules (core_of e).homes (core_of e).graph (fresh e) m s → (Q : Engine → Type 0)
    → After (λ e'. OneStep path (core_of e) (core_of e')) Q (act s e)
unfolding core_of
act_step path e r m s x Q =
    after_more (λ e'. Acted (core_of e) s (core_of e')) (λ e'. OneStep path (core_of e) (core_of e')) Q stepped (act s e)
    (act_made s e (at (core_of e).graph into.node).net r.tracked (r.tracked.in_range into.node into.there) into.orderly Q)
  where
    into : Into (fresh e) (core_of e).graph s
    into = acts_orderly (core_of e).rules (core_of e).homes path r.unnamed (core_of e).graph r.rest (fresh e) (tracked_fresh e r.tracked) m s x

    stepped : (e' : Engine) → Acted (core_of e) s (core_of e') → OneStep path (core_of e) (core_of e')
    stepped e' a = record {
      step = record { fresh = fresh e; is_fresh = tracked_fresh e r.tracked; copied = m; script = s; acts = x; done = a.graph };
      ready = record {
        unnamed = subst (Unnamed path) (sym a.rules) r.unnamed;
        rest =
            subst (λ (g : Graph). Rest path (core_of e').homes g) (sym a.graph)
            (subst (λ (hs : List Home). Rest path hs (apply_script (core_of e).graph s)) (sym a.homes)
            (acts_rest (core_of e).rules (core_of e).homes path r.unnamed (core_of e).graph r.rest (fresh e) (tracked_fresh e r.tracked) m s x).0);
        tracked = a.tracked;
      };
      homes = a.homes;
      rules = a.rules;
      steps = a.steps;
      limit = a.limit;
    }
