-- What the tables by wire mean: the links that are not used up yet and the trees that hang, each tree by the place where it lies.
-- Using up a link (`meant-used`) and taking a tree off its wire (`meant-led`) keep the meaning.
use Rattle.std.specs.Prelude.{ℕ, zero, suc, ◌+◌, ◌<◌, ◌≤◌, min, ◌≡◌, List, length, get_or, set}
use Rattle.std.proofs.Math.Path.{refl}
use Rattle.std.proofs.Common.{sym, ap, ◌∙◌, arith, length-set, get_or-set_other}
use Rattle.std.proofs.Math.Option.{Option, none, some}
use Rattle.std.proofs.Math.Decide.{ℕ_discrete}
use Rattle.net_file.specs.Values.{Tree, wire, node}
use Rattle.conversions.specs.Links.{get, remove}
use Rattle.conversions.specs.Resolve.{Hung, canonicalize}
use Rattle.wire_tables.specs.Tables.{unlink, smaller, hung, hang}
use Rattle.wire_tables_laws.specs.Get.{get_removed, get_kept}
use Rattle.wire_tables_laws.specs.Table.{Said, Table, table_keeps, table_remove}
use Rattle.wire_tables_laws.specs.Linked.{LinkFor, Linked, used_up, smaller_below, smaller_none, smaller_some}
use Rattle.resolve_laws.specs.Walk.{used_by, canonical_is, led_by}
use Rattle.resolve_laws.specs.Kept.{IsNode}
use Rattle.spelt_trees.specs.Lies.{Lies}

-- where nothing is there, nothing is lost
table_none : {A : Type 0} (For : A → ℕ → Type 0) (base n : ℕ) (ws : List ℕ) (es : List (ℕ × A)) (a i : ℕ) → a < n → i ≡ base + a → get es a ≡ none
    → Table For base n ws es → Table For base n (set ws i 0) es
table_none For base n ws es a i l is e t =
    let r = table_remove For base n ws es t a i l is in
    record { room = r.room; says = λ w h. rw (same w) (r.says w h) }
  where
    same : (w : ℕ) → get es w ≡ get (remove es a) w
    same w = elim (ℕ_discrete w a) [ yes h ↦ rw (h, e, get_removed es a) | no h ↦ sym (get_kept es a w h) ]

-- words from 131,072 on are kept
pub record Frame (ws vs : List ℕ) : Type 0 where
  pub long : length vs ≡ length ws
  pub same : (i : ℕ) → 131072 ≤ i → get_or vs i 0 ≡ get_or ws i 0

pub frame_none : (ws : List ℕ) → Frame ws ws
frame_none ws = record { long = refl; same = λ i h. refl }

pub frame_then : {ws vs us : List ℕ} → Frame ws vs → Frame vs us → Frame ws us
frame_then f g = record { long = g.long ∙ f.long; same = λ i h. g.same i h ∙ f.same i h }

pub frame_set : (ws : List ℕ) (i v : ℕ) → i < 131072 → Frame ws (set ws i v)
frame_set ws i v l = record { long = length-set ws i v; same = λ j h. get_or-set_other ws i j v 0 (λ e. absurd (omega arith)) }

module _ (s : List ℕ) (n : ℕ) where
  -- a node that lies at the place of which v is the number after
  pub record HungAt (t : Tree) (v : ℕ) : Type 0 where
    pub place : ℕ
    pub word : v ≡ place + 1
    pub lies : Lies s n t place
    pub node : IsNode t

  pub record Meant (ws : List ℕ) (h : Hung) : Type 0 where
    pub links : Linked n ws h.links
    pub trees : Table HungAt 65536 n ws h.trees

  module _ (few : n ≤ 65536) (ws : List ℕ) (h : Hung) (m : Meant ws h) (a : ℕ) (below : a < n) where
    -- the tables after a's link is used up
    pub record Used (c : ℕ × Hung) : Type 0 where
      pub is : smaller ws a ≡ c.0
      pub less : c.0 < n
      pub then : Meant (unlink ws a) c.1

    keeps_trees : Table HungAt 65536 n (unlink ws a) h.trees
    keeps_trees = table_keeps HungAt 65536 n ws h.trees m.trees a 0 (λ w l e. absurd (omega arith))

    used_by_lem : (o : Option ℕ) → get h.links a ≡ o → Used (used_by h a o)
    unfolding used_by
    used_by_lem none e = record {
      is = smaller_none n few ws h.links m.links a below e;
      less = below;
      then = record { links = table_none (LinkFor n) 0 n ws h.links a a below (omega arith) e m.links; trees = keeps_trees };
    }
    used_by_lem (some b) e =
        let i = smaller_some n few ws h.links m.links a below b e in
        record {
          is = i;
          less = rw (← i) (smaller_below n few ws h.links m.links a below);
          then = record { links = used_up n few ws h.links m.links a below; trees = keeps_trees };
        }

    pub meant_used : Used (canonicalize h a)
    meant_used = rw (canonical_is h a) (used_by_lem (get h.links a) refl)

    -- the tables after the tree on a is taken, if any
    keeps_links : Linked n (hang ws a 0) h.links
    keeps_links = table_keeps (LinkFor n) 0 n ws h.links m.links (65536 + a) 0 (λ w l e. absurd (omega arith))

    pub meant_led : (o : Option Tree) → get h.trees a ≡ o → Said HungAt o (hung ws a) × Meant (hang ws a 0) (led_by a h o).1
    unfolding led_by
    meant_led none e = (
      rw e at (m.trees.says a below),
      record { links = keeps_links; trees = table_none HungAt 65536 n ws h.trees a (65536 + a) below refl e m.trees },
    )
    meant_led (some t) e = (
      rw e at (m.trees.says a below),
      record { links = keeps_links; trees = table_remove HungAt 65536 n ws h.trees m.trees a (65536 + a) below refl },
    )
