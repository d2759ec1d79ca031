-- The trees that hang and the links that are kept: what the second pass leaves in the tables is `pass` of the definition (`passes`).
use Rattle.std.specs.Prelude.{ℕ, zero, suc, ◌+◌, ◌*◌, ◌-◌, ◌%◌, ◌<◌, ◌≤◌, ◌≡◌, get_or, set}
use Rattle.std.proofs.Math.Path.{refl, ap}
use Rattle.std.proofs.Common.{sym, ◌∙◌, length-append}
use Rattle.std.proofs.Math.Option.{Option, none, some}
use mathlib.Core.List.{List, [], ◌∷◌, ◌++◌}
use native.Mathlib.Omega.{arith}
use Rattle.std.proofs.Math.ListN.{length, length-set}
use Rattle.words.specs.Choose.{eq_yes, eq_no}
use Rattle.words.specs.Left.{Left}
use Rattle.net_file.specs.Values.{Name, Tree, wire, node, Trees}
use Rattle.net_file.specs.Write.{write_tree}
use Rattle.conversions.specs.Links.{get, remove, insert}
use Rattle.conversions.specs.Resolve.{Hung, canonicalize, meet, pass}
use Rattle.wire_tables.specs.Tables.{unlink, smaller, hung, hang, keep}
use Rattle.wire_tables_laws.specs.Table.{Said, table_keeps, table_insert}
use Rattle.wire_tables_laws.specs.Linked.{LinkFor}
use Rattle.resolve_pass.specs.declared.Passed.{Passed}
use Rattle.resolve_pass.specs.Pass.{place, next, less, add_kept}
use Rattle.resolve_pass.specs.Pass as code
use Rattle.resolve_laws.specs.Walk.{led_by}
use Rattle.resolve_laws.specs.Kept.{canonical_trees, IsNode, Nodes, nodes_remove, Low, low_remove, low_insert}
use Rattle.resolve_laws.specs.Resolve.{hang_insert}
use Rattle.resolve_laws.specs.Pass.{pass_one, pass_more, pass_none, met_by, meet_is}
use Rattle.resolve_laws.specs.Keys.{Keys, keys_remove, keys_insert, remove_one, insert_one}
use Rattle.spelt_trees.specs.Lies.{Lies}
use Rattle.resolve_walk_laws.specs.Meant.{HungAt, Meant, Used, meant_used, meant_led}
use Rattle.resolve_pass_laws.specs.Room.{LinksLie, end_is, node_small}
use Rattle.resolve_pass_laws.specs.Linking.{wire_is, node_tag}
use Rattle.resolve_pass_laws.specs.Keeping.{Before, before_then, before_set, before_none, keep_left, keep_right, keep_before, keep_meant, KeptAt, KeptFrom, kept_before, kept_then}

module _ (s : List ℕ) (n : ℕ) (few : n ≤ 65536) (small : length s ≤ 4294967299) where
  -- under way: the tables mean h, the counts are right, and there is room for k more links
  pub record Passing (ws : List ℕ) (h : Hung) (p : Passed) (k : ℕ) : Type 0 where
    pub meant : Meant s n ws h
    pub keys : Keys h.trees
    pub low : Low n h.trees
    pub nodes : Nodes h.trees
    pub left : p.left ≡ length h.trees
    pub few_left : p.left + k ≤ 65535
    pub few_kept : p.kept + k ≤ 65535
    pub few_both : p.kept + p.left + k ≤ 65535
    pub room : 262144 ≤ length ws

  -- what a link, or links, come to: what was kept stands from the kept count on
  pub record Came (ws : List ℕ) (p : Passed) (k : ℕ) (x : Left Passed) (r : List (Tree × Tree) × Hung) : Type 0 where
    pub passing : Passing x.ws r.1 x.is k
    pub kept : x.is.kept ≡ p.kept + length r.0
    pub from : KeptFrom s n few x.ws p.kept r.0
    pub before : Before p.kept ws x.ws

  -- ---- numbers

  next_is : (x : ℕ) → x < 4294967295 → next x ≡ x + 1
  unfolding next
  next_is x l = omega arith

  less_is : (x : ℕ) → 0 < x → x < 4294967296 → less x + 1 ≡ x
  unfolding less
  less_is x l h = omega arith

  place_is : (x : ℕ) → x < 4294967296 → place x ≡ x
  unfolding place
  place_is x l = omega arith

  -- ---- one link

  module _ (ws : List ℕ) (h : Hung) (p : Passed) (k : ℕ) where
    -- nothing is kept, nothing hangs anew
    came_none : Passing ws h p (suc k) → Came ws p k (record { is = p; ws = ws }) ([], h)
    unfolding KeptFrom
    came_none g =
        let a = g.few_left in
        let b = g.few_kept in
        let ab = g.few_both in
        record {
          passing = record { meant = g.meant; keys = g.keys; low = g.low; nodes = g.nodes; left = g.left; few_left = omega arith; few_kept = omega arith; few_both = omega arith; room = g.room };
          kept = omega arith;
          from = tt;
          before = before_none p.kept ws;
        }

  kept_nothing : (ws : List ℕ) (i : ℕ) → KeptFrom s n few ws i []
  unfolding KeptFrom
  kept_nothing ws i = tt

  -- a link is kept whose trees lie at a and b
  add_came : (ws vs : List ℕ) (h : Hung) (p : Passed) (k l a b : ℕ) (t u : Tree) → Meant s n vs h → Keys h.trees → Low n h.trees → Nodes h.trees → l ≡ length h.trees → l + k ≤ 65535 → p.kept + l + suc k ≤ 65535
      → 262144 ≤ length vs → Before p.kept ws vs → Lies s n t a → Lies s n u b → Came ws p k (add_kept vs a b (record { kept = p.kept; left = l })) ((t, u) ∷ [], h)
  unfolding add_kept KeptFrom
  add_came ws vs h p k l a b t u m ky lo nd el fl fk room bf lt lu =
      let i = p.kept in
      let c = next_is i (omega arith) in
      let q = keep_before vs i a b (omega arith) in
      let w : length (keep vs i a b) ≡ length vs = q.long in
      record {
        passing = record {
          meant = keep_meant s n few vs h i a b m;
          keys = ky;
          low = lo;
          nodes = nd;
          left = el;
          few_left = fl;
          few_kept = omega arith;
          few_both = omega arith;
          room = omega arith;
        };
        kept = c;
        from = (record { left = rw (keep_left vs i a b (omega arith)) lt; right = rw (keep_right vs i a b (omega arith)) lu }, tt);
        before = before_then (omega arith) bf q;
      }

  -- a node at q meets wire w
  module _ (ws : List ℕ) (h : Hung) (p : Passed) (k w q : ℕ) (m : Name) (ts : Trees) (below : w < n) (lies : Lies s n (node m ts) q) (g : Passing ws h p (suc k)) where
    abbrev t : Tree
    t = node m ts

    abbrev vs : List ℕ
    vs = unlink ws w

    meet_some : (c : ℕ) → smaller ws w ≡ c → (hung vs c ≡ 0 → ⊥)
        → code.meet ws w q p ≡ add_kept (hang vs c 0) (hung vs c - 1) q (record { kept = p.kept; left = less p.left })
    unfolding code.meet
    meet_some c ec z = rw ec (sym (eq_no (hung vs c) 0 _ _ z refl))

    met : (c : ℕ) (r : Hung) → c < n → Meant s n vs r → r.trees ≡ h.trees → (o : Option Tree) → get r.trees c ≡ o → smaller ws w ≡ c
        → Came ws p k (code.meet ws w q p) (met_by t c r o)
    unfolding met_by code.meet led_by
    met c r lc mr et none e ec =
        let a = g.few_left in
        let b = g.few_kept in
        let ab = g.few_both in
        let room = g.room in
        let el = g.left in
        let d = meant_led s n few vs r mr c lc none e in
        let sm = node_small s n m ts q lies in
        let nq : next q ≡ q + 1 = next_is q (omega arith) in
        let us = hang vs c 0 in
        let len : length (hang us c (q + 1)) ≡ length ws = length-set us (65536 + c) (q + 1) ∙ length-set vs (65536 + c) 0 ∙ length-set ws w 0 in
        let ti = table_insert (HungAt s n) 65536 n us r.trees d.1.trees c (65536 + c) lc refl t (q + 1) (record { place = q; word = refl; lies = lies; node = tt }) in
        let li = table_keeps (LinkFor n) 0 n us r.links d.1.links (65536 + c) (q + 1) (λ v l y. absurd (omega arith)) in
        let nl : next p.left ≡ p.left + 1 = next_is p.left (omega arith) in
        rw (← eq_yes _ _ _ _ (ap (hung vs) ec ∙ d.0) refl, ec, nq, nl) (record {
          passing = record {
            meant = record { links = li; trees = ti };
            keys = keys_insert r.trees c t (rw et g.keys) e;
            low = low_insert n r.trees c t lc (rw et g.low);
            nodes = hang_insert IsNode r.trees c t (rw et g.nodes) tt;
            left = omega (arith, insert_one r.trees c t e, ap length et);
            few_left = omega arith;
            few_kept = omega arith;
            few_both = omega arith;
            room = omega arith;
          };
          kept = omega arith;
          from = kept_nothing (hang us c (q + 1)) p.kept;
          before = before_then (omega arith) (before_then (omega arith) (before_set p.kept ws w 0 (omega arith)) (before_set p.kept vs (65536 + c) 0 (omega arith))) (before_set p.kept us (65536 + c) (q + 1) (omega arith));
        })
    met c r lc mr et (some u) e ec =
        let a = g.few_left in
        let b = g.few_kept in
        let ab = g.few_both in
        let room = g.room in
        let el = g.left in
        let d = meant_led s n few vs r mr c lc (some u) e in
        let wd = d.0.word in
        let us = hang vs c 0 in
        let v = hung vs c in
        let len : length us ≡ length ws = length-set vs (65536 + c) 0 ∙ length-set ws w 0 in
        let one = remove_one r.trees c u (rw et g.keys) e in
        let le = ap length et in
        let nl : less p.left + 1 ≡ p.left = less_is p.left (omega arith) (omega arith) in
        let pl : v - 1 ≡ d.0.place = omega arith in
        let z : hung vs c ≡ 0 → ⊥ = λ y. absurd (omega arith) in
        rw (meet_some c ec z, pl)
        (add_came ws us (record { links = r.links; trees = remove r.trees c }) p k (less p.left) d.0.place q u t d.1 (keys_remove r.trees c (rw et g.keys)) (low_remove n r.trees c (rw et g.low)) (nodes_remove IsNode r.trees c (rw et g.nodes)) (omega arith) (omega arith) (omega arith) (omega arith)
        (before_then (omega arith) (before_set p.kept ws w 0 (omega arith)) (before_set p.kept vs (65536 + c) 0 (omega arith))) d.0.lies lies)

    meets : Came ws p k (code.meet ws w q p) (meet w t h)
    meets =
        let c = canonicalize h w in
        let u = meant_used s n few ws h g.meant w below in
        rw (meet_is w t h) (met c.0 c.1 u.less u.then (canonical_trees h w) (get c.1.trees c.0) refl u.is)

  -- ---- links

  pass_one_lem : (ws : List ℕ) (h : Hung) (p : Passed) (k : ℕ) (t u : Tree) (a b : ℕ) → Lies s n t a → Lies s n u b → Passing ws h p (suc k)
      → Came ws p k (code.pass_link ws s a b p) (pass_one t u h)
  unfolding pass_one code.pass_link
  pass_one_lem ws h p k (wire v) (wire w) a b x y g =
      let i = wire_is s n few v a x in
      let j = wire_is s n few w b y in
      rw (← eq_yes _ _ _ _ i.0 (eq_yes _ _ _ _ j.0 refl)) (came_none ws h p k g)
  pass_one_lem ws h p k (wire v) (node m ts) a b x y g =
      let i = wire_is s n few v a x in
      let sm = node_small s n m ts b y in
      rw (← eq_yes _ _ _ _ i.0 (eq_no _ _ _ _ (node_tag s n few m ts b y) refl), i.1, place_is b (omega arith)) (meets ws h p k v b m ts i.2 y g)
  pass_one_lem ws h p k (node m ts) (wire w) a b x y g =
      let j = wire_is s n few w b y in
      let sm = node_small s n m ts a x in
      rw (← eq_no _ _ _ _ (node_tag s n few m ts a x) (eq_yes _ _ _ _ j.0 refl), j.1, place_is a (omega arith)) (meets ws h p k w a m ts j.2 x g)
  pass_one_lem ws h p k (node m ts) (node q us) a b x y g =
      let sa = node_small s n m ts a x in
      let sb = node_small s n q us b y in
      let l = g.few_left in
      rw (← eq_no _ _ _ _ (node_tag s n few m ts a x) (eq_no _ _ _ _ (node_tag s n few q us b y) refl), place_is a (omega arith), place_is b (omega arith))
      (add_came ws ws h p k p.left a b (node m ts) (node q us) g.meant g.keys g.low g.nodes g.left (omega arith) g.few_both g.room (before_none p.kept ws) x y)

  pass_step : (t u : Tree) (ws : List ℕ) (p : Passed) (at k : ℕ) → Lies s n t at → Lies s n u (at + length (write_tree t)) → code.pass ws s at (suc k) p
      ≡ code.pass (code.pass_link ws s at (at + length (write_tree t)) p).ws s (at + length (write_tree t) + length (write_tree u)) k (code.pass_link ws s at (at + length (write_tree t)) p).is
  unfolding code.pass
  pass_step t u ws p at k lt lu = rw (end_is s n t at lt, end_is s n u (at + length (write_tree t)) lu)

  pass_end : (ws : List ℕ) (p : Passed) (at : ℕ) → code.pass ws s at 0 p ≡ record { is = p; ws = ws }
  unfolding code.pass
  pass_end ws p at = refl

  -- what one link and then others come to
  came_then : (ws : List ℕ) (p : Passed) (k : ℕ) (x y : Left Passed) (ls ks : List (Tree × Tree)) (h r : Hung) → Came ws p k x (ls, h) → Came x.ws x.is 0 y (ks, r)
      → Came ws p 0 y (ls ++ ks, r)
  came_then ws p k x y ls ks h r a b =
      let ka = a.kept in
      let kb = b.kept in
      let e : x.is.kept ≡ p.kept + length ls = ka in
      record {
        passing = b.passing;
        kept = rw (length-append ls ks) (omega arith);
        from = kept_then s n few y.ws p.kept ls ks
            (kept_before s n few x.ws y.ws p.kept x.is.kept ls (omega arith) b.before a.from) (rw e at b.from);
        before = before_then (omega arith) a.before b.before;
      }

  pub passes : (ps : List (Tree × Tree)) (ws : List ℕ) (h : Hung) (p : Passed) (at : ℕ) → LinksLie s n ps at → Passing ws h p (length ps)
      → Came ws p 0 (code.pass ws s at (length ps) p) (pass ps h)
  unfolding LinksLie
  passes [] ws h p at k g = rw (pass_end ws p at, pass_none h) (record {
    passing = g;
    kept = omega arith;
    from = kept_nothing ws p.kept;
    before = before_none p.kept ws;
  })
  passes (l ∷ ps) ws h p at k g =
      let b = at + length (write_tree l.0) in
      let e = b + length (write_tree l.1) in
      let r = pass_one l.0 l.1 h in
      let x = code.pass_link ws s at b p in
      let c = pass_one_lem ws h p (length ps) l.0 l.1 at b k.0 k.1 g in
      let more : pass (l ∷ ps) h ≡ (r.0 ++ (pass ps r.1).0, (pass ps r.1).1) = pass_more l.0 l.1 ps h in
      rw (pass_step l.0 l.1 ws p at (length ps) k.0 k.1, more)
      (came_then ws p (length ps) x (code.pass x.ws s e (length ps) x.is) r.0 (pass ps r.1).0 r.1 (pass ps r.1).1 c (passes ps x.ws r.1 x.is e k.2 c.passing))
