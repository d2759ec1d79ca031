-- What is left in vicious circles is listed by ascending wire, each tree as it stands: `circles-list`.
use Prim.Native.Nat.{ℕ, zero, suc, ◌+◌, ◌-◌, ◌%◌, ◌<◌, ◌≤◌}
use Rattle.std.specs.Prelude.{◌≡◌}
use Rattle.std.proofs.Math.Path.{refl, ap}
use Rattle.std.proofs.Common.{sym, ◌∙◌}
use Rattle.std.proofs.Math.Option.{Option, none, some}
use mathlib.Core.List.{List, [], ◌∷◌, ◌++◌, append_assoc, append-nil}
use native.Mathlib.Omega.{arith}
use Rattle.std.proofs.Math.ListN.{length, length-append}
use Rattle.words.specs.Choose.{eq_yes, eq_no}
use Rattle.net_file.specs.Lists.{concat_map}
use Rattle.net_file.specs.Values.{Tree, wire}
use Rattle.net_file.specs.Write.{be, write_tree, write_link}
use Rattle.net_file_laws.specs.Bytes.{length_be}
use Rattle.conversions.specs.Links.{get}
use Rattle.store.specs.Store.{store, store_none}
use Rattle.wire_tables.specs.Tables.{hung}
use Rattle.wire_tables_laws.specs.Table.{Said, Table}
use Rattle.wire_blocks.specs.Laws.{wires_from, Less, both, less}
use Rattle.wire_blocks.specs.Laws
use Rattle.resolve_pass.specs.Pass.{next}
use Rattle.resolve_walk.specs.Penned.{Inked}
use Rattle.resolve_walk.specs.Walk.{on}
use Rattle.resolve_net.specs.declared.Listed.{Listed}
use Rattle.resolve_net.specs.Plain.{copy_tree}
use Rattle.resolve_net.specs.Renamed.{list_tree, circles}
use Rattle.resolve_net.specs.Renamed as code
use Rattle.resolve_laws.specs.Resolve.{circle}
use Rattle.resolve_laws.specs.Sorted.{found, ascending}
use Rattle.spelt_trees.specs.Scanned.{wire_long}
use Rattle.resolve_walk_laws.specs.Meant.{HungAt}
use Rattle.resolve_walk_laws.specs.Places.{most, on_most, on_none, on_fits, on_on, store_append, store_length}
use Rattle.resolve_walk_laws.specs.Trees.{wire_bytes}
use Rattle.resolve_net_laws.specs.Copied.{copy_is}

-- a list of circles as bytes
abbrev pub bytes_of : List (ℕ × Tree) → List ℕ
bytes_of es = concat_map (λ e. write_link (circle e)) es

bytes_append : (es fs : List (ℕ × Tree)) → bytes_of (es ++ fs) ≡ bytes_of es ++ bytes_of fs
bytes_append [] fs = refl
bytes_append (e ∷ es) fs = rw (bytes_append es fs) (sym (append_assoc (write_link (circle e)) (bytes_of es) (bytes_of fs)))

-- circles listed behind c
pub record Lists (out : List ℕ) (c : Listed) (es : List (ℕ × Tree)) (x : Inked Listed) : Type 0 where
  pub count : x.is.count ≡ c.count + length es
  pub is : x.is.to ≡ on c.to (length (bytes_of es))
  pub stored : c.to + length (bytes_of es) ≤ length out → length out ≤ most → x.out ≡ store c.to (bytes_of es) out

lists_none : (out : List ℕ) (c : Listed) → c.to ≤ most → Lists out c [] (record { is = c; out = out })
lists_none out c low = record { count = omega arith; is = sym (on_none c.to low); stored = λ room small. store_none c.to out }

lists_then : (out : List ℕ) (c : Listed) (es fs : List (ℕ × Tree)) (x y : Inked Listed) → c.to ≤ most → Lists out c es x → Lists x.out x.is fs y → Lists out c (es ++ fs) y
lists_then out c es fs x y low a b =
    let xs = bytes_of es in
    let ys = bytes_of fs in
    let e = bytes_append es fs in
    let l = length-append xs ys in
    let ca = a.count in
    let cb = b.count in
    let m : length (bytes_of (es ++ fs)) ≡ length xs + length ys = ap length e ∙ l in
    record {
      count = rw (length-append es fs) (omega arith);
      is = b.is ∙ rw a.is (on_on c.to low (length xs) (length ys) ∙ ap (on c.to) (sym m));
      stored = λ room small.
          let i : c.to + (length xs + length ys) ≤ length out = omega arith in
          let ea : x.out ≡ store c.to xs out = a.stored (omega arith) small in
          let la : length x.out ≡ length out = rw ea (store_length out c.to xs (omega arith)) in
          let p : x.is.to ≡ c.to + length xs = a.is ∙ on_fits c.to low (length xs) (length out) (omega arith) small in
          let eb : y.out ≡ store x.is.to ys x.out = b.stored (omega arith) (omega arith) in
          eb ∙ rw (p, ea, e) (store_append out c.to xs ys i);
    }

module _ (s : List ℕ) (n : ℕ) (ws : List ℕ) (es : List (ℕ × Tree)) (few : n ≤ 65536) (table : Table (HungAt s n) 65536 n ws es) where
  -- a wire and its tree
  tree_listed : (w v : ℕ) (t : Tree) → HungAt s n t v → (out : List ℕ) (c : Listed) → c.to ≤ most → c.count < 65536 → Lists out c ((w, t) ∷ []) (list_tree s out v w c)
  unfolding list_tree write_link next
  tree_listed w v t k out c low few' =
      let wd = k.word in
      let p : v - 1 ≡ k.place = omega arith in
      let q = on c.to 3 in
      let o₁ = store (on c.to 1) (be 2 w) (store c.to (be 1 0) out) in
      let g = copy_is s n t k.place k.lies o₁ q in
      let lw = wire_long w in
      let whole : bytes_of ((w, t) ∷ []) ≡ write_tree (wire w) ++ write_tree t = append-nil (write_tree (wire w) ++ write_tree t) in
      let lb : length (bytes_of ((w, t) ∷ [])) ≡ 3 + length (write_tree t) = ap length whole ∙ length-append (write_tree (wire w)) (write_tree t) ∙ rw lw in
      rw p (record {
        count = omega arith;
        is = g.is ∙ on_on c.to low 3 (length (write_tree t)) ∙ ap (on c.to) (sym lb);
        stored = λ room small.
            let b = length_be 1 0 in
            let d = length_be 2 w in
            let r₁ : on c.to 1 ≡ c.to + length (be 1 0) = on_fits c.to low 1 (length out) (omega arith) small ∙ ap (λ j. c.to + j) (sym b) in
            let r₃ : q ≡ c.to + length (write_tree (wire w)) = on_fits c.to low 3 (length out) (omega arith) small ∙ ap (λ j. c.to + j) (sym lw) in
            let e₁ : o₁ ≡ store c.to (write_tree (wire w)) out = rw r₁ (store_append out c.to (be 1 0) (be 2 w) (omega arith) ∙ ap (λ bs. store c.to bs out) (sym (wire_bytes w))) in
            let l₁ : length o₁ ≡ length out = rw e₁ (store_length out c.to (write_tree (wire w)) (omega arith)) in
            let e₂ = g.stored (omega arith) (omega arith) in
            e₂ ∙ rw (r₃, e₁, whole) (store_append out c.to (write_tree (wire w)) (write_tree t) (omega arith));
      })

  -- what is left on wire w, if anything
  circle_lists : (w : ℕ) (o : Option Tree) → Said (HungAt s n) o (hung ws w) → (out : List ℕ) (c : Listed) → c.to ≤ most → c.count < 65536
      → Lists out c (found w o []) (code.circle s ws out w c)
  unfolding found code.circle
  circle_lists w none e out c low f = rw (← eq_yes (hung ws w) 0 _ _ e refl) (lists_none out c low)
  circle_lists w (some t) k out c low f =
      let wd = k.word in
      let z : hung ws w ≡ 0 → ⊥ = λ y. absurd (omega arith) in
      rw (← eq_no (hung ws w) 0 _ _ z refl) (tree_listed w (hung ws w) t k out c low f)

  found_append : (w : ℕ) (o : Option Tree) (l : List (ℕ × Tree)) → found w o [] ++ l ≡ found w o l
  unfolding found
  found_append w none l = refl
  found_append w (some t) l = refl

  found_most : (w : ℕ) (o : Option Tree) → length (found w o []) ≤ 1
  unfolding found
  found_most w none = omega arith
  found_most w (some t) = omega arith

  circles_step : (l : List ℕ) (out : List ℕ) (w : ℕ) (c : Listed) → w < 65536
      → circles s ws (w ∷ l) out c ≡ circles s ws l (code.circle s ws out w c).out (code.circle s ws out w c).is
  unfolding circles
  circles_step l out w c h = let a : w % 65536 ≡ w = omega arith in rw a

  circles_end : (out : List ℕ) (c : Listed) → circles s ws [] out c ≡ record { is = c; out = out }
  unfolding circles
  circles_end out c = refl

  pub circles_list : (k : ℕ) (out : List ℕ) (w : ℕ) (c : Listed) → w + k ≤ n → c.to ≤ most → c.count ≤ w → Lists out c (ascending es w k) (circles s ws (wires_from w k) out c)
  unfolding ascending wires_from
  circles_list zero out w c l low f = rw (circles_end out c) (lists_none out c low)
  circles_list (suc k) out w c l low f =
      let x = code.circle s ws out w c in
      let a = circle_lists w (get es w) (table.says w (omega arith)) out c low (omega arith) in
      let ca = a.count in
      let lx : x.is.to ≤ most = rw a.is (on_most c.to low (length (bytes_of (found w (get es w) [])))) in
      rw (circles_step (wires_from (suc w) k) out w c (omega arith), ← found_append w (get es w) (ascending es (suc w) k))
      (lists_then out c (found w (get es w) []) (ascending es (suc w) k) x (circles s ws (wires_from (suc w) k) x.out x.is) low a
      (circles_list k x.out (suc w) x.is (omega arith) lx (omega (arith, found_most w (get es w)))))

-- wires on which nothing is left need not be looked at
abbrev pub Bare : List ℕ → ℕ → Type 0
Bare ws v = hung ws (v % 65536) ≡ 0

module _ (s ws : List ℕ) where
  bare_none : (l out : List ℕ) (w : ℕ) (c : Listed) → Bare ws w → circles s ws l out c ≡ circles s ws (w ∷ l) out c
  unfolding circles code.circle
  bare_none l out w c z = let e : record { is = c; out = out } ≡ code.circle s ws out (w % 65536) c = eq_yes _ _ _ _ z refl in rw (← e)

  bare_both : (l m : List ℕ) (w : ℕ) → ((out : List ℕ) (c : Listed) → circles s ws l out c ≡ circles s ws m out c) → (out : List ℕ) (c : Listed)
      → circles s ws (w ∷ l) out c ≡ circles s ws (w ∷ m) out c
  unfolding circles
  bare_both l m w h out c = h _ _

  pub circles_less : {l m : List ℕ} → Less (Bare ws) l m → (out : List ℕ) (c : Listed) → circles s ws l out c ≡ circles s ws m out c
  circles_less Laws.none out c = refl
  circles_less (both t) out c = bare_both _ _ _ (circles_less t) out c
  circles_less (less z t) out c = circles_less t out c ∙ bare_none _ out _ c z

  -- none of those from a wire on
  less_rest : (w k : ℕ) → ((v : ℕ) → w ≤ v → v < w + k → Bare ws v) → Less (Bare ws) [] (wires_from w k)
  unfolding wires_from
  less_rest w zero z = Laws.none
  less_rest w (suc k) z = less (z w (omega arith) (omega arith)) (less_rest (suc w) k (λ v i j. z v (omega arith) (omega arith)))

  pub less_upto : (m k w : ℕ) → m ≤ k → ((v : ℕ) → w + m ≤ v → v < w + k → Bare ws v) → Less (Bare ws) (wires_from w m) (wires_from w k)
  unfolding wires_from
  less_upto zero k w h z = less_rest w k (λ v i j. z v (omega arith) j)
  less_upto (suc m) zero w h z = absurd (omega arith)
  less_upto (suc m) (suc k) w h z = both (less_upto m k (suc w) (omega arith) (λ v i j. z v (omega arith) (omega arith)))
