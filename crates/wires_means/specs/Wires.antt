-- One wire: a port's word is the port across until the wire is met, and from then on its number and 2,147,483,648.
use Rattle.std.specs.Prelude.{ℕ, ◌+◌, ◌*◌, ◌-◌, ◌%◌, ◌<◌, ◌≤◌, ◌≡◌, ◌≢◌, ◌⊎◌, Bool, true, List, [], ◌∷◌, ◌++◌}
use Rattle.std.proofs.Math.Path.{refl, sym, ap}
use Rattle.std.proofs.Common.{◌∙◌, inl, inr, get_or-set_same}
use Rattle.std.proofs.Math.Bool.{false, cond}
use Rattle.std.proofs.Math.Option.{some}
use mathlib.Core.List.Memᴰ
use Rattle.std.proofs.Math.ListN.{length, get_or, set, length-set, length-append}
use Rattle.std.proofs.Math.Seq.{get_or-set_other}
use native.Mathlib.Omega.{arith}
use Rattle.words.specs.Choose.{lt_yes, lt_no, eq_yes, eq_no}
use Rattle.words.specs.Left.{Left}
use Rattle.layout.specs.Layout.{across}
use Rattle.definitions.specs.Lists.{place}
use Rattle.definitions.specs.Nets
use Rattle.definitions.specs.Nets.{Port, Graph, same_port, arity, follow}
use Rattle.definitions.specs.Finish.{wire_at, wires_met, wire_number}
use Rattle.join_laws.specs.Ports.{same_port_lem, port_discrete, same_port_true, same_port_self, Real}
use Rattle.script_laws.specs.Tidy.{WellWired}
use Rattle.rule_laws.specs.Places.{across_follow, follow_real}
use Rattle.finish_laws.specs.Wires.{wire_across, one_number}
use Rattle.finish_laws.specs.Firsts.{place_below}
use Rattle.means.specs.Means.{number}
use Rattle.means.specs.Frame.{Rest, rest_set, rest_trans}
use Rattle.write_nodes.specs.Nodes.{numbered, wire_number_words, after_wire}
use Rattle.wires_means.specs.Met.{met, meet, meet_old, meet_new, place_front, place_new, met_self, met_other, Front, front_place, front_longer}

-- nodes of a graph of N slots: their wires stay among them
pub record Region (g : Graph) (N : ℕ) (D : ℕ → Type 0) : Type 0 where
  pub wired : WellWired g
  pub closed : (p : Port) → D p.node → Real g p → D (follow g p).node
  pub few : (n : ℕ) → arity g n ≤ 16
  pub inside : (n : ℕ) → D n → n < N
  pub small : N ≤ 4096

-- a port's word where the wires d are met
abbrev pub port_word : Graph → List Port → Port → ℕ
port_word g d p = cond (met d (wire_at g p)) (2147483648 + wire_number g d p) (number (follow g p))

-- all ports of the nodes D say so
abbrev pub Numbered : Graph → (ℕ → Type 0) → List Port → List ℕ → Type 0
Numbered g D d ws = (p : Port) → D p.node → Real g p → across ws (number p) ≡ port_word g d p

-- all words but those of the ports of the nodes D
abbrev pub OutPorts : (ℕ → Type 0) → ℕ → Type 0
OutPorts D i = (n j : ℕ) → D n → j < 16 → i ≢ 5184 + (32 * n + (8 + j))

-- what a wire's number leaves: where the wires d were met, of all wires `whole`
pub record WireIs (g : Graph) (D : ℕ → Type 0) (d whole : List Port) (ws : List ℕ) (p : Port) (x : Left ℕ) : Type 0 where
  pub is : x.is ≡ wire_number g whole p
  pub after : after_wire (length d) x.is ≡ length (meet d (wire_at g p))
  pub ports : Numbered g D (meet d (wire_at g p)) x.ws
  pub rest : Rest (OutPorts D) ws x.ws

-- two ports of one wire are one, or across from each other
one_wire : (g : Graph) → WellWired g → (p q : Port) → Real g p → Real g q → wire_at g p ≡ wire_at g q → (p ≡ q) ⊎ (follow g p ≡ q)
unfolding wire_number
one_wire g w p q a b e =
    let ids = p.node ∷ q.node ∷ [] in
    go ((one_number g w ids p q (Memᴰ.head refl, a) (Memᴰ.tail (Memᴰ.head refl), b)).0 (ap (λ (x : Port). place (same_port x) (wires_met g ids)) e))
  where
    go : (p ≡ q) ⊎ (Nets.across g p ≡ some q) → (p ≡ q) ⊎ (follow g p ≡ q)
    go (inl h) = inl h
    go (inr h) = inr (across_follow g w p q h)

module _ {g : Graph} {N : ℕ} {D : ℕ → Type 0} (r : Region g N D) (ws : List ℕ) (d whole : List Port) (few : length whole < 2147483648) (long : 5184 + 32 * N ≤ length ws)
    (m : Numbered g D d ws) (p : Port) (mine : D p.node) (real : Real g p) (front : Front (meet d (wire_at g p)) whole) where
  -- a wire that was met
  wire_old : met d (wire_at g p) ≡ true → WireIs g D d whole ws p (wire_number_words ws (number p) (length d))
  unfolding wire_number_words after_wire wire_number
  wire_old t =
      let e : across ws (number p) ≡ 2147483648 + place (same_port (wire_at g p)) d = m p mine real ∙ ap (λ (b : Bool). cond b (2147483648 + place (same_port (wire_at g p)) d) (number (follow g p))) t in
      let l : record { is = across ws (number p) - 2147483648; ws = ws } ≡ wire_number_words ws (number p) (length d) = lt_no _ _ _ _ (omega arith) refl in
      let s = meet_old d (wire_at g p) t in
      let below = place_below same_port same_port_true same_port_self (wire_at g p) d t in
      let same : place (same_port (wire_at g p)) whole ≡ place (same_port (wire_at g p)) d = front_place (rw s at front) (wire_at g p) t in
      rw (← l) (record {
        is = omega arith;
        after = rw s (sym (eq_no _ _ _ _ (omega arith) refl));
        ports = rw s m;
        rest = record { long = refl; same = λ i o. refl };
      })

  -- ports have their own words
  apart : (o q : Port) → Real g o → Real g q → o ≢ q → 5184 + number o ≢ 5184 + number q
  apart o q a b n h = let x = r.few o.node in let y = r.few q.node in n (same_port_lem o q (omega arith) (omega arith))

  -- a port that is neither end of the new wire says what it said
  other : (o : Port) → Real g o → o ≢ follow g p → o ≢ p → port_word g d o ≡ port_word g (d ++ wire_at g p ∷ []) o
  unfolding wire_number
  other o real_o n k = go (met d (wire_at g o)) refl
    where
      differ : same_port (wire_at g o) (wire_at g p) ≡ false
      differ = never (same_port (wire_at g o) (wire_at g p)) refl
        where
          absent : (p ≡ o) ⊎ (follow g p ≡ o) → ⊥
          absent (inl e) = k (sym e)
          absent (inr e) = n (sym e)

          never : (t : Bool) → same_port (wire_at g o) (wire_at g p) ≡ t → t ≡ false
          never true e = absurd (absent (one_wire g r.wired p o real real_o (sym (same_port_true (wire_at g o) (wire_at g p) e))))
          never false e = refl

      word : List Port → Bool → ℕ
      word c t = cond t (2147483648 + place (same_port (wire_at g o)) c) (number (follow g o))

      go : (t : Bool) → met d (wire_at g o) ≡ t → word d (met d (wire_at g o)) ≡ word (d ++ wire_at g p ∷ []) (met (d ++ wire_at g p ∷ []) (wire_at g o))
      go true e = rw (met_other (wire_at g o) (wire_at g p) d differ, e) (ap (λ (k : ℕ). 2147483648 + k) (sym (place_front (wire_at g o) d (wire_at g p ∷ []) e)))
      go false e = rw (met_other (wire_at g o) (wire_at g p) d differ, e)

  -- a wire at first meeting
  wire_first : met d (wire_at g p) ≡ false → WireIs g D d whole ws p (wire_number_words ws (number p) (length d))
  unfolding wire_number_words after_wire wire_number numbered
  wire_first t =
      let w = r.wired in
      let q = follow g p in
      let x = wire_at g p in
      let e : across ws (number p) ≡ number q = m p mine real ∙ ap (λ (b : Bool). cond b (2147483648 + place (same_port x) d) (number q)) t in
      let here = r.inside p.node mine in
      let there = r.inside q.node (r.closed p mine real) in
      let low = r.few p.node in
      let low' = r.few q.node in
      let real' = follow_real g w p real in
      let small = r.small in
      let v = (2147483648 + length d) % 4294967296 in
      let w1 = set ws (5184 + number p) v in
      let w2 = set w1 (5184 + number q) v in
      let l : record { is = length d; ws = set w1 (5184 + across ws (number p)) v } ≡ wire_number_words ws (number p) (length d) = lt_yes _ _ _ _ (omega arith) refl in
      let s = meet_new d x t in
      let f : Front (d ++ x ∷ []) whole = rw s at front in
      let longer = front_longer f in
      let size = length-append d (x ∷ []) in
      let ev : v ≡ 2147483648 + length d = omega arith in
      let at : place (same_port x) (d ++ x ∷ []) ≡ length d = place_new x d t in
      let same : place (same_port x) whole ≡ length d = front_place f x (met_self x d) ∙ at in
      let long1 : length w1 ≡ length ws = length-set ws (5184 + number p) v in
      let word : port_word g (d ++ x ∷ []) p ≡ v = ap (λ (b : Bool). cond b (2147483648 + place (same_port x) (d ++ x ∷ [])) (number q)) (met_self x d) ∙ rw (at, ev) in
      let word' : port_word g (d ++ x ∷ []) q ≡ v
      = rw (wire_across g w p real) (ap (λ (b : Bool). cond b (2147483648 + place (same_port x) (d ++ x ∷ [])) (number (follow g q))) (met_self x d) ∙ rw (at, ev)) in
      rw (← l) (record {
        is = sym same;
        after = rw s (sym (eq_yes _ _ _ _ refl refl) ∙ (let z : (length d + 1) % 4294967296 ≡ length (d ++ x ∷ []) = omega arith in z));
        ports = rw (s, e) (λ o mine_o real_o. go o mine_o real_o (port_discrete o q) (port_discrete o p) v word word' (get_or-set_same w1 (5184 + number q) v 0 (omega arith))
            (get_or-set_same ws (5184 + number p) v 0 (omega arith)));
        rest = rw e (rest_trans (rest_set (OutPorts D) ws (5184 + number p) v (λ i o. o p.node p.index mine (omega arith)))
            (rest_set (OutPorts D) w1 (5184 + number q) v (λ i o. o q.node q.index (r.closed p mine real) (omega arith))));
      })
    where
      go : (o : Port) → D o.node → Real g o → Dec (o ≡ follow g p) → Dec (o ≡ p) → (v : ℕ) → port_word g (d ++ wire_at g p ∷ []) p ≡ v → port_word g (d ++ wire_at g p ∷ []) (follow g p) ≡ v
          → get_or (set (set ws (5184 + number p) v) (5184 + number (follow g p)) v) (5184 + number (follow g p)) 0 ≡ v → get_or (set ws (5184 + number p) v) (5184 + number p) 0 ≡ v
          → get_or (set (set ws (5184 + number p) v) (5184 + number (follow g p)) v) (5184 + number o) 0 ≡ port_word g (d ++ wire_at g p ∷ []) o
      go o mine_o real_o (yes h) c v wp wq gq gp = rw h (gq ∙ sym wq)
      go o mine_o real_o (no n) c v wp wq gq gp =
          get_or-set_other (set ws (5184 + number p) v) (5184 + number (follow g p)) (5184 + number o) v 0 (apart o (follow g p) real_o (follow_real g r.wired p real) n)
          ∙ via c
        where
          via : Dec (o ≡ p) → get_or (set ws (5184 + number p) v) (5184 + number o) 0 ≡ port_word g (d ++ wire_at g p ∷ []) o
          via (yes h) = rw h (gp ∙ sym wp)
          via (no k) =
              get_or-set_other ws (5184 + number p) (5184 + number o) v 0 (apart o p real_o real k) ∙ m o mine_o real_o ∙ other o real_o n k

  pub wire_number_is : WireIs g D d whole ws p (wire_number_words ws (number p) (length d))
  wire_number_is = go (met d (wire_at g p)) refl
    where
      go : (t : Bool) → met d (wire_at g p) ≡ t → WireIs g D d whole ws p (wire_number_words ws (number p) (length d))
      go true e = wire_old e
      go false e = wire_first e
