-- A turn on the words is a turn of level Engine, where a visit is, and what follows a visit.
use Rattle.std.specs.Prelude.{ℕ, ◌+◌, ◌-◌, ◌<◌, ◌≤◌, ◌≡◌, Bool, List, [], ◌∷◌, ◌++◌, get_or, set}
use Rattle.std.proofs.Math.Path.{refl, sym, ap}
use Rattle.std.proofs.Common.{◌∙◌, subst, arith}
use Rattle.std.proofs.Math.Bool.{true, false}
use Rattle.std.proofs.Math.Option.{Option, none, some}
use Rattle.net_file.specs.Lists.{Result, ok, refuse, bit}
use Rattle.net_file.specs.Values.{Name}
use Rattle.definitions.specs.Lists.{◌>>=◌, is_some, or_else}
use Rattle.definitions.specs.Nets.{at, filled}
use Rattle.definitions.specs.State.{Engine, graph_of, with_slots, with_dirty, with_stale, with_mark, fewer}
use Rattle.definitions.specs.Books.{is_dirty, finish_edit_net}
use Rattle.definitions.specs.Visit
use Rattle.definitions.specs.Visit.{Visited, acted, passed}
use Rattle.definitions.specs.Run
use Rattle.definitions.specs.Run.{with_items, spent}
use Rattle.join_laws.specs.Ports.{Frame, frame, no_frame, net_frame, filled_frame}
use Rattle.words.specs.Choose.{eq_yes, eq_no}
use Rattle.words.specs.Left.{Left}
use Rattle.layout.specs.Layout.{less, dirty_length, dirty_stale, node_word, set_node_word, dirty_at}
use Rattle.edits.specs.Edits.{finish_edit_words}
use Rattle.tried.specs.Tries.{on_tried}
use Rattle.tried.specs.declared.Tried.{Tried}
use Rattle.tried.specs.declared.Tried.TheVariants.{Passed, Acted, Refused}
use Rattle.visit.specs.Visits.{visit}
use Rattle.run_slice.specs.Run.{leave, count_step, live_turn, entry_turn, turn}
use Rattle.means.specs.Means.{SlotIs, Means}
use Rattle.run_means.specs.Taken.{last_is, pop_means}
use Rattle.run_means.specs.Run.{Tells}

-- what a visit tells; where a rule acted, of the words once the step is counted and the dead nodes are gone
abbrev pub Visits : (List ℕ → Engine → Type 0) → Engine → Left Tried → Result Visited → Type 0
Visits R e l (refuse r) = l.is ≡ Refused r
Visits R e l (ok (passed e')) = (l.is ≡ Passed) × R l.ws e' × (e'.steps ≡ e.steps)
Visits R e l (ok (acted e')) = (l.is ≡ Acted) × R (finish_edit_words (count_step l.ws)) e' × (e'.steps ≡ e.steps + 1)

-- the words once the last entry is taken
abbrev pub popped : List ℕ → List ℕ
popped ws = set ws 14 (less (dirty_length ws))

-- what is asked: S holds between turns, R while a node of net k is visited
pub record Visiting (Named : ℕ → Name → Type 0) (file sets : List ℕ) (S : List ℕ → Engine → Type 0) (R : ℕ → List ℕ → Engine → Type 0) : Type 0 where
  pub means : (ws : List ℕ) (e : Engine) → S ws e → Means Named ws e
  -- an entry is a slot's number, and a dirty one is a node's
  pub inside : (ws : List ℕ) (e : Engine) → S ws e → (xs : List ℕ) (n : ℕ) → e.dirty.items ≡ xs ++ n ∷ [] → n < e.pools.nodes
  pub there : (ws : List ℕ) (e : Engine) → S ws e → (n : ℕ) → is_dirty e n ≡ true → filled (graph_of e) n ≡ true
  -- a stale entry is dropped
  pub dropped : (ws : List ℕ) (e : Engine) → S ws e → (xs : List ℕ) (n : ℕ) → e.dirty.items ≡ xs ++ n ∷ [] → is_dirty e n ≡ false
      → S (set (popped ws) 16 (less (dirty_stale (popped ws)))) (with_dirty (with_stale (e.dirty.stale - 1) (with_items xs e).dirty) (with_items xs e))
  -- a live one is visited
  pub visited : (ws : List ℕ) (e : Engine) → S ws e → (xs : List ℕ) (n : ℕ) → e.dirty.items ≡ xs ++ n ∷ [] → is_dirty e n ≡ true → spent e.limit ≡ false
      → Visits (R (at (graph_of e) n).net) e (visit (set_node_word (popped ws) n 2 0) file sets ((at (graph_of e) n).net + 1) n) (Visit.visit n (with_mark n false (with_items xs e)))
  -- and left
  pub left : (k : ℕ) (ws : List ℕ) (e : Engine) → R k ws e → S (leave ws (k + 1)) (finish_edit_net k (fewer k e)) × ((finish_edit_net k (fewer k e)).steps ≡ e.steps)

-- the word that says the net of a node
net_word_is : (Named : ℕ → Name → Type 0) (ws : List ℕ) (e : Engine) → Means Named ws e → (n : ℕ) → n < e.pools.nodes → filled (graph_of e) n ≡ true
    → node_word ws n 0 ≡ (at (graph_of e) n).net + 1
net_word_is Named ws e m n h f = rw (net_frame (graph_of e) n) (go (frame (graph_of e) n) refl (m.nodes.slot n h))
  where
    go : (o : Option Frame) → frame (graph_of e) n ≡ o → SlotIs Named ws n o → node_word ws n 0 ≡ (or_else o no_frame).net + 1
    go none q s = absurd (let b = sym f ∙ filled_frame (graph_of e) n ∙ ap (λ (o : Option Frame). is_some o) q in let z : ◌≡◌ {A = ℕ} 0 1 = cc in omega arith)
    go (some x) q s = s.0

module _ (Named : ℕ → Name → Type 0) (file sets : List ℕ) (S : List ℕ → Engine → Type 0) (R : ℕ → List ℕ → Engine → Type 0) (v : Visiting Named file sets S R)
    (ws : List ℕ) (e : Engine) (i : S ws e) (xs : List ℕ) (n : ℕ) (last : e.dirty.items ≡ xs ++ n ∷ []) (over : spent e.limit ≡ false) where
  m : Means Named (popped ws) (with_items xs e)
  m = pop_means Named ws e (v.means ws e i) xs n last

  -- the words' ways, by the mark
  entry : turn ws file sets ≡ entry_turn (popped ws) file sets n
  unfolding turn
  entry = ap (λ (k : ℕ). entry_turn (popped ws) file sets k) (last_is Named ws e (v.means ws e i) xs n last)

  mark_is : (b : Bool) → is_dirty e n ≡ b → node_word (popped ws) n 2 ≡ bit b
  unfolding is_dirty with_items with_dirty
  mark_is b h = m.marks.mark n (v.inside ws e i xs n last) ∙ ap bit h

  stale : is_dirty e n ≡ false → turn ws file sets ≡ record { is = Passed; ws = set (popped ws) 16 (less (dirty_stale (popped ws))) }
  unfolding entry_turn
  stale h = entry ∙ sym (eq_no (node_word (popped ws) n 2) 1 _ _ (λ q. let b = mark_is false h in omega arith) refl)

  live : is_dirty e n ≡ true → turn ws file sets ≡ live_turn (popped ws) file sets n
  unfolding entry_turn
  live h = entry ∙ sym (eq_yes (node_word (popped ws) n 2) 1 _ _ (mark_is true h) refl)

  -- its net, and what the words' visit leaves
  abbrev k : ℕ
  k = (at (graph_of e) n).net

  abbrev l : Left Tried
  l = visit (set_node_word (popped ws) n 2 0) file sets (k + 1) n

  live_is : is_dirty e n ≡ true → live_turn (popped ws) file sets n
      ≡ on_tried l.is (record { is = Passed; ws = leave l.ws (k + 1) }) (record { is = Acted; ws = leave (finish_edit_words (count_step l.ws)) (k + 1) }) (λ r. record { is = Refused r; ws = l.ws })
  unfolding live_turn with_items with_dirty
  live_is h = rw (net_word_is Named (popped ws) (with_items xs e) m n (v.inside ws e i xs n last) (v.there ws e i n h))

  visit_tells : is_dirty e n ≡ true → (r : Result Visited) → Visits (R k) e l r → Tells S e (turn ws file sets) (r >>= λ x. ok (Run.leave k x))
  unfolding on_tried Run.leave
  visit_tells h (refuse r) t = rw (live h, live_is h, t)
  visit_tells h (ok (passed e')) t = let f = v.left k l.ws e' t.1 in rw (live h, live_is h, t.0) (refl, f.0, f.1 ∙ t.2)
  visit_tells h (ok (acted e')) t = let f = v.left k (finish_edit_words (count_step l.ws)) e' t.1 in rw (live h, live_is h, t.0) (refl, f.0, f.1 ∙ t.2)

  pub turn_tells : Tells S e (turn ws file sets) (Run.turn n (with_items xs e))
  unfolding Run.turn is_dirty with_items with_dirty
  turn_tells = go (is_dirty e n) refl
    where
      go : (b : Bool) → is_dirty e n ≡ b → Tells S e (turn ws file sets) (elim b as (λ _. Result Visited) [
        | true ↦ Visit.visit n (with_mark n false (with_items xs e)) >>= λ x. ok (Run.leave k x)
        | false ↦ ok (passed (with_dirty (with_stale (e.dirty.stale - 1) (with_items xs e).dirty) (with_items xs e)))
      ])
      go true h = visit_tells h (Visit.visit n (with_mark n false (with_items xs e))) (v.visited ws e i xs n last h over)
      go false h = rw (stale h) (refl, v.dropped ws e i xs n last h, refl)
