-- `begin-is-engine`: begin on lent words and bytes answers what level Engine's does, and leaves both as they were, zeros, or the run
-- that was loaded.
use Rattle.std.specs.Prelude.{Ok, Err, ℕ, ◌+◌, ◌-◌, ◌≤◌, ◌≡◌, Bool, true, false, ◌&&◌, List, length, take, drop}
use Rattle.std.proofs.Math.Path.{refl, ap, subst}
use Rattle.std.proofs.Common.{sym, ◌∙◌, arith, take_all, leb-true, leb-false}
use Rattle.std.proofs.Math.Option.{Option}
use Rattle.std.proofs.Math.Dec.{leb}
use Rattle.net_file.specs.Lists.{Result, ok, refuse, need}
use Rattle.net_file.specs.Values.{FlatNet, File}
use Rattle.net_file.specs.Checks.{flat, read, write}
use Rattle.net_file_laws.specs.Bytes.{Bytes}
use Rattle.net_file_laws.proofs.RoundTrip.{flat_write_read}
use Rattle.refusals.specs.Numbers.{by}
use Rattle.refusals.specs.Told.{Numbered}
use Rattle.net_check.specs.Verdict.{verdict, read_numbered}
use Rattle.definitions.specs.State.{Pools, Engine}
use Rattle.definitions.specs.Load.{load}
use Rattle.definitions.specs.Calls
use Rattle.definitions.specs.Calls.{Held, unchanged, zeros, image, Outcome, pools_fit, accept}
use Rattle.fuel_laws.specs.Reached.{loads}
use Rattle.words.specs.Choose.{lt_no}
use Rattle.put.specs.Written.{part}
use Rattle.put.specs.Laws.{take_put_in, drop_put_in}
use Rattle.store.specs.Store.{store, between}
use Rattle.lent.specs.Lent.{Lent, words_of, room, zero_words, zero_bytes}
use Rattle.lent.specs.declared.Pools as Lent
use Rattle.lent.specs.declared.Answer.TheVariants.{Done, Refused}
use Rattle.begin.specs.Begin.{start, loaded, load_file, checked_file, begin}
use Rattle.begin.specs.Ways.{file_loaded, load_refused, file_accepted, file_refused, begin_checks, begin_short, begin_no_room}
use Rattle.head_kept.specs.Load.{load_head}
use Rattle.start_means.specs.Start.{pools_of, start_tidy}
use Rattle.loaded_means.specs.Held.{LoadEnds}
use Rattle.optimize_means.specs.Room.{space, room_is, room_ranges}
use Rattle.optimize_means.specs.Optimized.{loaded_holds}
use Rattle.calls_means.specs.Carries.{Carries, Outcomes}

-- a begin's answer has no number: 0
abbrev pub none_told : Unit {0} → ℕ
none_told _ = 0

whole_file : (s : List ℕ) → between s 0 (length s) ≡ s
unfolding between part
whole_file s = sym (lt_no (length s) (length s) _ _ (omega arith) refl) ∙ take_all (length s - 0) s (omega arith)

-- the file's bytes are the first
stored_first : (s bs : List ℕ) → length s ≤ length bs → take (length s) (store 0 (between s 0 (length s)) bs) ≡ s
stored_first s bs h =
    let z : 0 + length s ≡ length s = omega arith in
    ap (λ (t : List ℕ). take (length s) (store 0 t bs)) (whole_file s) ∙ subst (λ (n : ℕ). take n (store 0 s bs) ≡ s) z (take_put_in bs 0 s (omega arith))

-- and the others stay
stored_past : (s bs : List ℕ) → length s ≤ length bs → drop (length s) (store 0 (between s 0 (length s)) bs) ≡ drop (length s) bs
stored_past s bs h =
    let z : 0 + length s + 0 ≡ length s = omega arith in
    ap (λ (t : List ℕ). drop (length s) (store 0 t bs)) (whole_file s) ∙ subst (λ (n : ℕ). drop n (store 0 s bs) ≡ drop n bs) z (drop_put_in bs 0 s (omega arith) 0)

-- what is left of an accepted file, by what level Engine loads
abbrev Loads : ℕ → File FlatNet → Result Engine → Outcome (Unit {0})
Loads n f r = elim r as (λ _. Outcome (Unit {0})) [ refuse k ↦ (refuse k, zeros n) | ok e ↦ (ok tt, image (record { file = f; engine = e })) ]

-- and of a file, by whether it is accepted
abbrev Begins : Pools → ℕ → Result (File FlatNet) → Outcome (Unit {0})
Begins p n r = elim r as (λ _. Outcome (Unit {0})) [ refuse k ↦ (refuse k, unchanged) | ok f ↦ Loads n f (load p f) ]

module _ (q : Lent.Pools) (ws bs s : List ℕ) (is : Bytes s) where
  -- a refusal that leaves all as it was
  refused : (n : ℕ) → Outcomes none_told q ws bs (record { is = Refused n; ws = ws; bs = bs }) (refuse n, unchanged)
  refused n = (refl, (refl, refl))

  module _ (f : File FlatNet) (accepted : read flat s ≡ ok f) (has : room q ws ≡ true) (fits : length s ≤ length bs) where
    -- the words and bytes after a load carry the run that was loaded
    loaded_carries : (e : Engine) → load (pools_of q) f ≡ ok e → LoadEnds s f (loaded q ws s) (ok e)
        → Carries q (loaded q ws s).ws (store 0 (between s 0 (length s)) bs) (record { file = f; engine = e })
    unfolding loaded
    loaded_carries e i t =
        let r = room_ranges q ws has in
        let tidy = start_tidy q ws s is f accepted r.2 r.1.few_nodes r.1.few_entries r.1.few_waits in
        record {
          s = s;
          are = is;
          reads = accepted;
          kept = stored_first s bs fits;
          fit = r.0;
          reached = loads i;
          holds = t.1;
          mark = load_head (start q ws s) s 0 (omega arith) ∙ tidy.mark;
          long = load_head (start q ws s) s 4 (omega arith) ∙ tidy.file;
        }

    past : drop (length (write flat f)) (store 0 (between s 0 (length s)) bs) ≡ drop (length (write flat f)) bs
    past =
        subst (λ (l : List ℕ). drop (length l) (store 0 (between s 0 (length s)) bs) ≡ drop (length l) bs) (sym (flat_write_read s is f accepted).bytes) (stored_past s bs fits)

    -- 9 and 10 leave zeros
    file_begins : Outcomes none_told q ws bs (load_file q ws bs s) (Loads (length s) f (load (pools_of q) f))
    file_begins =
        let r = room_ranges q ws has in
        go (load (pools_of q) f) refl (loaded_holds s is f accepted q r.0 ws r.2 r.1.few_nodes r.1.few_entries r.1.few_waits)
      where
        go : (r : Result Engine) → load (pools_of q) f ≡ r → LoadEnds s f (loaded q ws s) r → Outcomes none_told q ws bs (load_file q ws bs s) (Loads (length s) f r)
        go (refuse n) i t =
            let l = loaded q ws s in
            let y : ◌≡◌ {A = Lent} (record { is = Refused l.is; ws = zero_words q l.ws; bs = zero_bytes (length s) bs }) (load_file q ws bs s)
            = load_refused q ws l.ws _ bs _ s l.is (length s) refl refl refl (λ z. let a = t.0 in let b = t.1 in omega arith) refl refl in
            subst (λ (x : Lent). Outcomes none_told q ws bs x (refuse n, zeros (length s))) y (ap Refused t.0, (l.ws, refl, refl))
        go (ok e) i t =
            let l = loaded q ws s in
            let y : ◌≡◌ {A = Lent} (record { is = Done 0; ws = l.ws; bs = store 0 (between s 0 (length s)) bs }) (load_file q ws bs s)
            = file_loaded q ws l.ws bs _ s l.is (length s) refl refl refl t.0 refl in
            subst (λ (x : Lent). Outcomes none_told q ws bs x (ok tt, image (record { file = f; engine = e }))) y
            (refl, (loaded_carries e i t, past))

  -- 2 to 8
  checked_begins : room q ws ≡ true → length s ≤ length bs → (r : Result (File FlatNet)) → read flat s ≡ r
      → Outcomes none_told q ws bs (checked_file q ws bs s) (Begins (pools_of q) (length s) r)
  unfolding verdict
  checked_begins h l (refuse n) e =
      subst (λ (x : Lent). Outcomes none_told q ws bs x (refuse n, unchanged)) (file_refused q ws bs s (Err (by n)) (by n) n (ap verdict (sym e)) refl (sym (subst Numbered e (read_numbered flat s)))) (refused n)
  checked_begins h l (ok f) e =
      let x = load_file q ws bs s in
      subst (λ (y : Lent). Outcomes none_told q ws bs y (Loads (length s) f (load (pools_of q) f)))
      (file_accepted q ws x.ws bs x.bs s (Ok tt) x.is (ap verdict (sym e)) refl refl refl refl) (file_begins f e h l)

  -- 1
  all_begins : (t u : Bool) → room q ws ≡ t → leb (length s) (length bs) ≡ u → Outcomes none_told q ws bs (begin q ws bs s) (Begins (pools_of q) (length s) (need (t && u) 1 (read flat s)))
  all_begins false u h i = subst (λ (x : Lent). Outcomes none_told q ws bs x (refuse 1, unchanged)) (begin_no_room q ws bs s false (sym h) refl) (refused 1)
  all_begins true false h i =
      subst (λ (x : Lent). Outcomes none_told q ws bs x (refuse 1, unchanged)) (begin_short q ws bs s true (sym h) refl (leb-false (length s) (length bs) i)) (refused 1)
  all_begins true true h i =
      let x = checked_file q ws bs s in
      let l = leb-true (length s) (length bs) i in
      subst (λ (y : Lent). Outcomes none_told q ws bs y (Begins (pools_of q) (length s) (read flat s)))
      (begin_checks q ws x.ws bs x.bs s true x.is (sym h) refl l refl refl refl) (checked_begins h l (read flat s) refl)

  and_then : (a b c : Bool) → (a && (b && c)) ≡ ((a && b) && c)
  and_then true b c = refl
  and_then false b c = refl

  -- `begin-is-engine`
  pub begin_is_engine : (held : Option Held) → Outcomes none_told q ws bs (begin q ws bs s) (Calls.begin (space ws bs held) (pools_of q) s)
  unfolding Calls.begin accept words_of
  begin_is_engine held =
      let p = pools_fit (pools_of q) in
      let l = leb (words_of q) (length ws) in
      let u = leb (length s) (length bs) in
      let same : (p && (l && u)) ≡ (room q ws && u) = and_then p l u ∙ ap (λ (b : Bool). b && u) (sym (room_is q ws)) in
      subst (λ (t : Bool). Outcomes none_told q ws bs (begin q ws bs s) (Begins (pools_of q) (length s) (need t 1 (read flat s)))) (sym same)
      (all_begins (room q ws) u refl refl)
