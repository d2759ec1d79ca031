-- The nets by name: word 64 + name is the number of the included net of that name, and 0 where no included net has it.
use Rattle.std.specs.Prelude.{ℕ, zero, suc, ◌+◌, ◌<◌, ◌≤◌, ◌≡◌, ◌≢◌, ◌⊎◌, true, false, length, get_or, set, eqb}
use Rattle.std.proofs.Math.Path.{refl}
use Rattle.std.proofs.Common.{sym, ap, ◌∙◌, subst, inl, inr, true≢false, length-append, eqb-true, eq-eqb, arith}
use Rattle.std.proofs.Math.Option.{Option, none, some}
use mathlib.Core.List.Memᴰ
use mathlib.Core.List.{List, [], ◌∷◌, ◌++◌, Memᴰ}
use Rattle.std.proofs.Math.ListN.{length-set, get_or-map, get_or-append}
use Rattle.std.proofs.lemmas.List.{length-map}
use Rattle.std.proofs.Math.Seq.{get_or-set_same, get_or-set_other, get_or-append_seam}
use Rattle.std.proofs.Math.Decide.{dec_lt, ℕ_discrete}
use Rattle.words.specs.Choose.{if_lt, lt_yes, lt_no}
use Rattle.fields.specs.Fields.{be16}
use Rattle.layout.specs.Layout.{next, net_at_words, net_by_name}
use Rattle.load.specs.Load.{new_net_words}
use Rattle.definitions.specs.Lists.{find, from, up_to}
use Rattle.definitions.specs.Nets.{Home}
use Rattle.definitions.specs.State.{Engine, homes, net_at}
use Rattle.definitions.specs.Visit.{get_net}
use Rattle.load_laws.specs.Finds.{find_mem, find_none}
use Rattle.means.specs.Means.{no_net}
use Rattle.means.specs.Names.{net_word}
use Rattle.means.specs.Frame.{HeadWords, Keep}
use Rattle.load_means.specs.NewNet.{Spare}

-- what a number that no net has reads as
abbrev pub no_home : Home
no_home = record { name = 0; free = 0 }

-- the words call the nets by their names
pub record Called (ws : List ℕ) (hs : List Home) : Type 0 where
  pub low : (k : ℕ) → k < length hs → (get_or hs k no_home).name < 1024
  pub is : (k : ℕ) → k < length hs → get_or ws (64 + (get_or hs k no_home).name) 0 ≡ k + 1
  pub none : (n : ℕ) → n < 1024 → ((k : ℕ) → k < length hs → (get_or hs k no_home).name ≢ n) → get_or ws (64 + n) 0 ≡ 0

-- kept by all that writes elsewhere
pub called_keep : {ws w : List ℕ} {hs : List Home} → Keep (HeadWords 64 1024) ws w → Called ws hs → Called w hs
called_keep f c = record {
  low = c.low;
  is = λ k h. let l = c.low k h in f _ (omega arith) ∙ c.is k h;
  none = λ n h o. f _ (omega arith) ∙ c.none n h o;
}

-- no net is called
pub none_called : {ws : List ℕ} → ((i : ℕ) → 64 ≤ i → i < 1088 → get_or ws i 0 ≡ 0) → Called ws []
none_called z = record { low = λ k h. absurd (omega arith); is = λ k h. absurd (omega arith); none = λ n h o. z (64 + n) (omega arith) (omega arith) }

-- ---- one net more

module _ (ws : List ℕ) (hs : List Home) (file : List ℕ) (at : ℕ) (h : Home) (c : Called ws hs) (named : be16 file at ≡ h.name) (low : h.name < 1024)
    (new : (k : ℕ) → k < length hs → (get_or hs k no_home).name ≢ h.name) (count : get_or ws 7 0 ≡ length hs) (few : length hs < 256) (long : 5184 ≤ length ws) where
  pub size : length (hs ++ h ∷ []) ≡ suc (length hs)
  size = length-append hs (h ∷ []) ∙ omega arith

  pub next_is : next (get_or ws 7 0) ≡ length hs + 1
  next_is = omega arith

  pub w1 : List ℕ
  w1 = set ws 7 (length hs + 1)

  pub w2 : List ℕ
  w2 = set w1 (64 + h.name) (length hs + 1)

  pub w_is : new_net_words ws file at ≡ set w2 (net_at_words (length hs + 1) 0) h.name
  unfolding new_net_words w2 w1
  w_is = rw (next_is, named) refl

  -- the new net's name
  pub there : get_or (new_net_words ws file at) (64 + h.name) 0 ≡ length hs + 1
  unfolding w2 w1
  there =
      let a = length-set ws 7 (length hs + 1) in
      rw w_is (get_or-set_other w2 (net_at_words (length hs + 1) 0) (64 + h.name) h.name 0 (omega arith) ∙ get_or-set_same w1 (64 + h.name) (length hs + 1) 0 (omega arith))

  -- another name
  pub other : (n : ℕ) → n < 1024 → n ≢ h.name → get_or (new_net_words ws file at) (64 + n) 0 ≡ get_or ws (64 + n) 0
  unfolding w2 w1
  other n l d =
      rw w_is (get_or-set_other w2 (net_at_words (length hs + 1) 0) (64 + n) h.name 0 (omega arith) ∙ get_or-set_other w1 (64 + h.name) (64 + n) (length hs + 1) 0 (omega arith)
      ∙ get_or-set_other ws 7 (64 + n) (length hs + 1) 0 (omega arith))

  pub old_home : (k : ℕ) → k < length hs → get_or (hs ++ h ∷ []) k no_home ≡ get_or hs k no_home
  old_home k l = get_or-append hs (h ∷ []) no_home k l

  pub new_home : get_or (hs ++ h ∷ []) (length hs) no_home ≡ h
  new_home = get_or-append_seam hs h [] no_home

  pub new_net_called : Called (new_net_words ws file at) (hs ++ h ∷ [])
  new_net_called = record {
    low = λ k l. low_at k (rw size at l) (ℕ_discrete k (length hs));
    is = λ k l. is_at k (rw size at l) (ℕ_discrete k (length hs));
    none = λ n l o.
        let s = size in
        let d : n ≢ h.name = λ q. o (length hs) (omega arith) (ap (λ (x : Home). x.name) new_home ∙ sym q) in
        other n l d ∙ c.none n l (λ k i q. o k (omega arith) (ap (λ (x : Home). x.name) (old_home k i) ∙ q));
  }
    where
      low_at : (k : ℕ) → k < suc (length hs) → Dec (k ≡ length hs) → (get_or (hs ++ h ∷ []) k no_home).name < 1024
      low_at k l (yes d) = rw (d, new_home) low
      low_at k l (no d) = rw (old_home k (omega arith)) (c.low k (omega arith))

      is_at : (k : ℕ) → k < suc (length hs) → Dec (k ≡ length hs) → get_or (new_net_words ws file at) (64 + (get_or (hs ++ h ∷ []) k no_home).name) 0 ≡ k + 1
      is_at k l (yes d) = rw (d, new_home) there
      is_at k l (no d) =
          let i : k < length hs = omega arith in
          rw (old_home k i) (other (get_or hs k no_home).name (c.low k i) (new k i) ∙ c.is k i)

  -- the words of the nets after it are as they were
  pub new_net_spare : Spare ws (length hs) → Spare (new_net_words ws file at) (suc (length hs))
  unfolding w2 w1
  new_net_spare s i a b =
      rw w_is (get_or-set_other w2 (net_at_words (length hs + 1) 0) i h.name 0 (omega arith) ∙ get_or-set_other w1 (64 + h.name) i (length hs + 1) 0 (omega arith)
      ∙ get_or-set_other ws 7 i (length hs + 1) 0 (omega arith) ∙ s i (omega arith) b)

-- ---- a net found by its name

pub row_mem : (n k i : ℕ) → k ≤ i → i < k + n → Memᴰ i (from k n)
row_mem zero k i a b = absurd (omega arith)
row_mem (suc n) k i a b = go (ℕ_discrete i k) (λ e. row_mem n (suc k) i (omega arith) (omega arith))
  where
    go : Dec (i ≡ k) → (i ≢ k → Memᴰ i (from (suc k) n)) → Memᴰ i (k ∷ from (suc k) n)
    go (yes e) f = Memᴰ.head e
    go (no e) f = Memᴰ.tail (f e)

pub mem_row : (n k i : ℕ) → Memᴰ i (from k n) → (k ≤ i) × (i < k + n)
mem_row zero k i m = absurd (Memᴰ.not-nil m)
mem_row (suc n) k i m = go (Memᴰ.cases_cons m) (λ q. mem_row n (suc k) i q)
  where
    go : (i ≡ k) ⊎ Memᴰ i (from (suc k) n) → (Memᴰ i (from (suc k) n) → (suc k ≤ i) × (i < suc k + n)) → (k ≤ i) × (i < k + suc n)
    go (inl e) f = (omega arith, omega arith)
    go (inr q) f = let r = f q in let a = r.0 in let b = r.1 in (omega arith, omega arith)

-- `get_net`: the words and level Engine find the same net
pub by_name : (ws : List ℕ) (e : Engine) → Called ws (homes e) → (name : ℕ) → net_by_name ws name ≡ net_word (get_net e name)
unfolding net_by_name get_net net_at
by_name ws e c name = go (find (λ k. eqb (get_or e.nets k no_net).home.name name) (up_to (length e.nets))) refl
  where
    name_at : (k : ℕ) → (get_or (homes e) k no_home).name ≡ (get_or e.nets k no_net).home.name
    name_at k = ap (λ (h : Home). h.name) (get_or-map (λ n. n.home) e.nets k no_net)

    size : length (homes e) ≡ length e.nets
    size = length-map e.nets (λ n. n.home)

    go : (o : Option ℕ) → find (λ k. eqb (get_or e.nets k no_net).home.name name) (up_to (length e.nets)) ≡ o → if_lt name 1024 (get_or ws (64 + name) 0) 0 ≡ net_word o
    go (some k) q =
        let f = find_mem (λ k. eqb (get_or e.nets k no_net).home.name name) (up_to (length e.nets)) k q in
        let r = (mem_row (length e.nets) 0 k f.0).1 in
        let s = size in
        let i : k < length (homes e) = omega arith in
        let n : (get_or (homes e) k no_home).name ≡ name = name_at k ∙ eqb-true (get_or e.nets k no_net).home.name name f.1 in
        let l : name < 1024 = subst (λ (x : ℕ). x < 1024) n (c.low k i) in
        sym (lt_yes name 1024 (get_or ws (64 + name) 0) 0 l refl) ∙ subst (λ (x : ℕ). get_or ws (64 + x) 0 ≡ k + 1) n (c.is k i)
    go none q = via (dec_lt name 1024)
      where
        via : Dec (name < 1024) → if_lt name 1024 (get_or ws (64 + name) 0) 0 ≡ 0
        via (no h) = sym (lt_no name 1024 (get_or ws (64 + name) 0) 0 (omega arith) refl)
        via (yes h) =
            sym (lt_yes name 1024 (get_or ws (64 + name) 0) 0 h refl)
            ∙ c.none name h (λ k i d. let s = size in true≢false (sym (eq-eqb (get_or e.nets k no_net).home.name name (sym (name_at k) ∙ d))
            ∙ find_none (λ k. eqb (get_or e.nets k no_net).home.name name) (up_to (length e.nets)) q k (row_mem (length e.nets) 0 k (omega arith) (omega arith))))
