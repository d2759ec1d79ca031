-- The words of a run that holds no nets yet mean the engine with nothing in it: N slots, all vacant and never taken.
use Rattle.std.specs.Prelude.{ℕ, zero, suc, ◌+◌, ◌*◌, ◌<◌, ◌≤◌, ◌≡◌, refl, Bool, false, List, [], length, get_or, replicate}
use Rattle.std.proofs.Common.{sym, ap, ◌∙◌, not-suc-le-zero, arith}
use Rattle.std.proofs.Math.Option.{Option, none, some}
use Rattle.net_file.specs.Values.{Name, FlatNet, File}
use Rattle.definitions.specs.Lists.{or_else}
use Rattle.definitions.specs.Nets.{Node, Graph, arity}
use Rattle.definitions.specs.State.{Pools, entries, waits}
use Rattle.definitions.specs.Load.{empty}
use Rattle.join_laws.specs.Ports.{Frame, frame, frame_of, no_frame, arity_frame}
use Rattle.chains.specs.Pools.{View, Pool}
use Rattle.means.specs.Means.{limit_word, Header, Used, Nodes, Marks, Vacant, Dirty, entries_in, waits_in, Means}

-- as many words as the pools need: the pools, the limit, and zeros from word 6 on
pub record Fresh (ws : List ℕ) (p : Pools) (limit : Option ℕ) : Type 0 where
  pub long : 5216 + 32 * p.nodes + 2 * p.entries + 3 * p.waits ≤ length ws
  pub nodes : get_or ws 1 0 ≡ p.nodes
  pub entries : get_or ws 2 0 ≡ p.entries
  pub waits : get_or ws 3 0 ≡ p.waits
  pub limit_is : get_or ws 5 0 ≡ limit_word limit
  pub clear : (i : ℕ) → 6 ≤ i → i < 5216 + 32 * p.nodes + 2 * p.entries + 3 * p.waits → get_or ws i 0 ≡ 0
  pub few_nodes : p.nodes ≤ 4096
  pub few_entries : p.entries ≤ 16384
  pub few_waits : p.waits ≤ 4096

-- ---- lists of one thing

pub getD_same : {A : Type 0} (k i : ℕ) (x : A) → get_or (replicate k x) i x ≡ x
getD_same zero i x = refl
getD_same (suc k) zero x = refl
getD_same (suc k) (suc i) x = getD_same k i x

pub length_same : {A : Type 0} (k : ℕ) (x : A) → length (replicate k x) ≡ k
length_same zero x = refl
length_same (suc k) x = ap suc (length_same k x)

-- ---- the parts

-- no node anywhere
no_frame_lem : (k n : ℕ) → frame (replicate k none) n ≡ none
unfolding frame
no_frame_lem k n = ap frame_of (getD_same k n none)

no_ports : (k n : ℕ) → arity (replicate k none) n ≡ 0
no_ports k n = arity_frame (replicate k none) n ∙ ap (λ (o : Option Frame). (or_else o no_frame).size) (no_frame_lem k n)

module _ (Named : ℕ → Name → Type 0) (ws : List ℕ) (p : Pools) (f : File FlatNet) (s : Fresh ws p f.limit) where
  header : Header ws p f.limit 0 0
  header = record {
    long = s.long;
    nodes = s.nodes;
    entries = s.entries;
    waits = s.waits;
    limit_is = s.limit_is;
    steps_are = s.clear 6 (omega arith) (omega arith);
    nets_are = s.clear 7 (omega arith) (omega arith);
    few_nodes = s.few_nodes;
    few_entries = s.few_entries;
    few_waits = s.few_waits;
    few_nets = omega arith;
  }

  nodes_are : Nodes Named ws p.nodes (replicate p.nodes none)
  nodes_are = record {
    slot = λ n h. rw (no_frame_lem p.nodes n) (s.clear _ (omega arith) (omega arith));
    port = λ q r. absurd (not-suc-le-zero (rw (no_ports p.nodes q.node) at r));
    few = λ n. rw (no_ports p.nodes n) (omega arith);
    inside = λ n h. no_frame_lem p.nodes n;
  }

  marks_are : Marks ws p.nodes (replicate p.nodes false)
  marks_are = record {
    sized = length_same p.nodes false;
    mark = λ n h. rw (getD_same p.nodes n false) (s.clear _ (omega arith) (omega arith));
  }

  -- nets without places, an empty free chain
  no_pool : {A : Type 0} (v : View A) (x : ℕ → List A) → v.used ≡ 0 → v.first ≡ 0 → Pool v 0 x 0
  no_pool v x u h = record {
    own = λ c. 257;
    places = λ t. [];
    freed = [];
    nets = λ t i. absurd (not-suc-le-zero i);
    free = record { seg = h; once = tt; mine = tt };
    all = sym u;
  }

  pub fresh_means : Means Named ws (empty p f)
  unfolding empty entries waits
  fresh_means = record {
    header = header;
    used = record {
      entries = let a = s.clear 11 (omega arith) (omega arith) in omega arith;
      waits = let a = s.clear 13 (omega arith) (omega arith) in omega arith;
    };
    nodes = nodes_are;
    marks = marks_are;
    vacant = record {
      freed = [];
      never = p.nodes;
      is = rw (s.clear 9 (omega arith) (omega arith)) refl;
      all = let a = s.clear 9 (omega arith) (omega arith) in omega arith;
      seg = s.clear 8 (omega arith) (omega arith);
      inside = tt;
    };
    dirty = record {
      room = omega arith;
      length_is = s.clear 14 (omega arith) (omega arith);
      capacity_is = s.clear 15 (omega arith) (omega arith);
      stale_is = s.clear 16 (omega arith) (omega arith);
      item = λ k i. absurd (not-suc-le-zero i);
    };
    nets = λ k i. absurd (not-suc-le-zero i);
    lists = no_pool (entries_in ws p.nodes) _ (s.clear 11 (omega arith) (omega arith)) (s.clear 10 (omega arith) (omega arith));
    waits_are = no_pool (waits_in ws p.nodes p.entries) _ (s.clear 13 (omega arith) (omega arith)) (s.clear 12 (omega arith) (omega arith));
  }
