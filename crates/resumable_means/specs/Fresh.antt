-- Where a run begins, before a net is loaded, the words are tidy.
use Rattle.std.specs.Prelude.{ℕ, ◌+◌, ◌<◌, ◌≤◌, ◌≡◌, refl, Bool, true, false, List, length, get_or, replicate, eqb}
use Rattle.std.proofs.Common.{sym, ap, ◌∙◌, inl, not-suc-le-zero, arith}
use Rattle.std.proofs.lemmas.Bool.{false≢true}
use Rattle.std.proofs.Math.Option.{Option, none, some}
use Rattle.words.specs.Choose.{lt_yes}
use Rattle.net_file.specs.Values.{FlatNet, File}
use Rattle.layout.specs.Layout.{file_length, net_by_name}
use Rattle.definitions.specs.Nets.{Node, holds}
use Rattle.definitions.specs.State.{Pools, net_at}
use Rattle.definitions.specs.Load.{empty}
use Rattle.load_means.specs.Start.{Fresh, getD_same}
use Rattle.image_means.specs.Tidy.{Tidy}

-- no node
none_held : (N k n : ℕ) → holds (replicate N none) k n ≡ false
unfolding holds
none_held N k n = ap (λ (o : Option Node). elim o as (λ _. Bool) [ none ↦ false | some x ↦ eqb x.net k ]) (getD_same N n none)

pub fresh_tidy : (s ws : List ℕ) (p : Pools) (f : File FlatNet) → Fresh ws p f.limit → get_or ws 0 0 ≡ 1 → file_length ws ≡ length s → Tidy s ws (empty p f)
unfolding empty net_at net_by_name
fresh_tidy s ws p f h one long = record {
  mark = one;
  file = long;
  none_dead = h.clear 17 (omega arith) (omega arith);
  by_name = λ k l. absurd (not-suc-le-zero l);
  names = λ n l. inl (sym (lt_yes n 1024 _ _ l (sym (h.clear (64 + n) (omega arith) (omega arith)))));
  free_at = λ k l. absurd (not-suc-le-zero l);
  free_only = λ k n y z. absurd (false≢true (sym (none_held p.nodes k n) ∙ y));
}
